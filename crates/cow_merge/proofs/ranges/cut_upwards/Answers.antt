-- On each node on the way up, what the pages of the range still show is further up.
use Rattle.cow_merge.proofs.Words.{◌+◌, Some, refl, sym, subst, ◌∙◌, arith, nodes_of, side_of, Reaches, bare_of}
use Rattle.cow_merge.proofs.PassingLaws.{passing-up, passing-top, passing-there, passing-fits, passing-less, up-list}
use Rattle.cow_merge.proofs.PassedLaws.{bare-up}
use Rattle.cow_merge.proofs.ranges.cut_upwards.Goals as goal
use Rattle.cow_merge.proofs.RangeLaws.{lost-same, lost-then}

pub loop-node-init : goal.loop-node-init
loop-node-init c = record {
  from = omega arith;
  here = c.requires.start;
  way = c.requires.way;
  passing = λ spared was. was;
  lost = lost-same;
  up = omega arith;
  kept = refl;
}

pub returns-in_default-clause-sparing : goal.returns-in_default-clause-sparing
returns-in_default-clause-sparing c = λ spared was.
    passing-top (c.loop-node.invariant.passing spared was) (λ parent is q from one two apart. let none = c.in_default.is in absurd (cc))

pub returns-then-end-from-clause-sparing : goal.returns-then-end-from-clause-sparing
returns-then-end-from-clause-sparing c = λ spared was.
    passing-top (c.loop-node.invariant.passing spared was) (λ parent is q from one two apart. absurd (omega arith))

pub returns-then-has_all-clause-sparing : goal.returns-then-has_all-clause-sparing
returns-then-has_all-clause-sparing c = λ spared was.
    passing-top (c.loop-node.invariant.passing spared was) (λ parent is q from one two apart. c.has_all.ensures c.if-has_all.true q from (omega arith) apart)

pub node-above-requires : goal.node-above-requires
node-above-requires c =
    let under = c.requires.passing in
    passing-there (c.loop-node.invariant.passing under.spared under.passing) c.in-Some.parent c.in-Some.is

pub overflow_add-from-in-loop-node : goal.overflow_add-from-in-loop-node
overflow_add-from-in-loop-node c =
    let under = c.requires.passing in
    let fits = passing-fits (c.loop-node.invariant.passing under.spared under.passing) c.in-Some.parent c.node-above.result c.in-Some.is c.node-above.ensures in
    omega arith

pub overflow_add-shift : goal.overflow_add-shift
overflow_add-shift c =
    let under = c.requires.passing in
    let fits = passing-fits (c.loop-node.invariant.passing under.spared under.passing) c.in-Some.parent c.node-above.result c.in-Some.is c.node-above.ensures in
    omega arith

pub overflow_add-to : goal.overflow_add-to
overflow_add-to c =
    let under = c.requires.passing in
    let fits = passing-fits (c.loop-node.invariant.passing under.spared under.passing) c.in-Some.parent c.node-above.result c.in-Some.is c.node-above.ensures in
    omega arith

pub cut_rows-requires-clause-passing : goal.cut_rows-requires-clause-passing
cut_rows-requires-clause-passing c =
    let under = c.requires.passing in
    record {
      spared = under.spared;
      passing = (passing-up (c.loop-node.invariant.passing under.spared under.passing) c.in-Some.parent c.node-above.result
          c.in-Some.is c.node-above.ensures c.min-end.result c.min-end.ensures);
    }

pub cut_rows-requires-clause-way : goal.cut_rows-requires-clause-way
cut_rows-requires-clause-way c =
    let page = c.args.span.first + (c.loop-node.shift + c.loop-node.node.first) in
    subst (λ s. Reaches (bare_of c.args.arena.now) c.args.start.leaf.0 c.args.span.first s c.in-Some.parent.0 page) (sym c.side_of-side.ensures)
    (bare-up c.args.arena.now c.requires.passing.passing.bare.has.exact.forest c.args.start.leaf.0 c.args.span.first c.loop-node.at.0 c.in-Some.parent c.loop-node.node
    c.node-above.result c.loop-node.from page c.loop-node.invariant.here c.in-Some.is c.node-above.ensures (omega arith)
    (let same = c.loop-node.invariant.from in omega arith) (c.loop-node.invariant.way (omega arith)))

pub skip_beside-skip-requires : goal.skip_beside-skip-requires
skip_beside-skip-requires c = record {
  forest = c.requires.passing.passing.bare.has.exact.forest;
  node = c.node-above.ensures;
  way =
      let page = c.args.span.first + (c.loop-node.shift + c.loop-node.node.first) in
      subst (λ s. Reaches (bare_of c.args.arena.now) c.args.start.leaf.0 c.args.span.first s c.in-Some.parent.0 page) (sym c.side_of-side.ensures)
      (bare-up c.args.arena.now c.requires.passing.passing.bare.has.exact.forest c.args.start.leaf.0 c.args.span.first c.loop-node.at.0 c.in-Some.parent c.loop-node.node
      c.node-above.result c.loop-node.from page c.loop-node.invariant.here c.in-Some.is c.node-above.ensures (omega arith)
      (let same = c.loop-node.invariant.from in omega arith) (c.loop-node.invariant.way (omega arith)));
  range =
      let under = c.requires.passing in
      let fits = passing-fits (c.loop-node.invariant.passing under.spared under.passing) c.in-Some.parent c.node-above.result c.in-Some.is c.node-above.ensures in
      omega (arith, c.loop-node.invariant.from);
}

pub loop-node-smaller : goal.loop-node-smaller
loop-node-smaller c =
    let under = c.requires.passing in
    passing-less (c.loop-node.invariant.passing under.spared under.passing) c.in-Some.parent c.node-above.result c.in-Some.is c.node-above.ensures

pub loop-node-preserved : goal.loop-node-preserved
loop-node-preserved c =
    let under = c.requires.passing in
    let less = passing-less (c.loop-node.invariant.passing under.spared under.passing) c.in-Some.parent c.node-above.result c.in-Some.is c.node-above.ensures in
    record {
      from = omega (arith, c.loop-node.invariant.from);
      here = c.node-above.ensures;
      way = λ less.
          let page = c.loop-node.from + c.loop-node.node.first in
          record {
            side = Some (side_of c.node-above.result c.loop-node.at.0);
            way = bare-up c.args.arena.now c.requires.passing.passing.bare.has.exact.forest c.args.start.leaf.0 c.args.span.first c.loop-node.at.0 c.in-Some.parent
                c.loop-node.node c.node-above.result c.loop-node.from page c.loop-node.invariant.here c.in-Some.is c.node-above.ensures (omega arith) (omega arith)
                (c.loop-node.invariant.way (omega arith));
          };
      passing = λ spared was. c.skip_beside-skip.ensures _ spared (c.cut_rows.ensures.passing spared
          (passing-up (c.loop-node.invariant.passing spared was) c.in-Some.parent c.node-above.result c.in-Some.is
          c.node-above.ensures c.min-end.result c.min-end.ensures));
      lost = lost-then c.loop-node.invariant.lost c.cut_rows.ensures.lost;
      up = omega (arith, c.loop-node.invariant.up);
      kept =
          c.cut_rows.ensures.others c.args.start.node.list.0
          (up-list (nodes_of c.args.arena.now) c.args.arena.now.lists under.passing.bare.has.exact.forest c.args.start.at.0 c.in-Some.parent.0 c.args.start.node
          c.node-above.result c.requires.start c.node-above.ensures (omega (arith, c.loop-node.invariant.up)))
          ∙ c.loop-node.invariant.kept;
    }
