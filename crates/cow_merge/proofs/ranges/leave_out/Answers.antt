-- The rows of the parent are passed, and then those further up.
use Rattle.cow_merge.proofs.Words.{◌+◌, ◌≤◌, None, refl, sym, ap, subst, ◌∙◌, arith, is_some, some_same, Node, Reaches, bare_of, no_pages}
use Rattle.cow_merge.proofs.Words.{IsOnItsWayUp}
use Rattle.cow_merge.proofs.RangeLaws.{visible-of, lost-then}
use Rattle.cow_merge.proofs.PassingLaws.{no-parent, passing-start, passing-parent, passing-top, sparing-none}
use Rattle.cow_merge.proofs.CloseLaws.{root-of, family-of}
use Rattle.cow_merge.proofs.PassedLaws.{bare-up}
use Rattle.cow_merge.proofs.JumpingLaws.{jumps-left}
use Rattle.cow_merge.proofs.ranges.leave_out.Goals as goal

pub returns-in_default-clause-left : goal.returns-in_default-clause-left
returns-in_default-clause-left c = λ node at.
    sparing-none at (passing-top (passing-start c.drop_rows.ensures.bare c.node-node.ensures)
    (λ parent is q from one two apart. no-parent c.node-node.result.parent parent
    (root-of c.node-node.result c.sibling.result (c.sibling.ensures.root c.node-node.result c.node-node.ensures) c.in_default.is-1) is))

pub returns-in_default-2-clause-left : goal.returns-in_default-2-clause-left
returns-in_default-2-clause-left c = λ node at.
    sparing-none at (passing-top (passing-start c.drop_rows.ensures.bare c.node-node.ensures)
    (λ parent is q from one two apart. absurd (let root = c.sibling.ensures.root c.node-node.result c.node-node.ensures in cc)))

pub returns-then-node-first-clause-left : goal.returns-then-node-first-clause-left
returns-then-node-first-clause-left c = λ node at.
    sparing-none at (passing-top (passing-start c.drop_rows.ensures.bare c.node-node.ensures)
    (λ parent is q from one two apart. absurd (omega arith)))

pub node-above-requires : goal.node-above-requires
node-above-requires c =
    let visible = visible-of c.args.arena.now c.requires.leaf c.node-node.ensures in
    let of = family-of c.args.arena.now c.requires.exact.forest visible c.in-Some-Some.is-0 (sym c.in-Some-Some.is-1 ∙ c.sibling.ensures.sibling) in
    ap is_some of.family.parent_at

pub overflow_add-to : goal.overflow_add-to
overflow_add-to c =
    let below = c.requires.exact.forest.by.below c.in-Some-Some.hidden.0 c.args.leaf.0 c.node-node.result c.node-node.ensures c.in-Some-Some.is-0 in
    let fits = subst (λ (n : Node). c.node-node.result.first + c.node-node.result.seen ≤ n.count) (some_same (sym below.at ∙ c.node-above.ensures)) below.window in
    omega arith

pub cut_rows-requires-clause-passing : goal.cut_rows-requires-clause-passing
cut_rows-requires-clause-passing c = record {
  spared = None;
  passing = (passing-parent c.drop_rows.ensures.bare c.node-node.ensures c.in-Some-Some.is-0 c.node-above.ensures);
}

pub cut_rows-requires-clause-way : goal.cut_rows-requires-clause-way
cut_rows-requires-clause-way c =
    subst (λ s. Reaches (bare_of c.args.arena.now) c.args.leaf.0 c.args.first s c.in-Some-Some.hidden.0 (c.args.first + c.node-node.result.first))
    (sym c.side_of-side.ensures)
    (bare-up c.args.arena.now c.requires.exact.forest c.args.leaf.0 c.args.first c.args.leaf.0 c.in-Some-Some.hidden c.node-node.result c.node-above.result
    c.args.first (c.args.first + c.node-node.result.first) c.node-node.ensures c.in-Some-Some.is-0 c.node-above.ensures (omega arith) (omega arith)
    (record { side = None; way = (refl, refl) }))

pub leave_out_further-requires : goal.leave_out_further-requires
leave_out_further-requires c = record {
  passing = λ above at.
      subst (λ (n : Node). IsOnItsWayUp c.args.arena.now c.cut_rows.new.lists c.cut_rows.new.frames c.args.leaf.0 c.args.first no_pages n c.node-node.result.first
      (c.node-node.result.first + c.node-node.result.seen) (c.node-node.result.first + c.node-node.result.seen)) (some_same (sym c.node-above.ensures ∙ at)) (record {
        spared = None;
        passing = (c.cut_rows.ensures.passing None
            (passing-parent c.drop_rows.ensures.bare c.node-node.ensures c.in-Some-Some.is-0 c.node-above.ensures));
      });
  family =
      family-of c.args.arena.now c.requires.exact.forest (visible-of c.args.arena.now c.requires.leaf c.node-node.ensures) c.in-Some-Some.is-0 (sym c.in-Some-Some.is-1 ∙ c.sibling.ensures.sibling);
  range =
      let below = c.requires.exact.forest.by.below c.in-Some-Some.hidden.0 c.args.leaf.0 c.node-node.result c.node-node.ensures c.in-Some-Some.is-0 in
      let fits = subst (λ (n : Node). c.node-node.result.first + c.node-node.result.seen ≤ n.count) (some_same (sym below.at ∙ c.node-above.ensures)) below.window in
      omega arith;
  base = λ node at. ap (λ (n : Node). n.first) (some_same (sym c.node-node.ensures ∙ at));
  end = λ node at.
      subst (λ (n : Node). c.node-node.result.first + c.node-node.result.seen ≤ c.node-node.result.first + n.seen) (some_same (sym c.node-node.ensures ∙ at)) (omega arith);
  jumps =
      jumps-left (c.cut_rows.ensures.passing None (passing-parent c.drop_rows.ensures.bare c.node-node.ensures c.in-Some-Some.is-0 c.node-above.ensures)).bare.has
      (lost-then c.drop_rows.ensures.lost c.cut_rows.ensures.lost)
      _ c.requires.jumps;
}

pub returns-clause-left : goal.returns-clause-left
returns-clause-left c = λ node at.
    sparing-none at (c.leave_out_further.ensures.sparing None c.node-above.result c.node-above.ensures (c.cut_rows.ensures.passing None
    (passing-parent c.drop_rows.ensures.bare c.node-node.ensures c.in-Some-Some.is-0 c.node-above.ensures)))

-- ---- the rows that are left stood there

pub returns-clause-lost : goal.returns-clause-lost
returns-clause-lost c =
    lost-then (lost-then c.drop_rows.ensures.lost c.cut_rows.ensures.lost) c.leave_out_further.ensures.lost

-- ---- the jumps
