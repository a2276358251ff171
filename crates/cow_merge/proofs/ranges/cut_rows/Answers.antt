-- Each row that is passed has cut off the page that came to it.
use Rattle.cow_merge.proofs.Words.{◌-◌, refl, sym, ◌∙◌, arith}
use Rattle.cow_merge.proofs.PassingLaws.{passing-bare, passing-cut, passing-end, passing-lost}
use Rattle.cow_merge.proofs.PassedLaws.{bare-only, bare-hidden}
use Rattle.cow_merge.proofs.ranges.cut_rows.Goals as goal
use Rattle.cow_merge.proofs.RangeLaws.{lost-same, lost-then}

pub loop-row-init : goal.loop-row-init
loop-row-init c = record {
  from = omega arith;
  below = omega arith;
  passing = λ spared was. was;
  lost = lost-same;
  others = λ l apart. refl;
}

pub returns-clause-passing : goal.returns-clause-passing
returns-clause-passing c = λ spared was.
    passing-end (c.loop-row.invariant.passing spared was) c.in_default.ensures.none

pub cut_off-requires : goal.cut_off-requires
cut_off-requires c = record {
  exact =
      let under = c.requires.passing in
      (c.loop-row.invariant.passing under.spared under.passing).bare.has;
  bare =
      let next = c.in-Some.ensures.next in
      let under = c.requires.passing in
      passing-bare (c.loop-row.invariant.passing under.spared under.passing) (c.in-Some.row - c.args.span.shift) (omega (arith, next.least));
  row = record { node = c.args.arrival.node; at = c.requires.node; row = sym c.in-Some-find.ensures };
  hidden =
      bare-hidden c.args.arena.now c.requires.passing.passing.bare.has.exact.forest c.args.arrival.leaf.0 c.args.span.first c.args.span.shift c.args.arrival.at.0 c.args.arrival.side c.requires.way;
  only =
      let next = c.in-Some.ensures.next in
      bare-only c.args.arena.now c.requires.passing.passing.bare.has.exact.forest c.args.arrival.leaf.0 c.args.span.first c.args.span.shift c.args.arrival.at.0 c.args.arrival.side c.requires.way
      c.loop-row.lists c.in-Some.row (omega (arith, next.least));
}

pub loop-row-smaller : goal.loop-row-smaller
loop-row-smaller c = let next = c.in-Some.ensures.next in omega (arith, next.least, next.below)

pub loop-row-preserved : goal.loop-row-preserved
loop-row-preserved c =
    let next = c.in-Some.ensures.next in
    record {
      from = omega (arith, next.least);
      below = omega (arith, next.below);
      passing = λ spared was.
          let it = c.loop-row.invariant.passing spared was in
          passing-cut _ _ it c.loop-row.invariant.from next c.args.arrival.at.0
          (c.cut_off.ensures.passed it.bare.has.out it.bare.has.exact it.bare.has.only) c.requires.node;
      lost =
          let under = c.requires.passing in
          let it = c.loop-row.invariant.passing under.spared under.passing in
          lost-then c.loop-row.invariant.lost (passing-lost _ _ it c.loop-row.invariant.from next c.args.arrival.at.0
          (c.cut_off.ensures.passed it.bare.has.out it.bare.has.exact it.bare.has.only));
      others = λ l apart. c.cut_off.ensures.others c.args.arrival.node c.requires.node l apart ∙ c.loop-row.invariant.others l apart;
    }
