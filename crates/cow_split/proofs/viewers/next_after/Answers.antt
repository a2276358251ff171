use Rattle.cow_split.proofs.Words.{sym, arith}
use Rattle.cow_split.proofs.CostLaws.{parent-there, depth-up}
use Rattle.cow_split.proofs.WayLaws.{way-some, page-fits, passed-start, passed-parent, passed-left, passed-pair, passed-right}
use Rattle.cow_split.proofs.WeightLaws.{less-left, same-right, less-after}
use Rattle.cow_split.proofs.viewers.next_after.Goals as goal

pub node-requires : goal.node-requires
node-requires c =
    let some = c.requires.passed in
    way-some _ c.requires.forest some.below _ _ _ _ (c.loop-at.invariant.passed some.slots some.below some.after some.passed)

pub unreachable-requires : goal.unreachable-requires
unreachable-requires c =
    let some = c.requires.passed in
    passed-parent _ c.requires.forest some.below _ _ _ _ _ (c.loop-at.invariant.passed some.slots some.below some.after some.passed)
    c.loop-at-test.true c.node.ensures c.in_default.is

pub node-above-requires : goal.node-above-requires
node-above-requires c = parent-there _ _ c.requires.forest _ _ _ c.node.ensures c.in-Some.is

pub unreachable-requires-in_default-right : goal.unreachable-requires-in_default-right
unreachable-requires-in_default-right c =
    let some = c.requires.passed in
    passed-pair _ c.requires.forest some.below _ _ _ _ (c.loop-at.invariant.passed some.slots some.below some.after some.passed)
    c.loop-at-test.true _ _ _ c.node.ensures c.in-Some.is c.node-above.ensures (sym c.in-Left.ensures) c.in_default-right.is

pub returns-in-Left-clause-next : goal.returns-in-Left-clause-next
returns-in-Left-clause-next c slots below after passed =
    passed-left _ c.requires.forest below _ _ _ _ (c.loop-at.invariant.passed slots below after passed)
    c.loop-at-test.true _ _ _ c.node.ensures c.in-Some.is c.node-above.ensures _ (sym c.in-Left.ensures) c.in-Some-right.is

pub returns-in-Left-clause-less : goal.returns-in-Left-clause-less
returns-in-Left-clause-less c =
    let on = less-left _ _ c.requires.forest _ _ _ _ c.node.ensures c.in-Some.is c.node-above.ensures _ (sym c.in-Left.ensures) c.in-Some-right.is in
    less-after _ _ c.requires.forest _ _ (let less = c.loop-at.invariant.less in omega arith)

pub overflow_add-here : goal.overflow_add-here
overflow_add-here c =
    let some = c.requires.passed in
    let up = passed-right _ c.requires.forest some.below _ _ _ _ (c.loop-at.invariant.passed some.slots some.below some.after some.passed)
    c.loop-at-test.true _ _ _ c.node.ensures c.in-Some.is c.node-above.ensures (sym c.in_default-side_of.ensures) in
    omega (arith, page-fits _ c.requires.forest some.below _ _ _ _ up)

pub loop-at-smaller : goal.loop-at-smaller
loop-at-smaller c = let up = depth-up _ _ c.requires.forest _ _ _ c.node.ensures c.in-Some.is in omega arith

pub loop-at-preserved : goal.loop-at-preserved
loop-at-preserved c = record {
  passed = λ slots below after passed.
      passed-right _ c.requires.forest below _ _ _ _ (c.loop-at.invariant.passed slots below after passed)
      c.loop-at-test.true _ _ _ c.node.ensures c.in-Some.is c.node-above.ensures (sym c.in_default-side_of.ensures);
  less =
      let same = same-right _ _ c.requires.forest _ _ _ _ c.node.ensures c.in-Some.is c.node-above.ensures (sym c.in_default-side_of.ensures) in
      let less = c.loop-at.invariant.less in
      omega arith;
}

pub returns-clause-next : goal.returns-clause-next
returns-clause-next c slots below after passed =
    passed-start _ c.requires.forest below _ _ _ _ (c.loop-at.invariant.passed slots below after passed) c.loop-at-test.false

pub returns-clause-less : goal.returns-clause-less
returns-clause-less c = less-after _ _ c.requires.forest c.args.passed.at.0 0 (omega arith)
