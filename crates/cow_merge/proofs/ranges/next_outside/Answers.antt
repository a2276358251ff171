-- A row that belongs to a page that is passed over is not answered, but the least one behind all these.
use Rattle.cow_merge.proofs.Words.{arith}
use Rattle.cow_merge.proofs.PassingLaws.{outside-next, outside-none, outside-behind, outside-ends}
use Rattle.cow_merge.proofs.ranges.next_outside.Goals as goal

pub returns-then-not-is_inside-clause-next : goal.returns-then-not-is_inside-clause-next
returns-then-not-is_inside-clause-next c = outside-next _ _ _ _ _ _ c.in-Some.ensures

pub returns-then-to-shift-clause-none : goal.returns-then-to-shift-clause-none
returns-then-to-shift-clause-none c =
    outside-none _ _ _ _ _ _ c.in-Some.ensures (omega (arith, c.in-Some.ensures.order, c.requires)) (c.is_inside.ensures c.if-not-is_inside.false) (omega arith)

pub returns-clause-next : goal.returns-clause-next
returns-clause-next c =
    outside-behind _ _ _ _ _ _ c.in-Some.ensures (omega (arith, c.in-Some.ensures.order, c.requires)) (c.is_inside.ensures c.if-not-is_inside.false)
    c.next_below-2.result c.next_below-2.ensures

pub returns-clause-none : goal.returns-clause-none
returns-clause-none c =
    outside-ends _ _ _ _ _ _ c.in-Some.ensures (omega (arith, c.in-Some.ensures.order, c.requires)) (c.is_inside.ensures c.if-not-is_inside.false)
    c.next_below-2.result c.next_below-2.ensures
