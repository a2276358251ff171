use Rattle.cow_forest.proofs.RangeLaws.{sweep-some, sweep-leaf, sweep-room, sweep-on}
use Rattle.cow_forest.proofs.JumpKeptLaws.{jumps-zeroed}
use Rattle.cow_forest.proofs.ranges.zero_rows.Goals as goal

pub zero_shown-requires-clause-page : goal.zero_shown-requires-clause-page
zero_shown-requires-clause-page g c =
    let next = c.in-Some.ensures.next in
    sweep-leaf _ _ _ _ _ _ _ _ _ _ _ _ _ _ c.requires.ready c.requires.order c.requires.within c.loop-row.invariant c.in-Some.row next.order next.below

pub zero_shown-requires-clause-room : goal.zero_shown-requires-clause-room
zero_shown-requires-clause-room g c =
    let next = c.in-Some.ensures.next in
    sweep-room _ _ _ _ _ _ _ _ _ _ _ _ _ _ c.requires.ready c.requires.order c.requires.within c.loop-row.invariant c.in-Some.row next.order next.below

pub zero_shown-requires-clause-jumps : goal.zero_shown-requires-clause-jumps
zero_shown-requires-clause-jumps g c =
    (c.requires.jumps.0, jumps-zeroed _ _ _ _ _ _ _ _ c.requires.ready.exact.forest _ c.requires.ready.visible c.loop-row.invariant.some _ _ c.requires.jumps.1)

pub loop-row-preserved : goal.loop-row-preserved
loop-row-preserved g c =
    sweep-on _ _ _ _ _ _ _ _ _ _ _ _ _ _ c.requires.ready c.requires.order c.requires.within c.loop-row.invariant c.requires.own c.in-Some.row
    c.in-Some.ensures.next _ _ c.zero_shown.ensures.some c.zero_shown.ensures.zero _ c.in-Some.ensures.cost

pub returns-clause-some : goal.returns-clause-some
returns-clause-some g c =
    sweep-some _ _ _ _ _ _ _ _ _ _ _ _ _ _ c.requires.ready c.requires.order c.requires.within c.loop-row.invariant
