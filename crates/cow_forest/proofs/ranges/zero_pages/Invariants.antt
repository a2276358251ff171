use Rattle.cow_forest.proofs.Words.{nodes_of, nodes_up}
use Rattle.cow_forest.proofs.RisingLaws.{IsRising}
use Rattle.cow_forest.proofs.ranges.zero_pages.Given as goal

abbrev pub invariant-loop-here : goal.invariant-loop-here
invariant-loop-here g l =
    IsRising l.arena l.fn.lists l.lists l.fn.frames l.frames l.leaf.0 l.first l.end l.fn.steps l.steps l.at l.here l.to

abbrev pub decreases-loop-here : goal.decreases-loop-here
decreases-loop-here g l = nodes_up (nodes_of l.arena) l.arena.lists l.at.parent
