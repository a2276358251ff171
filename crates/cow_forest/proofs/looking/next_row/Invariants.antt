use Rattle.cow_forest.proofs.Words.{nodes_of, tree_of, nodes_up}
use Rattle.cow_forest.proofs.NextLaws.{IsLookingUp}
use Rattle.cow_forest.proofs.looking.next_row.Given as goal

abbrev pub invariant-loop-here : goal.invariant-loop-here
invariant-loop-here l = IsLookingUp (tree_of l.arena l.lists) l.fn.leaf.0 l.from l.best l.at l.here l.to

abbrev pub decreases-loop-here : goal.decreases-loop-here
decreases-loop-here l = nodes_up (nodes_of l.arena) l.arena.lists l.at.parent
