use Rattle.cow_split.proofs.Words.{nodes_of, tree_of, depth}
use Rattle.cow_split.proofs.ClimbLaws.{IsClimbing}
use Rattle.cow_split.proofs.climbing.holder_above.Given as goal

abbrev pub invariant-loop-node : goal.invariant-loop-node
invariant-loop-node l = IsClimbing (tree_of l.arena l.lists) l.fn.leaf.0 l.fn.page l.at.0 l.here l.node

abbrev pub decreases-loop-node : goal.decreases-loop-node
decreases-loop-node l = depth (nodes_of l.arena) l.arena.lists l.at.0
