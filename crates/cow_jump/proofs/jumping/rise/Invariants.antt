use Rattle.page_list.specs.Lists.{row_count}
use Rattle.cow_jump.proofs.Words.{nodes_of, tree_of, depth}
use Rattle.cow_jump.proofs.JumpLaws.{IsRising}
use Rattle.cow_jump.proofs.jumping.rise.Given as goal

abbrev pub invariant-loop-place : goal.invariant-loop-place
invariant-loop-place g l =
    IsRising (tree_of l.arena l.lists) (row_count l.lists) l.fn.leaf.0 l.fn.page l.fn.steps l.steps l.at.0 l.here

abbrev pub decreases-loop-place : goal.decreases-loop-place
decreases-loop-place g l = depth (nodes_of l.arena) l.arena.lists l.at.0
