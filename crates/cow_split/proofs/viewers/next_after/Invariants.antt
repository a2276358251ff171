use Rattle.cow_split.proofs.Words.{ℕ, ◌≤◌, List, nodes_of, Slots, tree_with, depth, FoundBelow, IsPassed, weight_after}
use Rattle.cow_split.proofs.viewers.next_after.Given as goal

abbrev pub invariant-loop-at : goal.invariant-loop-at
invariant-loop-at l = record {
  passed : (slots : Slots) (below : FoundBelow) (after : List ℕ) →
      IsPassed (tree_with (nodes_of l.arena) l.arena.lists slots) below l.fn.passed.start.0 l.fn.passed.at.0 l.fn.passed.page after →
      IsPassed (tree_with (nodes_of l.arena) l.arena.lists slots) below l.fn.passed.start.0 l.at.0 l.here after;
  less : weight_after (nodes_of l.arena) l.arena.lists l.at.0 ≤ weight_after (nodes_of l.arena) l.arena.lists l.fn.passed.at.0;
}

abbrev pub decreases-loop-at : goal.decreases-loop-at
decreases-loop-at l = depth (nodes_of l.arena) l.arena.lists l.at.0
