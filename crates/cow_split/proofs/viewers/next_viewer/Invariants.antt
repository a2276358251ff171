use Rattle.cow_split.proofs.Words.{ℕ, ◌≤◌, List, None, nodes_of, tree_of, Finds, weight_from}
use Rattle.cow_split.proofs.viewers.next_viewer.Given as goal

abbrev pub invariant-loop-next : goal.invariant-loop-next
invariant-loop-next l = record {
  finds : (ahead : List ℕ) → Finds (tree_of l.arena l.lists) None l.fn.from ahead → Finds (tree_of l.arena l.lists) None l.next ahead;
  less : weight_from (nodes_of l.arena) l.arena.lists l.next ≤ weight_from (nodes_of l.arena) l.arena.lists l.fn.from;
}

abbrev pub decreases-loop-next : goal.decreases-loop-next
decreases-loop-next l = weight_from (nodes_of l.arena) l.arena.lists l.next
