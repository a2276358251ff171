use Rattle.cow_split.proofs.Words.{ℕ, ◌+◌, ◌-◌, ◌≤◌, IsSome, nodes_of, Slots, tree_with, depth, ComesTo}
use Rattle.cow_split.proofs.search.page_seen.Given as goal

abbrev pub invariant-loop-at : goal.invariant-loop-at
invariant-loop-at l = record {
  there : IsSome (nodes_of l.arena l.at.0);
  less : l.own ≤ l.page;
  comes : (slots : Slots) (p : ℕ) → ComesTo (tree_with (nodes_of l.arena) l.arena.lists slots) l.fn.leaf.0 p l.node.0 l.page →
      ComesTo (tree_with (nodes_of l.arena) l.arena.lists slots) l.at.0 (p + (l.page - l.own)) l.node.0 l.page;
}

abbrev pub decreases-loop-at : goal.decreases-loop-at
decreases-loop-at l = depth (nodes_of l.arena) l.arena.lists l.at.0
