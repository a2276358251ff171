use Rattle.cow_split.proofs.Words.{nodes_of, link_to, tree_of, IsAhead, weight_from, hidden_at}
use Rattle.cow_split.proofs.existing.any_below.Given as goal

abbrev pub invariant-loop-next : goal.invariant-loop-next
invariant-loop-next l =
    IsAhead (tree_of l.arena l.lists) (hidden_at (tree_of l.arena l.lists) l.except) l.next (hidden_at (tree_of l.arena l.lists) l.except (link_to l.fn.start.0) l.fn.page)

abbrev pub decreases-loop-next : goal.decreases-loop-next
decreases-loop-next l = weight_from (nodes_of l.arena) l.arena.lists l.next
