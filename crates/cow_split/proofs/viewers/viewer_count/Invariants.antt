use Rattle.cow_split.proofs.Words.{None, nodes_of, tree_of, viewers_from, HasCounted, weight_from}
use Rattle.cow_split.proofs.viewers.viewer_count.Given as goal

abbrev pub invariant-loop-after : goal.invariant-loop-after
invariant-loop-after l = HasCounted (tree_of l.arena l.lists) None (viewers_from (tree_of l.arena l.lists) None l.fn.side l.fn.node.0 l.fn.page) l.count l.from

abbrev pub decreases-loop-after : goal.decreases-loop-after
decreases-loop-after l = weight_from (nodes_of l.arena) l.arena.lists l.from
