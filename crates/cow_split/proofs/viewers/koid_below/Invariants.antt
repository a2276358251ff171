use Rattle.cow_split.proofs.Words.{None, nodes_of, tree_of, viewers_from, HasNoneLess, weight_from}
use Rattle.cow_split.proofs.viewers.koid_below.Given as goal

abbrev pub invariant-loop-viewer : goal.invariant-loop-viewer
invariant-loop-viewer l = HasNoneLess (tree_of l.arena l.lists) None (viewers_from (tree_of l.arena l.lists) None l.fn.side l.fn.node.0 l.fn.page) l.koid l.from

abbrev pub decreases-loop-viewer : goal.decreases-loop-viewer
decreases-loop-viewer l = weight_from (nodes_of l.arena) l.arena.lists l.from
