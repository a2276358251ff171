-- How far a walk over the nodes of a tree has come.
use Rattle.std.specs.Prelude.{ℕ, List, [], ◌++◌, Option, None, Some}
use Rattle.cow_arena.specs.declared.node.NodeId.{NodeId}
use Rattle.cow_arena.specs.declared.node.Node.{Node}
use Rattle.cow_arena.specs.declared.node.Side.{Side}
use Rattle.cow_arena.specs.declared.node.Side.TheVariants as side
use Rattle.cow_arena.specs.Nodes.{Nodes, link_to}
use Rattle.tree_text.specs.Order.{climb, nodes_below}

abbrev pub right_in : Option Node → Option NodeId
right_in None = None
right_in (Some node) = node.right

-- what comes after a child on this side: the right child after the left one, and then what comes after the parent
abbrev pub after_child : Nodes → (lists : ℕ) → ℕ → Side → List ℕ → List ℕ
after_child nodes lists h side.Left behind = nodes_below nodes lists (right_in (nodes h)) ++ behind
after_child nodes lists h side.Right behind = behind

-- the nodes of the tree that come after node k and all below it
abbrev pub nodes_after : Nodes → (lists k : ℕ) → List ℕ
nodes_after nodes lists k = climb nodes (λ j. []) (λ place behind. after_child nodes lists place.0.0 place.1 behind) lists k

-- the nodes from node k on
abbrev pub nodes_ahead : Nodes → (lists k : ℕ) → List ℕ
nodes_ahead nodes lists k = nodes_below nodes lists (link_to k) ++ nodes_after nodes lists k

abbrev pub ahead_from : Nodes → (lists : ℕ) → Option NodeId → List ℕ
ahead_from nodes lists None = []
ahead_from nodes lists (Some at) = nodes_ahead nodes lists at.0
