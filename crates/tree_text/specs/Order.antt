-- In which order the nodes of a clone tree are told: tree by tree, and in a tree each node before those below it, left ones first.
use Rattle.std.specs.Prelude.{◌↔◌, ℕ, zero, suc, eqb, List, [], ◌∷◌, ◌++◌, Option, None, Some, IsSome}
use Rattle.std.specs.List.{Contains, IsDistinct}
use Rattle.cow_arena.specs.declared.node.NodeId.{NodeId}
use Rattle.cow_arena.specs.declared.node.Node.{Node}
use Rattle.cow_arena.specs.declared.node.Side.{Side}
use Rattle.cow_arena.specs.declared.node.Side.TheVariants as side
use Rattle.cow_arena.specs.Nodes.{Nodes, nodes_of, link_to, parent_node_in, side_in}
use Rattle.cow_forest.specs.Tables.{node_in}
use Rattle.cow_forest.specs.Store.{Forest}

-- ---- upwards

-- where a node stands: its parent, and the side of the parent on which it is
abbrev pub Place : Type 0
Place = NodeId × Side

abbrev pub joined_place : Option NodeId → Option Side → Option Place
joined_place None side = None
joined_place (Some parent) None = None
joined_place (Some parent) (Some side) = Some (parent, side)

-- the place of node k. None if it has no parent
abbrev pub place_below_parent : Nodes → ℕ → Option Place
place_below_parent nodes k = joined_place (parent_node_in (nodes k)) (side_in nodes k)

module _ {A : Type 0} (nodes : Nodes) (at_root : ℕ → A) (step : Place → A → A) where
  abbrev pub climbed : (ℕ → A) → ℕ → Option Place → A
  climbed further k None = at_root k
  climbed further k (Some place) = step place (further place.0.0)

  -- What comes of going up from node k, over n nodes at most: at the last node it is `at_root`, and below each node what `step`
  -- makes of what comes of it from there.
  unfoldable pub climb : ℕ → ℕ → A
  climb zero k = at_root k
  climb (suc n) k = climbed (climb n) k (place_below_parent nodes k)

abbrev pub if_left : Side → Option NodeId → Option NodeId
if_left side.Left root = root
if_left side.Right root = None

-- The root of the tree whose leaf furthest to the left is node k. None if it is another leaf. No way up has more nodes than there
-- are lists.
abbrev pub root_from : Nodes → (lists k : ℕ) → Option NodeId
root_from nodes lists k = climb nodes link_to (λ place root. if_left place.1 root) lists k

-- ---- downwards

module _ (nodes : Nodes) where
  abbrev pub with_both_below : (Option NodeId → List ℕ) → ℕ → Option Node → List ℕ
  with_both_below further k None = []
  with_both_below further k (Some node) = k ∷ (further node.left ++ further node.right)

  -- the node to which a link leads, and all below it, in at most n steps down
  unfoldable pub nodes_over : ℕ → Option NodeId → List ℕ
  nodes_over zero at = []
  nodes_over (suc n) None = []
  nodes_over (suc n) (Some at) = with_both_below (nodes_over n) at.0 (nodes at.0)

-- the node to which a link leads, and all below it
abbrev pub nodes_below : Nodes → (lists : ℕ) → Option NodeId → List ℕ
nodes_below nodes lists at = nodes_over nodes lists at

-- ---- all trees

abbrev pub root_over : Nodes → (lists : ℕ) → Option NodeId → Option NodeId
root_over nodes lists None = None
root_over nodes lists (Some at) = root_from nodes lists at.0

-- the root of the tree whose leaf furthest to the left is the node of the VMO v
abbrev pub root_of : Forest → ℕ → Option NodeId
root_of f v = root_over (nodes_of f.arena) f.arena.lists (node_in f.nodes v)

-- the nodes of that tree
abbrev pub tree_nodes : Forest → ℕ → List ℕ
tree_nodes f v = nodes_below (nodes_of f.arena) f.arena.lists (root_of f v)

-- the nodes of the trees of n koids from v on
unfoldable pub nodes_from : Forest → (n v : ℕ) → List ℕ
nodes_from f zero v = []
nodes_from f (suc n) v = tree_nodes f v ++ nodes_from f n (suc v)

-- all nodes
abbrev pub all_nodes : Forest → List ℕ
all_nodes f = nodes_from f f.next 0

-- the list has each node, and nothing else, and none of them twice
pub record HasEachNodeOnce (f : Forest) (list : List ℕ) : Type 0 where
  pub each : (k : ℕ) → Contains list k ↔ IsSome (nodes_of f.arena k)
  pub once : IsDistinct eqb list
