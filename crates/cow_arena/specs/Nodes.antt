-- The nodes of the clone tree under their numbers, and how one leads to another.
use Rattle.std.specs.Prelude.{◌≡◌, ℕ, Bool, ◌==◌, if◌then◌else◌, Option, None, Some, IsSome}
use Rattle.std.specs.Option.{option_map}
use Rattle.slab.specs.Slab.{Slab, get}
use Rattle.vm_base.specs.Entries.{passes}
use Rattle.cow_arena.specs.declared.node.NodeId.{NodeId}
use Rattle.cow_arena.specs.declared.node.Node.{Node}
use Rattle.cow_arena.specs.declared.node.Side.{Side}
use Rattle.cow_arena.specs.declared.node.Side.TheVariants as side

-- the node of each number, if there is one
abbrev pub Nodes : Type 0
Nodes = ℕ → Option Node

-- the nodes in their slab, and how many page lists were given to nodes so far
pub record Arena : Type 0 where
  pub slots : Slab Node
  pub lists : ℕ

abbrev pub nodes_of : Arena → Nodes
nodes_of a = get a.slots

-- the link leads to node k
abbrev pub leads_to : Option NodeId → ℕ → Bool
leads_to link k = passes (λ (at : NodeId). at.0 == k) link

-- a link to node k
abbrev pub link_to : ℕ → Option NodeId
link_to k = Some (record { 0 = k })

-- node k has a koid: it is the node of a VMO
pub record IsVisible (nodes : Nodes) (k : ℕ) (node : Node) : Type 0 where
  pub at : nodes k ≡ Some node
  pub koid : IsSome node.koid

abbrev pub other_side : Side → Side
other_side side.Left = side.Right
other_side side.Right = side.Left

-- the child of a node on this side
abbrev pub child_on : Node → Side → Option NodeId
child_on node side.Left = node.left
child_on node side.Right = node.right

-- the side on which the child k of this node stands
abbrev pub side_of : Node → ℕ → Side
side_of parent k = if leads_to parent.left k then side.Left else side.Right

abbrev pub parent_node_in : Option Node → Option NodeId
parent_node_in None = None
parent_node_in (Some node) = node.parent

-- the parent of node k, if it has one
abbrev pub node_above : Nodes → ℕ → Option Node
node_above nodes k = node_at nodes (parent_node_in (nodes k))
  where
    node_at : Nodes → Option NodeId → Option Node
    node_at nodes None = None
    node_at nodes (Some parent) = nodes parent.0

-- which child of its parent node k is. None if it has no parent
abbrev pub side_in : Nodes → ℕ → Option Side
side_in nodes k = option_map (λ (parent : Node). side_of parent k) (node_above nodes k)

-- the other child of the parent of node k. None if it has no parent
abbrev pub sibling_in : Nodes → ℕ → Option NodeId
sibling_in nodes k = sibling_below k (node_above nodes k)
  where
    sibling_below : ℕ → Option Node → Option NodeId
    sibling_below k None = None
    sibling_below k (Some parent) = child_on parent (other_side (side_of parent k))

-- node h is the parent of node k, and node s is the other child of h; these are the three nodes
pub record AreFamily (nodes : Nodes) (k h s : ℕ) (node parent sibling : Node) : Type 0 where
  pub at : nodes k ≡ Some node
  pub parent_is : node.parent ≡ link_to h
  pub parent_at : nodes h ≡ Some parent
  pub sibling_is : sibling_in nodes k ≡ link_to s
  pub sibling_at : nodes s ≡ Some sibling
