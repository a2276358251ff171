-- The tables that lead into the tree: from numbers to nodes.
use Rattle.std.specs.Prelude.{◌≡◌, ◌≢◌, ◌⊎◌, ℕ, ◌%◌, ◌==◌, cond, List, Option, None, Some, slice_index_or}
use Rattle.std.specs.Option.{option_or}
use Rattle.std.specs.Map.{lookup}
use Rattle.cow_arena.specs.declared.node.Node.{Node}
use Rattle.cow_arena.specs.declared.node.NodeId.{NodeId}
use Rattle.cow_arena.specs.Nodes.{Nodes, link_to, sibling_in}
use Rattle.cow_arena.specs.Forest.{IsChild}
use Rattle.cow_forest.specs.declared.node_table.TheConstants.{PLACES}

-- the entries in the array, those in the map, and how many more numbers can be entered with no memory from the host
pub record NodeEntries : Type 0 where
  pub recent : List (Option (ℕ × NodeId))
  pub displaced : List (ℕ × NodeId)
  pub spare : ℕ

-- the node of the number n, if this entry is the number's
abbrev pub own_node : Option (ℕ × NodeId) → ℕ → Option NodeId
own_node None n = None
own_node (Some e) n = cond (n == e.0) (Some e.1) None

-- the entry, unless it is the number's own
abbrev pub unless_own : Option (ℕ × NodeId) → ℕ → Option (ℕ × NodeId)
unless_own None n = None
unless_own (Some e) n = cond (n == e.0) None (Some e)

-- the node of the number n in the map
unfoldable pub displaced_in : List (ℕ × NodeId) → ℕ → Option NodeId
displaced_in entries n = lookup (λ (number : ℕ). n == number) entries

-- the node of a number: in its entry in the array, at the number's place, or if there is none, in the map
unfoldable pub node_in : NodeEntries → ℕ → Option NodeId
node_in e n = option_or (own_node (slice_index_or e.recent (n % PLACES) None) n) (displaced_in e.displaced n)

-- each node but v and its parent owns the list that it owned
pub record IsDisowned (nodes : Nodes) (old new : ℕ → Option NodeId) (v : ℕ) : Type 0 where
  pub kept : (k : ℕ) (node : Node) → nodes k ≡ Some node → k ≢ v → (IsChild nodes k v → ⊥) → new node.list.0 ≡ old node.list.0

-- node s is the other child of the parent of node v; `above` is the list of the parent, which now leads to s, and `own`
-- is the list of s
pub record AreMerged (nodes : Nodes) (now : ℕ → Option NodeId) (v s above own : ℕ) : Type 0 where
  pub h : ℕ
  pub child : IsChild nodes h v
  pub parent : Node
  pub parent_at : nodes h ≡ Some parent
  pub above_is : parent.list.0 ≡ above
  pub beside : sibling_in nodes v ≡ link_to s
  pub sibling : Node
  pub sibling_at : nodes s ≡ Some sibling
  pub own_is : sibling.list.0 ≡ own
  pub leads : now above ≡ link_to s

-- node s has one of these two lists, and no other node has either
pub record HasOneOf (nodes : Nodes) (s one other : ℕ) : Type 0 where
  pub node : Node
  pub at : nodes s ≡ Some node
  pub list : (node.list.0 ≡ one) ⊎ (node.list.0 ≡ other)
  pub apart : one ≢ other
  pub alone : (k : ℕ) (a : Node) → nodes k ≡ Some a → k ≢ s → (a.list.0 ≢ one) × (a.list.0 ≢ other)
