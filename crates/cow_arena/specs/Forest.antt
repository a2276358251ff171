-- What holds of the nodes of the clone tree at every moment: they are a forest.
use Rattle.std.specs.Prelude.{◌≡◌, ◌≢◌, ◌⊎◌, ℕ, ◌+◌, ◌<◌, ◌≤◌, None, Some}
use Rattle.page_list.specs.declared.row.Slot.{Slot}
use Rattle.cow_arena.specs.declared.node.Node.{Node}
use Rattle.cow_arena.specs.Nodes.{Nodes, IsVisible, link_to}
use Rattle.cow_arena.specs.Walk.{Tree}

-- node h is the parent of node k
pub record IsChild (nodes : Nodes) (h k : ℕ) : Type 0 where
  pub node : Node
  pub at : nodes k ≡ Some node
  pub parent : node.parent ≡ link_to h

-- node h is there and has k as a child. The window of k ends inside h, and k is further down
pub record HasAsChild (nodes : Nodes) (rank : ℕ → ℕ) (h k : ℕ) (node : Node) : Type 0 where
  pub above : Node
  pub at : nodes h ≡ Some above
  pub hidden : above.koid ≡ None
  pub side : (above.left ≡ link_to k) ⊎ (above.right ≡ link_to k)
  pub window : node.first + node.seen ≤ above.count
  pub deeper : rank h < rank k

-- the hidden node k has two different children, whose parent it is
pub record HasPair (nodes : Nodes) (k : ℕ) (node : Node) : Type 0 where
  pub left : ℕ
  pub right : ℕ
  pub left_is : node.left ≡ link_to left
  pub right_is : node.right ≡ link_to right
  pub apart : left ≢ right
  pub left_child : IsChild nodes k left
  pub right_child : IsChild nodes k right

-- The nodes are a forest. A rank that rises from each node to its children, and stays below the number of lists, says
-- that every way upwards ends.
pub record IsForestBy (nodes : Nodes) (lists : ℕ) (rank : ℕ → ℕ) : Type 0 where
  -- a visible node has no children, and a hidden one has two
  pub leaves : (k : ℕ) (node : Node) → IsVisible nodes k node → (node.left ≡ None) × (node.right ≡ None)
  pub pairs : (k : ℕ) (node : Node) → nodes k ≡ Some node → node.koid ≡ None → HasPair nodes k node
  -- a node that has a parent is one of its children
  pub below : (h k : ℕ) (node : Node) → nodes k ≡ Some node → node.parent ≡ link_to h → HasAsChild nodes rank h k node
  -- no two nodes have one list, and each list was given
  pub own : (j k : ℕ) (a b : Node) → nodes j ≡ Some a → nodes k ≡ Some b → a.list.0 ≡ b.list.0 → j ≡ k
  pub given : (k : ℕ) (node : Node) → nodes k ≡ Some node → node.list.0 < lists
  pub ranks : (k : ℕ) (node : Node) → nodes k ≡ Some node → rank k < lists
  -- A window is not longer than the node. Without a page it begins at 0, and without a parent the node has no window.
  pub seen : (k : ℕ) (node : Node) → nodes k ≡ Some node → node.seen ≤ node.count
  pub empty : (k : ℕ) (node : Node) → nodes k ≡ Some node → node.seen ≡ 0 → node.first ≡ 0
  pub root : (k : ℕ) (node : Node) → nodes k ≡ Some node → node.parent ≡ None → node.seen ≡ 0

pub record IsForest (nodes : Nodes) (lists : ℕ) : Type 0 where
  pub rank : ℕ → ℕ
  pub by : IsForestBy nodes lists rank

-- the list is that of some node
pub record IsListed (nodes : Nodes) (list : ℕ) : Type 0 where
  pub k : ℕ
  pub node : Node
  pub at : nodes k ≡ Some node
  pub named : node.list.0 ≡ list

-- rows stand only in lists of nodes
pub record HasListedRows (t : Tree) : Type 0 where
  pub listed : (l p : ℕ) (slot : Slot) → t.slots l p ≡ Some slot → IsListed t.nodes l
