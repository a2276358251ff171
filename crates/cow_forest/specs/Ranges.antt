-- Making a range of pages of a VMO's node zero: what it needs and leaves, and what it costs in steps from row to row.
use Rattle.std.specs.Prelude.{◌≡◌, ℕ, zero, suc, ◌+◌, ◌-◌, ◌<◌, ◌≤◌, min, nat_le, ◌&&◌, Option, None, Some}
use Rattle.balanced_tree.specs.Rows.{Rows}
use Rattle.vm_base.specs.Search.{count_below}
use Rattle.frame_pool.specs.Pool.{Pool, is_taken}
use Rattle.page_list.specs.Lists.{has_row}
use Rattle.page_list.specs.declared.row.Row.{Row}
use Rattle.page_list.specs.declared.row.Slot.{Slot}
use Rattle.cow_arena.specs.declared.node.Node.{Node}
use Rattle.cow_arena.specs.declared.node.NodeId.{NodeId}
use Rattle.cow_arena.specs.Nodes.{Arena, nodes_of, IsVisible, link_to}
use Rattle.cow_arena.specs.Walk.{Slots, Tree, frame_shown, frame_in}
use Rattle.cow_split.specs.Trees.{tree_of}
use Rattle.cow_split.specs.Exact.{IsExact, all_in_sight}
use Rattle.cow_fork.specs.Zeroing.{shown_from}

-- ---- what it costs

-- how many pages from `from` to below `end` have a row
unfoldable pub rows_in : (ℕ → Option Slot) → (from end : ℕ) → ℕ
rows_in rows from end = count_below end (λ p. nat_le from p && has_row rows p)

-- how many rows a node has on these pages, and those further up as `further` says: a page goes on to the parent where it lies in
-- the node's window
abbrev pub rows_over : Slots → (Option NodeId → ℕ → ℕ → ℕ) → (from end : ℕ) → Option Node → ℕ
rows_over slots further from end None = 0
rows_over slots further from end (Some node) =
    rows_in (slots node.list.0) from end + further node.parent (from + node.first) (min end node.seen + node.first)

-- how many rows the nodes from this one up to its root have on the pages that its pages from `from` to below `end` reach through
-- the windows, over n nodes at most
unfoldable pub rows_up : Tree → ℕ → Option NodeId → (from end : ℕ) → ℕ
rows_up t zero at from end = 0
rows_up t (suc n) None from end = 0
rows_up t (suc n) (Some at) from end = rows_over t.slots (rows_up t n) from end (t.nodes at.0)

-- how many rows the pages of node k from `from` to below `end` reach
abbrev pub rows_reached : Tree → (k from end : ℕ) → ℕ
rows_reached t k from end = rows_up t t.lists (link_to k) from end

-- ---- what it needs and leaves

-- The pages of the visible node v from `first` to below `end` can be made zero one after another, with the room for rows that
-- there is.
pub record IsReadyToZero (arena : Arena) (rows : Rows Row) (pool : Pool) (v first end : ℕ) : Type 0 where
  pub exact : IsExact (tree_of arena rows) all_in_sight (is_taken pool)
  pub node : Node
  pub visible : IsVisible (nodes_of arena) v node
  pub order : first ≤ end
  pub below : end ≤ node.count
  pub room : shown_from (tree_of arena rows) v first (end - first) ≤ rows.spare

-- A page of node v from `first` on that shows a frame has no row with a frame in this list, where the page of the list that is as
-- far from `here` as it is from `first` lies below `to`.
abbrev pub HasNoFrame : Tree → (v first list here to : ℕ) → Type 0
HasNoFrame t v first list here to = (d tag shown : ℕ) (row : Slot) → here + d < to → frame_shown t v (first + d) ≡ Some tag →
    t.slots list (here + d) ≡ Some row → frame_in row ≡ Some shown → ⊥
