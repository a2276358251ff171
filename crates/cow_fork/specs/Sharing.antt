-- What a snapshot of a VMO does to the tree.
use Rattle.std.specs.Prelude.{◌≡◌, ◌≢◌, ℕ, ◌+◌, ◌<◌, ◌≤◌, Bool, None, Some}
use Rattle.balanced_tree.specs.Rows.{Rows}
use Rattle.vm_base.specs.declared.names.Koid.{Koid}
use Rattle.page_list.specs.declared.row.Row.{Row}
use Rattle.page_list.specs.Lists.{slots_of, row_count}
use Rattle.cow_arena.specs.declared.node.Node.{Node}
use Rattle.cow_arena.specs.declared.node.Pair.{Pair}
use Rattle.cow_arena.specs.Nodes.{Arena, nodes_of, IsVisible}
use Rattle.cow_arena.specs.Walk.{frame_shown}
use Rattle.cow_arena.specs.Changes.{paired, snapshot_node}
use Rattle.cow_arena.specs.Counts.{hidden_count, visible_count}
use Rattle.cow_split.specs.Trees.{tree_of}
use Rattle.cow_split.specs.Sight.{IsPage, StaysVisible}
use Rattle.cow_split.specs.Exact.{IsExact, all_in_sight}
use Rattle.cow_fork.specs.Snapshots.{split_slots}

-- The visible node v has a new hidden node over it, and beside it the node of a snapshot of `count` pages. The first
-- `seen` pages of the snapshot are those of v from page `first` on. Each VMO shows what it showed.
pub record HasShared (old new : Arena) (rows rows_after : Rows Row) (v : ℕ) (pair : Pair) (koid : Koid) (first seen count : ℕ) : Type 0 where
  -- the nodes and the rows
  pub new_hidden : nodes_of old pair.hidden.0 ≡ None
  pub new_child : nodes_of old pair.child.0 ≡ None
  pub apart : pair.hidden.0 ≢ pair.child.0
  pub nodes : (node : Node) → nodes_of old v ≡ Some node →
      nodes_of new ≡ paired (nodes_of old) v node pair.hidden.0 pair.child.0 old.lists koid first seen count
  pub lists : new.lists ≡ old.lists + 2
  pub hidden : hidden_count new ≡ hidden_count old + 1
  pub visible : visible_count new ≡ visible_count old + 1
  pub slots : (node : Node) → nodes_of old v ≡ Some node → slots_of rows_after ≡ split_slots (slots_of rows) node.list.0 first seen
  pub row_count : row_count rows_after ≡ row_count rows
  pub spare : rows_after.spare ≡ rows.spare
  -- the tree stays exact, over the same frames
  pub exact : (in_use : ℕ → Bool) → IsExact (tree_of old rows) all_in_sight in_use → IsExact (tree_of new rows_after) all_in_sight in_use
  -- the snapshot is the one visible node that is new
  pub stays : (w : ℕ) (node : Node) → IsVisible (nodes_of old) w node → StaysVisible (nodes_of old) (nodes_of new) w node
  pub comes : nodes_of new pair.child.0 ≡ Some (snapshot_node koid pair.hidden.0 (old.lists + 1) first seen count)
  pub no_more : (w : ℕ) (node : Node) → IsVisible (nodes_of new) w node → w ≢ pair.child.0 → StaysVisible (nodes_of new) (nodes_of old) w node
  -- what the pages show
  pub shows : (w q : ℕ) → IsPage (tree_of old rows) w q → frame_shown (tree_of new rows_after) w q ≡ frame_shown (tree_of old rows) w q
  pub child : (p : ℕ) → p < seen → frame_shown (tree_of new rows_after) pair.child.0 p ≡ frame_shown (tree_of old rows) v (first + p)
  pub child_past : (p : ℕ) → seen ≤ p → frame_shown (tree_of new rows_after) pair.child.0 p ≡ None
