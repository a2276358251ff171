-- Own rows of a VMO's node that goes, over rows of its parent: they go, and the node sees the rows of the parent.
use Rattle.std.specs.Prelude.{◌≡◌, ℕ, ◌<◌, false, None}
use Rattle.balanced_tree.specs.Rows.{Rows}
use Rattle.page_list.specs.declared.row.Row.{Row}
use Rattle.page_list.specs.declared.row.Slot.{Slot}
use Rattle.page_list.specs.declared.row.Slot.TheVariants as slot
use Rattle.page_list.specs.Lists.{slots_of}
use Rattle.frame_pool.specs.Pool.{Pool, is_taken}
use Rattle.cow_arena.specs.declared.node.Node.{Node}
use Rattle.cow_arena.specs.Nodes.{Arena, nodes_of, IsVisible, link_to}
use Rattle.cow_split.specs.Trees.{tree_of}
use Rattle.cow_split.specs.Exact.{IsExact, all_in_sight}
use Rattle.cow_merge.specs.Ranges.{IsHeldBy}

-- the slot with no bit set
abbrev pub without_bits : Slot → Slot
without_bits (slot.Frame tag left right) = slot.Frame tag false false
without_bits slot.Zero = slot.Zero

-- Own rows of the VMO's node k below page `from`, over rows of its parent h, went. No own row that is left there covers a row of h.
pub record IsUncovering (arena : Arena) (rows : Rows Row) (pool : Pool) (k h from : ℕ) : Type 0 where
  pub node : Node
  pub visible : IsVisible (nodes_of arena) k node
  pub up : node.parent ≡ link_to h
  pub exact : IsExact (tree_of arena rows) all_in_sight (is_taken pool)
  pub free : (p : ℕ) → p < from → IsHeldBy (nodes_of arena) (slots_of rows) h node p → slots_of rows node.list.0 p ≡ None
