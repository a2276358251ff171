-- What it is to give a page of a VMO's node a frame of its own.
use Rattle.std.specs.Prelude.{◌≡◌, ℕ, ◌+◌, ◌≤◌, false, Some}
use Rattle.balanced_tree.specs.Rows.{Rows}
use Rattle.page_list.specs.declared.row.Row.{Row}
use Rattle.page_list.specs.declared.row.Slot.TheVariants as slot
use Rattle.page_list.specs.Lists.{slots_of}
use Rattle.frame_pool.specs.Pool.{Pool, Takes, taken_frames, is_taken}
use Rattle.cow_arena.specs.declared.node.Node.{Node}
use Rattle.cow_arena.specs.Nodes.{Arena, nodes_of}
use Rattle.cow_arena.specs.Walk.{frame_shown}
use Rattle.cow_arena.specs.Ways.{KeepsBare}
use Rattle.cow_split.specs.Trees.{tree_of}
use Rattle.cow_split.specs.Sight.{ShowsSame, IsNotPage}
use Rattle.cow_split.specs.Exact.{IsExact, all_in_sight}
use Rattle.cow_fork.specs.Frames.{bytes_shown, IsSole}

-- page p of node v has a row of its own, with this frame
abbrev pub HasOwnRow : (arena : Arena) → Rows Row → (v p tag : ℕ) → Type 0
HasOwnRow arena rows v p tag = (node : Node) → nodes_of arena v ≡ Some node →
    slots_of rows node.list.0 p ≡ Some (slot.Frame (record { 0 = tag }) false false)

-- Page p of the visible node v shows the frame of this tag, and no other VMO does. A frame that v alone showed is kept.
-- Otherwise a free frame is taken, with the bytes that the page showed.
pub record HasOwned (arena : Arena) (old new : Rows Row) (before after : Pool) (v p tag : ℕ) : Type 0 where
  pub exact : IsExact (tree_of arena new) all_in_sight (is_taken after)
  pub shows : frame_shown (tree_of arena new) v p ≡ Some tag
  pub others : ShowsSame (tree_of arena old) (tree_of arena new) (IsNotPage v p)
  pub stays : (t : ℕ) → IsSole (tree_of arena old) v p t → (tag ≡ t) × (taken_frames after ≡ taken_frames before)
  pub taken : ((t : ℕ) → IsSole (tree_of arena old) v p t → ⊥) →
      Takes before after tag (bytes_shown before (frame_shown (tree_of arena old) v p))
  -- no list but that of v gets a row
  pub rows : (node : Node) → nodes_of arena v ≡ Some node → KeepsBare (slots_of old) (slots_of new) node.list.0
  pub frames : after.frames ≡ before.frames
  pub spare : old.spare ≤ new.spare + 1
