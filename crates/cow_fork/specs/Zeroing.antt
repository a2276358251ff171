-- What it is to make pages of a VMO's node zero.
use Rattle.std.specs.Prelude.{◌≡◌, ◌≢◌, ◌⊎◌, ℕ, ◌+◌, ◌<◌, ◌≤◌, None, Some, IsSome}
use Rattle.balanced_tree.specs.Rows.{Rows}
use Rattle.page_list.specs.declared.row.Row.{Row}
use Rattle.page_list.specs.declared.row.Slot.{Slot}
use Rattle.page_list.specs.declared.row.Slot.TheVariants as slot
use Rattle.page_list.specs.Lists.{slots_of}
use Rattle.vm_base.specs.Search.{count_below}
use Rattle.frame_pool.specs.Pool.{Pool, taken_frames, is_taken, links_of}
use Rattle.cow_arena.specs.declared.node.Node.{Node}
use Rattle.cow_arena.specs.Nodes.{Arena, nodes_of}
use Rattle.cow_arena.specs.Walk.{Tree, frame_shown, frame_in, shows_frame}
use Rattle.cow_arena.specs.Ways.{HadRow}
use Rattle.cow_split.specs.Trees.{tree_of, with_row}
use Rattle.cow_split.specs.Sight.{IsPage, ShowsSame}
use Rattle.cow_split.specs.Exact.{IsExact, all_in_sight}

-- if page p of v has a row that says zero, then it would show a frame without it
abbrev pub IsNeeded : (arena : Arena) → Rows Row → (v p : ℕ) → Type 0
IsNeeded arena rows v p = (node : Node) → nodes_of arena v ≡ Some node → slots_of rows node.list.0 p ≡ Some slot.Zero →
    frame_shown (with_row (tree_of arena rows) node.list.0 p None) v p ≢ None

-- how many of the n pages of node v from page `first` on show a frame
unfoldable pub shown_from : Tree → (v first n : ℕ) → ℕ
shown_from t v first n = count_below n (λ k. shows_frame t v (first + k))

-- Some pages of the visible node v from `first` to below `end` were made zero, and all others show what they showed. Frames that
-- nobody shows any more are given back.
pub record HasZeroed (arena : Arena) (old new : Rows Row) (before after : Pool) (v first end : ℕ) : Type 0 where
  pub exact : IsExact (tree_of arena new) all_in_sight (is_taken after)
  pub others : ShowsSame (tree_of arena old) (tree_of arena new) (λ w q. (w ≡ v) × (first ≤ q) × (q < end) → ⊥)
  pub part : (w q t : ℕ) → IsPage (tree_of arena old) w q → frame_shown (tree_of arena new) w q ≡ Some t → frame_shown (tree_of arena old) w q ≡ Some t
  pub gives : (t : ℕ) → (taken_frames after t ≡ taken_frames before t) ⊎ (taken_frames after t ≡ None)
  -- the row of each frame stood where it stands, no backlink changes, and only pages that were made zero got rows
  pub stood : (l q : ℕ) (row : Slot) (t : ℕ) → slots_of new l q ≡ Some row → frame_in row ≡ Some t → HadRow (slots_of old) l q row
  pub links : links_of after ≡ links_of before
  pub frames : after.frames ≡ before.frames
  pub places : (node : Node) → nodes_of arena v ≡ Some node → (l q : ℕ) → IsSome (slots_of new l q) →
      IsSome (slots_of old l q) ⊎ ((l ≡ node.list.0) × (first ≤ q) × (q < end))
  -- each of them took room for one row at most
  pub spare : (node : Node) → nodes_of arena v ≡ Some node → (a n : ℕ) → a ≤ first → end ≤ a + n → a + n ≤ node.count →
      old.spare + shown_from (tree_of arena new) v a n ≤ new.spare + shown_from (tree_of arena old) v a n
