-- What it is to take rows out that say zero and hide no frame.
use Rattle.std.specs.Prelude.{◌≡◌, ◌⊎◌, ℕ, ◌<◌, ◌≤◌, ◌^◌, Bool, None, Some}
use Rattle.balanced_tree.specs.Rows.{Rows}
use Rattle.page_list.specs.declared.row.Row.{Row}
use Rattle.page_list.specs.declared.row.Slot.TheVariants as slot
use Rattle.page_list.specs.Lists.{slots_of, row_count}
use Rattle.cow_arena.specs.Nodes.{Arena}
use Rattle.cow_arena.specs.Walk.{frame_shown}
use Rattle.cow_split.specs.Trees.{tree_of}
use Rattle.cow_split.specs.Exact.{IsExact, all_in_sight}
use Rattle.cow_fork.specs.Zeroing.{IsNeeded}

-- Rows that say zero may be gone. Each page of each node shows what it showed, and all other rows are as they were.
pub record HasSwept (arena : Arena) (old new : Rows Row) : Type 0 where
  pub exact : (in_use : ℕ → Bool) → IsExact (tree_of arena old) all_in_sight in_use → IsExact (tree_of arena new) all_in_sight in_use
  pub shows : (k p : ℕ) → frame_shown (tree_of arena new) k p ≡ frame_shown (tree_of arena old) k p
  pub rows : (l q : ℕ) → (slots_of new l q ≡ slots_of old l q) ⊎ ((slots_of old l q ≡ Some slot.Zero) × (slots_of new l q ≡ None))
  pub count : row_count new ≤ row_count old
  pub spare : old.spare ≤ new.spare

-- each row that says zero on a page of node k, hidden or visible, hides a frame that a row further up shows there
abbrev pub AreNeededIn : (arena : Arena) → Rows Row → (k : ℕ) → Type 0
AreNeededIn arena rows k = (p : ℕ) → p < 2 ^ 64 → IsNeeded arena rows k p

-- so does each row that says zero, of whatever node
abbrev pub IsSwept : (arena : Arena) → Rows Row → Type 0
IsSwept arena rows = (k : ℕ) → AreNeededIn arena rows k
