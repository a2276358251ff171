-- What holds of the rows of a clone tree: the split bits of each are exact, and no frame stands twice.
use Rattle.std.specs.Prelude.{◌≡◌, ℕ, ◌<◌, Bool, true, false, not, ◌&&◌, ◌||◌, ◌==◌, Option, None, Some}
use Rattle.vm_base.specs.declared.names.Tag.{Tag}
use Rattle.page_list.specs.declared.row.Slot.{Slot}
use Rattle.page_list.specs.declared.row.Slot.TheVariants as slot
use Rattle.cow_arena.specs.declared.node.Node.{Node}
use Rattle.cow_arena.specs.declared.node.Side.TheVariants as side
use Rattle.cow_arena.specs.Nodes.{IsVisible}
use Rattle.cow_arena.specs.Walk.{Tree, frame_in}
use Rattle.cow_arena.specs.Forest.{IsForest, HasListedRows}
use Rattle.cow_split.specs.Sight.{IsSeenFrom}

-- the bit is true if and only if P does not hold
pub record Denies (bit : Bool) (P : Type 0) : Type 0 where
  pub is_true : bit ≡ true → P → ⊥
  pub is_false : bit ≡ false → P

-- The bits of the row of page q of the hidden node h. Each says that no visible node on its side sees the row, other
-- than by pages that are left out of sight. Some node sees the row.
pub record AreSplitBits (t : Tree) (out : ℕ → ℕ → Bool) (h q : ℕ) (left right : Bool) : Type 0 where
  pub left_bit : Denies left (IsSeenFrom t out side.Left h q)
  pub right_bit : Denies right (IsSeenFrom t out side.Right h q)
  pub is_seen : (left && right) ≡ false

-- the frame stands in some row
pub record StandsInRow (t : Tree) (tag : ℕ) : Type 0 where
  pub l : ℕ
  pub q : ℕ
  pub row : Slot
  pub at : t.slots l q ≡ Some row
  pub frame : frame_in row ≡ Some tag

-- The tree is exact over the frames that are in use, with these pages of visible nodes left out of sight.
pub record IsExact (t : Tree) (out : ℕ → ℕ → Bool) (in_use : ℕ → Bool) : Type 0 where
  pub forest : IsForest t.nodes t.lists
  pub listed : HasListedRows t
  -- the rows of a visible node lie below its count, and their bits are false
  pub below : (v p : ℕ) (node : Node) (row : Slot) → IsVisible t.nodes v node → t.slots node.list.0 p ≡ Some row → p < node.count
  pub plain : (v p : ℕ) (node : Node) (tag : Tag) (left right : Bool) → IsVisible t.nodes v node →
      t.slots node.list.0 p ≡ Some (slot.Frame tag left right) → (left ≡ false) × (right ≡ false)
  -- each frame in use stands in exactly one row, and each row's frame is in use
  pub stands : (tag : ℕ) → in_use tag ≡ true → StandsInRow t tag
  pub used : (l q : ℕ) (row : Slot) (tag : ℕ) → t.slots l q ≡ Some row → frame_in row ≡ Some tag → in_use tag ≡ true
  pub once : (l q m r tag : ℕ) (row other : Slot) → t.slots l q ≡ Some row → t.slots m r ≡ Some other →
      frame_in row ≡ Some tag → frame_in other ≡ Some tag → (l ≡ m) × (q ≡ r)
  -- the bits of a hidden node's rows are exact
  pub bits : (h q : ℕ) (node : Node) (tag : Tag) (left right : Bool) → t.nodes h ≡ Some node → node.koid ≡ None →
      t.slots node.list.0 q ≡ Some (slot.Frame tag left right) → AreSplitBits t out h q left right

-- no page is left out of sight
abbrev pub all_in_sight : ℕ → ℕ → Bool
all_in_sight v p = false

-- page p of v is left out too
unfoldable pub leaving_out : (ℕ → ℕ → Bool) → (v p : ℕ) → ℕ → ℕ → Bool
leaving_out out v p w q = (w == v) && (q == p) || out w q

-- only pages of v are left out
abbrev pub IsOnlyOf : (ℕ → ℕ → Bool) → ℕ → Type 0
IsOnlyOf out v = (w p : ℕ) → out w p ≡ true → w ≡ v

-- the frames that are in use, with this one, if there is one, or without it
unfoldable pub with_frame : (ℕ → Bool) → Option ℕ → ℕ → Bool
with_frame in_use None t = in_use t
with_frame in_use (Some tag) t = (t == tag) || in_use t

unfoldable pub without_frame : (ℕ → Bool) → Option ℕ → ℕ → Bool
without_frame in_use None t = in_use t
without_frame in_use (Some tag) t = not (t == tag) && in_use t
