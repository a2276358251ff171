-- What becomes of the row that a leaf sees, once the leaf sees it no more.
use Rattle.std.specs.Prelude.{◌≡◌, ◌≤◌, ℕ, Bool, true, false, if◌then◌else◌, Option, None, Some}
use Rattle.balanced_tree.specs.Rows.{Rows}
use Rattle.balanced_tree.specs.Pairs.{with_pair}
use Rattle.vm_base.specs.declared.names.Tag.{Tag}
use Rattle.page_list.specs.declared.row.Row.{Row}
use Rattle.page_list.specs.declared.row.Slot.{Slot}
use Rattle.page_list.specs.declared.row.Slot.TheVariants as slot
use Rattle.cow_arena.specs.declared.node.Node.{Node}
use Rattle.cow_arena.specs.declared.node.Side.{Side}
use Rattle.cow_arena.specs.declared.node.Side.TheVariants as side
use Rattle.page_list.specs.Lists.{slots_of, row_count}
use Rattle.cow_arena.specs.Nodes.{Arena, link_to}
use Rattle.cow_arena.specs.Walk.{Slots, Tree, Found, walk}
use Rattle.cow_arena.specs.Ways.{Reaches}
use Rattle.cow_split.specs.declared.answers.Cut.{Cut}
use Rattle.cow_split.specs.declared.answers.Cut.TheVariants as cut
use Rattle.cow_split.specs.Trees.{list_in, tree_of}
use Rattle.cow_split.specs.Search.{reached_from}

-- a row of a frame, once no VMO on this side sees it any more. None if none on the other side does either
abbrev pub split_on : Side → Tag → (left right : Bool) → Option Slot
split_on side.Left tag left true = None
split_on side.Left tag left false = Some (slot.Frame tag true false)
split_on side.Right tag true right = None
split_on side.Right tag false right = Some (slot.Frame tag false true)

-- who sees the frame then
abbrev pub answer_on : Side → Tag → (left right : Bool) → Cut
answer_on side.Left tag left true = cut.LastViewer tag
answer_on side.Left tag left false = cut.StillSeen
answer_on side.Right tag true right = cut.LastViewer tag
answer_on side.Right tag false right = cut.StillSeen

module _ (t : Tree) (leaf : ℕ) where
  -- the leaf saw this slot of page q of node h from this side
  abbrev pub slots_from : (h q : ℕ) → Slot → Option Side → Slots
  slots_from h q slot.Zero from = t.slots
  slots_from h q (slot.Frame tag left right) None = t.slots
  slots_from h q (slot.Frame tag left right) (Some from) = if reached_from t (link_to leaf) from h q
      then t.slots
      else with_pair t.slots (list_in (t.nodes h)) q (split_on from tag left right)

  abbrev pub answer_from : (h q : ℕ) → Slot → Option Side → Cut
  answer_from h q slot.Zero from = cut.NothingThere
  answer_from h q (slot.Frame tag left right) None = cut.NothingThere
  answer_from h q (slot.Frame tag left right) (Some from) = if reached_from t (link_to leaf) from h q
      then cut.StillSeen
      else answer_on from tag left right

  abbrev pub slots_after : Option Found → Slots
  slots_after None = t.slots
  slots_after (Some it) = slots_from it.node it.page it.slot it.side

  abbrev pub answer_after : Option Found → Cut
  answer_after None = cut.NothingThere
  answer_after (Some it) = answer_from it.node it.page it.slot it.side

-- The rows after the leaf's page p is cut off from the row above it that it sees. If no other VMO sees the row from the
-- leaf's side, the bit of the side is set. If the other bit is set already, the row goes instead.
unfoldable pub cut_slots : Tree → (leaf p : ℕ) → Slots
cut_slots t leaf p = slots_after t leaf (walk t leaf p)

-- what is answered then
unfoldable pub cut_answer : Tree → (leaf p : ℕ) → Cut
cut_answer t leaf p = answer_after t leaf (walk t leaf p)

-- the frame that stands in no row after this answer
abbrev pub frame_left : Cut → Option ℕ
frame_left (cut.LastViewer tag) = Some tag.0
frame_left cut.StillSeen = None
frame_left cut.NothingThere = None

-- the answer leaves a frame to the one who asked
abbrev pub leaves_frame : Cut → Bool
leaves_frame (cut.LastViewer tag) = true
leaves_frame cut.StillSeen = false
leaves_frame cut.NothingThere = false

-- the rows after a cut, and its answer. It takes no room
pub record HasCut (arena : Arena) (old new : Rows Row) (leaf p : ℕ) (answer : Cut) : Type 0 where
  pub slots : slots_of new ≡ cut_slots (tree_of arena old) leaf p
  pub answers : answer ≡ cut_answer (tree_of arena old) leaf p
  pub spare : old.spare ≤ new.spare
  pub count : row_count new ≤ row_count old

-- no page of node v that is in sight comes to page q of the hidden node h from this side
pub record IsUnseenBy (t : Tree) (out : ℕ → ℕ → Bool) (v : ℕ) (from : Side) (h q : ℕ) : Type 0 where
  pub above : Node
  pub at : t.nodes h ≡ Some above
  pub hidden : above.koid ≡ None
  pub none : (p : ℕ) → out v p ≡ false → Reaches t v p from h q → ⊥
