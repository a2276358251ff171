-- Who shows a frame: the VMOs' nodes that have a page whose walk ends at its row.
use Rattle.std.specs.Prelude.{◌≡◌, ◌↔◌, ℕ, eqb, List, length, Option, Some, MatchOption}
use Rattle.std.specs.List.{Contains, IsDistinct}
use Rattle.vm_base.specs.declared.names.Koid.{Koid}
use Rattle.page_list.specs.declared.row.Slot.{Slot}
use Rattle.cow_arena.specs.Walk.{Tree, frame_shown, frame_in}
use Rattle.cow_arena.specs.Ways.{HasRow}
use Rattle.cow_split.specs.Sight.{IsPage}
use Rattle.cow_split.specs.Viewers.{IsLeastKoid, IsBelowAll, HasLesser}

-- the visible node k shows the frame of this tag on one of its pages
pub record ShowsFrame (t : Tree) (tag k : ℕ) : Type 0 where
  pub p : ℕ
  pub page : IsPage t k p
  pub frame : frame_shown t k p ≡ Some tag

-- the list has each node that shows the frame, and no other, and none of them twice
pub record AreViewers (t : Tree) (tag : ℕ) (list : List ℕ) : Type 0 where
  pub each : (k : ℕ) → Contains list k ↔ ShowsFrame t tag k
  pub once : IsDistinct eqb list

-- so many nodes show the frame
pub record IsViewerCount (t : Tree) (tag count : ℕ) : Type 0 where
  pub list : List ℕ
  pub viewers : AreViewers t tag list
  pub count_is : count ≡ length list

-- the least koid of the nodes that show the frame
pub record IsLeastKoidOf (t : Tree) (tag : ℕ) (koid : Koid) : Type 0 where
  pub list : List ℕ
  pub viewers : AreViewers t tag list
  pub least : IsLeastKoid t.nodes list koid

-- the answer is a koid of the nodes that show the frame, less than this one, if there is such a koid
pub record HasLesserOf (t : Tree) (tag : ℕ) (koid : Koid) (answer : Option Koid) : Type 0 where
  pub list : List ℕ
  pub viewers : AreViewers t tag list
  pub answer_is : MatchOption answer (IsBelowAll t.nodes list koid) (λ less. HasLesser t.nodes list koid less)

-- page q of node h has a row with the frame of this tag
pub record HasFrameRow (t : Tree) (h q tag : ℕ) : Type 0 where
  pub slot : Slot
  pub row : HasRow t h q slot
  pub frame : frame_in slot ≡ Some tag
