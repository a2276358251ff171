-- What the rows of a VMO's node say of sides after a snapshot of it.
use Rattle.std.specs.Prelude.{◌≡◌, ℕ, ◌+◌, ◌<◌, Bool, true, false, not, ◌&&◌, ◌==◌, nat_le, nat_lt, if◌then◌else◌, Some}
use Rattle.std.specs.Option.{option_map}
use Rattle.vm_base.specs.declared.names.Tag.{Tag}
use Rattle.page_list.specs.declared.row.Slot.{Slot}
use Rattle.page_list.specs.declared.row.Slot.TheVariants as slot
use Rattle.cow_arena.specs.Walk.{Slots}

-- page q is one of the pages that a snapshot sees, which are this many from the first on
abbrev pub is_taken_in : (first seen q : ℕ) → Bool
is_taken_in first seen q = nat_le first q && nat_lt q (first + seen)

-- A row of the node that is now hidden. The visible node that had it sees it from the left. The snapshot sees it from
-- the right, if the row's page lies in the snapshot's window.
abbrev pub split_row : Bool → Slot → Slot
split_row taken_in (slot.Frame tag left right) = slot.Frame tag false (not taken_in)
split_row taken_in slot.Zero = slot.Zero

-- the rows; the list l is that of the node
unfoldable pub split_slots : Slots → (l first seen : ℕ) → Slots
split_slots slots l first seen = λ m q. if m == l then option_map (split_row (is_taken_in first seen q)) (slots m q) else slots m q

-- a row that nobody sees from the right
abbrev pub hidden_row : Slot → Slot
hidden_row (slot.Frame tag left right) = slot.Frame tag left true
hidden_row slot.Zero = slot.Zero

-- the rows, with those of the pages of list l from `from` to below `end` seen by nobody from the right
unfoldable pub hidden_slots : Slots → (l from end : ℕ) → Slots
hidden_slots slots l from end = λ m q. if (m == l) && (nat_le from q && nat_lt q end) then option_map hidden_row (slots m q) else slots m q

-- the rows of a list are like those of a VMO's node: the bits of each are false, and it lies below this count
pub record ArePlain (slots : Slots) (l count : ℕ) : Type 0 where
  pub plain : (q : ℕ) (tag : Tag) (left right : Bool) → slots l q ≡ Some (slot.Frame tag left right) → (left ≡ false) × (right ≡ false)
  pub below : (q : ℕ) (row : Slot) → slots l q ≡ Some row → q < count
