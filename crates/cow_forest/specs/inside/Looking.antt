-- What looking at a page of a VMO's node answers, and which page a look for the next one has found.
use Rattle.std.specs.Prelude.{◌≡◌, ◌↔◌, ℕ, ◌-◌, true, Option, None, Some}
use Rattle.std.specs.Option.{option_map, option_or}
use Rattle.page_store.specs.declared.page_store.Look.{Look}
use Rattle.page_store.specs.declared.page_store.Look.TheVariants as look
use Rattle.vm_base.specs.declared.names.Tag.{Tag}
use Rattle.page_list.specs.declared.row.Slot.{Slot}
use Rattle.page_list.specs.declared.row.Slot.TheVariants as slot
use Rattle.cow_arena.specs.Walk.{Tree, frame_shown}
use Rattle.cow_split.specs.Sight.{IsLastViewer}

-- page p of node v is zero, or shows this frame, and shows it alone if the answer says so
abbrev pub IsLook : Tree → (v p : ℕ) → Look → Type 0
IsLook t v p look.Zero = frame_shown t v p ≡ None
IsLook t v p (look.Held tag sole) = (frame_shown t v p ≡ Some tag.0) × ((sole ≡ true) ↔ IsLastViewer t v tag.0)

-- page p of node v shows this frame, or none
abbrev pub ShowsFrameOrNone : Tree → (v p : ℕ) → Option Tag → Type 0
ShowsFrameOrNone t v p None = frame_shown t v p ≡ None
ShowsFrameOrNone t v p (Some tag) = frame_shown t v p ≡ Some tag.0

-- a page with this row of its own, which its VMO alone sees
abbrev pub look_in : Slot → Look
look_in (slot.Frame tag left right) = look.Held tag true
look_in slot.Zero = look.Zero

-- the page that comes to this row, which is `shift` pages further on. If there is no row, the best page so far
abbrev pub nearer_page : (best row : Option ℕ) → (shift : ℕ) → Option ℕ
nearer_page best row shift = option_or (option_map (λ (page : ℕ). page - shift) row) best
