-- The machine that a checker of transcripts keeps: its parts, the machine that they stand for, and what is asked of its pins.
use Rattle.std.specs.Prelude.{◌≡◌, ℕ, ◌+◌, true, nat_lt, if◌then◌else◌, Option, None, Some}
use Rattle.vm_model.specs.Contents.Content.{Page}
use Rattle.vm_model.specs.Naming.Pins.{Pin, is_pinned}
use Rattle.vm_model.specs.Space.Readiness.{Ready, frame_at}
use Rattle.vm_model.specs.Machine.State.{State}
use Rattle.vm_model.specs.Machine.Machine.{Machine}
use Rattle.page_store.specs.Flat.{Flat, flat_content}
use Rattle.checker_ready.specs.Notes.{Notes, rows_of, ready_in}
use Rattle.machine.specs.Machine.{MachineParts, machine_of_parts}

-- the pages, and the machine over them with what is noted of ready pages
pub record CheckerParts : Type 0 where
  pub pages : Flat
  pub machine : MachineParts Notes

-- what the notes say is ready
abbrev pub ready_by : Notes → Ready
ready_by notes = ready_in (rows_of notes)

-- the machine that the parts stand for
unfoldable pub checker_machine_of : CheckerParts → Machine
checker_machine_of m = machine_of_parts ready_by (flat_content m.pages) m.machine

-- some page that is pinned has the frame
abbrev pub HasPinnedFrame : Machine → (tag : ℕ) → Type 0
HasPinnedFrame m tag =
    (v p : ℕ) × (held : Page) × (is_pinned m.state.pins v p ≡ true) × (m.state.content.page v p ≡ Some held) × (held.tag ≡ tag)

-- The frame of page `at` of a pin, counted from the pin's first, if there is such a pin and it has such a page.
abbrev pub pinned_frame : State → Option Pin → (at : ℕ) → Option ℕ
pinned_frame s None at = None
pinned_frame s (Some pin) at = if nat_lt at pin.count then frame_at s.content pin.koid (pin.first + at) else None
