-- How the fields of the machine are seen, and what holds of them.
use Rattle.page_store.specs.Flat.{flat_content}
use Rattle.checker_ready.specs.Notes.{rows_of, AreGoodNotes}
use Rattle.machine.specs.Machine.{IsSoundMachine}
use Rattle.checker_machine.specs.declared.checker_machine.CheckerMachine.TheInside.{Inside}
use Rattle.checker_machine.specs.Machine.{CheckerParts, ready_by}

abbrev pub checker_parts_of : Inside → CheckerParts
checker_parts_of a = record { pages = a.pages; machine = a.machine }

-- The parts stand for a good machine, and the notes of ready pages are true.
abbrev pub AreSound : CheckerParts → Type 0
AreSound m = IsSoundMachine ready_by (λ c table notes. AreGoodNotes c table (rows_of notes)) (flat_content m.pages) m.machine
