-- How a list of tasks is kept: as the bytes of their lines, and where each of them stands.
use Rattle.std.specs.Prelude.{ℕ, Bool, true, List, [], ◌∷◌, length, map}
use Rattle.std.specs.List.{All}
use Rattle.vm_model.specs.Language.Reading.{Reading, Blank, Order, Outside, reading, is_comment}
use Rattle.shared_vm.specs.declared.task.Task.{Task}
use Rattle.shared_vm.specs.declared.place.Place.{Place}
use Rattle.shared_vm.specs.inside.Places.{items_at, LiesWithin}

-- the task that a line gives, if it says anything
abbrev pub task_of_reading : Reading → Task
task_of_reading (Order command) = Task.Order command
task_of_reading Blank = Task.Outside
task_of_reading Outside = Task.Outside

abbrev pub task_of_line : List ℕ → Task
task_of_line line = task_of_reading (reading line)

-- a line with these words says nothing
abbrev pub says_nothing : List (List ℕ) → Bool
says_nothing [] = true
says_nothing (word ∷ behind) = is_comment word

-- the task of the line at a place
abbrev pub task_at : List ℕ → Place → Task
task_at bytes place = task_of_line (items_at bytes place)

abbrev pub tasks_at : List ℕ → List Place → List Task
tasks_at bytes places = map (task_at bytes) places

-- all lines stand within the bytes
abbrev pub AreWithin : List ℕ → List Place → Type 0
AreWithin bytes places = All (LiesWithin (length bytes)) places
