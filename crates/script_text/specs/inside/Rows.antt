-- The table of commands by the lengths of their words.
use Rattle.std.specs.Prelude.{ℕ, ◌==◌, List, length, filter, Option}
use Rattle.vm_model.specs.Machine.Words.{Command}
use Rattle.vm_model.specs.Language.Reading.{commands}

-- the rows of command words of so many bytes
abbrev pub command_rows_of : ℕ → List (List ℕ × (List (List ℕ) → Option Command))
command_rows_of len = filter (λ row. length row.0 == len) commands
