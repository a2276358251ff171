-- Reading the tasks of an input, line by line.
use Rattle.std.specs.Prelude.{◌≡◌, ℕ, ◌≤◌, List, length, Option, Result, Ok, Err}
use Rattle.std.specs.Io.KnownBytes.{Consumes}
use Rattle.script_io.specs.declared.status.Status.{Status}
use Rattle.script_io.specs.declared.status.Status.TheVariants.{Done, Usage, HostMemory, ReadFault, WriteFault, ScriptLimit}
use Rattle.line_server.specs.Outcome.{Completes, StopsReading, ReachesLimit}
use Rattle.line_server.specs.Reading.{LineTurns}
use Rattle.vm_base.specs.declared.limits.TheConstants.{INPUT_BYTES}
use Rattle.shared_vm.specs.Tasks.{Lists, with_line, lists_of}

-- each line of an input adds its task
abbrev pub gathering : LineTurns Lists
gathering = record {
  Takes = λ line old new. new ≡ with_line old line;
  Halts = λ line old new. Unit {0};
}

-- the source gave at most so many bytes
pub record TakesAtMost (limit : ℕ) (source_old source_new : Option (List ℕ)) : Type 0 where
  pub script : List ℕ
  pub given : Consumes source_old source_new script
  pub short : length script ≤ limit

-- What a status other than Done says of the reading of an input.
abbrev pub EndsReading : Status → Option (List ℕ) → Option (List ℕ) → Type 0
EndsReading ReadFault source_old source_new = StopsReading (λ lines. Unit {0}) INPUT_BYTES source_old source_new
EndsReading ScriptLimit source_old source_new = ReachesLimit (λ lines. Unit {0}) INPUT_BYTES source_old source_new
EndsReading HostMemory source_old source_new = TakesAtMost INPUT_BYTES source_old source_new
EndsReading Done source_old source_new = ⊥
EndsReading WriteFault source_old source_new = ⊥
EndsReading Usage source_old source_new = ⊥

-- an input was read to its end, and these are the tasks of its lines
abbrev pub Gathers : Lists → Option (List ℕ) → Option (List ℕ) → Type 0
Gathers lists source_old source_new = Completes (λ lines. lists ≡ lists_of lines) INPUT_BYTES source_old source_new

-- the tasks of an input that was read to this end, or the status that reading ended with
abbrev pub lists_or_status : {A E : Type 0} → Result Status E → A → Result A Status
lists_or_status (Ok Done) lists = Ok lists
lists_or_status (Ok status) lists = Err status
lists_or_status (Err error) lists = Err HostMemory
