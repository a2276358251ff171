-- The exit status of a run.
use Rattle.std.specs.Prelude.{ℕ, Option, None, Some, Result, Ok, Err}
use Rattle.script_io.specs.declared.status.Status.{Status}
use Rattle.script_io.specs.declared.status.Status.TheVariants.{Done, Usage, HostMemory, ReadFault, WriteFault, ScriptLimit}

abbrev pub code_of : Status → ℕ
code_of Done = 0
code_of Usage = 2
code_of HostMemory = 3
code_of ReadFault = 4
code_of WriteFault = 5
code_of ScriptLimit = 6

-- the status that reading ends with behind a line, if any, where the host may have lacked memory for the line
abbrev pub memory_failure : {T E : Type 0} → Result T E → Option Status
memory_failure (Ok x) = None
memory_failure (Err e) = Some HostMemory

-- the status of a run whose text was written, or not
abbrev pub status_of_writing : {T E : Type 0} → Result T E → Status
status_of_writing (Ok x) = Done
status_of_writing (Err e) = WriteFault
