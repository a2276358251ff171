-- What is told of a line, of a script, and of a machine that was not opened.
use Rattle.std.specs.Prelude.{ℕ, Option, Some, None, Result, Ok, Err}
use Rattle.held_vm.specs.declared.held.AnswerError.{AnswerError}
use Rattle.held_vm.specs.declared.held.AnswerError.TheVariants.{OutOfRoom, OutOfKoids}
use Rattle.held_vm.specs.declared.told.OpenError.{OpenError}
use Rattle.held_vm.specs.declared.told.ScriptError.{ScriptError}
use Rattle.held_vm.specs.declared.told.TheConstants.{DONE, OUT_OF_ROOM, OUT_OF_MEMORY, OUT_OF_KOIDS, CLOSED, FRAME_COUNT}
use Rattle.held_vm.specs.declared.told.Answered.{Answered}

-- of an answer, or none
abbrev pub line_told : Option (Result ℕ AnswerError) → Answered
line_told None = record { len = 0; status = CLOSED }
line_told (Some (Ok n)) = record { len = n; status = DONE }
line_told (Some (Err OutOfRoom)) = record { len = 0; status = OUT_OF_ROOM }
line_told (Some (Err OutOfKoids)) = record { len = 0; status = OUT_OF_KOIDS }

-- of a script
abbrev pub script_told : Result ℕ ScriptError → Answered
script_told (Ok n) = record { len = n; status = DONE }
script_told (Err ScriptError.OutOfRoom) = record { len = 0; status = OUT_OF_ROOM }
script_told (Err ScriptError.OutOfMemory) = record { len = 0; status = OUT_OF_MEMORY }
script_told (Err ScriptError.FrameCount) = record { len = 0; status = FRAME_COUNT }

-- of a machine that was not opened
abbrev pub refusal_told : OpenError → ℕ
refusal_told OpenError.FrameCount = FRAME_COUNT
refusal_told OpenError.OutOfMemory = OUT_OF_MEMORY
