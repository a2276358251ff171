-- What the calls say.
use Rattle.std.specs.Prelude.{◌≡◌, ℕ, List, take, Option, Some, None, Result}
use Rattle.vm_model.specs.Machine.Machine.{empty_machine}
use Rattle.vm_session.specs.Plain.{plain}
use Rattle.held_vm.specs.declared.held.AnswerError.{AnswerError}
use Rattle.held_vm.specs.declared.told.OpenError.{OpenError}
use Rattle.held_vm.specs.declared.told.ScriptError.{ScriptError}
use Rattle.held_vm.specs.declared.told.TheConstants.{DONE}
use Rattle.held_vm.specs.declared.told.Answered.{Answered}
use Rattle.held_vm.specs.Told.{line_told, script_told, refusal_told}
use Rattle.vmosim_c.specs.declared.opening.KeptVm.{KeptVm}
use Rattle.vmosim_c.specs.Kept.{machine_kept, IsRefusal, AnswersKept, AnswersScript}

-- ---- opening

-- what opening tells, and the machine that is kept then
abbrev pub OpenSays : ℕ → ℕ → Option KeptVm → Type 0
OpenSays status frames (Some now) = (status ≡ DONE) × (machine_kept now ≡ empty_machine frames)
OpenSays status frames None = (refusal : OpenError) × (status ≡ refusal_told refusal) × IsRefusal refusal frames

-- ---- a line

-- what a line tells, the machine that is kept before and after, and the caller's bytes
abbrev pub LineSays : Answered → List ℕ → Option KeptVm → Option KeptVm → List ℕ → List ℕ → Type 0
LineSays answered line old new before after =
    (r : Option (Result ℕ AnswerError)) × (answered ≡ line_told r) × AnswersKept r line old new before after

-- a line was done: the machine that is kept is the one after it, and the text of the replies stands at the front of the bytes
pub record IsDone (n : ℕ) (line : List ℕ) (old new : Option KeptVm) (after : List ℕ) : Type 0 where
  pub was : KeptVm
  pub was_kept : old ≡ Some was
  pub now : KeptVm
  pub is_kept : new ≡ Some now
  pub gives : plain.Gives line (machine_kept was) (take n after) (machine_kept now)

-- ---- a script

abbrev pub ScriptSays : Answered → ℕ → List ℕ → List ℕ → List ℕ → Type 0
ScriptSays answered frames script before after =
    (r : Result ℕ ScriptError) × (answered ≡ script_told r) × AnswersScript r frames script before after
