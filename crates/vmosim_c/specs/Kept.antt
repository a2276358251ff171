-- What a machine that is kept is, and what its calls say.
use Rattle.std.specs.Prelude.{◌≡◌, ℕ, ◌<◌, ◌≤◌, List, ◌++◌, length, take, drop, Option, Some, None, Result, Ok, Err}
use Rattle.vm_base.specs.declared.limits.TheConstants.{FRAMES}
use Rattle.vm_model.specs.Machine.Machine.{Machine, empty_machine}
use Rattle.vm_model.specs.Scripts.Run.{lines_of, Legal}
use Rattle.cow_forest.specs.Store.{forest_content}
use Rattle.vm_session.specs.Plain.{plain}
use Rattle.held_vm.specs.declared.held.AnswerError.{AnswerError}
use Rattle.held_vm.specs.Held.{held_machine, Answers}
use Rattle.vmosim_c.specs.declared.opening.KeptVm.{KeptVm}
use Rattle.held_vm.specs.declared.told.OpenError.{OpenError}
use Rattle.held_vm.specs.declared.told.ScriptError.{ScriptError}

-- the machine that is kept
abbrev pub machine_kept : KeptVm → Machine
machine_kept kept = held_machine forest_content kept.held

-- ---- opening

-- the numbers of page frames that a machine may have
pub record IsFrameCount (frames : ℕ) : Type 0 where
  pub some : 1 ≤ frames
  pub few : frames ≤ FRAMES

-- what a refusal says of the number of page frames
abbrev pub IsRefusal : OpenError → ℕ → Type 0
IsRefusal OpenError.FrameCount frames = IsFrameCount frames → ⊥
IsRefusal OpenError.OutOfMemory frames = IsFrameCount frames

-- what opening says, and the machine that is kept then
abbrev pub Opens : {T : Type 0} → Result T OpenError → ℕ → Option KeptVm → Type 0
Opens (Ok x) frames new = (now : KeptVm) × (new ≡ Some now) × (machine_kept now ≡ empty_machine frames)
Opens (Err refusal) frames new = (new ≡ None) × IsRefusal refusal frames

-- ---- a line

-- what a line says, the machine that is kept before and after, and the caller's bytes. A closed machine answers none and stays closed.
abbrev pub AnswersKept : Option (Result ℕ AnswerError) → List ℕ → Option KeptVm → Option KeptVm → List ℕ → List ℕ → Type 0
AnswersKept answer line None new before after = (answer ≡ None) × (new ≡ None) × (after ≡ before)
AnswersKept answer line (Some old) new before after =
    (now : KeptVm) × (new ≡ Some now) × (r : Result ℕ AnswerError) × (answer ≡ Some r)
    × Answers plain r line (machine_kept old) (machine_kept now) before after

-- ---- a script

-- the text of one legal run of all lines stands at the front of the bytes, which else stay
pub record IsRun (n frames : ℕ) (script before after : List ℕ) : Type 0 where
  pub last : Machine
  pub bound : n ≤ length after
  pub legal : Legal frames (lines_of script) (take n after) last
  pub kept : drop n after ≡ drop n before

-- one legal run of the first lines, whose text is longer than the bytes and begins with them
pub record IsLongRun (frames : ℕ) (script after : List ℕ) : Type 0 where
  pub lines : List (List ℕ)
  pub behind : List (List ℕ)
  pub first : lines_of script ≡ lines ++ behind
  pub rest : List ℕ
  pub left : 0 < length rest
  pub last : Machine
  pub legal : Legal frames lines (after ++ rest) last

-- what an answer says of a script and of the caller's bytes before and after
abbrev pub AnswersScript : Result ℕ ScriptError → ℕ → List ℕ → List ℕ → List ℕ → Type 0
AnswersScript (Ok n) frames script before after = IsFrameCount frames × IsRun n frames script before after
AnswersScript (Err ScriptError.OutOfRoom) frames script before after =
    IsFrameCount frames × IsLongRun frames script after × (length after ≡ length before)
AnswersScript (Err ScriptError.OutOfMemory) frames script before after = IsFrameCount frames × (after ≡ before)
AnswersScript (Err ScriptError.FrameCount) frames script before after = (IsFrameCount frames → ⊥) × (after ≡ before)
