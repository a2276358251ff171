-- What a machine that is held is to its callers, and what an answer says.
use Rattle.std.specs.Prelude.{◌≡◌, ℕ, ◌<◌, ◌≤◌, List, ◌++◌, length, take, drop, Result, Ok, Err}
use Rattle.vm_base.specs.declared.limits.TheConstants.{KOIDS}
use Rattle.vm_model.specs.Contents.Content.{Content}
use Rattle.vm_model.specs.Machine.Machine.{Machine}
use Rattle.vm_core.specs.Vm.{Parts, machine_of}
use Rattle.line_server.specs.Answering.{Answering}
use Rattle.held_vm.specs.declared.held.AnswerError.{AnswerError}
use Rattle.held_vm.specs.declared.held.AnswerError.TheVariants.{OutOfRoom, OutOfKoids}

-- the interpreter of a machine, and its store
pub record Held (S I : Type 0) : Type 0 where
  pub interpreter : I
  pub store : S

-- the state that an interpreter and its store stand for
abbrev pub state_held : {S I T : Type 0} → (S → Content) → (I → Content → T) → Held S I → T
state_held content state h = state h.interpreter (content h.store)

-- the machine of one that answers as `run` does
abbrev pub held_machine : {S : Type 0} → (S → Content) → Held S Parts → Machine
held_machine content h = machine_of (content h.store) h.interpreter

-- an interpreter and its store stand together for a good state
pub record StandTogether {S I T : Type 0} (Agrees : I → Content → Type 0) (IsGood : T → Type 0) (content : S → Content) (state : I → Content → T)
    (h : Held S I) : Type 0 where
  pub agrees : Agrees h.interpreter (content h.store)
  pub good : IsGood (state_held content state h)

-- a machine that has a koid to give answers a line, and one that has none does not
abbrev pub HasKoidLeft : {T : Type 0} → Answering T → T → Type 0
HasKoidLeft m s = (m.content s).next < KOIDS

-- the line was answered from old to new, and the text of the replies stands at the front of the bytes, which else stay
pub record FitsIn {T : Type 0} (m : Answering T) (n : ℕ) (line : List ℕ) (old new : T) (before after : List ℕ) : Type 0 where
  pub koid : HasKoidLeft m old
  pub bound : n ≤ length after
  pub gives : m.Gives line old (take n after) new
  pub kept : drop n after ≡ drop n before

-- the line was answered from old to new, and the bytes, as many as before, are the front of a longer text
pub record IsLonger {T : Type 0} (m : Answering T) (line : List ℕ) (old new : T) (before after : List ℕ) : Type 0 where
  pub koid : HasKoidLeft m old
  pub rest : List ℕ
  pub left : 0 < length rest
  pub gives : m.Gives line old (after ++ rest) new
  pub as_many : length after ≡ length before

-- all koids were given, and nothing was done
pub record IsOutOfKoids {T : Type 0} (m : Answering T) (old new : T) (before after : List ℕ) : Type 0 where
  pub koids : KOIDS ≤ (m.content old).next
  pub same : new ≡ old
  pub kept : after ≡ before

-- what an answer says of the state before and after, and of the caller's bytes before and after
abbrev pub Answers : {T : Type 0} → Answering T → Result ℕ AnswerError → List ℕ → T → T → List ℕ → List ℕ → Type 0
Answers m (Ok n) line old new before after = FitsIn m n line old new before after
Answers m (Err OutOfRoom) line old new before after = IsLonger m line old new before after
Answers m (Err OutOfKoids) line old new before after = IsOutOfKoids m old new before after
