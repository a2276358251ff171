-- What a room is to its callers: the machine, the tasks of the actors, and what they did.
use Rattle.std.specs.Prelude.{◌≡◌, ℕ, ◌+◌, ◌^◌, ◌<◌, ◌≤◌, ◌==◌, Bool, true, false, List, [], ◌∷◌, ◌++◌, length, if◌then◌else◌}
use Rattle.vm_base.specs.declared.limits.TheConstants.{ACTOR_MAX}
use Rattle.vm_model.specs.Contents.Content.{Content}
use Rattle.vm_model.specs.Machine.Words.{Reply}
use Rattle.vm_model.specs.Machine.Machine.{Machine}
use Rattle.vm_core.specs.Vm.{Parts, Agrees, machine_of}
use Rattle.shared_vm.specs.declared.counts.Counts.{Counts}
use Rattle.shared_vm.specs.declared.task.Task.{Task}
use Rattle.shared_vm.specs.declared.task.Deed.{Deed}
use Rattle.shared_vm.specs.Tasks.{Lists, tasks_of, task_count}
use Rattle.shared_vm.specs.Journal.{done_by, Spare, IsNextTask, DoesTask, JournalRun}
use Rattle.shared_vm.specs.inside.Asking.{bytes_asked, numbers_asked, left_asked}

-- A machine began with so many frames, the actors have tasks and did some of them, and the machine's parts and its store are
-- what these deeds led to. S is the type of the store.
pub record Session (S : Type 0) : Type 0 where
  pub frames : ℕ
  pub lists : Lists
  pub journal : List Deed
  pub vm : Parts
  pub store : S

-- the machine that the parts and the store stand for
abbrev pub session_machine : {S : Type 0} → (S → Content) → Session S → Machine
session_machine content s = machine_of (content s.store) s.vm

-- the journal is a run that ends in this machine
abbrev pub IsLegal : {S : Type 0} → (S → Content) → Session S → Type 0
IsLegal content s = JournalRun s.frames s.lists s.journal (session_machine content s)

-- the count of an actor
abbrev pub actor_count : Counts → ℕ → ℕ
actor_count done actor = if actor == 0 then done.a0 else (if actor == 1 then done.a1 else (if actor == 2 then done.a2 else done.a3))

-- one more for an actor
abbrev pub raised : Counts → ℕ → Counts
raised done actor =
    if actor == 0 then record done { a0 = done.a0 + 1 }
    else (if actor == 1 then record done { a1 = done.a1 + 1 }
    else (if actor == 2 then record done { a2 = done.a2 + 1 } else record done { a3 = done.a3 + 1 }))

-- What holds of every room: the journal is a run, the deeds of each actor are counted, the journal has room for the deeds of the
-- tasks that are left and for the data of their replies, and the machine agrees with its store and gave a koid for a deed at
-- most.
pub record IsRoom {S : Type 0} (content : S → Content) (s : Session S) (done : Counts) (spare : Spare) : Type 0 where
  pub legal : IsLegal content s
  pub agrees : Agrees (content s.store) s.vm
  pub koids : (content s.store).next ≤ 1 + length s.journal
  pub few : task_count s.lists < 2 ^ 32
  pub counted : (actor : ℕ) → actor ≤ ACTOR_MAX → actor_count done actor ≡ done_by actor s.journal
  pub within : (actor : ℕ) → actor ≤ ACTOR_MAX → actor_count done actor ≤ length (tasks_of s.lists actor)
  pub all : length s.journal ≡ done.a0 + done.a1 + done.a2 + done.a3
  pub room : task_count s.lists ≤ length s.journal + spare.deeds
  pub bytes : left_asked bytes_asked s.lists done ≤ spare.bytes
  pub numbers : left_asked numbers_asked s.lists done ≤ spare.numbers

-- the actor did its next task, and one deed more tells it
pub record TurnsOnce {S : Type 0} (content : S → Content) (old new : Session S) (actor : ℕ) : Type 0 where
  pub reply : Reply
  pub task : Task
  pub next : IsNextTask old.lists old.journal (record { actor = actor; reply = reply }) task
  pub does : DoesTask task reply (session_machine content old) (session_machine content new)
  pub journal : new.journal ≡ old.journal ++ record { actor = actor; reply = reply } ∷ []
  pub lists : new.lists ≡ old.lists
  pub frames : new.frames ≡ old.frames

-- a turn of an actor: it did a task, or it had none left
abbrev pub TakesTurn : {S : Type 0} → (S → Content) → Session S → Session S → ℕ → Bool → Type 0
TakesTurn content old new actor true = TurnsOnce content old new actor
TakesTurn content old new actor false = (new ≡ old) × (done_by actor old.journal ≡ length (tasks_of old.lists actor))
