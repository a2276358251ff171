-- What the actors did, one deed after another, as a run of the machine.
use Rattle.std.specs.Prelude.{◌≡◌, ℕ, ◌+◌, ◌<◌, ◌≤◌, ◌==◌, List, [], ◌∷◌, ◌++◌, length, if◌then◌else◌, Some, slice_get}
use Rattle.vm_base.specs.declared.limits.TheConstants.{ACTOR_MAX}
use Rattle.vm_base.specs.declared.refusal.Refusal.TheVariants.{Syntax}
use Rattle.vm_model.specs.Machine.Words.{Reply}
use Rattle.vm_model.specs.declared.reply.Reply.TheVariants.{Bytes, Access, Pins, Refused}
use Rattle.vm_model.specs.Machine.Machine.{Machine, empty_machine}
use Rattle.vm_model.specs.Machine.MachineStep.{MachineStep}
use Rattle.shared_vm.specs.declared.task.Task.{Task}
use Rattle.shared_vm.specs.declared.task.Deed.{Deed}
use Rattle.shared_vm.specs.Tasks.{Lists, tasks_of}

-- one, if the deed is the actor's
abbrev pub one_by : ℕ → Deed → ℕ
one_by actor deed = if deed.actor == actor then 1 else 0

-- how many of the deeds are the actor's
abbrev pub done_by : ℕ → List Deed → ℕ
done_by actor [] = 0
done_by actor (deed ∷ deeds) = one_by actor deed + done_by actor deeds

-- the bytes that a reply has as its data
abbrev pub data_bytes : Reply → ℕ
data_bytes (Bytes bytes) = length bytes
data_bytes (Access faults bytes) = length bytes
data_bytes reply = 0

-- the numbers that a reply has as its data
abbrev pub data_numbers : Reply → ℕ
data_numbers (Pins numbers) = length numbers
data_numbers reply = 0

-- for how many further deeds there is room, and for how many bytes and numbers of their replies together
pub record Spare : Type 0 where
  pub deeds : ℕ
  pub bytes : ℕ
  pub numbers : ℕ

-- there is room for a deed with this reply
pub record Suffices (spare : Spare) (reply : Reply) : Type 0 where
  pub deed : 0 < spare.deeds
  pub bytes : data_bytes reply ≤ spare.bytes
  pub numbers : data_numbers reply ≤ spare.numbers

-- a deed with this reply took no more room than it needs
pub record Leaves (old : Spare) (reply : Reply) (new : Spare) : Type 0 where
  pub deeds : old.deeds ≤ new.deeds + 1
  pub bytes : old.bytes ≤ new.bytes + data_bytes reply
  pub numbers : old.numbers ≤ new.numbers + data_numbers reply

-- from old, the task may have this reply and lead to new
abbrev pub DoesTask : Task → Reply → Machine → Machine → Type 0
DoesTask (Task.Order command) reply old new = MachineStep old command reply new
DoesTask Task.Outside reply old new = (reply ≡ Refused Syntax) × (new ≡ old)

-- a deed of an actor is that one of its tasks which comes next behind its earlier deeds
abbrev pub IsNextTask : Lists → List Deed → Deed → Task → Type 0
IsNextTask lists earlier deed task = slice_get (tasks_of lists deed.actor) (done_by deed.actor earlier) ≡ Some task

-- behind earlier deeds, and from old, these deeds may follow, and lead to last
abbrev pub RunsOn : Lists → List Deed → Machine → List Deed → Machine → Type 0
RunsOn lists earlier old [] last = last ≡ old
RunsOn lists earlier old (deed ∷ deeds) last =
    (task : Task) × (mid : Machine) × (deed.actor ≤ ACTOR_MAX) × IsNextTask lists earlier deed task
    × DoesTask task deed.reply old mid × RunsOn lists (earlier ++ deed ∷ []) mid deeds last

-- On a machine with this many frames and nothing else, the actors may have done these deeds, each in the order of its own
-- tasks, and they lead to last.
pub record JournalRun (frames : ℕ) (lists : Lists) (journal : List Deed) (last : Machine) : Type 0 where
  pub run : RunsOn lists [] (empty_machine frames) journal last

-- each actor has as many deeds as tasks
abbrev pub IsWholeJournal : Lists → List Deed → Type 0
IsWholeJournal lists journal = (actor : ℕ) → actor ≤ ACTOR_MAX → done_by actor journal ≡ length (tasks_of lists actor)
