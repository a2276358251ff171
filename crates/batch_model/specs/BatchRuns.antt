-- Lists of steps, of a machine with jobs and of the machine alone, and which part of its range each piece of a job does.
use Rattle.std.specs.Prelude.{◌≡◌, ◌≢◌, ℕ, ◌+◌, ◌<◌, ◌%◌, Bool, false, ◌==◌, List, [], ◌∷◌, ◌++◌, cond, if◌then◌else◌, Option, None, Some, IsSome, ◌⊎◌}
use Rattle.std.specs.List.{AllByRecursion}
use Rattle.vm_base.specs.declared.limits.TheConstants.{PAGE}
use Rattle.vm_base.specs.declared.refusal.Refusal.TheVariants.{HostMemory}
use Rattle.vm_model.specs.Machine.Words.{Command, Reply}
use Rattle.vm_model.specs.declared.reply.Reply.TheVariants.{Done, Refused}
use Rattle.vm_model.specs.Contents.Zeroing.{is_whole}
use Rattle.vm_model.specs.Machine.Machine.{Machine}
use Rattle.vm_model.specs.Machine.MachineStep.{MachineStep}
use Rattle.batch_model.specs.declared.job.Job.{Job}
use Rattle.batch_model.specs.BatchWords.{BatchCommand, BatchReply}
use Rattle.batch_model.specs.declared.command.BatchCommand.TheVariants.{Plain as PlainCommand, Step, Drop}
use Rattle.batch_model.specs.declared.command.BatchReply.TheVariants.{Plain as PlainReply, Left}
use Rattle.batch_model.specs.Pieces.{piece_len, piece_of}
use Rattle.batch_model.specs.Batch.{BatchState, BatchStep}

-- ---- steps, one after another

-- a command, the reply to it, and the machine with jobs after it
pub record BatchEvent : Type 0 where
  pub command : BatchCommand
  pub reply : BatchReply
  pub after : BatchState

-- from old, each event is a step
abbrev pub BatchRun : BatchState → List BatchEvent → Type 0
BatchRun old [] = Unit {0}
BatchRun old (event ∷ events) = BatchStep old event.command event.reply event.after × BatchRun event.after events

-- where the events lead to
abbrev pub last_batch : BatchState → List BatchEvent → BatchState
last_batch old [] = old
last_batch old (event ∷ events) = last_batch event.after events

-- ---- the steps of the machine among them

-- a command, the reply to it, and the machine after it
pub record MachineEvent : Type 0 where
  pub command : Command
  pub reply : Reply
  pub after : Machine

-- from old, each event is a step of the machine
abbrev pub MachineRun : Machine → List MachineEvent → Type 0
MachineRun old [] = Unit {0}
MachineRun old (event ∷ events) = MachineStep old event.command event.reply event.after × MachineRun event.after events

-- where the events lead to
abbrev pub last_machine : Machine → List MachineEvent → Machine
last_machine old [] = old
last_machine old (event ∷ events) = last_machine event.after events

-- what the machine answers, where the machine with jobs answers this
abbrev pub machine_reply : BatchReply → Reply
machine_reply (PlainReply reply) = reply
machine_reply (Left pages) = Done

-- the piece that a step of so many pages does of a job, if it is there and they are some
abbrev pub piece_events : (none : Bool) → Option Job → (pages : ℕ) → BatchReply → Machine → List MachineEvent
piece_events false (Some job) pages reply after = record { command = piece_of job pages; reply = machine_reply reply; after = after } ∷ []
piece_events _ _ pages reply after = []

-- the step of the machine that a command is: itself where it is a plain one, and its piece where it is a step of a job
abbrev pub events_of : BatchState → BatchCommand → BatchReply → Machine → List MachineEvent
events_of old (PlainCommand command) reply after = record { command = command; reply = machine_reply reply; after = after } ∷ []
events_of old (Step job pages) reply after = piece_events (pages == 0) (old.jobs job.0) pages reply after
events_of old command reply after = []

-- the plain commands and the pieces, in their order
abbrev pub machine_events : BatchState → List BatchEvent → List MachineEvent
machine_events old [] = []
machine_events old (event ∷ events) = events_of old event.command event.reply event.after.machine ++ machine_events event.after events

-- ---- the parts of its range that a job does

-- so many bytes of a name, from an offset on
pub record Part : Type 0 where
  pub first : ℕ
  pub len : ℕ

-- the part that a piece of a job does
abbrev pub part_of : Option Job → (pages : ℕ) → List Part
part_of None pages = []
part_of (Some job) pages = record { first = job.next; len = piece_len job pages } ∷ []

-- the part that a command does of the job of this name: it is a step of this job, and is not refused
abbrev pub parts_of_job : ℕ → BatchState → BatchCommand → BatchReply → List Part
parts_of_job name old (Step job pages) (Left left) = if job.0 == name then part_of (old.jobs name) pages else []
parts_of_job name old command reply = []

-- the parts that a job does in a run, in their order
abbrev pub job_parts : ℕ → BatchState → List BatchEvent → List Part
job_parts name old [] = []
job_parts name old (event ∷ events) = parts_of_job name old event.command event.reply ++ job_parts name event.after events

-- the job of this name is there before each event, and none of them gives it up
abbrev pub Lasts : ℕ → BatchState → List BatchEvent → Type 0
Lasts name old [] = Unit {0}
Lasts name old (event ∷ events) = IsSome (old.jobs name) × (event.command ≢ Drop (record { 0 = name })) × Lasts name event.after events

-- The parts are whole pages, and each begins where the one before it ends: the first at `first`, and the last ends at `end`.
abbrev pub Tiles : (first : ℕ) → List Part → (end : ℕ) → Type 0
Tiles first [] end = first ≡ end
Tiles first (part ∷ parts) end = (part.first ≡ first) × (0 < part.len) × (part.len % PAGE ≡ 0) × Tiles (first + part.len) parts end

-- in how many of the parts page p lies
abbrev pub times_in : ℕ → List Part → ℕ
times_in p [] = 0
times_in p (part ∷ parts) = cond (is_whole part.first part.len p) 1 0 + times_in p parts

-- ---- the steps of one job, with no other command between

-- each event is a step of the job of this name, which is there, and of some pages
abbrev pub AreTurns : ℕ → BatchState → List BatchEvent → Type 0
AreTurns name old [] = Unit {0}
AreTurns name old (event ∷ events) =
    IsSome (old.jobs name) × ((pages : ℕ) × (pages ≢ 0) × (event.command ≡ Step (record { 0 = name }) pages)) × AreTurns name event.after events

-- no event is refused, but for want of the host's memory
abbrev pub NoneRefused : List BatchEvent → Type 0
NoneRefused events =
    AllByRecursion (λ (event : BatchEvent). ((left : ℕ) × (event.reply ≡ Left left)) ⊎ (event.reply ≡ PlainReply (Refused HostMemory))) events
