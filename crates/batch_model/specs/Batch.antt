-- A machine with jobs, and its step. A plain command and a piece of a job are each one step of the machine, so that all that may
-- refuse the plain command may refuse the piece, want of memory too.
use Rattle.std.specs.Prelude.{◌≡◌, ℕ, ◌+◌, ◌*◌, ◌/◌, ◌%◌, ◌≤◌, Bool, true, false, not, ◌&&◌, ◌||◌, ◌==◌, nat_lt, List, [], ◌∷◌, if◌then◌else◌, Option, None, Some, is_some, ◌⊎◌}
use Rattle.vm_base.specs.Entries.{with_key, without_key}
use Rattle.vm_base.specs.declared.limits.TheConstants.{PAGE, VMO_PAGES}
use Rattle.vm_base.specs.declared.refusal.Refusal.{Refusal}
use Rattle.vm_base.specs.declared.refusal.Refusal.TheVariants.{BadHandle, NameInUse, InvalidArgs, OutOfRange, HostMemory}
use Rattle.vm_model.specs.Machine.Words.{Command, Reply}
use Rattle.vm_model.specs.declared.reply.Reply.TheVariants.{Done, Refused}
use Rattle.vm_model.specs.Language.Spelling.{HasRanges}
use Rattle.vm_model.specs.Machine.State.{is_open, size_of}
use Rattle.vm_model.specs.Machine.Refusals.{first_of}
use Rattle.vm_model.specs.Machine.Machine.{Machine, empty_machine, IsGoodMachine}
use Rattle.vm_model.specs.Machine.MachineStep.{MachineStep}
use Rattle.batch_model.specs.declared.job.Job.{Job}
use Rattle.batch_model.specs.BatchWords.{BatchCommand, BatchReply}
use Rattle.batch_model.specs.declared.command.BatchCommand.TheVariants.{Plain as PlainCommand, Begin, Step, Drop}
use Rattle.batch_model.specs.declared.command.BatchReply.TheVariants.{Plain as PlainReply, Left}
use Rattle.batch_model.specs.Pieces.{begun, left_of, piece_of, advanced, IsOfPages}

-- the machine, and the jobs that are there, by their names
pub record BatchState : Type 0 where
  pub machine : Machine
  pub jobs : ℕ → Option Job

-- a machine with this many frames and nothing else, and no jobs
unfoldable pub empty_batch : ℕ → BatchState
empty_batch frames = record { machine = empty_machine frames; jobs = λ n. None }

-- ---- when a command is refused

-- The refusals of a command, in their order. Those of a plain command are the machine's, and so are those of a piece, which come
-- behind these
abbrev pub batch_refusals : BatchState → BatchCommand → List (Bool × Refusal)
batch_refusals old (PlainCommand command) = []
batch_refusals old (Begin job kind name offset len) =
    (not (is_open old.machine.state name.0), BadHandle)
    ∷ (is_some (old.jobs job.0), NameInUse)
    ∷ (not (offset % PAGE == 0 && len % PAGE == 0) || len == 0, InvalidArgs)
    ∷ (nat_lt (size_of old.machine.state name.0) (offset + len), OutOfRange)
    ∷ []
batch_refusals old (Step job pages) =
    (not (is_some (old.jobs job.0)), BadHandle)
    ∷ (pages == 0, InvalidArgs)
    ∷ []
batch_refusals old (Drop job) = (not (is_some (old.jobs job.0)), BadHandle) ∷ []

-- ---- what a command does where nothing refuses it

-- a plain command is one step of the machine, and the jobs stay as they are
pub record DoesPlain (old : BatchState) (command : Command) (reply : BatchReply) (new : BatchState) : Type 0 where
  pub answer : Reply
  pub step : MachineStep old.machine command answer new.machine
  pub is : reply ≡ PlainReply answer
  pub jobs : new.jobs ≡ old.jobs

-- the jobs once a job has got so far: it goes where no page of it is left
unfoldable pub jobs_after : (ℕ → Option Job) → ℕ → Job → ℕ → Option Job
jobs_after jobs name job = if left_of job == 0 then without_key jobs name else with_key jobs name job

-- What the step of a job answers, and which jobs are there then, by the machine's answer to the piece. Where the piece is done,
-- the job has got as far as this. Else the answer is the machine's, and the job is as it was
abbrev pub PieceGives : (answer : Reply) → (ℕ → Option Job) → ℕ → Job → BatchReply → (ℕ → Option Job) → Type 0
PieceGives Done jobs name job reply after = (reply ≡ Left (left_of job)) × (after ≡ jobs_after jobs name job)
PieceGives answer jobs name job reply after = (reply ≡ PlainReply answer) × (after ≡ jobs)

-- the plain command on the next so many pages of the job is one step of the machine
pub record DoesPiece (old : BatchState) (name pages : ℕ) (reply : BatchReply) (new : BatchState) : Type 0 where
  pub job : Job
  pub is : old.jobs name ≡ Some job
  pub answer : Reply
  pub step : MachineStep old.machine (piece_of job pages) answer new.machine
  pub gives : PieceGives answer old.jobs name (advanced job pages) reply new.jobs

abbrev pub BatchEffect : BatchState → BatchCommand → BatchReply → BatchState → Type 0
BatchEffect old (PlainCommand command) reply new = DoesPlain old command reply new
BatchEffect old (Begin job kind name offset len) reply new =
    (reply ≡ Left (len / PAGE)) × (new ≡ record old { jobs = with_key old.jobs job.0 (begun kind name offset len) })
BatchEffect old (Step job pages) reply new = DoesPiece old job.0 pages reply new
BatchEffect old (Drop job) reply new =
    (reply ≡ PlainReply Done) × (new ≡ record old { jobs = without_key old.jobs job.0 })

-- ---- one step

-- The command may want memory of the host itself, to keep a job. A plain command and a piece may want what their step of the
-- machine may
abbrev pub wants_memory : BatchCommand → Bool
wants_memory (Begin job kind name offset len) = true
wants_memory command = false

-- nothing changes, and the reply is this refusal
pub record IsRefusedBatch (old : BatchState) (refusal : Refusal) (reply : BatchReply) (new : BatchState) : Type 0 where
  pub answer : reply ≡ PlainReply (Refused refusal)
  pub same : new ≡ old

abbrev pub BatchStepAfter : Option Refusal → BatchState → BatchCommand → BatchReply → BatchState → Type 0
BatchStepAfter (Some refusal) old command reply new = IsRefusedBatch old refusal reply new
BatchStepAfter None old command reply new =
    BatchEffect old command reply new ⊎ (IsRefusedBatch old HostMemory reply new × (wants_memory command ≡ true))

-- From old, the machine with jobs may give this reply to the command and go on to new.
pub record BatchStep (old : BatchState) (command : BatchCommand) (reply : BatchReply) (new : BatchState) : Type 0 where
  pub outcome : BatchStepAfter (first_of (batch_refusals old command)) old command reply new

-- ---- what holds of every machine with jobs that is come to

-- a job is of whole pages, and ends inside the greatest VMO
pub record IsGoodJob (job : Job) : Type 0 where
  pub pages : IsOfPages job
  pub few : job.end ≤ VMO_PAGES * PAGE

-- each job is
abbrev pub AreGoodJobs : (ℕ → Option Job) → Type 0
AreGoodJobs jobs = (n : ℕ) (job : Job) → jobs n ≡ Some job → IsGoodJob job

pub record IsGoodBatch (batch : BatchState) : Type 0 where
  pub machine : IsGoodMachine batch.machine
  pub jobs : AreGoodJobs batch.jobs

-- the fields of a plain command are within their types
abbrev pub HasBatchRanges : BatchCommand → Type 0
HasBatchRanges (PlainCommand command) = HasRanges command
HasBatchRanges command = Unit {0}
