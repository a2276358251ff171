-- What a `Batch` is to its callers, and the machine with jobs that it and its store stand for.
use Rattle.std.specs.Prelude.{◌≡◌, ℕ, ◌+◌, ◌≤◌, true, false, Option, None, Some}
use Rattle.vm_base.specs.declared.names.VmoName.{VmoName}
use Rattle.vm_model.specs.Contents.Content.{Content}
use Rattle.vm_model.specs.Machine.State.{State, is_open, size_of}
use Rattle.vm_model.specs.Machine.Machine.{IsGoodMachine}
use Rattle.vm_core.specs.Vm.{Parts, machine_of, Agrees}
use Rattle.batch_model.specs.BatchWords.{BatchCommand, BatchReply}
use Rattle.batch_model.specs.Batch.{BatchState, BatchStep, AreGoodJobs}
use Rattle.batch_vm.specs.Jobs.{Jobs, jobs_of}

-- the parts of the machine, and the table of jobs
pub record BatchParts : Type 0 where
  pub vm : Parts
  pub jobs : Jobs

-- the machine that a store and the parts are, and the jobs
abbrev pub batch_of : Content → BatchParts → BatchState
batch_of c batch = record { machine = machine_of c batch.vm; jobs = jobs_of batch.jobs }

-- The store and the parts of the machine agree, and each job is of whole pages.
pub record AgreesBatch (c : Content) (batch : BatchParts) : Type 0 where
  pub vm : Agrees c batch.vm
  pub jobs : AreGoodJobs (jobs_of batch.jobs)

-- ---- what the handlers of commands promise

-- the size of a name in bytes, None exactly where it is not open
abbrev pub TellsSize : State → VmoName → Option ℕ → Type 0
TellsSize s name None = is_open s name.0 ≡ false
TellsSize s name (Some size) = (is_open s name.0 ≡ true) × (size ≡ size_of s name.0)

-- A store and the parts of a batch do a step of the machine with jobs, and agree and are good afterwards.
pub record DoesBatch (old : Content) (batch_old : BatchParts) (command : BatchCommand) (reply : BatchReply) (new : Content) (batch_new : BatchParts) : Type 0 where
  pub step : BatchStep (batch_of old batch_old) command reply (batch_of new batch_new)
  pub agrees : Agrees new batch_new.vm
  pub good : IsGoodMachine (machine_of new batch_new.vm)
  pub next : new.next ≤ old.next + 1
