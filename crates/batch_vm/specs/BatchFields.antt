-- How the fields of a `Batch` are seen, and what holds of them.
use Rattle.batch_model.specs.Batch.{AreGoodJobs}
use Rattle.batch_vm.specs.declared.batch.Batch.TheInside.{Inside}
use Rattle.batch_vm.specs.Batch.{BatchParts}
use Rattle.batch_vm.specs.Jobs.{jobs_of}

abbrev pub batch_parts_of : Inside → BatchParts
batch_parts_of a = record { vm = a.vm; jobs = a.jobs }

-- each job is of whole pages
pub record HasGoodJobs (a : Inside) : Type 0 where
  pub good : AreGoodJobs (jobs_of a.jobs)
