-- Jobs: range operations on whole pages of a name that are done a few pages at a time. A piece of a job is the range operation
-- on some of its pages. From the kernel's range operations, of which a caller may do a part after another.
use Rattle.std.specs.Prelude.{◌≡◌, ℕ, ◌+◌, ◌-◌, ◌*◌, ◌/◌, ◌%◌, ◌<◌, min}
use Rattle.vm_base.specs.declared.limits.TheConstants.{PAGE}
use Rattle.vm_base.specs.declared.names.VmoName.{VmoName}
use Rattle.vm_model.specs.Machine.Words.{Command}
use Rattle.vm_model.specs.declared.command.Command.TheVariants.{VmoCommit, VmoZero, VmoDecommit}
use Rattle.batch_model.specs.declared.job.JobKind.{JobKind}
use Rattle.batch_model.specs.declared.job.JobKind.TheVariants.{Commit, Zero, Decommit}
use Rattle.batch_model.specs.declared.job.Job.{Job}

-- the plain command of a kind of job on a range
abbrev pub plain_command : JobKind → VmoName → ℕ → ℕ → Command
plain_command Commit name offset len = VmoCommit name offset len
plain_command Zero name offset len = VmoZero name offset len
plain_command Decommit name offset len = VmoDecommit name offset len

-- a job as it begins: all of its range is left
abbrev pub begun : JobKind → VmoName → ℕ → ℕ → Job
begun kind name offset len = record { kind = kind; name = name; next = offset; end = offset + len }

-- how many pages of a job are left
abbrev pub left_of : Job → ℕ
left_of job = (job.end - job.next) / PAGE

-- the bytes of the next so many pages of a job, or of all that are left where these are fewer
abbrev pub piece_len : Job → ℕ → ℕ
piece_len job pages = min (pages * PAGE) (job.end - job.next)

-- the plain command on these pages
abbrev pub piece_of : Job → ℕ → Command
piece_of job pages = plain_command job.kind job.name job.next (piece_len job pages)

-- the plain command on all that is left
abbrev pub whole_of : Job → Command
whole_of job = plain_command job.kind job.name job.next (job.end - job.next)

-- the job once these pages are done
abbrev pub advanced : Job → ℕ → Job
advanced job pages = record job { next = job.next + piece_len job pages }

-- What holds of every job that is there: some pages are left, and it begins and ends with whole pages.
pub record IsOfPages (job : Job) : Type 0 where
  pub begins : job.next % PAGE ≡ 0
  pub ends : job.end % PAGE ≡ 0
  pub some : job.next < job.end
