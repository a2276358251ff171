-- The table of jobs, as its callers see it.
use Rattle.std.specs.Prelude.{ℕ, Option}
use Rattle.pair_map.specs.declared.pair_map.PairMap.{PairMap}
use Rattle.pair_map.specs.Maps.{values_of}
use Rattle.batch_model.specs.declared.job.Job.{Job}

-- the values of the map of jobs, each under its number and 0
abbrev pub Jobs : Type 0
Jobs = PairMap Job

-- the jobs that are there, by the numbers of their names
abbrev pub jobs_of : Jobs → ℕ → Option Job
jobs_of table n = values_of table n 0
