use Rattle.batch_model.specs.Batch.{empty_batch}
use Rattle.batch_vm.proofs.BatchLaws.{no_jobs}
use Rattle.batch_vm.proofs.batch.Batch.new.Goals as goal

pub invariant_of-result : goal.invariant_of-result
invariant_of-result c = record { good = no_jobs _ c.new-2.ensures }

pub returns-clause-bare : goal.returns-clause-bare
returns-clause-bare c = λ d i. record { machine = c.new.ensures.bare d i; jobs = c.new-2.ensures i }

pub returns-clause-empty : goal.returns-clause-empty
unfolding empty_batch
returns-clause-empty c = λ d none first i. record { machine = c.new.ensures.empty d none first i; jobs = c.new-2.ensures i }
