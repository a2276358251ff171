use Rattle.std.proofs.Common.{ap, arith}
use Rattle.vm_model.specs.Contents.Content.{nothing}
use Rattle.batch_model.specs.Batch.{BatchState}
use Rattle.batch_vm.proofs.BatchLaws.{no_jobs}
use Rattle.batch_vm.proofs.LineLaws.{fresh, IsGoodBatch-empty}
use Rattle.batch_vm.proofs.interpreter.BatchInterpreter.new.Goals as goal

pub returns-clause-agrees : goal.returns-clause-agrees
returns-clause-agrees c = λ frames. let start = fresh frames in record {
  vm = c.new.ensures.agrees _ start.0 (omega (arith, start.1));
  jobs = no_jobs _ (ap (λ (b : BatchState). b.jobs) (c.new.ensures.bare (record nothing { frames = frames })));
}

pub returns-clause-empty : goal.returns-clause-empty
returns-clause-empty c = λ frames. let start = fresh frames in c.new.ensures.empty _ start.0 start.1

pub returns-clause-good : goal.returns-clause-good
returns-clause-good c = IsGoodBatch-empty
