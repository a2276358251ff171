use Rattle.batch_model.proofs.StepLaws.{MachineRun-from_batch, last_machine-from_batch}
use Rattle.batch_model.proofs.laws.a_run_is_one_of_the_machine.Goals as goal

pub returns-clause-run : goal.returns-clause-run
returns-clause-run c = MachineRun-from_batch

pub returns-clause-last : goal.returns-clause-last
returns-clause-last c = last_machine-from_batch
