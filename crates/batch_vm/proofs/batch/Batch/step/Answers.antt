use Rattle.batch_vm.proofs.batch.Batch.step.Goals as goal

pub returns-clause-step : goal.returns-clause-step
returns-clause-step g c = rw (← c.lend.ensures, c.into_owned.ensures) c.answer.ensures.step
