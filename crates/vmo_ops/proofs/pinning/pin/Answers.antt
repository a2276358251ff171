use Rattle.vmo_ops.proofs.pinning.pin.Goals as goal

pub returns-in-Ok-clause-step : goal.returns-in-Ok-clause-step
returns-in-Ok-clause-step g c = rw c.to_numbers.ensures c.in-Ok.ensures.step
