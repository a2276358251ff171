use Rattle.moving_model.proofs.StepLaws.{MachineStep-renamed}
use Rattle.moving_model.proofs.KeptLaws.{MachineStep-moved}
use Rattle.moving_model.proofs.laws.a_step_under_other_numbers_is_a_step.Goals as goal

pub returns-clause-renamed : goal.returns-clause-renamed
returns-clause-renamed c = MachineStep-renamed

pub returns-clause-same_reply : goal.returns-clause-same_reply
returns-clause-same_reply c = MachineStep-moved
