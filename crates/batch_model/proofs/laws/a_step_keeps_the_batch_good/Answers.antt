use Rattle.batch_model.proofs.GoodLaws.{BatchStep-keeps}
use Rattle.batch_model.proofs.laws.a_step_keeps_the_batch_good.Goals as goal

pub returns : goal.returns
returns c = BatchStep-keeps
