use Rattle.moving_model.proofs.AnswerLaws.{has_reply}
use Rattle.moving_model.proofs.laws.each_command_has_a_reply.Goals as goal

pub returns : goal.returns
returns c = has_reply
