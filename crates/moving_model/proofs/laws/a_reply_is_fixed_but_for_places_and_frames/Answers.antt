use Rattle.moving_model.proofs.OutcomeLaws.{one_reply}
use Rattle.moving_model.proofs.laws.a_reply_is_fixed_but_for_places_and_frames.Goals as goal

pub returns : goal.returns
returns c = one_reply
