use Rattle.moving_model.proofs.RunLaws.{MovingLegal-from}
use Rattle.moving_model.proofs.laws.what_is_legal_is_legal_where_pages_move.Goals as goal

pub returns : goal.returns
returns c = MovingLegal-from
