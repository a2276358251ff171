use Rattle.moving_model.proofs.RunLaws.{Legal-from_moving}
use Rattle.moving_model.proofs.laws.moves_are_not_seen_where_no_frames_are_told.Goals as goal

pub returns : goal.returns
returns c = Legal-from_moving
