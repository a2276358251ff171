use Rattle.moving_model.proofs.ReadingLaws.{reading_gives}
use Rattle.moving_model.proofs.laws.a_line_gives_a_name_that_there_is.Goals as goal

pub returns : goal.returns
returns c = reading_gives
