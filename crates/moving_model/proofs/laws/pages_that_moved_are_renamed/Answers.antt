use Rattle.moving_model.proofs.MovedLaws.{moved-renamed, renamed-moved}
use Rattle.moving_model.proofs.laws.pages_that_moved_are_renamed.Goals as goal

pub returns-clause-renamed : goal.returns-clause-renamed
returns-clause-renamed c = moved-renamed

pub returns-clause-moved : goal.returns-clause-moved
returns-clause-moved c = renamed-moved
