use Rattle.moving_model.proofs.StandingPinLaws.{pins_forth, pins_back}
use Rattle.moving_model.proofs.following.a_pin_is_one_of_all_that_it_stands_for.Goals as goal

pub returns-clause-forth : goal.returns-clause-forth
returns-clause-forth c = pins_forth

pub returns-clause-back : goal.returns-clause-back
returns-clause-back c = pins_back
