use Rattle.moving_model.proofs.StandingLaws.{stands_forth, stands_back}
use Rattle.moving_model.proofs.following.a_step_is_one_of_all_that_it_stands_for.Goals as goal

pub returns-clause-forth : goal.returns-clause-forth
returns-clause-forth c = stands_forth

pub returns-clause-back : goal.returns-clause-back
returns-clause-back c = stands_back
