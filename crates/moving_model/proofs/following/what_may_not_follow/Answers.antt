use Rattle.moving_model.proofs.FollowingLaws.{none_due, answer_only, asked_only}
use Rattle.moving_model.proofs.following.what_may_not_follow.Goals as goal

pub returns-clause-due : goal.returns-clause-due
returns-clause-due c = none_due

pub returns-clause-answered : goal.returns-clause-answered
returns-clause-answered c = answer_only

pub returns-clause-asked : goal.returns-clause-asked
returns-clause-asked c = asked_only
