use Rattle.moving_model.proofs.FollowingLaws.{seen_begin}
use Rattle.moving_model.proofs.StandingLaws.{seen_left}
use Rattle.moving_model.proofs.StandingPinLaws.{pins_seen}
use Rattle.moving_model.proofs.following.what_was_seen_is_of_pinned_pages.Goals as goal

pub returns-clause-begins : goal.returns-clause-begins
returns-clause-begins c = seen_begin

pub returns-clause-left : goal.returns-clause-left
returns-clause-left c = seen_left

pub returns-clause-pins : goal.returns-clause-pins
returns-clause-pins c = pins_seen
