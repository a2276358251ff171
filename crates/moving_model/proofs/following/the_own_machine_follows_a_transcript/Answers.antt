use Rattle.moving_model.proofs.FollowingLaws.{follows_begin, follows_blank, follows_outside, follows_plain, follows_refused, follows_placed, follows_pinned, follows_left}
use Rattle.moving_model.proofs.following.the_own_machine_follows_a_transcript.Goals as goal

pub returns-clause-begins : goal.returns-clause-begins
returns-clause-begins c = follows_begin

pub returns-clause-blank : goal.returns-clause-blank
returns-clause-blank c = follows_blank

pub returns-clause-outside : goal.returns-clause-outside
returns-clause-outside c = follows_outside

pub returns-clause-plain : goal.returns-clause-plain
returns-clause-plain c = follows_plain

pub returns-clause-refused : goal.returns-clause-refused
returns-clause-refused c = follows_refused

pub returns-clause-pins : goal.returns-clause-pins
returns-clause-pins c = follows_pinned

pub returns-clause-left : goal.returns-clause-left
returns-clause-left c = follows_left

pub returns-clause-placed : goal.returns-clause-placed
returns-clause-placed c = follows_placed
