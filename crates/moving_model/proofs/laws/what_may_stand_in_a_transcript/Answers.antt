use Rattle.moving_model.proofs.TranscriptLaws.{none_whole, whole_possible, was_possible, line_may}
use Rattle.moving_model.proofs.laws.what_may_stand_in_a_transcript.Goals as goal

pub returns-clause-none : goal.returns-clause-none
returns-clause-none c = none_whole

pub returns-clause-whole : goal.returns-clause-whole
returns-clause-whole c = whole_possible

pub returns-clause-before : goal.returns-clause-before
returns-clause-before c = was_possible

pub returns-clause-asked : goal.returns-clause-asked
returns-clause-asked c = line_may
