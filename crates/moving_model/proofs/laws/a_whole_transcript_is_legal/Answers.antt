use Rattle.moving_model.proofs.TranscriptLaws.{whole-legal, legal-whole}
use Rattle.moving_model.proofs.laws.a_whole_transcript_is_legal.Goals as goal

pub returns-clause-legal : goal.returns-clause-legal
returns-clause-legal c = whole-legal

pub returns-clause-whole : goal.returns-clause-whole
returns-clause-whole c = legal-whole
