use Rattle.batch_model.proofs.GoodLaws.{begins_whole, whole-begun}
use Rattle.batch_model.proofs.laws.a_job_begins_whole.Goals as goal

pub returns-clause-begins : goal.returns-clause-begins
returns-clause-begins c = begins_whole

pub returns-clause-whole : goal.returns-clause-whole
returns-clause-whole c = whole-begun
