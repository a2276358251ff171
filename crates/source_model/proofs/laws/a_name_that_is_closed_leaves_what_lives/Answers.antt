use Rattle.source_model.specs.declared.command.SourceCommand.TheVariants.{Close}
use Rattle.source_model.proofs.GoodLaws.{SourceStep-keeps}
use Rattle.source_model.proofs.ClosedLaws.{closed_stays}
use Rattle.source_model.proofs.laws.a_name_that_is_closed_leaves_what_lives.Goals as goal

pub returns-clause-lives : goal.returns-clause-lives
returns-clause-lives c = λ old new name reply good step. (SourceStep-keeps old new (Close name) reply good step).good.live

pub returns-clause-stays : goal.returns-clause-stays
returns-clause-stays c = closed_stays
