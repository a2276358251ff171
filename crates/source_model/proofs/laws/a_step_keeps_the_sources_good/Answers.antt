use Rattle.source_model.proofs.GoodLaws.{SourceStep-keeps}
use Rattle.source_model.proofs.laws.a_step_keeps_the_sources_good.Goals as goal

pub returns-clause-good : goal.returns-clause-good
returns-clause-good c = λ old new command reply good step. (SourceStep-keeps old new command reply good step).good

pub returns-clause-koids : goal.returns-clause-koids
returns-clause-koids c = λ old new command reply good step. (SourceStep-keeps old new command reply good step).next
