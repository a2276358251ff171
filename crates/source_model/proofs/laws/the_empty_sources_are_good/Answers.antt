use Rattle.source_model.proofs.GoodLaws.{IsGoodSources-empty}
use Rattle.source_model.proofs.laws.the_empty_sources_are_good.Goals as goal

pub returns : goal.returns
returns c = IsGoodSources-empty
