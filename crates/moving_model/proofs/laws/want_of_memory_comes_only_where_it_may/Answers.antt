use Rattle.moving_model.proofs.HostLaws.{lack_only, lack_may}
use Rattle.moving_model.proofs.laws.want_of_memory_comes_only_where_it_may.Goals as goal

pub returns-clause-only : goal.returns-clause-only
returns-clause-only c = lack_only

pub returns-clause-may : goal.returns-clause-may
returns-clause-may c = lack_may
