use Rattle.std.proofs.Common.{refl}
use Rattle.page_list.proofs.FilterLaws.{more-same}
use Rattle.page_list.proofs.filter.Filter.clear.Goals as goal

pub returns-in_default : goal.returns-in_default
returns-in_default c = more-same _ _ c.reserve_exact.ensures.items refl
