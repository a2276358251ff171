use Rattle.std.proofs.Common.{refl}
use Rattle.page_list.proofs.FilterLaws.{more-same, filtered-more}
use Rattle.page_list.proofs.filter.Filter.count_left.Goals as goal

pub returns : goal.returns
returns c = filtered-more c.requires (more-same _ _ refl refl)
