use Rattle.std.proofs.Common.{refl}
use Rattle.page_list.proofs.FilterLaws.{more-same}
use Rattle.page_list.proofs.filter.Filter.note_gone.Goals as goal

pub returns : goal.returns
returns c = more-same _ _ refl refl
