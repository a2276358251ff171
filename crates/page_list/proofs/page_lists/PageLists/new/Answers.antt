use Rattle.balanced_tree.proofs.PairLaws.{values-none}
use Rattle.page_list.proofs.SlotLaws.{row_pairs}
use Rattle.page_list.proofs.FilterLaws.{filtered-none}
use Rattle.page_list.proofs.page_lists.PageLists.new.Goals as goal

pub returns-clause-slots : goal.returns-clause-slots
returns-clause-slots c = values-none row_pairs c.new.result.rows c.new.ensures.rows

pub invariant_of-result : goal.invariant_of-result
invariant_of-result c = filtered-none _ c.new.result c.new.ensures.rows
