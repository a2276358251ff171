use Rattle.balanced_tree.proofs.PairLaws.{values-taken, length-taken, row-there, value-found}
use Rattle.page_list.proofs.SlotLaws.{row_pairs, seen_rows}
use Rattle.page_list.proofs.FilterLaws.{filtered-taken}
use Rattle.page_list.proofs.page_lists.PageLists.remove.Goals as goal

pub remove-requires : goal.remove-requires
remove-requires c = row-there row_pairs _ _ (seen_rows c.self.view_is) c.args.list.0 c.args.page _ c.ranges.page.fits c.pair_rank.ensures c.requires

pub returns-clause-slot : goal.returns-clause-slot
returns-clause-slot c = value-found row_pairs _ _ (seen_rows c.self.view_is) c.args.list.0 c.args.page _ c.ranges.page.fits c.pair_rank.ensures c.remove.result c.remove.ensures.row

pub returns-clause-slots : goal.returns-clause-slots
returns-clause-slots c = values-taken row_pairs _ _ (seen_rows c.self.view_is) c.args.list.0 c.args.page _ c.ranges.page.fits c.pair_rank.ensures c.remove.new.self.rows c.remove.ensures.rows

pub returns-clause-count : goal.returns-clause-count
returns-clause-count c =
    length-taken row_pairs _ _ (seen_rows c.self.view_is) c.args.list.0 c.args.page _ c.ranges.page.fits c.pair_rank.ensures c.remove.new.self.rows c.len-rising.ensures.rising c.remove.ensures.rows c.requires

pub invariant_of-self : goal.invariant_of-self
invariant_of-self c =
    filtered-taken c.self.invariant c.note_gone.ensures c.remove.new.self c.args.list.0 c.args.page _ c.ranges.page.fits c.pair_rank.ensures c.remove.ensures.rows
