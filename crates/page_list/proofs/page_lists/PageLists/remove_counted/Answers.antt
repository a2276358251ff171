use Rattle.balanced_tree.proofs.PairLaws.{values-taken, length-taken, row-there, value-found}
use Rattle.page_list.proofs.SlotLaws.{row_pairs, seen_rows}
use Rattle.page_list.proofs.FilterLaws.{filtered-taken}
use Rattle.page_list.proofs.page_lists.PageLists.remove_counted.Goals as goal

pub remove_counted-requires : goal.remove_counted-requires
remove_counted-requires g c = row-there row_pairs _ _ (seen_rows c.self.view_is) c.args.list.0 c.args.page _ c.ranges.page.fits c.pair_rank.ensures c.requires

pub returns-clause-slot : goal.returns-clause-slot
returns-clause-slot g c = value-found row_pairs _ _ (seen_rows c.self.view_is) c.args.list.0 c.args.page _ c.ranges.page.fits c.pair_rank.ensures c.remove_counted.result c.remove_counted.ensures.row

pub returns-clause-slots : goal.returns-clause-slots
returns-clause-slots g c = values-taken row_pairs _ _ (seen_rows c.self.view_is) c.args.list.0 c.args.page _ c.ranges.page.fits c.pair_rank.ensures c.remove_counted.new.self.rows c.remove_counted.ensures.rows

pub returns-clause-count : goal.returns-clause-count
returns-clause-count g c =
    length-taken row_pairs _ _ (seen_rows c.self.view_is) c.args.list.0 c.args.page _ c.ranges.page.fits c.pair_rank.ensures c.remove_counted.new.self.rows c.len-rising.ensures.rising c.remove_counted.ensures.rows c.requires

pub invariant_of-self : goal.invariant_of-self
invariant_of-self g c =
    filtered-taken c.self.invariant c.note_gone.ensures c.remove_counted.new.self c.args.list.0 c.args.page _ c.ranges.page.fits c.pair_rank.ensures c.remove_counted.ensures.rows
