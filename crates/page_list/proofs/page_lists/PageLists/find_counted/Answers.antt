use Rattle.std.proofs.Common.{sym, ap, ◌∙◌}
use Rattle.std.specs.Option.{option_map}
use Rattle.balanced_tree.proofs.PairLaws.{value-seen}
use Rattle.page_list.specs.Order.{slot_of}
use Rattle.page_list.proofs.SlotLaws.{row_pairs, seen_rows}
use Rattle.page_list.proofs.page_lists.PageLists.find_counted.Goals as goal

pub returns-clause-slot : goal.returns-clause-slot
returns-clause-slot g c =
    c.slot_in.ensures ∙ (ap (option_map slot_of) c.find_counted.ensures.row
    ∙ sym (value-seen row_pairs _ _ (seen_rows c.self.view_is) c.args.list.0 c.args.page _ c.ranges.page.fits c.pair_rank.ensures))
