use Rattle.std.proofs.Common.{Some, ap, ◌∙◌, refl}
use Rattle.balanced_tree.specs.Pairs.{with_pair}
use Rattle.balanced_tree.proofs.PairLaws.{values-put, length-inserted}
use Rattle.page_list.specs.Order.{row_functions, slot_of}
use Rattle.page_list.specs.Lists.{slots_of}
use Rattle.page_list.proofs.SlotLaws.{row_pairs, seen_rows, no-row}
use Rattle.page_list.proofs.FilterLaws.{filtered-put}
use Rattle.page_list.proofs.page_lists.PageLists.insert_counted.Goals as goal

pub insert_counted-requires-clause-absent : goal.insert_counted-requires-clause-absent
insert_counted-requires-clause-absent g c = no-row _ _ c.self.view_is c.args.list.0 c.args.page c.ranges.page.fits c.args.slot c.new.result c.new.ensures c.requires.absent

pub returns-clause-slots : goal.returns-clause-slots
returns-clause-slots g c =
    values-put row_pairs _ _ (seen_rows c.self.view_is) c.args.list.0 c.args.page _ c.ranges.page.fits refl c.insert_counted.new.self.rows c.new.result (ap row_functions.rank c.new.ensures) c.insert_counted.ensures.rows
    ∙ ap (λ slot. with_pair (slots_of c.args.self.now) c.args.list.0 c.args.page (Some slot)) (ap slot_of c.new.ensures)

pub returns-clause-count : goal.returns-clause-count
returns-clause-count g c =
    length-inserted row_pairs _ _ (seen_rows c.self.view_is) c.args.list.0 c.args.page _ c.ranges.page.fits refl c.insert_counted.new.self.rows c.len-rising.ensures.rising c.new.result (ap row_functions.rank c.new.ensures)
    c.insert_counted.ensures.rows c.requires.absent

pub invariant_of-self : goal.invariant_of-self
invariant_of-self g c =
    filtered-put c.self.invariant c.set.ensures.more c.insert_counted.new.self c.args.list.0 c.args.page c.ranges.page.fits c.new.result (ap row_functions.rank c.new.ensures)
    c.insert_counted.ensures.rows c.set.ensures.set
