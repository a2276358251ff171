use Rattle.std.proofs.Common.{Some, ap, ◌∙◌, refl}
use Rattle.balanced_tree.specs.Pairs.{with_pair}
use Rattle.balanced_tree.proofs.PairLaws.{values-put, length-replaced}
use Rattle.page_list.specs.Order.{row_functions, slot_of}
use Rattle.page_list.specs.Lists.{slots_of}
use Rattle.page_list.proofs.SlotLaws.{row_pairs, seen_rows, some-row}
use Rattle.page_list.proofs.FilterLaws.{filtered-put, more-same}
use Rattle.page_list.proofs.page_lists.PageLists.replace.Goals as goal

pub replace-requires : goal.replace-requires
replace-requires c = some-row _ _ c.self.view_is c.args.list.0 c.args.page c.ranges.page.fits c.args.slot c.new.result c.new.ensures c.requires

pub returns-clause-slots : goal.returns-clause-slots
returns-clause-slots c =
    values-put row_pairs _ _ (seen_rows c.self.view_is) c.args.list.0 c.args.page _ c.ranges.page.fits refl c.replace.new.self.rows c.new.result (ap row_functions.rank c.new.ensures) c.replace.ensures.rows
    ∙ ap (λ slot. with_pair (slots_of c.args.self.now) c.args.list.0 c.args.page (Some slot)) (ap slot_of c.new.ensures)

pub returns-clause-count : goal.returns-clause-count
returns-clause-count c =
    length-replaced row_pairs _ _ (seen_rows c.self.view_is) c.args.list.0 c.args.page _ c.ranges.page.fits refl c.replace.new.self.rows c.len-rising.ensures.rising c.new.result (ap row_functions.rank c.new.ensures)
    c.replace.ensures.rows c.requires

pub invariant_of-self : goal.invariant_of-self
invariant_of-self c =
    let filter = c.self.inside.filter in
    filtered-put c.self.invariant (more-same filter filter refl refl) c.replace.new.self c.args.list.0 c.args.page c.ranges.page.fits c.new.result
    (ap row_functions.rank c.new.ensures) c.replace.ensures.rows (c.self.invariant.set c.args.list.0 c.args.page (rw (← c.self.view_is) at c.requires))
