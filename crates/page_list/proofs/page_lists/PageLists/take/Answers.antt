use Rattle.std.proofs.Common.{◌≡◌, ℕ, cond, is_some, None, refl, sym, ap, ◌∙◌, arith}
use Rattle.std.specs.Option.{option_map}
use Rattle.balanced_tree.proofs.PairLaws.{with_pair-kept, value-seen, value-found, values-taken, length-less}
use Rattle.page_list.specs.Order.{slot_of}
use Rattle.page_list.specs.Lists.{slots_of}
use Rattle.page_list.proofs.SlotLaws.{row_pairs, seen_rows}
use Rattle.page_list.proofs.FilterLaws.{filtered-absent, filtered-taken, more-same}
use Rattle.page_list.proofs.page_lists.PageLists.take.Goals as goal

pub returns-then-not-may_have-clause-slots : goal.returns-then-not-may_have-clause-slots
returns-then-not-may_have-clause-slots c =
    let absent = filtered-absent _ c.self.view_is c.self.invariant c.args.list.0 c.args.page (sym c.may_have.ensures ∙ c.if-not-may_have.true) in
    sym (with_pair-kept (slots_of c.args.self.now) c.args.list.0 c.args.page None absent)

pub invariant_of-self : goal.invariant_of-self
invariant_of-self c =
    let same = more-same c.self.inside.filter c.self.inside.filter refl refl in
    filtered-taken c.self.invariant same c.take.new.self c.args.list.0 c.args.page _ c.ranges.page.fits c.pair_rank.ensures c.take.ensures.rows

pub returns-in_default-clause-slot : goal.returns-in_default-clause-slot
returns-in_default-clause-slot c = sym (value-seen row_pairs _ _ (seen_rows c.self.view_is) c.args.list.0 c.args.page _ c.ranges.page.fits c.pair_rank.ensures ∙ ap (option_map slot_of) (sym c.take.ensures.row ∙ c.in_default.is))

pub returns-in_default-clause-slots : goal.returns-in_default-clause-slots
returns-in_default-clause-slots c = values-taken row_pairs _ _ (seen_rows c.self.view_is) c.args.list.0 c.args.page _ c.ranges.page.fits c.pair_rank.ensures c.take.new.self.rows c.take.ensures.rows

pub returns-in_default-clause-count : goal.returns-in_default-clause-count
returns-in_default-clause-count c =
    let none : slots_of c.args.self.now c.args.list.0 c.args.page ≡ None = value-seen row_pairs _ _ (seen_rows c.self.view_is) c.args.list.0 c.args.page _ c.ranges.page.fits c.pair_rank.ensures ∙ ap (option_map slot_of) (sym c.take.ensures.row ∙ c.in_default.is) in
    let less = length-less row_pairs _ _ (seen_rows c.self.view_is) c.args.list.0 c.args.page _ c.ranges.page.fits c.pair_rank.ensures c.take.new.self.rows c.len-rising.ensures.rising c.take.ensures.rows in
    omega (arith, less, ap {B = ℕ} (λ o. cond (is_some o) 1 0) none)

pub invariant_of-self-2 : goal.invariant_of-self-2
invariant_of-self-2 c = filtered-taken c.self.invariant c.note_gone.ensures c.take.new.self c.args.list.0 c.args.page _ c.ranges.page.fits c.pair_rank.ensures c.take.ensures.rows

pub returns-clause-slot : goal.returns-clause-slot
returns-clause-slot c = sym (value-found row_pairs _ _ (seen_rows c.self.view_is) c.args.list.0 c.args.page _ c.ranges.page.fits c.pair_rank.ensures c.in-Some.row (sym c.take.ensures.row ∙ c.in-Some.is))

pub returns-clause-slots : goal.returns-clause-slots
returns-clause-slots c = values-taken row_pairs _ _ (seen_rows c.self.view_is) c.args.list.0 c.args.page _ c.ranges.page.fits c.pair_rank.ensures c.take.new.self.rows c.take.ensures.rows

pub returns-clause-count : goal.returns-clause-count
returns-clause-count c =
    let some = value-found row_pairs _ _ (seen_rows c.self.view_is) c.args.list.0 c.args.page _ c.ranges.page.fits c.pair_rank.ensures c.in-Some.row (sym c.take.ensures.row ∙ c.in-Some.is) in
    let less = length-less row_pairs _ _ (seen_rows c.self.view_is) c.args.list.0 c.args.page _ c.ranges.page.fits c.pair_rank.ensures c.take.new.self.rows c.len-rising.ensures.rising c.take.ensures.rows in
    omega (arith, less, ap {B = ℕ} (λ o. cond (is_some o) 1 0) some)
