use Rattle.cow_fork.proofs.Words.{◌+◌, sym, ap, ◌∙◌, slots_of, hidden_slots}
use Rattle.cow_fork.proofs.BitLaws.{hidden-none, hidden-step}
use Rattle.cow_fork.proofs.sharing.hide_rows.Goals as goal

pub loop-page-preserved : goal.loop-page-preserved
loop-page-preserved c =
    let it = c.in-Some.ensures in
    record {
      slots =
          ap (λ s. hidden_slots s c.args.list.0 (c.in-Some.page + 1) c.args.end) c.hide_row.ensures.slots
          ∙ (hidden-step (slots_of c.loop-page.lists) c.args.list.0 c.loop-page.at c.in-Some.page c.args.end it.order it.below it.gap
          ∙ c.loop-page.invariant.slots);
      count = c.hide_row.ensures.count ∙ c.loop-page.invariant.count;
      spare = c.hide_row.ensures.spare ∙ c.loop-page.invariant.spare;
    }

pub returns-clause-slots : goal.returns-clause-slots
returns-clause-slots c = sym (hidden-none _ _ _ _ c.in_default.ensures) ∙ c.loop-page.invariant.slots
