use Rattle.cow_fork.proofs.Words.{Some, sym, ap, ◌∙◌, option_map, hidden_row}
use Rattle.cow_fork.proofs.BitLaws.{hidden-frame, hidden-plain}
use Rattle.cow_fork.proofs.sharing.hide_row.Goals as goal

pub returns-in_default-clause-slots : goal.returns-in_default-clause-slots
returns-in_default-clause-slots c =
    let e = sym c.find.ensures ∙ c.in_default.is in
    hidden-plain _ _ _ (ap (option_map hidden_row) e ∙ sym e)

pub returns-in-Frame-clause-slots : goal.returns-in-Frame-clause-slots
returns-in-Frame-clause-slots c =
    let e = sym c.find.ensures ∙ (c.in-Some.is ∙ ap Some c.in-Frame.is) in
    hidden-frame _ _ _ _ _ _ _ e (c.replace.ensures.slots)

pub returns-in_default-slot-clause-slots : goal.returns-in_default-slot-clause-slots
returns-in_default-slot-clause-slots c =
    let e = sym c.find.ensures ∙ (c.in-Some.is ∙ ap Some c.in_default-slot.is) in
    hidden-plain _ _ _ (ap (option_map hidden_row) e ∙ sym e)
