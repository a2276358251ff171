use Rattle.moving_model.proofs.OutcomeLaws.{two_outcomes}
use Rattle.moving_model.proofs.PinsLaws.{outcomes_pinned}
use Rattle.moving_model.proofs.laws.two_steps_with_one_reply_differ_by_a_renaming.Goals as goal

pub returns : goal.returns
returns c = λ old one other command reply good gives first second.
    let two = two_outcomes old one other command reply good first second in
    (two.by, two.within, two.pinned, outcomes_pinned old one other command reply good gives first second two, two.is)
