use Rattle.cow_merge.proofs.Words.{sym, ap, subst, ◌∙◌, slots_of, HasGiven, frame_there}
use Rattle.cow_merge.proofs.RangeLaws.{given-none}
use Rattle.cow_merge.proofs.HandLaws.{without-none-there}
use Rattle.cow_merge.proofs.handing.clear_page.Goals as goal

pub returns-in_default-clause-slots : goal.returns-in_default-clause-slots
returns-in_default-clause-slots c = without-none-there (slots_of c.args.lists.now) c.args.list.0 c.args.page (sym c.find.ensures ∙ c.in_default.is)

pub returns-in_default-clause-given : goal.returns-in_default-clause-given
returns-in_default-clause-given c =
    subst (HasGiven c.args.frames.now c.args.frames.now) (sym (ap frame_there (sym c.find.ensures ∙ c.in_default.is))) (given-none c.args.frames.now)
