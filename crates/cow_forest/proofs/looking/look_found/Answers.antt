use Rattle.cow_forest.proofs.Words.{◌≡◌, sym, ap, ◌∙◌, refl, Slot, Holder}
use Rattle.cow_forest.proofs.LookLaws.{own-look, above-look}
use Rattle.cow_forest.proofs.looking.look_found.Goals as goal

pub returns-in-Own-Frame : goal.returns-in-Own-Frame
returns-in-Own-Frame c =
    let row : c.in-Own-Frame.field-0 ≡ Slot.Frame c.in-Own-Frame.tag c.in-Own-Frame.field-0-1 c.in-Own-Frame.field-0-2 =
    rw c.in-Own-Frame.is at c.in-Own-Frame.field-0-is in
    let it = own-look c.args.arena.now c.args.lists.now c.args.leaf.0 c.args.page c.requires.exact c.requires.page c.in-Own-Frame.tag
    c.in-Own-Frame.field-0-1 c.in-Own-Frame.field-0-2 (ap Holder.Own (sym row) ∙ (sym c.in-Own-Frame.is ∙ c.requires.found)) in
    (it.0, (λ e. it.1, λ last. refl))

pub returns-in-Above-default-default-default-Frame :
    goal.returns-in-Above-default-default-default-Frame
returns-in-Above-default-default-default-Frame c =
    let arm = c.in-Above-default-default-default-Frame in
    let row : arm.slot ≡ Slot.Frame arm.tag arm.slot-1 arm.slot-2 = rw arm.is at arm.slot-is in
    above-look c.args.arena.now c.args.lists.now c.args.leaf.0 c.args.page c.requires.exact c.requires.page arm.node arm.page arm.side arm.tag arm.slot-1
    arm.slot-2 (ap (Holder.Above arm.node arm.page arm.side) (sym row) ∙ (sym arm.is ∙ c.requires.found)) c.is_last.result c.is_last.ensures
