-- Laws of steps where pages move: the machine stays good, and pinned pages keep their frames.
use Rattle.std.proofs.Common.{◌≡◌, ℕ, true, Some, sym, ap, subst, ◌∙◌}
use Rattle.std.specs.Option.{option_map}
use Rattle.vm_model.specs.Machine.Words.{Command, Reply}
use Rattle.vm_model.specs.Contents.Content.{Page}
use Rattle.vm_model.specs.Naming.Pins.{is_pinned}
use Rattle.vm_model.specs.Machine.Given.{GivesName}
use Rattle.vm_model.specs.Machine.Machine.{Machine, IsGoodMachine}
use Rattle.vm_model.proofs.MachineLaws.{KeepsMachine, MachineStep-keeps}
use Rattle.moving_model.specs.Renaming.{page_renamed}
use Rattle.moving_model.specs.Moving.{MovingStep}
use Rattle.moving_model.proofs.GoodLaws.{IsGoodMachine-renamed}
use Rattle.moving_model.proofs.PinnedLaws.{Stays, pinned_stays}

pub MovingStep-keeps : (old new : Machine) (command : Command) (reply : Reply) → IsGoodMachine old → GivesName command → MovingStep old command reply new → KeepsMachine old new
MovingStep-keeps old new command reply good gives step =
    let kept = MachineStep-keeps old command reply step.mid good gives step.step in
    subst (KeepsMachine old) (sym step.moved) (record { good = IsGoodMachine-renamed step.moves step.mid step.within kept.good; next = kept.next; frames = kept.frames })

pub moving_pinned : (old new : Machine) (command : Command) (reply : Reply) → IsGoodMachine old → MovingStep old command reply new → (v p : ℕ) (held : Page)
    → old.state.content.page v p ≡ Some held → is_pinned old.state.pins v p ≡ true → is_pinned new.state.pins v p ≡ true → Stays new.state.content v p held.tag
moving_pinned old new command reply good step v p held at before after =
    let pinned : is_pinned step.mid.state.pins v p ≡ true = subst (λ (m : Machine). is_pinned m.state.pins v p ≡ true) step.moved after in
    let there = pinned_stays old step.mid command reply good step.step v p held at before pinned in
    (page_renamed step.moves there.0, ap (λ (m : Machine). m.state.content.page v p) step.moved ∙ ap (option_map (page_renamed step.moves)) there.1, step.pinned v p there.0 pinned there.1 ∙ there.2)
