-- Laws of renamings that keep pinned pages in their frames: they change no reply.
use Rattle.std.proofs.Common.{◌≡◌, ℕ, zero, suc, ◌+◌, ◌<◌, ◌≤◌, true, List, ◌∷◌, map, Option, None, Some, refl, sym, ap, subst, ◌∙◌, inl, inr, arith}
use Rattle.std.specs.List.{range_with_len}
use Rattle.vm_base.specs.declared.refusal.Refusal.{Refusal}
use Rattle.vm_base.proofs.EntryLaws.{with_key-same}
use Rattle.vm_model.specs.Machine.Words.{Command, Reply}
use Rattle.vm_model.specs.declared.command.Command.TheVariants.{VmoChild, VmoPin, VmarAllocate, VmarMap, MemRead, MemWrite}
use Rattle.vm_model.specs.declared.command.ChildKind.TheVariants.{Snapshot}
use Rattle.vm_model.specs.declared.reply.Reply.TheVariants.{Pins}
use Rattle.vm_model.specs.Contents.Content.{Page, Content, sole}
use Rattle.vm_model.specs.Naming.Pins.{Pin}
use Rattle.vm_model.specs.Machine.State.{State, IsGoodState}
use Rattle.vm_model.specs.Machine.Given.{GivesName}
use Rattle.vm_model.specs.Machine.Refusals.{refusals, first_of}
use Rattle.vm_model.specs.Machine.Step.{pin_at, frame_of, frames_of}
use Rattle.vm_model.specs.Machine.Machine.{Machine, IsGoodMachine}
use Rattle.vm_model.specs.Machine.MachineStep.{MachineEffect, MachineStepAfter, MachineStep}
use Rattle.vm_model.proofs.ContentLaws.{sole_held}
use Rattle.vm_model.proofs.PinLaws.{is_pinned_of}
use Rattle.vm_model.proofs.MachineLaws.{MachineStep-keeps}
use Rattle.moving_model.specs.Renaming.{Renaming, KeepsFrom, KeepsPinned, machine_renamed, reply_renamed}
use Rattle.moving_model.proofs.StepLaws.{MachineStep-renamed}

-- the frame of a page that is held
pub frame_of-held : (o : Option Page) (held : Page) → o ≡ Some held → frame_of o ≡ held.tag
unfolding frame_of
frame_of-held o held e = ap frame_of e

module _ (r : Renaming) where
  row_kept : (c : Content) (v first n : ℕ) → ((p : ℕ) → first ≤ p → p < first + n → sole c v p ≡ true)
      → ((p : ℕ) (held : Page) → first ≤ p → p < first + n → c.page v p ≡ Some held → r.to held.tag ≡ held.tag)
      → map r.to (map (λ p. frame_of (c.page v p)) (range_with_len first n)) ≡ map (λ p. frame_of (c.page v p)) (range_with_len first n)
  row_kept c v first zero alone kept = refl
  row_kept c v first (suc n) alone kept =
      let held = sole_held c v first (alone first (omega arith) (omega arith)) in
      let frame = frame_of-held (c.page v first) held.0 held.1 in
      let here : r.to (frame_of (c.page v first)) ≡ frame_of (c.page v first) = ap r.to frame ∙ (kept first held.0 (omega arith) (omega arith) held.1 ∙ sym frame) in
      let rest = row_kept c v (first + 1) n (λ p low high. alone p (omega arith) (omega arith)) (λ p page low high e. kept p page (omega arith) (omega arith) e) in
      λ i. here i ∷ rest i

  -- the frames of a pin
  pub frames_kept : (s : State) (n : ℕ) (pin : Pin) → IsGoodState s → s.pins n ≡ Some pin → KeepsPinned r s → map r.to (frames_of s.content pin) ≡ frames_of s.content pin
  frames_kept s n pin good e kept =
      let fine = good.pins n pin e in
      row_kept s.content pin.koid pin.first pin.count fine.1.alone
      (λ p held low high f. kept pin.koid p held (is_pinned_of s.pins n p pin fine.0 e low high) f)

  same_reply : (a b : Reply) → a ≡ b → reply_renamed r b ≡ b → reply_renamed r a ≡ a
  same_reply a b e same = ap (reply_renamed r) e ∙ (same ∙ sym e)

  effect_kept : (old new : Machine) (command : Command) (reply : Reply) → IsGoodMachine new → KeepsPinned r new.state → MachineEffect old command reply new → reply_renamed r reply ≡ reply
  effect_kept old new (VmoPin pin name offset len) reply good kept e =
      let pinned = pin_at old.state name.0 offset len in
      let is : new.state.pins pin.0 ≡ Some pinned = ap (λ (s : State). s.pins pin.0) e.0.1 ∙ with_key-same old.state.pins pin.0 pinned in
      same_reply reply (Pins (frames_of new.state.content pinned)) e.0.0
      (ap (λ (numbers : List ℕ). Pins numbers) (frames_kept new.state pin.0 pinned good.state is kept))
  effect_kept old new (VmoChild name parent Snapshot offset size resizable no_write) reply good kept e = same_reply reply _ e.0.0 refl
  effect_kept old new (VmarAllocate region parent offset len flags caps) reply good kept e = same_reply reply _ e.0.1 refl
  effect_kept old new (VmarMap region offset name vmo_offset len perm flags) reply good kept e = same_reply reply _ e.0.1 refl
  effect_kept old new (MemRead region addr len) reply good kept e = same_reply reply _ e.0 refl
  effect_kept old new (MemWrite region addr bytes) reply good kept e = same_reply reply _ e.1 refl
  effect_kept old new command reply good kept e = same_reply reply _ e.0.0 refl

  after_kept : (o : Option Refusal) (old new : Machine) (command : Command) (reply : Reply) → IsGoodMachine new → KeepsPinned r new.state
      → MachineStepAfter o old command reply new → reply_renamed r reply ≡ reply
  after_kept (Some refusal) old new command reply good kept e = same_reply reply _ e.answer refl
  after_kept None old new command reply good kept (inl effect) = effect_kept old new command reply good kept effect
  after_kept None old new command reply good kept (inr lacked) = same_reply reply _ lacked.0.answer refl

  pub reply_kept : (old new : Machine) (command : Command) (reply : Reply) → IsGoodMachine old → GivesName command → KeepsPinned r new.state
      → MachineStep old command reply new → reply_renamed r reply ≡ reply
  reply_kept old new command reply good gives kept step =
      after_kept (first_of (refusals old.state command)) old new command reply (MachineStep-keeps old command reply new good gives step).good kept step.outcome

  -- A step of the machine, renamed, is a step of the renamed machine with the same reply, where pages that are pinned afterwards
  -- keep their numbers.
  pub MachineStep-moved : (old new : Machine) (command : Command) (reply : Reply) → KeepsFrom r old.state.content.frames → IsGoodMachine old → GivesName command
      → KeepsPinned r new.state → MachineStep old command reply new → MachineStep (machine_renamed r old) command reply (machine_renamed r new)
  MachineStep-moved old new command reply keeps good gives kept step =
      subst (λ (told : Reply). MachineStep (machine_renamed r old) command told (machine_renamed r new)) (reply_kept old new command reply good gives kept step)
      (MachineStep-renamed r old new command reply keeps good gives step)
