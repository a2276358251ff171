-- Laws of which pages are pinned: what a step makes of the pins, and that two steps with one reply differ by a renaming which
-- leaves the pages that are pinned then.
use Rattle.std.proofs.Common.{◌≡◌, ℕ, zero, suc, ◌+◌, ◌<◌, ◌≤◌, true, List, ◌∷◌, map, Option, None, Some, ◌⊎◌, sym, ap, subst, ◌∙◌, inl, inr, arith}
use Rattle.std.specs.List.{range_with_len}
use Rattle.std.proofs.lemmas.Bool.{cases_eq}
use Rattle.vm_base.specs.Entries.{with_key, without_key}
use Rattle.vm_base.specs.declared.limits.TheConstants.{NAMES}
use Rattle.vm_base.specs.declared.refusal.Refusal.{Refusal}
use Rattle.vm_base.proofs.EntryLaws.{some_same, with_key-same, with_key-cases, without_key-some, any_entry_at, any_entry_found}
use Rattle.vm_model.specs.Machine.Words.{Command, Reply}
use Rattle.vm_model.specs.declared.command.Command.TheVariants.{VmoChild, VmoPin, VmoUnpin, VmarAllocate, VmarMap, MemRead, MemWrite}
use Rattle.vm_model.specs.declared.command.ChildKind.TheVariants.{Snapshot}
use Rattle.vm_model.specs.declared.reply.Reply.TheVariants.{Pins}
use Rattle.vm_model.specs.Contents.Content.{Page}
use Rattle.vm_model.specs.Naming.Pins.{Pin, covers, is_pinned}
use Rattle.vm_model.specs.Machine.State.{State, IsGoodState}
use Rattle.vm_model.specs.Machine.Given.{GivesName}
use Rattle.vm_model.specs.Machine.Leaving.{pruned}
use Rattle.vm_model.specs.Machine.Refusals.{refusals, first_of}
use Rattle.vm_model.specs.Machine.Step.{with_vmo, with_snapshot, with_alias, pin_at, frame_of, frames_of}
use Rattle.vm_model.specs.Machine.Machine.{Machine, IsGoodMachine}
use Rattle.vm_model.specs.Machine.MachineStep.{MachineEffect, MachineStepAfter, MachineStep}
use Rattle.vm_model.proofs.ContentLaws.{sole_held}
use Rattle.vm_model.proofs.PinLaws.{covers_parts}
use Rattle.vm_model.proofs.MachineLaws.{MachineStep-keeps}
use Rattle.moving_model.specs.Renaming.{Renaming, KeepsPinned, machine_renamed}
use Rattle.moving_model.proofs.EffectLaws.{frames_of-renamed}
use Rattle.moving_model.proofs.KeptLaws.{frame_of-held}
use Rattle.moving_model.proofs.PinnedLaws.{pinned_alone, pinned_stays}
use Rattle.moving_model.proofs.OutcomeLaws.{AreOutcomes, not_refused}

-- ---- what a step makes of the pins

abbrev pub LeavesPins : State → Command → State → Type 0
LeavesPins old (VmoPin pin name offset len) new = new.pins ≡ with_key old.pins pin.0 (pin_at old name.0 offset len)
LeavesPins old (VmoUnpin pin) new = new.pins ≡ without_key old.pins pin.0
LeavesPins old command new = new.pins ≡ old.pins

pub effect_pins : (old new : Machine) (command : Command) (reply : Reply) → MachineEffect old command reply new → LeavesPins old.state command new.state
unfolding with_vmo with_alias with_snapshot pruned
effect_pins old new (VmoPin pin name offset len) reply e = ap (λ (s : State). s.pins) e.0.1
effect_pins old new (VmoUnpin pin) reply e = ap (λ (s : State). s.pins) e.0.1
effect_pins old new (VmoChild name parent Snapshot offset size resizable no_write) reply e = ap (λ (s : State). s.pins) e.0.1
effect_pins old new (VmarAllocate region parent offset len flags caps) reply e = ap (λ (s : State). s.pins) e.0.3
effect_pins old new (VmarMap region offset name vmo_offset len perm flags) reply e = ap (λ (s : State). s.pins) e.0.3
effect_pins old new (MemRead region addr len) reply e = ap (λ (m : Machine). m.state.pins) e.1
effect_pins old new (MemWrite region addr bytes) reply e = ap (λ (s : State). s.pins) e.2
effect_pins old new command reply e = ap (λ (s : State). s.pins) e.0.1

-- a page that is pinned then was pinned before, or the pin is new
abbrev pub WasPinned : State → Command → (v p : ℕ) → Type 0
WasPinned old (VmoPin pin name offset len) v p = (is_pinned old.pins v p ≡ true) ⊎ (covers v p (pin_at old name.0 offset len) ≡ true)
WasPinned old command v p = is_pinned old.pins v p ≡ true

fewer_pinned : (old new : ℕ → Option Pin) (v p : ℕ) → ((n : ℕ) (pin : Pin) → new n ≡ Some pin → old n ≡ Some pin) → is_pinned new v p ≡ true → is_pinned old v p ≡ true
fewer_pinned old new v p fewer e =
    let found = any_entry_found NAMES (covers v p) new e in any_entry_at NAMES (covers v p) old found.0 found.1 found.2 (fewer found.0 found.1 found.3) found.4

same_pinned : (old new : ℕ → Option Pin) (v p : ℕ) → new ≡ old → is_pinned new v p ≡ true → is_pinned old v p ≡ true
same_pinned old new v p same e = subst (λ (pins : ℕ → Option Pin). is_pinned pins v p ≡ true) same e

pub was_pinned : (old new : State) (command : Command) (v p : ℕ) → LeavesPins old command new → is_pinned new.pins v p ≡ true → WasPinned old command v p
was_pinned old new (VmoPin pin name offset len) v p leaves e =
    let found = any_entry_found NAMES (covers v p) new.pins e in
    let at : with_key old.pins pin.0 (pin_at old name.0 offset len) found.0 ≡ Some found.1 = sym (ap (λ (pins : ℕ → Option Pin). pins found.0) leaves) ∙ found.3 in
    elim (with_key-cases old.pins pin.0 (pin_at old name.0 offset len) found.0 found.1 at) [
      | inl new ↦ inr (ap (covers v p) new.1 ∙ found.4)
      | inr was ↦ inl (any_entry_at NAMES (covers v p) old.pins found.0 found.1 found.2 was.1 found.4)
    ]
was_pinned old new (VmoUnpin pin) v p leaves e =
    fewer_pinned old.pins new.pins v p (λ n found at. (without_key-some old.pins pin.0 n found (sym (ap (λ (pins : ℕ → Option Pin). pins n) leaves) ∙ at)).1) e
was_pinned old new command v p leaves e = same_pinned old.pins new.pins v p leaves e

-- ---- two steps with one reply

-- a page that was pinned keeps its number
old_pinned : (old one : Machine) (r : Renaming) (command : Command) (reply : Reply) → IsGoodMachine old → MachineStep old command reply one → KeepsPinned r old.state
    → (v p : ℕ) (held : Page) → is_pinned old.state.pins v p ≡ true → is_pinned one.state.pins v p ≡ true → one.state.content.page v p ≡ Some held → r.to held.tag ≡ held.tag
old_pinned old one r command reply good step kept v p held before after e =
    let was = sole_held old.state.content v p (pinned_alone old.state v p good.state before) in
    let still = pinned_stays old one command reply good step v p was.0 was.1 before after in
    let page : still.0 ≡ held = some_same (sym still.1 ∙ e) in
    let tag : held.tag ≡ was.0.tag = sym (ap (λ (a : Page). a.tag) page) ∙ still.2 in
    ap r.to tag ∙ (kept v p was.0 before was.1 ∙ sym tag)

pins_same : {a b : List ℕ} → ◌≡◌ {A = Reply} (Pins a) (Pins b) → a ≡ b
pins_same e = cc

heads_same : {a b : ℕ} {xs ys : List ℕ} → ◌≡◌ {A = List ℕ} (a ∷ xs) (b ∷ ys) → (a ≡ b) × (xs ≡ ys)
heads_same e = (cc, cc)

-- where a list of the numbers of a row stays as a whole, each does
row_stays : (to f : ℕ → ℕ) (first n : ℕ) → map to (map f (range_with_len first n)) ≡ map f (range_with_len first n) → (p : ℕ) → first ≤ p → p < first + n → to (f p) ≡ f p
row_stays to f first zero e p low high = absurd (omega arith)
row_stays to f first (suc n) e p low high =
    let parts = heads_same e in
    elim (cases_eq p first) [
      | inl same ↦ ap (λ (k : ℕ). to (f k)) same ∙ (parts.0 ∙ ap f (sym same))
      | inr apart ↦ row_stays to f (first + 1) n parts.1 p (omega arith) (omega arith)
    ]

-- a page of a new pin does, since both replies tell the same frames
new_pinned : (one other : Machine) (r : Renaming) (n : ℕ) (pin : Pin) → IsGoodState one.state → one.state.pins n ≡ Some pin → other ≡ machine_renamed r one
    → frames_of one.state.content pin ≡ frames_of other.state.content pin → (v p : ℕ) (held : Page) → covers v p pin ≡ true → one.state.content.page v p ≡ Some held → r.to held.tag ≡ held.tag
new_pinned one other r n pin good at is told v p held covered e =
    let parts = covers_parts v p pin covered in
    let c = one.state.content in
    let same : map r.to (frames_of c pin) ≡ frames_of c pin =
    frames_of-renamed r c pin (good.pins n pin at).1.alone ∙ (ap (λ (m : Machine). frames_of m.state.content pin) (sym is) ∙ sym told) in
    let stays = row_stays r.to (λ q. frame_of (c.page pin.koid q)) pin.first pin.count same p parts.1 parts.2 in
    let frame : frame_of (c.page pin.koid p) ≡ held.tag = ap (λ (w : ℕ). frame_of (c.page w p)) parts.0 ∙ frame_of-held (c.page v p) held e in
    ap r.to (sym frame) ∙ (stays ∙ frame)

effect_pinned : (old one other : Machine) (command : Command) (reply : Reply) (r : Renaming) → IsGoodMachine old → IsGoodMachine one → MachineStep old command reply one → MachineEffect old command reply one
    → MachineEffect old command reply other → KeepsPinned r old.state → other ≡ machine_renamed r one → KeepsPinned r one.state
effect_pinned old one other (VmoPin pin name offset len) reply r good fine step e f kept is = λ v p held pinned at.
    let new_pin = pin_at old.state name.0 offset len in
    let leaves = effect_pins old one (VmoPin pin name offset len) reply e in
    elim (was_pinned old.state one.state (VmoPin pin name offset len) v p leaves pinned) [
      | inl was ↦ old_pinned old one r (VmoPin pin name offset len) reply good step kept v p held was pinned at
      | inr new ↦ new_pinned one other r pin.0 new_pin fine.state (ap (λ (pins : ℕ → Option Pin). pins pin.0) leaves ∙ with_key-same old.state.pins pin.0 new_pin) is
          (pins_same (sym e.0.0 ∙ f.0.0)) v p held new at
    ]
effect_pinned old one other (VmoUnpin pin) reply r good fine step e f kept is = λ v p held pinned at.
    old_pinned old one r (VmoUnpin pin) reply good step kept v p held (was_pinned old.state one.state (VmoUnpin pin) v p (effect_pins old one (VmoUnpin pin) reply e) pinned) pinned at
effect_pinned old one other command reply r good fine step e f kept is = λ v p held pinned at.
    old_pinned old one r command reply good step kept v p held (was_pinned old.state one.state command v p (effect_pins old one command reply e) pinned) pinned at

-- The renaming leaves the pages that are pinned then.
pub outcomes_pinned : (old one other : Machine) (command : Command) (reply : Reply) → IsGoodMachine old → GivesName command → MachineStep old command reply one → MachineStep old command reply other
    → (two : AreOutcomes old one other) → KeepsPinned two.by one.state
outcomes_pinned old one other command reply good gives first second two = go (first_of (refusals old.state command)) first.outcome second.outcome where
  fine : IsGoodMachine one
  fine = (MachineStep-keeps old command reply one good gives first).good

  same : one ≡ old → KeepsPinned two.by one.state
  same e = subst (λ (m : Machine). KeepsPinned two.by m.state) (sym e) two.pinned

  go : (o : Option Refusal) → MachineStepAfter o old command reply one → MachineStepAfter o old command reply other → KeepsPinned two.by one.state
  go (Some refusal) e f = same e.same
  go None (inl e) (inl f) = effect_pinned old one other command reply two.by good fine first e f two.pinned two.is
  go None (inr e) f = same e.0.same
  go None (inl e) (inr f) = absurd (not_refused old one command reply _ e f.0.answer)
