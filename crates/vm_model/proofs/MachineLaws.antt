-- Laws of the step of the whole machine: a good machine stays good, and a step of the state is one of the machine.
use Rattle.std.proofs.Common.{◌≡◌, ℕ, ◌+◌, ◌≤◌, true, Option, None, Some, length, refl, sym, subst, ◌∙◌, inl, inr, arith}
use Rattle.vm_base.specs.declared.refusal.Refusal.{Refusal}
use Rattle.vm_base.proofs.EntryLaws.{none_is}
use Rattle.vm_model.specs.Machine.Words.{Command, Reply}
use Rattle.vm_model.specs.declared.command.Command.TheVariants.{MemRead, MemWrite}
use Rattle.vm_model.specs.declared.reply.Reply.TheVariants.{Refused}
use Rattle.vm_model.specs.Contents.Writing.{touched}
use Rattle.vm_model.specs.Space.Rights.{reading, writing}
use Rattle.vm_model.specs.Machine.Given.{GivesName}
use Rattle.vm_model.specs.Machine.Access.{access_refusal}
use Rattle.vm_model.specs.Machine.Refusals.{refusals, first_of}
use Rattle.vm_model.specs.Machine.Step.{Effect, may_lack_memory, IsRefused, StepAfter, Step}
use Rattle.vm_model.specs.Machine.Machine.{Machine, empty_machine, IsGoodMachine}
use Rattle.vm_model.specs.Machine.MachineStep.{ready_after, MachineEffect, may_want_memory, MachineStepAfter, MachineStep}
use Rattle.vm_model.proofs.StepLaws.{AllOff-from_none, effect_keeps, IsGoodState-empty}
use Rattle.vm_model.proofs.ReadyLaws.{ready_keeps}
use Rattle.vm_model.proofs.AccessLaws.{reading_keeps, writing_keeps}

-- ---- steps

-- where nothing refuses, the effect is a step
pub MachineStep-done : (old : Machine) (command : Command) (reply : Reply) (new : Machine) → first_of (refusals old.state command) ≡ None → MachineEffect old command reply new → MachineStep old command reply new
MachineStep-done old command reply new none effect = record { outcome = subst (λ (o : Option Refusal). MachineStepAfter o old command reply new) (sym none) (inl effect) }

-- an effect on the state is one on the machine, with what is ready after it
effect_too : (old : Machine) (command : Command) (reply : Reply) (new : Machine) → Effect old.state command reply new.state → new.ready ≡ ready_after old command reply new.state → MachineEffect old command reply new
effect_too old (MemRead region addr len) reply new effect ready = absurd effect
effect_too old (MemWrite region addr bytes) reply new effect ready = absurd effect
effect_too old _ reply new effect ready = (effect, ready)

-- a command for which the state may lack memory may want it of the machine
want_too : (m : Machine) (command : Command) → may_lack_memory m.state command ≡ true → may_want_memory m command ≡ true
want_too m (MemRead region addr len) lack = absurd cc
want_too m (MemWrite region addr bytes) lack = absurd cc
want_too m _ lack = lack

-- where the state refuses and what is ready stays, the machine refuses
refused_too : (old : Machine) (refusal : Refusal) (reply : Reply) (new : Machine) → IsRefused old.state refusal reply new.state → new.ready ≡ old.ready → IsRefused old refusal reply new
refused_too old refusal reply new refused ready = record { answer = refused.answer; same = λ i. record { state = refused.same i; ready = ready i } }

-- a step of the state is one of the machine, where what is ready stays with a refusal, and is what the command leaves ready
-- with its effect
pub machine_step : (old : Machine) (command : Command) (reply : Reply) (new : Machine) → Step old.state command reply new.state
    → ((refusal : Refusal) → reply ≡ Refused refusal → new.state ≡ old.state → new.ready ≡ old.ready)
    → (first_of (refusals old.state command) ≡ None → Effect old.state command reply new.state → new.ready ≡ ready_after old command reply new.state)
    → MachineStep old command reply new
machine_step old command reply new step stays leaves = record { outcome = go (first_of (refusals old.state command)) refl step.outcome } where
  refused : (refusal : Refusal) → IsRefused old.state refusal reply new.state → IsRefused old refusal reply new
  refused refusal r = refused_too old refusal reply new r (stays refusal r.answer r.same)

  go : (o : Option Refusal) → first_of (refusals old.state command) ≡ o → StepAfter o old.state command reply new.state → MachineStepAfter o old command reply new
  go (Some refusal) e r = refused refusal r
  go None e (inl effect) = inl (effect_too old command reply new effect (leaves e effect))
  go None e (inr lacked) = inr (refused _ lacked.0, want_too old command lacked.1)

-- ---- a good machine stays good

-- new is good, has at most one koid more than old, and has its frames
pub record KeepsMachine (old new : Machine) : Type 0 where
  pub good : IsGoodMachine new
  pub next : new.state.content.next ≤ old.state.content.next + 1
  pub frames : new.state.content.frames ≡ old.state.content.frames

-- where nothing changes
KeepsMachine-same : (old new : Machine) → IsGoodMachine old → new ≡ old → KeepsMachine old new
KeepsMachine-same old new good e = subst (KeepsMachine old) (sym e) (record { good = good; next = omega arith; frames = refl })

-- the effect of a command on the state, and on what is ready
state_keeps : (old : Machine) (command : Command) (reply : Reply) (new : Machine) → IsGoodMachine old → GivesName command → first_of (refusals old.state command) ≡ None
    → Effect old.state command reply new.state × (new.ready ≡ ready_after old command reply new.state) → KeepsMachine old new
state_keeps old command reply new good h none effect =
    let kept = effect_keeps old.state command reply new.state good.state h none effect.0 in
    record {
      good = record {
        state = kept.good;
        ready = λ root p readiness e. ready_keeps old command reply new.state good h none effect.0 root p readiness (sym (λ i. effect.1 i root p) ∙ e);
      };
      next = kept.next;
      frames = kept.frames;
    }

-- the effect of a command that nothing refuses
machine_effect_keeps : (old : Machine) (command : Command) (reply : Reply) (new : Machine) → IsGoodMachine old → GivesName command → first_of (refusals old.state command) ≡ None
    → MachineEffect old command reply new → KeepsMachine old new
machine_effect_keeps old (MemRead region addr len) reply new good h none effect =
    let off = AllOff-from_none (refusals old.state (MemRead region addr len)) none in
    let touches = touched addr len in
    let free = none_is (access_refusal old.state.content reading (old.state.spaces.table region.0) touches) off.1.1.1.0 in
    subst (KeepsMachine old) (sym effect.1) (record { good = reading_keeps old region.0 touches good free; next = omega arith; frames = refl })
machine_effect_keeps old (MemWrite region addr bytes) reply new good h none effect =
    let off = AllOff-from_none (refusals old.state (MemWrite region addr bytes)) none in
    let free = none_is (access_refusal old.state.content writing (old.state.spaces.table region.0) (touched addr (length bytes))) off.1.1.1.0 in
    let kept = writing_keeps old new region.0 addr bytes effect.0 good free effect.2 effect.3 in
    record { good = kept.0; next = omega (arith, kept.1); frames = kept.2 }
machine_effect_keeps old command reply new good h none effect = state_keeps old command reply new good h none effect

-- a step keeps a good machine good
pub MachineStep-keeps : (old : Machine) (command : Command) (reply : Reply) (new : Machine) → IsGoodMachine old → GivesName command → MachineStep old command reply new → KeepsMachine old new
MachineStep-keeps old command reply new good h step = go (first_of (refusals old.state command)) refl step.outcome where
  go : (o : Option Refusal) → first_of (refusals old.state command) ≡ o → MachineStepAfter o old command reply new → KeepsMachine old new
  go (Some refusal) e refused = KeepsMachine-same old new good refused.same
  go None e (inl effect) = machine_effect_keeps old command reply new good h e effect
  go None e (inr lacked) = KeepsMachine-same old new good lacked.0.same

-- ---- the beginning

-- a machine with frames and nothing else is good
pub IsGoodMachine-empty : (frames : ℕ) → IsGoodMachine (empty_machine frames)
unfolding empty_machine
IsGoodMachine-empty frames = record { state = IsGoodState-empty frames; ready = λ root p readiness e. absurd cc }
