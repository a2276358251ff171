-- The machine's answer to a call, put together from what the handlers of commands and what keeps the ready pages promise.
use Rattle.std.proofs.Common.{◌≡◌, ℕ, Option, None, Some, refl, sym, ap, subst, ◌∙◌, inl, inr}
use Rattle.vm_base.specs.declared.refusal.Refusal.{Refusal}
use Rattle.vm_model.specs.Machine.Words.{Command, Reply}
use Rattle.vm_model.specs.declared.space.Readiness.{Readiness}
use Rattle.vm_model.specs.Contents.Content.{Content}
use Rattle.vm_model.specs.Space.Readiness.{Ready, settled}
use Rattle.vm_model.specs.Machine.State.{State, IsGoodState}
use Rattle.vm_model.specs.Machine.Given.{GivesName}
use Rattle.vm_model.specs.Machine.Refusals.{refusals, first_of}
use Rattle.vm_model.specs.Machine.Step.{IsRefused, StepAfter, Step}
use Rattle.vm_model.specs.Machine.Machine.{Machine, IsGoodMachine}
use Rattle.vm_model.specs.Machine.MachineStep.{MachineStep}
use Rattle.vm_model.proofs.MachineLaws.{machine_step, KeepsMachine, MachineStep-keeps}
use Rattle.pin_table.specs.Table.{pins_of}
use Rattle.mapping_set.specs.Tables.{table_of}
use Rattle.ready_pages.specs.declared.change.Change.{Change}
use Rattle.ready_pages.specs.Changes.{Entries, Covers, AreReadyAt, IsBounded, left_ready}
use Rattle.ready_pages.proofs.SettledLaws.{settled-none, settled-stays}
use Rattle.machine.specs.Machine.{MachineParts, state_of, machine_of_parts, IsSoundMachine}
use Rattle.machine.specs.inside.Changes.{change_after}
use Rattle.machine.proofs.BoundLaws.{done_bounded}
use Rattle.machine.proofs.StaysLaws.{EntryStays-same}
use Rattle.machine.proofs.EffectLaws.{effect_settles, covers_same}

-- what is ready stays where no content and no entry changes
settled_same : (m : Machine) → IsGoodMachine m → settled m.state.content m.state.content m.state.spaces.table m.ready ≡ m.ready
settled_same m good = λ i root p. at root p (m.ready root p) refl i where
  at : (root p : ℕ) (o : Option Readiness) → m.ready root p ≡ o → settled m.state.content m.state.content m.state.spaces.table m.ready root p ≡ m.ready root p
  at root p None e = settled-none m.state.content m.state.content m.state.spaces.table m.ready root p e ∙ sym e
  at root p (Some readiness) e =
      let is = good.ready root p readiness e in
      settled-stays m.state.content m.state.content m.state.spaces.table m.ready root p is.entry
      (EntryStays-same m.state.content m.state.content m.state.spaces.table root p is.entry is.is is.below refl refl)

module _ (old : Machine) (command : Command) (reply : Reply) (new : State) (good : IsGoodMachine old) (step : Step old.state command reply new) where
  abbrev made : Change
  made = change_after old.state command reply

  -- with a refusal nothing changes
  covers_refused : (refusal : Refusal) → IsRefused old.state refusal reply new → Covers made old.state.content new.content old.state.spaces.table new.spaces.table
  covers_refused refusal refused =
      subst (λ (s : State). Covers made old.state.content s.content old.state.spaces.table s.spaces.table) (sym refused.same)
      (subst (λ (r : Reply). Covers (change_after old.state command r) old.state.content old.state.content old.state.spaces.table old.state.spaces.table) (sym refused.answer)
      (covers_same old.state good.state))

  -- the change covers what the command did
  pub step_covers : Covers made old.state.content new.content old.state.spaces.table new.spaces.table
  step_covers = go (first_of (refusals old.state command)) refl step.outcome where
    go : (o : Option Refusal) → first_of (refusals old.state command) ≡ o → StepAfter o old.state command reply new
        → Covers made old.state.content new.content old.state.spaces.table new.spaces.table
    go (Some refusal) e refused = covers_refused refusal refused
    go None e (inr lacked) = covers_refused _ lacked.0
    go None e (inl effect) = (effect_settles old.state good.state command reply new e effect).covers

  -- what the change leaves is what the step leaves
  pub step_leaves : (ready : Ready) → ready ≡ left_ready made new.pins old.state.spaces.table (settled old.state.content new.content new.spaces.table old.ready)
      → MachineStep old command reply (record { state = new; ready = ready })
  step_leaves ready is = machine_step old command reply (record { state = new; ready = ready }) step
      (λ refusal e same. is ∙ (ap (λ (r : Reply). left_ready (change_after old.state command r) new.pins old.state.spaces.table (settled old.state.content new.content new.spaces.table old.ready)) e
      ∙ (ap (λ (s : State). settled old.state.content s.content s.spaces.table old.ready) same ∙ settled_same old good)))
      (λ none effect. is ∙ sym ((effect_settles old.state good.state command reply new none effect).leaves old.ready))

-- what it may have changed lies within bounds
pub change_bounded : (old : State) (command : Command) (reply : Reply) (new : State) (change : Change) → IsGoodState old → Step old command reply new → change ≡ change_after old command reply
    → IsBounded new.content change
change_bounded old command reply new change good step is = subst (IsBounded new.content) (sym is) (done_bounded old command reply new good step)

-- what is ready of a good machine is ready for what its pages allow
ready_at : (m : Machine) → IsGoodMachine m → AreReadyAt m.state.content m.state.spaces.table m.ready
ready_at m good root p readiness e =
    let is = good.ready root p readiness e in record { entry = is.entry; is = is.is; below = is.below; alone = is.alone }

-- A command was answered: it is a step of the machine, which is sound afterwards.
pub record Answers {R : Type 0} (ready : R → Ready) (AreTrue : Content → Entries → R → Type 0) (c : Content) (old : MachineParts R) (command : Command) (reply : Reply)
    (d : Content) (new : MachineParts R) : Type 0 where
  pub step : MachineStep (machine_of_parts ready c old) command reply (machine_of_parts ready d new)
  pub sound : IsSoundMachine ready AreTrue d new
  pub keeps : KeepsMachine (machine_of_parts ready c old) (machine_of_parts ready d new)

module _ {R : Type 0} (ready : R → Ready) (AreTrue : Content → Entries → R → Type 0) (c : Content) (old : MachineParts R) (command : Command) (reply : Reply)
    (d : Content) (new : MachineParts R) (sound : IsSoundMachine ready AreTrue c old) (gives : GivesName command) where
  -- by a step that leaves the notes true
  pub answered : MachineStep (machine_of_parts ready c old) command reply (machine_of_parts ready d new) → AreTrue d (table_of new.maps) new.ready
      → Answers ready AreTrue c old command reply d new
  answered step notes =
      let keeps = MachineStep-keeps (machine_of_parts ready c old) command reply (machine_of_parts ready d new) sound.good gives step in
      record { step = step; sound = record { good = keeps.good; notes = notes }; keeps = keeps }

  -- by a step of the state, with what it may have changed taken back
  pub command_answered : (change : Change) → Step (state_of c old) command reply (state_of d new) → change ≡ change_after (state_of c old) command reply
      → ((a : Content) (before after : Entries) → AreTrue a before old.ready → Covers change a d before after
      → ready new.ready ≡ left_ready change (pins_of new.pins) before (settled a d after (ready old.ready)))
      → ((a : Content) (before after : Entries) → AreTrue a before old.ready → Covers change a d before after → AreReadyAt d after (ready new.ready) → AreTrue d after new.ready)
      → Answers ready AreTrue c old command reply d new
  command_answered change step is left notes =
      let m = machine_of_parts ready c old in
      let covers = subst (λ (ch : Change). Covers ch c d (table_of old.maps) (table_of new.maps)) (sym is) (step_covers m command reply (state_of d new) sound.good step) in
      let leaves = left c (table_of old.maps) (table_of new.maps) sound.notes covers in
      let whole = step_leaves m command reply (state_of d new) sound.good step (ready new.ready)
      (leaves ∙ ap (λ (ch : Change). left_ready ch (pins_of new.pins) (table_of old.maps) (settled c d (table_of new.maps) (ready old.ready))) is) in
      let keeps = MachineStep-keeps m command reply (machine_of_parts ready d new) sound.good gives whole in
      answered whole (notes c (table_of old.maps) (table_of new.maps) sound.notes covers (ready_at (machine_of_parts ready d new) keeps.good))

-- by one that leaves the pages and the tables as they are
pub same_answered : {R : Type 0} (ready : R → Ready) (AreTrue : Content → Entries → R → Type 0) (c : Content) (m : MachineParts R) (command : Command) (reply : Reply)
    → IsSoundMachine ready AreTrue c m → GivesName command → Step (state_of c m) command reply (state_of c m) → Change.None ≡ change_after (state_of c m) command reply
    → Answers ready AreTrue c m command reply c m
same_answered ready AreTrue c m command reply sound gives step none =
    let old = machine_of_parts ready c m in
    let stays = ap (λ (ch : Change). left_ready ch old.state.pins old.state.spaces.table (settled c c old.state.spaces.table old.ready)) (sym none) ∙ settled_same old sound.good in
    answered ready AreTrue c m command reply c m sound gives (step_leaves old command reply old.state sound.good step old.ready (sym stays)) sound.notes
