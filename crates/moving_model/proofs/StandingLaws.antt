-- Laws of a machine that stands for others: its own step leads to one that stands for exactly the machines that they may come to.
use Rattle.std.proofs.Common.{◌≡◌, ◌≢◌, ℕ, ◌≤◌, ◌<◌, true, Option, None, Some, refl, sym, ap, subst, ◌∙◌, inl, inr}
use Rattle.std.specs.Option.{option_map}
use Rattle.vm_base.specs.declared.refusal.Refusal.{Refusal}
use Rattle.vm_base.proofs.EntryLaws.{some_same}
use Rattle.vm_model.specs.Machine.Words.{Command, Reply}
use Rattle.vm_model.specs.declared.command.Command.TheVariants.{VmoPin, VmoUnpin}
use Rattle.vm_model.specs.Contents.Content.{Page}
use Rattle.vm_model.specs.Naming.Pins.{is_pinned}
use Rattle.vm_model.specs.Machine.Given.{GivesName}
use Rattle.vm_model.specs.Machine.Refusals.{refusals, first_of}
use Rattle.vm_model.specs.Machine.Machine.{Machine, IsGoodMachine}
use Rattle.vm_model.specs.Machine.MachineStep.{MachineEffect, MachineStepAfter, MachineStep}
use Rattle.vm_model.proofs.ContentLaws.{sole_held}
use Rattle.vm_model.proofs.MachineLaws.{MachineStep-keeps}
use Rattle.moving_model.specs.Renaming.{KeepsFrom, page_renamed, machine_renamed}
use Rattle.moving_model.specs.Moving.{MovingStep, TellsNoFrames}
use Rattle.moving_model.specs.Standing.{StandsFor, AreSeen, AreLeft}
use Rattle.moving_model.proofs.NumberLaws.{no_renaming, back_keeps}
use Rattle.moving_model.proofs.ChangeLaws.{held-renamed, renamed_held}
use Rattle.moving_model.proofs.GoodLaws.{IsGoodMachine-renamed}
use Rattle.moving_model.proofs.StepLaws.{MachineStep-renamed}
use Rattle.moving_model.proofs.RunLaws.{and_then, undone, machine-same, machine-then, machine-undone, told_alike}
use Rattle.moving_model.proofs.PinnedLaws.{pinned_alone, pinned_stays}
use Rattle.moving_model.proofs.OutcomeLaws.{two_outcomes}
use Rattle.moving_model.proofs.PinsLaws.{effect_pins, was_pinned, outcomes_pinned}

-- ---- the beginning

-- a machine with no pinned page stands for itself
pub stands_same : (m : Machine) (numbers : ℕ → Option ℕ) → ((v p : ℕ) → is_pinned m.state.pins v p ≢ true) → StandsFor m numbers m
stands_same m numbers none =
    record { by = no_renaming; within = λ t h. refl; seen = λ v p held pinned e. absurd (none v p pinned); is = sym (machine-same m) }

-- ---- which pages are pinned

-- where the reply tells no frames, a page that is pinned afterwards was pinned before
pinned_before : (old new : Machine) (command : Command) (reply : Reply) → TellsNoFrames reply → MachineStep old command reply new → (v p : ℕ) → is_pinned new.state.pins v p ≡ true
    → is_pinned old.state.pins v p ≡ true
pinned_before old new command reply none step v p pinned = go (first_of (refusals old.state command)) step.outcome where
  same : new ≡ old → is_pinned old.state.pins v p ≡ true
  same e = subst (λ (m : Machine). is_pinned m.state.pins v p ≡ true) e pinned

  effect : (c : Command) → MachineEffect old c reply new → is_pinned old.state.pins v p ≡ true
  effect (VmoPin pin name offset len) e = absurd (none _ e.0.0)
  effect (VmoUnpin pin) e = was_pinned old.state new.state (VmoUnpin pin) v p (effect_pins old new (VmoUnpin pin) reply e) pinned
  effect c e = was_pinned old.state new.state c v p (effect_pins old new c reply e) pinned

  go : (o : Option Refusal) → MachineStepAfter o old command reply new → is_pinned old.state.pins v p ≡ true
  go (Some refusal) e = same e.same
  go None (inl e) = effect command e
  go None (inr e) = same e.0.same

-- so its frame has the number that was seen
module _ (own next : Machine) (command : Command) (reply : Reply) (good : IsGoodMachine own) (gives : GivesName command) (none : TellsNoFrames reply) (step : MachineStep own command reply next)
    (numbers : ℕ → Option ℕ) (other : Machine) (stands : StandsFor own numbers other) where
  still_seen : (v p : ℕ) (held : Page) → is_pinned next.state.pins v p ≡ true → next.state.content.page v p ≡ Some held → numbers held.tag ≡ Some (stands.by.to held.tag)
  still_seen v p held pinned e =
      let before = pinned_before own next command reply none step v p pinned in
      let was = sole_held own.state.content v p (pinned_alone own.state v p good.state before) in
      let now = pinned_stays own next command reply good step v p was.0 was.1 before pinned in
      let tag : held.tag ≡ was.0.tag = sym (ap (λ (page : Page). page.tag) (some_same (sym now.1 ∙ e))) ∙ now.2 in
      ap numbers tag ∙ (stands.seen v p was.0 before was.1 ∙ ap (λ (k : ℕ). Some (stands.by.to k)) (sym tag))

  frames_kept : next.state.content.frames ≡ own.state.content.frames
  frames_kept = (MachineStep-keeps own command reply next good gives step).frames

  within_next : KeepsFrom stands.by next.state.content.frames
  within_next t h = stands.within t (subst (λ (n : ℕ). n ≤ t) frames_kept h)

  -- the own step, renamed, is a step of the other machine
  pub other_step : MachineStep other command reply (machine_renamed stands.by next)
  other_step =
      subst (λ (m : Machine). MachineStep m command reply (machine_renamed stands.by next)) (sym stands.is)
      (subst (λ (told : Reply). MachineStep (machine_renamed stands.by own) command told (machine_renamed stands.by next)) (told_alike stands.by reply none)
      (MachineStep-renamed stands.by own next command reply stands.within good gives step))

  other_good : IsGoodMachine other
  other_good = subst IsGoodMachine (sym stands.is) (IsGoodMachine-renamed stands.by own stands.within good)

  -- A machine that the other one may come to is one that the next own machine stands for.
  pub stands_forth : (later : Machine) → MovingStep other command reply later → StandsFor next numbers later
  stands_forth later moving =
      let r = stands.by in
      let two = two_outcomes other (machine_renamed r next) moving.mid command reply other_good other_step moving.step in
      let pinned_then = outcomes_pinned other (machine_renamed r next) moving.mid command reply other_good gives other_step moving.step two in
      let t = two.by in
      let s = moving.moves in
      let mid : moving.mid ≡ machine_renamed t (machine_renamed r next) = two.is in
      let frames : other.state.content.frames ≡ own.state.content.frames = ap (λ (m : Machine). m.state.content.frames) stands.is in
      let mid_frames : moving.mid.state.content.frames ≡ next.state.content.frames = ap (λ (m : Machine). m.state.content.frames) mid in
      record {
        by = and_then (and_then r t) s;
        within = λ k h.
            let low : own.state.content.frames ≤ k = subst (λ (n : ℕ). n ≤ k) frames_kept h in
            ap s.to (ap t.to (stands.within k low) ∙ two.within k (subst (λ (n : ℕ). n ≤ k) (sym frames) low)) ∙ moving.within k (subst (λ (n : ℕ). n ≤ k) (sym mid_frames) h);
        seen = λ v p held pinned e.
            let page = held-renamed r (next.state.content.page v p) held e in
            let first : t.to (r.to held.tag) ≡ r.to held.tag = pinned_then v p (page_renamed r held) pinned page in
            let there : moving.mid.state.content.page v p ≡ Some (page_renamed t (page_renamed r held)) =
            ap (λ (m : Machine). m.state.content.page v p) mid ∙ held-renamed t (option_map (page_renamed r) (next.state.content.page v p)) (page_renamed r held) page in
            let pinned_mid : is_pinned moving.mid.state.pins v p ≡ true = subst (λ (m : Machine). is_pinned m.state.pins v p ≡ true) (sym mid) pinned in
            let second : s.to (t.to (r.to held.tag)) ≡ t.to (r.to held.tag) = moving.pinned v p (page_renamed t (page_renamed r held)) pinned_mid there in
            still_seen v p held pinned e ∙ ap (λ (k : ℕ). Some k) (sym (second ∙ first));
        is = moving.moved ∙ (ap (machine_renamed s) mid ∙ (ap (machine_renamed s) (machine-then r t next) ∙ machine-then (and_then r t) s next));
      }

  -- And each machine that the next own machine stands for is one that the other one may come to.
  pub stands_back : (later : Machine) → StandsFor next numbers later → MovingStep other command reply later
  stands_back later after =
      let r = stands.by in
      let u = after.by in
      record {
        mid = machine_renamed r next;
        step = other_step;
        moves = and_then (undone r) u;
        within = λ k h. ap u.to (back_keeps r next.state.content.frames within_next k h) ∙ after.within k h;
        pinned = λ v p held pinned e.
            let was = renamed_held r (next.state.content.page v p) held e in
            let tag : held.tag ≡ r.to was.0.tag = ap (λ (page : Page). page.tag) was.2 in
            let same : u.to was.0.tag ≡ r.to was.0.tag = some_same (sym (after.seen v p was.0 pinned was.1) ∙ still_seen v p was.0 pinned was.1) in
            ap (λ (k : ℕ). u.to (r.back k)) tag ∙ (ap u.to (r.there was.0.tag) ∙ (same ∙ sym tag));
        moved = after.is ∙ (ap (machine_renamed u) (sym (machine-undone r next)) ∙ machine-then (undone r) u (machine_renamed r next));
      }

  -- So the next own machine stands for some machine, and the other one is good.
  pub stands_step : (later : Machine) × StandsFor next numbers later
  stands_step = (machine_renamed stands.by next, record { by = stands.by; within = within_next; seen = still_seen; is = refl })

  pub stands_good : IsGoodMachine other
  stands_good = other_good

  -- What is left of the numbers is what was seen of the frames of its pinned pages.
  pub seen_left : (later : ℕ → Option ℕ) → AreSeen own numbers → AreLeft next numbers later → AreSeen next later
  seen_left later are left = record {
    below = λ t k e. subst (λ (n : ℕ). (t < n) × (k < n)) (sym frames_kept) (are.below t k (left.only t k e).0);
    one = λ t u k e f. are.one t u k (left.only t k e).0 (left.only u k f).0;
    each = λ v p held pinned e. (stands.by.to held.tag, left.same v p held pinned e ∙ still_seen v p held pinned e);
    only = λ t k e. (left.only t k e).1;
  }

-- It stands for the same machines by what is left of the numbers.
pub stands_left : (own : Machine) (numbers later : ℕ → Option ℕ) → AreLeft own numbers later → (other : Machine) → StandsFor own numbers other → StandsFor own later other
stands_left own numbers later left other stands =
    record { by = stands.by; within = stands.within; seen = λ v p held pinned e. left.same v p held pinned e ∙ stands.seen v p held pinned e; is = stands.is }

pub stands_all : (own : Machine) (numbers later : ℕ → Option ℕ) → AreLeft own numbers later → (other : Machine) → StandsFor own later other → StandsFor own numbers other
stands_all own numbers later left other stands =
    record { by = stands.by; within = stands.within; seen = λ v p held pinned e. sym (left.same v p held pinned e) ∙ stands.seen v p held pinned e; is = stands.is }
