-- Laws of a machine that stands for others, where a pin tells frames: which numbers it may tell, and what it stands for then.
use Rattle.std.proofs.Common.{◌≡◌, ℕ, zero, suc, ◌+◌, ◌≤◌, ◌<◌, true, List, [], ◌∷◌, map, Option, None, Some, ◌⊎◌, refl, sym, ap, subst, ◌∙◌, inl, inr, arith}
use Rattle.std.specs.List.{range_with_len}
use Rattle.std.proofs.lemmas.Bool.{cases_eq}
use Rattle.vm_base.specs.Entries.{with_key}
use Rattle.vm_base.specs.declared.limits.TheConstants.{NAMES}
use Rattle.vm_base.specs.declared.names.PinName.{PinName}
use Rattle.vm_base.specs.declared.names.VmoName.{VmoName}
use Rattle.vm_base.specs.declared.refusal.Refusal.{Refusal}
use Rattle.vm_base.proofs.EntryLaws.{some_same, with_key-same, with_key-here, with_key-other, with_key-cases, any_entry-with_key_kept}
use Rattle.vm_model.specs.Machine.Words.{Command, Reply}
use Rattle.vm_model.specs.declared.command.Command.TheVariants.{VmoPin}
use Rattle.vm_model.specs.declared.reply.Reply.TheVariants.{Pins}
use Rattle.vm_model.specs.Contents.Content.{Page}
use Rattle.vm_model.specs.Naming.Pins.{Pin, covers, is_pinned}
use Rattle.vm_model.specs.Machine.State.{target_of}
use Rattle.vm_model.specs.Machine.Refusals.{refusals, first_of}
use Rattle.vm_model.specs.Machine.Step.{pin_at, frame_of, frames_of}
use Rattle.vm_model.specs.Machine.Machine.{Machine, IsGoodMachine}
use Rattle.vm_model.specs.Machine.MachineStep.{MachineEffect, MachineStepAfter, MachineStep}
use Rattle.vm_model.proofs.ContentLaws.{sole_held}
use Rattle.vm_model.proofs.PinLaws.{covers_parts, is_pinned_of}
use Rattle.vm_model.proofs.MachineLaws.{MachineStep-keeps}
use Rattle.vm_model.proofs.StepLaws.{AllOff-from_none}
use Rattle.moving_model.specs.Renaming.{Renaming, KeepsFrom, page_renamed, machine_renamed}
use Rattle.moving_model.specs.Moving.{MovingStep}
use Rattle.moving_model.specs.Standing.{StandsFor, with_seen, Fits, AreSeen}
use Rattle.moving_model.proofs.NumberLaws.{back_keeps, to_once, to_below}
use Rattle.moving_model.proofs.ChangeLaws.{held-renamed, renamed_held}
use Rattle.moving_model.proofs.EffectLaws.{frames_of-renamed}
use Rattle.moving_model.proofs.KeptLaws.{frame_of-held, frames_kept}
use Rattle.moving_model.proofs.GoodLaws.{IsGoodMachine-renamed}
use Rattle.moving_model.proofs.OutcomeLaws.{pin_outcomes}
use Rattle.moving_model.proofs.StepLaws.{MachineStep-renamed}
use Rattle.moving_model.proofs.RunLaws.{and_then, undone, machine-then, machine-undone}
use Rattle.moving_model.proofs.PinnedLaws.{pinned_alone, pinned_stays}
use Rattle.moving_model.proofs.PinsLaws.{effect_pins, was_pinned}

-- ---- numbers that were seen

-- what was seen of a frame stays so, where the frames that come are told alike
seen_stays : (f : ℕ → ℕ) (frames : List ℕ) (numbers : ℕ → Option ℕ) (t : ℕ) → numbers t ≡ Some (f t) → with_seen numbers frames (map f frames) t ≡ Some (f t)
seen_stays f [] numbers t e = e
seen_stays f (s ∷ frames) numbers t e = seen_stays f frames (with_key numbers s (f s)) t (elim (cases_eq t s) [
  | inl same ↦ with_key-here numbers s (f s) t same ∙ ap (λ (k : ℕ). Some (f k)) (sym same)
  | inr apart ↦ with_key-other numbers s (f s) t apart ∙ e
])

-- and a frame that comes is seen
seen_comes : (f : ℕ → ℕ) (g : ℕ → ℕ) (first n : ℕ) (numbers : ℕ → Option ℕ) (p : ℕ) → first ≤ p → p < first + n
    → with_seen numbers (map g (range_with_len first n)) (map f (map g (range_with_len first n))) (g p) ≡ Some (f (g p))
seen_comes f g first zero numbers p low high = absurd (omega arith)
seen_comes f g first (suc n) numbers p low high = elim (cases_eq p first) [
  | inl same ↦
      seen_stays f (map g (range_with_len (first + 1) n)) (with_key numbers (g first) (f (g first))) (g p)
      (with_key-here numbers (g first) (f (g first)) (g p) (ap g same) ∙ ap (λ (k : ℕ). Some (f (g k))) (sym same))
  | inr apart ↦ seen_comes f g (first + 1) n (with_key numbers (g first) (f (g first))) p (omega arith) (omega arith)
]

-- what is seen was seen before, or is of a frame that comes
seen_from : (g : ℕ → ℕ) (first n : ℕ) (told : List ℕ) (numbers : ℕ → Option ℕ) (t k : ℕ) → with_seen numbers (map g (range_with_len first n)) told t ≡ Some k
    → (numbers t ≡ Some k) ⊎ ((p : ℕ) × (first ≤ p) × (p < first + n) × (g p ≡ t))
seen_from g first zero told numbers t k e = inl e
seen_from g first (suc n) [] numbers t k e = inl e
seen_from g first (suc n) (j ∷ told) numbers t k e = elim (seen_from g (first + 1) n told (with_key numbers (g first) j) t k e) [
  | inr later ↦ inr (later.0, omega (arith, later.1), omega (arith, later.2), later.3)
  | inl before ↦ elim (with_key-cases numbers (g first) j t k before) [
    | inl new ↦ inr (first, omega arith, omega arith, sym new.0)
    | inr old ↦ inl old.1
  ]
]

-- ---- a pin

pub pins_same : (a b : List ℕ) → ◌≡◌ {A = Reply} (Pins a) (Pins b) → a ≡ b
pins_same a b e = cc

-- where frames are told, the pin was made
record IsMade (old new : Machine) (pin : PinName) (name : VmoName) (offset len : ℕ) (frames : List ℕ) : Type 0 where
  pub effect : MachineEffect old (VmoPin pin name offset len) (Pins frames) new
  pub none : first_of (refusals old.state (VmoPin pin name offset len)) ≡ None

pin_made : (old new : Machine) (pin : PinName) (name : VmoName) (offset len : ℕ) (frames : List ℕ) → MachineStep old (VmoPin pin name offset len) (Pins frames) new → IsMade old new pin name offset len frames
pin_made old new pin name offset len frames step = go (first_of (refusals old.state (VmoPin pin name offset len))) refl step.outcome where
  go : (o : Option Refusal) → first_of (refusals old.state (VmoPin pin name offset len)) ≡ o → MachineStepAfter o old (VmoPin pin name offset len) (Pins frames) new → IsMade old new pin name offset len frames
  go (Some refusal) e refused = absurd (let answer = refused.answer in cc)
  go None e (inl effect) = record { effect = effect; none = e }
  go None e (inr lacked) = absurd (let answer = lacked.0.answer in cc)

-- what was pinned is pinned still
pin_keeps_pinned : (old new : Machine) (pin : PinName) (name : VmoName) (offset len : ℕ) (frames : List ℕ) → IsMade old new pin name offset len frames → (v p : ℕ) → is_pinned old.state.pins v p ≡ true
    → is_pinned new.state.pins v p ≡ true
pin_keeps_pinned old new pin name offset len frames made v p before =
    let off = AllOff-from_none (refusals old.state (VmoPin pin name offset len)) made.none in
    let placed = pin_at old.state name.0 offset len in
    let kept = any_entry-with_key_kept NAMES (covers v p) old.state.pins pin.0 placed off.1.0 before in
    subst (λ (pins : ℕ → Option Pin). is_pinned pins v p ≡ true) (sym (effect_pins old new (VmoPin pin name offset len) (Pins frames) made.effect)) kept

module _ (own next : Machine) (pin : PinName) (name : VmoName) (offset len : ℕ) (frames : List ℕ) (good : IsGoodMachine own) (gives : pin.0 < NAMES)
    (step : MachineStep own (VmoPin pin name offset len) (Pins frames) next) (numbers : ℕ → Option ℕ) where
  abbrev command : Command
  command = VmoPin pin name offset len

  abbrev placed : Pin
  placed = pin_at own.state name.0 offset len

  made : IsMade own next pin name offset len frames
  made = pin_made own next pin name offset len frames step

  fine : IsGoodMachine next
  fine = (MachineStep-keeps own command (Pins frames) next good gives step).good

  is_there : next.state.pins pin.0 ≡ Some placed
  is_there = ap (λ (pins : ℕ → Option Pin). pins pin.0) (effect_pins own next command (Pins frames) (made).effect) ∙ with_key-same own.state.pins pin.0 placed

  frames_are : frames ≡ frames_of next.state.content placed
  frames_are = pins_same frames (frames_of next.state.content placed) (made).effect.0.0

  frames_next : next.state.content.frames ≡ own.state.content.frames
  frames_next = (MachineStep-keeps own command (Pins frames) next good gives step).frames

  -- each page that is pinned then has its number
  all_seen : (r : Renaming) → ((v p : ℕ) (held : Page) → is_pinned own.state.pins v p ≡ true → own.state.content.page v p ≡ Some held → numbers held.tag ≡ Some (r.to held.tag))
      → (v p : ℕ) (held : Page) → is_pinned next.state.pins v p ≡ true → next.state.content.page v p ≡ Some held → with_seen numbers frames (map r.to frames) held.tag ≡ Some (r.to held.tag)
  all_seen r seen v p held pinned e = elim (was_pinned own.state next.state command v p (effect_pins own next command (Pins frames) (made).effect) pinned) [
    | inl before ↦
        let was = sole_held own.state.content v p (pinned_alone own.state v p good.state before) in
        let now = pinned_stays own next command (Pins frames) good step v p was.0 was.1 before pinned in
        let tag : held.tag ≡ was.0.tag = sym (ap (λ (page : Page). page.tag) (some_same (sym now.1 ∙ e))) ∙ now.2 in
        seen_stays r.to frames numbers held.tag (ap numbers tag ∙ (seen v p was.0 before was.1 ∙ ap (λ (k : ℕ). Some (r.to k)) (sym tag)))
    | inr new ↦
        let parts = covers_parts v p placed new in
        let g : ℕ → ℕ = λ q. frame_of (next.state.content.page placed.koid q) in
        let at : g p ≡ held.tag = ap (λ (w : ℕ). frame_of (next.state.content.page w p)) parts.0 ∙ frame_of-held (next.state.content.page v p) held e in
        let there = seen_comes r.to g placed.first placed.count numbers p parts.1 parts.2 in
        subst (λ (ts : List ℕ). with_seen numbers ts (map r.to ts) held.tag ≡ Some (r.to held.tag)) (sym frames_are)
        (subst (λ (k : ℕ). with_seen numbers (frames_of next.state.content placed) (map r.to (frames_of next.state.content placed)) k ≡ Some (r.to k)) at there)
  ]

  -- Each machine that the next own machine stands for, with numbers that fit, is one that some machine may come to which the own
  -- one stands for.
  pub pins_back : (told : List ℕ) → Fits own numbers frames told → (later : Machine) → StandsFor next (with_seen numbers frames told) later
      → (other : Machine) × StandsFor own numbers other × MovingStep other command (Pins told) later
  pins_back told fits later after =
      let w = fits.by in
      let u = after.by in
      let within : KeepsFrom w next.state.content.frames = λ k h. fits.within k (subst (λ (n : ℕ). n ≤ k) frames_next h) in
      let renamed = MachineStep-renamed w own next command (Pins frames) fits.within good gives step in (
        machine_renamed w own,
        record { by = w; within = fits.within; seen = fits.seen; is = refl },
        record {
          mid = machine_renamed w next;
          step = subst (λ (ts : List ℕ). MachineStep (machine_renamed w own) command (Pins ts) (machine_renamed w next)) fits.tells renamed;
          moves = and_then (undone w) u;
          within = λ k h. ap u.to (back_keeps w next.state.content.frames within k h) ∙ after.within k h;
          pinned = λ v p held pinned e.
              let was = renamed_held w (next.state.content.page v p) held e in
              let tag : held.tag ≡ w.to was.0.tag = ap (λ (page : Page). page.tag) was.2 in
              let mine = all_seen w fits.seen v p was.0 pinned was.1 in
              let mine_told : with_seen numbers frames told was.0.tag ≡ Some (w.to was.0.tag) = subst (λ (ts : List ℕ). with_seen numbers frames ts was.0.tag ≡ Some (w.to was.0.tag)) fits.tells mine in
              let same : u.to was.0.tag ≡ w.to was.0.tag = some_same (sym (after.seen v p was.0 pinned was.1) ∙ mine_told) in
              ap (λ (k : ℕ). u.to (w.back k)) tag ∙ (ap u.to (w.there was.0.tag) ∙ (same ∙ sym tag));
          moved = after.is ∙ (ap (machine_renamed u) (sym (machine-undone w next)) ∙ machine-then (undone w) u (machine_renamed w next));
        },
      )

  -- Where a machine for which the own one stands tells frames, these fit, and the next own machine stands for what it comes to.
  forth_from : (r : Renaming) → KeepsFrom r own.state.content.frames
      → ((v p : ℕ) (held : Page) → is_pinned own.state.pins v p ≡ true → own.state.content.page v p ≡ Some held → numbers held.tag ≡ Some (r.to held.tag))
      → (told : List ℕ) (later : Machine) → MovingStep (machine_renamed r own) command (Pins told) later → Fits own numbers frames told × StandsFor next (with_seen numbers frames told) later
  unfolding target_of
  forth_from r within seen told later moving =
      let other = machine_renamed r own in
      let other_good = IsGoodMachine-renamed r own within good in
      let same = MachineStep-renamed r own next command (Pins frames) within good gives step in
      let one = pin_made other (machine_renamed r next) pin name offset len (map r.to frames) same in
      let two_made = pin_made other moving.mid pin name offset len told moving.step in
      let two = pin_outcomes other (machine_renamed r next) moving.mid pin name offset len (Pins (map r.to frames)) (Pins told) other_good one.none one.effect two_made.effect in
      let t = two.by in
      let s = moving.moves in
      let w = and_then (and_then r t) s in
      let mid_good = (MachineStep-keeps other command (Pins told) moving.mid other_good gives moving.step).good in
      let mid_frames : moving.mid.state.content.frames ≡ next.state.content.frames = ap (λ (m : Machine). m.state.content.frames) two.is in
      let later_is : later ≡ machine_renamed w next =
      moving.moved ∙ (ap (machine_renamed s) two.is ∙ (ap (machine_renamed s) (machine-then r t next) ∙ machine-then (and_then r t) s next)) in
      let mid_pin : moving.mid.state.pins pin.0 ≡ Some placed =
      ap (λ (pins : ℕ → Option Pin). pins pin.0) (effect_pins other moving.mid command (Pins told) two_made.effect) ∙ with_key-same other.state.pins pin.0 placed in
      let mid_told : told ≡ frames_of moving.mid.state.content placed = pins_same told (frames_of moving.mid.state.content placed) two_made.effect.0.0 in
      let tells : map w.to frames ≡ told =
      ap (map w.to) frames_are
      ∙ (frames_of-renamed w next.state.content placed (fine.state.pins pin.0 placed is_there).1.alone
      ∙ (ap (λ (m : Machine). frames_of m.state.content placed) (sym later_is)
      ∙ (ap (λ (m : Machine). frames_of m.state.content placed) moving.moved
      ∙ (sym (frames_of-renamed s moving.mid.state.content placed (mid_good.state.pins pin.0 placed mid_pin).1.alone)
      ∙ (frames_kept s moving.mid.state pin.0 placed mid_good.state mid_pin moving.pinned ∙ sym mid_told))))) in
      let keeps : KeepsFrom w own.state.content.frames = λ k h.
      ap s.to (ap t.to (within k h) ∙ two.within k h) ∙ moving.within k (subst (λ (n : ℕ). n ≤ k) (sym (mid_frames ∙ frames_next)) h) in
      let known : (v p : ℕ) (held : Page) → is_pinned own.state.pins v p ≡ true → own.state.content.page v p ≡ Some held → numbers held.tag ≡ Some (w.to held.tag) = λ v p held pinned e.
      let page = held-renamed r (own.state.content.page v p) held e in
      let first : t.to (r.to held.tag) ≡ r.to held.tag = two.pinned v p (page_renamed r held) pinned page in
      let then = pin_keeps_pinned other moving.mid pin name offset len told two_made v p pinned in
      let there = pinned_stays other moving.mid command (Pins told) other_good moving.step v p (page_renamed r held) page pinned then in
      let second : s.to (r.to held.tag) ≡ r.to held.tag = ap s.to (sym there.2) ∙ (moving.pinned v p there.0 then there.1 ∙ there.2) in
      seen v p held pinned e ∙ ap (λ (k : ℕ). Some k) (sym (ap s.to first ∙ second)) in (
        record { by = w; within = keeps; seen = known; tells = tells },
        record {
          by = w;
          within = λ k h. keeps k (subst (λ (n : ℕ). n ≤ k) frames_next h);
          seen = λ v p held pinned e.
              subst (λ (ts : List ℕ). with_seen numbers frames ts held.tag ≡ Some (w.to held.tag)) tells (all_seen w known v p held pinned e);
          is = later_is;
        },
      )

  pub pins_forth : (other : Machine) → StandsFor own numbers other → (told : List ℕ) (later : Machine) → MovingStep other command (Pins told) later
      → Fits own numbers frames told × StandsFor next (with_seen numbers frames told) later
  pins_forth other stands told later moving =
      forth_from stands.by stands.within stands.seen told later (subst (λ (m : Machine). MovingStep m command (Pins told) later) stands.is moving)

  -- So where numbers fit, the next own machine stands for some machine.
  pub pins_some : (told : List ℕ) → Fits own numbers frames told → (later : Machine) × StandsFor next (with_seen numbers frames told) later
  pins_some told fits = (
    machine_renamed fits.by next,
    record {
      by = fits.by;
      within = λ k h. fits.within k (subst (λ (n : ℕ). n ≤ k) frames_next h);
      seen = λ v p held pinned e. subst (λ (ts : List ℕ). with_seen numbers frames ts held.tag ≡ Some (fits.by.to held.tag)) fits.tells (all_seen fits.by fits.seen v p held pinned e);
      is = refl;
    },
  )

  -- And what is seen then is of its pinned pages.
  module _ (told : List ℕ) (fits : Fits own numbers frames told) (are : AreSeen own numbers) where
    abbrev later : ℕ → Option ℕ
    later = with_seen numbers frames told

    each_then : (v p : ℕ) (held : Page) → is_pinned next.state.pins v p ≡ true → next.state.content.page v p ≡ Some held → later held.tag ≡ Some (fits.by.to held.tag)
    each_then v p held pinned e = subst (λ (ts : List ℕ). with_seen numbers frames ts held.tag ≡ Some (fits.by.to held.tag)) fits.tells (all_seen fits.by fits.seen v p held pinned e)

    only_then : (t k : ℕ) → later t ≡ Some k → (v p : ℕ) × (held : Page) × (is_pinned next.state.pins v p ≡ true) × (next.state.content.page v p ≡ Some held) × (held.tag ≡ t)
    only_then t k e =
        let g : ℕ → ℕ = λ q. frame_of (next.state.content.page placed.koid q) in
        elim (seen_from g placed.first placed.count told numbers t k (subst (λ (ts : List ℕ). with_seen numbers ts told t ≡ Some k) frames_are e)) [
          | inl old ↦
              let was = are.only t k old in
              let pinned = pin_keeps_pinned own next pin name offset len frames made was.0 was.1 was.3 in
              let still = pinned_stays own next command (Pins frames) good step was.0 was.1 was.2 was.4 was.3 pinned in
              (was.0, was.1, still.0, pinned, still.1, still.2 ∙ was.5)
          | inr new ↦
              let alone = (fine.state.pins pin.0 placed is_there).1.alone new.0 new.1 new.2 in
              let held = sole_held next.state.content placed.koid new.0 alone in
              let pinned = is_pinned_of next.state.pins pin.0 new.0 placed gives is_there new.1 new.2 in
              (placed.koid, new.0, held.0, pinned, held.1, sym (frame_of-held (next.state.content.page placed.koid new.0) held.0 held.1) ∙ new.3)
        ]

    -- a number is what the frame is renamed to
    number_is : (t k : ℕ) → later t ≡ Some k → k ≡ fits.by.to t
    number_is t k e =
        let page = only_then t k e in
        some_same (sym e ∙ (ap later (sym page.5) ∙ (each_then page.0 page.1 page.2 page.3 page.4 ∙ ap (λ (n : ℕ). Some (fits.by.to n)) page.5)))

    frame_below : (t k : ℕ) → later t ≡ Some k → t < own.state.content.frames
    frame_below t k e =
        let page = only_then t k e in
        subst (λ (n : ℕ). n < own.state.content.frames) page.5 (subst (λ (n : ℕ). page.2.tag < n) frames_next (fine.state.content.tags page.0 page.1 page.2 page.4))

    pub pins_seen : AreSeen next later
    pins_seen = record {
      below = λ t k e.
          let low = frame_below t k e in
          subst (λ (n : ℕ). (t < n) × (k < n)) (sym frames_next) (low, subst (λ (n : ℕ). n < own.state.content.frames) (sym (number_is t k e)) (to_below fits.by own.state.content.frames t fits.within low));
      one = λ t u k e f. to_once fits.by t u (sym (number_is t k e) ∙ number_is u k f);
      each = λ v p held pinned e. (fits.by.to held.tag, each_then v p held pinned e);
      only = λ t k e. only_then t k e;
    }
