-- Laws of the numbers that were seen, once pages may be pinned no more.
use Rattle.std.proofs.Common.{◌≡◌, ◌≢◌, ℕ, ◌+◌, ◌-◌, ◌<◌, ◌≤◌, Bool, true, false, ltb, ◌||◌, ◌==◌, List, [], ◌∷◌, length, Option, None, Some, ◌⊎◌, refl, sym, ap, subst, ◌∙◌, inl, inr, arith}
use Rattle.std.specs.List.{AllByRecursion, list_any}
use Rattle.std.specs.Option.{option_map}
use Rattle.std.proofs.lemmas.Bool.{cases_Bool, cases_eq, cases_lt, cond-true, cond-false, ltb-true, ltb-false, lt-ltb, le-ltb}
use Rattle.vm_base.specs.declared.limits.TheConstants.{NAMES, PIN_PAGES}
use Rattle.vm_base.specs.declared.names.PinName.{PinName}
use Rattle.vm_base.specs.declared.refusal.Refusal.{Refusal}
use Rattle.vm_base.proofs.EntryLaws.{some_same, any_entry_found, any_entry_at, without_key-other, without_key-some}
use Rattle.vm_base.proofs.SearchLaws.{eqb_is}
use Rattle.vm_base.specs.Entries.{without_key}
use Rattle.vm_model.specs.Machine.Words.{Command, Reply}
use Rattle.vm_model.specs.declared.command.Command.TheVariants as Command
use Rattle.vm_model.specs.declared.command.Command.TheVariants.{VmoPin, VmoUnpin}
use Rattle.vm_model.specs.Contents.Content.{Page}
use Rattle.vm_model.specs.Naming.Pins.{Pin, is_pinned, covers}
use Rattle.vm_model.specs.Machine.Refusals.{refusals, first_of}
use Rattle.vm_model.specs.Machine.Machine.{Machine, IsGoodMachine}
use Rattle.vm_model.specs.Machine.MachineStep.{MachineEffect, MachineStepAfter, MachineStep}
use Rattle.vm_model.proofs.ContentLaws.{sole_held}
use Rattle.vm_model.proofs.PinLaws.{covers_parts}
use Rattle.moving_model.specs.Moving.{TellsNoFrames}
use Rattle.moving_model.specs.Standing.{AreSeen, AreLeft}
use Rattle.moving_model.proofs.PinnedLaws.{pinned_stays}
use Rattle.moving_model.proofs.PinsLaws.{effect_pins}
use Rattle.checker_machine.specs.Machine.{HasPinnedFrame, pinned_frame}
use Rattle.transcript.specs.Seen.{HasFrames, Frees, IsCleared}

-- ---- the frames of a pin

-- a page of a pin has a frame
frame_there : (m : Machine) (n : ℕ) (pin : Pin) (at : ℕ) → IsGoodMachine m → m.state.pins n ≡ Some pin → at < pin.count
    → (held : Page) × (m.state.content.page pin.koid (pin.first + at) ≡ Some held) × (pinned_frame m.state (m.state.pins n) at ≡ Some held.tag)
frame_there m n pin at good e h =
    let held = sole_held m.state.content pin.koid (pin.first + at) ((good.state.pins n pin e).1.alone (pin.first + at) (omega arith) (omega (arith, h))) in
    let inside : pinned_frame m.state (Some pin) at ≡ option_map (λ (page : Page). page.tag) (m.state.content.page pin.koid (pin.first + at)) = cond-true _ _ _ (lt-ltb at pin.count h) in
    (held.0, held.1, ap (λ (o : Option Pin). pinned_frame m.state o at) e ∙ (inside ∙ ap (option_map (λ (page : Page). page.tag)) held.1))

-- behind a page that is not there, none is
pub none_behind : (m : Machine) (n i j : ℕ) → IsGoodMachine m → pinned_frame m.state (m.state.pins n) i ≡ None → i ≤ j → pinned_frame m.state (m.state.pins n) j ≡ None
none_behind m n i j good e h = go (m.state.pins n) refl where
  go : (o : Option Pin) → m.state.pins n ≡ o → pinned_frame m.state (m.state.pins n) j ≡ None
  go None f = ap (λ (o : Option Pin). pinned_frame m.state o j) f
  go (Some pin) f = elim (cases_Bool (ltb i pin.count)) [
    | inl low ↦ absurd (let there = (frame_there m n pin i good f (ltb-true i pin.count low)).2 in let both = sym e ∙ there in cc)
    | inr high ↦
        let past : ltb j pin.count ≡ false = le-ltb j pin.count (omega (arith, ltb-false i pin.count high, h)) in
        ap (λ (o : Option Pin). pinned_frame m.state o j) f ∙ cond-false _ _ _ past
  ]

-- a pin has at most PIN_PAGES pages
pub none_past : (m : Machine) (n j : ℕ) → IsGoodMachine m → PIN_PAGES ≤ j → pinned_frame m.state (m.state.pins n) j ≡ None
none_past m n j good h = go (m.state.pins n) refl where
  go : (o : Option Pin) → m.state.pins n ≡ o → pinned_frame m.state (m.state.pins n) j ≡ None
  go None f = ap (λ (o : Option Pin). pinned_frame m.state o j) f
  go (Some pin) f =
      let past : ltb j pin.count ≡ false = le-ltb j pin.count (omega (arith, (good.state.pins n pin f).1.few.1, h)) in
      ap (λ (o : Option Pin). pinned_frame m.state o j) f ∙ cond-false _ _ _ past

-- ---- what was seen of pinned pages

-- what is in a list passes a test of all of it
pub all_in : (P : ℕ → Type 0) (xs : List ℕ) (t : ℕ) → AllByRecursion P xs → list_any (λ x. x == t) xs ≡ true → P t
all_in P [] t all e = absurd cc
all_in P (x ∷ xs) t all e = elim (cases_Bool (x == t)) [
  | inl same ↦ subst P (eqb_is x t same) all.0
  | inr other ↦ all_in P xs t all.1 (sym (ap (λ (b : Bool). b || list_any (λ y. y == t) xs) other) ∙ e)
]

-- A page that was pinned is pinned still, or is one of a pin that went.
still_pinned : (old next : Machine) (command : Command) (reply : Reply) → TellsNoFrames reply → MachineStep old command reply next → (v p : ℕ) → is_pinned old.state.pins v p ≡ true
    → (is_pinned next.state.pins v p ≡ true) ⊎ ((pin : PinName) × (gone : Pin) × (command ≡ VmoUnpin pin) × (old.state.pins pin.0 ≡ Some gone) × (covers v p gone ≡ true))
still_pinned old next command reply none step v p pinned = go (first_of (refusals old.state command)) step.outcome where
  same : next ≡ old → is_pinned next.state.pins v p ≡ true
  same e = subst (λ (m : Machine). is_pinned m.state.pins v p ≡ true) (sym e) pinned

  alike : next.state.pins ≡ old.state.pins → is_pinned next.state.pins v p ≡ true
  alike e = subst (λ (pins : ℕ → Option Pin). is_pinned pins v p ≡ true) (sym e) pinned

  effect : (c : Command) → MachineEffect old c reply next → (is_pinned next.state.pins v p ≡ true) ⊎ ((pin : PinName) × (gone : Pin) × (c ≡ VmoUnpin pin) × (old.state.pins pin.0 ≡ Some gone) × (covers v p gone ≡ true))
  effect (VmoPin pin name offset len) e = absurd (none _ e.0.0)
  effect (VmoUnpin pin) e =
      let found = any_entry_found NAMES (covers v p) old.state.pins pinned in
      elim (cases_eq found.0 pin.0) [
        | inl mine ↦ inr (pin, found.1, refl, subst (λ (n : ℕ). old.state.pins n ≡ Some found.1) mine found.3, found.4)
        | inr other ↦ inl (any_entry_at NAMES (covers v p) next.state.pins found.0 found.1 found.2
            (ap (λ (pins : ℕ → Option Pin). pins found.0) (effect_pins old next (VmoUnpin pin) reply e) ∙ (without_key-other old.state.pins pin.0 found.0 other ∙ found.3)) found.4)
      ]
  effect c e = inl (alike (effect_pins old next c reply e))

  go : (o : Option Refusal) → MachineStepAfter o old command reply next → (is_pinned next.state.pins v p ≡ true) ⊎ ((pin : PinName) × (gone : Pin) × (command ≡ VmoUnpin pin) × (old.state.pins pin.0 ≡ Some gone) × (covers v p gone ≡ true))
  go (Some refusal) e = inl (same e.same)
  go None (inl e) = effect command e
  go None (inr e) = inl (same e.0.same)

-- Where the frames of a pin that went are cleared, what is left is what was seen of pinned pages.
pub left_cleared : (old next : Machine) (command : Command) (reply : Reply) (was later : ℕ → Option ℕ) (freed : List ℕ) → IsGoodMachine old → TellsNoFrames reply → MachineStep old command reply next
    → AreSeen old was → Frees old command freed → IsCleared next was later freed → AreLeft next was later
left_cleared old next command reply was later freed good none step seen frees cleared = record {
  same = λ v p held pinned e. cleared.kept held.tag (v, p, held, pinned, e, refl);
  only = λ t k e. let before = cleared.sub t k e in (before, there t k before e);
} where
  there : (t k : ℕ) → was t ≡ Some k → later t ≡ Some k → HasPinnedFrame next t
  there t k before e =
      let page = seen.only t k before in
      elim (still_pinned old next command reply none step page.0 page.1 page.3) [
        | inl pinned ↦
            let now = pinned_stays old next command reply good step page.0 page.1 page.2 page.4 page.3 pinned in
            (page.0, page.1, now.0, pinned, now.1, now.2 ∙ page.5)
        | inr gone ↦
            let parts = covers_parts page.0 page.1 gone.1 gone.4 in
            let at = page.1 - gone.1.first in
            let place : gone.1.first + at ≡ page.1 = omega (arith, parts.1) in
            let frame = frame_there old gone.0.0 gone.1 at good gone.3 (omega (arith, parts.1, parts.2)) in
            let same : frame.0 ≡ page.2 = some_same (sym frame.1 ∙ ((λ i. old.state.content.page (parts.0 i) (place i)) ∙ page.4)) in
            let tag : frame.0.tag ≡ t = ap (λ (h : Page). h.tag) same ∙ page.5 in
            let mine = subst (λ (c : Command). Frees old c freed) gone.2 frees in
            all_in (λ u. (j : ℕ) → later u ≡ Some j → HasPinnedFrame next u) freed t cleared.gone (mine at t (frame.2 ∙ ap (λ (n : ℕ). Some n) tag)) k e
      ]

-- ---- forgetting

pub frees_none : (m : Machine) (call : Command) (freed : List ℕ) → ((pin : PinName) → call ≢ Command.VmoUnpin pin) → Frees m call freed
frees_none m (Command.VmoUnpin pin) freed none = absurd (none pin refl)
frees_none m call freed none = tt

pub frees_pin : (m : Machine) (call : Command) (pin : PinName) (freed : List ℕ) → call ≡ Command.VmoUnpin pin → HasFrames m pin.0 freed → Frees m call freed
frees_pin m call pin freed e frames = subst (λ (c : Command). Frees m c freed) (sym e) frames

-- the frames of the first pages were found
abbrev pub HasFirst : Machine → ℕ → ℕ → List ℕ → Type 0
HasFirst m pin count frames = (at frame : ℕ) → at < count → pinned_frame m.state (m.state.pins pin) at ≡ Some frame → list_any (λ x. x == frame) frames ≡ true

pub first_all : (m : Machine) (pin count : ℕ) (frames : List ℕ) → HasFirst m pin count frames → IsGoodMachine m → pinned_frame m.state (m.state.pins pin) count ≡ None → HasFrames m pin frames
first_all m pin count frames has good e = λ at found f. elim (cases_lt at count) [
  | inl low ↦ has at found low f
  | inr high ↦ absurd (let none = none_behind m pin count at good e high in let both = sym none ∙ f in cc)
]

pub first_full : (m : Machine) (pin count : ℕ) (frames : List ℕ) → HasFirst m pin count frames → IsGoodMachine m → PIN_PAGES ≤ count → HasFrames m pin frames
first_full m pin count frames has good h = first_all m pin count frames has good (none_past m pin count good h)

-- nothing was forgotten
pub cleared_none : (m : Machine) (was : ℕ → Option ℕ) → IsCleared m was was []
cleared_none m was = record { sub = λ t k e. e; kept = λ t h. refl; gone = tt }

pub cleared_gone : (m : Machine) (was later : ℕ → Option ℕ) (frame : ℕ) → (HasPinnedFrame m frame → ⊥) → later ≡ without_key was frame → IsCleared m was later (frame ∷ [])
cleared_gone m was later frame none e = record {
  sub = λ t k f. (without_key-some was frame t k (sym (ap (λ (g : ℕ → Option ℕ). g t) e) ∙ f)).1;
  kept = λ t h. ap (λ (g : ℕ → Option ℕ). g t) e ∙ without_key-other was frame t (λ same. none (subst (HasPinnedFrame m) same h));
  gone = (λ k f. absurd ((without_key-some was frame frame k (sym (ap (λ (g : ℕ → Option ℕ). g frame) e) ∙ f)).0 refl), tt);
}

pub cleared_both : (m : Machine) (was mid later : ℕ → Option ℕ) (frame : ℕ) (freed : List ℕ) → IsCleared m was mid (frame ∷ []) → IsCleared m mid later freed → IsCleared m was later (frame ∷ freed)
cleared_both m was mid later frame freed one rest = record {
  sub = λ t k e. one.sub t k (rest.sub t k e);
  kept = λ t h. rest.kept t h ∙ one.kept t h;
  gone = (λ k e. one.gone.0 k (rest.sub frame k e), rest.gone);
}

-- the same of a list by its first frame and the others
pub cleared_empty : (m : Machine) (was : ℕ → Option ℕ) (freed : List ℕ) → length freed ≡ 0 → IsCleared m was was freed
cleared_empty m was [] e = cleared_none m was
cleared_empty m was (frame ∷ freed) e = absurd (omega (arith, e))

pub cleared_split : (m : Machine) (was mid later : ℕ → Option ℕ) (all : List ℕ) (frame : ℕ) (freed : List ℕ) → all ≡ frame ∷ freed → IsCleared m was mid (frame ∷ []) → IsCleared m mid later freed → IsCleared m was later all
cleared_split m was mid later all frame freed e one rest = subst (IsCleared m was later) (sym e) (cleared_both m was mid later frame freed one rest)
