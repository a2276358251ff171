-- Laws of what a pin tells: its line tells its numbers apart from all others.
use Rattle.std.proofs.Common.{◌≡◌, ℕ, zero, suc, ◌+◌, ◌^◌, ◌<◌, ◌≤◌, Bool, true, not, ◌||◌, ◌==◌, List, [], ◌∷◌, ◌++◌, map, Option, None, Some, ◌⊎◌, refl, sym, ap, subst, ◌∙◌, inl, inr, append_assoc, arith}
use Rattle.std.specs.Prelude.{decimal}
use Rattle.std.specs.List.{AllByRecursion, flat_map, list_all, range_with_len}
use Rattle.std.specs.Str.Parse.{AllDigits, digits_value}
use Rattle.std.proofs.lemmas.Bool.Decides.{nat_tests}
use Rattle.std.proofs.lemmas.Str.Parse.{digit_from_value}
use Rattle.std.proofs.lemmas.Bool.{and_parts, and_from, both_ways, not-true}
use Rattle.std.proofs.lemmas.Fmt.{decimal_is_IsNumeral}
use Rattle.vm_base.specs.declared.limits.TheConstants.{NAMES}
use Rattle.vm_base.specs.declared.names.PinName.{PinName}
use Rattle.vm_base.specs.declared.names.VmoName.{VmoName}
use Rattle.vm_base.specs.declared.refusal.Refusal.{Refusal}
use Rattle.vm_base.proofs.EntryLaws.{with_key-same}
use Rattle.vm_model.specs.declared.command.Command.TheVariants.{VmoPin}
use Rattle.vm_model.specs.Machine.Words.{Reply}
use Rattle.vm_model.specs.declared.reply.Reply.TheVariants.{Pins, Refused}
use Rattle.vm_model.specs.Contents.Content.{Content, sole, IsGood}
use Rattle.vm_model.specs.Language.Text.{reply_lines}
use Rattle.vm_model.specs.Naming.Pins.{Pin}
use Rattle.vm_model.specs.Machine.Refusals.{refusals, first_of}
use Rattle.vm_model.specs.Machine.Step.{pin_at, frame_of, frames_of}
use Rattle.vm_model.specs.Machine.Machine.{Machine, IsGoodMachine}
use Rattle.vm_model.specs.Machine.MachineStep.{MachineStepAfter, MachineStep}
use Rattle.vm_model.proofs.ContentLaws.{sole_held}
use Rattle.vm_model.proofs.MachineLaws.{MachineStep-keeps}
use Rattle.moving_model.specs.Following.{first_line}
use Rattle.moving_model.proofs.KeptLaws.{frame_of-held}
use Rattle.moving_model.proofs.PinsLaws.{effect_pins}

-- ---- numbers behind spaces

abbrev Has64 : ℕ → Type 0
Has64 n = n < 2 ^ 64

-- a byte ends a number: a space, or a line feed
abbrev is_end : ℕ → Bool
is_end b = (b == 32) || (b == 10)

abbrev begins_end : List ℕ → Bool
begins_end [] = true
begins_end (b ∷ bs) = is_end b

abbrev is_solid : List ℕ → Bool
is_solid bs = list_all (λ b. not (is_end b)) bs

heads : (a b : ℕ) (xs ys : List ℕ) → a ∷ xs ≡ b ∷ ys → (a ≡ b) × (xs ≡ ys)
heads a b xs ys e = (cc, cc)

meet : (ws : List ℕ) (z : ℕ) (zs : List ℕ) → begins_end ws ≡ true → not (is_end z) ≡ true → ws ≡ z ∷ zs → ⊥
meet ws z zs f g h = both_ways (is_end z) (not-true (is_end z) g) (sym (ap begins_end h) ∙ f)

solid_same : (xs ys us vs : List ℕ) → is_solid xs ≡ true → is_solid ys ≡ true → begins_end us ≡ true → begins_end vs ≡ true → xs ++ us ≡ ys ++ vs → (xs ≡ ys) × (us ≡ vs)
solid_same [] [] us vs s t b c e = (refl, e)
solid_same [] (y ∷ ys) us vs s t b c e = absurd (meet us y (ys ++ vs) b (and_parts (not (is_end y)) (is_solid ys) t).0 e)
solid_same (x ∷ xs) [] us vs s t b c e = absurd (meet vs x (xs ++ us) c (and_parts (not (is_end x)) (is_solid xs) s).0 (sym e))
solid_same (x ∷ xs) (y ∷ ys) us vs s t b c e =
    let parts = heads x y (xs ++ us) (ys ++ vs) e in
    let rest = solid_same xs ys us vs (and_parts (not (is_end x)) (is_solid xs) s).1 (and_parts (not (is_end y)) (is_solid ys) t).1 b c parts.1 in
    ((λ i. parts.0 i ∷ rest.0 i), rest.1)

-- digits end no number
digits_solid : (ds : List ℕ) → AllDigits 10 ds → is_solid ds ≡ true
digits_solid [] all = refl
digits_solid (c ∷ cs) all =
    let range = digit_from_value c all.0 in
    let solid : not (is_end c) ≡ true = grind (arith, nat_tests) in
    and_from (not (is_end c)) (is_solid cs) solid (digits_solid cs all.1)

decimal_solid : (n : ℕ) → Has64 n → is_solid (decimal n) ≡ true
decimal_solid n h = digits_solid (decimal n) (decimal_is_IsNumeral n h).0.1

abbrev all_spaced : List ℕ → List ℕ
all_spaced numbers = flat_map (λ n. 32 ∷ decimal n) numbers

spaced_begins : (numbers : List ℕ) → begins_end (all_spaced numbers ++ 10 ∷ []) ≡ true
spaced_begins [] = refl
spaced_begins (n ∷ numbers) = refl

spaced_same : (xs ys : List ℕ) → AllByRecursion Has64 xs → AllByRecursion Has64 ys → all_spaced xs ++ 10 ∷ [] ≡ all_spaced ys ++ 10 ∷ [] → xs ≡ ys
spaced_same [] [] s t e = refl
spaced_same [] (y ∷ ys) s t e = absurd (apart (heads 10 32 _ _ e).0) where
  apart : ◌≡◌ {A = ℕ} 10 32 → ⊥
  apart f = omega (arith, f)
spaced_same (x ∷ xs) [] s t e = absurd (apart (heads 32 10 _ _ e).0) where
  apart : ◌≡◌ {A = ℕ} 32 10 → ⊥
  apart f = omega (arith, f)
spaced_same (x ∷ xs) (y ∷ ys) s t e =
    let text : decimal x ++ (all_spaced xs ++ 10 ∷ []) ≡ decimal y ++ (all_spaced ys ++ 10 ∷ []) =
    sym (append_assoc (decimal x) (all_spaced xs) (10 ∷ [])) ∙ ((heads 32 32 _ _ e).1 ∙ append_assoc (decimal y) (all_spaced ys) (10 ∷ [])) in
    let parts = solid_same (decimal x) (decimal y) (all_spaced xs ++ 10 ∷ []) (all_spaced ys ++ 10 ∷ []) (decimal_solid x s.0) (decimal_solid y t.0) (spaced_begins xs) (spaced_begins ys) text in
    let here : x ≡ y = sym (decimal_is_IsNumeral x s.0).1 ∙ (ap (digits_value 10) parts.0 ∙ (decimal_is_IsNumeral y t.0).1) in
    let rest = spaced_same xs ys s.1 t.1 parts.1 in
    λ i. here i ∷ rest i

pins_line : (numbers : List ℕ) → first_line (Pins numbers) ≡ 79 ∷ 75 ∷ (all_spaced numbers ++ 10 ∷ [])
unfolding reply_lines
pins_line numbers = refl

-- two lists of numbers of one line are one
pub pins_text : (xs ys : List ℕ) → AllByRecursion (λ n. n < 2 ^ 64) xs → AllByRecursion (λ n. n < 2 ^ 64) ys → first_line (Pins xs) ≡ first_line (Pins ys) → xs ≡ ys
pins_text xs ys s t e = spaced_same xs ys s t (heads 75 75 _ _ (heads 79 79 _ _ (sym (pins_line xs) ∙ (e ∙ pins_line ys))).1).1

-- ---- what a pin tells

row_low : (c : Content) (v first n : ℕ) → IsGood c → ((p : ℕ) → first ≤ p → p < first + n → sole c v p ≡ true)
    → AllByRecursion (λ t. t < c.frames) (map (λ p. frame_of (c.page v p)) (range_with_len first n))
row_low c v first zero good alone = tt
row_low c v first (suc n) good alone =
    let held = sole_held c v first (alone first (omega arith) (omega arith)) in (
      subst (λ (t : ℕ). t < c.frames) (sym (frame_of-held (c.page v first) held.0 held.1)) (good.tags v first held.0 held.1),
      row_low c v (first + 1) n good (λ p low high. alone p (omega arith) (omega arith)),
    )

-- a pin is answered by frames of the machine, or is refused
pub pin_cases : (old new : Machine) (pin : PinName) (name : VmoName) (offset len : ℕ) (reply : Reply) → IsGoodMachine old → pin.0 < NAMES → MachineStep old (VmoPin pin name offset len) reply new
    → ((numbers : List ℕ) × (reply ≡ Pins numbers) × AllByRecursion (λ t. t < old.state.content.frames) numbers) ⊎ ((refusal : Refusal) × (reply ≡ Refused refusal))
pin_cases old new pin name offset len reply good gives step = go (first_of (refusals old.state (VmoPin pin name offset len))) step.outcome where
  go : (o : Option Refusal) → MachineStepAfter o old (VmoPin pin name offset len) reply new
      → ((numbers : List ℕ) × (reply ≡ Pins numbers) × AllByRecursion (λ t. t < old.state.content.frames) numbers) ⊎ ((refusal : Refusal) × (reply ≡ Refused refusal))
  go (Some refusal) e = inr (refusal, e.answer)
  go None (inr e) = inr (_, e.0.answer)
  go None (inl e) =
      let placed = pin_at old.state name.0 offset len in
      let fine = MachineStep-keeps old (VmoPin pin name offset len) reply new good gives step in
      let is : new.state.pins pin.0 ≡ Some placed = ap (λ (pins : ℕ → Option Pin). pins pin.0) (effect_pins old new (VmoPin pin name offset len) reply e) ∙ with_key-same old.state.pins pin.0 placed in
      let low = row_low new.state.content placed.koid placed.first placed.count fine.good.state.content (fine.good.state.pins pin.0 placed is).1.alone in
      inl (frames_of new.state.content placed, e.0.0, subst (λ (n : ℕ). AllByRecursion (λ t. t < n) (frames_of new.state.content placed)) fine.frames low)
