-- How many pins a page has, as its number of pins comes, changes or goes.
use Rattle.std.proofs.Common.{◌≡◌, ℕ, ◌+◌, ◌≤◌, Bool, true, false, ◌&&◌, ◌==◌, cond, Option, IfSome}
use Rattle.std.proofs.Common.{refl, sym, ap, subst, ◌∙◌, inl, inr, arith}
use Rattle.std.specs.Prelude.{unwrap_or}
use Rattle.std.proofs.lemmas.Bool.{and_parts, cases_Bool, cond-true, cond-false}
use Rattle.std.proofs.lemmas.Bool.Decides.{Decides-eqb, nat_tests}
use Rattle.pair_map.specs.Maps.{with_pair}
use Rattle.vm_model.specs.Contents.Zeroing.{is_within}
use Rattle.pin_table.specs.inside.Pages.{pins_at, AllHavePins, AddsPin}

cond-same : (b : Bool) → ◌≡◌ {A = ℕ} (cond b 0 0) 0
cond-same true = refl
cond-same false = refl

-- page p of v got a number of pins, or lost it
module _ (old new : ℕ → ℕ → Option ℕ) (v p : ℕ) (pins : Option ℕ) (put : new ≡ with_pair old v p pins) where
  here-is : (w q : ℕ) → ((w == v) && (q == p)) ≡ true → new w q ≡ pins
  unfolding with_pair
  here-is w q e = ap (λ m. m w q) put ∙ cond-true _ _ _ e

  there-is : (w q : ℕ) → ((w == v) && (q == p)) ≡ false → new w q ≡ old w q
  unfolding with_pair
  there-is w q e = ap (λ m. m w q) put ∙ cond-false _ _ _ e

  pub kept-put : IfSome pins (λ n. 1 ≤ n) → AllHavePins old → AllHavePins new
  kept-put some kept = record {
    pinned = λ w q n e. elim (cases_Bool ((w == v) && (q == p))) [
      | inl here ↦ subst (λ o. IfSome o (λ n. 1 ≤ n)) (sym (here-is w q here) ∙ e) some
      | inr there ↦ kept.pinned w q n (sym (there-is w q there) ∙ e)
    ];
  }

  -- what the page has more, or less, than before
  changed : (w q a b : ℕ) → unwrap_or pins 0 + a ≡ pins_at v p old + b →
      pins_at w q new + cond ((v == w) && is_within p (p + 1) q) a 0 ≡ pins_at w q old + cond ((v == w) && is_within p (p + 1) q) b 0
  changed w q a b e =
      let one : ((v == w) && is_within p (p + 1) q) ≡ ((w == v) && (q == p)) = grind (arith, nat_tests) in
      rw one (elim (cases_Bool ((w == v) && (q == p))) [
        | inl here ↦
            let both = and_parts (w == v) (q == p) here in
            let same : pins_at w q old ≡ pins_at v p old = ap (λ x. pins_at x q old) ((Decides-eqb w v).0 both.0) ∙ ap (λ x. pins_at v x old) ((Decides-eqb q p).0 both.1) in
            let is : pins_at w q new ≡ unwrap_or pins 0 = ap (λ o. unwrap_or o 0) (here-is w q here) in
            let left : cond ((w == v) && (q == p)) a 0 ≡ a = cond-true _ _ _ here in
            let right : cond ((w == v) && (q == p)) b 0 ≡ b = cond-true _ _ _ here in
            omega arith
        | inr there ↦
            let is : pins_at w q new ≡ pins_at w q old = ap (λ o. unwrap_or o 0) (there-is w q there) in
            let left : cond ((w == v) && (q == p)) a 0 ≡ 0 = cond-false _ _ _ there in
            let right : cond ((w == v) && (q == p)) b 0 ≡ 0 = cond-false _ _ _ there in
            omega arith
      ])

  -- what it had before
  module _ (was : Option ℕ) (is : was ≡ old v p) where
    pub adds-one : unwrap_or pins 0 ≡ unwrap_or was 0 + 1 → AddsPin old new v p (p + 1)
    adds-one more = record {
      counts = λ w q.
          let had = ap (λ o. unwrap_or o 0) is in
          let is = changed w q 0 1 (omega arith) in
          let none = cond-same ((v == w) && is_within p (p + 1) q) in
          omega arith;
    }

    pub adds-one-back : unwrap_or pins 0 + 1 ≡ unwrap_or was 0 → AddsPin new old v p (p + 1)
    adds-one-back less = record {
      counts = λ w q.
          let had = ap (λ o. unwrap_or o 0) is in
          let is = changed w q 1 0 (omega arith) in
          let none = cond-same ((v == w) && is_within p (p + 1) q) in
          omega arith;
    }
