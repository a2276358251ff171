-- Laws of permutations of numbers: tests of renamed numbers, and how many numbers pass a test.
use Rattle.std.proofs.Common.{◌≡◌, ℕ, zero, suc, ◌+◌, ◌<◌, ◌≤◌, Bool, true, false, not, ◌&&◌, ◌==◌, refl, sym, ap, subst, ◌∙◌, inl, inr, arith}
use Rattle.std.specs.Cmp.{both_ways as same_tests}
use Rattle.std.proofs.lemmas.Bool.{cases_Bool, cases_lt, and_from, and_right}
use Rattle.vm_base.specs.Search.{count_below}
use Rattle.vm_base.proofs.SearchLaws.{eqb_same, eqb_apart, eqb_is, count_below_one_more, bit-true, bit-false}
use Rattle.moving_model.specs.Renaming.{Renaming, KeepsFrom}

-- ---- counting

-- the test, but for one number
abbrev but : (ℕ → Bool) → ℕ → ℕ → Bool
but q k j = q j && not (j == k)

-- one number less passes
count_but : (m k : ℕ) (q : ℕ → Bool) → k < m → q k ≡ true → count_below m q ≡ count_below m (but q k) + 1
count_but m k q h hit = count_below_one_more m k (but q k) q h (and_right (q k) (not (k == k)) (ap not (eqb_same k))) hit (λ j apart.
    sym (ap (λ (b : Bool). q j && not b) (eqb_apart j k apart) ∙ whole (q j))) where
      whole : (b : Bool) → (b && true) ≡ b
      whole true = refl
      whole false = refl

-- Where each number below n that passes has another one below m that passes the second test, and no two have the same, no fewer
-- pass the second test.
pub count_into : (n m : ℕ) (p q : ℕ → Bool) (f : ℕ → ℕ) → ((k : ℕ) → k < n → p k ≡ true → (f k < m) × (q (f k) ≡ true))
    → ((j k : ℕ) → j < n → k < n → p j ≡ true → p k ≡ true → f j ≡ f k → j ≡ k) → count_below n p ≤ count_below m q
unfolding count_below
count_into zero m p q f into one = omega arith
count_into (suc n) m p q f into one = elim (cases_Bool (p n)) [
  | inr miss ↦ omega (arith, count_into n m p q f (λ k h. into k (omega arith)) (λ j k h l. one j k (omega arith) (omega arith)), bit-false (p n) miss)
  | inl hit ↦
      let here = into n (omega arith) hit in
      let rest = count_into n m p (but q (f n)) f (λ k h e.
      let there = into k (omega arith) e in (
        there.0,
        and_from (q (f k)) (not (f k == f n)) there.1 (ap not (eqb_apart (f k) (f n) (λ same.
            let meet : k ≡ n = one k n (omega arith) (omega arith) e hit same in omega (arith, meet)))),
      ))
      (λ j k h l. one j k (omega arith) (omega arith)) in
      omega (arith, rest, bit-true (p n) hit, count_but m (f n) q here.0 here.1)
]

-- ---- renamed numbers

module _ (r : Renaming) where
  pub to_once : (t u : ℕ) → r.to t ≡ r.to u → t ≡ u
  to_once t u e = sym (r.there t) ∙ (ap r.back e ∙ r.there u)

  pub eqb-renamed : (t u : ℕ) → (r.to t == r.to u) ≡ (t == u)
  eqb-renamed t u = same_tests (r.to t == r.to u) (t == u)
      (λ e. let same = to_once t u (eqb_is (r.to t) (r.to u) e) in subst (λ (k : ℕ). (t == k) ≡ true) same (eqb_same t))
      (λ e. let same = eqb_is t u e in subst (λ (k : ℕ). (r.to t == r.to k) ≡ true) same (eqb_same (r.to t)))

  -- a number below the bound gets another one below it
  pub to_below : (bound t : ℕ) → KeepsFrom r bound → t < bound → r.to t < bound
  to_below bound t keeps h = elim (cases_lt (r.to t) bound) [
    | inl low ↦ low
    | inr high ↦ let same = to_once (r.to t) t (keeps (r.to t) high) in absurd (omega (arith, same, h, high))
  ]

  -- a renaming in both directions keeps the same numbers
  pub back_keeps : (bound : ℕ) → KeepsFrom r bound → (t : ℕ) → bound ≤ t → r.back t ≡ t
  back_keeps bound keeps t h = ap r.back (sym (keeps t h)) ∙ r.there t

  pub back_below : (bound t : ℕ) → KeepsFrom r bound → t < bound → r.back t < bound
  back_below bound t keeps h = elim (cases_lt (r.back t) bound) [
    | inl low ↦ low
    | inr high ↦ let same = sym (keeps (r.back t) high) ∙ r.again t in absurd (omega (arith, same, h, high))
  ]

  -- as many numbers pass a test as have others that pass
  pub count-renamed : (bound : ℕ) (p q : ℕ → Bool) → KeepsFrom r bound → ((t : ℕ) → q (r.to t) ≡ p t) → count_below bound q ≡ count_below bound p
  count-renamed bound p q keeps each =
      let less = count_into bound bound q p r.back (λ k h e. (back_below bound k keeps h, sym (each (r.back k)) ∙ (ap q (r.again k) ∙ e)))
      (λ j k h l e f same. sym (r.again j) ∙ (ap r.to same ∙ r.again k)) in
      let more = count_into bound bound p q r.to (λ k h e. (to_below bound k keeps h, each k ∙ e)) (λ j k h l e f. to_once j k) in
      omega (arith, less, more)

-- the numbers as they are
abbrev pub no_renaming : Renaming
no_renaming = record { to = λ t. t; back = λ t. t; there = λ t. refl; again = λ t. refl }
