-- Laws of searching and counting below a bound.
use Rattle.std.proofs.Common.{◌≡◌, ◌≢◌, ℕ, zero, suc, ◌+◌, ◌*◌, ◌<◌, ◌≤◌, Bool, true, false, cond, ◌&&◌, ◌||◌, ◌⊎◌, refl, sym, ap, ◌∙◌, inl, inr, arith, ◌==◌}
use Rattle.std.specs.Prelude.{nat_le, nat_lt}
use Rattle.std.specs.Cmp.{both_ways}
use Rattle.std.proofs.lemmas.Bool.{cases_order, cases_eq, cases_lt, cases_Bool, and_parts, and_from, or_cases, or_from, or_left, or_right, lt-ltb, le-ltb, le-leb, leb-true, false_from_ne_true}
use Rattle.vm_base.specs.Search.{any_below, any_from, HasNone, IsFirst, count_below, sum_below}
use Rattle.std.proofs.lemmas.Bool.Decides.{Decides-eqb}

-- ---- equal numbers as tests

pub eqb_same : (n : ℕ) → (n == n) ≡ true
eqb_same n = (Decides-eqb n n).1 refl

pub eqb_apart : (m n : ℕ) → m ≢ n → (m == n) ≡ false
eqb_apart m n apart = false_from_ne_true (m == n) (λ e. apart ((Decides-eqb m n).0 e))

pub eqb_is : (m n : ℕ) → (m == n) ≡ true → m ≡ n
eqb_is m n e = (Decides-eqb m n).0 e

-- ---- searching and counting

-- a number below n + 1 is n or below n
pub below_next : (k n : ℕ) → k < suc n → (k ≡ n) ⊎ (k < n)
below_next k n h = elim (cases_order k n) [
  | inl same ↦ inl same
  | inr other ↦ elim other [ inl less ↦ inr less | inr more ↦ absurd (omega arith) ]
]

-- what was found
pub any_below_found : (n : ℕ) (p : ℕ → Bool) → any_below n p ≡ true → (k : ℕ) × (k < n) × (p k ≡ true)
unfolding any_below
any_below_found zero p e = absurd (cc)
any_below_found (suc n) p e = elim (or_cases (p n) (any_below n p) e) [
  | inl here ↦ (n, omega arith, here)
  | inr rest ↦ let found = any_below_found n p rest in (found.0, omega (arith, found.1), found.2)
]

-- what passes is found
pub any_below_at : (n k : ℕ) (p : ℕ → Bool) → k < n → p k ≡ true → any_below n p ≡ true
unfolding any_below
any_below_at zero k p h e = absurd (omega arith)
any_below_at (suc n) k p h e = elim (below_next k n h) [
  | inl same ↦ or_left (p n) (any_below n p) (ap p (sym same) ∙ e)
  | inr less ↦ or_right (p n) (any_below n p) (any_below_at n k p less e)
]

-- where nothing passes, nothing is found
pub none_below : (n : ℕ) (p : ℕ → Bool) → ((k : ℕ) → k < n → p k ≡ false) → any_below n p ≡ false
unfolding any_below
none_below zero p each = refl
none_below (suc n) p each = or_from (p n) (any_below n p) (each n (omega arith)) (none_below n p (λ k h. each k (omega arith)))

-- ---- searching from a number on

module _ (test : ℕ → Bool) where
  -- what was found
  pub any_from_found : (first end : ℕ) → any_from first end test ≡ true → (k : ℕ) × (first ≤ k) × (k < end) × (test k ≡ true)
  unfolding any_from
  any_from_found first end e =
      let found = any_below_found end (λ k. nat_le first k && test k) e in
      let both = and_parts (nat_le first found.0) (test found.0) found.2 in
      (found.0, leb-true first found.0 both.0, found.1, both.1)

  -- what passes is found
  pub any_from_at : (first end k : ℕ) → first ≤ k → k < end → test k ≡ true → any_from first end test ≡ true
  unfolding any_from
  any_from_at first end k low high e = any_below_at end k (λ j. nat_le first j && test j) high (and_from (nat_le first k) (test k) (le-leb first k low) e)

  -- where nothing passes, nothing is found
  pub none_from : (first end : ℕ) → HasNone test first end → any_from first end test ≡ false
  none_from first end each = false_from_ne_true (any_from first end test) (λ e.
      let found = any_from_found first end e in
      absurd (let miss = each found.0 found.1 found.2 in let hit = found.3 in cc))

  -- where nothing is found, nothing passes
  pub none_from_at : (first end k : ℕ) → any_from first end test ≡ false → first ≤ k → k < end → test k ≡ false
  none_from_at first end k none low high = false_from_ne_true (test k) (λ e. absurd (let some = any_from_at first end k low high e in cc))

  -- what is found in a range is found in one of its two parts
  pub any_from-join : (first mid end : ℕ) → first ≤ mid → mid ≤ end → any_from first end test ≡ (any_from first mid test || any_from mid end test)
  any_from-join first mid end low high = both_ways (any_from first end test) (any_from first mid test || any_from mid end test)
      (λ e.
      let found = any_from_found first end e in
      elim (cases_lt found.0 mid) [
        | inl before ↦ let hit = any_from_at first mid found.0 found.1 before found.3 in grind (arith, hit)
        | inr behind ↦ let hit = any_from_at mid end found.0 behind found.2 found.3 in grind (arith, hit)
      ])
      (λ e. elim (or_cases (any_from first mid test) (any_from mid end test) e) [
        | inl left ↦ let found = any_from_found first mid left in any_from_at first end found.0 found.1 (omega (arith, found.2)) found.3
        | inr right ↦ let found = any_from_found mid end right in any_from_at first end found.0 (omega (arith, found.1)) found.2 found.3
      ])

-- ---- the first number that passes

module _ {test : ℕ → Bool} {from end k : ℕ} (first : IsFirst test from end k) (to : ℕ) where
  -- it is the first below any end behind it
  pub first-below : k < to → IsFirst test from to k
  first-below less = record { order = first.order; below = less; hit = first.hit; gap = first.gap }

  -- none passes below an end up to it
  pub first-past : to ≤ k → HasNone test from to
  first-past past j low high = first.gap j low (omega (arith, past, high))

  -- so some number passes below the ends behind it alone
  pub any_from-first : any_from from to test ≡ nat_lt k to
  any_from-first = elim (cases_lt k to) [
    | inl less ↦ any_from_at test from to k first.order less first.hit ∙ sym (lt-ltb k to less)
    | inr past ↦ none_from test from to (first-past past) ∙ sym (le-ltb k to past)
  ]

-- ---- tests that agree

-- tests that agree below the bound find alike
pub any_below_same : (n : ℕ) (p q : ℕ → Bool) → ((k : ℕ) → k < n → p k ≡ q k) → any_below n p ≡ any_below n q
unfolding any_below
any_below_same zero p q each = refl
any_below_same (suc n) p q each =
    ap (λ b. b || any_below n p) (each n (omega arith)) ∙ ap (λ b. q n || b) (any_below_same n p q (λ k h. each k (omega arith)))

-- tests that agree below the bound count alike
pub count_below_same : (n : ℕ) (p q : ℕ → Bool) → ((k : ℕ) → k < n → p k ≡ q k) → count_below n p ≡ count_below n q
unfolding count_below
count_below_same zero p q each = refl
count_below_same (suc n) p q each =
    ap (λ b. cond b 1 0 + count_below n p) (each n (omega arith)) ∙ ap (λ m. cond (q n) 1 0 + m) (count_below_same n p q (λ k h. each k (omega arith)))

-- at the next bound, one more number is counted where it passes
pub count_below-suc : (n : ℕ) (p : ℕ → Bool) → count_below (n + 1) p ≡ cond (p n) 1 0 + count_below n p
unfolding count_below
count_below-suc n p = let e : n + 1 ≡ suc n = omega arith in ap (λ m. count_below m p) e

-- a bit counts for one at most
pub bit_le : (b : Bool) → cond b 1 0 ≤ 1
bit_le true = omega arith
bit_le false = omega arith

-- no more pass than there are numbers
pub count_below_le : (n : ℕ) (p : ℕ → Bool) → count_below n p ≤ n
unfolding count_below
count_below_le zero p = omega arith
count_below_le (suc n) p = omega (arith, count_below_le n p, bit_le (p n))

-- nothing passes, nothing counts
pub count_below_none : (n : ℕ) (p : ℕ → Bool) → ((k : ℕ) → k < n → p k ≡ false) → count_below n p ≡ 0
unfolding count_below
count_below_none zero p each = refl
count_below_none (suc n) p each =
    ap (λ b. cond b 1 0 + count_below n p) (each n (omega arith)) ∙ omega (arith, count_below_none n p (λ k h. each k (omega arith)))

-- one number more passes
pub count_below_one_more : (n k : ℕ) (p q : ℕ → Bool) → k < n → p k ≡ false → q k ≡ true → ((j : ℕ) → j ≢ k → q j ≡ p j) → count_below n q ≡ count_below n p + 1
unfolding count_below
count_below_one_more zero k p q h miss hit others = absurd (omega arith)
count_below_one_more (suc n) k p q h miss hit others = elim (below_next k n h) [
  | inl same ↦
      let before = count_below_same n q p (λ j l. others j (omega arith)) in
      let was : ◌≡◌ {A = ℕ} (cond (p n) 1 0) 0 = ap (λ (b : Bool). cond {A = ℕ} b 1 0) (ap p (sym same) ∙ miss) in
      let is : ◌≡◌ {A = ℕ} (cond (q n) 1 0) 1 = ap (λ (b : Bool). cond {A = ℕ} b 1 0) (ap q (sym same) ∙ hit) in
      omega (arith, before, was, is)
  | inr less ↦
      let before = count_below_one_more n k p q less miss hit others in
      let same : ◌≡◌ {A = ℕ} (cond (q n) 1 0) (cond (p n) 1 0) = ap (λ (b : Bool). cond {A = ℕ} b 1 0) (others n (omega arith)) in
      omega (arith, before, same)
]

-- a number is found where more than none count
pub any_below-count : (n : ℕ) (p : ℕ → Bool) → any_below n p ≡ nat_lt 0 (count_below n p)
unfolding any_below count_below
any_below-count zero p = refl
any_below-count (suc n) p = go (p n) (any_below n p) (count_below n p) (any_below-count n p) where
  go : (b x : Bool) (m : ℕ) → x ≡ nat_lt 0 m → (b || x) ≡ nat_lt 0 (cond b 1 0 + m)
  go true x m e = sym (lt-ltb 0 (1 + m) (omega arith))
  go false x m e = e ∙ ap (nat_lt 0) (omega arith)

-- equal tests, equal bits
pub bit_same : (a b : Bool) → a ≡ b → ◌≡◌ {A = ℕ} (cond a 1 0) (cond b 1 0)
bit_same a b e = ap (λ (c : Bool). cond {A = ℕ} c 1 0) e

pub bit-true : (b : Bool) → b ≡ true → ◌≡◌ {A = ℕ} (cond b 1 0) 1
bit-true b e = bit_same b true e

pub bit-false : (b : Bool) → b ≡ false → ◌≡◌ {A = ℕ} (cond b 1 0) 0
bit-false b e = bit_same b false e

-- where the tests differ at one number at most, the counts differ by its bits
pub count_below_change : (n k : ℕ) (p q : ℕ → Bool) → k < n → ((j : ℕ) → j < n → j ≢ k → q j ≡ p j) → count_below n q + cond (p k) 1 0 ≡ count_below n p + cond (q k) 1 0
unfolding count_below
count_below_change zero k p q h others = absurd (omega arith)
count_below_change (suc n) k p q h others = elim (below_next k n h) [
  | inl same ↦
      let rest = count_below_same n q p (λ j l. others j (omega arith) (omega arith)) in
      let was = bit_same (p k) (p n) (ap p same) in
      let is = bit_same (q k) (q n) (ap q same) in
      omega (arith, rest, was, is)
  | inr less ↦
      let rest = count_below_change n k p q less (λ j l. others j (omega arith)) in
      let top = bit_same (q n) (p n) (others n (omega arith) (omega arith)) in
      omega (arith, rest, top)
]

-- equal bounds, equal counts
pub count_below-bound : (m n : ℕ) (p : ℕ → Bool) → m ≡ n → count_below m p ≡ count_below n p
count_below-bound m n p e = ap (λ (k : ℕ). count_below k p) e

-- what passes counts
pub count_below_hit : (n k : ℕ) (p : ℕ → Bool) → k < n → p k ≡ true → 0 < count_below n p
unfolding count_below
count_below_hit zero k p h e = absurd (omega arith)
count_below_hit (suc n) k p h e = elim (below_next k n h) [
  | inl same ↦ let bit : ◌≡◌ {A = ℕ} (cond (p n) 1 0) 1 = ap (λ (b : Bool). cond {A = ℕ} b 1 0) (ap p (sym same) ∙ e) in omega arith
  | inr less ↦ omega (arith, count_below_hit n k p less e)
]

-- tests that share out what a third passes count together as it does
pub count_below_split : (n : ℕ) (p q r : ℕ → Bool) → ((k : ℕ) → cond (r k) 1 0 ≡ cond (p k) 1 0 + cond (q k) 1 0) → count_below n r ≡ count_below n p + count_below n q
unfolding count_below
count_below_split zero p q r each = refl
count_below_split (suc n) p q r each = omega (arith, each n, count_below_split n p q r each)

-- where nothing passes from m on, the numbers below m are all that count
pub count_below_gap : (m n : ℕ) (p : ℕ → Bool) → m ≤ n → HasNone p m n → count_below n p ≡ count_below m p
unfolding count_below
count_below_gap m zero p h none = count_below-bound zero m p (omega arith)
count_below_gap m (suc n) p h none = elim (cases_eq m (suc n)) [
  | inl same ↦ count_below-bound (suc n) m p (sym same)
  | inr apart ↦
      let rest = count_below_gap m n p (omega arith) (λ k l less. none k l (omega arith)) in
      omega (arith, rest, bit-false (p n) (none n (omega arith) (omega arith)))
]

-- nothing counts below 0
pub count_below-zero : (p : ℕ → Bool) → count_below 0 p ≡ 0
unfolding count_below
count_below-zero p = refl

-- where one test passes only if another does, no more pass it
pub count_below_less : (n : ℕ) (p q : ℕ → Bool) → ((k : ℕ) → k < n → p k ≡ true → q k ≡ true) → count_below n p ≤ count_below n q
unfolding count_below
count_below_less zero p q each = omega arith
count_below_less (suc n) p q each =
    let rest = count_below_less n p q (λ k h. each k (omega arith)) in
    elim (cases_Bool (p n)) [
      | inl hit ↦ omega (arith, rest, bit-true (q n) (each n (omega arith) hit), bit_le (p n))
      | inr miss ↦ omega (arith, rest, bit-false (p n) miss)
    ]

-- ---- adding up

-- where f gives 0 for each, the sum is 0
pub sum_below_none : (n : ℕ) (f : ℕ → ℕ) → ((k : ℕ) → k < n → f k ≡ 0) → sum_below n f ≡ 0
unfolding sum_below
sum_below_none zero f each = refl
sum_below_none (suc n) f each = omega (arith, each n (omega arith), sum_below_none n f (λ k h. each k (omega arith)))

-- where f gives at most m for each, the sum is at most n times m
pub sum_below_le : (n m : ℕ) (f : ℕ → ℕ) → ((k : ℕ) → f k ≤ m) → sum_below n f ≤ n * m
unfolding sum_below
sum_below_le zero m f each = omega arith
sum_below_le (suc n) m f each = omega (arith, each n, sum_below_le n m f each)

-- some number passes where the sum is more than 0, if those pass for which f gives more than 0
pub any_below-sum : (n : ℕ) (p : ℕ → Bool) (f : ℕ → ℕ) → ((k : ℕ) → p k ≡ nat_lt 0 (f k)) → any_below n p ≡ nat_lt 0 (sum_below n f)
unfolding any_below sum_below
any_below-sum zero p f each = refl
any_below-sum (suc n) p f each = ap (λ (b : Bool). b || any_below n p) (each n) ∙ (ap (λ (b : Bool). nat_lt 0 (f n) || b) (any_below-sum n p f each) ∙ both (f n) (sum_below n f)) where
  both : (a b : ℕ) → (nat_lt 0 a || nat_lt 0 b) ≡ nat_lt 0 (a + b)
  both a b = elim (cases_lt 0 a) [
    | inl some ↦ or_left (nat_lt 0 a) (nat_lt 0 b) (lt-ltb 0 a some) ∙ sym (lt-ltb 0 (a + b) (omega (arith, some)))
    | inr none ↦
        let zero_a : a ≡ 0 = omega (arith, none) in
        ap (λ (k : ℕ). nat_lt 0 k || nat_lt 0 b) zero_a ∙ ap (nat_lt 0) (omega (arith, zero_a))
  ]
