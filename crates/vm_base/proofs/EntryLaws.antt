-- Laws of maps from numbers: what they hold after a key was given a value or was taken out, whether some entry passes a test,
-- and how many entries do.
use Rattle.std.proofs.Common.{◌≡◌, ◌≢◌, ℕ, ◌+◌, ◌<◌, ◌≤◌, Bool, true, false, cond, Option, None, Some, ◌⊎◌, refl, sym, ap, ◌∙◌, inl, inr, arith}
use Rattle.std.specs.Prelude.{IsSome, is_some, nat_lt}
use Rattle.std.specs.Cmp.{both_ways}
use Rattle.std.proofs.lemmas.Bool.{cases_Bool, cases_eq, false_from_ne_true}
use Rattle.vm_base.specs.Search.{IsFirst}
use Rattle.vm_base.specs.Entries.{with_key, without_key, passes, any_entry, entry_count}
use Rattle.vm_base.proofs.SearchLaws.{eqb_same, eqb_apart, any_below_found, any_below_at, any_below-count, count_below_le, count_below_same, count_below_none, count_below_hit, count_below_change, bit_same, bit-false}

-- ---- options

-- what is found twice is the same
pub some_same : {A : Type 0} {x y : A} → ◌≡◌ {A = Option A} (Some x) (Some y) → x ≡ y
some_same s = cc

-- what is there has a value
pub some_is : {A : Type 0} (o : Option A) → IsSome o → (a : A) × (o ≡ Some a)
some_is None h = absurd cc
some_is (Some a) h = (a, refl)

-- what is not there is None
pub none_is : {A : Type 0} (o : Option A) → is_some o ≡ false → o ≡ None
none_is None h = refl
none_is (Some a) h = absurd cc

-- no value passes
pub passes-none : {A : Type 0} (test : A → Bool) (o : Option A) → o ≡ None → passes test o ≡ false
unfolding passes
passes-none test o e = ap (passes test) e

pub passes-some : {A : Type 0} (test : A → Bool) (o : Option A) (a : A) → o ≡ Some a → passes test o ≡ test a
unfolding passes
passes-some test o a e = ap (passes test) e

-- what passes is there
pub passes_found : {A : Type 0} (test : A → Bool) (o : Option A) → passes test o ≡ true → (a : A) × (o ≡ Some a) × (test a ≡ true)
unfolding passes
passes_found test None e = absurd cc
passes_found test (Some a) e = (a, refl, e)

-- the first key from one on, by what a search in the map answers
pub first_key : {A : Type 0} (map : ℕ → Option A) (from k : ℕ) → (from ≤ k) × IsSome (map k) × ((q : ℕ) → from ≤ q → q < k → map q ≡ None) → IsFirst (λ q. is_some (map q)) from (k + 1) k
first_key map from k next = record { order = next.0; below = omega arith; hit = next.1; gap = λ q low high. ap is_some (next.2 q low high) }

-- ---- one key

-- the key holds its new value
pub with_key-same : {A : Type 0} (map : ℕ → Option A) (k : ℕ) (a : A) → with_key map k a k ≡ Some a
unfolding with_key
with_key-same {A} map k a = ap (λ (b : Bool). cond {A = Option A} b (Some a) (map k)) (eqb_same k)

-- another key holds what it held
pub with_key-other : {A : Type 0} (map : ℕ → Option A) (k : ℕ) (a : A) (n : ℕ) → n ≢ k → with_key map k a n ≡ map n
unfolding with_key
with_key-other {A} map k a n apart = ap (λ (b : Bool). cond {A = Option A} b (Some a) (map n)) (eqb_apart n k apart)

-- a value that is held now is the new one, or another key held it before
pub with_key-cases : {A : Type 0} (map : ℕ → Option A) (k : ℕ) (a : A) (n : ℕ) (b : A) → with_key map k a n ≡ Some b → ((n ≡ k) × (a ≡ b)) ⊎ ((n ≢ k) × (map n ≡ Some b))
with_key-cases {A} map k a n b e = elim (cases_eq n k) [
  | inl same ↦
      let now : ◌≡◌ {A = Option A} (Some a) (Some b) = sym (ap (with_key map k a) same ∙ with_key-same map k a) ∙ e in
      inl (same, cc)
  | inr apart ↦ inr (apart, sym (with_key-other map k a n apart) ∙ e)
]

-- the key holds nothing
pub without_key-same : {A : Type 0} (map : ℕ → Option A) (k : ℕ) → without_key map k k ≡ None
unfolding without_key
without_key-same {A} map k = ap (λ (b : Bool). cond {A = Option A} b None (map k)) (eqb_same k)

-- another key holds what it held
pub without_key-other : {A : Type 0} (map : ℕ → Option A) (k n : ℕ) → n ≢ k → without_key map k n ≡ map n
unfolding without_key
without_key-other {A} map k n apart = ap (λ (b : Bool). cond {A = Option A} b None (map n)) (eqb_apart n k apart)

-- a value that is held now, another key held before
pub without_key-some : {A : Type 0} (map : ℕ → Option A) (k n : ℕ) (a : A) → without_key map k n ≡ Some a → (n ≢ k) × (map n ≡ Some a)
without_key-some {A} map k n a e = elim (cases_eq n k) [
  | inl same ↦
      let none : ◌≡◌ {A = Option A} None (Some a) = sym (ap (without_key map k) same ∙ without_key-same map k) ∙ e in absurd cc
  | inr apart ↦ (apart, sym (without_key-other map k n apart) ∙ e)
]

-- the same, where the key is told by an equation
pub with_key-here : {A : Type 0} (map : ℕ → Option A) (k : ℕ) (a : A) (n : ℕ) → n ≡ k → with_key map k a n ≡ Some a
with_key-here {A} map k a n same = ap (with_key map k a) same ∙ with_key-same map k a

-- keys stay where one is given a value
pub with_key-stays : {A : Type 0} (map : ℕ → Option A) (k : ℕ) (a : A) (n : ℕ) → IsSome (map n) → IsSome (with_key map k a n)
with_key-stays {A} map k a n h = elim (cases_eq n k) [
  | inl same ↦ ap is_some (with_key-here map k a n same)
  | inr apart ↦ ap is_some (with_key-other map k a n apart) ∙ h
]

-- ---- whether some entry passes

module _ {A : Type 0} (bound : ℕ) (test : A → Bool) (map : ℕ → Option A) where
  -- an entry that passes is found
  pub any_entry_at : (k : ℕ) (a : A) → k < bound → map k ≡ Some a → test a ≡ true → any_entry bound test map ≡ true
  unfolding any_entry
  any_entry_at k a h e hit = any_below_at bound k (λ n. passes test (map n)) h (passes-some test (map k) a e ∙ hit)

  -- what was found
  pub any_entry_found : any_entry bound test map ≡ true → (k : ℕ) × (a : A) × (k < bound) × (map k ≡ Some a) × (test a ≡ true)
  unfolding any_entry
  any_entry_found e =
      let found = any_below_found bound (λ n. passes test (map n)) e in
      let value = passes_found test (map found.0) found.2 in
      (found.0, value.0, found.1, value.1, value.2)

  -- where none is found, each fails
  pub any_entry_none : (k : ℕ) (a : A) → any_entry bound test map ≡ false → k < bound → map k ≡ Some a → test a ≡ false
  any_entry_none k a none h e = elim (cases_Bool (test a)) [
    | inl hit ↦ absurd (let some_entry = any_entry_at k a h e hit in cc)
    | inr miss ↦ miss
  ]

  -- where each fails, none is found
  pub none_entry : ((k : ℕ) (a : A) → k < bound → map k ≡ Some a → test a ≡ false) → any_entry bound test map ≡ false
  none_entry each = false_from_ne_true (any_entry bound test map) (λ e.
      let found = any_entry_found e in
      let miss = each found.0 found.1 found.2 found.3 in
      absurd (let hit = found.4 in cc))

  -- an entry is found where more than none count
  pub any_entry-count : any_entry bound test map ≡ nat_lt 0 (entry_count bound test map)
  unfolding any_entry entry_count
  any_entry-count = any_below-count bound (λ k. passes test (map k))

  -- no more pass than there are keys
  pub entry_count_le : entry_count bound test map ≤ bound
  unfolding entry_count
  entry_count_le = count_below_le bound (λ k. passes test (map k))

-- an entry that passes counts
pub entry_count_hit : {A : Type 0} (bound : ℕ) (test : A → Bool) (map : ℕ → Option A) (k : ℕ) (a : A) → k < bound → map k ≡ Some a → test a ≡ true → 0 < entry_count bound test map
unfolding entry_count
entry_count_hit bound test map k a h e hit = count_below_hit bound k (λ n. passes test (map n)) h (passes-some test (map k) a e ∙ hit)

pub entry_count-empty : {A : Type 0} (bound : ℕ) (test : A → Bool) (map : ℕ → Option A) → ((k : ℕ) → map k ≡ None) → entry_count bound test map ≡ 0
unfolding entry_count
entry_count-empty bound test map free = count_below_none bound (λ k. passes test (map k)) (λ k h. passes-none test (map k) (free k))

pub entry_count-same : {A B : Type 0} (bound : ℕ) (test : A → Bool) (map : ℕ → Option A) (other_test : B → Bool) (other : ℕ → Option B) →
    ((k : ℕ) → k < bound → passes test (map k) ≡ passes other_test (other k)) → entry_count bound test map ≡ entry_count bound other_test other
unfolding entry_count
entry_count-same bound test map other_test other each = count_below_same bound (λ k. passes test (map k)) (λ k. passes other_test (other k)) each

-- ---- how many entries pass

-- where maps differ at one key at most, the counts differ by its bits
pub entry_count-change : {A : Type 0} (bound : ℕ) (test : A → Bool) (map new : ℕ → Option A) (k : ℕ) → k < bound → ((n : ℕ) → n ≢ k → new n ≡ map n) →
    entry_count bound test new + cond (passes test (map k)) 1 0 ≡ entry_count bound test map + cond (passes test (new k)) 1 0
unfolding entry_count
entry_count-change bound test map new k h others =
    count_below_change bound k (λ n. passes test (map n)) (λ n. passes test (new n)) h (λ n l apart. ap (passes test) (others n apart))

-- one entry more, under a key that was free
pub entry_count-with_key : {A : Type 0} (bound : ℕ) (test : A → Bool) (map : ℕ → Option A) (k : ℕ) (a : A) → k < bound → map k ≡ None →
    entry_count bound test (with_key map k a) ≡ entry_count bound test map + cond (test a) 1 0
entry_count-with_key bound test map k a h free =
    let change = entry_count-change bound test map (with_key map k a) k h (λ n apart. with_key-other map k a n apart) in
    let was = bit-false (passes test (map k)) (passes-none test (map k) free) in
    let is = bit_same (passes test (with_key map k a k)) (test a) (passes-some test (with_key map k a k) a (with_key-same map k a)) in
    omega (arith, change, was, is)

-- one entry less
pub entry_count-without_key : {A : Type 0} (bound : ℕ) (test : A → Bool) (map : ℕ → Option A) (k : ℕ) → k < bound →
    entry_count bound test (without_key map k) + cond (passes test (map k)) 1 0 ≡ entry_count bound test map
entry_count-without_key bound test map k h =
    let change = entry_count-change bound test map (without_key map k) k h (λ n apart. without_key-other map k n apart) in
    let is = bit-false (passes test (without_key map k k)) (passes-none test (without_key map k k) (without_key-same map k)) in
    omega (arith, change, is)

-- ---- some entry passes, as keys come and go

-- what passes without an entry passed with it
pub any_entry-without_key_was : {A : Type 0} (bound : ℕ) (test : A → Bool) (map : ℕ → Option A) (k : ℕ) → any_entry bound test (without_key map k) ≡ true → any_entry bound test map ≡ true
any_entry-without_key_was bound test map k e =
    let found = any_entry_found bound test (without_key map k) e in
    any_entry_at bound test map found.0 found.1 found.2 (without_key-some map k found.0 found.1 found.3).1 found.4

-- an entry that fails may go
pub any_entry-without_key_other : {A : Type 0} (bound : ℕ) (test : A → Bool) (map : ℕ → Option A) (k : ℕ) (a : A) → map k ≡ Some a → test a ≡ false →
    any_entry bound test (without_key map k) ≡ any_entry bound test map
any_entry-without_key_other {A} bound test map k a e miss = both_ways (any_entry bound test (without_key map k)) (any_entry bound test map)
    (λ h. any_entry-without_key_was bound test map k h)
    (λ h.
    let found = any_entry_found bound test map h in
    let apart : found.0 ≢ k = λ same.
    let is : ◌≡◌ {A = Option A} (Some a) (Some found.1) = sym e ∙ (ap map (sym same) ∙ found.3) in
    let one : a ≡ found.1 = cc in
    absurd (let hit = ap test one ∙ found.4 in cc) in
    any_entry_at bound test (without_key map k) found.0 found.1 found.2 (without_key-other map k found.0 apart ∙ found.3) found.4)

-- the new entry passes
pub any_entry-with_key_new : {A : Type 0} (bound : ℕ) (test : A → Bool) (map : ℕ → Option A) (k : ℕ) (a : A) → k < bound → test a ≡ true → any_entry bound test (with_key map k a) ≡ true
any_entry-with_key_new bound test map k a h hit = any_entry_at bound test (with_key map k a) k a h (with_key-same map k a) hit

-- what passed does so still, where a key that was free got a value
pub any_entry-with_key_kept : {A : Type 0} (bound : ℕ) (test : A → Bool) (map : ℕ → Option A) (k : ℕ) (a : A) → is_some (map k) ≡ false → any_entry bound test map ≡ true → any_entry bound test (with_key map k a) ≡ true
any_entry-with_key_kept bound test map k a free e =
    let found = any_entry_found bound test map e in
    let apart : found.0 ≢ k = λ same. absurd (let here = found.3 in let none = ap map same ∙ none_is (map k) free in cc) in
    any_entry_at bound test (with_key map k a) found.0 found.1 found.2 (with_key-other map k a found.0 apart ∙ found.3) found.4
