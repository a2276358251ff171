-- The held pages of a range, counted one after another.
use Rattle.std.proofs.Common.{◌≡◌, ℕ, zero, suc, ◌+◌, ◌-◌, ◌≤◌, Bool, cond, refl, ap, ◌∙◌, arith}
use Rattle.vm_base.specs.Search.{count_below, HasNone, IsFirst}
use Rattle.vm_base.proofs.SearchLaws.{bit-true, bit-false, count_below_le}
use Rattle.vm_model.specs.Contents.Content.{Content, is_held}
use Rattle.vm_model.proofs.OwningLaws.{count_from}
use Rattle.page_store.specs.Held.{held_from}

-- one page more at the end
count_from-last : (test : ℕ → Bool) (first n : ℕ) → count_from test first (suc n) ≡ cond (test (first + n)) 1 0 + count_from test first n
unfolding count_from
count_from-last test first zero = let e : first ≡ first + 0 = omega arith in ap (λ (p : ℕ). cond (test p) 1 0 + 0) e
count_from-last test first (suc n) =
    let e : (first + 1) + n ≡ first + suc n = omega arith in
    let same = ap (λ (p : ℕ). cond {A = ℕ} (test p) 1 0) e in
    omega (arith, count_from-last test (first + 1) n, same)

pub held-count : (c : Content) (v first n : ℕ) → held_from c v first n ≡ count_from (is_held c v) first n
unfolding held_from count_below count_from
held-count c v first zero = refl
held-count c v first (suc n) = omega (arith, held-count c v first n, count_from-last (is_held c v) first n)

pub held_le : (c : Content) (v first n : ℕ) → held_from c v first n ≤ n
unfolding held_from
held_le c v first n = count_below_le n (λ k. is_held c v (first + k))

-- pages that do not pass are passed over
count_from-skip : (test : ℕ → Bool) (from k n : ℕ) → HasNone test from (from + k) → count_from test from (k + n) ≡ count_from test (from + k) n
unfolding count_from
count_from-skip test from zero n none =
    let place : from ≡ from + 0 = omega arith in
    let long : 0 + n ≡ n = omega arith in
    λ i. count_from test (place i) (long i)
count_from-skip test from (suc k) n none =
    let miss = bit-false (test from) (none from (omega arith) (omega arith)) in
    let rest = count_from-skip test (from + 1) k n (λ q low high. none q (omega arith) (omega arith)) in
    let far : (from + 1) + k ≡ from + suc k = omega arith in
    let long : suc k + n ≡ suc (k + n) = omega arith in
    ap {B = ℕ} (λ (m : ℕ). count_from test from m) long ∙ omega (arith, miss, rest, ap {B = ℕ} (λ (a : ℕ). count_from test a n) far)

module _ (c : Content) (v from end : ℕ) where
  -- the next page that is held is one, and those behind it are left
  pub held-next : (p : ℕ) → IsFirst (is_held c v) from end p → held_from c v from (end - from) ≡ 1 + held_from c v (p + 1) (end - (p + 1))
  unfolding count_from
  held-next p next =
      let order = next.order in
      let below = next.below in
      let long : end - from ≡ (p - from) + suc (end - (p + 1)) = omega arith in
      let place : from + (p - from) ≡ p = omega arith in
      let skip = count_from-skip (is_held c v) from (p - from) (suc (end - (p + 1))) (λ q low high. next.gap q low (omega arith)) in
      let hit = bit-true (is_held c v p) next.hit in
      let all : count_from (is_held c v) from (end - from) ≡ 1 + count_from (is_held c v) (p + 1) (end - (p + 1)) =
      ap {B = ℕ} (λ (n : ℕ). count_from (is_held c v) from n) long
      ∙ (skip ∙ (ap {B = ℕ} (λ (a : ℕ). count_from (is_held c v) a (suc (end - (p + 1)))) place ∙ omega (arith, hit))) in
      omega (arith, all, held-count c v from (end - from), held-count c v (p + 1) (end - (p + 1)))

  -- no page is left
  pub held-end : HasNone (is_held c v) from end → held_from c v from (end - from) ≡ 0
  unfolding count_from
  held-end none =
      let long : end - from ≡ (end - from) + 0 = omega arith in
      held-count c v from (end - from)
      ∙ (ap {B = ℕ} (λ (n : ℕ). count_from (is_held c v) from n) long
      ∙ count_from-skip (is_held c v) from (end - from) 0 (λ q low high. none q low (omega arith)))
