-- Searching, counting and adding up among the numbers below a bound. The functions are opaque, since the bound may be
-- large: laws stand in proofs/SearchLaws.
use Rattle.std.specs.Prelude.{◌≡◌, ℕ, zero, suc, ◌+◌, ◌<◌, ◌≤◌, Bool, true, false, ◌&&◌, ◌||◌, nat_le, cond, Option, MatchOption}

-- some number below n passes
unfoldable pub any_below : ℕ → (ℕ → Bool) → Bool
any_below zero p = false
any_below (suc n) p = p n || any_below n p

-- some number from `first` to below `end` passes
unfoldable pub any_from : ℕ → ℕ → (ℕ → Bool) → Bool
any_from first end p = any_below end (λ k. nat_le first k && p k)

-- no number from `from` to below `end` passes
abbrev pub HasNone : (ℕ → Bool) → (from end : ℕ) → Type 0
HasNone p from end = (k : ℕ) → from ≤ k → k < end → p k ≡ false

-- k is the first number from `from` to below `end` that passes
pub record IsFirst (p : ℕ → Bool) (from end k : ℕ) : Type 0 where
  pub order : from ≤ k
  pub below : k < end
  pub hit : p k ≡ true
  pub gap : HasNone p from k

-- the answer is the first number from `from` to below `end` that passes, or None if none does
abbrev pub IsFirstOrNone : (ℕ → Bool) → (from end : ℕ) → Option ℕ → Type 0
IsFirstOrNone p from end answer = MatchOption answer (HasNone p from end) (IsFirst p from end)

-- how many numbers below n pass
unfoldable pub count_below : ℕ → (ℕ → Bool) → ℕ
count_below zero p = 0
count_below (suc n) p = cond (p n) 1 0 + count_below n p

-- the sum of what f gives for the numbers below n
unfoldable pub sum_below : ℕ → (ℕ → ℕ) → ℕ
sum_below zero f = 0
sum_below (suc n) f = f n + sum_below n f
