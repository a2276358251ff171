-- Extents that stand apart, and the first gap of a size among numbers, which is between the extents where these are the ranks.
use Rattle.std.specs.Prelude.{ℕ, ◌+◌, ◌^◌, ◌<◌, ◌≤◌, ◌⊎◌, List, [], ◌∷◌, Option, MatchOption}
use Rattle.std.specs.List.{AllByRecursion}
use Rattle.balanced_tree.specs.Row.{Functions}
use Rattle.balanced_tree.specs.Extents.{Extents}

-- no range of `size` numbers from `from` on and up to the limit is free; a range is given by its first number
abbrev pub HasNoGap : (free : ℕ → Type 0) → (from size limit : ℕ) → Type 0
HasNoGap free from size limit = (p : ℕ) → from ≤ p → p + size ≤ limit → free p → ⊥

-- the range at p is free, and p is the lowest such number
pub record IsFirstGap (free : ℕ → Type 0) (from size limit p : ℕ) : Type 0 where
  pub not_before : from ≤ p
  pub not_past : p + size ≤ limit
  pub is : free p
  pub first : (q : ℕ) → from ≤ q → q < p → free q → ⊥

-- the answer is the first gap, or None if there is none
abbrev pub IsFirstGapOrNone : (free : ℕ → Type 0) → (from size limit : ℕ) → Option ℕ → Type 0
IsFirstGapOrNone free from size limit answer = MatchOption answer (HasNoGap free from size limit) (IsFirstGap free from size limit)

module _ {R : Type 0} (f : Functions R) (e : Extents R) where
  -- each extent ends where the next one begins or before, from low on and up to high
  abbrev pub ApartWithin : ℕ → ℕ → List R → Type 0
  ApartWithin low high [] = low ≤ high
  ApartWithin low high (x ∷ rows) = (low ≤ f.rank x) × (f.rank x ≤ e.end x) × ApartWithin (e.end x) high rows

  -- each extent ends where the next one begins or before
  abbrev pub AreApart : List R → Type 0
  AreApart rows = ApartWithin 0 (2 ^ 128) rows

  -- each extent lies behind the `size` ranks from p on, or before them
  abbrev pub IsFree : List R → ℕ → ℕ → Type 0
  IsFree rows size p = AllByRecursion (λ x. (p + size ≤ f.rank x) ⊎ (e.end x ≤ p)) rows
