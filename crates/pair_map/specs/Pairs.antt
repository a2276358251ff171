-- Rows under pairs of numbers, as the maps over them answer them.
use Rattle.std.specs.Prelude.{◌≡◌, ◌≢◌, ℕ, ◌<◌, ◌≤◌, ◌==◌, min, max, cond, Option, None, Some}

-- the second number and the value of a row, if its first number is a
abbrev pub pair_under : {R V : Type 0} → (R → ℕ) → (R → ℕ) → (R → V) → ℕ → Option R → Option (ℕ × V)
pair_under first second value a None = None
pair_under first second value a (Some row) = cond (first row == a) (Some (second row, value row)) None

-- the greatest number up to `to` that has a value, with the value
pub record IsLast {V : Type 0} (map : ℕ → Option V) (to : ℕ) (pair : ℕ × V) : Type 0 where
  pub up_to : pair.0 ≤ to
  pub is : map pair.0 ≡ Some pair.1
  pub greatest : (b : ℕ) → pair.0 < b → b ≤ to → map b ≡ None

-- no number from one of n and m to the other has a value, but maybe n
abbrev pub HasNoneBetween : {V : Type 0} → (ℕ → Option V) → (n m : ℕ) → Type 0
HasNoneBetween map n m = (b : ℕ) → b ≢ n → min n m ≤ b → b ≤ max n m → map b ≡ None
