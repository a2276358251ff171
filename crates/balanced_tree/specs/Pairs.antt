-- Rows whose ranks are pairs of numbers, as a map from the pairs: a list and a page of it, say.
use Rattle.std.specs.Prelude.{◌≡◌, ℕ, ◌+◌, ◌*◌, ◌^◌, ◌<◌, ◌≤◌, ◌&&◌, ◌==◌, nat_lt, cond, List, Option, None, Some, IsSome}
use Rattle.std.specs.Option.{option_map}
use Rattle.balanced_tree.specs.Row.{Functions, plain}
use Rattle.balanced_tree.specs.Rows.{row_at}

-- the rank of the pair of a and b, for b below 2^64: by a, and then by b
abbrev pub pair_rank : ℕ → ℕ → ℕ
pair_rank a b = a * 2 ^ 64 + b

module _ {R V : Type 0} where
  -- the value of the pair of a and b, if a row has the pair's rank
  unfoldable pub value_at : Functions R → (R → V) → List R → ℕ → ℕ → Option V
  value_at f value rows a b = cond (nat_lt b (2 ^ 64)) (option_map value (row_at f (pair_rank a b) rows)) None

  -- a row type tells its pair, which is its rank, and its value, which a row keeps that loses its children
  pub record ArePairs (f : Functions R) (first second : R → ℕ) (value : R → V) : Type 0 where
    pub rank_is : (x : R) → f.rank x ≡ pair_rank (first x) (second x)
    pub rank_kept : (x : R) → f.rank (plain f x) ≡ f.rank x
    pub value_kept : (x : R) → value (plain f x) ≡ value x

-- the map with this value, or none, at the pair of a and b
unfoldable pub with_pair : {V : Type 0} → (ℕ → ℕ → Option V) → ℕ → ℕ → Option V → ℕ → ℕ → Option V
with_pair map a b v k q = cond ((k == a) && (q == b)) v (map k q)

-- the least number from `from` on that has a value; None if there is none
pub record IsNext {V : Type 0} (map : ℕ → Option V) (from : ℕ) (answer : Option ℕ) : Type 0 where
  pub none : answer ≡ None → (b : ℕ) → from ≤ b → map b ≡ None
  pub least : (b : ℕ) → answer ≡ Some b → (from ≤ b) × IsSome (map b) × ((q : ℕ) → from ≤ q → q < b → map q ≡ None)

-- the second number of a row, if its first is a
abbrev pub second_in : {R : Type 0} → (R → ℕ) → (R → ℕ) → ℕ → Option R → Option ℕ
second_in first second a None = None
second_in first second a (Some x) = cond (first x == a) (Some (second x)) None
