-- A tree as its callers see it: its rows by rising rank, each with no children, and the room for more.
use Rattle.std.specs.Prelude.{ℕ, ◌+◌, ◌^◌, ◌<◌, ◌≤◌, not, ◌==◌, nat_lt, nat_le, List, [], ◌∷◌, ◌++◌, filter, find, cond, Option, None, Some, refl}
use Rattle.std.specs.List.{AllByRecursion}
use Rattle.std.specs.Option.{option_or}
use Rattle.std.specs.Coded.{Coded, code_by, coded×, coded_ℕ, coded_list}
use Rattle.balanced_tree.specs.Row.{Functions}

-- the rows, and how many more fit with no memory from the host
pub record Rows (R : Type 0) : Type 0 where
  pub rows : List R
  pub spare : ℕ

-- rows are stored as the pair of the fields
abbrev pub rows_code : {R : Type 0} → Coded R → Coded (Rows R)
rows_code {R} code =
    code_by
    (List R × ℕ)
    (coded× (coded_list code) coded_ℕ)
    (λ s. (s.rows, s.spare))
    (λ p. record { rows = p.0; spare = p.1 })
    (λ _. refl)

module _ {R : Type 0} (f : Functions R) where
  -- the row of this rank
  abbrev pub row_at : ℕ → List R → Option R
  row_at n rows = find (λ x. f.rank x == n) rows

  -- the first row of this rank or a higher one
  abbrev pub row_from : ℕ → List R → Option R
  row_from n rows = find (λ x. nat_le n (f.rank x)) rows

  -- the last row of this rank or a lower one
  abbrev pub row_to : ℕ → List R → Option R
  row_to n [] = None
  row_to n (x ∷ rows) = option_or (row_to n rows) (cond (nat_le (f.rank x) n) (Some x) None)

  -- the rows of lower rank, this row, and the rows of higher rank
  abbrev pub with_row : R → List R → List R
  with_row x rows =
      filter (λ y. nat_lt (f.rank y) (f.rank x)) rows ++ x ∷ filter (λ y. nat_lt (f.rank x) (f.rank y)) rows

  -- the rows of other ranks
  abbrev pub without_rank : ℕ → List R → List R
  without_rank n rows = filter (λ y. not (f.rank y == n)) rows

  -- the rank of the row lies on one side of n and m, or is n
  abbrev pub IsBeside : ℕ → ℕ → R → Type 0
  IsBeside n m x = (f.rank x < n → f.rank x < m) × (n < f.rank x → m < f.rank x)

  -- no row has the rank m or one between n and m
  abbrev pub AreAllBeside : ℕ → ℕ → List R → Type 0
  AreAllBeside n m rows = AllByRecursion (IsBeside n m) rows

  -- the ranks rise, from low on and below high
  abbrev pub RisesWithin : ℕ → ℕ → List R → Type 0
  RisesWithin low high [] = low ≤ high
  RisesWithin low high (x ∷ rows) = (low ≤ f.rank x) × RisesWithin (f.rank x + 1) high rows

  -- the ranks rise, and are those of a u128
  abbrev pub IsRising : List R → Type 0
  IsRising rows = RisesWithin 0 (2 ^ 128) rows
