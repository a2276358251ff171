-- What the tree knows of a row of a map from pairs.
use Rattle.std.specs.Prelude.{ℕ, Option, None, refl}
use Rattle.balanced_tree.specs.Pairs.{pair_rank, ArePairs}
use Rattle.balanced_tree.specs.Row.{Functions, link_of, height_over}
use Rattle.pair_map.specs.Pairs.{pair_under}
use Rattle.pair_map.specs.declared.pair_row.PairRow.{PairRow}

module _ {V : Type 0} where
  abbrev pub pair_functions : Functions (PairRow V)
  pair_functions = record {
    rank = λ x. pair_rank x.first x.second;
    left = λ x. x.left;
    right = λ x. x.right;
    height = λ x. x.height;
    linked = λ x l r. record x { left = link_of l; right = link_of r; height = height_over (λ y. y.height) l r };
  }

  abbrev pub first_of : PairRow V → ℕ
  first_of row = row.first

  abbrev pub second_of : PairRow V → ℕ
  second_of row = row.second

  abbrev pub value_of : PairRow V → V
  value_of row = row.value

  -- the row of a pair with no children
  abbrev pub pair_of : ℕ → ℕ → V → PairRow V
  pair_of a b value = record { first = a; second = b; value = value; left = None; right = None; height = 0 }

  -- the second number and the value of a row, if its first number is a
  abbrev pub pair_in : ℕ → Option (PairRow V) → Option (ℕ × V)
  pair_in = pair_under first_of second_of value_of

  abbrev pub pair_rows : ArePairs {R = PairRow V} {V = V} pair_functions first_of second_of value_of
  pair_rows = record { rank_is = λ x. refl; rank_kept = λ x. refl; value_kept = λ x. refl }
