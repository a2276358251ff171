-- Where no pair has a value, there is no row.
use Rattle.std.proofs.Common.{◌≡◌, ℕ, ◌^◌, ◌<◌, ◌==◌, ◌/◌, ◌%◌, nat_lt, Bool, true, false, cond, IsTrue, List, [], ◌∷◌, length, Option, None, Some, refl, sym, ◌∙◌, arith}
use Rattle.std.proofs.lemmas.Nat.{div-add-mod'}
use Rattle.std.proofs.lemmas.Bool.{cond-true, eq-eqb}
use Rattle.balanced_tree.specs.Rows.{row_at}
use Rattle.balanced_tree.specs.Pairs.{pair_rank, value_at}
use Rattle.balanced_tree.proofs.PairLaws.{value-found}
use Rattle.vm_base.proofs.SearchLaws.{eqb_same, eqb_is}
use Rattle.pair_map.specs.declared.pair_row.PairRow.{PairRow}
use Rattle.pair_map.specs.PairRows.{pair_functions, pair_rows, value_of}

-- a row is found by its rank
row-first : {V : Type 0} (n : ℕ) (x : PairRow V) (rows : List (PairRow V)) → n ≡ pair_functions.rank x → row_at pair_functions n (x ∷ rows) ≡ Some x
row-first n x rows is = rw is (cond-true _ _ _ (eqb_same (pair_functions.rank x)))

-- rows of which no pair has a value are none
rows-none : {V : Type 0} (rows : List (PairRow V)) → ((a b : ℕ) → value_at pair_functions value_of rows a b ≡ None) → length rows ≡ 0
rows-none [] none = refl
rows-none {V} (x ∷ rows) none =
    let n = pair_functions.rank x in
    let a = n / 2 ^ 64 in
    let b = n % 2 ^ 64 in
    let few : b < 2 ^ 64 = omega arith in
    let at = row-first (pair_rank a b) x rows (div-add-mod' n (2 ^ 64)) in
    let found = value-found pair_rows (x ∷ rows) (x ∷ rows) refl a b (pair_rank a b) few refl x at in
    let gone = none a b in
    absurd (cc (found, gone))

-- no row gives a value
rows-empty : {V : Type 0} (rows : List (PairRow V)) (a b : ℕ) → length rows ≡ 0 → value_at pair_functions value_of rows a b ≡ None
unfolding value_at
rows-empty [] a b none = same (nat_lt b (2 ^ 64))
  where
    same : {V : Type 0} (c : Bool) → ◌≡◌ {A = Option V} (cond c None None) None
    same true = refl
    same false = refl
rows-empty (x ∷ rows) a b none = absurd (cc)

-- no pair has a value exactly where there is no row
pub empty-rows : {V : Type 0} (rows : List (PairRow V)) (n : ℕ) → n ≡ length rows
    → (IsTrue (n == 0) → (a b : ℕ) → value_at pair_functions value_of rows a b ≡ None) × (((a b : ℕ) → value_at pair_functions value_of rows a b ≡ None) → IsTrue (n == 0))
empty-rows rows n is = (λ zero a b. rows-empty rows a b (sym is ∙ eqb_is n 0 zero), λ none. eq-eqb n 0 (is ∙ rows-none rows none))
