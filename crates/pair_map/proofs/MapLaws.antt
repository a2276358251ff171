-- Rows whose ranks are pairs, as the maps over them see them.
use Rattle.std.proofs.Common.{◌≡◌, ℕ, ◌+◌, ◌-◌, ◌*◌, ◌<◌, ◌≤◌, ◌^◌, ◌==◌, ◌&&◌, min, max, Bool, true, false, cond, List, Option, None, Some, IsSome, IfSome}
use Rattle.std.proofs.Common.{refl, sym, ap, ◌∙◌, subst, inl, inr, arith}
use Rattle.std.specs.Option.{option_map, IsNone, MatchOption}
use Rattle.std.proofs.lemmas.Bool.{cases_Bool, cases_lt, cond-true, cond-false}
use Rattle.std.proofs.lemmas.Grind.{common_steps}
use Rattle.std.proofs.lemmas.Bool.Decides.{Decides-eqb}
use Rattle.balanced_tree.specs.Row.{Functions, plain}
use Rattle.balanced_tree.specs.Rows.{Rows, row_at, row_from, row_to, with_row, without_rank, IsBeside, AreAllBeside, IsRising}
use Rattle.balanced_tree.specs.Pairs.{pair_rank, value_at, ArePairs, with_pair, IsNext, second_in}
use Rattle.balanced_tree.proofs.PairLaws.{row-absent, row-there, values-put, values-taken, value-found, value-seen, next-is, length-inserted, length-replaced, length-taken}
use Rattle.balanced_tree.proofs.ListLaws.{row_from-some, row_to-none, row_to-some, found-each}
use Rattle.balanced_tree.proofs.RowLaws.{rises-filter}
use Rattle.pair_map.specs.Maps.{count_of}
use Rattle.pair_map.specs.Pairs.{pair_under, IsLast, HasNoneBetween}

-- the rows of a map as they were inside, and as they were seen
pub seen_rows : {R : Type 0} {was old : Rows R} → was ≡ old → was.rows ≡ old.rows
seen_rows {R} seen = ap (λ (m : Rows R). m.rows) seen

module _ {R V : Type 0} {f : Functions R} {first second : R → ℕ} {value : R → V} (pairs : ArePairs f first second value) where
  -- a row that is made for a pair
  module _ {was old : Rows R} (seen : was ≡ old) (a b : ℕ) (few : b < 2 ^ 64) (row : R) (rank : f.rank row ≡ pair_rank a b) where
    pub no-row : value_at f value old.rows a b ≡ None → IsNone (row_at f (f.rank row) was.rows)
    no-row none = subst IsNone (sym (row-absent pairs was.rows old.rows (seen_rows seen) a b _ few rank none)) refl

    pub some-row : IsSome (value_at f value old.rows a b) → IsSome (row_at f (f.rank row) was.rows)
    some-row some = row-there pairs was.rows old.rows (seen_rows seen) a b _ few rank some

    pub values-with : {v : V} → value row ≡ v → (new : Rows R) → new.rows ≡ with_row f (plain f row) was.rows
        → value_at f value new.rows ≡ with_pair (value_at f value old.rows) a b (Some v)
    values-with is new e =
        values-put pairs was.rows old.rows (seen_rows seen) a b _ few rank new.rows row refl e
        ∙ ap (λ v. with_pair (value_at f value old.rows) a b (Some v)) is

    module _ (rising : IsRising f was.rows) (new : Rows R) (e : new.rows ≡ with_row f (plain f row) was.rows) where
      pub count-more : value_at f value old.rows a b ≡ None → count_of new ≡ count_of old + 1
      count-more none = length-inserted pairs was.rows old.rows (seen_rows seen) a b _ few rank new.rows rising row refl e none

      pub count-same : IsSome (value_at f value old.rows a b) → count_of new ≡ count_of old
      count-same some = length-replaced pairs was.rows old.rows (seen_rows seen) a b _ few rank new.rows rising row refl e some

  second-under : (a : ℕ) (o : Option R)
      → option_map (λ (pair : ℕ × V). pair.0) (pair_under first second value a o) ≡ second_in first second a o
  second-under a None = refl
  second-under a (Some row) = by (first row == a)
    where
      by : (c : Bool) → option_map (λ (pair : ℕ × V). pair.0) (cond c (Some (second row, value row)) None) ≡ cond c (Some (second row)) None
      by true = refl
      by false = refl

  module _ {was old : Rows R} (seen : was ≡ old) (rising : IsRising f was.rows) (a : ℕ) where
    -- a row that is found and is of a, as its second number and value
    under-found : (o : Option R) → IfSome o (λ row. second row < 2 ^ 64)
        → IfSome o (λ row. row_at f (f.rank row) was.rows ≡ Some row)
        → IfSome (pair_under first second value a o) (λ pair. value_at f value old.rows a pair.0 ≡ Some pair.1)
    under-found None fits is = tt
    under-found (Some row) fits is = elim (cases_Bool (first row == a)) [
      | inl here ↦
          subst (λ o. IfSome o (λ pair. value_at f value old.rows a pair.0 ≡ Some pair.1)) (sym (cond-true _ _ _ here))
          (value-found pairs was.rows old.rows (seen_rows seen) a (second row) _ fits
          (pairs.rank_is row ∙ ap (λ k. pair_rank k (second row)) ((Decides-eqb (first row) a).0 here)) row is)
      | inr there ↦
          subst (λ o. IfSome o (λ pair. value_at f value old.rows a pair.0 ≡ Some pair.1)) (sym (cond-false _ _ _ there)) tt
    ]

    -- the row that follows a pair
    module _ (from : ℕ) {n : ℕ} (rank : n ≡ pair_rank a from) {next : Option R} (fits : IfSome next (λ row. second row < 2 ^ 64))
        (is : next ≡ row_from f n was.rows) {answer : Option (ℕ × V)} (gives : answer ≡ pair_under first second value a next) where
      pub next-pair : IsNext (value_at f value old.rows a) from (option_map (λ (pair : ℕ × V). pair.0) answer)
      next-pair =
          next-is pairs was.rows old.rows (seen_rows seen) a from rising n next _ rank fits is
          (ap (option_map (λ (pair : ℕ × V). pair.0)) gives ∙ second-under a next)

      pub next-value : IfSome answer (λ pair. value_at f value old.rows a pair.0 ≡ Some pair.1)
      next-value =
          subst (λ o. IfSome o (λ pair. value_at f value old.rows a pair.0 ≡ Some pair.1)) (sym gives)
          (under-found next fits (at next is))
        where
          at : (o : Option R) → o ≡ row_from f n was.rows → IfSome o (λ row. row_at f (f.rank row) was.rows ≡ Some row)
          at None is = tt
          at (Some row) is = (row_from-some f n 0 (2 ^ 128) row was.rows rising (sym is)).is

    -- the last row up to a pair
    module _ (to : ℕ) (few : to < 2 ^ 64) {n : ℕ} (rank : n ≡ pair_rank a to) {last : Option R}
        (fits : IfSome last (λ row. second row < 2 ^ 64)) (is : last ≡ row_to f n was.rows)
        {answer : Option (ℕ × V)} (gives : answer ≡ pair_under first second value a last) where
      no-value : (b : ℕ) → b ≤ to → row_at f (pair_rank a b) was.rows ≡ None → value_at f value old.rows a b ≡ None
      no-value b less none =
          value-seen pairs was.rows old.rows (seen_rows seen) a b (pair_rank a b) (omega arith) refl ∙ ap (option_map value) none

      pub last-is : MatchOption answer ((b : ℕ) → b ≤ to → value_at f value old.rows a b ≡ None) (IsLast (value_at f value old.rows a) to)
      last-is =
          subst (λ o. MatchOption o ((b : ℕ) → b ≤ to → value_at f value old.rows a b ≡ None) (IsLast (value_at f value old.rows a) to))
          (sym gives) (of last fits is)
        where
          of : (o : Option R) → IfSome o (λ row. second row < 2 ^ 64) → o ≡ row_to f n was.rows
              → MatchOption (pair_under first second value a o) ((b : ℕ) → b ≤ to → value_at f value old.rows a b ≡ None) (IsLast (value_at f value old.rows a) to)
          of None short is = λ b less. no-value b less (row_to-none f n (pair_rank a b) was.rows (sym is) (omega arith))
          of (Some row) short is =
              let found = row_to-some f n 0 (2 ^ 128) row was.rows rising (sym is) in
              let at = pairs.rank_is row in
              let low = found.to in
              elim (cases_Bool (first row == a)) [
                | inl here ↦
                    let same : first row ≡ a = (Decides-eqb (first row) a).0 here in
                    subst (λ o. MatchOption o ((b : ℕ) → b ≤ to → value_at f value old.rows a b ≡ None) (IsLast (value_at f value old.rows a) to))
                    (sym (cond-true _ _ _ here)) (record {
                      up_to = omega arith;
                      is = value-found pairs was.rows old.rows (seen_rows seen) a (second row) _ short (at ∙ ap (λ k. pair_rank k (second row)) same) row found.is;
                      greatest = λ b more less. no-value b less (found.greatest (pair_rank a b) (omega arith) (omega arith));
                    })
                | inr there ↦
                    let apart : first row ≡ a → ⊥ = λ same. let eq = (Decides-eqb (first row) a).1 same in absurd (cc) in
                    subst (λ o. MatchOption o ((b : ℕ) → b ≤ to → value_at f value old.rows a b ≡ None) (IsLast (value_at f value old.rows a) to))
                    (sym (cond-false _ _ _ there))
                    (λ b less. no-value b less (found.greatest (pair_rank a b) (omega arith) (omega arith)))
              ]

  -- a pair gets another second number, where no other lies between
  module _ {was old : Rows R} (seen : was ≡ old) (rising : IsRising f was.rows) (a q to n : ℕ) (n_is : n ≡ pair_rank a q) (few_q : q < 2 ^ 64) (few : to < 2 ^ 64)
      (none : HasNoneBetween (value_at f value old.rows a) q to) where
    between : (x : R) → row_at f (f.rank x) was.rows ≡ Some x → (k : ℕ) → f.rank x ≡ pair_rank a k → (k ≡ q → ⊥) → min q to ≤ k → k ≤ max q to → ⊥
    between x at k rank apart low high =
        let found = value-found pairs was.rows old.rows (seen_rows seen) a k (f.rank x) (omega arith) rank x at in
        let gone = none k apart low high in
        absurd cc

    pub beside-pair : AreAllBeside f n (pair_rank a to) was.rows
    beside-pair = found-each f (IsBeside f n (pair_rank a to)) 0 (2 ^ 128) was.rows rising each
      where
        each : (x : R) → row_at f (f.rank x) was.rows ≡ Some x → IsBeside f n (pair_rank a to) x
        each x at = (
          λ less. elim (cases_lt (f.rank x) (pair_rank a to)) [
            | inl before ↦ before
            | inr past ↦ absurd (between x at (f.rank x - a * 2 ^ 64) (omega arith) (λ same. absurd (omega arith)) (omega arith) (omega arith))
          ],
          λ more. elim (cases_lt (pair_rank a to) (f.rank x)) [
            | inl behind ↦ behind
            | inr short ↦ absurd (between x at (f.rank x - a * 2 ^ 64) (omega arith) (λ same. absurd (omega arith)) (omega arith) (omega arith))
          ],
        )

    abbrev left_rows : List R
    left_rows = without_rank f n was.rows

    left_rising : IsRising f left_rows
    left_rising = rises-filter f _ 0 (2 ^ 128) was.rows rising

    left_values : value_at f value left_rows ≡ with_pair (value_at f value was.rows) a q None
    left_values = values-taken pairs was.rows was.rows refl a q n few_q n_is left_rows refl

    left_none : value_at f value left_rows a to ≡ None
    unfolding with_pair
    left_none = ap (λ (m : ℕ → ℕ → Option V). m a to) left_values ∙ elim (cases_Bool ((a == a) && (to == q))) [
      | inl here ↦ cond-true _ _ _ here
      | inr there ↦
          cond-false _ _ _ there
          ∙ (ap (λ (m : Rows R). value_at f value m.rows a to) seen
          ∙ none to (λ same. let on : ((a == a) && (to == q)) ≡ true = grind (arith, common_steps) in absurd cc) (omega arith) (omega arith))
    ]

    module _ {v : V} (row : R) (rank : f.rank row ≡ pair_rank a to) (is : value row ≡ v) (new : Rows R) (put : new.rows ≡ with_row f (plain f row) left_rows) where
      pub values-moved : value_at f value new.rows ≡ with_pair (with_pair (value_at f value old.rows) a q None) a to (Some v)
      values-moved =
          values-put pairs left_rows left_rows refl a to (f.rank row) few rank new.rows row refl put
          ∙ (ap (λ w. with_pair (value_at f value left_rows) a to (Some w)) is
          ∙ (ap (λ (m : ℕ → ℕ → Option V). with_pair m a to (Some v)) left_values
          ∙ ap (λ (m : Rows R). with_pair (with_pair (value_at f value m.rows) a q None) a to (Some v)) seen))

      pub count-moved : IsSome (value_at f value old.rows a q) → count_of new ≡ count_of old
      count-moved some =
          let more = length-inserted pairs left_rows left_rows refl a to (f.rank row) few rank new.rows left_rising row refl put left_none in
          let less = length-taken pairs was.rows old.rows (seen_rows seen) a q n few_q n_is left_rows rising refl some in
          omega (arith, more, less)
