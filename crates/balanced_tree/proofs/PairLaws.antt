-- The values of the pairs, as rows come and go, and which row follows a pair.
use Rattle.std.proofs.Common.{◌≡◌, ◌≢◌, inl, inr, ℕ, ◌+◌, ◌<◌, ◌≤◌, ◌^◌, Bool, true, false, not, ◌&&◌, ◌==◌, cond, ltb, eqb}
use Rattle.std.proofs.Common.{List, [], ◌∷◌, ◌++◌, length, length-append, Option, None, Some, IsSome, IfSome, is_some}
use Rattle.std.proofs.Common.{refl, sym, ap, ◌∙◌, subst, rules, arith}
use Rattle.std.specs.List.{filter}
use Rattle.std.specs.Option.{option_map}
use Rattle.std.proofs.lemmas.Bool.{cases_Bool, cond-true, cond-false, lt-ltb, le-ltb, cases_lt}
use Rattle.std.proofs.lemmas.Bool.Decides.{Decides-eqb}
use Rattle.std.proofs.lemmas.Grind.{common_steps}
use Rattle.balanced_tree.specs.Row.{Functions, plain}
use Rattle.balanced_tree.specs.Rows.{row_at, row_from, with_row, without_rank, IsRising}
use Rattle.balanced_tree.specs.Pairs.{pair_rank, value_at, ArePairs, with_pair, IsNext, second_in}
use Rattle.balanced_tree.proofs.ListLaws.{row_at-with_row, row_at-without_rank, row_from-none, row_from-some}
use Rattle.balanced_tree.proofs.ListLaws.{length-around, length-without_rank}

-- pairs have one rank only where they are one pair
ranks : (a b k q : ℕ) → b < 2 ^ 64 → q < 2 ^ 64 → eqb (pair_rank a b) (pair_rank k q) ≡ ((k == a) && (q == b))
ranks a b k q h g = grind (arith, common_steps)

-- a pair without a value has none after another loses its value
pub none-kept : {V : Type 0} (map : ℕ → ℕ → Option V) (a b k q : ℕ) → map k q ≡ None → with_pair map a b None k q ≡ None
unfolding with_pair
none-kept map a b k q e = elim (cases_Bool ((k == a) && (q == b))) [
  | inl here ↦ cond-true _ _ _ here
  | inr there ↦ cond-false _ _ _ there ∙ e
]

-- a pair that has this value, or none, already
pub with_pair-kept : {V : Type 0} (map : ℕ → ℕ → Option V) (a b : ℕ) (v : Option V) → map a b ≡ v → with_pair map a b v ≡ map
unfolding with_pair
with_pair-kept map a b v is = λ i k q. at k q i
  where
    at : (k q : ℕ) → cond ((k == a) && (q == b)) v (map k q) ≡ map k q
    at k q = elim (cases_Bool ((k == a) && (q == b))) [
      | inl here ↦
          let first : k ≡ a = grind (arith, common_steps) in
          let second : q ≡ b = grind (arith, common_steps) in
          cond-true _ _ _ here ∙ (sym is ∙ (λ i. map (sym first i) (sym second i)))
      | inr there ↦ cond-false _ _ _ there
    ]

module _ {R V : Type 0} {f : Functions R} {first second : R → ℕ} {value : R → V} (pairs : ArePairs f first second value) where
  value-at : (rows : List R) (a b : ℕ) → b < 2 ^ 64 → value_at f value rows a b ≡ option_map value (row_at f (pair_rank a b) rows)
  unfolding value_at
  value-at rows a b h = cond-true _ _ _ (lt-ltb b (2 ^ 64) h)

  pub value-past : (rows : List R) (a b : ℕ) → 2 ^ 64 ≤ b → value_at f value rows a b ≡ None
  unfolding value_at
  value-past rows a b h = cond-false _ _ _ (le-ltb b (2 ^ 64) h)

  value-if : (c : Bool) (row o : Option R) → option_map value (cond c row o) ≡ cond c (option_map value row) (option_map value o)
  value-if true row o = refl
  value-if false row o = refl

  pub values-none : (rows : List R) → rows ≡ [] → value_at f value rows ≡ λ a b. None
  values-none rows e = λ i a b. at a b i
    where
      at : (a b : ℕ) → value_at f value rows a b ≡ None
      at a b = elim (cases_lt b (2 ^ 64)) [
        | inl h ↦ value-at rows a b h ∙ ap (λ rows. option_map value (row_at f (pair_rank a b) rows)) e
        | inr h ↦ value-past rows a b h
      ]

  -- where one pair's row is another, or none, and all else is as it was
  changed : (was new : List R) (a b : ℕ) (row : Option R) → b < 2 ^ 64 →
      ((m : ℕ) → row_at f m new ≡ cond (eqb (pair_rank a b) m) row (row_at f m was)) →
      value_at f value new ≡ with_pair (value_at f value was) a b (option_map value row)
  unfolding with_pair
  changed was new a b row few each = λ i k q. at k q i
    where
      at : (k q : ℕ) → value_at f value new k q ≡ cond ((k == a) && (q == b)) (option_map value row) (value_at f value was k q)
      at k q = elim (cases_lt q (2 ^ 64)) [
        | inl h ↦
            value-at new k q h ∙ (ap (option_map value) (each (pair_rank k q))
            ∙ (value-if _ row (row_at f (pair_rank k q) was)
            ∙ rw (ranks a b k q few h) (ap (cond ((k == a) && (q == b)) (option_map value row)) (sym (value-at was k q h)))))
        | inr h ↦
            let out : ((k == a) && (q == b)) ≡ false = grind (arith, common_steps) in
            value-past new k q h ∙ sym (cond-false _ _ _ out ∙ value-past was k q h)
      ]

  -- What the calls say of the rows as they were seen, `old`, and as they were inside, `was`. The rank n is that of the pair.
  module _ (was old : List R) (seen : was ≡ old) (a b n : ℕ) (few : b < 2 ^ 64) (rank : n ≡ pair_rank a b) where
    pub value-seen : value_at f value old a b ≡ option_map value (row_at f n was)
    value-seen =
        ap (λ rows. value_at f value rows a b) (sym seen) ∙ (value-at was a b few
        ∙ ap (λ m. option_map value (row_at f m was)) (sym rank))

    pub value-found : (row : R) → row_at f n was ≡ Some row → value_at f value old a b ≡ Some (value row)
    value-found row e = value-seen ∙ ap (option_map value) e

    pub row-absent : value_at f value old a b ≡ None → row_at f n was ≡ None
    row-absent e = none (row_at f n was) (sym value-seen ∙ e)
      where
        none : (o : Option R) → option_map value o ≡ None → o ≡ None
        none None e = refl
        none (Some row) e = absurd (cc)

    pub row-there : IsSome (value_at f value old a b) → IsSome (row_at f n was)
    row-there e = some (row_at f n was) refl
      where
        some : (o : Option R) → row_at f n was ≡ o → IsSome o
        some None is = subst IsSome (value-seen ∙ ap (option_map value) is) e
        some (Some row) is = refl

    module _ (new : List R) where
      pub values-put : (row : R) → f.rank row ≡ n → new ≡ with_row f (plain f row) was →
          value_at f value new ≡ with_pair (value_at f value old) a b (Some (value row))
      values-put row is e =
          changed was new a b (Some (plain f row)) few (λ m.
          ap (row_at f m) e ∙ (row_at-with_row f m (plain f row) was
          ∙ ap (λ k. cond (eqb k m) (Some (plain f row)) (row_at f m was)) (pairs.rank_kept row ∙ (is ∙ rank))))
          ∙ (ap (λ v. with_pair (value_at f value was) a b (Some v)) (pairs.value_kept row)
          ∙ ap (λ rows. with_pair (value_at f value rows) a b (Some (value row))) seen)

      pub values-taken : new ≡ without_rank f n was → value_at f value new ≡ with_pair (value_at f value old) a b None
      values-taken e =
          changed was new a b None few (λ m.
          ap (row_at f m) (e ∙ ap (λ k. without_rank f k was) rank) ∙ (row_at-without_rank f m (pair_rank a b) was ∙ turned m (pair_rank a b) (row_at f m was)))
          ∙ ap (λ rows. with_pair (value_at f value rows) a b None) seen
        where
          turned : (m k : ℕ) (o : Option R) → cond (not (eqb m k)) o None ≡ cond (eqb k m) None o
          turned m k o = grind (arith, common_steps)

      -- how many rows there are, after one more, after a change, and after one less
      module _ (rising : IsRising f was) where
        length-put : (row : R) → f.rank row ≡ n → new ≡ with_row f (plain f row) was →
            length new + cond (is_some (row_at f n was)) 1 0 ≡ length was + 1
        length-put row is e =
            let same : f.rank (plain f row) ≡ n = pairs.rank_kept row ∙ is in
            let parts : ℕ → ℕ = λ k. length (filter (λ x. ltb (f.rank x) k) was ++ plain f row ∷ filter (λ x. ltb k (f.rank x)) was) in
            let size = length-append (filter (λ x. ltb (f.rank x) n) was) (plain f row ∷ filter (λ x. ltb n (f.rank x)) was) in
            omega (arith, ap length e, ap parts same, size, length-around f n 0 (2 ^ 128) was rising)

        pub length-inserted : (row : R) → f.rank row ≡ n → new ≡ with_row f (plain f row) was →
            value_at f value old a b ≡ None → length new ≡ length old + 1
        length-inserted row is e none =
            omega (arith, length-put row is e, ap length seen, ap {B = ℕ} (λ o. cond (is_some o) 1 0) (row-absent none))

        pub length-replaced : (row : R) → f.rank row ≡ n → new ≡ with_row f (plain f row) was →
            IsSome (value_at f value old a b) → length new ≡ length old
        length-replaced row is e some =
            omega (arith, length-put row is e, ap length seen, ap {B = ℕ} (λ c. cond c 1 0) (row-there some))

        -- one row less, if the pair has one
        pub length-less : new ≡ without_rank f n was → length new + cond (is_some (value_at f value old a b)) 1 0 ≡ length old
        length-less e =
            let there : is_some (value_at f value old a b) ≡ is_some (row_at f n was) = ap is_some value-seen ∙ some-mapped (row_at f n was) in
            omega (arith, ap length e, ap length seen, length-without_rank f n 0 (2 ^ 128) was rising, ap {B = ℕ} (λ c. cond c 1 0) there)
          where
            some-mapped : (o : Option R) → is_some (option_map value o) ≡ is_some o
            some-mapped None = refl
            some-mapped (Some row) = refl

        pub length-taken : new ≡ without_rank f n was → IsSome (value_at f value old a b) → length new + 1 ≡ length old
        length-taken e some = omega (arith, length-less e, ap {B = ℕ} (λ c. cond c 1 0) some)

  -- what the way down finds from a pair on is the next value of its first number, or lies behind all of them
  module _ (rows old : List R) (seen : rows ≡ old) (a from : ℕ) (rising : IsRising f rows) where
    none_behind : (b : ℕ) → (b < 2 ^ 64 → row_at f (pair_rank a b) rows ≡ None) → value_at f value rows a b ≡ None
    none_behind b none = elim (cases_lt b (2 ^ 64)) [
      | inl h ↦ value-at rows a b h ∙ ap (option_map value) (none h)
      | inr h ↦ value-past rows a b h
    ]

    found : (next : Option R) → IfSome next (λ x. second x < 2 ^ 64) → next ≡ row_from f (pair_rank a from) rows →
        IsNext (value_at f value rows a) from (second_in first second a next)
    found None fits e = record {
      none = λ absent b h. none_behind b (λ g. row_from-none f (pair_rank a from) (pair_rank a b) rows (sym e) (omega arith));
      least = λ b same. absurd (cc);
    }
    found (Some row) fits e =
        let next = row_from-some f (pair_rank a from) 0 (2 ^ 128) row rows rising (sym e) in
        let short = fits in
        let begins = next.from in
        let rank = pairs.rank_is row in
        elim (cases_Bool (first row == a)) [
          | inl same ↦
              let here : first row ≡ a = (Decides-eqb (first row) a).0 same in
              let is : second_in first second a (Some row) ≡ Some (second row) = cond-true _ _ _ same in
              record {
                none = λ absent b h. absurd (cc);
                least = λ b page.
                    let at : second row ≡ b = search (rules, sym is ∙ page) in (
                      omega arith,
                      subst IsSome (sym (value-found rows rows refl a b (f.rank row) (omega arith) (omega arith) row next.is)) refl,
                      λ q g less. none_behind q (λ few. next.least (pair_rank a q) (omega arith) (omega arith)),
                    );
              }
          | inr other ↦
              let apart : first row ≢ a = λ same. let eq = (Decides-eqb (first row) a).1 same in absurd (cc) in
              let is : second_in first second a (Some row) ≡ None = cond-false _ _ _ other in
              record {
                none = λ absent b h. none_behind b (λ g. next.least (pair_rank a b) (omega arith) (omega arith));
                least = λ b page. absurd (cc);
              }
        ]

    pub next-is : (n : ℕ) (next : Option R) (answer : Option ℕ) → n ≡ pair_rank a from →
        IfSome next (λ x. second x < 2 ^ 64) → next ≡ row_from f n rows →
        answer ≡ second_in first second a next → IsNext (value_at f value old a) from answer
    next-is n next answer rank fits e is =
        subst (λ s. IsNext (value_at f value s a) from answer) seen
        (subst (IsNext (value_at f value rows a) from) (sym is) (found next fits (e ∙ ap (λ m. row_from f m rows) rank)))
