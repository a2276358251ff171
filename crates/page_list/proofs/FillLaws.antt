-- A filter that is filled by the rows of a table, one after another.
use Rattle.std.proofs.Common.{◌≡◌, inl, inr, ℕ, ◌+◌, ◌^◌, ◌<◌, ◌≤◌, true, List, [], ◌∷◌, None, Some, IsSome, refl, ◌∙◌, arith}
use Rattle.std.proofs.lemmas.Bool.{cond-false, ne_eqb, cases_lt}
use Rattle.balanced_tree.specs.Rows.{Rows, row_at, row_from, RisesWithin, IsRising}
use Rattle.balanced_tree.specs.Pairs.{pair_rank}
use Rattle.balanced_tree.proofs.ListLaws.{row_from-none, row_from-some}
use Rattle.balanced_tree.proofs.PairLaws.{value-past, row-there}
use Rattle.page_list.specs.declared.filter.Filter.{Filter}
use Rattle.page_list.specs.declared.row.Row.{Row}
use Rattle.page_list.specs.Order.{row_functions}
use Rattle.page_list.specs.Lists.{slots_of}
use Rattle.page_list.specs.inside.Filter.{has_bit, IsMore, AreFiltered, AreFilteredBelow}
use Rattle.page_list.proofs.SlotLaws.{row_pairs}
use Rattle.page_list.proofs.FilterLaws.{none-some}

rises : (low high : ℕ) (rows : List Row) → RisesWithin row_functions low high rows → low ≤ high
rises low high [] h = h
rises low high (x ∷ rows) h = omega (arith, h.0, rises (row_functions.rank x + 1) high rows h.1)

-- no row has a rank past those that the rows may have
row_at-past : (m low high : ℕ) (rows : List Row) → RisesWithin row_functions low high rows → high ≤ m → row_at row_functions m rows ≡ None
row_at-past m low high [] h past = refl
row_at-past m low high (x ∷ rows) h past =
    cond-false _ _ _ (ne_eqb (row_functions.rank x) m (λ same. absurd (omega (arith, rises (row_functions.rank x + 1) high rows h.1))))
    ∙ row_at-past m (row_functions.rank x + 1) high rows h.1 past

module _ (t : Rows Row) where
  few-pages : (l p : ℕ) → IsSome (slots_of t l p) → p < 2 ^ 64
  few-pages l p some = elim (cases_lt p (2 ^ 64)) [
    | inl few ↦ few
    | inr past ↦ absurd (none-some (slots_of t l p) (value-past row_pairs t.rows l p past) some)
  ]

  -- a page that has a row has one of its rank
  some-rank : (l p : ℕ) → p < 2 ^ 64 → IsSome (slots_of t l p) → IsSome (row_at row_functions (pair_rank l p) t.rows)
  some-rank l p few some = row-there row_pairs t.rows t.rows refl l p (pair_rank l p) few refl some

  pub below-start : (f : Filter) → AreFilteredBelow f t 0
  below-start f = record { set = λ l p few less some. absurd (omega arith) }

  -- the bit of the next row is set
  pub below-next : {f g : Filter} {from : ℕ} (row : Row) (rank behind : ℕ) → IsRising row_functions t.rows → AreFilteredBelow f t from → IsMore f g →
      row_from row_functions from t.rows ≡ Some row → row.page < 2 ^ 64 → has_bit g row.list.0 row.page ≡ true →
      rank ≡ pair_rank row.list.0 row.page → rank + 1 ≡ behind → AreFilteredBelow g t behind
  below-next {f} {g} {from} row rank behind rising below more next fits bit is follows = record { set = each }
    where
      each : (l p : ℕ) → p < 2 ^ 64 → pair_rank l p < behind → IsSome (slots_of t l p) → has_bit g l p ≡ true
      each l p few less some = elim (cases_lt (pair_rank l p) from) [
        | inl before ↦ more.kept l p (below.set l p few before some)
        | inr after ↦ elim (cases_lt (pair_rank l p) (pair_rank row.list.0 row.page)) [
          | inl between ↦
              let first = row_from-some row_functions from 0 (2 ^ 128) row t.rows rising next in
              absurd (none-some _ (first.least (pair_rank l p) after between) (some-rank l p few some))
          | inr last ↦
              let list : l ≡ row.list.0 = omega arith in
              let page : p ≡ row.page = omega arith in
              (λ i. has_bit g (list i) (page i)) ∙ bit
        ]
      ]

  -- no row follows
  pub below-end : {f : Filter} {from : ℕ} → AreFilteredBelow f t from → row_from row_functions from t.rows ≡ None → AreFiltered f t
  below-end {f} {from} below none = record { set = each }
    where
      each : (l p : ℕ) → IsSome (slots_of t l p) → has_bit f l p ≡ true
      each l p some =
          let few = few-pages l p some in
          elim (cases_lt (pair_rank l p) from) [
            | inl before ↦ below.set l p few before some
            | inr behind ↦ absurd (none-some _ (row_from-none row_functions from (pair_rank l p) t.rows none behind) (some-rank l p few some))
          ]

  -- no rank follows
  pub below-last : {f : Filter} {from : ℕ} → IsRising row_functions t.rows → AreFilteredBelow f t from → 2 ^ 128 ≤ from → AreFiltered f t
  below-last {f} {from} rising below last = record { set = each }
    where
      each : (l p : ℕ) → IsSome (slots_of t l p) → has_bit f l p ≡ true
      each l p some =
          let few = few-pages l p some in
          elim (cases_lt (pair_rank l p) from) [
            | inl before ↦ below.set l p few before some
            | inr behind ↦ absurd (none-some _ (row_at-past (pair_rank l p) 0 (2 ^ 128) t.rows rising (omega arith)) (some-rank l p few some))
          ]

-- the next row has no lower rank than that from which it was looked for
pub next-from : (t : Rows Row) (from : ℕ) (row : Row) → IsRising row_functions t.rows → row_from row_functions from t.rows ≡ Some row →
    from ≤ pair_rank row.list.0 row.page
next-from t from row rising next = (row_from-some row_functions from 0 (2 ^ 128) row t.rows rising next).from
