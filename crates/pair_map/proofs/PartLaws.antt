-- An extent that loses some of its numbers: those are open then, and the extents stand apart as before.
use Rattle.std.proofs.Common.{◌≡◌, ◌⊎◌, inl, inr, ℕ, ◌+◌, ◌-◌, ◌<◌, ◌≤◌, ◌^◌, ◌&&◌, ◌==◌, true, List, length, Option, None, Some, is_some, refl, sym, ap, ◌∙◌, subst, arith}
use Rattle.std.proofs.lemmas.Bool.{cases_Bool, cases_order, cond-true, cond-false, and_parts}
use Rattle.std.proofs.lemmas.Bool.Decides.{Decides-eqb}
use Rattle.std.proofs.lemmas.Grind.{common_steps}
use Rattle.std.proofs.lemmas.Option.{same_Some}
use Rattle.balanced_tree.specs.Row.{plain}
use Rattle.balanced_tree.specs.Rows.{Rows, row_at, with_row, without_rank, IsBeside, AreAllBeside, IsRising}
use Rattle.balanced_tree.specs.Pairs.{pair_rank, value_at, with_pair}
use Rattle.balanced_tree.proofs.ApartLaws.{apart-found}
use Rattle.balanced_tree.proofs.ListLaws.{found-each}
use Rattle.balanced_tree.proofs.RowLaws.{rises-filter, with_row-without}
use Rattle.balanced_tree.proofs.PairLaws.{values-put, values-taken, length-inserted, length-taken}
use Rattle.pair_map.specs.declared.stretch_row.Extent.{Extent}
use Rattle.pair_map.specs.declared.stretch_row.StretchRow.{StretchRow}
use Rattle.pair_map.specs.StretchRows.{stretch_functions, stretch_extents, extent_of, stretch_rows, stretch_of, AreExtents}
use Rattle.pair_map.specs.Maps.{extents_of, count_of, IsOpen, StandApart, IsExtent, IsHead}
use Rattle.pair_map.proofs.ExtentLaws.{AreExtents-less, StandApart-seen, more-extents, row-of, open-none}

-- ---- the numbers that an extent loses are open

module _ {V : Type 0} (extents : ℕ → ℕ → Option (Extent V)) (stand : StandApart extents) (l first : ℕ) (e : Extent V) (is : extents l first ≡ Some e) (o : Option (Extent V)) where
  here_or_there : (p : ℕ) (d : Extent V) → with_pair extents l first o l p ≡ Some d → ((p ≡ first) × (o ≡ Some d)) ⊎ ((p ≡ first → ⊥) × (extents l p ≡ Some d))
  unfolding with_pair
  here_or_there p d at = elim (cases_Bool ((l == l) && (p == first))) [
    | inl here ↦ inl ((Decides-eqb p first).0 (and_parts (l == l) (p == first) here).1, sym (cond-true _ _ _ here) ∙ at)
    | inr there ↦ inr (
      λ same. let on : ((l == l) && (p == first)) ≡ true = grind (arith, common_steps) in absurd cc,
      sym (cond-false _ _ _ there) ∙ at,
    )
  ]

  pub open-rest : (q size : ℕ) → first ≤ q → ((d : Extent V) → o ≡ Some d → first + d.count ≤ q) → q + size ≤ first + e.count → IsOpen (with_pair extents l first o l) q size
  open-rest q size low kept high = record {
    free = λ n p d from below covers.
        let at = covers.from in
        let past = covers.below in
        elim (here_or_there p d covers.is) [
          | inl here ↦ let same = here.0 in let short = kept d here.1 in absurd (omega arith)
          | inr there ↦ elim (cases_order p first) [
            | inl same ↦ absurd (there.0 same)
            | inr (inl less) ↦ absurd (let before = stand.apart l p first d e there.1 is less in omega arith)
            | inr (inr more) ↦ absurd (let behind = stand.apart l first p e d is there.1 more in omega arith)
          ]
        ];
  }

module _ {V : Type 0} (extents : ℕ → ℕ → Option (Extent V)) (stand : StandApart extents) (l first end : ℕ) (there : IsExtent (extents l) first end) where
  pub head-of : (from : ℕ) → from ≤ end → IsHead (extents l) first (from - first)
  head-of from less = let ends = there.ends in record { extent = there.extent; is = there.is; most = omega arith }

  -- it keeps its first numbers alone
  pub open-behind : (new : ℕ → ℕ → Option (Extent V)) (count : ℕ) (value : V) → new ≡ with_pair extents l first (Some (record { count = count; value = value }))
      → (to : ℕ) → first + count ≤ to → to < end → IsOpen (new l) to (end - to)
  open-behind new count value is to low high =
      let ends = there.ends in
      subst (λ (m : ℕ → ℕ → Option (Extent V)). IsOpen (m l) to (end - to)) (sym is)
      (open-rest extents stand l first there.extent there.is (Some (record { count = count; value = value })) to (end - to) (omega arith)
      (λ d same. let counts : count ≡ d.count = ap (λ (x : Extent V). x.count) (same_Some _ d same) in omega arith) (omega arith))

-- ---- an extent keeps its first numbers alone

module _ {V : Type 0} {was old : Rows (StretchRow V)} (seen : was ≡ old) (h : AreExtents was.rows) (rising : IsRising stretch_functions was.rows) (l p count : ℕ) (value : V)
    (fits : l < 2 ^ 64) (few : p < 2 ^ 64) (some : 1 ≤ count) (head : IsHead (extents_of old l) p count) where
  abbrev kept : Extent V
  kept = record { count = count; value = value }

  abbrev less : List (StretchRow V)
  less = without_rank stretch_functions (pair_rank l p) was.rows

  inside : IsHead (value_at stretch_functions extent_of was.rows l) p count
  inside = subst (λ (m : Rows (StretchRow V)). IsHead (extents_of m l) p count) (sym seen) head

  stands : StandApart (value_at stretch_functions extent_of was.rows)
  stands = subst (λ (m : Rows (StretchRow V)). StandApart (extents_of m)) (sym seen) (StandApart-seen seen h rising)

  open-less : IsOpen (value_at stretch_functions extent_of less l) p count
  open-less =
      let most = inside.most in
      subst (λ (m : ℕ → ℕ → Option (Extent V)). IsOpen (m l) p count) (sym (values-taken stretch_rows was.rows was.rows refl l p (pair_rank l p) few refl less refl))
      (open-rest (value_at stretch_functions extent_of was.rows) stands l p inside.extent inside.is None p count (omega arith) (λ d none. absurd cc) (omega arith))

  pub AreExtents-shorter : (row : StretchRow V) → row ≡ stretch_of l p kept → (new : List (StretchRow V))
      → new ≡ with_row stretch_functions (plain stretch_functions row) was.rows → AreExtents new
  AreExtents-shorter row is new same =
      let end = stands.end l p inside.extent inside.is in
      let most = inside.most in
      subst AreExtents (sym (same ∙ ap (λ (x : StretchRow V). with_row stretch_functions (plain stretch_functions x) was.rows) is))
      (subst AreExtents (with_row-without stretch_functions (plain stretch_functions (stretch_of l p kept)) was.rows)
      (more-extents less (AreExtents-less was.rows h (pair_rank l p) less refl) (rises-filter stretch_functions _ 0 (2 ^ 128) was.rows rising) l p kept fits some (omega arith) open-less))

-- ---- an extent keeps its last numbers alone

module _ {V : Type 0} {was old : Rows (StretchRow V)} (seen : was ≡ old) (h : AreExtents was.rows) (rising : IsRising stretch_functions was.rows) (l first end to n : ℕ) (n_is : n ≡ pair_rank l first)
    (few_first : first < 2 ^ 64) (few : to < 2 ^ 64) (there : IsExtent (extents_of old l) first end) (low : first ≤ to) (high : to < end) where
  abbrev left_rows : List (StretchRow V)
  left_rows = without_rank stretch_functions n was.rows

  there_inside : IsExtent (value_at stretch_functions extent_of was.rows l) first end
  there_inside = subst (λ (m : Rows (StretchRow V)). IsExtent (extents_of m l) first end) (sym seen) there

  stands_inside : StandApart (value_at stretch_functions extent_of was.rows)
  stands_inside = subst (λ (m : Rows (StretchRow V)). StandApart (extents_of m)) (sym seen) (StandApart-seen seen h rising)

  left_extents : AreExtents left_rows
  left_extents = AreExtents-less was.rows h n left_rows refl

  left_rising : IsRising stretch_functions left_rows
  left_rising = rises-filter stretch_functions _ 0 (2 ^ 128) was.rows rising

  left_values : value_at stretch_functions extent_of left_rows ≡ with_pair (value_at stretch_functions extent_of was.rows) l first None
  left_values = values-taken stretch_rows was.rows was.rows refl l first n few_first n_is left_rows refl

  open-left : IsOpen (value_at stretch_functions extent_of left_rows l) to (end - to)
  open-left =
      let ends = there_inside.ends in
      subst (λ (m : ℕ → ℕ → Option (Extent V)). IsOpen (m l) to (end - to)) (sym left_values)
      (open-rest (value_at stretch_functions extent_of was.rows) stands_inside l first there_inside.extent there_inside.is None to (end - to) low (λ d none. absurd cc) (omega arith))

  -- no other extent begins before its end
  pub beside-extent : AreAllBeside stretch_functions n (pair_rank l to) was.rows
  beside-extent = found-each stretch_functions (IsBeside stretch_functions n (pair_rank l to)) 0 (2 ^ 128) was.rows rising each
    where
      each : (x : StretchRow V) → row_at stretch_functions (pair_rank x.list x.first) was.rows ≡ Some x → IsBeside stretch_functions n (pair_rank l to) x
      each x at = (
        λ less. omega arith,
        λ more.
            let whole = row-of was.rows h l first there_inside.extent there_inside.is in
            let behind = apart-found stretch_functions stretch_extents 0 (2 ^ 128) 0 (2 ^ 128) (pair_rank l first) (pair_rank x.list x.first) whole.0 x was.rows h.apart rising whole.1.at at (omega arith) in
            let list = whole.1.list in
            let begins = whole.1.first in
            let count = ap (λ (e : Extent V). e.count) whole.1.extent in
            let last = whole.1.end in
            let ends = there_inside.ends in
            omega arith,
      )

  module _ (value : V) (fits : l < 2 ^ 64) (row : StretchRow V) (row_is : row ≡ stretch_of l to (record { count = end - to; value = value }))
      (new : Rows (StretchRow V)) (put : new.rows ≡ with_row stretch_functions (plain stretch_functions row) left_rows) where
    abbrev rest_extent : Extent V
    rest_extent = record { count = end - to; value = value }

    pub AreExtents-advanced : AreExtents new.rows
    AreExtents-advanced =
        let last = stands_inside.end l first there_inside.extent there_inside.is in
        let ends = there_inside.ends in
        subst AreExtents (sym (put ∙ ap (λ (x : StretchRow V). with_row stretch_functions (plain stretch_functions x) left_rows) row_is))
        (more-extents left_rows left_extents left_rising l to rest_extent fits (omega arith) (omega arith) open-left)

    rank_is : stretch_functions.rank row ≡ pair_rank l to
    rank_is = ap stretch_functions.rank row_is

    pub values-advanced : extents_of new ≡ with_pair (with_pair (extents_of old) l first None) l to (Some rest_extent)
    values-advanced =
        values-put stretch_rows left_rows left_rows refl l to (stretch_functions.rank row) few rank_is new.rows row refl put
        ∙ (ap (λ (x : StretchRow V). with_pair (value_at stretch_functions extent_of left_rows) l to (Some (extent_of x))) row_is
        ∙ (ap (λ (m : ℕ → ℕ → Option (Extent V)). with_pair m l to (Some rest_extent)) left_values
        ∙ ap (λ (m : Rows (StretchRow V)). with_pair (with_pair (extents_of m) l first None) l to (Some rest_extent)) seen))

    pub count-advanced : count_of new ≡ count_of old
    count-advanced =
        let none = open-none left_rows left_extents left_rising l to (end - to) (omega arith) open-left in
        let more = length-inserted stretch_rows left_rows left_rows refl l to (stretch_functions.rank row) few rank_is new.rows left_rising row refl put none in
        let less = length-taken stretch_rows was.rows was.rows refl l first n few_first n_is left_rows rising refl (ap is_some there_inside.is) in
        omega (arith, more, less, ap (λ (m : Rows (StretchRow V)). length m.rows) seen)
