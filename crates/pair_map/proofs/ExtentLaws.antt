-- Extents stand apart, as they come and go, and the ranks of a list's numbers are free where the numbers are open.
use Rattle.std.proofs.Common.{◌≡◌, ◌⊎◌, inl, inr, ℕ, ◌+◌, ◌-◌, ◌<◌, ◌≤◌, ◌^◌, min, max, Bool, true, false, cond, List}
use Rattle.std.proofs.Common.{Option, None, Some, ◌↔◌, IsTrue, leb, refl, sym, ap, ◌∙◌, subst, rules, arith}
use Rattle.std.specs.Option.{option_map}
use Rattle.std.proofs.lemmas.Bool.{cases_lt, cases_order, leb-true, le-leb}
use Rattle.balanced_tree.specs.Row.{plain}
use Rattle.balanced_tree.specs.Rows.{Rows, row_at, with_row, without_rank, IsRising}
use Rattle.balanced_tree.specs.Pairs.{pair_rank, value_at}
use Rattle.balanced_tree.specs.Gaps.{IsFree, HasNoGap, IsFirstGap}
use Rattle.balanced_tree.proofs.ListLaws.{row_at-rank, row_at-with_row, row_at-without_rank, each-found, found-each}
use Rattle.balanced_tree.proofs.ApartLaws.{AreApart-with_row, AreApart-without_rank, apart-found}
use Rattle.balanced_tree.proofs.PairLaws.{value-seen, value-found, value-past}
use Rattle.pair_map.specs.Pairs.{IsLast}
use Rattle.pair_map.specs.declared.stretch_row.Extent.{Extent}
use Rattle.pair_map.specs.declared.stretch_row.StretchRow.{StretchRow}
use Rattle.pair_map.specs.StretchRows.{stretch_functions, stretch_extents, extent_of, stretch_rows, stretch_of, IsSound, AreExtents}
use Rattle.pair_map.specs.Maps.{extents_of, IsOpen, StandApart}

module _ {V : Type 0} (extents : ℕ → Option (Extent V)) (first count : ℕ) (some : 1 ≤ count) where
  -- a range is open where each extent that has a number lies before it or behind it
  pub open-apart : IsOpen extents first count → (p : ℕ) (e : Extent V) → extents p ≡ Some e → 1 ≤ e.count
      → (first + count ≤ p) ⊎ (p + e.count ≤ first)
  open-apart free p e is has = elim (cases_lt p (first + count)) [
    | inl below ↦ elim (cases_lt first (p + e.count)) [
      | inl above ↦ absurd (free.free (max first p) p e (omega arith) (omega arith) (record { is = is; from = omega arith; below = omega arith }))
      | inr behind ↦ inr behind
    ]
    | inr before ↦ inl before
  ]

module _ {V : Type 0} where
  -- the extents stay apart where one goes
  pub AreExtents-less : (rows : List (StretchRow V)) → AreExtents rows → (n : ℕ) (new : List (StretchRow V))
      → new ≡ without_rank stretch_functions n rows → AreExtents new
  AreExtents-less rows h n new e = subst AreExtents (sym e) (record { sound = sound; apart = AreApart-without_rank stretch_functions stretch_extents n rows h.apart })
    where
      sound : (m : ℕ) (row : StretchRow V) → row_at stretch_functions m (without_rank stretch_functions n rows) ≡ Some row → IsSound row
      sound m row is = by _ (sym (row_at-without_rank stretch_functions m n rows) ∙ is)
        where
          by : (b : Bool) → cond b (row_at stretch_functions m rows) None ≡ Some row → IsSound row
          by true is = h.sound m row is
          by false is = absurd (cc)

  -- the row of an extent that the map has
  pub record IsRowOf (rows : List (StretchRow V)) (l p : ℕ) (e : Extent V) (row : StretchRow V) : Type 0 where
    pub at : row_at stretch_functions (pair_rank l p) rows ≡ Some row
    pub list : row.list ≡ l
    pub first : row.first ≡ p
    pub extent : row.extent ≡ e
    pub some : 1 ≤ e.count
    pub end : p + e.count ≤ 2 ^ 63

  module _ (rows : List (StretchRow V)) (h : AreExtents rows) where
    pub row-of : (l p : ℕ) (e : Extent V) → value_at stretch_functions extent_of rows l p ≡ Some e → (row : StretchRow V) × IsRowOf rows l p e row
    row-of l p e is = elim (cases_lt p (2 ^ 64)) [
      | inl few ↦ by few _ refl (sym (value-seen stretch_rows rows rows refl l p (pair_rank l p) few refl) ∙ is)
      | inr past ↦ absurd (let none = value-past stretch_rows rows l p past in cc)
    ]
      where
        by : p < 2 ^ 64 → (o : Option (StretchRow V)) → row_at stretch_functions (pair_rank l p) rows ≡ o → option_map extent_of o ≡ Some e
            → (row : StretchRow V) × IsRowOf rows l p e row
        by few None at is = absurd (cc)
        by few (Some row) at is =
            let extent : row.extent ≡ e = search (rules, is) in
            let rank = row_at-rank stretch_functions (pair_rank l p) row rows at in
            let sound = h.sound (pair_rank l p) row at in
            let some = sound.some in
            let end = sound.end in
            let list : row.list ≡ l = omega arith in
            let first : row.first ≡ p = omega arith in
            let count = ap (λ (x : Extent V). x.count) extent in
            (row, record { at = at; list = list; first = first; extent = extent; some = omega arith; end = omega arith })

    apart-extents : IsRising stretch_functions rows → StandApart (value_at stretch_functions extent_of rows)
    apart-extents rising = record {
      some = λ l p e is. (row-of l p e is).1.some;
      end = λ l p e is. (row-of l p e is).1.end;
      apart = λ l p q d e is at less.
          let x = row-of l p d is in
          let y = row-of l q e at in
          let ends = apart-found stretch_functions stretch_extents 0 (2 ^ 128) 0 (2 ^ 128) (pair_rank l p) (pair_rank l q) x.0 y.0 rows h.apart rising x.1.at y.1.at (omega arith) in
          let list = x.1.list in
          let first = x.1.first in
          let count = ap (λ (x : Extent V). x.count) x.1.extent in
          let end = x.1.end in
          omega arith;
    }

    -- where the ranks of numbers of a list are free, the numbers are open
    free-open : (l p size : ℕ) → IsFree stretch_functions stretch_extents rows size (pair_rank l p) → IsOpen (value_at stretch_functions extent_of rows l) p size
    free-open l p size free = record {
      free = λ q first e from below has.
          let x = row-of l first e has.is in
          let at = each-found stretch_functions _ (pair_rank l first) x.0 rows free x.1.at in
          let list = x.1.list in
          let same = x.1.first in
          let count = ap (λ (x : Extent V). x.count) x.1.extent in
          let end = x.1.end in
          let less = has.below in
          let more = has.from in
          elim at [ inl before ↦ absurd (omega arith) | inr behind ↦ absurd (omega arith) ];
    }

    -- and the other way round
    open-free : IsRising stretch_functions rows → (l p size : ℕ) → 1 ≤ size → p + size ≤ 2 ^ 63
        → IsOpen (value_at stretch_functions extent_of rows l) p size → IsFree stretch_functions stretch_extents rows size (pair_rank l p)
    open-free rising l p size some end free = found-each stretch_functions _ 0 (2 ^ 128) rows rising each
      where
        each : (x : StretchRow V) → row_at stretch_functions (pair_rank x.list x.first) rows ≡ Some x
            → (pair_rank l p + size ≤ pair_rank x.list x.first) ⊎ (pair_rank x.list (min (x.first + x.extent.count) (2 ^ 64 - 1)) ≤ pair_rank l p)
        each x at =
            let sound = h.sound (pair_rank x.list x.first) x at in
            let has = sound.some in
            let ends = sound.end in
            elim (cases_order x.list l) [
              | inl same ↦
                  let is : value_at stretch_functions extent_of rows l x.first ≡ Some x.extent = value-found stretch_rows rows rows refl l x.first (pair_rank x.list x.first) (omega arith) (ap (λ k. pair_rank k x.first) same) x at in
                  elim (open-apart (value_at stretch_functions extent_of rows l) p size some free x.first x.extent is has) [ inl before ↦ inl (omega arith) | inr behind ↦ inr (omega arith) ]
              | inr (inl less) ↦ inr (omega arith)
              | inr (inr more) ↦ inl (omega arith)
            ]

    -- a range that is open has no extent at its first number
    pub open-none : IsRising stretch_functions rows → (l p size : ℕ) → 1 ≤ size → IsOpen (value_at stretch_functions extent_of rows l) p size
        → value_at stretch_functions extent_of rows l p ≡ None
    open-none rising l p size some free = by _ refl
      where
        by : (o : Option (Extent V)) → value_at stretch_functions extent_of rows l p ≡ o → o ≡ None
        by None is = refl
        by (Some e) is =
            let has = (apart-extents rising).some l p e is in
            absurd (free.free p p e (omega arith) (omega arith) (record { is = is; from = omega arith; below = omega arith }))

    -- the extents stay apart where one comes to an open range
    pub more-extents : IsRising stretch_functions rows → (l p : ℕ) (e : Extent V) → l < 2 ^ 64 → 1 ≤ e.count → p + e.count ≤ 2 ^ 63
        → IsOpen (value_at stretch_functions extent_of rows l) p e.count
        → AreExtents (with_row stretch_functions (plain stretch_functions (stretch_of l p e)) rows)
    more-extents rising l p e fits some end free = record {
      sound = sound;
      apart = AreApart-with_row stretch_functions stretch_extents (plain stretch_functions (stretch_of l p e)) e.count (omega arith) rows h.apart (open-free rising l p e.count some end free) (omega arith);
    }
      where
        sound : (m : ℕ) (row : StretchRow V) → row_at stretch_functions m (with_row stretch_functions (plain stretch_functions (stretch_of l p e)) rows) ≡ Some row → IsSound row
        sound m row is = by _ (sym (row_at-with_row stretch_functions m (plain stretch_functions (stretch_of l p e)) rows) ∙ is)
          where
            by : (b : Bool) → cond b (Some (plain stretch_functions (stretch_of l p e))) (row_at stretch_functions m rows) ≡ Some row → IsSound row
            by true is = let same : plain stretch_functions (stretch_of l p e) ≡ row = search (rules, is) in subst IsSound same (record { some = some; end = end })
            by false is = h.sound m row is

  -- what holds inside a map, as it is seen
  module _ {was old : Rows (StretchRow V)} (seen : was ≡ old) (h : AreExtents was.rows) (rising : IsRising stretch_functions was.rows) where
    pub StandApart-seen : StandApart (extents_of old)
    StandApart-seen = subst (λ (m : Rows (StretchRow V)). StandApart (extents_of m)) seen (apart-extents was.rows h rising)

    inside-open : (l p size : ℕ) → IsOpen (extents_of old l) p size → IsOpen (value_at stretch_functions extent_of was.rows l) p size
    inside-open l p size free = subst (λ (m : Rows (StretchRow V)). IsOpen (extents_of m l) p size) (sym seen) free

    pub none-seen : (l p size : ℕ) → 1 ≤ size → IsOpen (extents_of old l) p size → extents_of old l p ≡ None
    none-seen l p size some free =
        subst (λ (m : Rows (StretchRow V)). extents_of m l p ≡ None) seen
        (open-none was.rows h rising l p size some (inside-open l p size free))

    pub AreExtents-more : (l p : ℕ) (e : Extent V) → l < 2 ^ 64 → 1 ≤ e.count → p + e.count ≤ 2 ^ 63 → IsOpen (extents_of old l) p e.count
        → (row : StretchRow V) → row ≡ stretch_of l p e → (new : List (StretchRow V))
        → new ≡ with_row stretch_functions (plain stretch_functions row) was.rows → AreExtents new
    AreExtents-more l p e fits some end free row is new same =
        subst AreExtents (sym (same ∙ ap (λ (x : StretchRow V). with_row stretch_functions (plain stretch_functions x) was.rows) is))
        (more-extents was.rows h rising l p e fits some end (inside-open l p e.count free))

    -- a gap between the ranks of a list is an open range of its numbers
    module _ (l from count limit : ℕ) (some : 1 ≤ count) (end : limit ≤ 2 ^ 63) where
      free-inside : (p : ℕ) → p + count ≤ limit → IsOpen (extents_of old l) p count → IsFree stretch_functions stretch_extents was.rows count (pair_rank l p)
      free-inside p to free = open-free was.rows h rising l p count some (omega arith) (inside-open l p count free)

      -- what the tree answers, by the ranks that it is asked
      module _ {start size last : ℕ} (begins : start ≡ pair_rank l from) (is_size : size ≡ count) (ends : last ≡ pair_rank l limit) where
        pub gap-none : HasNoGap (IsFree stretch_functions stretch_extents was.rows size) start size last → HasNoGap (λ p. IsOpen (extents_of old l) p count) from count limit
        gap-none none p at to free =
            none (pair_rank l p) (omega arith) (omega arith)
            (subst (λ n. IsFree stretch_functions stretch_extents was.rows n (pair_rank l p)) (sym is_size) (free-inside p to free))

        pub gap-first : (gap first p : ℕ) → first ≡ pair_rank l 0 → p ≡ gap - first
            → IsFirstGap (IsFree stretch_functions stretch_extents was.rows size) start size last gap → IsFirstGap (λ p. IsOpen (extents_of old l) p count) from count limit p
        gap-first gap first p zero is g =
            let at = g.not_before in
            let to = g.not_past in
            let rank : gap ≡ pair_rank l p = omega arith in
            let free = subst (λ n. IsFree stretch_functions stretch_extents was.rows n gap) is_size g.is in
            record {
              not_before = omega arith;
              not_past = omega arith;
              is = subst (λ (m : Rows (StretchRow V)). IsOpen (extents_of m l) p count) seen
                  (free-open was.rows h l p count (subst (λ n. IsFree stretch_functions stretch_extents was.rows count n) rank free));
              first = λ q after before free.
                  g.first (pair_rank l q) (omega arith) (omega arith)
                  (subst (λ n. IsFree stretch_functions stretch_extents was.rows n (pair_rank l q)) (sym is_size) (free-inside q (omega arith) free));
            }

  -- a range is open where the last extent that begins up to its end lies before it
  pub open-last : (extents : ℕ → ℕ → Option (Extent V)) → StandApart extents → (l first count to start : ℕ) (e : Extent V) → 1 ≤ count
      → to ≡ min (first + (count - 1)) (2 ^ 64 - 1) → IsLast (extents l) to (start, e) → IsTrue (leb (start + e.count) first) ↔ IsOpen (extents l) first count
  open-last extents stand l first count to start e some end last =
      let has = stand.some l start e last.is in
      let up_to = last.up_to in (
        λ before. record {
          free = λ q p d from below covers.
              let behind = leb-true (start + e.count) first before in
              let at = covers.from in
              let past = covers.below in
              let short = stand.end l p d covers.is in
              elim (cases_order p start) [
                | inl same ↦
                    let is : Some d ≡ Some e = sym covers.is ∙ (ap (extents l) same ∙ last.is) in
                    let count : d.count ≡ e.count = search (rules, is) in
                    absurd (omega arith)
                | inr (inl less) ↦ absurd (let apart = stand.apart l p start d e covers.is last.is less in omega arith)
                | inr (inr more) ↦ absurd (let none = last.greatest p more (omega arith) in let is = covers.is in cc)
              ];
        },
        λ free. elim (cases_lt first (start + e.count)) [
          | inl past ↦ absurd (free.free (max first start) start e (omega arith) (omega arith)
              (record { is = last.is; from = omega arith; below = omega arith }))
          | inr before ↦ le-leb (start + e.count) first before
        ],
      )
