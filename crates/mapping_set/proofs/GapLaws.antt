-- A range of a region's list is vacant where no entry of the region is on its pages.
use Rattle.std.proofs.Common.{subst, ◌≡◌, ◌≢◌, ℕ, ◌+◌, ◌<◌, ◌≤◌, Bool, false, IsTrue, ◌↔◌, Option, None, Some, inl, inr, sym, ap, ◌∙◌, arith}
use Rattle.std.proofs.lemmas.Bool.{cases_lt, false_from_ne_true, both_ways, eqb-true, eq-eqb}
use Rattle.vm_base.specs.declared.limits.TheConstants.{NAMES, PAGES_END}
use Rattle.vm_base.specs.declared.names.RegionName.{RegionName}
use Rattle.vm_base.specs.Entries.{passes}
use Rattle.vm_base.specs.Search.{HasNone}
use Rattle.vm_base.proofs.EntryLaws.{passes-none, passes-some, passes_found}
use Rattle.vm_base.proofs.SearchLaws.{any_from_found, eqb_apart, none_from, none_from_at}
use Rattle.pair_map.specs.declared.stretch_row.Extent.{Extent}
use Rattle.balanced_tree.specs.Gaps.{IsFirstGapOrNone}
use Rattle.balanced_tree.proofs.GapLaws.{first_gap-same}
use Rattle.pair_map.specs.Maps.{IsOpen}
use Rattle.vm_model.specs.declared.space.Entry.{Entry}
use Rattle.vm_model.specs.Space.Table.{mapping_from, is_in, has_entry}
use Rattle.mapping_set.specs.declared.piece.Piece.{Piece}
use Rattle.mapping_set.specs.Pieces.{list_number, table_in, ArePieces, AreListed, IsHeld}
use Rattle.mapping_set.specs.inside.Taken.{pieces_in}
use Rattle.mapping_set.specs.Tables.{places_in, IsBare, IsClear}
use Rattle.mapping_set.proofs.TableLaws.{table_in-found, table_in-at}
use Rattle.mapping_set.proofs.TakenLaws.{open-both, open-pieces, open-places}

-- an entry of a piece is of the region of the piece
region_same : (x : Piece) (p : ℕ) (e : Entry) → mapping_from x.first x.entry p ≡ Some e → x.entry.region.0 ≡ e.region.0
region_same x p e is = ap region_of is
  where
    region_of : Option Entry → ℕ
    region_of None = 0
    region_of (Some entry) = entry.region.0

module _ {V : Type 0} (pieces : ℕ → ℕ → Option Piece) (h : ArePieces pieces) (lists : ℕ → ℕ → Option (Extent V)) (g : AreListed pieces lists)
    (root region : ℕ) (few : root < NAMES) where
  abbrev list : ℕ → Option (Extent V)
  list = lists (list_number region root)

  -- an entry of the region is on a page of a range that is not vacant
  has_no-open : (p count : ℕ) → IsOpen list p count → has_entry (table_in pieces) root region p (p + count) ≡ false
  unfolding has_entry
  has_no-open p count free = false_from_ne_true _ (λ has.
      let found = any_from_found _ p (p + count) has in
      let entry = passes_found (is_in region) (table_in pieces root found.0) found.3 in
      let by = table_in-found pieces root found.0 entry.0 entry.1 in
      let region_is : by.1.entry.region.0 ≡ region = region_same by.1 found.0 entry.0 by.6 ∙ eqb-true entry.0.region.0 region entry.2 in
      let listed = g.listed root by.0 by.1 by.2 in
      let last = (h.sound root by.0 by.1 by.2).last_is in
      let count_is = listed.2 in
      free.free found.0 by.1.first listed.0 found.1 found.2 (record {
        is = subst (λ n. lists (list_number n root) by.1.first ≡ Some listed.0) region_is listed.1;
        from = by.3;
        below = omega (arith, by.4);
      }))

  open-has_no : (p count : ℕ) → has_entry (table_in pieces) root region p (p + count) ≡ false → IsOpen list p count
  unfolding has_entry
  open-has_no p count none = record {
    free = λ q first e low high covers.
        let held = g.held root region first e few covers.is in
        let last = (h.sound root held.0 held.1 held.2).last_is in
        let begins = held.3 in
        let count_is = held.4 in
        let from = covers.from in
        let below = covers.below in
        let shown = table_in-at pieces h root held.0 held.1 q held.2 (omega arith) (omega arith) in
        both_ways _ (none_from_at _ p (p + count) q none low high)
        (passes-some (is_in region) (table_in pieces root q) _ shown ∙ eq-eqb held.1.entry.region.0 region held.5);
  }

  pub bare-open : (p count : ℕ) → IsBare (table_in pieces root) p (p + count) → IsOpen list p count
  bare-open p count bare = record {
    free = λ q first e low high covers.
        let held = g.held root region first e few covers.is in
        let last = (h.sound root held.0 held.1 held.2).last_is in
        let begins = held.3 in
        let count_is = held.4 in
        let from = covers.from in
        let below = covers.below in
        let shown = table_in-at pieces h root held.0 held.1 q held.2 (omega arith) (omega arith) in
        let none = bare q low high in
        absurd cc;
  }

  -- no page has an entry of a region with an empty list
  pub no_entry-none : ((p : ℕ) → list p ≡ None) → has_entry (table_in pieces) root region 0 PAGES_END ≡ false
  no_entry-none none =
      let end : 0 + PAGES_END ≡ PAGES_END = omega arith in
      ap (has_entry (table_in pieces) root region 0) (sym end)
      ∙ has_no-open 0 PAGES_END (record { free = λ q p e low high covers. absurd (let is = covers.is in let gone = none p in cc) })

-- ---- a search among the pieces of an address space

-- a range is a gap where the pages before `at` have no entry of the region, and those from there on have none
pub gap-here : (table : ℕ → ℕ → Option Entry) (root region start at count : ℕ) → HasNone (λ p. passes (is_in region) (table root p)) start at
    → ((p : ℕ) → at ≤ p → p < start + count → table root p ≡ None) → has_entry table root region start (start + count) ≡ false
unfolding has_entry
gap-here table root region start at count bare none = none_from _ start (start + count) (λ p low high. elim (cases_lt p at) [
  | inl before ↦ bare p low before
  | inr behind ↦ passes-none (is_in region) (table root p) (none p behind high)
])

module _ (pieces : ℕ → ℕ → Option Piece) (root region at last : ℕ) (x : Piece) (held : IsHeld pieces root at last x) where
  -- a range that begins before the end of a piece of the region, and ends behind its first page, is no gap
  pub held-met : x.entry.region.0 ≡ region → (p count : ℕ) → 1 ≤ count → p ≤ last → x.first < p + count → has_entry (table_in pieces) root region p (p + count) ≡ false → ⊥
  unfolding has_entry
  held-met region_is p count some high meets none = elim (cases_lt p x.first) [
    | inl before ↦ has x.first (omega arith) meets (omega arith) (omega (arith, held.sound.some))
    | inr behind ↦ has p (omega arith) (omega arith) behind (omega (arith, held.sound.last_is))
  ]
    where
      has : (q : ℕ) → p ≤ q → q < p + count → x.first ≤ q → q < x.first + x.count → ⊥
      has q from below low less =
          both_ways _ (none_from_at _ p (p + count) q none from below)
          (passes-some (is_in region) (table_in pieces root q) _ (held.entries q low less) ∙ eq-eqb x.entry.region.0 region region_is)

  -- up to the end of a piece of another region, no page has an entry of the region
  pub held-other : x.entry.region.0 ≢ region → (p : ℕ) → at ≤ p → p ≤ last → passes (is_in region) (table_in pieces root p) ≡ false
  held-other apart p low high = elim (cases_lt p x.first) [
    | inl before ↦ passes-none (is_in region) (table_in pieces root p) (held.free p low before)
    | inr behind ↦
        passes-some (is_in region) (table_in pieces root p) _ (held.entries p behind (omega (arith, held.sound.last_is)))
        ∙ eqb_apart x.entry.region.0 region apart
  ]

-- ---- what is taken in a region

module _ (pieces : ℕ → ℕ → Option Piece) (h : ArePieces pieces) (taken : ℕ → ℕ → Option (Extent (Option RegionName))) (g : AreListed pieces (pieces_in taken))
    (root region : ℕ) (few : root < NAMES) where
  abbrev all : ℕ → Option (Extent (Option RegionName))
  all = taken (list_number region root)

  abbrev places : ℕ → Option (Extent RegionName)
  places = places_in taken (list_number region root)

  -- a range in which nothing is taken is clear, and the other way round
  pub open-clear : (p count : ℕ) → IsOpen all p count → IsClear places (table_in pieces) root region p count
  open-clear p count vacant = record {
    apart = open-places taken (list_number region root) p count vacant;
    bare = has_no-open pieces h (pieces_in taken) g root region few p count (open-pieces taken (list_number region root) p count vacant);
  }

  pub clear-open : (p count : ℕ) → IsClear places (table_in pieces) root region p count → IsOpen all p count
  clear-open p count clear =
      open-both taken (list_number region root) p count (open-has_no pieces h (pieces_in taken) g root region few p count clear.bare) clear.apart

  pub first_clear-is : (from count limit : ℕ) (answer : Option ℕ) → IsFirstGapOrNone (λ p. IsOpen all p count) from count limit answer
      → IsFirstGapOrNone (λ p. IsClear places (table_in pieces) root region p count) from count limit answer
  first_clear-is from count limit answer = first_gap-same from count limit answer (λ p. open-clear p count) (λ p. clear-open p count)

  pub clear-is : (p count : ℕ) (b : Bool) → IsTrue b ↔ IsOpen all p count → IsTrue b ↔ IsClear places (table_in pieces) root region p count
  clear-is p count b vacant = (λ is. open-clear p count (vacant.0 is), λ clear. vacant.1 (clear-open p count clear))
