-- The extents of the children tell where a live child is, and with the entries where a place is free.
use Rattle.std.proofs.Common.{◌≡◌, ℕ, ◌+◌, ◌-◌, ◌<◌, ◌≤◌, ◌^◌, Bool, true, false, not, ◌&&◌, Option, None, Some, is_some, ◌⊎◌, ◌↔◌, IsTrue, refl, sym, ap, subst, ◌∙◌, inl, inr, arith}
use Rattle.std.specs.Prelude.{nat_lt, nat_le, min, max, unwrap_or, IfSome}
use Rattle.std.specs.Option.{MatchOption}
use Rattle.std.proofs.lemmas.Bool.{cases_Bool, cases_lt, and_parts, and_from, both_ways, false_from_ne_true, not-true, not_from_false, ltb-true, leb-true, lt-ltb, le-leb}
use Rattle.vm_base.specs.declared.limits.TheConstants.{NAMES}
use Rattle.vm_base.specs.declared.names.RegionName.{RegionName}
use Rattle.vm_base.proofs.SearchLaws.{none_below}
use Rattle.vm_base.proofs.EntryLaws.{any_entry_at}
use Rattle.vm_model.specs.declared.space.Entry.{Entry}
use Rattle.vm_model.specs.declared.space.Region.{Region}
use Rattle.vm_model.specs.Space.Regions.{region_of, end_of, root_region, meets, lies_in, reaches_over, is_child, any_child, meets_child, cuts_child}
use Rattle.vm_model.specs.Space.Table.{has_entry}
use Rattle.vm_model.specs.Space.Places.{is_free, has_place}
use Rattle.vm_model.proofs.RegionLaws.{meets_at, reaches_over_parts, reaches_over_from}
use Rattle.vm_model.proofs.SpaceLaws.{child_none, none_child}
use Rattle.balanced_tree.specs.Rows.{Rows}
use Rattle.pair_map.specs.declared.pair_row.PairRow.{PairRow}
use Rattle.pair_map.specs.declared.stretch_row.Extent.{Extent}
use Rattle.pair_map.specs.Maps.{Covers, IsOpen}
use Rattle.balanced_tree.specs.Gaps.{HasNoGap, IsFirstGap, IsFirstGapOrNone}
use Rattle.mapping_set.specs.Tables.{IsClear}
use Rattle.region_tree.specs.Tree.{regions_of, spaces_of, extent_for}
use Rattle.region_tree.specs.inside.TreeFields.{IsTree, ReachesOut}

-- what the fields hold, as it is seen
pub seen : {was now : Rows (PairRow Region)} {children : ℕ → ℕ → Option (Extent RegionName)} → was ≡ now → IsTree (regions_of was) children → IsTree (regions_of now) children
seen {was} {now} {children} same tree = subst (λ (t : Rows (PairRow Region)). IsTree (regions_of t) children) same tree

-- a live child that passes
pub child_at : (regions : ℕ → Option Region) (name : ℕ) (test : Region → Bool) (n : ℕ) (region : Region) → n < NAMES → regions n ≡ Some region → is_child name region ≡ true
    → test region ≡ true → any_child regions name test ≡ true
child_at regions name test n region h e child pass =
    any_entry_at NAMES (λ (r : Region). is_child name r && test r) regions n region h e (and_from (is_child name region) (test region) child pass)

-- no child is cut by no pages
pub none-cut_empty : (regions : ℕ → Option Region) (p first count : ℕ) → count ≡ 0 → cuts_child regions p first (first + count) ≡ false
none-cut_empty regions p first count none = none_child regions p (λ (r : Region). meets first (first + count) r && not (lies_in first (first + count) r)) (λ n region e child.
    false_from_ne_true (meets first (first + count) region && not (lies_in first (first + count) region)) (λ both.
    let parts = and_parts (meets first (first + count) region) (not (lies_in first (first + count) region)) both in
    let within = ltb-true (max first region.first) (min (first + count) (end_of region)) parts.0 in
    omega (arith, within, none)))

module _ (regions : ℕ → Option Region) (children : ℕ → ℕ → Option (Extent RegionName)) (tree : IsTree regions children) where
  -- the pages of a live child are in its extent
  pub child-covers : (p n q : ℕ) (region : Region) → regions n ≡ Some region → is_child p region ≡ true → region.first ≤ q → q < end_of region
      → Covers (children p) q region.first (extent_for n region)
  child-covers p n q region e child low high = record { is = tree.listed p n region e child; from = low; below = high }

  -- where a range is in no extent, no live child has one of its pages
  pub open-apart : (p first count : ℕ) → IsOpen (children p) first count → meets_child regions p first (first + count) ≡ false
  open-apart p first count free = none_child regions p (meets first (first + count)) (λ n region e child.
      false_from_ne_true (meets first (first + count) region) (λ meet.
      let within = ltb-true (max first region.first) (min (first + count) (end_of region)) meet in
      free.free (max first region.first) region.first (extent_for n region) (omega arith) (omega (arith, within))
      (child-covers p n (max first region.first) region e child (omega arith) (omega (arith, within)))))

  -- and the other way round
  pub apart-open : (p first count : ℕ) → meets_child regions p first (first + count) ≡ false → IsOpen (children p) first count
  apart-open p first count off = record {
    free = λ q page e from below covers.
        let c = tree.child p page e covers.is in
        let low : c.region.first ≤ q = omega (arith, covers.from, c.first) in
        let high : q < end_of c.region = omega (arith, covers.below, c.first, c.count) in
        both_ways (meets first (first + count) c.region)
        (child_none regions p (meets first (first + count)) off e.value.0 c.region (tree.good.names e.value.0 c.region c.given) c.given c.child)
        (meets_at first (first + count) q c.region from below low high);
  }

  pub meets-is : (p first count : ℕ) (b : Bool) → IsTrue b ↔ IsOpen (children p) first count → not b ≡ meets_child regions p first (first + count)
  meets-is p first count true iff = sym (open-apart p first count (iff.0 refl))
  meets-is p first count false iff = elim (cases_Bool (meets_child regions p first (first + count))) [
    | inl some ↦ sym some
    | inr none ↦ absurd (let on = iff.1 (apart-open p first count none) in cc)
  ]

  -- ---- a child that is cut

  -- a child that has a page of the range and one outside it is cut
  pub out-cuts : (p page first end : ℕ) → first ≤ page → page < end → ReachesOut (children p) page first end → cuts_child regions p first end ≡ true
  out-cuts p page first end from below reach =
      let c = tree.child p reach.start reach.extent reach.covers.is in
      let low : c.region.first ≤ page = omega (arith, reach.covers.from, c.first) in
      let high : page < end_of c.region = omega (arith, reach.covers.below, c.first, c.count) in
      child_at regions p (λ (r : Region). meets first end r && not (lies_in first end r)) reach.extent.value.0 c.region
      (tree.good.names reach.extent.value.0 c.region c.given) c.given c.child
      (and_from (meets first end c.region) (not (lies_in first end c.region)) (meets_at first end page c.region from below low high)
      (not_from_false (lies_in first end c.region) (false_from_ne_true (lies_in first end c.region) (λ lies.
      let parts = and_parts (nat_le first c.region.first) (nat_le (end_of c.region) end) lies in
      let start = leb-true first c.region.first parts.0 in
      let last = leb-true (end_of c.region) end parts.1 in
      elim reach.out [ inl before ↦ omega (arith, before, start, c.first) | inr behind ↦ omega (arith, behind, last, c.first, c.count) ]))))

  -- where the children of its first and its last page have no page outside the range, none is cut
  pub none-cut : (p first end : ℕ) → first < end → (ReachesOut (children p) first first end → ⊥) → (ReachesOut (children p) (end - 1) first end → ⊥)
      → cuts_child regions p first end ≡ false
  none-cut p first end some at_first at_last = none_child regions p (λ (r : Region). meets first end r && not (lies_in first end r)) (λ n region e child.
      false_from_ne_true (meets first end region && not (lies_in first end region)) (λ both.
      let parts = and_parts (meets first end region) (not (lies_in first end region)) both in
      let within = ltb-true (max first region.first) (min end (end_of region)) parts.0 in
      elim (cases_lt region.first first) [
        | inl before ↦ at_first (record {
          start = region.first;
          extent = extent_for n region;
          covers = child-covers p n first region e child (omega arith) (omega (arith, within));
          out = inl before;
        })
        | inr from ↦ elim (cases_lt end (end_of region)) [
          | inl behind ↦ at_last (record {
            start = region.first;
            extent = extent_for n region;
            covers = child-covers p n (end - 1) region e child (omega (arith, within)) (omega arith);
            out = inr behind;
          })
          | inr to ↦ both_ways (lies_in first end region) (not-true (lies_in first end region) parts.1)
              (and_from (nat_le first region.first) (nat_le (end_of region) end) (le-leb first region.first from) (le-leb (end_of region) end to))
        ]
      ]))

  -- whether a child is cut, by the children of the first and the last page
  pub cuts-last : (p first end : ℕ) (a b : Bool) → first < end → IsTrue a ↔ ReachesOut (children p) first first end → a ≡ false
      → IsTrue b ↔ ReachesOut (children p) (end - 1) first end → b ≡ cuts_child regions p first end
  cuts-last p first end a true some at_first off at_last = sym (out-cuts p (end - 1) first end (omega (arith, some)) (omega (arith, some)) (at_last.0 refl))
  cuts-last p first end a false some at_first off at_last = sym (none-cut p first end some
      (λ out. both_ways a off (at_first.1 out)) (λ out. let on = at_last.1 out in cc))

  -- ---- free places

  module _ (table : ℕ → ℕ → Option Entry) (name : ℕ) (above : Region) (given : regions name ≡ Some above) where
    pub region-is : region_of regions name ≡ above
    unfolding region_of
    region-is = ap (λ (o : Option Region). unwrap_or o (root_region 0)) given

    pub is_free-is : (first end : ℕ) → is_free (spaces_of regions table) name first end
        ≡ ((nat_lt first end && reaches_over first end above) && not (meets_child regions name first end) && not (has_entry table above.root.0 name first end))
    unfolding is_free
    is_free-is first end =
        ap (λ (r : Region). (nat_lt first end && reaches_over first end r) && not (meets_child regions name first end) && not (has_entry table r.root.0 name first end)) region-is

    -- a free place is one of the region, and it is clear
    pub free-clear : (first count : ℕ) → is_free (spaces_of regions table) name first (first + count) ≡ true
        → (above.first ≤ first) × (first + count ≤ end_of above) × IsClear (children name) table above.root.0 name first count
    free-clear first count free =
        let last = and_parts ((nat_lt first (first + count) && reaches_over first (first + count) above) && not (meets_child regions name first (first + count)))
        (not (has_entry table above.root.0 name first (first + count))) (sym (is_free-is first (first + count)) ∙ free) in
        let third = and_parts (nat_lt first (first + count) && reaches_over first (first + count) above) (not (meets_child regions name first (first + count))) last.0 in
        let second = and_parts (nat_lt first (first + count)) (reaches_over first (first + count) above) third.0 in
        let inside = reaches_over_parts first (first + count) above second.1 in (
          inside.0,
          inside.1,
          record {
            apart = apart-open name first count (not-true (meets_child regions name first (first + count)) third.1);
            bare = not-true (has_entry table above.root.0 name first (first + count)) last.1;
          },
        )

    -- and the other way round
    pub clear-free : (first count : ℕ) → 1 ≤ count → above.first ≤ first → first + count ≤ end_of above → IsClear (children name) table above.root.0 name first count
        → is_free (spaces_of regions table) name first (first + count) ≡ true
    clear-free first count some low high clear =
        is_free-is first (first + count)
        ∙ and_from ((nat_lt first (first + count) && reaches_over first (first + count) above) && not (meets_child regions name first (first + count)))
        (not (has_entry table above.root.0 name first (first + count)))
        (and_from (nat_lt first (first + count) && reaches_over first (first + count) above) (not (meets_child regions name first (first + count)))
        (and_from (nat_lt first (first + count)) (reaches_over first (first + count) above) (lt-ltb first (first + count) (omega arith))
        (reaches_over_from first (first + count) above low high))
        (not_from_false (meets_child regions name first (first + count)) (open-apart name first count clear.apart)))
        (not_from_false (has_entry table above.root.0 name first (first + count)) clear.bare)

    -- where no range is clear up to the limit, or to the end of the region, there is no place
    pub place-none : (count limit end : ℕ) → (above.first + limit ≤ end) ⊎ (end_of above ≤ end)
        → HasNoGap (λ p. IsClear (children name) table above.root.0 name p count) above.first count end → has_place (spaces_of regions table) name count limit ≡ false
    unfolding has_place
    place-none count limit end ends none =
        none_below (end_of (region_of regions name))
        (λ first. nat_le (first + count) ((region_of regions name).first + limit) && is_free (spaces_of regions table) name first (first + count))
        (λ first h. false_from_ne_true (nat_le (first + count) ((region_of regions name).first + limit) && is_free (spaces_of regions table) name first (first + count)) (λ both.
        let parts = and_parts (nat_le (first + count) ((region_of regions name).first + limit)) (is_free (spaces_of regions table) name first (first + count)) both in
        let short = leb-true (first + count) ((region_of regions name).first + limit) parts.0 in
        let begins : (region_of regions name).first ≡ above.first = ap (λ (r : Region). r.first) region-is in
        let free = free-clear first count parts.1 in
        none first free.0 (elim ends [ inl to ↦ omega (arith, short, begins, to) | inr to ↦ omega (arith, free.1, to) ]) free.2))

    -- a range that is clear is a free place
    pub place-some : (count limit end first : ℕ) → 1 ≤ count → end ≤ above.first + limit → end ≤ end_of above
        → IsFirstGap (λ p. IsClear (children name) table above.root.0 name p count) above.first count end first
        → (is_free (spaces_of regions table) name first (first + count) ≡ true) × (first + count ≤ (region_of regions name).first + limit)
    place-some count limit end first some short inside place =
        let begins : (region_of regions name).first ≡ above.first = ap (λ (r : Region). r.first) region-is in
        (clear-free first count some place.not_before (omega (arith, place.not_past)) place.is, omega (arith, begins, place.not_past))

    -- what a search in the region answers
    pub place-is : (count limit end : ℕ) → 1 ≤ count → end_of above < 2 ^ 64 → end ≡ min (min (above.first + limit) (2 ^ 64 - 1)) (end_of above) → (o : Option ℕ)
        → IsFirstGapOrNone (λ p. IsClear (children name) table above.root.0 name p count) above.first count end o
        → MatchOption o (has_place (spaces_of regions table) name count limit ≡ false) (λ (first : ℕ).
        (is_free (spaces_of regions table) name first (first + count) ≡ true) × (first + count ≤ (region_of regions name).first + limit))
    place-is count limit end some few ends None none = place-none count limit end (elim (cases_lt (above.first + limit) (end_of above)) [
      | inl less ↦ inl (omega (arith, less, few, ends))
      | inr more ↦ inr (omega (arith, more, few, ends))
    ]) none
    place-is count limit end some few ends (Some first) place = place-some count limit end first some (omega (arith, ends)) (omega (arith, ends)) place

    -- and no place before it is free
    pub place-lowest : (count end : ℕ) → (o : Option ℕ)
        → IsFirstGapOrNone (λ p. IsClear (children name) table above.root.0 name p count) above.first count end o
        → IfSome o (λ first. (p : ℕ) → p < first → is_free (spaces_of regions table) name p (p + count) ≡ false)
    place-lowest count end None none = tt
    place-lowest count end (Some first) place = λ p low. false_from_ne_true (is_free (spaces_of regions table) name p (p + count)) (λ free.
        let clear = free-clear p count free in
        place.first p clear.0 low clear.2)

    -- ---- whether a place is free

    pub free-not_over : (first end : ℕ) → (nat_lt first end && reaches_over first end above) ≡ false → false ≡ is_free (spaces_of regions table) name first end
    free-not_over first end off =
        sym (is_free-is first end ∙ ap (λ (b : Bool). b && not (meets_child regions name first end) && not (has_entry table above.root.0 name first end)) off)

    pub free-meets : (first end : ℕ) → (nat_lt first end && reaches_over first end above) ≡ true → meets_child regions name first end ≡ true
        → false ≡ is_free (spaces_of regions table) name first end
    free-meets first end over met =
        sym (is_free-is first end ∙ (ap (λ (b : Bool). b && not (meets_child regions name first end) && not (has_entry table above.root.0 name first end)) over
        ∙ ap (λ (b : Bool). not b && not (has_entry table above.root.0 name first end)) met))

    -- where only entries are left to be asked, the gap from the first page on tells
    pub free-gap : (first count : ℕ) → (nat_lt first (first + count) && reaches_over first (first + count) above) ≡ true → meets_child regions name first (first + count) ≡ false
        → (o : Option ℕ) → IsFirstGapOrNone (λ p. has_entry table above.root.0 name p (p + count) ≡ false) first count (first + count) o
        → is_some o ≡ is_free (spaces_of regions table) name first (first + count)
    free-gap first count over off o gap =
        bare o gap
        ∙ sym (is_free-is first (first + count) ∙ (ap (λ (b : Bool). b && not (meets_child regions name first (first + count)) && not (has_entry table above.root.0 name first (first + count))) over
        ∙ ap (λ (b : Bool). not b && not (has_entry table above.root.0 name first (first + count))) off)) where
          bare : (o : Option ℕ) → IsFirstGapOrNone (λ p. has_entry table above.root.0 name p (p + count) ≡ false) first count (first + count) o
              → is_some o ≡ not (has_entry table above.root.0 name first (first + count))
          bare None none = elim (cases_Bool (has_entry table above.root.0 name first (first + count))) [
            | inl has ↦ sym (ap not has)
            | inr free ↦ absurd (none first (omega arith) (omega arith) free)
          ]
          bare (Some p) gap =
              let here : p ≡ first = omega (arith, gap.not_before, gap.not_past) in
              sym (ap not (ap (λ (q : ℕ). has_entry table above.root.0 name q (q + count)) (sym here) ∙ gap.is))
