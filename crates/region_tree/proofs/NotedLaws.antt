-- Places that are noted for the live children of regions: with them the list of a region tells what is free in it. They stay right
-- as regions come and go.
use Rattle.std.proofs.Common.{◌≡◌, ◌≢◌, ℕ, ◌+◌, ◌<◌, ◌≤◌, Bool, true, false, ◌&&◌, ◌==◌, Option, None, Some, is_some, ◌⊎◌, ◌↔◌, IsTrue, refl, sym, ap, subst, ◌∙◌, inl, inr, arith}
use Rattle.std.specs.Prelude.{nat_lt}
use Rattle.std.specs.Option.{MatchOption}
use Rattle.std.proofs.lemmas.Bool.{cases_order, and_parts, both_ways, false_from_ne_true, ltb-true}
use Rattle.vm_base.specs.Entries.{with_key}
use Rattle.vm_base.specs.declared.limits.TheConstants.{NAMES}
use Rattle.vm_base.specs.declared.names.RegionName.{RegionName}
use Rattle.vm_base.proofs.EntryLaws.{with_key-same, with_key-other, some_same}
use Rattle.vm_base.proofs.SearchLaws.{eqb_same, eqb_apart}
use Rattle.vm_model.specs.declared.space.Entry.{Entry}
use Rattle.vm_model.specs.declared.space.Region.{Region}
use Rattle.vm_model.specs.Space.Regions.{end_of, region_below, reaches_over, is_child, meets, meets_child, AreGoodRegions}
use Rattle.vm_model.specs.Space.Places.{is_free}
use Rattle.vm_model.proofs.RegionLaws.{reaches_over_parts, is_child_parts, region_bounds, meets_at, killed-stays, killed-was, is_child-killed}
use Rattle.vm_model.proofs.SpaceLaws.{child_none}
use Rattle.balanced_tree.specs.Pairs.{with_pair}
use Rattle.pair_map.specs.declared.stretch_row.Extent.{Extent}
use Rattle.mapping_set.specs.Pieces.{list_number}
use Rattle.balanced_tree.specs.Gaps.{IsFirstGapOrNone}
use Rattle.mapping_set.specs.Tables.{IsClear, with_place}
use Rattle.mapping_set.proofs.PieceLaws.{list_numbers}
use Rattle.mapping_set.proofs.TableLaws.{with_pair-cases, with_pair-same}
use Rattle.region_tree.specs.Tree.{with_one_dead, spaces_of, extent_for, IsNoted, IsChildIn, AreNoted, IsVacant}
use Rattle.region_tree.specs.inside.TreeFields.{IsTree}
use Rattle.region_tree.proofs.PlaceLaws.{free-clear, clear-free}
use Rattle.region_tree.proofs.BelowLaws.{is_child_from}

-- nothing is noted where there is no region
pub AreNoted-none : (regions : ℕ → Option Region) (places : ℕ → ℕ → Option (Extent RegionName)) → regions ≡ (λ n. None) → places ≡ (λ l p. None) → AreNoted regions places
AreNoted-none regions places no_region no_place = record {
  noted = λ p n region e child. let none = ap (λ (m : ℕ → Option Region). m n) no_region in absurd cc;
  only = λ p root page e few is. let none = ap (λ (m : ℕ → ℕ → Option (Extent RegionName)). m (list_number p root) page) no_place in absurd cc;
}

-- the number of a name, if there is one
abbrev number_in : Option RegionName → ℕ
number_in None = 0
number_in (Some p) = p.0

-- ---- what the list of a region tells

module _ (regions : ℕ → Option Region) (children : ℕ → ℕ → Option (Extent RegionName)) (tree : IsTree regions children)
    (places : ℕ → ℕ → Option (Extent RegionName)) (noted : AreNoted regions places)
    (name : ℕ) (above : Region) (given : regions name ≡ Some above) (live : above.live ≡ true) where
  root_few : above.root.0 < NAMES
  root_few = (region_bounds regions tree.good name above given live).1

  abbrev list : ℕ → Option (Extent RegionName)
  list = places (list_number name above.root.0)

  -- a child is of the address space of its parent
  child_root : (n : ℕ) (region : Region) → regions n ≡ Some region → is_child name region ≡ true → region.root.0 ≡ above.root.0
  child_root n region e child =
      let found = is_child_parts name region child in
      let up = tree.good.parents n region found.1 e found.2 in
      let same : up.0 ≡ above = some_same (sym up.1 ∙ (ap regions found.3 ∙ given)) in
      ap (λ (r : RegionName). r.0) (up.3.root ∙ ap (λ (r : Region). r.root) same)

  -- its list has the extents of its children
  list_at : (page : ℕ) → list page ≡ children name page
  list_at page = by (children name page) refl where
    by : (o : Option (Extent RegionName)) → children name page ≡ o → list page ≡ o
    by (Some e) is =
        let c = tree.child name page e is in
        let note = noted.noted name e.value.0 c.region c.given c.child in
        let root = child_root e.value.0 c.region c.given c.child in
        let at : list page ≡ Some (extent_for e.value.0 c.region) =
        ap (λ n. places (list_number name n) page) (sym root) ∙ (ap (places (list_number name c.region.root.0)) (sym c.first) ∙ note.is) in
        let same : extent_for e.value.0 c.region ≡ e = some_same (sym (ap (λ k. children name k) (sym c.first) ∙ tree.listed name e.value.0 c.region c.given c.child) ∙ is) in
        at ∙ ap Some same
    by None is = none (list page) refl where
      none : (o : Option (Extent RegionName)) → list page ≡ o → o ≡ None
      none None e = refl
      none (Some e) there =
          let c = noted.only name above.root.0 page e root_few there in
          let listed = tree.listed name e.value.0 c.at.region c.at.given c.at.child in
          let here : children name page ≡ Some (extent_for e.value.0 c.at.region) = ap (children name) (sym c.at.first) ∙ listed in
          absurd cc

  pub list_is : list ≡ children name
  list_is = λ i page. list_at page i

  -- what a search in the list answers
  pub clear-place : (table : ℕ → ℕ → Option Entry) (from count limit : ℕ) (o : Option ℕ)
      → IsFirstGapOrNone (λ p. IsClear list table above.root.0 name p count) from count limit o
      → IsFirstGapOrNone (λ p. IsClear (children name) table above.root.0 name p count) from count limit o
  clear-place table from count limit o = subst (λ (m : ℕ → Option (Extent RegionName)). IsFirstGapOrNone (λ p. IsClear m table above.root.0 name p count) from count limit o) list_is

  -- and what a look at it tells of a range in the region
  pub clear-is : (table : ℕ → ℕ → Option Entry) (first count : ℕ) → (nat_lt first (first + count) && reaches_over first (first + count) above) ≡ true
      → (b : Bool) → IsTrue b ↔ IsClear list table above.root.0 name first count → b ≡ is_free (spaces_of regions table) name first (first + count)
  clear-is table first count over true iff =
      let both = and_parts (nat_lt first (first + count)) (reaches_over first (first + count) above) over in
      let inside = reaches_over_parts first (first + count) above both.1 in
      let some = ltb-true first (first + count) both.0 in
      sym (clear-free regions children tree table name above given first count (omega (arith, some)) inside.0 inside.1
      (subst (λ (m : ℕ → Option (Extent RegionName)). IsClear m table above.root.0 name first count) list_is (iff.0 refl)))
  clear-is table first count over false iff =
      sym (false_from_ne_true (is_free (spaces_of regions table) name first (first + count)) (λ free.
      let clear = (free-clear regions children tree table name above given first count free).2 in
      let on = iff.1 (subst (λ (m : ℕ → Option (Extent RegionName)). IsClear m table above.root.0 name first count) (sym list_is) clear) in
      cc))

-- ---- a region comes

module _ (regions : ℕ → Option Region) (places : ℕ → ℕ → Option (Extent RegionName)) (noted : AreNoted regions places)
    (n : ℕ) (free : regions n ≡ None) where
  -- a region that was given is another one
  other_name : (m : ℕ) (region : Region) → regions m ≡ Some region → m ≢ n
  other_name m region e same = let here : regions n ≡ Some region = ap regions (sym same) ∙ e in absurd cc

  still_in : (region : Region) (p root page : ℕ) (e : Extent RegionName) → IsChildIn regions p root page e → IsChildIn (with_key regions n region) p root page e
  still_in region p root page e c = record {
    at = record {
      region = c.at.region;
      given = with_key-other regions n region e.value.0 (other_name e.value.0 c.at.region c.at.given) ∙ c.at.given;
      child = c.at.child;
      first = c.at.first;
      count = c.at.count;
    };
    root_is = c.root_is;
  }

  -- which region stands there now
  which : (region : Region) (m : ℕ) (r : Region) → with_key regions n region m ≡ Some r → ((m ≡ n) × (region ≡ r)) ⊎ (regions m ≡ Some r)
  which region m r e = elim (cases_order m n) [
    | inl same ↦ inl (same, some_same (sym (ap (with_key regions n region) same ∙ with_key-same regions n region) ∙ e))
    | inr (inl less) ↦ inr (sym (with_key-other regions n region m (λ same. omega arith)) ∙ e)
    | inr (inr more) ↦ inr (sym (with_key-other regions n region m (λ same. omega arith)) ∙ e)
  ]

  -- one without a parent is noted nowhere
  pub AreNoted-root : (region : Region) → region.parent ≡ None → AreNoted (with_key regions n region) places
  AreNoted-root region root = record {
    noted = λ p m r e child. elim (which region m r e) [
      | inl new ↦
          let found = is_child_parts p r child in
          let none : r.parent ≡ None = ap (λ (x : Region). x.parent) (sym new.1) ∙ root in
          absurd cc
      | inr old ↦ noted.noted p m r old child
    ];
    only = λ p r page e few is. still_in region p r page e (noted.only p r page e few is);
  }

  -- one below a live region is noted in it
  module _ (parent first count caps : ℕ) (above : Region) (few : above.root.0 < NAMES) (apart : (e : Extent RegionName) → places (list_number parent above.root.0) first ≡ Some e → ⊥) where
    abbrev new : Region
    new = region_below parent above first count caps

    abbrev more : ℕ → ℕ → Option (Extent RegionName)
    more = with_place places (list_number parent above.root.0) first count (record { 0 = n })

    pub AreNoted-child : AreNoted (with_key regions n new) more
    AreNoted-child = record {
      noted = λ p m r e child. elim (which new m r e) [
        | inl here ↦
            let child_new = subst (λ (x : Region). is_child p x ≡ true) (sym here.1) child in
            let found = is_child_parts p new child_new in
            let up : parent ≡ p = ap number_in found.2 ∙ found.3 in
            subst (λ (x : Region). IsNoted more p m x) here.1 (subst (λ (k : ℕ). IsNoted more p k new) (sym here.0) (record {
              root = few;
              is = with_pair-same places (list_number parent above.root.0) first (Some (record { count = count; value = record { 0 = n } })) (list_number p above.root.0) first (ap (λ k. list_number k above.root.0) (sym up)) refl;
            }))
        | inr old ↦
            let was = noted.noted p m r old child in
            record {
              root = was.root;
              is = elim (with_pair-cases places (list_number parent above.root.0) first (Some (record { count = count; value = record { 0 = n } })) (list_number p r.root.0) r.first) [
                | inl here ↦ absurd (apart (extent_for m r) (ap (λ k. places k first) (sym here.0) ∙ (ap (places (list_number p r.root.0)) (sym here.1) ∙ was.is)))
                | inr other ↦ other.1 ∙ was.is
              ];
            }
      ];
      only = λ p r page e few_r is. elim (with_pair-cases places (list_number parent above.root.0) first (Some (record { count = count; value = record { 0 = n } })) (list_number p r) page) [
        | inl here ↦
            let same = list_numbers p parent r above.root.0 few_r few here.0 in
            let extent : extent_for n new ≡ e = some_same (sym here.2 ∙ is) in
            subst (λ (x : Extent RegionName). IsChildIn (with_key regions n new) p r page x) extent (record {
              at = record {
                region = new;
                given = with_key-same regions n new;
                child = is_child_from p new (record { 0 = parent }) refl refl (sym same.0);
                first = sym here.1;
                count = refl;
              };
              root_is = sym same.1;
            })
        | inr old ↦ still_in new p r page e (noted.only p r page e few_r (sym old.1 ∙ is))
      ];
    }

-- ---- a region goes

module _ (regions : ℕ → Option Region) (places : ℕ → ℕ → Option (Extent RegionName)) (noted : AreNoted regions places)
    (n : ℕ) (dying : Region) (given : regions n ≡ Some dying) (live : dying.live ≡ true) where
  -- the places, without its own
  record AreWithout (more : ℕ → ℕ → Option (Extent RegionName)) : Type 0 where
    pub keeps : (p m : ℕ) (region : Region) → regions m ≡ Some region → is_child p region ≡ true → m ≢ n → IsNoted places p m region → IsNoted more p m region
    pub was : (p root page : ℕ) (e : Extent RegionName) → root < NAMES → more (list_number p root) page ≡ Some e → (places (list_number p root) page ≡ Some e) × (e.value.0 ≢ n)

  noted-without : (more : ℕ → ℕ → Option (Extent RegionName)) → AreWithout more → AreNoted (with_one_dead regions n) more
  noted-without more less = record {
    noted = λ p m region e child.
        let was = killed-was regions (λ k. k == n) m region e in
        let before = is_child-killed regions (λ k. k == n) p m was.0 (subst (λ (r : Region). is_child p r ≡ true) was.2 child) in
        let apart : m ≢ n = λ same. both_ways (m == n) before.1 (ap (λ (k : ℕ). k == n) same ∙ eqb_same n) in
        let same : was.0 ≡ region = some_same (sym (killed-stays regions (λ k. k == n) m was.0 was.1 before.1) ∙ e) in
        subst (λ (r : Region). IsNoted more p m r) same
        (less.keeps p m was.0 was.1 before.0 apart (noted.noted p m was.0 was.1 before.0));
    only = λ p root page e few is.
        let was = less.was p root page e few is in
        let c = noted.only p root page e few was.0 in
        record {
          at = record {
            region = c.at.region;
            given = killed-stays regions (λ k. k == n) e.value.0 c.at.region c.at.given (eqb_apart e.value.0 n was.1);
            child = c.at.child;
            first = c.at.first;
            count = c.at.count;
          };
          root_is = c.root_is;
        };
  }

  -- a place that stands for it is at its parent and its first page
  its_place : (p root page : ℕ) (e : Extent RegionName) → root < NAMES → places (list_number p root) page ≡ Some e → e.value.0 ≡ n
      → (is_child p dying ≡ true) × (dying.first ≡ page) × (dying.root.0 ≡ root)
  its_place p root page e few is same =
      let c = noted.only p root page e few is in
      let dies_is : c.at.region ≡ dying = some_same (sym c.at.given ∙ (ap regions same ∙ given)) in (
        subst (λ (r : Region). is_child p r ≡ true) dies_is c.at.child,
        ap (λ (r : Region). r.first) (sym dies_is) ∙ c.at.first,
        ap (λ (r : Region). r.root.0) (sym dies_is) ∙ c.root_is,
      )

  -- a root region has no place
  pub AreNoted-dead_root : dying.parent ≡ None → AreNoted (with_one_dead regions n) places
  AreNoted-dead_root root = noted-without places (record {
    keeps = λ p m region e child apart note. note;
    was = λ p r page e few is. (
      is,
      λ its.
          let place = its_place p r page e few is its in
          let found = is_child_parts p dying place.0 in
          let none_is : None ≡ Some found.1 = sym root ∙ found.2 in
          cc,
    );
  })

  -- another one has one in its parent
  pub AreNoted-dead : (parent : RegionName) → dying.parent ≡ Some parent → AreNoted (with_one_dead regions n) (with_pair places (list_number parent.0 dying.root.0) dying.first None)
  AreNoted-dead parent up = noted-without (with_pair places (list_number parent.0 dying.root.0) dying.first None) (record {
    keeps = λ p m region e child apart note. record {
      root = note.root;
      is = elim (with_pair-cases places (list_number parent.0 dying.root.0) dying.first None (list_number p region.root.0) region.first) [
        | inl here ↦
            let mine = own.is in
            let at : places (list_number p region.root.0) region.first ≡ places (list_number parent.0 dying.root.0) dying.first = ap (λ k. places k region.first) here.0 ∙ ap (places (list_number parent.0 dying.root.0)) here.1 in
            let same : extent_for m region ≡ extent_for n dying = some_same (sym note.is ∙ (at ∙ mine)) in
            absurd (apart (ap (λ (x : Extent RegionName). x.value.0) same))
        | inr other ↦ other.1 ∙ note.is
      ];
    };
    was = λ p root page e few is. elim (with_pair-cases places (list_number parent.0 dying.root.0) dying.first None (list_number p root) page) [
      | inl here ↦ absurd (let none = here.2 in cc)
      | inr other ↦ (
        sym other.1 ∙ is,
        λ its.
            let place = its_place p root page e few (sym other.1 ∙ is) its in
            let found = is_child_parts p dying place.0 in
            let parent_is : parent.0 ≡ p = ap number_in (sym up ∙ found.2) ∙ found.3 in
            other.0 (ap (λ k. list_number k root) (sym parent_is) ∙ ap (list_number parent.0) (sym place.2)) (sym place.1),
      )
    ];
  }) where
    own : IsNoted places parent.0 n dying
    own = noted.noted parent.0 n dying given (is_child_from parent.0 dying parent live up refl)

  -- what is taken back of its place, if it has one
  pub AreNoted-less : (more : ℕ → ℕ → Option (Extent RegionName)) (o : Option RegionName) → dying.parent ≡ o
      → MatchOption o (more ≡ places) (λ parent. more ≡ with_pair places (list_number parent.0 dying.root.0) dying.first None) → AreNoted (with_one_dead regions n) more
  AreNoted-less more None up same = subst (AreNoted (with_one_dead regions n)) (sym same) (AreNoted-dead_root up)
  AreNoted-less more (Some parent) up same = subst (AreNoted (with_one_dead regions n)) (sym same) (AreNoted-dead parent up)

-- a region dies, and its place is taken back
pub AreNoted-gone : (was now : ℕ → Option Region) (places more : ℕ → ℕ → Option (Extent RegionName)) (n : ℕ) (dying : Region) → was n ≡ Some dying → dying.live ≡ true → now ≡ with_one_dead was n
    → AreNoted was places → MatchOption dying.parent (more ≡ places) (λ parent. more ≡ with_pair places (list_number parent.0 dying.root.0) dying.first None)
    → AreNoted now more
AreNoted-gone was now places more n dying given live dead noted less =
    subst (λ (m : ℕ → Option Region). AreNoted m more) (sym dead) (AreNoted-less was places noted n dying given live more dying.parent refl less)

-- ---- a range that meets no live child

module _ (regions : ℕ → Option Region) (good : AreGoodRegions regions) (places : ℕ → ℕ → Option (Extent RegionName)) (noted : AreNoted regions places)
    (parent root first count : ℕ) (few : root < NAMES) (off : meets_child regions parent first (first + count) ≡ false) where
  pub apart-vacant : IsVacant places root parent first count
  apart-vacant = record {
    free = λ q page e from below covers.
        let c = (noted.only parent root page e few covers.is).at in
        let low : c.region.first ≤ q = omega (arith, covers.from, c.first) in
        let high : q < end_of c.region = omega (arith, covers.below, c.first, c.count) in
        both_ways (meets first (first + count) c.region)
        (child_none regions parent (meets first (first + count)) off e.value.0 c.region (good.names e.value.0 c.region c.given) c.given c.child)
        (meets_at first (first + count) q c.region from below low high);
  }

  -- so nothing is noted at its first page
  pub apart-none : 1 ≤ count → (e : Extent RegionName) → places (list_number parent root) first ≡ Some e → ⊥
  apart-none some e is =
      let c = (noted.only parent root first e few is).at in
      let pages = good.pages e.value.0 c.region c.given in
      let many = c.count in
      apart-vacant.free first first e (omega arith) (omega arith) (record { is = is; from = omega arith; below = omega arith })

-- a region that was allocated there is noted
pub AreNoted-allocated : (regions regions_new : ℕ → Option Region) → AreGoodRegions regions → (places places_new : ℕ → ℕ → Option (Extent RegionName)) → AreNoted regions places
    → (n parent first count caps : ℕ) (above : Region) → above.root.0 < NAMES → meets_child regions parent first (first + count) ≡ false → 1 ≤ count → regions n ≡ None
    → regions_new ≡ with_key regions n (region_below parent above first count caps) → places_new ≡ with_place places (list_number parent above.root.0) first count (record { 0 = n }) → AreNoted regions_new places_new
AreNoted-allocated regions regions_new good places places_new noted n parent first count caps above few off some free is more_is =
    subst (λ (m : ℕ → Option Region). AreNoted m places_new) (sym is) (subst (AreNoted (with_key regions n (region_below parent above first count caps))) (sym more_is)
    (AreNoted-child regions places noted n free parent first count caps above few (apart-none regions good places noted parent above.root.0 first count few off some)))

-- a look-up that finds nothing
pub none_given : (o : Option Region) → is_some o ≡ false → o ≡ None
none_given None off = refl
none_given (Some region) off = absurd cc
