-- Laws of address spaces: entries and regions stay good where a region comes in or dies, and which VMOs are mapped.
use Rattle.std.proofs.Common.{◌≡◌, ℕ, ◌+◌, ◌*◌, ◌<◌, ◌≤◌, Bool, true, false, not, cond, ◌&&◌, Option, None, Some, refl, sym, ap, subst, ◌∙◌, inl, inr, arith, bit_and}
use Rattle.std.specs.Prelude.{nat_lt, min, max, IsSome}
use Rattle.std.proofs.lemmas.Bool.{and_parts, and_cases, both_ways, false_from_ne_true, not-true, ltb-true, eqb-true, eq-eqb}
use Rattle.std.proofs.lemmas.Nat.{and_assoc}
use Rattle.vm_base.specs.Search.{any_below, count_below}
use Rattle.vm_base.specs.Entries.{passes, with_key}
use Rattle.vm_base.specs.declared.limits.TheConstants.{NAMES, ROOT_END}
use Rattle.vm_base.specs.declared.names.RegionName.{RegionName}
use Rattle.vm_base.proofs.EntryLaws.{passes-some, any_entry_none, none_entry, some_same}
use Rattle.vm_base.proofs.SearchLaws.{any_below_at, any_below-count, any_below-sum, sum_below_none, sum_below_le, count_below_none, count_below_le, eqb_same, none_from_at}
use Rattle.vm_model.specs.declared.space.Entry.{Entry}
use Rattle.vm_model.specs.declared.space.Region.{Region}
use Rattle.vm_model.specs.Contents.Content.{Content}
use Rattle.vm_model.specs.Space.Rights.{has, all_rights}
use Rattle.vm_model.specs.Space.Regions.{root_region, region_of, region_below, meets, reaches_over, is_child, any_child, meets_child, is_at_or_below, killed, AreGoodRegions}
use Rattle.vm_model.specs.Space.Table.{without_regions, is_in, has_entry, IsGoodEntry}
use Rattle.vm_model.specs.Space.AddressSpaces.{Spaces, no_spaces, shows, is_mapped, mapped_count, with_region, without_region, AreGoodSpaces}
use Rattle.vm_model.specs.Space.Places.{is_free}
use Rattle.vm_model.proofs.RegionLaws.{meets_none, reaches_over_parts, is_child_parts, region_of-at, region_bounds, IsFresh, AreGoodRegions-with, with_region-each, still, killed-stays, killed-was, is_child-killed, AreGoodRegions-killed, at_or_below-closed}

-- ---- sets of permissions

-- what a part of a set has, the set has
pub has-part : (a b c : ℕ) → has a b ≡ true → has b c ≡ true → has a c ≡ true
has-part a b c outer inner =
    let first = eqb-true (bit_and a b) b outer in
    let second = eqb-true (bit_and b c) c inner in
    eq-eqb (bit_and a c) c (ap (bit_and a) (sym second) ∙ (sym (and_assoc c a b) ∙ (ap (λ (n : ℕ). bit_and n c) first ∙ second)))

-- ---- live children

module _ (regions : ℕ → Option Region) (name : ℕ) (test : Region → Bool) where
  -- where no live child passes, each fails
  pub child_none : any_child regions name test ≡ false → (n : ℕ) (region : Region) → n < NAMES → regions n ≡ Some region → is_child name region ≡ true → test region ≡ false
  child_none off n region h e child =
      elim (and_cases (is_child name region) (test region) (any_entry_none NAMES (λ (r : Region). is_child name r && test r) regions n region off h e)) [
        | inl other ↦ absurd (both_ways (is_child name region) other child)
        | inr fails ↦ fails
      ]

  -- where each fails, none passes
  pub none_child : ((n : ℕ) (region : Region) → regions n ≡ Some region → is_child name region ≡ true → test region ≡ false) → any_child regions name test ≡ false
  none_child each = none_entry NAMES (λ (r : Region). is_child name r && test r) regions (λ n region h e.
      false_from_ne_true (is_child name region && test region) (λ both.
      let parts = and_parts (is_child name region) (test region) both in
      both_ways (test region) (each n region e parts.0) parts.1))

-- ---- one region more

module _ (regions : ℕ → Option Region) (n : ℕ) (region : Region) (good : AreGoodRegions regions) (fresh : IsFresh regions n region) where
  -- an entry stays good where the new region is no child of its region, or has not its page
  pub IsGoodEntry-with : (root p : ℕ) (entry : Entry) → IsGoodEntry regions root p entry → (is_child entry.region.0 region ≡ true → meets p (p + 1) region ≡ false)
      → IsGoodEntry (with_key regions n region) root p entry
  IsGoodEntry-with root p entry fine apart = record {
    region = fine.region;
    given = still regions n region good fresh entry.region.0 fine.region fine.given;
    live = fine.live;
    root_is = fine.root_is;
    inside = fine.inside;
    alone = none_child (with_key regions n region) entry.region.0 (meets p (p + 1))
        (with_region-each regions n region good fresh (λ m r. is_child entry.region.0 r ≡ true → meets p (p + 1) r ≡ false) apart
        (λ m other e child. child_none regions entry.region.0 (meets p (p + 1)) fine.alone m other (good.names m other e) e child));
    allowed = fine.allowed;
  }

-- ---- regions that die

-- an entry stays good where its region does not die
pub IsGoodEntry-killed : (regions : ℕ → Option Region) (dies : ℕ → Bool) (root p : ℕ) (entry : Entry) → AreGoodRegions regions → IsGoodEntry regions root p entry
    → dies entry.region.0 ≡ false → IsGoodEntry (killed regions dies) root p entry
IsGoodEntry-killed regions dies root p entry good fine stays = record {
  region = fine.region;
  given = killed-stays regions dies entry.region.0 fine.region fine.given stays;
  live = fine.live;
  root_is = fine.root_is;
  inside = fine.inside;
  alone = none_child (killed regions dies) entry.region.0 (meets p (p + 1)) (λ n new e child.
      let was = killed-was regions dies n new e in
      let before = is_child-killed regions dies entry.region.0 n was.0 (subst (λ (r : Region). is_child entry.region.0 r ≡ true) was.2 child) in
      subst (λ (r : Region). meets p (p + 1) r ≡ false) (sym was.2)
      (child_none regions entry.region.0 (meets p (p + 1)) fine.alone n was.0 (good.names n was.0 was.1) was.1 before.0));
  allowed = fine.allowed;
}

-- what is left of the entries
pub without_regions-was : (table : ℕ → ℕ → Option Entry) (dies : ℕ → Bool) (root p : ℕ) (entry : Entry) → without_regions table dies root p ≡ Some entry
    → (table root p ≡ Some entry) × (dies entry.region.0 ≡ false)
unfolding without_regions
without_regions-was table dies root p entry e = go (passes (λ (x : Entry). dies x.region.0) (table root p)) refl e where
  go : (b : Bool) → passes (λ (x : Entry). dies x.region.0) (table root p) ≡ b → cond b None (table root p) ≡ Some entry → (table root p ≡ Some entry) × (dies entry.region.0 ≡ false)
  go true f g = absurd cc
  go false f g = (g, sym (passes-some (λ (x : Entry). dies x.region.0) (table root p) entry g) ∙ f)

-- ---- free places

module _ (spaces : Spaces) where
  -- what is_free says, part by part
  pub is_free_parts : (name first end : ℕ) → is_free spaces name first end ≡ true
      → (first < end) × (reaches_over first end (region_of spaces.regions name) ≡ true) × (meets_child spaces.regions name first end ≡ false)
      × (has_entry spaces.table (region_of spaces.regions name).root.0 name first end ≡ false)
  unfolding is_free
  is_free_parts name first end e =
      let last = and_parts (nat_lt first end && reaches_over first end (region_of spaces.regions name) && not (meets_child spaces.regions name first end))
      (not (has_entry spaces.table (region_of spaces.regions name).root.0 name first end)) e in
      let third = and_parts (nat_lt first end && reaches_over first end (region_of spaces.regions name)) (not (meets_child spaces.regions name first end)) last.0 in
      let second = and_parts (nat_lt first end) (reaches_over first end (region_of spaces.regions name)) third.0 in (
        ltb-true first end second.0,
        second.1,
        not-true (meets_child spaces.regions name first end) third.1,
        not-true (has_entry spaces.table (region_of spaces.regions name).root.0 name first end) last.1,
      )

  -- no entry of the region is on a page of a range that has none
  pub no_entry : (root name first end p : ℕ) (entry : Entry) → has_entry spaces.table root name first end ≡ false → first ≤ p → p < end
      → spaces.table root p ≡ Some entry → entry.region.0 ≡ name → ⊥
  unfolding has_entry
  no_entry root name first end p entry off low high e same =
      both_ways _ (none_from_at _ first end p off low high) (passes-some (is_in name) (spaces.table root p) entry e ∙ eq-eqb entry.region.0 name same)

-- ---- the spaces of a machine

-- where no region was given, nothing is wrong
pub AreGoodSpaces-none : (c : Content) → AreGoodSpaces c no_spaces
unfolding no_spaces
AreGoodSpaces-none c = record {
  regions = record {
    age = λ n. 0;
    names = λ n region e. absurd cc;
    ages = λ n region e. absurd cc;
    pages = λ n region e. absurd cc;
    roots = λ n region e f. absurd cc;
    parents = λ n region p e f. absurd cc;
    apart = λ p n m x y e f child other. absurd cc;
  };
  caps = λ n region e. absurd cc;
  entries = λ root p entry e. absurd cc;
  vmos = λ root p entry e. absurd cc;
}

-- a VMO is mapped where some page shows it
pub is_mapped-count : (spaces : Spaces) (v : ℕ) → is_mapped spaces v ≡ nat_lt 0 (mapped_count spaces v)
unfolding is_mapped mapped_count
is_mapped-count spaces v =
    any_below-sum NAMES (λ root. any_below ROOT_END (λ p. passes (shows v) (spaces.table root p))) (λ root. count_below ROOT_END (λ p. passes (shows v) (spaces.table root p)))
    (λ root. any_below-count ROOT_END (λ p. passes (shows v) (spaces.table root p)))

-- no VMO has more such pages than there are pages
pub mapped_count_le : (spaces : Spaces) (v : ℕ) → mapped_count spaces v ≤ NAMES * ROOT_END
unfolding mapped_count
mapped_count_le spaces v =
    sum_below_le NAMES ROOT_END (λ root. count_below ROOT_END (λ p. passes (shows v) (spaces.table root p)))
    (λ root. count_below_le ROOT_END (λ p. passes (shows v) (spaces.table root p)))

-- nothing is mapped where no page has an entry
pub mapped_count-none : (spaces : Spaces) (v : ℕ) → spaces.table ≡ (λ root p. None) → mapped_count spaces v ≡ 0
unfolding mapped_count passes
mapped_count-none spaces v none =
    sum_below_none NAMES (λ root. count_below ROOT_END (λ p. passes (shows v) (spaces.table root p))) (λ root h.
    count_below_none ROOT_END (λ p. passes (shows v) (spaces.table root p)) (λ p k. ap (λ (t : ℕ → ℕ → Option Entry). passes (shows v) (t root p)) none))

module _ (c : Content) (spaces : Spaces) (good : AreGoodSpaces c spaces) where
  -- the VMO of an entry is mapped
  pub is_mapped_at : (root p : ℕ) (entry : Entry) → spaces.table root p ≡ Some entry → is_mapped spaces entry.koid.0 ≡ true
  unfolding is_mapped
  is_mapped_at root p entry e =
      let fine = good.entries root p entry e in
      let bounds = region_bounds spaces.regions good.regions entry.region.0 fine.region fine.given fine.live in
      let inside = reaches_over_parts p (p + 1) fine.region fine.inside in
      let name : root < NAMES = subst (λ (n : ℕ). n < NAMES) fine.root_is bounds.1 in
      any_below_at NAMES root (λ r. any_below ROOT_END (λ q. passes (shows entry.koid.0) (spaces.table r q))) name
      (any_below_at ROOT_END p (λ q. passes (shows entry.koid.0) (spaces.table root q)) (omega (arith, inside.1, bounds.0))
      (passes-some (shows entry.koid.0) (spaces.table root p) entry e ∙ eqb_same entry.koid.0))

  -- another content that has the VMOs of the entries
  pub AreGoodSpaces-over : (d : Content) → ((root p : ℕ) (entry : Entry) → spaces.table root p ≡ Some entry → IsSome (d.count entry.koid.0)) → AreGoodSpaces d spaces
  AreGoodSpaces-over d there = record { regions = good.regions; caps = good.caps; entries = good.entries; vmos = there }

  -- a region that is added, where no entry of its parent is on one of its pages
  pub AreGoodSpaces-with : (n : ℕ) (region : Region) → IsFresh spaces.regions n region → has all_rights region.caps.0 ≡ true
      → ((root p : ℕ) (entry : Entry) → spaces.table root p ≡ Some entry → is_child entry.region.0 region ≡ true → meets p (p + 1) region ≡ false)
      → AreGoodSpaces c (with_region spaces n region)
  AreGoodSpaces-with n region fresh caps apart = record {
    regions = AreGoodRegions-with spaces.regions n region good.regions fresh;
    caps = with_region-each spaces.regions n region good.regions fresh (λ m r. has all_rights r.caps.0 ≡ true) caps good.caps;
    entries = λ root p entry e. IsGoodEntry-with spaces.regions n region good.regions fresh root p entry (good.entries root p entry e) (apart root p entry e);
    vmos = good.vmos;
  }

  -- a root region under a new name
  pub AreGoodSpaces-root : (n : ℕ) → n < NAMES → spaces.regions n ≡ None → AreGoodSpaces c (with_region spaces n (root_region n))
  AreGoodSpaces-root n h free = AreGoodSpaces-with n (root_region n) (record {
    free = free;
    name = h;
    pages = omega arith;
    root = λ e. refl;
    parent = λ p e. absurd cc;
    apart = λ p m other e child. absurd (let found = is_child_parts p (root_region n) child in let none = found.2 in cc);
  }) refl (λ root p entry e child. absurd (let found = is_child_parts entry.region.0 (root_region n) child in let none = found.2 in cc))

  -- a region and all below it die
  pub AreGoodSpaces-without : (name : ℕ) → AreGoodSpaces c (without_region spaces name)
  AreGoodSpaces-without name = record {
    regions = AreGoodRegions-killed spaces.regions (is_at_or_below spaces.regions name) good.regions
        (λ n region p e f live h. at_or_below-closed spaces.regions good.regions name n region p e f h);
    caps = λ n new e.
        let was = killed-was spaces.regions (is_at_or_below spaces.regions name) n new e in
        subst (λ (r : Region). has all_rights r.caps.0 ≡ true) (sym was.2) (good.caps n was.0 was.1);
    entries = λ root p entry e.
        let was = without_regions-was spaces.table (is_at_or_below spaces.regions name) root p entry e in
        IsGoodEntry-killed spaces.regions (is_at_or_below spaces.regions name) root p entry good.regions (good.entries root p entry was.0) was.1;
    vmos = λ root p entry e. good.vmos root p entry (without_regions-was spaces.table (is_at_or_below spaces.regions name) root p entry e).0;
  }

  -- a region in a free place of a live one, which allows no more than that one
  pub AreGoodSpaces-child : (n parent first count caps : ℕ) (above : Region) → n < NAMES → spaces.regions n ≡ None → spaces.regions parent ≡ Some above → above.live ≡ true
      → has above.caps.0 caps ≡ true → is_free spaces parent first (first + count) ≡ true → AreGoodSpaces c (with_region spaces n (region_below parent above first count caps))
  AreGoodSpaces-child n parent first count caps above h free given live allowed place =
      AreGoodSpaces-with n new (record {
        free = free;
        name = h;
        pages = omega (arith, parts.0);
        root = λ e. absurd cc;
        parent = λ p e.
            let is : parent ≡ p.0 = ap name_in e in
            (above, ap spaces.regions (sym is) ∙ given, record { root = refl; live = λ f. live; inside = λ f. inside });
        apart = λ p m other e child child_other.
            let found = is_child_parts p new child in
            let is : parent ≡ p = ap name_in found.2 ∙ found.3 in
            let off = child_none spaces.regions parent (meets first (first + count)) parts.2 m other (good.regions.names m other e) e
            (subst (λ (q : ℕ). is_child q other ≡ true) (sym is) child_other) in
            meets_none first (first + count) other off parts.0 (good.regions.pages m other e);
      }) (has-part all_rights above.caps.0 caps (good.caps parent above given) allowed) entries where
        new : Region
        new = region_below parent above first count caps

        name_in : Option RegionName → ℕ
        name_in None = 0
        name_in (Some p) = p.0

        same : region_of spaces.regions parent ≡ above
        same = region_of-at spaces.regions parent above given

        parts : (first < first + count) × (reaches_over first (first + count) (region_of spaces.regions parent) ≡ true) × (meets_child spaces.regions parent first (first + count) ≡ false)
            × (has_entry spaces.table (region_of spaces.regions parent).root.0 parent first (first + count) ≡ false)
        parts = is_free_parts spaces parent first (first + count) place

        inside : reaches_over first (first + count) above ≡ true
        inside = ap (reaches_over first (first + count)) (sym same) ∙ parts.1

        entries : (root p : ℕ) (entry : Entry) → spaces.table root p ≡ Some entry → is_child entry.region.0 new ≡ true → meets p (p + 1) new ≡ false
        entries root p entry e child = false_from_ne_true (meets p (p + 1) new) (λ meet.
            let found = is_child_parts entry.region.0 new child in
            let is : entry.region.0 ≡ parent = sym (ap name_in found.2 ∙ found.3) in
            let fine = good.entries root p entry e in
            let region_same : fine.region ≡ above = some_same (sym fine.given ∙ (ap spaces.regions is ∙ given)) in
            let root_same : root ≡ (region_of spaces.regions parent).root.0 = sym fine.root_is ∙ ap (λ (r : Region). r.root.0) (region_same ∙ sym same) in
            let within = ltb-true (max p first) (min (p + 1) (first + count)) meet in
            no_entry spaces (region_of spaces.regions parent).root.0 parent first (first + count) p entry parts.3 (omega (arith, within)) (omega (arith, within))
            (ap (λ (r : ℕ). spaces.table r p) (sym root_same) ∙ e) is)
