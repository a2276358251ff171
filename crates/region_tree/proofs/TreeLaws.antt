-- The regions and the extents of their children hang together, as regions come and go.
use Rattle.std.proofs.Common.{◌≡◌, ◌≢◌, ℕ, ◌+◌, ◌<◌, ◌≤◌, Bool, true, false, cond, ◌&&◌, ◌==◌, Option, None, Some, IsSome, is_some, ◌⊎◌, refl, sym, ap, subst, ◌∙◌, inl, inr, arith}
use Rattle.std.specs.Prelude.{⊤}
use Rattle.std.specs.Option.{option_map, MatchOption}
use Rattle.std.proofs.lemmas.Bool.{cases_eq, and_parts, both_ways, false_from_ne_true, cond-true, cond-false}
use Rattle.vm_base.specs.Entries.{passes, with_key}
use Rattle.vm_base.specs.declared.limits.TheConstants.{NAMES, ROOT_END}
use Rattle.vm_base.specs.declared.names.RegionName.{RegionName}
use Rattle.vm_base.proofs.EntryLaws.{passes-some, with_key-same, with_key-here, with_key-other, some_same}
use Rattle.vm_base.proofs.SearchLaws.{eqb_same, eqb_apart, eqb_is}
use Rattle.vm_model.specs.declared.space.Region.{Region}
use Rattle.vm_model.specs.Space.Regions.{region_of, end_of, root_region, region_below, meets, reaches_over, is_child, meets_child, killed, AreGoodRegions}
use Rattle.vm_model.proofs.RegionLaws.{meets_none, reaches_over_parts, is_child_parts, region_of-at, region_bounds, IsFresh, AreGoodRegions-with, with_region-each, still, killed-at, killed-stays, killed-was, is_child-killed, AreGoodRegions-killed}
use Rattle.vm_model.proofs.SpaceLaws.{child_none}
use Rattle.balanced_tree.specs.Rows.{Rows}
use Rattle.balanced_tree.specs.Pairs.{with_pair}
use Rattle.pair_map.specs.declared.pair_row.PairRow.{PairRow}
use Rattle.pair_map.specs.declared.stretch_row.Extent.{Extent}
use Rattle.pair_map.specs.Maps.{values_of}
use Rattle.region_tree.specs.Tree.{regions_of, is_live_region, has_child, with_one_dead, IsWithin, IsChildAt, extent_for}
use Rattle.region_tree.specs.inside.TreeFields.{IsTree}
use Rattle.region_tree.proofs.PlaceLaws.{child_at, apart-open}
use Rattle.region_tree.proofs.BelowLaws.{is_child_from}

-- the number of a name, if there is one
abbrev name_in : Option RegionName → ℕ
name_in None = 0
name_in (Some p) = p.0

-- ---- maps from pairs

module _ {V : Type 0} (map : ℕ → ℕ → Option V) (a b : ℕ) (v : Option V) where
  pair-same : with_pair map a b v a b ≡ v
  unfolding with_pair
  pair-same = cond-true _ _ _ (ap (λ (c : Bool). c && (b == b)) (eqb_same a) ∙ eqb_same b)

  pair-other : (k q : ℕ) → ((k ≡ a) × (q ≡ b) → ⊥) → with_pair map a b v k q ≡ map k q
  unfolding with_pair
  pair-other k q apart = cond-false _ _ _ (false_from_ne_true ((k == a) && (q == b)) (λ both.
      let parts = and_parts (k == a) (q == b) both in
      apart (eqb_is k a parts.0, eqb_is q b parts.1)))

  pair-cases : (k q : ℕ) (o : Option V) → with_pair map a b v k q ≡ o → ((k ≡ a) × (q ≡ b) × (v ≡ o)) ⊎ (((k ≡ a) × (q ≡ b) → ⊥) × (map k q ≡ o))
  pair-cases k q o is = elim (cases_eq k a) [
    | inl first ↦ elim (cases_eq q b) [
      | inl second ↦ inl (first, second, sym pair-same ∙ (sym (ap (with_pair map a b v a) second) ∙ (sym (ap (λ (n : ℕ). with_pair map a b v n q) first) ∙ is)))
      | inr apart ↦ inr (λ both. apart both.1, sym (pair-other k q (λ both. apart both.1)) ∙ is)
    ]
    | inr apart ↦ inr (λ both. apart both.0, sym (pair-other k q (λ both. apart both.0)) ∙ is)
  ]

-- ---- the fields, as they are seen

module _ {was now : Rows (PairRow Region)} (same : was ≡ now) where
  -- a region that is found
  pub given-seen : (n : ℕ) (region : Region) → regions_of was n ≡ Some region → regions_of now n ≡ Some region
  given-seen n region e = ap (λ (t : Rows (PairRow Region)). regions_of t n) (sym same) ∙ e

  -- a name gets another region
  pub put-seen : {between new : ℕ → ℕ → Option Region} (n : ℕ) (region : Region) → between ≡ values_of was → new ≡ with_pair between 0 n (Some region)
      → new 0 ≡ with_key (regions_of now) n region
  unfolding with_pair with_key
  put-seen {between} {new} n region room e =
      ap (λ (m : ℕ → ℕ → Option Region). m 0) e
      ∙ (ap (λ (m : ℕ → ℕ → Option Region). with_key (m 0) n region) room ∙ ap (λ (t : Rows (PairRow Region)). with_key (regions_of t) n region) same)

-- ---- no regions

none-tree : IsTree (λ n. None) (λ p page. None)
none-tree = record {
  good = record {
    age = λ n. 0;
    names = λ n region e. absurd cc;
    ages = λ n region e. absurd cc;
    pages = λ n region e. absurd cc;
    roots = λ n region e f. absurd cc;
    parents = λ n region p e f. absurd cc;
    apart = λ p n m x y e f child other. absurd cc;
  };
  listed = λ p n region e child. absurd cc;
  child = λ p page e is. absurd cc;
}

pub IsTree-none : (regions : ℕ → ℕ → Option Region) (children : ℕ → ℕ → Option (Extent RegionName)) → regions ≡ (λ a b. None) → children ≡ (λ p page. None)
    → IsTree (regions 0) children
IsTree-none regions children no_regions no_children =
    subst (λ (m : ℕ → ℕ → Option Region). IsTree (m 0) children) (sym no_regions) (subst (IsTree (λ n. None)) (sym no_children) none-tree)

-- the same in other words
pub IsTree-same : {regions others : ℕ → Option Region} {children more : ℕ → ℕ → Option (Extent RegionName)} → others ≡ regions → more ≡ children → IsTree regions children → IsTree others more
IsTree-same {regions} {others} {children} {more} e f tree = subst (λ (m : ℕ → Option Region). IsTree m more) (sym e) (subst (IsTree regions) (sym f) tree)

-- ---- a live name

module _ (regions : ℕ → Option Region) where
  pub inside-is : (n first end : ℕ) (region : Region) → regions n ≡ Some region → reaches_over first end (region_of regions n) ≡ true → reaches_over first end region ≡ true
  inside-is n first end region e inside = ap (reaches_over first end) (sym (region_of-at regions n region e)) ∙ inside

  pub live-is : (n : ℕ) (region : Region) → regions n ≡ Some region → is_live_region regions n ≡ region.live
  live-is n region e = passes-some (λ (r : Region). r.live) (regions n) region e

  pub live-none : (n : ℕ) → regions n ≡ None → is_live_region regions n ≡ false
  unfolding passes
  live-none n e = ap (passes (λ (r : Region). r.live)) e

  -- what lies within a region is live
  pub within-live : {above first end n : ℕ} → IsWithin regions above first end n → is_live_region regions n ≡ true
  within-live {above} {first} {end} {n} within = live-is n within.region within.given ∙ within.live

  pub live-found : (n : ℕ) (o : Option Region) (region : Region) → is_live_region regions n ≡ true → o ≡ regions n → o ≡ Some region → region.live ≡ true
  live-found n o region live is some = sym (live-is n region (sym is ∙ some)) ∙ live

  pub live-not_none : (n : ℕ) (o : Option Region) → is_live_region regions n ≡ true → o ≡ regions n → o ≡ None → ⊥
  live-not_none n o live is none = both_ways (is_live_region regions n) (live-none n (sym is ∙ none)) live

module _ (regions : ℕ → Option Region) (children : ℕ → ℕ → Option (Extent RegionName)) (tree : IsTree regions children) where
  -- pages of a live region are pages of the address space
  pub inside-end : (n first end : ℕ) (region : Region) → regions n ≡ Some region → region.live ≡ true → reaches_over first end region ≡ true → end ≤ ROOT_END
  inside-end n first end region e live inside = omega (arith, (reaches_over_parts first end region inside).1, (region_bounds regions tree.good n region e live).0)

  -- so are its own
  pub region-end : (n : ℕ) (region : Region) → regions n ≡ Some region → region.live ≡ true → end_of region ≤ ROOT_END
  region-end n region e live = (region_bounds regions tree.good n region e live).0

  -- ---- one region more

  -- extents that are no other than before stand for children still
  still_child : (n : ℕ) (region : Region) → IsFresh regions n region → (p page : ℕ) (e : Extent RegionName) → children p page ≡ Some e → IsChildAt (with_key regions n region) p page e
  still_child n region fresh p page e is =
      let c = tree.child p page e is in
      record {
        region = c.region;
        given = still regions n region tree.good fresh e.value.0 c.region c.given;
        child = c.child;
        first = c.first;
        count = c.count;
      }

  pub IsTree-root : (n : ℕ) → n < NAMES → regions n ≡ None → IsTree (with_key regions n (root_region n)) children
  IsTree-root n h free = record {
    good = AreGoodRegions-with regions n (root_region n) tree.good fresh;
    listed = λ p. with_region-each regions n (root_region n) tree.good fresh (λ m r. is_child p r ≡ true → children p r.first ≡ Some (extent_for m r))
        (λ child. absurd (no_child p child)) (tree.listed p);
    child = still_child n (root_region n) fresh;
  } where
    no_child : (p : ℕ) → is_child p (root_region n) ≡ true → ⊥
    no_child p child = let found = is_child_parts p (root_region n) child in let none = found.2 in cc

    fresh : IsFresh regions n (root_region n)
    fresh = record {
      free = free;
      name = h;
      pages = omega arith;
      root = λ e. refl;
      parent = λ p e. absurd cc;
      apart = λ p m other e child. absurd (no_child p child);
    }

  -- a region below a live one, where no child of that is
  module _ (n parent first count caps : ℕ) (above : Region) (h : n < NAMES) (free : regions n ≡ None) (given : regions parent ≡ Some above) (live : above.live ≡ true) (some : 1 ≤ count)
      (inside : reaches_over first (first + count) above ≡ true) (off : meets_child regions parent first (first + count) ≡ false) where
    new : Region
    new = region_below parent above first count caps

    parent-is : (p : ℕ) → is_child p (region_below parent above first count caps) ≡ true → p ≡ parent
    parent-is p child =
        let found = is_child_parts p (region_below parent above first count caps) child in
        sym (ap name_in found.2 ∙ found.3)

    fresh-child : IsFresh regions n (region_below parent above first count caps)
    fresh-child = record {
      free = free;
      name = h;
      pages = some;
      root = λ e. absurd cc;
      parent = λ p e.
          let is : parent ≡ p.0 = ap name_in e in
          (above, ap regions (sym is) ∙ given, record { root = refl; live = λ f. live; inside = λ f. inside });
      apart = λ p m other e child child_other.
          let is = parent-is p child in
          let off_other = child_none regions parent (meets first (first + count)) off m other (tree.good.names m other e) e
          (subst (λ (q : ℕ). is_child q other ≡ true) is child_other) in
          meets_none first (first + count) other off_other (omega (arith, some)) (tree.good.pages m other e);
    }

    -- no child begins there
    none_begins : (page : ℕ) (e : Extent RegionName) → page ≡ first → children parent page ≡ Some e → ⊥
    none_begins page e same is =
        let c = tree.child parent page e is in
        let pages = tree.good.pages e.value.0 c.region c.given in
        (apart-open regions children tree parent first count off).free page page e (omega (arith, same)) (omega (arith, same, some))
        (record { is = is; from = omega arith; below = omega (arith, pages, c.count) })

    pub IsTree-child : IsTree (with_key regions n (region_below parent above first count caps))
        (with_pair children parent first (Some (extent_for n (region_below parent above first count caps))))
    IsTree-child = record {
      good = AreGoodRegions-with regions n (region_below parent above first count caps) tree.good fresh-child;
      listed = λ p. with_region-each regions n (region_below parent above first count caps) tree.good fresh-child
          (λ m r. is_child p r ≡ true → with_pair children parent first (Some (extent_for n (region_below parent above first count caps))) p r.first ≡ Some (extent_for m r))
          (λ child. subst (λ (q : ℕ). with_pair children parent first (Some (extent_for n (region_below parent above first count caps))) q first
          ≡ Some (extent_for n (region_below parent above first count caps))) (sym (parent-is p child)) (pair-same children parent first _))
          (λ m r e child.
          let listed = tree.listed p m r e child in
          pair-other children parent first _ p r.first
          (λ both. none_begins r.first (extent_for m r) both.1 (subst (λ (q : ℕ). children q r.first ≡ Some (extent_for m r)) both.0 listed)) ∙ listed);
      child = λ p page e is. elim (pair-cases children parent first _ p page (Some e) is) [
        | inl here ↦
            let same : extent_for n (region_below parent above first count caps) ≡ e = some_same here.2 in
            subst (λ (x : Extent RegionName). IsChildAt (with_key regions n (region_below parent above first count caps)) p page x) same (record {
              region = region_below parent above first count caps;
              given = with_key-same regions n (region_below parent above first count caps);
              child = is_child_from p (region_below parent above first count caps) (record { 0 = parent }) refl refl (sym here.0);
              first = sym here.1;
              count = refl;
            })
        | inr was ↦ still_child n (region_below parent above first count caps) fresh-child p page e was.1
      ];
    }

  -- ---- a region that dies

  module _ (n : ℕ) (dying : Region) (given : regions n ≡ Some dying) where
    -- one that does not die is as it was
    not-killed : (m : ℕ) → m ≢ n → with_one_dead regions n m ≡ regions m
    unfolding killed
    not-killed m apart = at (regions m) where
      at : (o : Option Region) → option_map (λ (r : Region). cond (m == n) (record r { live = false }) r) o ≡ o
      at None = refl
      at (Some region) = ap (λ (b : Bool). Some (cond b (record region { live = false }) region)) (eqb_apart m n apart)

    pub killed-one : with_key regions n (record dying { live = false }) ≡ with_one_dead regions n
    killed-one = λ i m. at m i where
      at : (m : ℕ) → with_key regions n (record dying { live = false }) m ≡ with_one_dead regions n m
      at m = elim (cases_eq m n) [
        | inl same ↦
            let e : regions m ≡ Some dying = ap regions same ∙ given in
            with_key-here regions n (record dying { live = false }) m same
            ∙ sym (killed-at regions (λ k. k == n) m dying e ∙ ap (λ (b : Bool). Some (cond b (record dying { live = false }) dying)) (ap (λ (k : ℕ). k == n) same ∙ eqb_same n))
        | inr apart ↦ with_key-other regions n (record dying { live = false }) m apart ∙ sym (not-killed m apart)
      ]

    module _ (none : has_child regions n ≡ false) where
      -- no region below this one is live
      dies-closed : (m : ℕ) (region : Region) (p : RegionName) → regions m ≡ Some region → region.parent ≡ Some p → region.live ≡ true → (p.0 == n) ≡ true → (m == n) ≡ true
      dies-closed m region p e f live dead =
          let child = child_at regions n (λ (r : Region). true) m region (tree.good.names m region e) e (is_child_from n region p live f (eqb_is p.0 n dead)) refl in
          absurd (both_ways (has_child regions n) none child)

      -- regions stay good where one dies that has no live child
      pub AreGoodRegions-without : AreGoodRegions (with_one_dead regions n)
      AreGoodRegions-without = AreGoodRegions-killed regions (λ m. m == n) tree.good dies-closed

      -- the extents are those that do not stand for it
      record AreWithout (more : ℕ → ℕ → Option (Extent RegionName)) : Type 0 where
        pub keeps : (p page : ℕ) (e : Extent RegionName) → children p page ≡ Some e → e.value.0 ≢ n → more p page ≡ Some e
        pub was : (p page : ℕ) (e : Extent RegionName) → more p page ≡ Some e → (children p page ≡ Some e) × (e.value.0 ≢ n)

      tree-without : (more : ℕ → ℕ → Option (Extent RegionName)) → AreWithout more → IsTree (with_one_dead regions n) more
      tree-without more less = record {
        good = AreGoodRegions-without;
        listed = λ p m region e child.
            let was = killed-was regions (λ k. k == n) m region e in
            let before = is_child-killed regions (λ k. k == n) p m was.0 (subst (λ (r : Region). is_child p r ≡ true) was.2 child) in
            let apart : m ≢ n = λ same. both_ways (m == n) before.1 (ap (λ (k : ℕ). k == n) same ∙ eqb_same n) in
            let same : was.0 ≡ region = some_same (sym (killed-stays regions (λ k. k == n) m was.0 was.1 before.1) ∙ e) in
            subst (λ (r : Region). more p r.first ≡ Some (extent_for m r)) same
            (less.keeps p was.0.first (extent_for m was.0) (tree.listed p m was.0 was.1 before.0) apart);
        child = λ p page e is.
            let was = less.was p page e is in
            let c = tree.child p page e was.0 in
            record {
              region = c.region;
              given = killed-stays regions (λ k. k == n) e.value.0 c.region c.given (eqb_apart e.value.0 n was.1);
              child = c.child;
              first = c.first;
              count = c.count;
            };
      }

      -- an extent that stands for it is at its parent and its first page
      its_extent : (p page : ℕ) (e : Extent RegionName) → children p page ≡ Some e → e.value.0 ≡ n → (is_child p dying ≡ true) × (dying.first ≡ page)
      its_extent p page e is same =
          let c = tree.child p page e is in
          let dies_is : c.region ≡ dying = some_same (sym c.given ∙ (ap regions same ∙ given)) in
          (subst (λ (r : Region). is_child p r ≡ true) dies_is c.child, ap (λ (r : Region). r.first) (sym dies_is) ∙ c.first)

      -- what its parent has for it, if there is a parent
      pub its-place : dying.live ≡ true → (o : Option RegionName) → dying.parent ≡ o → MatchOption o ⊤ (λ p. IsSome (children p.0 dying.first))
      its-place live None f = tt
      its-place live (Some p) f = ap is_some (tree.listed p.0 n dying given (is_child_from p.0 dying p live f refl))

      pub IsTree-without : dying.live ≡ true → (more : ℕ → ℕ → Option (Extent RegionName)) (o : Option RegionName) → dying.parent ≡ o
          → MatchOption o (more ≡ children) (λ p. more ≡ with_pair children p.0 dying.first None) → IsTree (with_one_dead regions n) more
      IsTree-without live more None f same = subst (IsTree (with_one_dead regions n)) (sym same) (tree-without children (record {
        keeps = λ p page e is apart. is;
        was = λ p page e is. (
          is,
          λ its.
              let place = its_extent p page e is its in
              let found = is_child_parts p dying place.0 in
              let none_is : None ≡ Some found.1 = sym f ∙ found.2 in
              cc,
        );
      }))
      IsTree-without live more (Some p) f same = subst (IsTree (with_one_dead regions n)) (sym same) (tree-without (with_pair children p.0 dying.first None) (record {
        keeps = λ q page e is apart.
            pair-other children p.0 dying.first None q page (λ both. apart (
            let listed = tree.listed p.0 n dying given (is_child_from p.0 dying p live f refl) in
            let at : children q page ≡ children p.0 dying.first = ap (λ (k : ℕ). children k page) both.0 ∙ ap (children p.0) both.1 in
            let same_extent : e ≡ extent_for n dying = some_same (sym is ∙ (at ∙ listed)) in
            ap (λ (x : Extent RegionName). x.value.0) same_extent)) ∙ is;
        was = λ q page e is. elim (pair-cases children p.0 dying.first None q page (Some e) is) [
          | inl here ↦ absurd (let none_is = here.2 in cc)
          | inr kept ↦ (
            kept.1,
            λ its.
                let place = its_extent q page e kept.1 its in
                let found = is_child_parts q dying place.0 in
                let up : found.1 ≡ p = some_same (sym found.2 ∙ f) in
                kept.0 (sym found.3 ∙ ap (λ (r : RegionName). r.0) up, sym place.1),
          )
        ];
      }))
