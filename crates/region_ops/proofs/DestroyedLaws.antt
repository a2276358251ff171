-- The entries of a region that is destroyed and of the regions below it are those on its pages.
use Rattle.std.proofs.Common.{◌≡◌, ℕ, zero, suc, ◌+◌, ◌-◌, ◌<◌, ◌≤◌, true, false, cond, ◌&&◌, ◌==◌, Option, None, Some, refl, sym, ap, ◌∙◌, inl, inr, arith}
use Rattle.std.specs.Prelude.{min, max}
use Rattle.std.proofs.lemmas.Bool.{cases_Bool, and_parts, and_from, or_cases, or_left, both_ways, cond-true, cond-false, false_from_ne_true, ltb-true, eq-eqb}
use Rattle.vm_base.specs.declared.limits.TheConstants.{NAMES}
use Rattle.vm_base.specs.declared.names.RegionName.{RegionName}
use Rattle.vm_base.specs.Entries.{passes}
use Rattle.vm_base.proofs.EntryLaws.{passes-some, passes-none, any_entry_found, some_same}
use Rattle.vm_base.proofs.SearchLaws.{eqb_is, eqb_same}
use Rattle.vm_model.specs.declared.space.Entry.{Entry}
use Rattle.vm_model.specs.declared.space.Region.{Region}
use Rattle.vm_model.specs.Contents.Content.{Content}
use Rattle.vm_model.specs.Contents.Zeroing.{is_within}
use Rattle.vm_model.specs.Space.Regions.{end_of, meets, is_child, meets_child, is_below, is_at_or_below, given_count, AreGoodRegions}
use Rattle.vm_model.specs.Space.Table.{without_regions, IsGoodEntry}
use Rattle.vm_model.specs.Space.AddressSpaces.{Spaces, AreGoodSpaces}
use Rattle.vm_model.proofs.RegionLaws.{region_of-at, reaches_over_parts, lies_in_parts, is_child_parts, at_or_below-closed, root_below}
use Rattle.vm_model.proofs.ZeroingLaws.{is_within-true, is_within-parts}
use Rattle.region_ops.specs.Holders.{HasPage}
use Rattle.region_ops.proofs.BelowLaws.{lies_below}
use Rattle.region_ops.proofs.HolderLaws.{one_holder}

module _ (regions : ℕ → Option Region) (good : AreGoodRegions regions) (name root p holder : ℕ) (holds : HasPage regions root p holder)
    (alone : meets_child regions holder p (p + 1) ≡ false) where
  -- Where a region that is at or below `name` has the page, the holder is at or below `name` too: it is that region, or the same
  -- holds of a live child that has the page
  holder_down : (fuel n : ℕ) → HasPage regions root p n → given_count regions - good.age n < fuel → is_at_or_below regions name n ≡ true → is_at_or_below regions name holder ≡ true
  holder_down zero n has h at = absurd (omega (arith, h))
  holder_down (suc fuel) n has h at = elim (cases_Bool (meets_child regions n p (p + 1))) [
    | inr none ↦ ap (is_at_or_below regions name) (sym (one_holder regions good root p n holder has holds none alone)) ∙ at
    | inl some ↦
        let found = any_entry_found NAMES (λ (r : Region). is_child n r && meets p (p + 1) r) regions some in
        let both = and_parts (is_child n found.1) (meets p (p + 1) found.1) found.4 in
        let child = is_child_parts n found.1 both.0 in
        let up = good.parents found.0 found.1 child.1 found.3 child.2 in
        let same : up.0 ≡ has.region = some_same (sym up.1 ∙ (ap regions child.3 ∙ has.given)) in
        let met = ltb-true (max p found.1.first) (min (p + 1) (end_of found.1)) both.1 in
        let below : HasPage regions root p found.0 = record {
          region = found.1;
          given = found.3;
          live = child.0;
          root_is = ap (λ (r : RegionName). r.0) up.3.root ∙ (ap (λ (r : Region). r.root.0) same ∙ has.root_is);
          low = omega (arith, met);
          high = omega (arith, met);
        } in
        holder_down fuel found.0 below (omega (arith, h, up.2, ap good.age child.3, good.ages found.0 found.1 found.3))
        (at_or_below-closed regions good name found.0 found.1 child.1 found.3 child.2 (ap (is_at_or_below regions name) child.3 ∙ at))
  ]

  -- so the holder of a page of a region is that region or lies below it
  holder_below : HasPage regions root p name → is_at_or_below regions name holder ≡ true
  holder_below has = holder_down (given_count regions - good.age name + 1) name has (omega arith) (or_left (name == name) (is_below regions name name) (eqb_same name))

module _ (c : Content) (spaces : Spaces) (good : AreGoodSpaces c spaces) (name : ℕ) (dying : Region) (given : spaces.regions name ≡ Some dying) (live : dying.live ≡ true) where
  -- what is left of the entries
  abbrev left : ℕ → ℕ → Option Entry
  left = without_regions spaces.table (is_at_or_below spaces.regions name)

  -- the entries on the pages of the region are gone
  pub destroyed-in : (r p : ℕ) → ((r == dying.root.0) && is_within dying.first (dying.first + dying.count) p) ≡ true → left r p ≡ None
  unfolding without_regions
  destroyed-in r p on = go (spaces.table r p) refl where
    go : (o : Option Entry) → spaces.table r p ≡ o → cond (passes (λ (entry : Entry). is_at_or_below spaces.regions name entry.region.0) (spaces.table r p)) None (spaces.table r p) ≡ None
    go None e = cond-false _ _ _ (passes-none (λ (entry : Entry). is_at_or_below spaces.regions name entry.region.0) (spaces.table r p) e) ∙ e
    go (Some entry) e =
        let both = and_parts (r == dying.root.0) (is_within dying.first (dying.first + dying.count) p) on in
        let within = is_within-parts dying.first (dying.first + dying.count) p both.1 in
        let fine = good.entries r p entry e in
        let inside = reaches_over_parts p (p + 1) fine.region fine.inside in
        let holds : HasPage spaces.regions r p entry.region.0 =
        record { region = fine.region; given = fine.given; live = fine.live; root_is = fine.root_is; low = inside.0; high = omega (arith, inside.1) } in
        let has : HasPage spaces.regions r p name =
        record { region = dying; given = given; live = live; root_is = sym (eqb_is r dying.root.0 both.0); low = within.0; high = within.1 } in
        cond-true _ _ _ (passes-some (λ (x : Entry). is_at_or_below spaces.regions name x.region.0) (spaces.table r p) entry e
        ∙ holder_below spaces.regions good.regions name r p entry.region.0 holds fine.alone has)

  -- the entries on other pages stay
  pub destroyed-out : (r p : ℕ) (entry : Entry) → spaces.table r p ≡ Some entry
      → ((r == dying.root.0) && is_within dying.first (dying.first + dying.count) p) ≡ false → left r p ≡ Some entry
  unfolding without_regions
  destroyed-out r p entry e off =
      cond-false _ _ _ (passes-some (λ (x : Entry). is_at_or_below spaces.regions name x.region.0) (spaces.table r p) entry e
      ∙ false_from_ne_true (is_at_or_below spaces.regions name entry.region.0) (λ on.
      elim (or_cases (entry.region.0 == name) (is_below spaces.regions name entry.region.0) on) [
        | inl same ↦
            let it : fine.region ≡ dying = some_same (sym fine.given ∙ (ap spaces.regions (eqb_is entry.region.0 name same) ∙ given)) in
            outside (ap (λ (r : Region). r.root.0) (sym it)) (omega (arith, inside.0, ap (λ (r : Region). r.first) it)) (omega (arith, inside.1, ap end_of it))
        | inr below ↦
            let lies = lies_in_parts dying.first (end_of dying) fine.region (lies_below spaces.regions good.regions name dying given entry.region.0 fine.region fine.given fine.live below) in
            let root = root_below spaces.regions good.regions name entry.region.0 fine.region fine.given below in
            outside (ap (λ (r : Region). r.root.0) (sym (region_of-at spaces.regions name dying given)) ∙ ap (λ (n : RegionName). n.0) (sym root))
            (omega (arith, inside.0, lies.0)) (omega (arith, inside.1, lies.1))
      ])) ∙ e where
        fine : IsGoodEntry spaces.regions r p entry
        fine = good.entries r p entry e

        inside : (fine.region.first ≤ p) × (p + 1 ≤ end_of fine.region)
        inside = reaches_over_parts p (p + 1) fine.region fine.inside

        outside : dying.root.0 ≡ fine.region.root.0 → dying.first ≤ p → p < end_of dying → ⊥
        outside root low high = both_ways ((r == dying.root.0) && is_within dying.first (dying.first + dying.count) p) off
            (and_from (r == dying.root.0) (is_within dying.first (dying.first + dying.count) p) (eq-eqb r dying.root.0 (sym (root ∙ fine.root_is)))
            (is_within-true dying.first (dying.first + dying.count) p low high))
