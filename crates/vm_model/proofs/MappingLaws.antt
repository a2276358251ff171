-- Laws of mappings: where one may be made, and address spaces stay good where pages are mapped, unmapped and protected.
use Rattle.std.proofs.Common.{◌≡◌, ℕ, zero, suc, ◌+◌, ◌-◌, ◌*◌, ◌/◌, ◌%◌, ◌<◌, ◌≤◌, Bool, true, false, not, cond, ◌&&◌, ◌||◌, ◌==◌, Option, None, Some, ◌⊎◌, refl, sym, ap, subst, ◌∙◌, inl, inr, arith, bit_and}
use Rattle.std.specs.Prelude.{nat_lt, min, max, IsSome}
use Rattle.std.specs.Option.{option_map}
use Rattle.std.proofs.lemmas.Bool.{cases_Bool, and_parts, and_from, and_cases, or_parts, both_ways, false_from_ne_true, not-false, not_from_false, cond-true, cond-false, or_right, ltb-true, ltb-false, eqb-true}
use Rattle.std.proofs.lemmas.Nat.{and_le_l}
use Rattle.vm_base.specs.Pages.{rounded}
use Rattle.vm_base.specs.Search.{any_below}
use Rattle.vm_base.specs.Entries.{passes}
use Rattle.vm_base.specs.declared.limits.TheConstants.{PAGE, NAMES, ROOT_END}
use Rattle.vm_base.specs.declared.names.RegionName.{RegionName}
use Rattle.vm_base.specs.declared.flags.Perm.{Perm}
use Rattle.vm_base.proofs.SearchLaws.{any_below_at, any_below_same, eqb_is, none_from_at}
use Rattle.vm_base.proofs.EntryLaws.{passes-some, some_same}
use Rattle.vm_model.specs.declared.names.Target.{Target}
use Rattle.vm_model.specs.declared.space.Entry.{Entry}
use Rattle.vm_model.specs.declared.space.Region.{Region}
use Rattle.vm_model.specs.Contents.Content.{Content}
use Rattle.vm_model.specs.Contents.Zeroing.{is_within}
use Rattle.vm_model.specs.Space.Rights.{has, all_rights, writing}
use Rattle.vm_model.specs.Space.Regions.{end_of, region_of, meets, lies_in, reaches_over, meets_child, is_below, AreGoodRegions}
use Rattle.vm_model.specs.Space.Table.{entry_behind, mapping_from, with_pages, with_perm, IsGoodEntry}
use Rattle.vm_model.specs.Space.AddressSpaces.{Spaces, shows, is_mapped, AreGoodSpaces}
use Rattle.vm_model.specs.Space.Places.{is_misplaced}
use Rattle.vm_model.specs.Space.Mappings.{lacks_reading, cap_of, with_mapping, IsMapPlace, is_mismapped, lies_below_in, unmapped, protected, forbids}
use Rattle.vm_model.proofs.RegionLaws.{region_of-at, meets_at, reaches_over_parts, reaches_over_from, killed-was, AreGoodRegions-killed, is_below-step, root_below, lies_in_parts, lies_in_from}
use Rattle.vm_model.proofs.SpaceLaws.{child_none, none_child, is_free_parts, IsGoodEntry-killed}
use Rattle.vm_model.proofs.TableLaws.{with_pages-was}

-- ---- what an entry may be changed to

-- a set of named permissions that has another, which does not write, has it still without writing
named_bad : ℕ → ℕ → Bool
named_bad caps perm = has caps writing && (has caps perm && (not (has perm writing) && not (has (caps - writing) perm)))

none_bad : any_below 8 (λ caps. any_below 8 (named_bad caps)) ≡ false
unfolding any_below named_bad
none_bad = refl

has-without_writing : (caps perm : ℕ) → has all_rights caps ≡ true → has caps writing ≡ true → has caps perm ≡ true → has perm writing ≡ false → has (caps - writing) perm ≡ true
unfolding named_bad
has-without_writing caps perm named writes allowed off =
    let few : caps ≤ 7 = let le = and_le_l 7 caps in let is = eqb-true (bit_and 7 caps) caps named in omega (arith, le, is) in
    let fewer : perm ≤ caps = let le = and_le_l caps perm in let is = eqb-true (bit_and caps perm) perm allowed in omega (arith, le, is) in
    not-false (has (caps - writing) perm) (false_from_ne_true (not (has (caps - writing) perm)) (λ bad.
    both_ways (any_below 8 (λ c. any_below 8 (named_bad c))) none_bad
    (any_below_at 8 caps (λ c. any_below 8 (named_bad c)) (omega (arith, few))
    (any_below_at 8 perm (named_bad caps) (omega (arith, few, fewer))
    (and_from (has caps writing) (has caps perm && (not (has perm writing) && not (has (caps - writing) perm))) writes
    (and_from (has caps perm) (not (has perm writing) && not (has (caps - writing) perm)) allowed
    (and_from (not (has perm writing)) (not (has (caps - writing) perm)) (not_from_false (has perm writing) off) bad)))))))

-- what a mapping may do is within what its entries may be changed to, where its region and the VMO's name allow it
pub cap_of-has : (region : Region) (target : Target) (perm : ℕ) → has all_rights region.caps.0 ≡ true
    → (not (has region.caps.0 perm) || (has perm writing && not target.may_write)) ≡ false → has (cap_of region target) perm ≡ true
cap_of-has region target perm named off =
    let parts = or_parts (not (has region.caps.0 perm)) (has perm writing && not target.may_write) off in
    let allowed = not-false (has region.caps.0 perm) parts.0 in
    go target.may_write (has region.caps.0 writing) refl allowed parts.1 where
      go : (may writes : Bool) → has region.caps.0 writing ≡ writes → has region.caps.0 perm ≡ true → (has perm writing && not may) ≡ false
          → has (cond (may || not writes) region.caps.0 (region.caps.0 - writing)) perm ≡ true
      go true writes e allowed no_write = allowed
      go false false e allowed no_write = allowed
      go false true e allowed no_write =
          has-without_writing region.caps.0 perm named e allowed (elim (and_cases (has perm writing) true no_write) [ inl off ↦ off | inr none ↦ absurd cc ])

-- ---- children and parts of a range

-- where no live child has a page of a range, none has a page of a part of it
pub meets_child-part : (regions : ℕ → Option Region) (name first end p : ℕ) → AreGoodRegions regions → meets_child regions name first end ≡ false → first ≤ p → p < end
    → meets_child regions name p (p + 1) ≡ false
meets_child-part regions name first end p good off low high = none_child regions name (meets p (p + 1)) (λ n region e child.
    let none = child_none regions name (meets first end) off n region (good.names n region e) e child in
    false_from_ne_true (meets p (p + 1) region) (λ meet.
    let within = ltb-true (max p region.first) (min (p + 1) (end_of region)) meet in
    both_ways (meets first end region) none (meets_at first end p region low high (omega (arith, within)) (omega (arith, within)))))

-- ---- where a mapping is made

-- pages from an offset on lie in a region where their bytes do
pages_inside : (region : Region) (offset len : ℕ) → offset % PAGE ≡ 0 → offset + rounded len ≤ region.count * PAGE
    → reaches_over (region.first + offset / PAGE) (region.first + offset / PAGE + rounded len / PAGE) region ≡ true
pages_inside region offset len aligned inside =
    reaches_over_from (region.first + offset / PAGE) (region.first + offset / PAGE + rounded len / PAGE) region (omega arith) (omega (arith, aligned, inside))

-- what is_mismapped says, part by part
pub record IsMappedRightly (spaces : Spaces) (name : ℕ) (overwriting fixed limited : Bool) (offset vmo_offset len perm : ℕ) : Type 0 where
  pub placed : is_misplaced (region_of spaces.regions name) (fixed || overwriting) limited offset len ≡ false
  pub aligned : vmo_offset % PAGE ≡ 0
  pub one_way : (fixed && overwriting) ≡ false
  pub childless : overwriting ≡ true → meets_child spaces.regions name ((region_of spaces.regions name).first + offset / PAGE) ((region_of spaces.regions name).first + offset / PAGE + rounded len / PAGE) ≡ false
  pub readable : lacks_reading perm ≡ false

pub mismapped_parts : (spaces : Spaces) (name : ℕ) (overwriting fixed limited : Bool) (offset vmo_offset len perm : ℕ)
    → is_mismapped spaces name overwriting fixed limited offset vmo_offset len perm ≡ false → IsMappedRightly spaces name overwriting fixed limited offset vmo_offset len perm
mismapped_parts spaces name overwriting fixed limited offset vmo_offset len perm off =
    let region = region_of spaces.regions name in
    let first = region.first + offset / PAGE in
    let over = overwriting && meets_child spaces.regions name first (first + rounded len / PAGE) in
    let a = or_parts (is_misplaced region (fixed || overwriting) limited offset len) (not (vmo_offset % PAGE == 0) || ((fixed && overwriting) || (over || lacks_reading perm))) off in
    let b = or_parts (not (vmo_offset % PAGE == 0)) ((fixed && overwriting) || (over || lacks_reading perm)) a.1 in
    let d = or_parts (fixed && overwriting) (over || lacks_reading perm) b.1 in
    let e = or_parts over (lacks_reading perm) d.1 in
    record {
      placed = a.0;
      aligned = eqb-true (vmo_offset % PAGE) 0 (not-false (vmo_offset % PAGE == 0) b.0);
      one_way = d.0;
      childless = λ is. elim (and_cases overwriting (meets_child spaces.regions name first (first + rounded len / PAGE)) e.0) [ inl none ↦ absurd (both_ways overwriting none is) | inr clear ↦ clear ];
      readable = e.1;
    }

-- what is_misplaced says, part by part
pub record IsPlacedRightly (region : Region) (fixed limited : Bool) (offset len : ℕ) : Type 0 where
  pub aligned : offset % PAGE ≡ 0
  pub some : 1 ≤ len
  pub one_way : (fixed && limited) ≡ false
  pub anywhere : (not fixed && (not limited && not (offset == 0))) ≡ false
  pub inside : fixed ≡ true → offset + rounded len ≤ region.count * PAGE

pub misplaced_parts : (region : Region) (fixed limited : Bool) (offset len : ℕ) → is_misplaced region fixed limited offset len ≡ false → IsPlacedRightly region fixed limited offset len
misplaced_parts region fixed limited offset len off =
    let far = fixed && nat_lt (region.count * PAGE) (offset + rounded len) in
    let anywhere = not fixed && (not limited && not (offset == 0)) in
    let a = or_parts (not (offset % PAGE == 0)) (len == 0 || ((fixed && limited) || (anywhere || far))) off in
    let b = or_parts (len == 0) ((fixed && limited) || (anywhere || far)) a.1 in
    let d = or_parts (fixed && limited) (anywhere || far) b.1 in
    let e = or_parts anywhere far d.1 in
    record {
      aligned = eqb-true (offset % PAGE) 0 (not-false (offset % PAGE == 0) a.0);
      some = some_byte b.0;
      one_way = d.0;
      anywhere = e.0;
      inside = λ is. elim (and_cases fixed (nat_lt (region.count * PAGE) (offset + rounded len)) e.1) [
        | inl none ↦ absurd (both_ways fixed none is)
        | inr near ↦ ltb-false (region.count * PAGE) (offset + rounded len) near
      ];
    } where
      some_byte : (len == 0) ≡ false → 1 ≤ len
      some_byte e = elim (cases_zero len) [ inl none ↦ absurd (both_ways (len == 0) e (ap (λ (n : ℕ). n == 0) none)) | inr some ↦ some ] where
        cases_zero : (n : ℕ) → (n ≡ 0) ⊎ (1 ≤ n)
        cases_zero zero = inl refl
        cases_zero (suc n) = inr (omega arith)

-- a place of a mapping: its pages are pages of the region, and no live child of it has one
pub map_place : (spaces : Spaces) (name : ℕ) (overwriting fixed limited : Bool) (offset vmo_offset len perm first : ℕ)
    → IsMappedRightly spaces name overwriting fixed limited offset vmo_offset len perm
    → IsMapPlace spaces name overwriting fixed limited offset (rounded len / PAGE) first
    → (reaches_over first (first + rounded len / PAGE) (region_of spaces.regions name) ≡ true) × (meets_child spaces.regions name first (first + rounded len / PAGE) ≡ false)
map_place spaces name overwriting fixed limited offset vmo_offset len perm first right place = go overwriting refl where
  go : (b : Bool) → overwriting ≡ b
      → (reaches_over first (first + rounded len / PAGE) (region_of spaces.regions name) ≡ true) × (meets_child spaces.regions name first (first + rounded len / PAGE) ≡ false)
  go false e = let parts = is_free_parts spaces name first (first + rounded len / PAGE) (place.free e).free in (parts.1, parts.2)
  go true e =
      let at = place.over e in
      let placed = misplaced_parts (region_of spaces.regions name) (fixed || overwriting) limited offset len right.placed in
      let is_fixed : (fixed || overwriting) ≡ true = ap (λ (b : Bool). fixed || b) e ∙ or_true fixed in (
        subst (λ (n : ℕ). reaches_over n (n + rounded len / PAGE) (region_of spaces.regions name) ≡ true) (sym at)
            (pages_inside (region_of spaces.regions name) offset len placed.aligned (placed.inside is_fixed)),
        subst (λ (n : ℕ). meets_child spaces.regions name n (n + rounded len / PAGE) ≡ false) (sym at) (right.childless e),
      ) where
        or_true : (b : Bool) → (b || true) ≡ true
        or_true true = refl
        or_true false = refl

-- ---- ranges of entries

-- where no entry of a range forbids the permissions, each may be changed to them
pub not_forbidden : (entries : ℕ → Option Entry) (perm first end p : ℕ) (entry : Entry) → forbids entries perm first end ≡ false → first ≤ p → p < end → entries p ≡ Some entry
    → has entry.cap.0 perm ≡ true
unfolding forbids
not_forbidden entries perm first end p entry off low high e =
    not-false (has entry.cap.0 perm)
    (sym (passes-some (λ (x : Entry). not (has x.cap.0 perm)) (entries p) entry e) ∙ none_from_at _ first end p off low high)

-- the entry that had other permissions
perm_was : (perm : Perm) (entries : ℕ → Option Entry) (p : ℕ) (new : Entry) → with_perm perm entries p ≡ Some new
    → (old : Entry) × (entries p ≡ Some old) × (new ≡ record old { perm = perm })
perm_was perm entries p new e = go (entries p) refl e where
  go : (o : Option Entry) → entries p ≡ o → option_map (λ (entry : Entry). record entry { perm = perm }) o ≡ Some new
      → (old : Entry) × (entries p ≡ Some old) × (new ≡ record old { perm = perm })
  go None f g = absurd cc
  go (Some old) f g = (old, f, cc)

-- ---- address spaces stay good

module _ (c : Content) (spaces : Spaces) (good : AreGoodSpaces c spaces) where
  -- where pages of a live region that no live child of it has are mapped
  pub AreGoodSpaces-mapping : (name first count : ℕ) (region : Region) (entry : Entry) → spaces.regions name ≡ Some region → region.live ≡ true
      → reaches_over first (first + count) region ≡ true → meets_child spaces.regions name first (first + count) ≡ false
      → entry.region.0 ≡ name → has entry.cap.0 entry.perm.0 ≡ true → IsSome (c.count entry.koid.0) → AreGoodSpaces c (with_mapping spaces region.root.0 first count entry)
  AreGoodSpaces-mapping name first count region entry given live inside childless in_region allowed vmo = record {
    regions = good.regions;
    caps = good.caps;
    entries = λ root p e is. elim (with_pages-was spaces.table region.root.0 first (first + count) (mapping_from first entry) root p e is) [
      | inl new ↦ subst (IsGoodEntry spaces.regions root p) (some_same new.3) (fresh root p new.0 new.1 new.2)
      | inr old ↦ good.entries root p e old.1
    ];
    vmos = λ root p e is. elim (with_pages-was spaces.table region.root.0 first (first + count) (mapping_from first entry) root p e is) [
      | inl new ↦ subst (λ (x : Entry). IsSome (c.count x.koid.0)) (some_same new.3) vmo
      | inr old ↦ good.vmos root p e old.1
    ];
  } where
    fresh : (root p : ℕ) → root ≡ region.root.0 → first ≤ p → p < first + count → IsGoodEntry spaces.regions root p (entry_behind entry (p - first))
    fresh root p same low high =
        let parts = reaches_over_parts first (first + count) region inside in
        record {
          region = region;
          given = ap spaces.regions in_region ∙ given;
          live = live;
          root_is = sym same;
          inside = reaches_over_from p (p + 1) region (omega (arith, parts.0)) (omega (arith, parts.1));
          alone = subst (λ (n : ℕ). meets_child spaces.regions n p (p + 1) ≡ false) (sym in_region) (meets_child-part spaces.regions name first (first + count) p good.regions childless low high);
          allowed = allowed;
        }

  -- where pages are unmapped, and the regions below one die that have no others
  pub AreGoodSpaces-unmapped : (name first end : ℕ) → AreGoodSpaces c (unmapped spaces name first end)
  AreGoodSpaces-unmapped name first end = record {
    regions = AreGoodRegions-killed spaces.regions dies good.regions closed;
    caps = λ n new e.
        let was = killed-was spaces.regions dies n new e in
        subst (λ (r : Region). has all_rights r.caps.0 ≡ true) (sym was.2) (good.caps n was.0 was.1);
    entries = λ root p entry e. let was = left root p entry e in IsGoodEntry-killed spaces.regions dies root p entry good.regions (good.entries root p entry was.1) was.0;
    vmos = λ root p entry e. good.vmos root p entry (left root p entry e).1;
  } where
    dies : ℕ → Bool
    dies = lies_below_in spaces.regions name first end

    closed : (n : ℕ) (r : Region) (p : RegionName) → spaces.regions n ≡ Some r → r.parent ≡ Some p → r.live ≡ true → dies p.0 ≡ true → dies n ≡ true
    closed n r p e f live dead =
        let up = good.regions.parents n r p e f in
        let parts = and_parts (is_below spaces.regions name p.0) (lies_in first end (region_of spaces.regions p.0)) dead in
        let outer = lies_in_parts first end up.0 (subst (λ (x : Region). lies_in first end x ≡ true) (region_of-at spaces.regions p.0 up.0 up.1) parts.1) in
        let inner = reaches_over_parts r.first (end_of r) up.0 (up.3.inside live) in
        and_from (is_below spaces.regions name n) (lies_in first end (region_of spaces.regions n))
        (is_below-step spaces.regions good.regions name n r p e f ∙ or_right (p.0 == name) (is_below spaces.regions name p.0) parts.0)
        (subst (λ (x : Region). lies_in first end x ≡ true) (sym (region_of-at spaces.regions n r e))
        (lies_in_from first end r (omega (arith, outer.0, inner.0)) (omega (arith, outer.1, inner.1))))

    left : (root p : ℕ) (entry : Entry) → (unmapped spaces name first end).table root p ≡ Some entry → (dies entry.region.0 ≡ false) × (spaces.table root p ≡ Some entry)
    left root p entry e = elim (with_pages-was spaces.table (region_of spaces.regions name).root.0 first end (λ q. None) root p entry e) [
      | inl none ↦ absurd (let nothing = none.3 in cc)
      | inr old ↦ (false_from_ne_true (dies entry.region.0) (λ dead. old.0 (of_root root p entry old.1 dead) (of_range root p entry old.1 dead).0 (of_range root p entry old.1 dead).1), old.1)
    ] where
      of_root : (root p : ℕ) (entry : Entry) → spaces.table root p ≡ Some entry → dies entry.region.0 ≡ true → root ≡ (region_of spaces.regions name).root.0
      of_root root p entry e dead =
          let fine = good.entries root p entry e in
          let parts = and_parts (is_below spaces.regions name entry.region.0) (lies_in first end (region_of spaces.regions entry.region.0)) dead in
          sym fine.root_is ∙ ap (λ (r : RegionName). r.0) (root_below spaces.regions good.regions name entry.region.0 fine.region fine.given parts.0)

      of_range : (root p : ℕ) (entry : Entry) → spaces.table root p ≡ Some entry → dies entry.region.0 ≡ true → (first ≤ p) × (p < end)
      of_range root p entry e dead =
          let fine = good.entries root p entry e in
          let parts = and_parts (is_below spaces.regions name entry.region.0) (lies_in first end (region_of spaces.regions entry.region.0)) dead in
          let outer = lies_in_parts first end fine.region (subst (λ (x : Region). lies_in first end x ≡ true) (region_of-at spaces.regions entry.region.0 fine.region fine.given) parts.1) in
          let inner = reaches_over_parts p (p + 1) fine.region fine.inside in
          (omega (arith, outer.0, inner.0), omega (arith, outer.1, inner.1))

  -- where the permissions of pages change, within what they may be changed to
  pub AreGoodSpaces-protected : (root first end : ℕ) (perm : Perm) → forbids (spaces.table root) perm.0 first end ≡ false → AreGoodSpaces c (protected spaces root first end perm)
  AreGoodSpaces-protected root first end perm free = record {
    regions = good.regions;
    caps = good.caps;
    entries = λ r p e is. elim (with_pages-was spaces.table root first end (with_perm perm (spaces.table root)) r p e is) [
      | inl new ↦
          let was = perm_was perm (spaces.table root) p e new.3 in
          let old = good.entries root p was.0 was.1 in
          let within : has was.0.cap.0 perm.0 ≡ true = not_forbidden (spaces.table root) perm.0 first end p was.0 free new.1 new.2 was.1 in
          subst (λ (x : Entry). IsGoodEntry spaces.regions r p x) (sym was.2)
          (subst (λ (q : ℕ). IsGoodEntry spaces.regions q p (record was.0 { perm = perm })) (sym new.0)
          (record { region = old.region; given = old.given; live = old.live; root_is = old.root_is; inside = old.inside; alone = old.alone; allowed = within }))
      | inr old ↦ good.entries r p e old.1
    ];
    vmos = λ r p e is. elim (with_pages-was spaces.table root first end (with_perm perm (spaces.table root)) r p e is) [
      | inl new ↦ let was = perm_was perm (spaces.table root) p e new.3 in subst (λ (x : Entry). IsSome (c.count x.koid.0)) (sym was.2) (good.vmos root p was.0 was.1)
      | inr old ↦ good.vmos r p e old.1
    ];
  }

-- an entry shows the VMO that it showed
pub shows-protected : (spaces : Spaces) (root first end : ℕ) (perm : Perm) (v r p : ℕ) → passes (shows v) ((protected spaces root first end perm).table r p) ≡ passes (shows v) (spaces.table r p)
unfolding with_pages passes
shows-protected spaces root first end perm v r p = elim (cases_Bool ((r == root) && is_within first end p)) [
  | inl is ↦
      let both = and_parts (r == root) (is_within first end p) is in
      ap (passes (shows v)) (cond-true _ _ _ is) ∙ (one (spaces.table root p) ∙ ap (λ (s : ℕ). passes (shows v) (spaces.table s p)) (sym (eqb_is r root both.0)))
  | inr out ↦ ap (passes (shows v)) (cond-false _ _ _ out)
] where
  one : (o : Option Entry) → passes (shows v) (option_map (λ (entry : Entry). record entry { perm = perm }) o) ≡ passes (shows v) o
  one None = refl
  one (Some entry) = refl

-- a change of permissions maps the same VMOs
pub is_mapped-protected : (spaces : Spaces) (root first end : ℕ) (perm : Perm) (v : ℕ) → is_mapped (protected spaces root first end perm) v ≡ is_mapped spaces v
unfolding is_mapped
is_mapped-protected spaces root first end perm v =
    any_below_same NAMES (λ r. any_below ROOT_END (λ p. passes (shows v) ((protected spaces root first end perm).table r p))) (λ r. any_below ROOT_END (λ p. passes (shows v) (spaces.table r p)))
    (λ r h. any_below_same ROOT_END (λ p. passes (shows v) ((protected spaces root first end perm).table r p)) (λ p. passes (shows v) (spaces.table r p)) (λ p k. shows-protected spaces root first end perm v r p))
