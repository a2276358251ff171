-- Laws of regions that die one after another, each when it has no live child: of some that pass, until none is left.
use Rattle.std.proofs.Common.{arith, ◌<◌, ◌≡◌, ℕ, Bool, true, false, cond, ◌||◌, ◌==◌, Option, None, Some, ◌⊎◌, refl, sym, ap, subst, ◌∙◌, inl, inr}
use Rattle.std.proofs.lemmas.Bool.{cases_Bool, or_cases, and_from, and_parts, both_ways, false_from_ne_true}
use Rattle.std.specs.Option.{option_map}
use Rattle.vm_base.specs.declared.limits.TheConstants.{NAMES}
use Rattle.vm_base.specs.Entries.{entry_count}
use Rattle.vm_base.proofs.EntryLaws.{passes-some, passes_found, entry_count-change}
use Rattle.vm_base.proofs.SearchLaws.{eqb_is, eqb_same, eqb_apart, bit-true, bit-false}
use Rattle.vm_model.specs.declared.space.Region.{Region}
use Rattle.vm_model.specs.Space.Regions.{region_of, lies_in, is_below, killed, AreGoodRegions}
use Rattle.vm_model.specs.Space.Mappings.{lies_below_in}
use Rattle.vm_model.proofs.RegionLaws.{region_of-at, killed-was, killed-stays, killed-at}
use Rattle.region_ops.proofs.BelowLaws.{not_below_itself, killed-twice, killed-alike}
use Rattle.region_tree.proofs.BelowLaws.{is_below-killed}
use Rattle.region_tree.specs.Tree.{IsWithin, HasNoneWithin, is_live_region, with_one_dead}

-- some regions that pass have died, and no other
pub record IsUnderWay (old now : ℕ → Option Region) (test : ℕ → Bool) : Type 0 where
  pub dies : ℕ → Bool
  pub dead : now ≡ killed old dies
  pub each : (n : ℕ) → dies n ≡ true → test n ≡ true

-- where none dies, nothing changes
pub killed-none : (regions : ℕ → Option Region) → regions ≡ killed regions (λ n. false)
unfolding killed
killed-none regions = λ i n. one (regions n) i where
  one : (o : Option Region) → o ≡ option_map (λ (r : Region). cond false (record r { live = false }) r) o
  one None = refl
  one (Some r) = refl

abbrev pub underway_start : (regions : ℕ → Option Region) (test : ℕ → Bool) → IsUnderWay regions regions test
underway_start regions test = record { dies = λ n. false; dead = killed-none regions; each = λ n e. absurd cc }

-- one more dies, which passes as those do that passed before
abbrev pub underway_next : (old now new : ℕ → Option Region) (test too : ℕ → Bool) (leaf : ℕ) → IsUnderWay old now test → ((n : ℕ) → test n ≡ true → too n ≡ true)
    → too leaf ≡ true → new ≡ with_one_dead now leaf → IsUnderWay old new too
underway_next old now new test too leaf under wider passed e = record {
  dies = λ n. under.dies n || (n == leaf);
  dead = e ∙ (ap (λ (r : ℕ → Option Region). killed r (λ n. n == leaf)) under.dead ∙ killed-twice old under.dies (λ n. n == leaf));
  each = λ n h. elim (or_cases (under.dies n) (n == leaf) h) [
    | inl before ↦ wider n (under.each n before)
    | inr here ↦ ap too (eqb_is n leaf here) ∙ passed
  ];
}

-- where none that passes is live any more, all are dead
pub underway_end : (old now : ℕ → Option Region) (test : ℕ → Bool) → IsUnderWay old now test
    → ((n : ℕ) (region : Region) → old n ≡ Some region → now n ≡ Some region → test n ≡ true → region.live ≡ false) → now ≡ killed old test
underway_end old now test under none = under.dead ∙ killed-alike old under.dies test alike where
  alike : (n : ℕ) (region : Region) → old n ≡ Some region → (under.dies n ≡ test n) ⊎ (region.live ≡ false)
  alike n region f = elim (cases_Bool (under.dies n)) [
    | inl dead ↦ inl (dead ∙ sym (under.each n dead))
    | inr spared ↦ elim (cases_Bool (test n)) [
      | inl passed ↦ inr (none n region f (ap (λ (r : ℕ → Option Region). r n) under.dead ∙ killed-stays old under.dies n region f spared) passed)
      | inr failed ↦ inl (spared ∙ sym failed)
    ]
  ]

-- ---- one that dies

-- a region that does not die is as before, and one that dies is dead
killed-other : (regions : ℕ → Option Region) (dies : ℕ → Bool) (n : ℕ) → dies n ≡ false → killed regions dies n ≡ regions n
unfolding killed
killed-other regions dies n off = ap (λ (b : Bool). option_map (λ (r : Region). cond b (record r { live = false }) r) (regions n)) off ∙ one (regions n) where
  one : (o : Option Region) → option_map (λ (r : Region). cond false (record r { live = false }) r) o ≡ o
  one None = refl
  one (Some r) = refl

killed-here : (regions : ℕ → Option Region) (dies : ℕ → Bool) (n : ℕ) (region : Region) → regions n ≡ Some region → dies n ≡ true
    → killed regions dies n ≡ Some (record region { live = false })
killed-here regions dies n region e on = killed-at regions dies n region e ∙ ap (λ (b : Bool). Some (cond b (record region { live = false }) region)) on

-- how many regions are live
abbrev pub live_count : (ℕ → Option Region) → ℕ
live_count regions = entry_count NAMES (λ (region : Region). region.live) regions

-- where a live region dies, fewer are live
live_count-fewer : (regions new : ℕ → Option Region) (leaf : ℕ) (region : Region) → leaf < NAMES → regions leaf ≡ Some region → region.live ≡ true
    → new ≡ with_one_dead regions leaf → live_count new < live_count regions
live_count-fewer regions new leaf region h given live e =
    let count = entry_count-change NAMES (λ (r : Region). r.live) regions new leaf h (λ n apart.
    ap (λ (f : ℕ → Option Region). f n) e ∙ killed-other regions (λ m. m == leaf) n (eqb_apart n leaf apart)) in
    let was = bit-true _ (passes-some (λ (r : Region). r.live) (regions leaf) region given ∙ live) in
    let is = bit-false _ (passes-some (λ (r : Region). r.live) (new leaf) (record region { live = false })
    (ap (λ (f : ℕ → Option Region). f leaf) e ∙ killed-here regions (λ m. m == leaf) leaf region given (eqb_same leaf))) in
    omega (arith, count, was, is)

-- ---- those of a range

module _ (old now : ℕ → Option Region) (name first end : ℕ) (good : AreGoodRegions old) (under : IsUnderWay old now (lies_below_in old name first end)) where
  -- what lies below what is as before
  below_was : (n : ℕ) → is_below now name n ≡ is_below old name n
  below_was n = ap (λ (r : ℕ → Option Region). is_below r name n) under.dead ∙ is_below-killed old under.dies name n

  -- a live region of the range was one of it before
  pub within_was : (leaf : ℕ) → IsWithin now name first end leaf → lies_below_in old name first end leaf ≡ true
  within_was leaf within =
      let was = killed-was old under.dies leaf within.region (ap (λ (f : ℕ → Option Region). f leaf) (sym under.dead) ∙ within.given) in
      and_from (is_below old name leaf) (lies_in first end (region_of old leaf)) (sym (below_was leaf) ∙ within.below)
      (subst (λ (r : Region). lies_in first end r ≡ true) (sym (region_of-at old leaf was.0 was.1)) (subst (λ (r : Region). lies_in first end r ≡ true) was.2 within.inside))

  -- the next one that dies
  pub within_next : (new : ℕ → Option Region) (leaf : ℕ) → IsWithin now name first end leaf → new ≡ with_one_dead now leaf
      → IsUnderWay old new (lies_below_in old name first end)
  within_next new leaf within e = let test = lies_below_in old name first end in underway_next old now new test test leaf under (λ n h. h) (within_was leaf within) e

  pub within_fewer : (new : ℕ → Option Region) (leaf : ℕ) → IsWithin now name first end leaf → new ≡ with_one_dead now leaf → live_count new < live_count now
  within_fewer new leaf within e =
      let was = killed-was old under.dies leaf within.region (ap (λ (f : ℕ → Option Region). f leaf) (sym under.dead) ∙ within.given) in
      live_count-fewer now new leaf within.region (good.names leaf was.0 was.1) within.given within.live e

  -- where none is left, all are dead
  pub within_end : HasNoneWithin now name first end → now ≡ killed old (lies_below_in old name first end)
  within_end left = underway_end old now (lies_below_in old name first end) under (λ n region f g passed.
      let parts = and_parts (is_below old name n) (lies_in first end (region_of old n)) passed in
      false_from_ne_true region.live (λ live. left n (record {
        region = region;
        given = g;
        live = live;
        below = below_was n ∙ parts.0;
        inside = subst (λ (r : Region). lies_in first end r ≡ true) (region_of-at old n region f) parts.1;
      })))

  -- the region itself is as before
  pub within_same : (region : Region) → old name ≡ Some region → now name ≡ Some region
  within_same region given =
      ap (λ (f : ℕ → Option Region). f name) under.dead
      ∙ killed-stays old under.dies name region given (false_from_ne_true (under.dies name) (λ dead.
      both_ways (is_below old name name) (not_below_itself old good name region given)
      (and_parts (is_below old name name) (lies_in first end (region_of old name)) (under.each name dead)).0))

  -- and live where it was
  pub within_live : is_live_region old name ≡ true → is_live_region now name ≡ true
  within_live live = let was = passes_found (λ (r : Region). r.live) (old name) live in passes-some (λ (r : Region). r.live) (now name) was.0 (within_same was.0 was.1) ∙ was.2
