-- Laws of regions: one more, some that die, and what lies below what.
use Rattle.std.proofs.Common.{◌≡◌, ◌≢◌, ℕ, zero, suc, ◌+◌, ◌-◌, ◌<◌, ◌≤◌, Bool, true, false, not, cond, ◌&&◌, ◌||◌, ◌==◌, Option, None, Some, ◌⊎◌, refl, sym, ap, subst, ◌∙◌, inl, inr, arith}
use Rattle.std.specs.Prelude.{nat_le, min, max, unwrap_or}
use Rattle.std.specs.Option.{option_map}
use Rattle.std.proofs.lemmas.Bool.{cases_lt, or_cases, and_parts, and_from, or_right, both_ways, false_from_ne_true, not-true, not_from_false, ltb-false, leb-true, le-leb, lt-ltb}
use Rattle.vm_base.specs.Entries.{passes, with_key}
use Rattle.vm_base.specs.declared.limits.TheConstants.{NAMES, ROOT_END}
use Rattle.vm_base.specs.declared.names.RegionName.{RegionName}
use Rattle.vm_base.proofs.EntryLaws.{with_key-other, with_key-cases, entry_count_le, entry_count-same, entry_count-with_key}
use Rattle.vm_base.proofs.SearchLaws.{eqb_same, eqb_apart, eqb_is}
use Rattle.vm_model.specs.declared.space.Region.{Region}
use Rattle.vm_model.specs.Space.Regions.{end_of, root_region, region_of, meets, lies_in, reaches_over, parent_of, is_child, parent_in, is_above, is_below, is_at_or_below, killed, given_count, IsBelow, AreGoodRegions}

-- ---- a name

-- the region of a name that was given
pub region_of-at : (regions : ℕ → Option Region) (name : ℕ) (region : Region) → regions name ≡ Some region → region_of regions name ≡ region
unfolding region_of
region_of-at regions name region e = ap (λ (o : Option Region). unwrap_or o (root_region 0)) e

-- ---- pages of a region

-- a region has a page of a range where a page of the range is one of its pages
pub meets_at : (first end p : ℕ) (region : Region) → first ≤ p → p < end → region.first ≤ p → p < end_of region → meets first end region ≡ true
meets_at first end p region low high from below = lt-ltb (max first region.first) (min end (end_of region)) (omega arith)

-- where it has none, the range or the region is empty, or one ends before the other begins
pub meets_none : (first end : ℕ) (region : Region) → meets first end region ≡ false → first < end → 1 ≤ region.count → (end ≤ region.first) ⊎ (end_of region ≤ first)
meets_none first end region off some pages =
    let most : min end (end_of region) ≤ max first region.first = ltb-false (max first region.first) (min end (end_of region)) off in
    elim (cases_le end region.first) [
      | inl before ↦ inl before
      | inr not_before ↦ inr (omega (arith, most, not_before))
    ] where
      cases_le : (a b : ℕ) → (a ≤ b) ⊎ (b < a)
      cases_le a b = elim (cases_lt b a) [ inl less ↦ inr less | inr more ↦ inl more ]

-- the pages of a range are pages of the region
pub reaches_over_parts : (first end : ℕ) (region : Region) → reaches_over first end region ≡ true → (region.first ≤ first) × (end ≤ end_of region)
reaches_over_parts first end region e =
    let both = and_parts (nat_le region.first first) (nat_le end (end_of region)) e in
    (leb-true region.first first both.0, leb-true end (end_of region) both.1)

pub reaches_over_from : (first end : ℕ) (region : Region) → region.first ≤ first → end ≤ end_of region → reaches_over first end region ≡ true
reaches_over_from first end region low high =
    and_from (nat_le region.first first) (nat_le end (end_of region)) (le-leb region.first first low) (le-leb end (end_of region) high)

-- a region lies in a range where it begins and ends in it
pub lies_in_from : (first end : ℕ) (region : Region) → first ≤ region.first → end_of region ≤ end → lies_in first end region ≡ true
lies_in_from first end region low high =
    and_from (nat_le first region.first) (nat_le (end_of region) end) (le-leb first region.first low) (le-leb (end_of region) end high)

pub lies_in_parts : (first end : ℕ) (region : Region) → lies_in first end region ≡ true → (first ≤ region.first) × (end_of region ≤ end)
lies_in_parts first end region e =
    let both = and_parts (nat_le first region.first) (nat_le (end_of region) end) e in (leb-true first region.first both.0, leb-true (end_of region) end both.1)

-- ---- children

-- a live child is live, and its parent is this
pub is_child_parts : (name : ℕ) (region : Region) → is_child name region ≡ true → (region.live ≡ true) × (p : RegionName) × (region.parent ≡ Some p) × (p.0 ≡ name)
unfolding passes
is_child_parts name region e =
    let both = and_parts region.live (passes (λ (parent : ℕ). parent == name) (parent_of region)) e in
    let found = go region.parent refl both.1 in
    (both.0, found.0, found.1, found.2) where
      go : (o : Option RegionName) → region.parent ≡ o → passes (λ (parent : ℕ). parent == name) (option_map (λ (n : RegionName). n.0) o) ≡ true
          → (p : RegionName) × (region.parent ≡ Some p) × (p.0 ≡ name)
      go None f g = absurd cc
      go (Some p) f g = (p, f, eqb_is p.0 name g)

-- ---- live regions lie in the address space

-- a live region ends where the address space does or before, and its root is a name, where this is so of its parent
bounds_by : (regions : ℕ → Option Region) → AreGoodRegions regions → (n : ℕ) (region : Region) → regions n ≡ Some region → region.live ≡ true
    → ((p : RegionName) (above : Region) → region.parent ≡ Some p → regions p.0 ≡ Some above → above.live ≡ true → (end_of above ≤ ROOT_END) × (above.root.0 < NAMES))
    → (end_of region ≤ ROOT_END) × (region.root.0 < NAMES)
bounds_by regions good n region e live up = go region.parent refl where
  go : (o : Option RegionName) → region.parent ≡ o → (end_of region ≤ ROOT_END) × (region.root.0 < NAMES)
  go None f =
      let is = good.roots n region e f in
      let ends : end_of region ≡ ROOT_END = ap end_of is in
      (omega (arith, ends), subst (λ (r : Region). r.root.0 < NAMES) (sym is) (good.names n region e))
  go (Some p) f =
      let parent = good.parents n region p e f in
      let above = up p parent.0 f parent.1 (parent.3.live live) in
      let inside = reaches_over_parts region.first (end_of region) parent.0 (parent.3.inside live) in
      (omega (arith, above.0, inside.1), subst (λ (r : RegionName). r.0 < NAMES) (sym parent.3.root) above.1)

bounds_under : (regions : ℕ → Option Region) → AreGoodRegions regions → (fuel n : ℕ) (region : Region) → (good : AreGoodRegions regions) → good.age n < fuel → regions n ≡ Some region
    → region.live ≡ true → (end_of region ≤ ROOT_END) × (region.root.0 < NAMES)
bounds_under regions _ zero n region good h e live = absurd (omega (arith, h))
bounds_under regions g (suc fuel) n region good h e live =
    bounds_by regions good n region e live (λ p above f e_above live_above.
    let older = (good.parents n region p e f).2 in
    bounds_under regions g fuel p.0 above good (omega (arith, h, older)) e_above live_above)

-- a live region ends where the address space does or before, and its root is a name
pub region_bounds : (regions : ℕ → Option Region) → AreGoodRegions regions → (n : ℕ) (region : Region) → regions n ≡ Some region → region.live ≡ true
    → (end_of region ≤ ROOT_END) × (region.root.0 < NAMES)
region_bounds regions good n region e live = bounds_under regions good (good.age n + 1) n region good (omega arith) e live

-- ---- one region more

-- A region that is added: it is not empty, is a root region of its own or lies in its live parent, and meets no live child of
-- that.
pub record IsFresh (regions : ℕ → Option Region) (n : ℕ) (region : Region) : Type 0 where
  pub free : regions n ≡ None
  pub name : n < NAMES
  pub pages : 1 ≤ region.count
  pub root : region.parent ≡ None → region ≡ record (root_region n) { live = region.live }
  pub parent : (p : RegionName) → region.parent ≡ Some p → (above : Region) × (regions p.0 ≡ Some above) × IsBelow region above
  pub apart : (p m : ℕ) (other : Region) → regions m ≡ Some other → is_child p region ≡ true → is_child p other ≡ true
      → (end_of region ≤ other.first) ⊎ (end_of other ≤ region.first)

-- the ages, with this one of n
abbrev with_age : (ℕ → ℕ) → ℕ → ℕ → ℕ → ℕ
with_age age n new m = cond (m == n) new (age m)

with_age-new : (age : ℕ → ℕ) (n new : ℕ) → with_age age n new n ≡ new
with_age-new age n new = ap (λ (b : Bool). cond b new (age n)) (eqb_same n)

with_age-old : (age : ℕ → ℕ) (n new m : ℕ) → m ≢ n → with_age age n new m ≡ age m
with_age-old age n new m apart = ap (λ (b : Bool). cond b new (age m)) (eqb_apart m n apart)

module _ (regions : ℕ → Option Region) (n : ℕ) (region : Region) (good : AreGoodRegions regions) (fresh : IsFresh regions n region) where
  -- one more is given
  given_more : given_count (with_key regions n region) ≡ given_count regions + 1
  given_more = entry_count-with_key NAMES (λ (r : Region). true) regions n region fresh.name fresh.free

  -- a name that was given is another
  other_name : (m : ℕ) (other : Region) → regions m ≡ Some other → m ≢ n
  other_name m other e same = absurd (let none : ◌≡◌ {A = Option Region} (Some other) None = sym e ∙ (ap regions same ∙ fresh.free) in cc)

  -- a region that was given is there still
  pub still : (m : ℕ) (other : Region) → regions m ≡ Some other → with_key regions n region m ≡ Some other
  still m other e = with_key-other regions n region m (other_name m other e) ∙ e

  -- the new region is the youngest
  newest : ℕ → ℕ
  newest m = with_age good.age n (given_count regions) m

  -- what holds of a region, old or new
  pub with_region-each : (P : ℕ → Region → Type 0) → P n region → ((m : ℕ) (other : Region) → regions m ≡ Some other → P m other)
      → (m : ℕ) (other : Region) → with_key regions n region m ≡ Some other → P m other
  with_region-each P new old m other e = elim (with_key-cases regions n region m other e) [
    | inl is ↦ subst (λ (k : ℕ). P k other) (sym is.0) (subst (λ (r : Region). P n r) is.1 new)
    | inr was ↦ old m other was.1
  ]

  -- regions stay good
  pub AreGoodRegions-with : AreGoodRegions (with_key regions n region)
  unfolding newest
  AreGoodRegions-with = record {
    age = newest;
    names = with_region-each (λ m r. m < NAMES) fresh.name good.names;
    ages = with_region-each (λ m r. newest m < given_count (with_key regions n region)) (omega (arith, given_more, with_age-new good.age n (given_count regions)))
        (λ m r e. omega (arith, given_more, with_age-old good.age n (given_count regions) m (other_name m r e), good.ages m r e));
    pages = with_region-each (λ m r. 1 ≤ r.count) fresh.pages good.pages;
    roots = with_region-each (λ m r. r.parent ≡ None → r ≡ record (root_region m) { live = r.live }) fresh.root good.roots;
    parents = λ m r p e f. by_name m r p e f;
    apart = λ p m k x y e f child_x child_y. pair p m k x y e f child_x child_y;
  } where
    by_name : (m : ℕ) (r : Region) (p : RegionName) → with_key regions n region m ≡ Some r → r.parent ≡ Some p
        → (above : Region) × (with_key regions n region p.0 ≡ Some above) × (newest p.0 < newest m) × IsBelow r above
    by_name m r p e f = elim (with_key-cases regions n region m r e) [
      | inl is ↦
          let up = fresh.parent p (ap (λ (x : Region). x.parent) is.1 ∙ f) in
          let younger : newest p.0 < newest m = omega (
            arith,
            is.0,
            with_age-new good.age n (given_count regions),
            ap newest is.0,
            with_age-old good.age n (given_count regions) p.0 (other_name p.0 up.0 up.1),
            good.ages p.0 up.0 up.1,
          ) in
          (up.0, still p.0 up.0 up.1, younger, subst (λ (x : Region). IsBelow x up.0) is.1 up.2)
      | inr was ↦
          let up = good.parents m r p was.1 f in
          let younger : newest p.0 < newest m = omega (
            arith,
            with_age-old good.age n (given_count regions) m was.0,
            with_age-old good.age n (given_count regions) p.0 (other_name p.0 up.0 up.1),
            up.2,
          ) in
          (up.0, still p.0 up.0 up.1, younger, up.3)
    ]

    pair : (p m k : ℕ) (x y : Region) → with_key regions n region m ≡ Some x → with_key regions n region k ≡ Some y → is_child p x ≡ true → is_child p y ≡ true
        → (m ≡ k) ⊎ (end_of x ≤ y.first) ⊎ (end_of y ≤ x.first)
    pair p m k x y e f child_x child_y = elim (with_key-cases regions n region m x e) [
      | inl is ↦ elim (with_key-cases regions n region k y f) [
        | inl is_too ↦ inl (is.0 ∙ sym is_too.0)
        | inr was ↦ subst (λ (r : Region). (m ≡ k) ⊎ (end_of r ≤ y.first) ⊎ (end_of y ≤ r.first)) is.1
            (inr (fresh.apart p k y was.1 (subst (λ (r : Region). is_child p r ≡ true) (sym is.1) child_x) child_y))
      ]
      | inr was ↦ elim (with_key-cases regions n region k y f) [
        | inl is ↦ subst (λ (r : Region). (m ≡ k) ⊎ (end_of x ≤ r.first) ⊎ (end_of r ≤ x.first)) is.1
            (inr (swapped (fresh.apart p m x was.1 (subst (λ (r : Region). is_child p r ≡ true) (sym is.1) child_y) child_x)))
        | inr was_too ↦ good.apart p m k x y was.1 was_too.1 child_x child_y
      ]
    ] where
      swapped : {A B : Type 0} → A ⊎ B → B ⊎ A
      swapped (inl a) = inr a
      swapped (inr b) = inl b

-- ---- regions that die

-- a region that dies or not is live where it was and does not die
dead_or_alive : (region : Region) (b : Bool) → cond b (record region { live = false }) region ≡ record region { live = region.live && not b }
dead_or_alive region b = go b region.live refl where
  go : (b l : Bool) → region.live ≡ l → cond b (record region { live = false }) region ≡ record region { live = region.live && not b }
  go true true f = λ i. record region { live = ap (λ (x : Bool). x && false) (sym f) i }
  go true false f = λ i. record region { live = ap (λ (x : Bool). x && false) (sym f) i }
  go false true f = λ i. record region { live = (f ∙ ap (λ (x : Bool). x && true) (sym f)) i }
  go false false f = λ i. record region { live = (f ∙ ap (λ (x : Bool). x && true) (sym f)) i }

module _ (regions : ℕ → Option Region) (dies : ℕ → Bool) where
  -- the region of a name, dead or as it was
  pub killed-at : (n : ℕ) (region : Region) → regions n ≡ Some region
      → killed regions dies n ≡ Some (cond (dies n) (record region { live = false }) region)
  unfolding killed
  killed-at n region e = ap (option_map (λ (r : Region). cond (dies n) (record r { live = false }) r)) e

  -- a region that does not die is as it was
  pub killed-stays : (n : ℕ) (region : Region) → regions n ≡ Some region → dies n ≡ false → killed regions dies n ≡ Some region
  killed-stays n region e stays =
      killed-at n region e ∙ ap (λ (b : Bool). Some (cond b (record region { live = false }) region)) stays

  -- what was there before
  pub killed-was : (n : ℕ) (new : Region) → killed regions dies n ≡ Some new
      → (region : Region) × (regions n ≡ Some region) × (new ≡ record region { live = region.live && not (dies n) })
  unfolding killed
  killed-was n new e = go (regions n) refl e where
    go : (o : Option Region) → regions n ≡ o → option_map (λ (r : Region). cond (dies n) (record r { live = false }) r) o ≡ Some new
        → (region : Region) × (regions n ≡ Some region) × (new ≡ record region { live = region.live && not (dies n) })
    go None f g = absurd cc
    go (Some region) f g =
        let is : cond (dies n) (record region { live = false }) region ≡ new = cc in
        (region, f, sym is ∙ dead_or_alive region (dies n))

  -- as many names are given
  given_same : given_count (killed regions dies) ≡ given_count regions
  unfolding killed passes
  given_same = entry_count-same NAMES (λ (r : Region). true) (killed regions dies) (λ (r : Region). true) regions (λ k h. go (dies k) (regions k)) where
    go : (b : Bool) (o : Option Region) → passes (λ (r : Region). true) (option_map (λ (r : Region). cond b (record r { live = false }) r) o) ≡ passes (λ (r : Region). true) o
    go b None = refl
    go b (Some r) = refl

  -- a live child was one before, and does not die
  pub is_child-killed : (p n : ℕ) (region : Region) → is_child p (record region { live = region.live && not (dies n) }) ≡ true → (is_child p region ≡ true) × (dies n ≡ false)
  is_child-killed p n region e =
      let both = and_parts (region.live && not (dies n)) (passes (λ (parent : ℕ). parent == p) (parent_of region)) e in
      let live = and_parts region.live (not (dies n)) both.0 in
      (and_from region.live (passes (λ (parent : ℕ). parent == p) (parent_of region)) live.0 both.1, not-true (dies n) live.1)

  -- regions stay good where all that is live and lies below what dies does too
  pub AreGoodRegions-killed : AreGoodRegions regions
      → ((n : ℕ) (region : Region) (p : RegionName) → regions n ≡ Some region → region.parent ≡ Some p → region.live ≡ true → dies p.0 ≡ true → dies n ≡ true)
      → AreGoodRegions (killed regions dies)
  AreGoodRegions-killed good closed = record {
    age = good.age;
    names = λ n new e. let was = killed-was n new e in good.names n was.0 was.1;
    ages = λ n new e. let was = killed-was n new e in omega (arith, good.ages n was.0 was.1, given_same);
    pages = λ n new e. let was = killed-was n new e in subst (λ (r : Region). 1 ≤ r.count) (sym was.2) (good.pages n was.0 was.1);
    roots = λ n new e.
        let was = killed-was n new e in
        subst (λ (r : Region). r.parent ≡ None → r ≡ record (root_region n) { live = r.live }) (sym was.2)
        (λ f. ap (λ (r : Region). record r { live = was.0.live && not (dies n) }) (good.roots n was.0 was.1 f));
    parents = λ n new p e.
        let was = killed-was n new e in
        subst (λ (r : Region). r.parent ≡ Some p → (above : Region) × (killed regions dies p.0 ≡ Some above) × (good.age p.0 < good.age n) × IsBelow r above) (sym was.2)
        (λ f.
        let up = good.parents n was.0 p was.1 f in (
          record up.0 { live = up.0.live && not (dies p.0) },
          killed-at p.0 up.0 up.1 ∙ ap (λ (r : Region). Some r) (dead_or_alive up.0 (dies p.0)),
          up.2,
          record {
            root = up.3.root;
            live = λ live.
                let parts = and_parts was.0.live (not (dies n)) live in
                let spared : dies p.0 ≡ false = false_from_ne_true (dies p.0) (λ dead. both_ways (dies n) (not-true (dies n) parts.1) (closed n was.0 p was.1 f parts.0 dead)) in
                and_from up.0.live (not (dies p.0)) (up.3.live parts.0) (not_from_false (dies p.0) spared);
            inside = λ live. up.3.inside (and_parts was.0.live (not (dies n)) live).0;
          },
        ));
    apart = λ p n m x y e f child_x child_y.
        let was = killed-was n x e in
        let was_y = killed-was m y f in
        let cx = (is_child-killed p n was.0 (subst (λ (r : Region). is_child p r ≡ true) was.2 child_x)).0 in
        let cy = (is_child-killed p m was_y.0 (subst (λ (r : Region). is_child p r ≡ true) was_y.2 child_y)).0 in
        subst (λ (r : Region). (n ≡ m) ⊎ (end_of r ≤ y.first) ⊎ (end_of y ≤ r.first)) (sym was.2)
        (subst (λ (r : Region). (n ≡ m) ⊎ (end_of was.0 ≤ r.first) ⊎ (end_of r ≤ was.0.first)) (sym was_y.2) (good.apart p n m was.0 was_y.0 was.1 was_y.1 cx cy));
  }

-- ---- what lies below what

-- nothing is above a region without a parent
pub is_above-none : (steps : ℕ) (regions : ℕ → Option Region) (name : ℕ) → is_above steps regions name None ≡ false
unfolding is_above
is_above-none zero regions name = refl
is_above-none (suc steps) regions name = refl

module _ (regions : ℕ → Option Region) (good : AreGoodRegions regions) (name : ℕ) where
  -- two numbers of steps tell the same of the parent of a region, where they do of each that is older than the region
  older_same : (steps more q : ℕ) → ((p : ℕ) → good.age p < good.age q → is_above steps regions name (Some p) ≡ is_above more regions name (Some p))
      → is_above steps regions name (parent_in (regions q)) ≡ is_above more regions name (parent_in (regions q))
  older_same steps more q each = go (regions q) refl where
    none : is_above steps regions name None ≡ is_above more regions name None
    none = is_above-none steps regions name ∙ sym (is_above-none more regions name)

    by_parent : (region : Region) → regions q ≡ Some region → (o : Option RegionName) → region.parent ≡ o
        → is_above steps regions name (option_map (λ (n : RegionName). n.0) o) ≡ is_above more regions name (option_map (λ (n : RegionName). n.0) o)
    by_parent region e None f = none
    by_parent region e (Some p) f = each p.0 (good.parents q region p e f).2

    go : (o : Option Region) → regions q ≡ o → is_above steps regions name (parent_in o) ≡ is_above more regions name (parent_in o)
    go None e = none
    go (Some region) e = by_parent region e region.parent refl

  -- as many steps as a region is old tell what is above
  is_above-enough : (steps more q : ℕ) → good.age q < steps → good.age q < more → is_above steps regions name (Some q) ≡ is_above more regions name (Some q)
  unfolding is_above
  is_above-enough zero more q h k = absurd (omega (arith, h))
  is_above-enough (suc steps) zero q h k = absurd (omega (arith, k))
  is_above-enough (suc steps) (suc more) q h k =
      ap (λ (b : Bool). (q == name) || b) (older_same steps more q (λ p older. is_above-enough steps more p (omega (arith, h, older)) (omega (arith, k, older))))

  -- one step up
  is_above-step : (steps q : ℕ) → 0 < steps → is_above steps regions name (Some q) ≡ ((q == name) || is_above (steps - 1) regions name (parent_in (regions q)))
  unfolding is_above
  is_above-step zero q h = absurd (omega (arith, h))
  is_above-step (suc steps) q h = ap (λ (k : ℕ). (q == name) || is_above k regions name (parent_in (regions q))) (omega arith)

  -- a region lies below another where its parent is that one or lies below it
  pub is_below-step : (n : ℕ) (region : Region) (p : RegionName) → regions n ≡ Some region → region.parent ≡ Some p
      → is_below regions name n ≡ is_at_or_below regions name p.0
  is_below-step n region p e f =
      let up = good.parents n region p e f in
      let few : given_count regions ≤ NAMES = entry_count_le NAMES (λ (r : Region). true) regions in
      let old = good.ages p.0 up.0 up.1 in
      ap (λ (o : Option Region). is_above NAMES regions name (parent_in o)) e
      ∙ (ap (λ (o : Option RegionName). is_above NAMES regions name (option_map (λ (r : RegionName). r.0) o)) f
      ∙ (is_above-step NAMES p.0 (omega arith)
      ∙ ap (λ (b : Bool). (p.0 == name) || b) (older_same (NAMES - 1) NAMES p.0 (λ q older. is_above-enough (NAMES - 1) NAMES q (omega (arith, few, old, older)) (omega (arith, few, old, older))))))

  -- what lies below what dies dies too
  pub at_or_below-closed : (n : ℕ) (region : Region) (p : RegionName) → regions n ≡ Some region → region.parent ≡ Some p
      → is_at_or_below regions name p.0 ≡ true → is_at_or_below regions name n ≡ true
  at_or_below-closed n region p e f h = or_right (n == name) (is_below regions name n) (is_below-step n region p e f ∙ h)

-- ---- what holds of all below a region

module _ (regions : ℕ → Option Region) (good : AreGoodRegions regions) (name : ℕ) (P : ℕ → Region → Type 0)
    (step : (n : ℕ) (region : Region) (p : RegionName) (up : Region) → regions n ≡ Some region → regions p.0 ≡ Some up → good.age p.0 < good.age n → IsBelow region up
    → (p.0 ≡ name) ⊎ P p.0 up → P n region) where
  below_by : (n : ℕ) (region : Region) → regions n ≡ Some region → is_below regions name n ≡ true
      → ((p : ℕ) (up : Region) → good.age p < good.age n → regions p ≡ Some up → is_below regions name p ≡ true → P p up) → P n region
  below_by n region e below each = go region.parent refl where
    go : (o : Option RegionName) → region.parent ≡ o → P n region
    go None f =
        let none : is_below regions name n ≡ false =
        ap (λ (o : Option Region). is_above NAMES regions name (parent_in o)) e
        ∙ (ap (λ (o : Option RegionName). is_above NAMES regions name (option_map (λ (r : RegionName). r.0) o)) f ∙ is_above-none NAMES regions name) in
        absurd (both_ways (is_below regions name n) none below)
    go (Some p) f =
        let parent = good.parents n region p e f in
        step n region p parent.0 e parent.1 parent.2 parent.3
        (elim (or_cases (p.0 == name) (is_below regions name p.0) (sym (is_below-step regions good name n region p e f) ∙ below)) [
          | inl here ↦ inl (eqb_is p.0 name here)
          | inr higher ↦ inr (each p.0 parent.0 parent.2 parent.1 higher)
        ])

  below_under : (fuel n : ℕ) (region : Region) → good.age n < fuel → regions n ≡ Some region → is_below regions name n ≡ true → P n region
  below_under zero n region h e below = absurd (omega (arith, h))
  below_under (suc fuel) n region h e below = below_by n region e below (λ p up older f higher. below_under fuel p up (omega (arith, h, older)) f higher)

  -- what holds of the children of a region, and of those of each of which it holds, holds of all below it
  pub below_each : (n : ℕ) (region : Region) → regions n ≡ Some region → is_below regions name n ≡ true → P n region
  below_each n region e below = below_under (good.age n + 1) n region (omega arith) e below

-- a region is of the address space of each above it
pub root_below : (regions : ℕ → Option Region) → AreGoodRegions regions → (name n : ℕ) (region : Region) → regions n ≡ Some region → is_below regions name n ≡ true
    → region.root ≡ (region_of regions name).root
root_below regions good name = below_each regions good name (λ n region. region.root ≡ (region_of regions name).root) (λ n region p up e f older is at. is.root ∙ elim at [
  | inl here ↦ ap (λ (r : Region). r.root) (sym (region_of-at regions name up (ap regions (sym here) ∙ f)))
  | inr higher ↦ higher
])
