-- What lies below a region, how deep, and what of it lies in a range of pages.
use Rattle.std.proofs.Common.{◌≡◌, ℕ, zero, suc, ◌+◌, ◌-◌, ◌<◌, ◌≤◌, ◌^◌, ◌⊎◌, Bool, true, false, cond, ◌||◌, ◌==◌, Option, None, Some, refl, sym, ap, subst, ◌∙◌, inl, inr, arith}
use Rattle.std.specs.Prelude.{min}
use Rattle.std.specs.Option.{option_map, MatchOption}
use Rattle.std.proofs.lemmas.Bool.{cases_Bool, cases_lt, cases_order, and_from, or_left, or_right, both_ways, false_from_ne_true}
use Rattle.vm_base.specs.Entries.{passes}
use Rattle.vm_base.specs.declared.limits.TheConstants.{NAMES}
use Rattle.vm_base.specs.declared.names.RegionName.{RegionName}
use Rattle.vm_base.proofs.EntryLaws.{entry_count_le, some_same}
use Rattle.vm_base.proofs.SearchLaws.{eqb_same, eqb_is}
use Rattle.vm_model.specs.declared.space.Region.{Region}
use Rattle.vm_model.specs.Space.Regions.{end_of, lies_in, parent_of, is_child, any_child, parent_in, is_above, is_below, killed, given_count, AreGoodRegions}
use Rattle.vm_model.proofs.RegionLaws.{reaches_over_parts, is_child_parts, region_bounds, is_below-step, is_above-none, lies_in_parts, lies_in_from, killed-at}
use Rattle.vm_model.proofs.SpaceLaws.{none_child}
use Rattle.balanced_tree.specs.Pairs.{IsNext}
use Rattle.pair_map.specs.declared.stretch_row.Extent.{Extent}
use Rattle.pair_map.specs.Maps.{Covers, StandApart}
use Rattle.region_tree.specs.Tree.{has_child, with_one_dead, IsWithin, HasNoneWithin, extent_for}
use Rattle.region_tree.specs.inside.TreeFields.{IsTree, IsBetween, HasNoExtentBetween, IsOver, HasNoneOver, IsAbove}
use Rattle.region_tree.proofs.PlaceLaws.{child_at}

-- a live region whose parent is this is a child
pub is_child_from : (name : ℕ) (region : Region) (p : RegionName) → region.live ≡ true → region.parent ≡ Some p → p.0 ≡ name → is_child name region ≡ true
unfolding passes
is_child_from name region p live up same =
    and_from region.live (passes (λ (parent : ℕ). parent == name) (parent_of region)) live
    (ap (λ (o : Option RegionName). passes (λ (parent : ℕ). parent == name) (option_map (λ (n : RegionName). n.0) o)) up
    ∙ (ap (λ (n : ℕ). n == name) same ∙ eqb_same name))

-- ---- regions that die

-- a region has the parent that it had
parent_killed : (regions : ℕ → Option Region) (dies : ℕ → Bool) (m : ℕ) → parent_in (killed regions dies m) ≡ parent_in (regions m)
unfolding killed
parent_killed regions dies m = one (regions m) (dies m) where
  one : (o : Option Region) (b : Bool) → parent_in (option_map (λ (r : Region). cond b (record r { live = false }) r) o) ≡ parent_in o
  one None b = refl
  one (Some r) true = refl
  one (Some r) false = refl

is_above-killed : (regions : ℕ → Option Region) (dies : ℕ → Bool) (name steps : ℕ) (o : Option ℕ) → is_above steps (killed regions dies) name o ≡ is_above steps regions name o
unfolding is_above
is_above-killed regions dies name zero o = refl
is_above-killed regions dies name (suc steps) None = refl
is_above-killed regions dies name (suc steps) (Some p) =
    ap (λ (b : Bool). (p == name) || b)
    (ap (is_above steps (killed regions dies) name) (parent_killed regions dies p) ∙ is_above-killed regions dies name steps (parent_in (regions p)))

-- what lies below what is as before
pub is_below-killed : (regions : ℕ → Option Region) (dies : ℕ → Bool) (name n : ℕ) → is_below (killed regions dies) name n ≡ is_below regions name n
is_below-killed regions dies name n =
    ap (is_above NAMES (killed regions dies) name) (parent_killed regions dies n) ∙ is_above-killed regions dies name NAMES (parent_in (regions n))

-- ---- how deep a region lies

-- how many regions there are from this one up, of so many at most
unfoldable pub depth : ℕ → (ℕ → Option Region) → Option ℕ → ℕ
depth zero regions name = 0
depth (suc steps) regions None = 0
depth (suc steps) regions (Some p) = 1 + depth steps regions (parent_in (regions p))

-- the depth of a name
abbrev pub depth_of : (ℕ → Option Region) → ℕ → ℕ
depth_of regions name = depth NAMES regions (Some name)

depth-none : (steps : ℕ) (regions : ℕ → Option Region) → depth steps regions None ≡ 0
unfolding depth
depth-none zero regions = refl
depth-none (suc steps) regions = refl

depth_le : (steps : ℕ) (regions : ℕ → Option Region) (o : Option ℕ) → depth steps regions o ≤ steps
unfolding depth
depth_le zero regions o = omega arith
depth_le (suc steps) regions None = omega arith
depth_le (suc steps) regions (Some p) = omega (arith, depth_le steps regions (parent_in (regions p)))

depth-step : (steps : ℕ) (regions : ℕ → Option Region) (p : ℕ) → 0 < steps → depth steps regions (Some p) ≡ 1 + depth (steps - 1) regions (parent_in (regions p))
unfolding depth
depth-step zero regions p h = absurd (omega (arith, h))
depth-step (suc steps) regions p h = ap (λ (k : ℕ). 1 + depth k regions (parent_in (regions p))) (omega arith)

module _ (regions : ℕ → Option Region) (good : AreGoodRegions regions) where
  -- two numbers of steps count the same from the parent of a region, where they do from each that is older
  older_deep : (steps more q : ℕ) → ((p : ℕ) → good.age p < good.age q → depth steps regions (Some p) ≡ depth more regions (Some p))
      → depth steps regions (parent_in (regions q)) ≡ depth more regions (parent_in (regions q))
  older_deep steps more q each = go (regions q) refl where
    none : depth steps regions None ≡ depth more regions None
    none = depth-none steps regions ∙ sym (depth-none more regions)

    by_parent : (region : Region) → regions q ≡ Some region → (o : Option RegionName) → region.parent ≡ o
        → depth steps regions (option_map (λ (n : RegionName). n.0) o) ≡ depth more regions (option_map (λ (n : RegionName). n.0) o)
    by_parent region e None f = none
    by_parent region e (Some p) f = each p.0 (good.parents q region p e f).2

    go : (o : Option Region) → regions q ≡ o → depth steps regions (parent_in o) ≡ depth more regions (parent_in o)
    go None e = none
    go (Some region) e = by_parent region e region.parent refl

  deep-enough : (steps more q : ℕ) → good.age q < steps → good.age q < more → depth steps regions (Some q) ≡ depth more regions (Some q)
  unfolding depth
  deep-enough zero more q h k = absurd (omega (arith, h))
  deep-enough (suc steps) zero q h k = absurd (omega (arith, k))
  deep-enough (suc steps) (suc more) q h k =
      ap (λ (d : ℕ). 1 + d) (older_deep steps more q (λ p older. deep-enough steps more p (omega (arith, h, older)) (omega (arith, k, older))))

  -- a region lies one deeper than its parent
  pub depth-child : (n : ℕ) (region : Region) (p : RegionName) → regions n ≡ Some region → region.parent ≡ Some p → depth_of regions n ≡ 1 + depth_of regions p.0
  depth-child n region p e f =
      let up = good.parents n region p e f in
      let few : given_count regions ≤ NAMES = entry_count_le NAMES (λ (r : Region). true) regions in
      let young = good.ages n region e in
      let older = up.2 in
      depth-step NAMES regions n (omega arith)
      ∙ ap (λ (d : ℕ). 1 + d)
      (ap (λ (o : Option Region). depth (NAMES - 1) regions (parent_in o)) e
      ∙ (ap (λ (o : Option RegionName). depth (NAMES - 1) regions (option_map (λ (r : RegionName). r.0) o)) f
      ∙ deep-enough (NAMES - 1) NAMES p.0 (omega (arith, few, young, older)) (omega (arith, few, young, older))))

  pub deeper : (n : ℕ) (region : Region) (p : RegionName) → regions n ≡ Some region → region.parent ≡ Some p → NAMES - depth_of regions n < NAMES - depth_of regions p.0
  deeper n region p e f = omega (arith, depth-child n region p e f, depth_le NAMES regions (Some n))

  -- ---- what lies below a region

  -- a child lies below its parent
  pub below-child : (n : ℕ) (region : Region) (above : ℕ) → regions n ≡ Some region → is_child above region ≡ true → is_below regions above n ≡ true
  below-child n region above e child =
      let up = is_child_parts above region child in
      is_below-step regions good above n region up.1 e up.2 ∙ or_left (up.1.0 == above) (is_below regions above up.1.0) (ap (λ (k : ℕ). k == above) up.3 ∙ eqb_same above)

  -- what lies below a child of a region lies below the region
  pub below-deeper : (n : ℕ) (region : Region) (above p : ℕ) → regions n ≡ Some region → is_child p region ≡ true → is_below regions above p ≡ true → is_below regions above n ≡ true
  below-deeper n region above p e child below =
      let up = is_child_parts p region child in
      is_below-step regions good above n region up.1 e up.2 ∙ or_right (up.1.0 == above) (is_below regions above up.1.0) (ap (is_below regions above) up.3 ∙ below)

  -- a live child of `above` that has all pages of a region
  pub record HasChildOver (above n : ℕ) (region : Region) : Type 0 where
    pub name : ℕ
    pub over : Region
    pub given : regions name ≡ Some over
    pub child : is_child above over ≡ true
    pub low : over.first ≤ region.first
    pub high : end_of region ≤ end_of over
    pub at_or_below : (n ≡ name) ⊎ (is_below regions name n ≡ true)

  over_by : (above n : ℕ) (region : Region) → regions n ≡ Some region → region.live ≡ true → is_below regions above n ≡ true
      → ((p : RegionName) (up : Region) → region.parent ≡ Some p → regions p.0 ≡ Some up → up.live ≡ true → is_below regions above p.0 ≡ true → HasChildOver above p.0 up)
      → HasChildOver above n region
  over_by above n region e live below rest = go region.parent refl where
    go : (o : Option RegionName) → region.parent ≡ o → HasChildOver above n region
    go None f = absurd (both_ways (is_below regions above n)
        (ap (λ (o : Option Region). is_above NAMES regions above (parent_in o)) e
        ∙ (ap (λ (o : Option RegionName). is_above NAMES regions above (option_map (λ (r : RegionName). r.0) o)) f ∙ is_above-none NAMES regions above)) below)
    go (Some p) f = elim (cases_Bool (p.0 == above)) [
      | inl same ↦ record {
        name = n;
        over = region;
        given = e;
        child = is_child_from above region p live f (eqb_is p.0 above same);
        low = omega arith;
        high = omega arith;
        at_or_below = inl refl;
      }
      | inr apart ↦
          let up = good.parents n region p e f in
          let step : ((p.0 == above) || is_below regions above p.0) ≡ true = sym (is_below-step regions good above n region p e f) ∙ below in
          let higher : is_below regions above p.0 ≡ true = sym (ap (λ (b : Bool). b || is_below regions above p.0) apart) ∙ step in
          let found = rest p up.0 f up.1 (up.3.live live) higher in
          let inside = reaches_over_parts region.first (end_of region) up.0 (up.3.inside live) in
          record {
            name = found.name;
            over = found.over;
            given = found.given;
            child = found.child;
            low = omega (arith, found.low, inside.0);
            high = omega (arith, found.high, inside.1);
            at_or_below = inr (is_below-step regions good found.name n region p e f ∙ elim found.at_or_below [
              | inl it ↦ or_left (p.0 == found.name) (is_below regions found.name p.0) (ap (λ (k : ℕ). k == found.name) it ∙ eqb_same found.name)
              | inr under ↦ or_right (p.0 == found.name) (is_below regions found.name p.0) under
            ]);
          }
    ]

  over_under : (above fuel n : ℕ) (region : Region) → good.age n < fuel → regions n ≡ Some region → region.live ≡ true → is_below regions above n ≡ true → HasChildOver above n region
  over_under above zero n region h e live below = absurd (omega (arith, h))
  over_under above (suc fuel) n region h e live below =
      over_by above n region e live below (λ p up f e_up live_up higher.
      let older = (good.parents n region p e f).2 in
      over_under above fuel p.0 up (omega (arith, h, older)) e_up live_up higher)

  -- a live region below another lies in a live child of it
  pub has-over : (above n : ℕ) (region : Region) → regions n ≡ Some region → region.live ≡ true → is_below regions above n ≡ true → HasChildOver above n region
  has-over above n region e live below = over_under above (good.age n + 1) n region (omega arith) e live below

module _ (regions : ℕ → Option Region) (good : AreGoodRegions regions) where
  -- where none that is older lies within
  within_by : (above first last end : ℕ) → last ≡ min (first + (end - first - 1)) (2 ^ 64 - 1) → HasNoneOver regions above first first end → HasNoneOver regions above last first end
      → (name : ℕ) → IsWithin regions above first end name → ((p : ℕ) → good.age p < good.age name → IsWithin regions above first end p → ⊥) → ⊥
  within_by above first last end is at_first at_last name within higher = go within.region.parent refl
    where
      go : (o : Option RegionName) → within.region.parent ≡ o → ⊥
      go None f = both_ways (is_below regions above name)
          (ap (λ (o : Option Region). is_above NAMES regions above (parent_in o)) within.given
          ∙ (ap (λ (o : Option RegionName). is_above NAMES regions above (option_map (λ (r : RegionName). r.0) o)) f ∙ is_above-none NAMES regions above)) within.below
      go (Some p) f =
          let up = good.parents name within.region p within.given f in
          let lies = lies_in_parts first end within.region within.inside in
          let inside = reaches_over_parts within.region.first (end_of within.region) up.0 (up.3.inside within.live) in
          let some = good.pages name within.region within.given in
          let bound = (region_bounds regions good p.0 up.0 up.1 (up.3.live within.live)).0 in
          let child = is_child_from p.0 within.region p within.live f refl in
          let found : any_child regions p.0 (lies_in first end) ≡ true =
          child_at regions p.0 (lies_in first end) name within.region (good.names name within.region within.given) within.given child within.inside in
          let step : ((p.0 == above) || is_below regions above p.0) ≡ true = sym (is_below-step regions good above name within.region p within.given f) ∙ within.below in
          elim (cases_Bool (p.0 == above)) [
            | inl same ↦ both_ways (any_child regions p.0 (lies_in first end))
                (subst (λ (k : ℕ). any_child regions k (lies_in first end) ≡ false) (sym (eqb_is p.0 above same)) at_first.here) found
            | inr apart ↦
                let below : is_below regions above p.0 ≡ true = sym (ap (λ (b : Bool). b || is_below regions above p.0) apart) ∙ step in
                let over : (page : ℕ) → up.0.first ≤ page → page < end_of up.0 → IsOver regions above page p.0 = λ page low high. record {
                  region = up.0;
                  given = up.1;
                  live = up.3.live within.live;
                  below = below;
                  low = low;
                  high = high;
                } in
                elim (cases_lt first up.0.first) [
                  | inr low ↦ both_ways (any_child regions p.0 (lies_in first end)) (at_first.deeper p.0 (over first low (omega (arith, lies.0, inside.1, some)))) found
                  | inl from ↦ elim (cases_lt last (end_of up.0)) [
                    | inl high ↦ both_ways (any_child regions p.0 (lies_in first end))
                        (at_last.deeper p.0 (over last (omega (arith, is, lies.0, lies.1, inside.0, some, bound, inside.1)) high)) found
                    | inr to ↦ higher p.0 up.2 (record {
                      region = up.0;
                      given = up.1;
                      live = up.3.live within.live;
                      below = below;
                      inside = lies_in_from first end up.0 (omega (arith, from)) (omega (arith, to, is, lies.0, lies.1, some));
                    })
                  ]
                ]
          ]

  -- Where none is found over the first page nor over the last, none lies within: the topmost that did would have a parent that
  -- reaches out of the range, and so has one of the two pages.
  within_under : (above first last end : ℕ) → last ≡ min (first + (end - first - 1)) (2 ^ 64 - 1) → HasNoneOver regions above first first end → HasNoneOver regions above last first end
      → (fuel name : ℕ) → good.age name < fuel → IsWithin regions above first end name → ⊥
  within_under above first last end is at_first at_last zero name h within = omega (arith, h)
  within_under above first last end is at_first at_last (suc fuel) name h within =
      within_by above first last end is at_first at_last name within (λ p older more. within_under above first last end is at_first at_last fuel p (omega (arith, h, older)) more)

  pub none-within : (above first count last : ℕ) → last ≡ min (first + (count - 1)) (2 ^ 64 - 1) → HasNoneOver regions above first first (first + count)
      → HasNoneOver regions above last first (first + count) → HasNoneWithin regions above first (first + count)
  none-within above first count last is at_first at_last name within =
      within_under above first last (first + count) (omega (arith, is)) at_first at_last (good.age name + 1) name (omega arith) within

  -- what the two searches answer
  pub within-last : (above first count last : ℕ) → last ≡ min (first + (count - 1)) (2 ^ 64 - 1) → HasNoneOver regions above first first (first + count) → (o : Option RegionName)
      → MatchOption o (HasNoneOver regions above last first (first + count)) (λ name. IsWithin regions above first (first + count) name.0)
      → MatchOption o (HasNoneWithin regions above first (first + count)) (λ name. IsWithin regions above first (first + count) name.0)
  within-last above first count last is at_first None at_last = none-within above first count last is at_first at_last
  within-last above first count last is at_first (Some name) within = within

-- ---- where the search for the next region that lies within goes on

-- the parent of a region below, where it is live and lies in the range
pub parent-within : (regions : ℕ → Option Region) → AreGoodRegions regions → (above first end name : ℕ) (region up : Region) (p : RegionName)
    → is_below regions above name ≡ true → regions name ≡ Some region → region.parent ≡ Some p → (p.0 == above) ≡ false
    → regions p.0 ≡ Some up → up.live ≡ true → lies_in first end up ≡ true → IsWithin regions above first end p.0
parent-within regions good above first end name region up p below e f apart given live inside = record {
  region = up;
  given = given;
  live = live;
  below = sym (ap (λ (b : Bool). b || is_below regions above p.0) apart) ∙ (sym (is_below-step regions good above name region p e f) ∙ below);
  inside = inside;
}

-- what died lies below what it lay below
dead-below : (regions new : ℕ → Option Region) (above first end name : ℕ) → IsWithin regions above first end name → new ≡ with_one_dead regions name
    → is_below new above name ≡ true
dead-below regions new above first end name within e =
    ap (λ (r : ℕ → Option Region). is_below r above name) e ∙ (is_below-killed regions (λ n. n == name) above name ∙ within.below)

-- so it tells the parent that it had
pub dead-above : (regions new : ℕ → Option Region) (above first end name : ℕ) → IsWithin regions above first end name → new ≡ with_one_dead regions name
    → (dying : Region) → regions name ≡ Some dying → IsAbove new above dying.parent
dead-above regions new above first end name within e dying given = record {
  name = name;
  region = record dying { live = false };
  given = ap (λ (r : ℕ → Option Region). r name) e
      ∙ (killed-at regions (λ n. n == name) name dying given ∙ ap (λ (b : Bool). Some (cond b (record dying { live = false }) dying)) (eqb_same name));
  below = dead-below regions new above first end name within e;
  parent_is = refl;
}

-- two extents of a list that have one number are the same
covers-same : (children : ℕ → ℕ → Option (Extent RegionName)) → StandApart children → (p q n m : ℕ) (d e : Extent RegionName) → Covers (children p) q n d → Covers (children p) q m e → d ≡ e
covers-same children stand p q n m d e x y = elim (cases_order n m) [
  | inl same ↦ some_same (sym x.is ∙ (ap (children p) same ∙ y.is))
  | inr (inl less) ↦ absurd (omega (arith, stand.apart p n m d e x.is y.is less, x.below, y.from))
  | inr (inr more) ↦ absurd (omega (arith, stand.apart p m n e d y.is x.is more, y.below, x.from))
]

-- ---- the first extent of a list in a range

module _ (children : ℕ → ℕ → Option (Extent RegionName)) (stand : StandApart children) (p first count end : ℕ) (ends : end ≡ min (first + count) (2 ^ 64 - 1)) where
  -- the next extent lies in it
  pub between-next : (start : ℕ) (e : Extent RegionName) → IsNext (children p) first (Some start) → children p start ≡ Some e → start + e.count ≤ end
      → IsBetween (children p) first (first + count) e.value.0
  between-next start e next is to = record {
    start = start;
    extent = e;
    is = is;
    name_is = refl;
    low = (next.least start refl).0;
    high = omega (arith, to, ends);
  }

  -- no extent begins in it
  pub none-next : IsNext (children p) first None → HasNoExtentBetween (children p) first (first + count)
  none-next next name between = let none = next.none refl between.start between.low in let is = between.is in cc

  -- the first extent that begins in it ends past it
  pub none-past : (start : ℕ) (e : Extent RegionName) → IsNext (children p) first (Some start) → children p start ≡ Some e → end < start + e.count
      → HasNoExtentBetween (children p) first (first + count)
  none-past start e next is past name between =
      let high = between.high in
      let last = stand.end p start e is in
      elim (cases_order between.start start) [
        | inl same ↦
            let its : between.extent ≡ e = some_same (sym between.is ∙ (ap (children p) same ∙ is)) in
            omega (arith, ap (λ (x : Extent RegionName). x.count) its, same, high, past, ends, last)
        | inr (inl less) ↦ (let none = (next.least start refl).2 between.start between.low less in let there = between.is in cc)
        | inr (inr more) ↦ omega (arith, stand.apart p start between.start e between.extent is between.is more, high, past, ends, last)
      ]

module _ (regions : ℕ → Option Region) (children : ℕ → ℕ → Option (Extent RegionName)) (tree : IsTree regions children) where
  -- ---- what lies in a range

  -- an extent that lies in the range, and its child
  pub between-child : (parent first end name : ℕ) → IsBetween (children parent) first end name
      → (region : Region) × (regions name ≡ Some region) × (is_child parent region ≡ true) × (lies_in first end region ≡ true)
  between-child parent first end name is =
      let c = tree.child parent is.start is.extent is.is in (
        c.region,
        ap regions (sym is.name_is) ∙ c.given,
        c.child,
        lies_in_from first end c.region (omega (arith, is.low, c.first)) (omega (arith, is.high, c.first, c.count)),
      )

  -- no extent in the range, no child
  pub none-between : (parent first end : ℕ) → HasNoExtentBetween (children parent) first end → any_child regions parent (lies_in first end) ≡ false
  none-between parent first end none = none_child regions parent (lies_in first end) (λ n region e child.
      false_from_ne_true (lies_in first end region) (λ lies.
      let parts = lies_in_parts first end region lies in
      none n (record {
        start = region.first;
        extent = extent_for n region;
        is = tree.listed parent n region e child;
        name_is = refl;
        low = parts.0;
        high = parts.1;
      })))

  -- a child in the range lies within what its parent is, or lies below
  pub between-within : (above parent first end name : ℕ) → (parent ≡ above) ⊎ (is_below regions above parent ≡ true) → IsBetween (children parent) first end name
      → IsWithin regions above first end name
  between-within above parent first end name under is =
      let child = between-child parent first end name is in
      record {
        region = child.0;
        given = child.1;
        live = (is_child_parts parent child.0 child.2).0;
        below = elim under [
          | inl same ↦ below-child regions tree.good name child.0 above child.1 (subst (λ (k : ℕ). is_child k child.0 ≡ true) same child.2)
          | inr below ↦ below-deeper regions tree.good name child.0 above parent child.1 child.2 below
        ];
        inside = child.3;
      }

  -- one step down
  pub step-under : (above parent page : ℕ) (e : Extent RegionName) → (parent ≡ above) ⊎ (is_below regions above parent ≡ true) → children parent page ≡ Some e
      → (e.value.0 ≡ above) ⊎ (is_below regions above e.value.0 ≡ true)
  step-under above parent page e under is =
      let c = tree.child parent page e is in
      inr (elim under [
        | inl same ↦ below-child regions tree.good e.value.0 c.region above c.given (subst (λ (k : ℕ). is_child k c.region ≡ true) same c.child)
        | inr below ↦ below-deeper regions tree.good e.value.0 c.region above parent c.given c.child below
      ])

  -- where no child has the page, nothing below has it
  pub none-over : (above page first end : ℕ) → HasNoExtentBetween (children above) first end → ((start : ℕ) (e : Extent RegionName) → Covers (children above) page start e → ⊥)
      → HasNoneOver regions above page first end
  none-over above page first end none bare = record {
    here = none-between above first end none;
    deeper = λ name over.
        let up = has-over regions tree.good above name over.region over.given over.live over.below in
        absurd (bare up.over.first (extent_for up.name up.over) (record {
          is = tree.listed above up.name up.over up.given up.child;
          from = omega (arith, over.low, up.low);
          below = omega (arith, over.high, up.high);
        }));
  }

  -- where a child has it, what has it below is the child or lies below the child
  pub over-step : StandApart children → (above page first end start : ℕ) (e : Extent RegionName) → HasNoExtentBetween (children above) first end → Covers (children above) page start e
      → HasNoneOver regions e.value.0 page first end → HasNoneOver regions above page first end
  over-step stand above page first end start e none covers under = record {
    here = none-between above first end none;
    deeper = λ name over.
        let up = has-over regions tree.good above name over.region over.given over.live over.below in
        let its : Covers (children above) page up.over.first (extent_for up.name up.over) = record {
          is = tree.listed above up.name up.over up.given up.child;
          from = omega (arith, over.low, up.low);
          below = omega (arith, over.high, up.high);
        } in
        let same : e.value.0 ≡ up.name = ap (λ (x : Extent RegionName). x.value.0) (covers-same children stand above page start up.over.first e (extent_for up.name up.over) covers its) in
        elim up.at_or_below [
          | inl it ↦ subst (λ (k : ℕ). any_child regions k (lies_in first end) ≡ false) (same ∙ sym it) under.here
          | inr below ↦ under.deeper name (record {
            region = over.region;
            given = over.given;
            live = over.live;
            below = ap (λ (k : ℕ). is_below regions k name) same ∙ below;
            low = over.low;
            high = over.high;
          })
        ];
  }

  -- ---- down to a region with no live child

  -- a child of a region in a range
  pub deeper-within : (above first end p page : ℕ) (e : Extent RegionName) → children p page ≡ Some e → IsWithin regions above first end p → IsWithin regions above first end e.value.0
  deeper-within above first end p page e is within =
      let c = tree.child p page e is in
      let up = is_child_parts p c.region c.child in
      let parents = tree.good.parents e.value.0 c.region up.1 c.given up.2 in
      let same : within.region ≡ parents.0 = some_same (sym within.given ∙ (ap regions (sym up.3) ∙ parents.1)) in
      let inside = reaches_over_parts c.region.first (end_of c.region) parents.0 (parents.3.inside up.0) in
      let lies = lies_in_parts first end within.region within.inside in
      let first_same = ap (λ (r : Region). r.first) same in
      let end_same = ap end_of same in
      record {
        region = c.region;
        given = c.given;
        live = up.0;
        below = below-deeper regions tree.good e.value.0 c.region above p c.given c.child within.below;
        inside = lies_in_from first end c.region (omega (arith, lies.0, inside.0, first_same)) (omega (arith, lies.1, inside.1, end_same));
      }

  -- the measure falls
  pub deeper-child : (p page : ℕ) (e : Extent RegionName) → children p page ≡ Some e → NAMES - depth_of regions e.value.0 < NAMES - depth_of regions p
  deeper-child p page e is =
      let c = tree.child p page e is in
      let up = is_child_parts p c.region c.child in
      let less = deeper regions tree.good e.value.0 c.region up.1 c.given up.2 in
      subst (λ (k : ℕ). NAMES - depth_of regions e.value.0 < NAMES - depth_of regions k) up.3 less

  -- a region of which no extent is has no live child
  pub childless-none : (p : ℕ) → IsNext (children p) 0 None → has_child regions p ≡ false
  childless-none p next = none_child regions p (λ (region : Region). true) (λ n region e child.
      absurd (let listed = tree.listed p n region e child in let none = next.none refl region.first (omega arith) in cc))
