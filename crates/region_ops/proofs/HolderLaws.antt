-- Who holds a page of an address space: of the live regions that have it, one whose live children don't. So no entry at all is in
-- a free place.
use Rattle.std.proofs.Common.{◌≡◌, ℕ, zero, suc, ◌+◌, ◌<◌, ◌≤◌, true, false, ◌==◌, Option, None, Some, ◌⊎◌, refl, sym, ap, ◌∙◌, inl, inr, arith}
use Rattle.std.proofs.lemmas.Bool.{or_cases, or_left, or_right, both_ways, false_from_ne_true, ltb-true}
use Rattle.std.specs.Prelude.{min, max}
use Rattle.vm_base.proofs.SearchLaws.{eqb_same, eqb_is}
use Rattle.vm_base.specs.declared.names.RegionName.{RegionName}
use Rattle.vm_model.specs.declared.space.Entry.{Entry}
use Rattle.vm_model.specs.declared.space.Region.{Region}
use Rattle.vm_model.specs.Contents.Content.{Content}
use Rattle.vm_model.specs.Space.Regions.{end_of, region_of, reaches_over, meets, is_child, meets_child, is_below, is_at_or_below, AreGoodRegions}
use Rattle.vm_model.specs.Space.AddressSpaces.{Spaces, AreGoodSpaces}
use Rattle.vm_model.specs.Space.Table.{has_entry}
use Rattle.vm_model.specs.Space.Places.{is_free}
use Rattle.vm_model.proofs.RegionLaws.{region_of-at, meets_at, reaches_over_parts, is_below-step}
use Rattle.vm_model.proofs.SpaceLaws.{child_none, none_child, is_free_parts, no_entry}
use Rattle.region_ops.specs.Holders.{HasPage}
use Rattle.region_tree.proofs.BelowLaws.{is_child_from, has-over}

module _ (regions : ℕ → Option Region) (good : AreGoodRegions regions) where
  -- each region is its root region or lies below it
  root_under : (fuel n : ℕ) (region : Region) → good.age n < fuel → regions n ≡ Some region → is_at_or_below regions region.root.0 n ≡ true
  root_under zero n region h e = absurd (omega (arith, h))
  root_under (suc fuel) n region h e = go region.parent refl (λ p up older e_up. root_under fuel p up (omega (arith, h, older)) e_up) where
    go : (o : Option RegionName) → region.parent ≡ o → ((p : ℕ) (up : Region) → good.age p < good.age n → regions p ≡ Some up → is_at_or_below regions up.root.0 p ≡ true)
        → is_at_or_below regions region.root.0 n ≡ true
    go None f each =
        let is = good.roots n region e f in
        or_left (n == region.root.0) (is_below regions region.root.0 n) (ap (λ (r : Region). n == r.root.0) is ∙ eqb_same n)
    go (Some p) f each =
        let up = good.parents n region p e f in
        let higher : is_at_or_below regions region.root.0 p.0 ≡ true =
        ap (λ (r : RegionName). is_at_or_below regions r.0 p.0) up.3.root ∙ each p.0 up.0 up.2 up.1 in
        or_right (n == region.root.0) (is_below regions region.root.0 n) (is_below-step regions good region.root.0 n region p e f ∙ higher)

  -- a live child of one region that has the page, and another region in it: they are the same where both are children
  same_child : (above n m p : ℕ) (x y : Region) → regions n ≡ Some x → regions m ≡ Some y → is_child above x ≡ true → is_child above y ≡ true
      → x.first ≤ p → p < end_of x → y.first ≤ p → p < end_of y → n ≡ m
  same_child above n m p x y e f child_x child_y low_x high_x low_y high_y = elim (good.apart above n m x y e f child_x child_y) [
    | inl same ↦ same
    | inr other ↦ elim other [ inl before ↦ absurd (omega (arith, before)) | inr behind ↦ absurd (omega (arith, behind)) ]
  ]

  -- of two live regions that have a page, one is the other or lies below it, where this is so of the parent of the first
  ordered_by : (root p n m : ℕ) → HasPage regions root p n → HasPage regions root p m
      → ((q : ℕ) → good.age q < good.age n → HasPage regions root p q → (is_at_or_below regions q m ≡ true) ⊎ (is_at_or_below regions m q ≡ true))
      → (is_at_or_below regions n m ≡ true) ⊎ (is_at_or_below regions m n ≡ true)
  ordered_by root p n m x y each = go x.region.parent refl where
    go : (o : Option RegionName) → x.region.parent ≡ o → (is_at_or_below regions n m ≡ true) ⊎ (is_at_or_below regions m n ≡ true)
    go None f =
        let is = good.roots n x.region x.given f in
        let top : y.region.root.0 ≡ n = y.root_is ∙ (sym x.root_is ∙ ap (λ (r : Region). r.root.0) is) in
        inl (ap (λ (r : ℕ). is_at_or_below regions r m) (sym top) ∙ root_under (good.age m + 1) m y.region (omega arith) y.given)
    go (Some q) f =
        let up = good.parents n x.region q x.given f in
        let inside = reaches_over_parts x.region.first (end_of x.region) up.0 (up.3.inside x.live) in
        let above : HasPage regions root p q.0 = record {
          region = up.0;
          given = up.1;
          live = up.3.live x.live;
          root_is = ap (λ (r : RegionName). r.0) (sym up.3.root) ∙ x.root_is;
          low = omega (arith, inside.0, x.low);
          high = omega (arith, inside.1, x.high);
        } in
        elim (each q.0 up.2 above) [
          | inr higher ↦ inr (or_right (n == m) (is_below regions m n) (is_below-step regions good m n x.region q x.given f ∙ higher))
          | inl under ↦ elim (or_cases (m == q.0) (is_below regions q.0 m) under) [
            | inl it ↦
                let same : q.0 ≡ m = sym (eqb_is m q.0 it) in
                inr (or_right (n == m) (is_below regions m n)
                (is_below-step regions good m n x.region q x.given f ∙ or_left (q.0 == m) (is_below regions m q.0) (ap (λ (k : ℕ). k == m) same ∙ eqb_same m)))
            | inr below ↦
                let over = has-over regions good q.0 m y.region y.given y.live below in
                let same = same_child q.0 n over.name p x.region over.over x.given over.given (is_child_from q.0 x.region q x.live f refl) over.child x.low x.high
                (omega (arith, over.low, y.low)) (omega (arith, over.high, y.high)) in
                inl (elim over.at_or_below [
                  | inl it ↦ or_left (m == n) (is_below regions n m) (ap (λ (k : ℕ). k == n) (it ∙ sym same) ∙ eqb_same n)
                  | inr deeper ↦ or_right (m == n) (is_below regions n m) (ap (λ (k : ℕ). is_below regions k m) same ∙ deeper)
                ])
          ]
        ]

  ordered_under : (fuel root p n m : ℕ) → good.age n < fuel → HasPage regions root p n → HasPage regions root p m → (is_at_or_below regions n m ≡ true) ⊎ (is_at_or_below regions m n ≡ true)
  ordered_under zero root p n m h x y = absurd (omega (arith, h))
  ordered_under (suc fuel) root p n m h x y = ordered_by root p n m x y (λ q older above. ordered_under fuel root p q m (omega (arith, h, older)) above y)

  -- a region below another that has the page lies in a live child that has it
  not_below : (root p n m : ℕ) → HasPage regions root p m → meets_child regions n p (p + 1) ≡ false → is_below regions n m ≡ true → ⊥
  not_below root p n m y alone below =
      let over = has-over regions good n m y.region y.given y.live below in
      let off = child_none regions n (meets p (p + 1)) alone over.name over.over (good.names over.name over.over over.given) over.given over.child in
      both_ways (meets p (p + 1) over.over) off (meets_at p (p + 1) p over.over (omega arith) (omega arith) (omega (arith, over.low, y.low)) (omega (arith, over.high, y.high)))

  -- one region alone holds a page: it has the page, and no live child of it does
  pub one_holder : (root p n m : ℕ) → HasPage regions root p n → HasPage regions root p m → meets_child regions n p (p + 1) ≡ false → meets_child regions m p (p + 1) ≡ false → n ≡ m
  one_holder root p n m x y alone_x alone_y = elim (ordered_under (good.age n + 1) root p n m (omega arith) x y) [
    | inl under ↦ elim (or_cases (m == n) (is_below regions n m) under) [
      | inl same ↦ sym (eqb_is m n same)
      | inr below ↦ absurd (not_below root p n m y alone_x below)
    ]
    | inr over ↦ elim (or_cases (n == m) (is_below regions m n) over) [
      | inl same ↦ eqb_is n m same
      | inr below ↦ absurd (not_below root p m n x alone_y below)
    ]
  ]

-- So no entry at all, of whichever region, is on a page of a free place of a live region.
pub free_bare : (c : Content) (spaces : Spaces) (name : ℕ) (region : Region) (first end p : ℕ) → AreGoodSpaces c spaces → spaces.regions name ≡ Some region
    → region.live ≡ true → is_free spaces name first end ≡ true → first ≤ p → p < end → spaces.table region.root.0 p ≡ None
free_bare c spaces name region first end p good given live free low high = go (spaces.table region.root.0 p) refl where
  here : region_of spaces.regions name ≡ region
  here = region_of-at spaces.regions name region given

  parts : (first < end) × (reaches_over first end (region_of spaces.regions name) ≡ true) × (meets_child spaces.regions name first end ≡ false)
      × (has_entry spaces.table (region_of spaces.regions name).root.0 name first end ≡ false)
  parts = is_free_parts spaces name first end free

  mine : HasPage spaces.regions region.root.0 p name
  mine =
      let inside = reaches_over_parts first end (region_of spaces.regions name) parts.1 in
      record { region = region; given = given; live = live; root_is = refl; low = omega (arith, inside.0, ap (λ (r : Region). r.first) here); high = omega (arith, inside.1, ap end_of here) }

  -- no live child of the region has the page
  alone : meets_child spaces.regions name p (p + 1) ≡ false
  alone = none_child spaces.regions name (meets p (p + 1)) (λ n child e is.
      let off = child_none spaces.regions name (meets first end) parts.2 n child (good.regions.names n child e) e is in
      false_from_ne_true (meets p (p + 1) child) (λ met.
      let both = ltb-true (max p child.first) (min (p + 1) (end_of child)) met in
      both_ways (meets first end child) off (meets_at first end p child low high (omega (arith, both)) (omega (arith, both)))))

  go : (o : Option Entry) → spaces.table region.root.0 p ≡ o → spaces.table region.root.0 p ≡ None
  go None e = e
  go (Some entry) e =
      let fine = good.entries region.root.0 p entry e in
      let inside = reaches_over_parts p (p + 1) fine.region fine.inside in
      let its : HasPage spaces.regions region.root.0 p entry.region.0 =
      record { region = fine.region; given = fine.given; live = fine.live; root_is = fine.root_is; low = inside.0; high = omega (arith, inside.1) } in
      let same = one_holder spaces.regions good.regions region.root.0 p entry.region.0 name its mine fine.alone alone in
      absurd (no_entry spaces (region_of spaces.regions name).root.0 name first end p entry parts.3 low high
      (ap (λ (r : Region). spaces.table r.root.0 p) here ∙ e) same)
