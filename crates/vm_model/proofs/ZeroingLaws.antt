-- Laws of pages that become zero, in a range and by another size: which pages stay, who shows a frame then, how many frames are
-- used, and that contents stay good.
use Rattle.std.proofs.Common.{◌≡◌, ◌≢◌, ℕ, ◌<◌, ◌≤◌, true, false, cond, ◌==◌, Option, None, Some, ◌⊎◌, refl, sym, ap, ◌∙◌, inl, inr, arith}
use Rattle.std.specs.Prelude.{nat_lt, nat_le, IsSome}
use Rattle.std.proofs.lemmas.Bool.{cases_eq, cases_lt, and_parts, and_from, and_left, and_right, le-leb, lt-leb, leb-true, lt-ltb, le-ltb, ltb-true, eq-eqb}
use Rattle.vm_base.specs.declared.limits.TheConstants.{VMO_PAGES}
use Rattle.vm_model.specs.Contents.Content.{Page, Content, pages_of, in_use, used, sole, IsGood}
use Rattle.vm_model.specs.Contents.Zeroing.{is_within, zeroed, resized}
use Rattle.vm_base.proofs.SearchLaws.{count_below_less, eqb_apart}
use Rattle.vm_model.proofs.ContentLaws.{pages_of-at, pages_of-same, zero_not_held, in_use_found, in_use_at, ChangesVmo, sole-other, own_pages, IsGood-part}
use Rattle.vm_base.proofs.EntryLaws.{with_key-same, with_key-here, with_key-other, with_key-cases, some_is}

-- ---- ranges of pages

-- a page between the bounds is within them
pub is_within-true : (first end p : ℕ) → first ≤ p → p < end → is_within first end p ≡ true
is_within-true first end p h l = and_from (nat_le first p) (nat_lt p end) (le-leb first p h) (lt-ltb p end l)

-- a page before or behind them is not
pub is_within-false : (first end p : ℕ) → (p < first) ⊎ (end ≤ p) → is_within first end p ≡ false
is_within-false first end p (inl before) = and_left (nat_le first p) (nat_lt p end) (lt-leb first p before)
is_within-false first end p (inr behind) = and_right (nat_le first p) (nat_lt p end) (le-ltb p end behind)

-- a page within the bounds lies between them
pub is_within-parts : (first end p : ℕ) → is_within first end p ≡ true → (first ≤ p) × (p < end)
is_within-parts first end p e =
    let both = and_parts (nat_le first p) (nat_lt p end) e in
    (leb-true first p both.0, ltb-true p end both.1)

-- a page is within the bounds, or before or behind them
pub cases_within : (first end p : ℕ) → ((first ≤ p) × (p < end)) ⊎ ((p < first) ⊎ (end ≤ p))
cases_within first end p = elim (cases_lt p first) [
  | inl before ↦ inr (inl before)
  | inr from ↦ elim (cases_lt p end) [ inl inside ↦ inl (from, inside) | inr behind ↦ inr (inr behind) ]
]

-- ---- pages that become zero

-- a page is one of the range in v, or not
pub cases_zeroed : (v first end w p : ℕ) → ((w ≡ v) × (first ≤ p) × (p < end)) ⊎ (w ≡ v → (p < first) ⊎ (end ≤ p))
cases_zeroed v first end w p = elim (cases_eq w v) [
  | inr apart ↦ inr (λ same. absurd (apart same))
  | inl same ↦ elim (cases_within first end p) [ inl inside ↦ inl (same, inside.0, inside.1) | inr outside ↦ inr (λ here. outside) ]
]

module _ (c : Content) (v first end : ℕ) where
  -- a page of the range is zero
  pub page-zeroed_in : (w p : ℕ) → w ≡ v → first ≤ p → p < end → (zeroed c v first end).page w p ≡ None
  unfolding zeroed
  page-zeroed_in w p same h l =
      ap (λ b. cond b None (c.page w p)) (and_from (w == v) (is_within first end p) (eq-eqb w v same) (is_within-true first end p h l))

  -- the other pages stay
  pub page-zeroed_out : (w p : ℕ) → (w ≡ v → (p < first) ⊎ (end ≤ p)) → (zeroed c v first end).page w p ≡ c.page w p
  unfolding zeroed
  page-zeroed_out w p out = ap (λ b. cond b None (c.page w p)) (elim (cases_eq w v) [
    | inl same ↦ and_right (w == v) (is_within first end p) (is_within-false first end p (out same))
    | inr apart ↦ and_left (w == v) (is_within first end p) (eqb_apart w v apart)
  ])

  -- a page that is held now was held before, and is not one of the range
  pub page-zeroed_some : (w p : ℕ) (held : Page) → (zeroed c v first end).page w p ≡ Some held
      → (c.page w p ≡ Some held) × (w ≡ v → (p < first) ⊎ (end ≤ p))
  page-zeroed_some w p held e = elim (cases_zeroed v first end w p) [
    | inl inside ↦ absurd (zero_not_held _ held (page-zeroed_in w p inside.0 inside.1 inside.2) e)
    | inr out ↦ (sym (page-zeroed_out w p out) ∙ e, out)
  ]

  pub ChangesVmo-zeroed : ChangesVmo c (zeroed c v first end) v
  unfolding zeroed
  ChangesVmo-zeroed = record {
    next = refl;
    count = λ w apart. refl;
    page = λ w q apart. page-zeroed_out w q (λ same. absurd (apart same));
  }

  -- a content stays good
  pub IsGood-zeroed : IsGood c → IsGood (zeroed c v first end)
  unfolding zeroed pages_of
  IsGood-zeroed good = IsGood-part c (zeroed c v first end) good (record {
    frames = refl;
    first_koid = good.first_koid;
    counts = λ w n e. let k = good.koids w n e in (k.0, k.1, good.counts w n e);
    below = λ w q held e. good.below w q held (page-zeroed_some w q held e).0;
    pages = own_pages c (zeroed c v first end) (λ w q held e. (page-zeroed_some w q held e).0);
  })

  -- a page outside of the range is sole where it was
  pub sole-zeroed_out : (p : ℕ) → (p < first) ⊎ (end ≤ p) → sole (zeroed c v first end) v p ≡ sole c v p
  sole-zeroed_out p out = sole-other c (zeroed c v first end) v ChangesVmo-zeroed p (page-zeroed_out v p (λ same. out))

  -- no more frames are used
  pub used-zeroed_le : IsGood c → used (zeroed c v first end) ≤ used c
  unfolding used zeroed
  used-zeroed_le good = count_below_less c.frames (in_use (zeroed c v first end)) (in_use c) (λ t h e.
      let page = in_use_found (zeroed c v first end) t e in
      in_use_at c t page.0 page.1 page.2 good (page-zeroed_some page.0 page.1 page.2 page.5).0 page.6)

-- ---- where nothing becomes zero, and one range after another

-- where the range has no held page, nothing changes
pub zeroed-none : (c : Content) (v first end : ℕ) → ((p : ℕ) → first ≤ p → p < end → c.page v p ≡ None) → zeroed c v first end ≡ c
unfolding zeroed
zeroed-none c v first end none = λ i. record c { page = λ w p. each w p i } where
  each : (w p : ℕ) → (zeroed c v first end).page w p ≡ c.page w p
  each w p = elim (cases_zeroed v first end w p) [
    | inl inside ↦
        page-zeroed_in c v first end w p inside.0 inside.1 inside.2
        ∙ sym (ap (λ (u : ℕ). c.page u p) inside.0 ∙ none p inside.1 inside.2)
    | inr out ↦ page-zeroed_out c v first end w p out
  ]

-- ---- another size

-- no page is held past the end
pub page_past : (c : Content) (v p : ℕ) → IsGood c → pages_of c v ≤ p → c.page v p ≡ None
page_past c v p good h = go (c.page v p) refl where
  go : (o : Option Page) → c.page v p ≡ o → o ≡ None
  go None e = refl
  go (Some held) e = absurd (omega (arith, good.below v p held e))

module _ (c : Content) (v pages : ℕ) where
  -- the VMO has the new count
  pub count-resized_here : (resized c v pages).count v ≡ Some pages
  unfolding resized
  count-resized_here = with_key-same c.count v pages

  -- and the others have theirs
  pub count-resized_other : (w : ℕ) → w ≢ v → (resized c v pages).count w ≡ c.count w
  unfolding resized
  count-resized_other w apart = with_key-other c.count v pages w apart

  -- the pages below the new end stay, and those of other VMOs
  pub page-resized_stays : (w p : ℕ) → (w ≡ v → p < pages) → (resized c v pages).page w p ≡ c.page w p
  unfolding resized
  page-resized_stays w p low = page-zeroed_out c v pages (pages_of c v) w p (λ same. inl (low same))

  -- a page that is held now was held before
  pub page-resized_some : (w p : ℕ) (held : Page) → (resized c v pages).page w p ≡ Some held → c.page w p ≡ Some held
  unfolding resized
  page-resized_some w p held e = (page-zeroed_some c v pages (pages_of c v) w p held e).0

  -- a content stays good
  pub IsGood-resized : IsGood c → IsSome (c.count v) → pages ≤ VMO_PAGES → IsGood (resized c v pages)
  unfolding resized zeroed
  IsGood-resized good is_there few = IsGood-part c (resized c v pages) good (record {
    frames = refl;
    first_koid = good.first_koid;
    counts = λ w n e. elim (with_key-cases c.count v pages w n e) [
      | inl new ↦
          let count = some_is (c.count v) is_there in
          let k = good.koids v count.0 count.1 in
          (omega (arith, new.0, k.0), omega (arith, new.0, k.1), omega (arith, new.1))
      | inr old ↦ let k = good.koids w n old.1 in (k.0, k.1, good.counts w n old.1)
    ];
    below = λ w q held e.
        let was = page-zeroed_some c v pages (pages_of c v) w q held e in
        let low = good.below w q held was.0 in
        elim (cases_eq w v) [
          | inl same ↦
              let size = pages_of-at (resized c v pages) w pages (with_key-here c.count v pages w same) in
              elim (was.1 same) [ inl below ↦ omega arith | inr past ↦ absurd (omega (arith, low, past, ap (pages_of c) same)) ]
          | inr apart ↦
              let size = pages_of-same (resized c v pages) c w (with_key-other c.count v pages w apart) in
              omega arith
        ];
    pages = own_pages c (resized c v pages) page-resized_some;
  })
