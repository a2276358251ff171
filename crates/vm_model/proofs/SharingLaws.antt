-- Laws of sharing: who shows a frame, what a snapshot and a VMO that leaves change, and that contents stay good.
use Rattle.std.proofs.Common.{◌≡◌, ◌≢◌, ℕ, ◌+◌, ◌<◌, ◌≤◌, Bool, true, false, not, cond, ◌==◌, Option, None, Some, ◌⊎◌, refl, sym, ap, ◌∙◌, inl, inr, arith}
use Rattle.std.specs.Prelude.{unwrap_or, IsSome, is_some}
use Rattle.std.proofs.lemmas.Bool.{cases_eq, cases_lt, lt-ltb, le-ltb}
use Rattle.vm_base.specs.declared.limits.TheConstants.{VMO_PAGES}
use Rattle.vm_base.specs.Entries.{with_key}
use Rattle.vm_model.specs.Contents.Content.{Page, Content, pages_of, views, IsGood}
use Rattle.vm_model.specs.Contents.Sharing.{page_seen, snapshotted, only, without}
use Rattle.vm_base.proofs.SearchLaws.{eqb_same, eqb_apart}
use Rattle.vm_model.proofs.ContentLaws.{zero_not_held, views_at, koid_below, own_pages, IsGood-part, counts_more}

-- ---- which VMOs show a frame

-- a VMO shows the frames of its held pages
pub views_held : (c : Content) (t v p : ℕ) (held : Page) → IsGood c → c.page v p ≡ Some held → held.tag ≡ t → views c t v ≡ true
views_held c t v p held good e tag = views_at c t v p held (good.below v p held e) e tag

-- the koid of a page that is held
pub koid_held : (c : Content) (v p : ℕ) (held : Page) → IsGood c → c.page v p ≡ Some held → v < c.next
koid_held c v p held good e = koid_below c v p good (good.below v p held e)

-- ---- a snapshot

pub page_seen-in : (c : Content) (v first seen p : ℕ) → p < seen → page_seen c v first seen p ≡ c.page v (first + p)
unfolding page_seen
page_seen-in c v first seen p h = ap (λ b. cond b (c.page v (first + p)) None) (lt-ltb p seen h)

pub page_seen-out : (c : Content) (v first seen p : ℕ) → seen ≤ p → page_seen c v first seen p ≡ None
unfolding page_seen
page_seen-out c v first seen p h = ap (λ b. cond b (c.page v (first + p)) None) (le-ltb p seen h)

-- a page that a snapshot holds is one that it sees
pub page_seen_held : (c : Content) (v first seen p : ℕ) (held : Page) → page_seen c v first seen p ≡ Some held → (p < seen) × (c.page v (first + p) ≡ Some held)
page_seen_held c v first seen p held e = elim (cases_lt p seen) [
  | inl inside ↦ (inside, sym (page_seen-in c v first seen p inside) ∙ e)
  | inr outside ↦ absurd (zero_not_held (page_seen c v first seen p) held (page_seen-out c v first seen p outside) e)
]

module _ (c : Content) (v first seen pages : ℕ) where
  -- it has its pages
  pub count-snapshotted_new : (snapshotted c v first seen pages).count c.next ≡ Some pages
  unfolding snapshotted
  count-snapshotted_new = ap (λ b. cond b (Some pages) (c.count c.next)) (eqb_same c.next)

  pub page-snapshotted_new : (p : ℕ) → (snapshotted c v first seen pages).page c.next p ≡ page_seen c v first seen p
  unfolding snapshotted
  page-snapshotted_new p = ap (λ b. cond b (page_seen c v first seen p) (c.page c.next p)) (eqb_same c.next)

  pub page-snapshotted_other : (w p : ℕ) → w ≢ c.next → (snapshotted c v first seen pages).page w p ≡ c.page w p
  unfolding snapshotted
  page-snapshotted_other w p apart = ap (λ b. cond b (page_seen c v first seen p) (c.page w p)) (eqb_apart w c.next apart)

  -- a page that is held now is one that the snapshot sees, or was held before
  pub page-snapshotted_cases : (w p : ℕ) (held : Page) → (snapshotted c v first seen pages).page w p ≡ Some held
      → ((w ≡ c.next) × (p < seen) × (c.page v (first + p) ≡ Some held)) ⊎ ((w ≢ c.next) × (c.page w p ≡ Some held))
  page-snapshotted_cases w p held e = elim (cases_eq w c.next) [
    | inl same ↦
        let here = ap (λ (u : ℕ). (snapshotted c v first seen pages).page u p) (sym same) ∙ e in
        let sees = page_seen_held c v first seen p held (sym (page-snapshotted_new p) ∙ here) in
        inl (same, sees.0, sees.1)
    | inr apart ↦ inr (apart, sym (page-snapshotted_other w p apart) ∙ e)
  ]

  -- a page that was held is held still
  pub page-snapshotted_old : (w p : ℕ) (held : Page) → IsGood c → c.page w p ≡ Some held → (snapshotted c v first seen pages).page w p ≡ Some held
  page-snapshotted_old w p held good e =
      let h = koid_held c w p held good e in page-snapshotted_other w p (omega arith) ∙ e

  -- a content stays good
  pub IsGood-snapshotted : IsGood c → seen ≤ pages → pages ≤ VMO_PAGES → IsGood (snapshotted c v first seen pages)
  unfolding snapshotted with_key pages_of
  IsGood-snapshotted good few bound = IsGood-part c (snapshotted c v first seen pages) good (record {
    frames = refl;
    first_koid = omega arith;
    counts = counts_more c pages good bound;
    below = λ w q held e. below w q held (w == c.next) e (good.below w q held);
    pages = record {
      home = λ w. cond (w == c.next) v w;
      place = λ w q. cond (w == c.next) (first + q) q;
      from = λ w q held e. from w q held (w == c.next) e;
      one_place = λ w q y same. one_place q y (w == c.next) same;
    };
  }) where
    below : (w q : ℕ) (held : Page) (b : Bool) → cond b (page_seen c v first seen q) (c.page w q) ≡ Some held
        → (c.page w q ≡ Some held → q < unwrap_or (c.count w) 0) → q < unwrap_or (cond b (Some pages) (c.count w)) 0
    below w q held true e old = omega (arith, (page_seen_held c v first seen q held e).0, few)
    below w q held false e old = old e

    from : (w q : ℕ) (held : Page) (b : Bool) → cond b (page_seen c v first seen q) (c.page w q) ≡ Some held
        → c.page (cond b v w) (cond b (first + q) q) ≡ Some held
    from w q held true e = (page_seen_held c v first seen q held e).1
    from w q held false e = e

    one_place : (q y : ℕ) (b : Bool) → cond b (first + q) q ≡ cond b (first + y) y → q ≡ y
    one_place q y true same = omega arith
    one_place q y false same = same

-- ---- VMOs that leave

-- what is there of a thing that may leave
stays_some : {A : Type 0} (b : Bool) (o : Option A) (a : A) → cond b o None ≡ Some a → (b ≡ true) × (o ≡ Some a)
stays_some true o a e = (refl, e)
stays_some false o a e = absurd cc

module _ (c : Content) (stays : ℕ → Bool) where
  pub page-only_stays : (v p : ℕ) → stays v ≡ true → (only c stays).page v p ≡ c.page v p
  unfolding only
  page-only_stays v p e = ap (λ b. cond b (c.page v p) None) e

  -- a page that is held now is one of a VMO that stays, and was held before
  pub page-only_held : (v p : ℕ) (held : Page) → (only c stays).page v p ≡ Some held → (stays v ≡ true) × (c.page v p ≡ Some held)
  unfolding only
  page-only_held v p held e = stays_some (stays v) (c.page v p) held e

  -- a content stays good
  pub IsGood-only : IsGood c → IsGood (only c stays)
  unfolding only pages_of
  IsGood-only good = IsGood-part c (only c stays) good (record {
    frames = refl;
    first_koid = good.first_koid;
    counts = λ w n e.
        let old = (stays_some (stays w) (c.count w) n e).1 in
        let k = good.koids w n old in (k.0, k.1, good.counts w n old);
    below = λ w q held e.
        let old = page-only_held w q held e in
        omega (arith, good.below w q held old.1, ap (λ b. unwrap_or (cond b (c.count w) None) 0) old.0);
    pages = own_pages c (only c stays) (λ w q held e. (page-only_held w q held e).1);
  })

-- ---- one VMO that leaves

module _ (c : Content) (v : ℕ) where
  pub count-without_here : (without c v).count v ≡ None
  unfolding only
  count-without_here = ap (λ b. cond (not b) (c.count v) None) (eqb_same v)

  pub count-without_other : (w : ℕ) → w ≢ v → (without c v).count w ≡ c.count w
  unfolding only
  count-without_other w apart = ap (λ b. cond (not b) (c.count w) None) (eqb_apart w v apart)

-- a VMO's koid is below the next
pub koid_some : (c : Content) (v : ℕ) → IsGood c → IsSome (c.count v) → v < c.next
koid_some c v good is_there = go (c.count v) refl is_there where
  go : (o : Option ℕ) → c.count v ≡ o → is_some o ≡ true → v < c.next
  go None e h = absurd cc
  go (Some n) e h = (good.koids v n e).1
