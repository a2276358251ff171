-- Laws of contents: what holding a page or making a VMO changes, who shows a frame, and how many frames are used.
use Rattle.std.proofs.Common.{◌≡◌, ◌≢◌, ℕ, ◌+◌, ◌<◌, ◌≤◌, Bool, true, false, not, cond, ◌&&◌, ◌==◌, length, Option, None, Some, ◌⊎◌, refl, sym, ap, subst, ◌∙◌, inl, inr, arith}
use Rattle.std.specs.Prelude.{unwrap_or, is_some}
use Rattle.std.specs.Cmp.{both_ways as same_tests}
use Rattle.std.proofs.lemmas.Bool.{cases_eq, and_parts, and_from, and_left, false_from_ne_true, both_ways, not-true, not-false, eqb-false, eq-eqb}
use Rattle.std.proofs.lemmas.Bool.Decides.{Decides-eqb}
use Rattle.vm_base.specs.declared.limits.TheConstants.{PAGE, VMO_PAGES}
use Rattle.vm_base.specs.Search.{any_below}
use Rattle.vm_base.specs.Entries.{with_key}
use Rattle.vm_model.specs.Contents.Content.{Page, Content, nothing, bytes_of, is_held, pages_of, has_tag, views, in_use, used, seen_elsewhere, is_sole_page, sole, hold, created, IsGood}
use Rattle.vm_base.specs.Pages.{zeros}
use Rattle.vm_base.proofs.EntryLaws.{with_key-other, with_key-cases}
use Rattle.vm_base.proofs.SearchLaws.{any_below_found, any_below_at, any_below_same, count_below_same, count_below_one_more, count_below_none, eqb_same, eqb_apart, eqb_is}

-- two contents that answer alike are equal
pub same_content : (c d : Content) → c.frames ≡ d.frames → c.next ≡ d.next → ((v : ℕ) → c.count v ≡ d.count v) → ((v p : ℕ) → c.page v p ≡ d.page v p) → c ≡ d
same_content c d frames next count page = λ i. record { frames = frames i; next = next i; count = λ v. count v i; page = λ v p. page v p i }

-- ---- what the words say of options

pub pages_of-at : (c : Content) (v n : ℕ) → c.count v ≡ Some n → pages_of c v ≡ n
unfolding pages_of
pages_of-at c v n e = ap (λ o. unwrap_or o 0) e

-- the same count, the same number of pages
pub pages_of-same : (c d : Content) (v : ℕ) → c.count v ≡ d.count v → pages_of c v ≡ pages_of d v
unfolding pages_of
pages_of-same c d v e = ap (λ o. unwrap_or o 0) e

-- a VMO of a good content has no more pages than a VMO may have
pub pages_of_le : (c : Content) (v : ℕ) → IsGood c → pages_of c v ≤ VMO_PAGES
unfolding pages_of
pages_of_le c v good = go (c.count v) (good.counts v) where
  go : (o : Option ℕ) → ((n : ℕ) → o ≡ Some n → n ≤ VMO_PAGES) → unwrap_or o 0 ≤ VMO_PAGES
  go None each = omega arith
  go (Some n) each = each n refl

pub count_from_page : (c : Content) (v p : ℕ) → p < pages_of c v → c.count v ≡ Some (pages_of c v)
unfolding pages_of
count_from_page c v p h = go (c.count v) h where
  go : (o : Option ℕ) → p < unwrap_or o 0 → o ≡ Some (unwrap_or o 0)
  go None l = absurd (omega arith)
  go (Some n) l = refl

pub has_tag_from : (t : ℕ) (o : Option Page) (held : Page) → o ≡ Some held → held.tag ≡ t → has_tag t o ≡ true
unfolding has_tag
has_tag_from t o held e same = ap (has_tag t) e ∙ (Decides-eqb held.tag t).1 same

pub has_tag_held : (t : ℕ) (o : Option Page) → has_tag t o ≡ true → (held : Page) × (o ≡ Some held) × (held.tag ≡ t)
unfolding has_tag
has_tag_held t None e = absurd cc
has_tag_held t (Some held) e = (held, refl, eqb_is held.tag t e)

pub bytes_of-none : (o : Option Page) → o ≡ None → bytes_of o ≡ zeros
unfolding bytes_of
bytes_of-none o e = ap bytes_of e

pub bytes_of-some : (o : Option Page) (held : Page) → o ≡ Some held → bytes_of o ≡ held.bytes
unfolding bytes_of
bytes_of-some o held e = ap bytes_of e

-- a page that is zero is not held
pub zero_not_held : (o : Option Page) (held : Page) → o ≡ None → o ≡ Some held → ⊥
zero_not_held o held zero e = let none : ◌≡◌ {A = Option Page} None (Some held) = sym zero ∙ e in absurd cc

-- a page is held in one way
pub held_once : (o : Option Page) (held other : Page) → o ≡ Some held → o ≡ Some other → held.tag ≡ other.tag
held_once o held other e f =
    let both : ◌≡◌ {A = Option Page} (Some held) (Some other) = sym e ∙ f in
    let same : held ≡ other = cc in
    ap (λ (page : Page). page.tag) same

-- ---- a page held

-- a page is this one or another
pub same_page : (v p w q : ℕ) → ((w ≡ v) × (q ≡ p)) ⊎ (w ≡ v → q ≡ p → ⊥)
same_page v p w q = elim (cases_eq w v) [
  | inl vmo ↦ elim (cases_eq q p) [ inl page ↦ inl (vmo, page) | inr apart ↦ inr (λ same page. apart page) ]
  | inr apart ↦ inr (λ same page. apart same)
]

module _ (c : Content) (v p : ℕ) (held : Page) where
  pub page-hold_here : (hold c v p held).page v p ≡ Some held
  unfolding hold
  page-hold_here = ap (λ b. cond b (Some held) (c.page v p)) (and_from (v == v) (p == p) (eqb_same v) (eqb_same p))

  pub page-hold_other : (w q : ℕ) → (w ≡ v → q ≡ p → ⊥) → (hold c v p held).page w q ≡ c.page w q
  unfolding hold
  page-hold_other w q apart =
      ap (λ b. cond b (Some held) (c.page w q)) (false_from_ne_true ((w == v) && (q == p)) (λ e.
      let both = and_parts (w == v) (q == p) e in apart (eqb_is w v both.0) (eqb_is q p both.1)))

  -- a page that is held now is the new one, or another that was held before
  pub page-hold_cases : (w q : ℕ) (other : Page) → (hold c v p held).page w q ≡ Some other
      → ((w ≡ v) × (q ≡ p) × (held ≡ other)) ⊎ ((w ≡ v → q ≡ p → ⊥) × (c.page w q ≡ Some other))
  page-hold_cases w q other e = elim (same_page v p w q) [
    | inl here ↦ let vmo = here.0 in let page = here.1 in let now = page-hold_here in inl (vmo, page, cc)
    | inr apart ↦ inr (apart, sym (page-hold_other w q apart) ∙ e)
  ]

pub count-nothing : (v : ℕ) → nothing.count v ≡ None
unfolding nothing
count-nothing v = refl

-- ---- who shows a frame

-- a koid that shows a frame, on a page
pub views_found : (c : Content) (t v : ℕ) → views c t v ≡ true → (p : ℕ) × (held : Page) × (p < pages_of c v) × (c.page v p ≡ Some held) × (held.tag ≡ t)
unfolding views
views_found c t v e =
    let found = any_below_found (pages_of c v) (λ p. has_tag t (c.page v p)) e in
    let held = has_tag_held t (c.page v found.0) found.2 in
    (found.0, held.0, found.1, held.1, held.2)

pub views_at : (c : Content) (t v p : ℕ) (held : Page) → p < pages_of c v → c.page v p ≡ Some held → held.tag ≡ t → views c t v ≡ true
unfolding views
views_at c t v p held h e same = any_below_at (pages_of c v) p (λ q. has_tag t (c.page v q)) h (has_tag_from t (c.page v p) held e same)

-- a frame in use is shown by a page
pub in_use_found : (c : Content) (t : ℕ) → in_use c t ≡ true → (v p : ℕ) × (held : Page) × (v < c.next) × (p < pages_of c v) × (c.page v p ≡ Some held) × (held.tag ≡ t)
unfolding in_use
in_use_found c t e =
    let koid = any_below_found c.next (views c t) e in
    let page = views_found c t koid.0 koid.2 in
    (koid.0, page.0, page.1, koid.1, page.2, page.3, page.4)

-- the koid of a held page is below the next
pub koid_below : (c : Content) (v p : ℕ) → IsGood c → p < pages_of c v → v < c.next
koid_below c v p good h = (good.koids v (pages_of c v) (count_from_page c v p h)).1

pub in_use_at : (c : Content) (t v p : ℕ) (held : Page) → IsGood c → c.page v p ≡ Some held → held.tag ≡ t → in_use c t ≡ true
unfolding in_use
in_use_at c t v p held good e same =
    let h = good.below v p held e in
    any_below_at c.next v (views c t) (koid_below c v p good h) (views_at c t v p held h e same)

-- no page has a frame that is not in use
pub not_in_use : (c : Content) (t v p : ℕ) (held : Page) → IsGood c → in_use c t ≡ false → c.page v p ≡ Some held → held.tag ≢ t
not_in_use c t v p held good free e same = both_ways (in_use c t) free (in_use_at c t v p held good e same)

-- ---- sole pages

-- a sole page is held
pub sole_held : (c : Content) (v p : ℕ) → sole c v p ≡ true → (held : Page) × (c.page v p ≡ Some held)
unfolding is_sole_page
sole_held c v p e = go (c.page v p) e where
  go : (o : Option Page) → is_sole_page c v o ≡ true → (held : Page) × (o ≡ Some held)
  go None h = absurd cc
  go (Some held) h = (held, refl)

pub sole-at : (c : Content) (v p : ℕ) (held : Page) → c.page v p ≡ Some held → sole c v p ≡ not (seen_elsewhere c held.tag v)
unfolding is_sole_page
sole-at c v p held e = ap (is_sole_page c v) e

pub sole-zero : (c : Content) (v p : ℕ) → c.page v p ≡ None → sole c v p ≡ false
unfolding is_sole_page
sole-zero c v p e = ap (is_sole_page c v) e

-- a page elsewhere that shows the frame
pub seen_elsewhere_at : (c : Content) (t v w q : ℕ) (other : Page) → IsGood c → w ≢ v → c.page w q ≡ Some other
    → other.tag ≡ t → seen_elsewhere c t v ≡ true
unfolding seen_elsewhere
seen_elsewhere_at c t v w q other good apart e same =
    let h = good.below w q other e in
    any_below_at c.next w (λ u. not (u == v) && views c t u) (koid_below c w q good h)
    (and_from (not (w == v)) (views c t w) (ap not (eqb_apart w v apart)) (views_at c t w q other h e same))

pub seen_elsewhere_found : (c : Content) (t v : ℕ) → seen_elsewhere c t v ≡ true
    → (w q : ℕ) × (other : Page) × (w ≢ v) × (c.page w q ≡ Some other) × (other.tag ≡ t)
unfolding seen_elsewhere
seen_elsewhere_found c t v e =
    let koid = any_below_found c.next (λ u. not (u == v) && views c t u) e in
    let both = and_parts (not (koid.0 == v)) (views c t koid.0) koid.2 in
    let page = views_found c t koid.0 both.1 in
    (koid.0, page.0, page.1, eqb-false koid.0 v (not-true (koid.0 == v) both.0), page.3, page.4)

-- no other page has the frame of a sole page
pub sole_alone : (c : Content) (v p w q : ℕ) (held other : Page) → IsGood c → sole c v p ≡ true → c.page v p ≡ Some held
    → c.page w q ≡ Some other → other.tag ≡ held.tag → (w ≡ v) × (q ≡ p)
sole_alone c v p w q held other good alone e f same = elim (cases_eq w v) [
  | inl vmo ↦ (vmo, good.apart v q p other held (ap (λ (u : ℕ). c.page u q) (sym vmo) ∙ f) e same)
  | inr apart ↦
      let unseen = not-true (seen_elsewhere c held.tag v) (sym (sole-at c v p held e) ∙ alone) in
      absurd (both_ways (seen_elsewhere c held.tag v) unseen (seen_elsewhere_at c held.tag v w q other good apart f same))
]

-- a held page whose frame no other VMO shows is sole
pub sole_from : (c : Content) (v p : ℕ) (held : Page) → c.page v p ≡ Some held
    → ((w q : ℕ) (other : Page) → w ≢ v → c.page w q ≡ Some other → other.tag ≢ held.tag) → sole c v p ≡ true
sole_from c v p held e alone = sole-at c v p held e ∙ ap not (false_from_ne_true (seen_elsewhere c held.tag v) (λ seen.
    let found = seen_elsewhere_found c held.tag v seen in alone found.0 found.1 found.2 found.3 found.4 found.5))

-- ---- where one VMO changes

-- all VMOs but v are in d as in c
pub record ChangesVmo (c d : Content) (v : ℕ) : Type 0 where
  pub next : d.next ≡ c.next
  pub count : (w : ℕ) → w ≢ v → d.count w ≡ c.count w
  pub page : (w q : ℕ) → w ≢ v → d.page w q ≡ c.page w q

-- a VMO with the same pages shows the same frames
pub views-same : (c d : Content) (t w : ℕ) → d.count w ≡ c.count w → ((q : ℕ) → d.page w q ≡ c.page w q) → views d t w ≡ views c t w
unfolding views pages_of
views-same c d t w counts pages =
    ap (λ (o : Option ℕ). any_below (unwrap_or o 0) (λ p. has_tag t (d.page w p))) counts
    ∙ any_below_same (unwrap_or (c.count w) 0) _ _ (λ q h. ap (has_tag t) (pages q))

module _ (c d : Content) (v : ℕ) (one : ChangesVmo c d v) where
  pub views-other : (t w : ℕ) → w ≢ v → views d t w ≡ views c t w
  views-other t w apart = views-same c d t w (one.count w apart) (λ q. one.page w q apart)

  -- the other VMOs show what they showed
  pub seen_elsewhere-other : (t : ℕ) → seen_elsewhere d t v ≡ seen_elsewhere c t v
  unfolding seen_elsewhere
  seen_elsewhere-other t =
      ap (λ (n : ℕ). any_below n (λ w. not (w == v) && views d t w)) one.next
      ∙ any_below_same c.next _ _ (λ w h. elim (cases_eq w v) [
        | inl same ↦
            let off : not (w == v) ≡ false = ap not (eq-eqb w v same) in
            and_left (not (w == v)) _ off ∙ sym (and_left (not (w == v)) _ off)
        | inr apart ↦ ap (λ b. not (w == v) && b) (views-other t w apart)
      ])

  -- a page of v that stays is sole where it was
  pub sole-other : (q : ℕ) → d.page v q ≡ c.page v q → sole d v q ≡ sole c v q
  unfolding is_sole_page
  sole-other q same = ap (is_sole_page d v) same ∙ go (c.page v q) where
    go : (o : Option Page) → is_sole_page d v o ≡ is_sole_page c v o
    go None = refl
    go (Some other) = ap not (seen_elsewhere-other other.tag)

pub ChangesVmo-hold : (c : Content) (v p : ℕ) (held : Page) → ChangesVmo c (hold c v p held) v
unfolding hold
ChangesVmo-hold c v p held = record {
  next = refl;
  count = λ w apart. refl;
  page = λ w q apart. page-hold_other c v p held w q (λ vmo page. apart vmo);
}

-- holding another page of the VMO leaves which of its pages are sole
pub sole-hold_elsewhere : (c : Content) (v p q : ℕ) (held : Page) → q ≢ p → sole (hold c v p held) v q ≡ sole c v q
sole-hold_elsewhere c v p q held apart =
    sole-other c (hold c v p held) v (ChangesVmo-hold c v p held) q (page-hold_other c v p held v q (λ vmo page. apart page))

-- a page with a frame that was not in use is sole
pub sole-hold_new : (c : Content) (v p : ℕ) (held : Page) → IsGood c → in_use c held.tag ≡ false → sole (hold c v p held) v p ≡ true
sole-hold_new c v p held good free = sole_from (hold c v p held) v p held (page-hold_here c v p held) (λ w q other apart e.
    not_in_use c held.tag w q other good free (sym ((ChangesVmo-hold c v p held).page w q apart) ∙ e))

-- a sole page that keeps its frame stays sole
pub sole-hold_kept : (c : Content) (v p : ℕ) (held other : Page) → IsGood c → sole c v p ≡ true → c.page v p ≡ Some held
    → other.tag ≡ held.tag → sole (hold c v p other) v p ≡ true
sole-hold_kept c v p held other good alone e same =
    sole_from (hold c v p other) v p other (page-hold_here c v p other) (λ w q third apart f tag.
    let was = sym ((ChangesVmo-hold c v p other).page w q apart) ∙ f in
    apart (sole_alone c v p w q held third good alone e was (tag ∙ same)).0)

-- ---- a content with a page held anew stays good

-- where no other page has the frame
IsGood-hold : (c : Content) (v p : ℕ) (held : Page) → IsGood c → p < pages_of c v → held.tag < c.frames → length held.bytes ≡ PAGE
    → ((w q : ℕ) (other : Page) → (w ≡ v → q ≡ p → ⊥) → c.page w q ≡ Some other → other.tag ≢ held.tag) → IsGood (hold c v p held)
unfolding hold pages_of
IsGood-hold c v p held good h low whole others = record {
  koids = good.koids;
  counts = good.counts;
  first_koid = good.first_koid;
  below = λ w q other e. elim (page-hold_cases c v p held w q other e) [
    | inl new ↦ let vmo = new.0 in let page = new.1 in omega (arith, h, ap (pages_of c) vmo)
    | inr old ↦ good.below w q other old.1
  ];
  whole = λ w q other e. elim (page-hold_cases c v p held w q other e) [
    | inl new ↦ ap (λ (page : Page). length page.bytes) (sym new.2) ∙ whole
    | inr old ↦ good.whole w q other old.1
  ];
  tags = λ w q other e. elim (page-hold_cases c v p held w q other e) [
    | inl new ↦ subst (λ (page : Page). page.tag < c.frames) new.2 low
    | inr old ↦ good.tags w q other old.1
  ];
  alike = λ w q x y other third e f same. elim (page-hold_cases c v p held w q other e) [
    | inl new ↦ elim (page-hold_cases c v p held x y third f) [
      | inl again ↦ ap (λ (page : Page). page.bytes) (sym new.2 ∙ again.2)
      | inr old ↦ absurd (others x y third old.0 old.1 (sym same ∙ ap (λ (page : Page). page.tag) (sym new.2)))
    ]
    | inr before ↦ elim (page-hold_cases c v p held x y third f) [
      | inl again ↦ absurd (others w q other before.0 before.1 (same ∙ ap (λ (page : Page). page.tag) (sym again.2)))
      | inr old ↦ good.alike w q x y other third before.1 old.1 same
    ]
  ];
  apart = λ w q y other third e f same. elim (page-hold_cases c v p held w q other e) [
    | inl new ↦ elim (page-hold_cases c v p held w y third f) [
      | inl again ↦ new.1 ∙ sym again.1
      | inr old ↦ absurd (others w y third old.0 old.1 (sym same ∙ ap (λ (page : Page). page.tag) (sym new.2)))
    ]
    | inr before ↦ elim (page-hold_cases c v p held w y third f) [
      | inl again ↦ absurd (others w q other before.0 before.1 (same ∙ ap (λ (page : Page). page.tag) (sym again.2)))
      | inr old ↦ good.apart w q y other third before.1 old.1 same
    ]
  ];
}

-- with a frame that was not in use
pub IsGood-hold_new : (c : Content) (v p : ℕ) (held : Page) → IsGood c → p < pages_of c v → held.tag < c.frames
    → in_use c held.tag ≡ false → length held.bytes ≡ PAGE → IsGood (hold c v p held)
IsGood-hold_new c v p held good h low free whole =
    IsGood-hold c v p held good h low whole (λ w q other apart e. not_in_use c held.tag w q other good free e)

-- a sole page, with other bytes
pub IsGood-hold_bytes : (c : Content) (v p : ℕ) (held other : Page) → IsGood c → sole c v p ≡ true → c.page v p ≡ Some held
    → other.tag ≡ held.tag → length other.bytes ≡ PAGE → IsGood (hold c v p other)
IsGood-hold_bytes c v p held other good alone e tag whole =
    let low : other.tag < c.frames = omega (arith, tag, good.tags v p held e) in
    IsGood-hold c v p other good (good.below v p held e) low whole (λ w q third elsewhere f same.
    let one = sole_alone c v p w q held third good alone e f (same ∙ tag) in elsewhere one.0 one.1)

-- ---- a part of a good content

-- Each page that is held in d was held in c, with this frame and these bytes. The pages of one VMO of d come from one VMO of
-- c, different ones from different ones.
pub record PagesFrom (c d : Content) : Type 0 where
  pub home : ℕ → ℕ
  pub place : ℕ → ℕ → ℕ
  pub from : (w q : ℕ) (held : Page) → d.page w q ≡ Some held → c.page (home w) (place w q) ≡ Some held
  pub one_place : (w q y : ℕ) → place w q ≡ place w y → q ≡ y

-- each from its own place
pub own_pages : (c d : Content) → ((w q : ℕ) (held : Page) → d.page w q ≡ Some held → c.page w q ≡ Some held) → PagesFrom c d
own_pages c d from = record { home = λ w. w; place = λ w q. q; from = from; one_place = λ w q y same. same }

-- The pages of d come from c, and its counts are good.
pub record IsPart (c d : Content) : Type 0 where
  pub frames : d.frames ≡ c.frames
  pub first_koid : 1 ≤ d.next
  pub counts : (w n : ℕ) → d.count w ≡ Some n → (1 ≤ w) × (w < d.next) × (n ≤ VMO_PAGES)
  pub below : (w q : ℕ) (held : Page) → d.page w q ≡ Some held → q < pages_of d w
  pub pages : PagesFrom c d

pub IsGood-part : (c d : Content) → IsGood c → IsPart c d → IsGood d
IsGood-part c d good part =
    let at = part.pages in
    record {
      koids = λ w n e. let k = part.counts w n e in (k.0, k.1);
      counts = λ w n e. (part.counts w n e).2;
      first_koid = part.first_koid;
      below = part.below;
      whole = λ w q held e. good.whole (at.home w) (at.place w q) held (at.from w q held e);
      tags = λ w q held e. omega (arith, part.frames, good.tags (at.home w) (at.place w q) held (at.from w q held e));
      alike = λ w q x y held other e f same.
          good.alike (at.home w) (at.place w q) (at.home x) (at.place x y) held other (at.from w q held e) (at.from x y other f) same;
      apart = λ w q y held other e f same. at.one_place w q y
          (good.apart (at.home w) (at.place w q) (at.place w y) held other (at.from w q held e) (at.from w y other f) same);
    }

-- one VMO more: the counts are good
pub counts_more : (c : Content) (pages : ℕ) → IsGood c → pages ≤ VMO_PAGES
    → (w n : ℕ) → with_key c.count c.next pages w ≡ Some n → (1 ≤ w) × (w < c.next + 1) × (n ≤ VMO_PAGES)
counts_more c pages good few w n e = elim (with_key-cases c.count c.next pages w n e) [
  | inl new ↦ (omega (arith, new.0, good.first_koid), omega (arith, new.0), omega (arith, new.1))
  | inr old ↦ let k = good.koids w n old.1 in (k.0, omega (arith, k.1), good.counts w n old.1)
]

-- a new VMO keeps a content good
pub IsGood-created : (c : Content) (pages : ℕ) → IsGood c → pages ≤ VMO_PAGES → IsGood (created c pages)
unfolding created pages_of
IsGood-created c pages good few = IsGood-part c (created c pages) good (record {
  frames = refl;
  first_koid = omega arith;
  counts = counts_more c pages good few;
  below = λ w q held e.
      let h = good.below w q held e in
      let k = koid_below c w q good h in
      let same = with_key-other c.count c.next pages w (omega arith) in
      omega (arith, h, ap (λ (o : Option ℕ). unwrap_or o 0) same);
  pages = own_pages c (created c pages) (λ w q held e. e);
})

-- a content with no VMO and no page is good, however many frames it has
pub IsGood-nothing : (frames : ℕ) → IsGood (record nothing { frames = frames })
unfolding nothing
IsGood-nothing frames = record {
  koids = λ w n e. absurd (cc);
  counts = λ w n e. absurd (cc);
  first_koid = omega arith;
  below = λ w q held e. absurd (cc);
  whole = λ w q held e. absurd (cc);
  tags = λ w q held e. absurd (cc);
  alike = λ w q x y held other e f same. absurd (cc);
  apart = λ w q y held other e f same. absurd (cc);
}

-- ---- how many frames are used

-- no frame is used where no page is held
pub used_none : (c : Content) → ((v p : ℕ) → c.page v p ≡ None) → used c ≡ 0
unfolding used
used_none c none = count_below_none c.frames (in_use c) (λ t h. false_from_ne_true (in_use c t) (λ e.
    let page = in_use_found c t e in zero_not_held (c.page page.0 page.1) page.2 (none page.0 page.1) page.5))

-- a frame that the page does not get is in use as before, where the page neither had it nor shared it
in_use-hold : (c : Content) (v p : ℕ) (held : Page) → IsGood c → IsGood (hold c v p held) → (t : ℕ) → t ≢ held.tag
    → ((old : Page) → c.page v p ≡ Some old → old.tag ≡ t → sole c v p ≡ false) → in_use (hold c v p held) t ≡ in_use c t
in_use-hold c v p held good fine t apart shared =
    let d = hold c v p held in
    same_tests (in_use d t) (in_use c t)
    (λ e.
    let page = in_use_found d t e in
    elim (page-hold_cases c v p held page.0 page.1 page.2 page.5) [
      | inl new ↦ absurd (apart (sym page.6 ∙ ap (λ (other : Page). other.tag) (sym new.2)))
      | inr old ↦ in_use_at c t page.0 page.1 page.2 good old.1 page.6
    ])
    (λ e.
    let page = in_use_found c t e in
    elim (same_page v p page.0 page.1) [
      | inl here ↦
          let old : c.page v p ≡ Some page.2 = let vmo = here.0 in let place = here.1 in let is = page.5 in cc in
          let seen = not-false (seen_elsewhere c page.2.tag v) (sym (sole-at c v p page.2 old) ∙ shared page.2 old page.6) in
          let found = seen_elsewhere_found c page.2.tag v seen in
          in_use_at d t found.0 found.1 found.2 fine ((ChangesVmo-hold c v p held).page found.0 found.1 found.3 ∙ found.4) (found.5 ∙ page.6)
      | inr other ↦ in_use_at d t page.0 page.1 page.2 fine (page-hold_other c v p held page.0 page.1 other ∙ page.5) page.6
    ])

-- a page that was not sole and gets a frame that was not in use: one frame more is used
pub used-hold_new : (c : Content) (v p : ℕ) (held : Page) → IsGood c → p < pages_of c v → sole c v p ≡ false → held.tag < c.frames
    → in_use c held.tag ≡ false → length held.bytes ≡ PAGE → used (hold c v p held) ≡ used c + 1
unfolding used hold
used-hold_new c v p held good h shared below free whole =
    let fine = IsGood-hold_new c v p held good h below free whole in
    count_below_one_more c.frames held.tag (in_use c) (in_use (hold c v p held)) below free
    (in_use_at (hold c v p held) held.tag v p held fine (page-hold_here c v p held) refl)
    (λ t apart. in_use-hold c v p held good fine t apart (λ old e same. shared))

-- a page that keeps its frame: as many frames
pub used-hold_kept : (c : Content) (v p : ℕ) (held other : Page) → IsGood c → sole c v p ≡ true → c.page v p ≡ Some held
    → other.tag ≡ held.tag → length other.bytes ≡ PAGE → used (hold c v p other) ≡ used c
unfolding used hold
used-hold_kept c v p held other good alone e tag whole =
    let d = hold c v p other in
    let fine = IsGood-hold_bytes c v p held other good alone e tag whole in
    count_below_same c.frames (in_use d) (in_use c) (λ t h. elim (cases_eq t other.tag) [
      | inl same ↦
          in_use_at d t v p other fine (page-hold_here c v p other) (sym same)
          ∙ sym (in_use_at c t v p held good e (sym (same ∙ tag)))
      | inr apart ↦ in_use-hold c v p other good fine t apart (λ old f same.
          absurd (apart (sym same ∙ (sym (held_once (c.page v p) held old e f) ∙ sym tag))))
    ])

-- ---- tests of held pages

-- a test that no zero page of v passes
pub record IsOfHeld (c : Content) (v : ℕ) (test : ℕ → Bool) : Type 0 where
  pub zero_fails : (p : ℕ) → c.page v p ≡ None → test p ≡ false

pub is_held-zero : (c : Content) (v p : ℕ) → c.page v p ≡ None → is_held c v p ≡ false
is_held-zero c v p zero = ap is_some zero

pub IsOfHeld-held : (c : Content) (v : ℕ) → IsOfHeld c v (is_held c v)
IsOfHeld-held c v = record { zero_fails = λ p zero. is_held-zero c v p zero }
