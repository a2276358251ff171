-- How many frames owning one page takes, or two pages one after another.
use Rattle.std.proofs.Common.{◌≡◌, ◌≢◌, ℕ, suc, ◌+◌, ◌<◌, ◌≤◌, Bool, true, false, cond, ◌&&◌, ◌==◌, List, [], ◌∷◌, Option, None, Some, length, refl, sym, ap, ◌∙◌, inl, inr, arith}
use Rattle.std.specs.Prelude.{IfSome}
use Rattle.std.proofs.lemmas.Bool.{cases_Bool, cases_eq, and_parts, and_from, both_ways, eq-eqb, false_from_ne_true, ltb-true}
use Rattle.std.proofs.lemmas.Bool.Decides.{nat_tests}
use Rattle.vm_base.specs.declared.limits.TheConstants.{PAGE}
use Rattle.vm_base.proofs.SearchLaws.{bit-true, bit-false, eqb_is, eqb_apart}
use Rattle.vm_model.specs.Contents.Content.{Page, Content, shown, used, pages_of, has_tag, views, in_use, seen_elsewhere, is_sole_page, sole, hold, IsGood}
use Rattle.vm_model.specs.Contents.Owning.{VmoPage, need_from, need_each}
use Rattle.vm_model.specs.Contents.Sharing.{viewers}
use Rattle.vm_model.specs.Contents.Writing.{Piece, WritesPiece}
use Rattle.vm_model.specs.Contents.Zeroing.{zeroed}
use Rattle.vm_model.proofs.ContentLaws.{same_page, page-hold_other, page-hold_cases, not_in_use, sole_held, sole_from, in_use_found, in_use_at, has_tag_held, sole_alone, sole-zero, sole-hold_elsewhere, sole-hold_new, IsGood-hold_new}
use Rattle.vm_model.proofs.OwningLaws.{length-shown, Owned-from_Owns}
use Rattle.vm_model.proofs.SoleLaws.{sole-hold_keeps}
use Rattle.vm_model.proofs.WritingLaws.{Written-from_WritesPiece, WritesPiece-keeps}
use Rattle.page_store.specs.Pages.{look_at}
use Rattle.page_store.proofs.ViewerLaws.{in_use-viewers, sole-viewers, IsOneMore-hold, IsOneMore-zeroed, IsOneMore-moved, viewers-more}
use Rattle.page_store.specs.Needs.{need_by, have_one_frame, MayOwn}

-- ---- a page with a frame that is counted as new

-- no page has the number behind those of the frames
unused : (c : Content) → IsGood c → in_use c c.frames ≡ false
unused c good = false_from_ne_true (in_use c c.frames) (λ e.
    let found = in_use_found c c.frames e in
    let low = good.tags found.0 found.1 found.2 found.5 in
    absurd (omega (arith, low, found.6)))

-- the content, with one frame more
abbrev wider : Content → Content
wider c = record c { frames = c.frames + 1 }

-- it is good
IsGood-wider : (c : Content) → IsGood c → IsGood (wider c)
unfolding pages_of
IsGood-wider c good = record {
  koids = good.koids;
  counts = good.counts;
  first_koid = good.first_koid;
  below = good.below;
  whole = good.whole;
  tags = λ v p held e. omega (arith, good.tags v p held e);
  alike = good.alike;
  apart = good.apart;
}

module _ (c : Content) (v p : ℕ) (good : IsGood c) (h : p < pages_of c v) where
  -- page p of v as it is owned, with the number behind those of the frames
  abbrev fresh : Page
  fresh = record { tag = c.frames; bytes = shown c v p }

  -- the content where page p of v has that number
  abbrev renewed : Content
  renewed = hold (wider c) v p fresh

  -- it is good
  IsGood-renewed : IsGood renewed
  unfolding pages_of in_use views
  IsGood-renewed =
      let low : c.frames < c.frames + 1 = omega arith in
      IsGood-hold_new (wider c) v p fresh (IsGood-wider c good) h low (unused c good) (length-shown c v p good)

  -- one VMO less shows the frame that the page had
  viewers-renewed : (t : ℕ) → t ≢ c.frames → viewers renewed t + cond (has_tag t (c.page v p)) 1 0 ≡ viewers c t
  unfolding has_tag viewers views pages_of
  viewers-renewed t other = go (c.page v p) refl where
    go : (o : Option Page) → c.page v p ≡ o → viewers renewed t + cond (has_tag t o) 1 0 ≡ viewers c t
    go None e =
        let more = viewers-more (wider c) renewed v p fresh IsGood-renewed (IsOneMore-hold (wider c) v p fresh e) t in
        omega (arith, more, bit-false (c.frames == t) (eqb_apart c.frames t (λ same. other (sym same))))
    go (Some old) e =
        let was = viewers-more (zeroed (wider c) v p (p + 1)) (wider c) v p old (IsGood-wider c good) (IsOneMore-zeroed (wider c) v p old e) t in
        let is = viewers-more (zeroed (wider c) v p (p + 1)) renewed v p fresh IsGood-renewed (IsOneMore-moved (wider c) v p fresh) t in
        omega (arith, was, is, bit-false (c.frames == t) (eqb_apart c.frames t (λ same. other (sym same))))

  -- which pages are sole does not depend on how many frames there are
  sole-wider : (w q : ℕ) → sole renewed w q ≡ sole (hold c v p fresh) w q
  unfolding is_sole_page seen_elsewhere views pages_of hold
  sole-wider w q = refl

  -- the page is sole then
  sole-here : sole (hold c v p fresh) v p ≡ true
  sole-here = sole-hold_new c v p fresh good (unused c good)

  -- a page of another VMO is sole then where one VMO shows its frame
  sole-there : (w q : ℕ) (other : Page) → w ≢ v → c.page w q ≡ Some other
      → sole (hold c v p fresh) w q ≡ (viewers renewed other.tag == 1)
  sole-there w q other apart e =
      let same : renewed.page w q ≡ Some other = page-hold_other (wider c) v p fresh w q (λ vmo page. apart vmo) ∙ e in
      sym (sole-wider w q) ∙ (ap (is_sole_page renewed w) same ∙ sole-viewers renewed w q other IsGood-renewed same)

  -- a page that is sole then is so also where the page has a free frame
  sole-free : (tag w q : ℕ) → in_use c tag ≡ false → sole (hold c v p fresh) w q ≡ true
      → sole (hold c v p (record { tag = tag; bytes = shown c v p })) w q ≡ true
  sole-free tag w q free alone =
      let page : Page = record { tag = tag; bytes = shown c v p } in
      elim (same_page v p w q) [
        | inl here ↦ rw (here.0, here.1) (sole-hold_new c v p page good free)
        | inr apart ↦
            let is = sole_held renewed w q (sole-wider w q ∙ alone) in
            let was : c.page w q ≡ Some is.0 = sym (page-hold_other (wider c) v p fresh w q apart) ∙ is.1 in
            sole_from (hold c v p page) w q is.0 (page-hold_other c v p page w q apart ∙ was) (λ x y other foreign e same.
            elim (page-hold_cases c v p page x y other e) [
              | inl new ↦ not_in_use c tag w q is.0 good free was (sym (ap (λ (held : Page). held.tag) new.2 ∙ same))
              | inr old ↦ foreign (sole_alone renewed w q x y is.0 other IsGood-renewed (sole-wider w q ∙ alone) is.1
                  (page-hold_other (wider c) v p fresh x y old.0 ∙ old.1) same).0
            ])
      ]

-- ---- the need of one page

-- a page takes a frame where it is not sole
need_by-sole : (c : Content) (v : ℕ) (o : Option Page) → need_by (look_at c v o) ≡ cond (is_sole_page c v o) 0 1
unfolding is_sole_page
need_by-sole c v None = refl
need_by-sole c v (Some held) = refl

-- so the need of a page is what looking at it says
pub need-one : (c : Content) (v p : ℕ) → need_by (look_at c v (c.page v p)) ≡ need_each c (record { koid = v; page = p } ∷ [])
unfolding need_from
need-one c v p = need_by-sole c v (c.page v p)

-- ---- the need of two pages

-- a page has the frame of one that is held
have_one_frame-tag : (c : Content) (v w : ℕ) (o : Option Page) (other : Page) → have_one_frame (look_at c v o) (look_at c w (Some other)) ≡ has_tag other.tag o
unfolding has_tag
have_one_frame-tag c v w None other = refl
have_one_frame-tag c v w (Some held) other = refl

-- a page that is zero has none
have_one_frame-zero : (c : Content) (v w : ℕ) (o : Option Page) → have_one_frame (look_at c v o) (look_at c w None) ≡ false
have_one_frame-zero c v w None = refl
have_one_frame-zero c v w (Some held) = refl

-- the first is page p of v, below the count, and the second is page q of w
module _ (c : Content) (v p w q : ℕ) (good : IsGood c) (h : p < pages_of c v) where
  -- the two pages
  abbrev both : List VmoPage
  both = record { koid = v; page = p } ∷ record { koid = w; page = q } ∷ []

  -- the content once the first was owned
  abbrev after : Content
  after = hold c v p (fresh c v p good h)

  -- what both need
  need-both : need_each c both ≡ cond (sole c v p) (cond (sole c w q) 0 1) (suc (cond (sole after w q) 0 1))
  unfolding need_from
  need-both = refl

  -- they are one page
  pub need-same : ((v == w) && (p == q)) ≡ true → need_by (look_at c v (c.page v p)) ≡ need_each c both
  need-same same =
      let parts = and_parts (v == w) (p == q) same in
      let vmo : w ≡ v = sym (eqb_is v w parts.0) in
      let page : q ≡ p = sym (eqb_is p q parts.1) in
      let here : sole after w q ≡ true = rw (vmo, page) (sole-here c v p good h) in
      let was : sole c w q ≡ sole c v p = rw (vmo, page) refl in
      rw (need-both, here, was, need_by-sole c v (c.page v p)) (bits (sole c v p)) where
        bits : (alone : Bool) → ◌≡◌ {A = ℕ} (cond alone 0 1) (cond alone (cond alone 0 1) 1)
        bits true = refl
        bits false = refl

  module _ (two : ((v == w) && (p == q)) ≡ false) where
    -- they are two pages
    elsewhere : w ≡ v → q ≡ p → ⊥
    elsewhere vmo page = both_ways ((v == w) && (p == q)) two (and_from (v == w) (p == q) (eq-eqb v w (sym vmo)) (eq-eqb p q (sym page)))

    -- the second is sole afterwards where it was, where the two have not one frame
    sole-after : have_one_frame (look_at c v (c.page v p)) (look_at c w (c.page w q)) ≡ false → sole after w q ≡ sole c w q
    sole-after apart = go (c.page w q) refl where
      go : (o : Option Page) → c.page w q ≡ o → sole after w q ≡ sole c w q
      go None e = sole-zero after w q (page-hold_other c v p (fresh c v p good h) w q elsewhere ∙ e) ∙ sym (sole-zero c w q e)
      go (Some other) e = elim (cases_eq w v) [
        | inl vmo ↦
            let one : sole after v q ≡ sole c v q = sole-hold_elsewhere c v p q (fresh c v p good h) (elsewhere vmo) in rw vmo one
        | inr foreign ↦
            let low = good.tags w q other e in
            let tagless : has_tag other.tag (c.page v p) ≡ false = sym (have_one_frame-tag c v w (c.page v p) other) ∙ (rw e at apart) in
            let same : viewers (renewed c v p good h) other.tag ≡ viewers c other.tag =
            omega (arith, viewers-renewed c v p good h other.tag (omega arith), bit-false (has_tag other.tag (c.page v p)) tagless) in
            sole-there c v p good h w q other foreign e
            ∙ (ap (λ (n : ℕ). n == 1) same ∙ sym (ap (is_sole_page c w) e ∙ sole-viewers c w q other good e))
      ]

    -- then each needs a frame where it is not sole
    pub need-apart : have_one_frame (look_at c v (c.page v p)) (look_at c w (c.page w q)) ≡ false
        → need_by (look_at c v (c.page v p)) + need_by (look_at c w (c.page w q)) ≡ need_each c both
    need-apart apart =
        rw (need-both, sole-after apart, need_by-sole c v (c.page v p), need_by-sole c w (c.page w q)) (bits (sole c v p) (sole c w q)) where
          bits : (first second : Bool) → ◌≡◌ {A = ℕ} (cond first 0 1 + cond second 0 1) (cond first (cond second 0 1) (suc (cond second 0 1)))
          bits true second = omega arith
          bits false second = omega arith

    -- they have one frame
    module _ (shared : have_one_frame (look_at c v (c.page v p)) (look_at c w (c.page w q)) ≡ true) (n : ℕ)
        (count : IfSome (c.page w q) (λ held. n ≡ viewers c held.tag)) where
      -- so they are of two VMOs, the first is not sole, and the second is afterwards where these two VMOs alone show the frame
      need-shared : (need_each c both ≡ suc (cond (n == 2) 0 1)) × (2 ≤ n)
      need-shared = go (c.page w q) refl where
        go : (o : Option Page) → c.page w q ≡ o → (need_each c both ≡ suc (cond (n == 2) 0 1)) × (2 ≤ n)
        go None e =
            let zero : false ≡ true = sym (have_one_frame-zero c v w (c.page v p)) ∙ (rw e at shared) in
            absurd cc
        go (Some other) e =
            let tagged : has_tag other.tag (c.page v p) ≡ true = sym (have_one_frame-tag c v w (c.page v p) other) ∙ (rw e at shared) in
            let mine = has_tag_held other.tag (c.page v p) tagged in
            let foreign : w ≢ v = λ vmo. elsewhere vmo (good.apart v q p other mine.0 (ap (λ (u : ℕ). c.page u q) (sym vmo) ∙ e) mine.1 (sym mine.2)) in
            let not_sole : sole c v p ≡ false = false_from_ne_true (sole c v p) (λ alone.
            foreign (sole_alone c v p w q mine.0 other good alone mine.1 e (sym mine.2)).0) in
            let low = good.tags w q other e in
            let less = viewers-renewed c v p good h other.tag (omega arith) in
            let is : n ≡ viewers c other.tag = rw e at count in
            let test : (viewers (renewed c v p good h) other.tag == 1) ≡ (n == 2) = grind (arith, nat_tests, bit-true (has_tag other.tag (c.page v p)) tagged) in
            let still : (renewed c v p good h).page w q ≡ Some other = page-hold_other (wider c) v p (fresh c v p good h) w q elsewhere ∙ e in
            let some = ltb-true 0 _ (sym (in_use-viewers (renewed c v p good h) other.tag)
            ∙ in_use_at (renewed c v p good h) other.tag w q other (IsGood-renewed c v p good h) still refl) in
            (rw (need-both, not_sole, sole-there c v p good h w q other foreign e, test) refl, omega (arith, is, less, some, bit-true (has_tag other.tag (c.page v p)) tagged))

      -- a third VMO shows it
      pub need-third : 2 < n → 2 ≡ need_each c both
      need-third more = let third : (n == 2) ≡ false = eqb_apart n 2 (omega arith) in rw (need-shared.0, third) refl

      -- no third VMO does
      pub need-last : n ≤ 2 → 1 ≡ need_each c both
      need-last few = let second : n ≡ 2 = omega (arith, need-shared.1) in rw (need-shared.0, second) refl

  -- where the frames are free that both need, one is there for the first, where that is not sole
  pub first-free : used c + need_each c both ≤ c.frames → MayOwn c v p
  first-free free = elim (cases_Bool (sole c v p)) [
    | inl alone ↦ inl alone
    | inr shared ↦ let some : need_each c both ≡ suc (cond (sole after w q) 0 1) = rw (need-both, shared) refl in inr (omega (arith, free, some))
  ]

  -- where the frames are free that both need, writing the first leaves one for the second, where that is not sole
  pub second-free : (at : ℕ) (bytes : List ℕ) (d : Content) → at + length bytes ≤ PAGE
      → WritesPiece c (record { koid = v; page = p; at = at; bytes = bytes }) d → used c + need_each c both ≤ c.frames
      → MayOwn d w q
  second-free at bytes d fits writes free =
      let part : Piece = record { koid = v; page = p; at = at; bytes = bytes } in
      let owned = Owned-from_Owns c writes.owned v p writes.tag good h writes.owns in
      let written = Written-from_WritesPiece c part d good h fits writes in
      elim (cases_Bool (sole c v p)) [
        | inl alone ↦
            let same : used d ≡ used c = rw alone at written.used in
            elim (cases_Bool (sole c w q)) [
              | inl other ↦ inl ((WritesPiece-keeps c part d good h fits writes (λ _ _. true)).alone w q refl other)
              | inr other ↦ let one : need_each c both ≡ 1 = rw (need-both, alone, other) refl in inr (omega (arith, free, one, same, written.kept.frames))
            ]
        | inr shared ↦
            let more : used d ≡ used c + 1 = rw shared at written.used in
            let copies = writes.owns.copies shared in
            elim (cases_Bool (sole after w q)) [
              | inl other ↦
                  let alone : sole writes.owned w q ≡ true = rw copies.2 (sole-free c v p good h writes.tag w q copies.1 other) in
                  inl (rw writes.bytes (sole-hold_keeps writes.owned v p _ w q owned.good (inr (_, owned.held, refl)) alone))
              | inr other ↦ let two : need_each c both ≡ 2 = rw (need-both, shared, other) refl in inr (omega (arith, free, two, more, written.kept.frames))
            ]
      ]
