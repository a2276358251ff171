-- Each frame in use is charged to one VMO: the charged pages of all VMOs add up to the frames in use.
use Rattle.std.proofs.Common.{◌≡◌, ℕ, zero, suc, ◌+◌, Bool, true, false, not, cond, ◌||◌, ◌==◌, Option, None, Some, refl, sym, ap, arith}
use Rattle.std.proofs.lemmas.Bool.{or_left, false_from_ne_true}
use Rattle.vm_base.specs.Search.{any_below, count_below, sum_below}
use Rattle.vm_base.proofs.SearchLaws.{any_below_found, eqb_same, eqb_apart, bit_same, bit-true, count_below_change, count_below_none}
use Rattle.vm_model.specs.Contents.Content.{Page, Content, pages_of, has_tag, views, in_use, used, IsGood}
use Rattle.vm_model.specs.Machine.Attribution.{count_pages, is_charged_page, is_charged}
use Rattle.vm_model.proofs.ContentLaws.{has_tag_held}

-- a test or its contrary passes
bit_not : (b : Bool) → ◌≡◌ {A = ℕ} (cond (not b) 1 0 + cond b 1 0) 1
bit_not true = refl
bit_not false = refl

-- a VMO with a koid below v shows the frame t
abbrev lesser_views : Content → ℕ → ℕ → Bool
lesser_views c v t = any_below v (views c t)

module _ (c : Content) (v : ℕ) (good : IsGood c) where
  -- one of the first m pages of v has the frame t
  abbrev has_before : ℕ → ℕ → Bool
  has_before m t = any_below m (λ p. has_tag t (c.page v p))

  -- no page before a held one has its frame
  frame_is_new : (m : ℕ) (held : Page) → c.page v m ≡ Some held → has_before m held.tag ≡ false
  frame_is_new m held e = false_from_ne_true (has_before m held.tag) (λ has.
      let found = any_below_found m (λ p. has_tag held.tag (c.page v p)) has in
      let other = has_tag_held held.tag (c.page v found.0) found.2 in
      absurd (omega (arith, found.1, good.apart v found.0 m other.0 held other.1 e other.2)))

  -- one page more shows one frame more where it is charged, and none more where it is not
  charged-page : (m : ℕ) (o : Option Page) → c.page v m ≡ o
      → count_below c.frames (λ t. (has_tag t o || has_before m t) || lesser_views c v t)
      ≡ cond (is_charged_page c v o) 1 0 + count_below c.frames (λ t. has_before m t || lesser_views c v t)
  unfolding has_tag is_charged_page
  charged-page m None e = omega arith
  charged-page m (Some held) e =
      let lesser : Bool = lesser_views c v held.tag in
      let old : ℕ → Bool = λ t. has_before m t || lesser_views c v t in
      let new : ℕ → Bool = λ t. ((held.tag == t) || has_before m t) || lesser_views c v t in
      let change = count_below_change c.frames held.tag old new (good.tags v m held e) (λ t low other.
      ap (λ (b : Bool). (b || has_before m t) || lesser_views c v t) (eqb_apart held.tag t (λ same. other (sym same)))) in
      let was = bit_same (old held.tag) lesser (ap (λ (b : Bool). b || lesser) (frame_is_new m held e)) in
      let is = bit-true (new held.tag) (or_left _ _ (or_left _ _ (eqb_same held.tag))) in
      omega (arith, change, was, is, bit_not lesser)

  -- the first m pages of v show one frame more than lesser koids do for each that is charged
  charged-pages : (m : ℕ) → count_below c.frames (λ t. has_before m t || lesser_views c v t)
      ≡ count_below m (is_charged c v) + count_below c.frames (lesser_views c v)
  unfolding any_below count_below
  charged-pages zero = omega arith
  charged-pages (suc m) = omega (arith, charged-page m (c.page v m) refl, charged-pages m)

-- the charged pages of the koids below n are as many as the frames that these show
charged-koids : (c : Content) (n : ℕ) → IsGood c
    → sum_below n (λ v. count_pages c v (is_charged c v)) ≡ count_below c.frames (lesser_views c n)
unfolding any_below sum_below views
charged-koids c zero good = sym (count_below_none c.frames _ (λ t h. refl))
charged-koids c (suc n) good = omega (arith, charged-pages c n good (pages_of c n), charged-koids c n good)

-- the charged pages of all VMOs are as many as the frames in use
pub charged-used : (c : Content) → IsGood c → sum_below c.next (λ v. count_pages c v (is_charged c v)) ≡ used c
unfolding in_use used
charged-used c good = charged-koids c c.next good
