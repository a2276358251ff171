-- Laws of owning pages: what stays, how many frames it takes, and that contents stay good.
use Rattle.std.proofs.Common.{◌≡◌, ◌≢◌, ℕ, zero, suc, ◌+◌, ◌<◌, ◌≤◌, Bool, true, false, not, cond, ◌&&◌, List, ◌∷◌, length, Option, None, Some, refl, sym, ap, subst, ◌∙◌, inl, inr, arith}
use Rattle.std.specs.List.{range_with_len, filter}
use Rattle.std.proofs.lemmas.Bool.{cases_Bool}
use Rattle.vm_base.specs.declared.limits.TheConstants.{PAGE}
use Rattle.vm_model.specs.Contents.Content.{Page, Content, shown, pages_of, used, sole, hold, IsGood}
use Rattle.vm_model.specs.Contents.Owning.{Owns, pages_at, need_from, need}
use Rattle.vm_base.proofs.SearchLaws.{bit_le, bit_same}
use Rattle.vm_model.proofs.ContentLaws.{page-hold_here, page-hold_other, sole_held, sole-hold_new, sole-hold_elsewhere, IsGood-hold_new, used-hold_new, bytes_of-some, bytes_of-none}
use Rattle.vm_model.proofs.SoleLaws.{sole-hold_keeps}
use Rattle.vm_base.proofs.PageLaws.{length-zeros}

-- the bytes that a page of a good content shows are a page
pub length-shown : (c : Content) (v p : ℕ) → IsGood c → length (shown c v p) ≡ PAGE
length-shown c v p good = go (c.page v p) refl where
  go : (o : Option Page) → c.page v p ≡ o → length (shown c v p) ≡ PAGE
  go None e = ap length (bytes_of-none (c.page v p) e) ∙ length-zeros
  go (Some held) e = ap length (bytes_of-some (c.page v p) held e) ∙ good.whole v p held e

-- what owning gives: the page is sole and held with the frame, shows what it showed, and all else is as it was
pub record Owned (old new : Content) (v p tag : ℕ) : Type 0 where
  pub good : IsGood new
  pub held : new.page v p ≡ Some (record { tag = tag; bytes = shown old v p })
  pub alone : sole new v p ≡ true
  pub frames : new.frames ≡ old.frames
  pub next : new.next ≡ old.next
  pub count : new.count ≡ old.count
  pub pages : (w : ℕ) → pages_of new w ≡ pages_of old w
  pub other_page : (q : ℕ) → q ≢ p → new.page v q ≡ old.page v q
  pub other_vmo : (w q : ℕ) → w ≢ v → new.page w q ≡ old.page w q
  pub other_sole : (q : ℕ) → q ≢ p → sole new v q ≡ sole old v q
  pub used : used new ≡ cond (sole old v p) (used old) (used old + 1)
  pub keeps : (w q : ℕ) → sole old w q ≡ true → sole new w q ≡ true

pub Owned-from_Owns : (old new : Content) (v p tag : ℕ) → IsGood old → p < pages_of old v → Owns old new v p tag → Owned old new v p tag
unfolding hold pages_of
Owned-from_Owns old new v p tag good h owns = elim (cases_Bool (sole old v p)) [
  | inl alone ↦
      let stays = owns.stays alone in
      let held = sole_held old v p alone in
      subst (λ (c : Content). Owned old c v p tag) (sym stays.0) (record {
        good = good;
        held = held.1 ∙ (λ i. Some (record { tag = sym (stays.1 held.0 held.1) i; bytes = sym (bytes_of-some (old.page v p) held.0 held.1) i }));
        alone = alone;
        frames = refl;
        next = refl;
        count = refl;
        pages = λ w. refl;
        other_page = λ q apart. refl;
        other_vmo = λ w q apart. refl;
        other_sole = λ q apart. refl;
        used = ap (λ b. cond b (used old) (used old + 1)) (sym alone);
        keeps = λ w q was. was;
      })
  | inr shared ↦
      let copies = owns.copies shared in
      let page : Page = record { tag = tag; bytes = shown old v p } in
      let whole = length-shown old v p good in
      subst (λ (c : Content). Owned old c v p tag) (sym copies.2) (record {
        good = IsGood-hold_new old v p page good h copies.0 copies.1 whole;
        held = page-hold_here old v p page;
        alone = sole-hold_new old v p page good copies.1;
        frames = refl;
        next = refl;
        count = refl;
        pages = λ w. refl;
        other_page = λ q apart. page-hold_other old v p page v q (λ vmo. apart);
        other_vmo = λ w q apart. page-hold_other old v p page w q (λ vmo here. apart vmo);
        other_sole = λ q apart. sole-hold_elsewhere old v p q page apart;
        used = used-hold_new old v p page good h shared copies.0 copies.1 whole ∙ ap (λ b. cond b (used old) (used old + 1)) (sym shared);
        keeps = λ w q was. sole-hold_keeps old v p page w q good (inl copies.1) was;
      })
]

-- ---- counting pages in a row

-- how many of n pages from one on pass
unfoldable pub count_from : (ℕ → Bool) → ℕ → ℕ → ℕ
count_from test first zero = 0
count_from test first (suc n) = cond (test first) 1 0 + count_from test (first + 1) n

-- tests that agree on those pages count alike
pub count_from-same : (f g : ℕ → Bool) (first n : ℕ) → ((p : ℕ) → first ≤ p → p < first + n → f p ≡ g p) → count_from f first n ≡ count_from g first n
unfolding count_from
count_from-same f g first zero each = refl
count_from-same f g first (suc n) each =
    omega (arith, bit_same (f first) (g first) (each first (omega arith) (omega arith)), count_from-same f g (first + 1) n (λ p h less. each p (omega arith) (omega arith)))

-- no more pass than there are pages
pub count_from_le : (test : ℕ → Bool) (first n : ℕ) → count_from test first n ≤ n
unfolding count_from
count_from_le test first zero = omega arith
count_from_le test first (suc n) = omega (arith, bit_le (test first), count_from_le test (first + 1) n)

-- ---- need

-- how many of n pages from one on are not sole
unfoldable pub unowned : Content → ℕ → ℕ → ℕ → ℕ
unowned c v first n = count_from (λ p. not (sole c v p)) first n

pub unowned_le : (c : Content) (v first n : ℕ) → unowned c v first n ≤ n
unfolding unowned
unowned_le c v first n = count_from_le (λ p. not (sole c v p)) first n

-- the need of those pages in a row that pass is the number of them that are not sole
pub need_from-filter : (fresh : ℕ) (c : Content) (v first n : ℕ) (test : ℕ → Bool) → need_from fresh c (pages_at v (filter test (range_with_len first n))) ≡ count_from (λ p. test p && not (sole c v p)) first n
unfolding need_from count_from
need_from-filter fresh c v first zero test = refl
need_from-filter fresh c v first (suc n) test =
    let page : Page = record { tag = fresh; bytes = shown c v first } in
    let kept : count_from (λ p. test p && not (sole (hold c v first page) v p)) (first + 1) n ≡ count_from (λ p. test p && not (sole c v p)) (first + 1) n =
    count_from-same (λ p. test p && not (sole (hold c v first page) v p)) (λ p. test p && not (sole c v p)) (first + 1) n
    (λ p h less. let apart : p ≢ first = omega arith in ap (λ (b : Bool). test p && not b) (sole-hold_elsewhere c v first p page apart)) in
    one (test first) (filter test (range_with_len (first + 1) n)) _ (need_from-filter fresh c v (first + 1) n test)
    (need_from-filter (fresh + 1) (hold c v first page) v (first + 1) n test ∙ kept) where
      bits : (alone : Bool) (x y z : ℕ) → x ≡ z → y ≡ z → cond alone x (suc y) ≡ cond (not alone) 1 0 + z
      bits true x y z e f = omega (arith, e)
      bits false x y z e f = omega (arith, f)

      one : (pass : Bool) (ps : List ℕ) (z : ℕ) → need_from fresh c (pages_at v ps) ≡ z → need_from (fresh + 1) (hold c v first (record { tag = fresh; bytes = shown c v first })) (pages_at v ps) ≡ z
          → need_from fresh c (pages_at v (cond pass (first ∷ ps) ps)) ≡ cond (pass && not (sole c v first)) 1 0 + z
      one true ps z stays comes = bits (sole c v first) _ _ z stays comes
      one false ps z stays comes = omega (arith, stays)

pub need-filter : (c : Content) (v first n : ℕ) (test : ℕ → Bool) → need c v (filter test (range_with_len first n)) ≡ count_from (λ p. test p && not (sole c v p)) first n
need-filter c v first n test = need_from-filter c.frames c v first n test

-- the need of pages in a row is the number of them that are not sole
pub need-row : (c : Content) (v first n : ℕ) → need c v (range_with_len first n) ≡ unowned c v first n
unfolding unowned
need-row c v first n = sym (ap (need c v) (filter_all first n)) ∙ need-filter c v first n (λ p. true) where
  filter_all : (a m : ℕ) → filter (λ p. true) (range_with_len a m) ≡ range_with_len a m
  filter_all a zero = refl
  filter_all a (suc m) = ap (λ (ps : List ℕ). a ∷ ps) (filter_all (a + 1) m)
