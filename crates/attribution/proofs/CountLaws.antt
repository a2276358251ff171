-- How the held pages of a VMO are counted from one to the next.
use mir.Val.{bool_byte}
use Rattle.std.proofs.Common.{◌≡◌, ℕ, ◌+◌, ◌<◌, ◌≤◌, Bool, true, false, not, cond, Option, None, Some, refl, sym, ap, ◌∙◌, arith}
use Rattle.std.specs.Prelude.{IsSome}
use Rattle.std.proofs.lemmas.Bool.{not_from_false, false_from_ne_true}
use Rattle.vm_base.specs.declared.names.Tag.{Tag}
use Rattle.vm_base.specs.declared.limits.TheConstants.{VMO_PAGES}
use Rattle.vm_base.specs.Search.{count_below}
use Rattle.vm_base.proofs.SearchLaws.{none_below, count_below_le, count_below-suc, count_below-zero, count_below_gap, bit_same}
use Rattle.vm_model.specs.Contents.Content.{Page, Content, is_held, pages_of, views, is_sole_page, sole, IsGood}
use Rattle.vm_model.specs.Machine.Attribution.{is_shared, is_charged}
use Rattle.vm_model.proofs.ContentLaws.{count_from_page, views_found, sole_alone}
use Rattle.vm_model.proofs.ContentLaws.{IsOfHeld, IsOfHeld-held}
use Rattle.page_store.specs.declared.page_store.Look.TheVariants as look
use Rattle.page_store.specs.Pages.{look_at, tag_held}
use Rattle.attribution.specs.declared.counts.Counts.{Counts}
use Rattle.attribution.specs.inside.Counts.{AreCounts}
use Rattle.attribution.proofs.LesserLaws.{is_charged-at, is_charged_page-some}
use Rattle.attribution.proofs.AttributionLaws.{is_held-some, is_shared-some, IsOfHeld-sole, IsOfHeld-shared, IsOfHeld-charged}

-- ---- a test as a number

pub byte_le : (b : Bool) → bool_byte b ≤ 1
byte_le true = omega arith
byte_le false = omega arith

byte_bit : (b : Bool) → ◌≡◌ {A = ℕ} (bool_byte b) (cond b 1 0)
byte_bit true = refl
byte_bit false = refl

-- ---- a held page

-- page p of v is held so
pub record IsHeldSo (c : Content) (v p : ℕ) (tag : Tag) (alone : Bool) : Type 0 where
  pub held : Page
  pub page : c.page v p ≡ Some held
  pub frame : held.tag ≡ tag.0
  pub sharing : sole c v p ≡ alone

-- so it looks
pub looks_held : (c : Content) (v p : ℕ) (tag : Tag) (alone : Bool) → look.Held tag alone ≡ look_at c v (c.page v p)
    → IsHeldSo c v p tag alone
looks_held c v p tag alone e = go (c.page v p) refl e where
  go : (o : Option Page) → c.page v p ≡ o → look.Held tag alone ≡ look_at c v o → IsHeldSo c v p tag alone
  go None page looks = absurd cc
  go (Some held) page looks =
      let same : tag ≡ record { 0 = held.tag } = cc in
      let is_alone : is_sole_page c v (Some held) ≡ alone = cc in
      record {
        held = held;
        page = page;
        frame = ap (λ (t : Tag). t.0) (sym same);
        sharing = ap (is_sole_page c v)
            page ∙ is_alone;
      }

-- it has this frame
pub held_so-frame : (c : Content) (v p : ℕ) (tag : Tag) (alone : Bool) → IsHeldSo c v p tag alone → Some tag ≡ tag_held (c.page v p)
held_so-frame c v p tag alone is = rw (is.page, is.frame) refl

module _ (c : Content) (v p : ℕ) (tag : Tag) (alone : Bool) (good : IsGood c) (is : IsHeldSo c v p tag alone) where
  -- a VMO is charged for its sole pages
  pub charged-sole : alone ≡ true → is_charged c v p ≡ true
  charged-sole yes_alone =
      is_charged-at c v p is.held is.page
      ∙ (is_charged_page-some c v is.held
      ∙ not_from_false _ (none_below v (views c (is.held).tag)
      (λ w h. false_from_ne_true (views c (is.held).tag w) (λ shows.
      let found = views_found c (is.held).tag w shows in
      let same = sole_alone c v p w found.0 is.held found.1 good (is.sharing ∙ yes_alone) is.page found.3 found.4 in
      let koid : w ≡ v = same.0 in
      absurd (omega arith)))))

-- ---- counts

-- no page is counted
pub AreCounts-none : (c : Content) (v : ℕ) → AreCounts c v 0 (record { held = 0; sole = 0; shared = 0; charged = 0 })
AreCounts-none c v =
    record {
      held = sym (count_below-zero _);
      alone = sym (count_below-zero _);
      shared = sym (count_below-zero _);
      charged = sym (count_below-zero _);
    }

-- no more pages are counted than there are
pub record AreFew (n : ℕ) (counts : Counts) : Type 0 where
  pub held : counts.held ≤ n
  pub alone : counts.sole ≤ n
  pub shared : counts.shared ≤ n
  pub charged : counts.charged ≤ n

counts_few : (c : Content) (v n m : ℕ) (counts : Counts) → AreCounts c v n counts → n ≤ m → AreFew m counts
counts_few c v n m counts are h = record {
  held = omega (arith, are.held, count_below_le n (is_held c v));
  alone = omega (arith, are.alone, count_below_le n (sole c v));
  shared = omega (arith, are.shared, count_below_le n (is_shared c v));
  charged = omega (arith, are.charged, count_below_le n (is_charged c v));
}

pages_few : (c : Content) (v p : ℕ) → IsGood c → p < pages_of c v → p ≤ VMO_PAGES
pages_few c v p good h = let few = good.counts v (pages_of c v) (count_from_page c v p h) in omega arith

-- before a page that is held
pub page_room : (c : Content) (v p : ℕ) → IsGood c → IsSome (c.page v p) → (p < pages_of c v) × (p ≤ VMO_PAGES)
page_room c v p good some = go (c.page v p) refl some where
  go : (o : Option Page) → c.page v p ≡ o → IsSome o → (p < pages_of c v) × (p ≤ VMO_PAGES)
  go None e is = absurd cc
  go (Some held) e is = let h = good.below v p held e in (h, pages_few c v p good h)

pub counts_room : (c : Content) (v p : ℕ) (counts : Counts) → IsGood c → IsSome (c.page v p) → AreCounts c v p counts
    → AreFew VMO_PAGES counts
counts_room c v p counts good some are = counts_few c v p VMO_PAGES counts are (page_room c v p good some).1

-- zero pages leave the counts
pub AreCounts-gap : (c : Content) (v m n : ℕ) (counts : Counts) → m ≤ n → ((p : ℕ) → m ≤ p → p < n → c.page v p ≡ None)
    → AreCounts c v m counts → AreCounts c v n counts
AreCounts-gap c v m n counts h zero are = record {
  held = are.held ∙ same (is_held c v) (IsOfHeld-held c v);
  alone = are.alone ∙ same (sole c v) (IsOfHeld-sole c v);
  shared = are.shared ∙ same (is_shared c v) (IsOfHeld-shared c v);
  charged = are.charged ∙ same (is_charged c v) (IsOfHeld-charged c v);
} where
  same : (test : ℕ → Bool) → IsOfHeld c v test → count_below m test ≡ count_below n test
  same test of = sym (count_below_gap m n test h (λ k low high. of.zero_fails k (zero k low high)))

-- one page more, which passes the test or does not
count-more : (test : ℕ → Bool) (p old new : ℕ) (b : Bool) → old ≡ count_below p test → new ≡ old + bool_byte b → test p ≡ b → new ≡ count_below (p + 1) test
count-more test p old new b was more is = omega (arith, was, more, byte_bit b, count_below-suc p test, bit_same (test p) b is)

-- a held page
pub AreCounts-page : (c : Content) (v p : ℕ) (tag : Tag) (alone charged : Bool) (old new : Counts)
    → IsHeldSo c v p tag alone → charged ≡ is_charged c v p → AreCounts c v p old →
    new.held ≡ old.held + 1 → new.sole ≡ old.sole + bool_byte alone → new.shared ≡ old.shared + bool_byte (not alone)
    → new.charged ≡ old.charged + bool_byte charged → AreCounts c v (p + 1) new
AreCounts-page c v p tag alone charged old new is charge are h s r g = record {
  held = count-more (is_held c v) p old.held new.held true are.held h (is_held-some c v p is.held is.page);
  alone = count-more (sole c v) p old.sole new.sole alone are.alone s is.sharing;
  shared = count-more (is_shared c v) p old.shared new.shared (not alone) are.shared r (is_shared-some c v p is.held is.page ∙ ap not is.sharing);
  charged = count-more (is_charged c v) p old.charged new.charged charged are.charged g (sym charge);
}
