-- Laws of zeroing a range page by page: contents stay good, nothing changes but pages, how many frames it takes, and pages that no
-- other VMO shows stay so.
use Rattle.std.proofs.Common.{◌≡◌, ◌≢◌, ℕ, ◌+◌, ◌*◌, ◌/◌, ◌<◌, ◌≤◌, Bool, true, false, not, cond, ◌&&◌, replicate, ◌⊎◌, refl, sym, ap, subst, ◌∙◌, inl, inr, arith}
use Rattle.std.specs.Prelude.{is_some}
use Rattle.std.proofs.lemmas.Bool.{cases_Bool, cases_lt, both_ways, and_parts, not-true}
use Rattle.vm_base.specs.declared.limits.TheConstants.{PAGE}
use Rattle.vm_model.specs.Contents.Content.{Content, is_held, pages_of, used, sole, IsGood}
use Rattle.vm_model.specs.Contents.Writing.{touched, piece, WritesPiece}
use Rattle.vm_model.specs.Contents.Zeroing.{zeroed, is_whole, is_cleared, ZeroesPage, Zeroes}
use Rattle.vm_base.proofs.EntryLaws.{some_is}
use Rattle.vm_model.proofs.ContentLaws.{same_page as cases_page}
use Rattle.vm_model.proofs.ZeroingLaws.{page-zeroed_out, page-zeroed_some, sole-zeroed_out, IsGood-zeroed, used-zeroed_le}
use Rattle.vm_model.proofs.RangeLaws.{part_fits}
use Rattle.vm_model.proofs.SoleLaws.{sole-zeroed_kept}
use Rattle.vm_model.proofs.WritingLaws.{IsKept, IsKept-same, IsKept-trans, Written, Written-from_WritesPiece, KeepsPages, IsHandedOn, KeepsPages-handed_on, Written-other, WritesPiece-keeps, touched_keeps}

-- ---- one page

-- pages that become zero
pub zeroed-keeps : (c : Content) (v first end : ℕ) → IsGood c → IsKept c (zeroed c v first end)
unfolding zeroed pages_of
zeroed-keeps c v first end good =
    record { good = IsGood-zeroed c v first end good; frames = refl; next = refl; count = refl; pages = λ w. refl }

-- what zeroing one page gives: the other pages are as they were, and a frame more is used only where it was copied
pub record ZeroedPage (old : Content) (v : ℕ) (pinned : ℕ → Bool) (offset len p : ℕ) (new : Content) : Type 0 where
  pub kept : IsKept old new
  pub other_page : (q : ℕ) → q ≢ p → new.page v q ≡ old.page v q
  pub other_sole : (q : ℕ) → q ≢ p → sole new v q ≡ sole old v q
  pub used : used new ≤ used old + cond ((is_held old v p && not (is_cleared pinned offset len p)) && not (sole old v p)) 1 0

-- another page lies before or behind a page
pub beside : (p q : ℕ) → q ≢ p → (q < p) ⊎ (p + 1 ≤ q)
beside p q apart = elim (cases_lt q p) [ inl before ↦ inl before | inr from ↦ inr (omega arith) ]

module _ (old : Content) (v : ℕ) (pinned : ℕ → Bool) (offset len p : ℕ) (new : Content) (good : IsGood old) where
  -- a page that becomes zero as a whole
  cleared_page : new ≡ zeroed old v p (p + 1) → ZeroedPage old v pinned offset len p new
  cleared_page is = subst (ZeroedPage old v pinned offset len p) (sym is) (record {
    kept = zeroed-keeps old v p (p + 1) good;
    other_page = λ q apart. page-zeroed_out old v p (p + 1) v q (λ same. beside p q apart);
    other_sole = λ q apart. sole-zeroed_out old v p (p + 1) q (beside p q apart);
    used = omega (arith, used-zeroed_le old v p (p + 1) good);
  })

  -- another page that is held, written with zeros
  part_page : p < pages_of old v → offset / PAGE ≤ p → is_cleared pinned offset len p ≡ false → is_held old v p ≡ true → WritesPiece old (piece v offset (replicate len 0) p) new → ZeroedPage old v pinned offset len p new
  part_page h from part held writes =
      let below : (piece v offset (replicate len 0) p).page < pages_of old v = omega (arith, h) in
      let written : Written old v p new =
      Written-from_WritesPiece old (piece v offset (replicate len 0) p) new good below (part_fits offset (replicate len 0) p from) writes in
      record {
        kept = written.kept;
        other_page = written.other_page;
        other_sole = written.other_sole;
        used = cost (is_held old v p) (is_cleared pinned offset len p) (sole old v p) (used new) (used old) held part written.used;
      } where
        cost : (a b alone : Bool) (m n : ℕ) → a ≡ true → b ≡ false → m ≡ cond alone n (n + 1) → m ≤ n + cond ((a && not b) && not alone) 1 0
        cost true false true m n held part is = omega arith
        cost true false false m n held part is = omega arith
        cost true true alone m n held part is = absurd cc
        cost false b alone m n held part is = absurd cc

  -- a page that is zero already
  same_page : new ≡ old → ZeroedPage old v pinned offset len p new
  same_page is = subst (ZeroedPage old v pinned offset len p) (sym is) (record {
    kept = IsKept-same old old good refl;
    other_page = λ q apart. refl;
    other_sole = λ q apart. refl;
    used = omega arith;
  })

  pub ZeroedPage-from_ZeroesPage : p < pages_of old v → offset / PAGE ≤ p → ZeroesPage old v pinned offset len p new → ZeroedPage old v pinned offset len p new
  ZeroedPage-from_ZeroesPage h from zeroes = elim (cases_Bool (is_cleared pinned offset len p)) [
    | inl cleared ↦ cleared_page (zeroes.cleared cleared)
    | inr part ↦ elim (cases_Bool (is_held old v p)) [
      | inl held ↦ part_page h from part held (zeroes.held part held)
      | inr free ↦ same_page (zeroes.zero part free)
    ]
  ]

-- one page below the count: a sole page stays so, but for a page of the VMO that is not pinned
ZeroesPage-keeps : (pins : ℕ → ℕ → Bool) (v offset len : ℕ) (old new : Content) (p : ℕ) → IsGood old → p < pages_of old v → offset / PAGE ≤ p
    → ZeroesPage old v (pins v) offset len p new → KeepsPages pins old new
ZeroesPage-keeps pins v offset len old new p good h from zeroes = record {
  kept = (ZeroedPage-from_ZeroesPage old v (pins v) offset len p new good h from zeroes).kept;
  alone = λ w q pinned was. elim (cases_Bool (is_cleared (pins v) offset len p)) [
    | inl cleared ↦
        let free = not-true (pins v p) (and_parts (is_whole offset len p) (not (pins v p)) cleared).1 in
        subst (λ (c : Content). sole c w q ≡ true) (sym (zeroes.cleared cleared)) (sole-zeroed_kept old v p (p + 1) w q good was (λ same.
        beside p q (λ page. both_ways (pins v p) free (let vmo = same in let place = page in cc))))
    | inr part ↦ elim (cases_Bool (is_held old v p)) [
      | inl held ↦
          let piece_fits = part_fits offset (replicate len 0) p from in
          (WritesPiece-keeps old (piece v offset (replicate len 0) p) new good h piece_fits (zeroes.held part held) pins).alone w q pinned was
      | inr free ↦ subst (λ (c : Content). sole c w q ≡ true) (sym (zeroes.zero part free)) was
    ]
  ];
}

-- all pages of a range inside the VMO
pub Zeroes-keeps : (pins : ℕ → ℕ → Bool) (v offset len : ℕ) (old new : Content) → IsGood old → offset + len ≤ pages_of old v * PAGE
    → Zeroes old v (pins v) offset len (touched offset len) new → KeepsPages pins old new
Zeroes-keeps pins v offset len old new good h zeroes =
    touched_keeps (KeepsPages pins) (KeepsPages-handed_on pins) v (offset / PAGE) (λ a p b. ZeroesPage a v (pins v) offset len p b) (λ a ps b. Zeroes a v (pins v) offset len ps b)
    (λ a b e. e) (λ a b p ps all. all) (ZeroesPage-keeps pins v offset len) offset len old new good (omega arith) h zeroes

-- ---- pages that no other VMO shows

-- new has the frames and VMOs of old, and is good, and each page stays zero or sole that is so
pub record KeepsOwn (old new : Content) : Type 0 where
  pub kept : IsKept old new
  pub own : (w q : ℕ) → (is_held old w q ≡ true → sole old w q ≡ true) → is_held new w q ≡ true → sole new w q ≡ true

-- one change after another keeps this
KeepsOwn-handed_on : IsHandedOn KeepsOwn
KeepsOwn-handed_on = record {
  kept = λ old new keeps. keeps.kept;
  same = λ old new good e. subst (KeepsOwn old) (sym e) (record { kept = IsKept-same old old good refl; own = λ w q was held. was held });
  both = λ old mid new first second. record {
    kept = IsKept-trans old mid new first.kept second.kept;
    own = λ w q was held. second.own w q (first.own w q was) held;
  };
}

-- one page below the count
ZeroesPage-own : (v : ℕ) (pinned : ℕ → Bool) (offset len : ℕ) (old new : Content) (p : ℕ) → IsGood old → p < pages_of old v → offset / PAGE ≤ p
    → ZeroesPage old v pinned offset len p new → KeepsOwn old new
ZeroesPage-own v pinned offset len old new p good h from zeroes = record {
  kept = (ZeroedPage-from_ZeroesPage old v pinned offset len p new good h from zeroes).kept;
  own = λ w q was. elim (cases_Bool (is_cleared pinned offset len p)) [
    | inl cleared ↦ subst (λ (c : Content). is_held c w q ≡ true → sole c w q ≡ true) (sym (zeroes.cleared cleared)) (λ held.
        let page = some_is ((zeroed old v p (p + 1)).page w q) held in
        let before = page-zeroed_some old v p (p + 1) w q page.0 page.1 in
        sole-zeroed_kept old v p (p + 1) w q good (was (ap is_some before.0)) before.1)
    | inr part ↦ elim (cases_Bool (is_held old v p)) [
      | inr free ↦ subst (λ (c : Content). is_held c w q ≡ true → sole c w q ≡ true) (sym (zeroes.zero part free)) was
      | inl here ↦ λ held.
          let fits = part_fits offset (replicate len 0) p from in
          let writes = zeroes.held part here in
          let before : is_held old w q ≡ true = elim (cases_page v p w q) [
            | inl this ↦ ap (λ (u : ℕ). is_held old u q) this.0 ∙ (ap (is_held old v) this.1 ∙ here)
            | inr other ↦ ap is_some (sym (Written-other old new v p (Written-from_WritesPiece old (piece v offset (replicate len 0) p) new good h fits writes) w q other)) ∙ held
          ] in
          (WritesPiece-keeps old (piece v offset (replicate len 0) p) new good h fits writes (λ u x. true)).alone w q refl (was before)
    ]
  ];
}

-- all pages of a range inside the VMO
pub Zeroes-own : (v : ℕ) (pinned : ℕ → Bool) (offset len : ℕ) (old new : Content) → IsGood old → offset + len ≤ pages_of old v * PAGE
    → Zeroes old v pinned offset len (touched offset len) new → KeepsOwn old new
Zeroes-own v pinned offset len old new good h zeroes =
    touched_keeps KeepsOwn KeepsOwn-handed_on v (offset / PAGE) (λ a p b. ZeroesPage a v pinned offset len p b) (λ a ps b. Zeroes a v pinned offset len ps b)
    (λ a b e. e) (λ a b p ps all. all) (ZeroesPage-own v pinned offset len) offset len old new good (omega arith) h zeroes
