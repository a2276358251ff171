-- The translations once those of a page of a VMO that hold another frame were forgotten, and when none does.
use Rattle.std.proofs.Common.{◌≡◌, ℕ, ◌+◌, ◌<◌, ◌≤◌, Bool, true, false, cond, not, ◌&&◌, ◌==◌, Option, None, Some, refl, sym, ap, subst, ◌∙◌, inl, inr, arith}
use Rattle.std.specs.Prelude.{IfSome}
use Rattle.std.proofs.lemmas.Bool.{cases_Bool, and_left, and_right, and_from, eq-eqb, both_ways}
use Rattle.std.proofs.lemmas.Bool.Decides.{nat_tests}
use Rattle.vm_base.specs.Entries.{passes}
use Rattle.vm_base.proofs.SearchLaws.{eqb_is}
use Rattle.vm_base.specs.declared.names.Tag.{Tag}
use Rattle.vm_model.specs.declared.space.Entry.{Entry}
use Rattle.vm_model.specs.Contents.Zeroing.{is_within}
use Rattle.vm_model.specs.Space.Readiness.{is_same_frame, shows_in, frame_number}
use Rattle.vm_model.proofs.ReadinessLaws.{is_same_frame-same}
use Rattle.fault.specs.declared.translation.Translation.{Translation}
use Rattle.fault.specs.Table.{Places, translated_frame, with_translation, translations_without, is_translation_of, is_outdated}
use Rattle.fault.specs.inside.Walks.{changed_where, dropped, holds_other, HoldsOther, HasFrame, HoldElsewhere, HasNoList}
use Rattle.fault.proofs.PlaceLaws.{changed-none, changed-alike, dropped-left, dropped-gone}

-- frames of one number are the same
pub same-frame : (a b : Option Tag) → is_same_frame (frame_number a) (frame_number b) ≡ true → a ≡ b
same-frame None None e = refl
same-frame None (Some t) e = absurd cc
same-frame (Some s) None e = absurd cc
same-frame (Some s) (Some t) e =
    let number = eqb_is s.0 t.0 e in
    let tag : s ≡ t = λ i. record { 0 = number i } in
    ap (λ (x : Tag). Some x) tag

-- ---- the translations of a page of a VMO

-- a translation of the page
shows-is : (v p w page : ℕ) → ((w == v) && is_within p (p + 1) page) ≡ true → (w ≡ v) × (page ≡ p)
shows-is v p w page e = grind (arith, nat_tests)

shows-not : (v p w page : ℕ) → (w ≡ v → p ≤ page → page < p + 1 → ⊥) → ((w == v) && is_within p (p + 1) page) ≡ false
shows-not v p w page none = grind (arith, nat_tests)

-- none is there
pub outdated-none : (places : Places) (v p : ℕ) (frame : Option ℕ) → HasNoList places v p (p + 1) → places ≡ changed_where dropped (is_outdated v p frame) places
outdated-none places v p frame none = changed-none dropped places (is_outdated v p frame) (λ r q x there.
    and_left (shows_in v p (p + 1) x.entry) (holds_other frame x) (shows-not v p x.entry.koid.0 x.entry.page
    (λ koid low high. none r q x there (record { koid = koid; order = low; below = high }))))

-- then they hold any frame
pub HasFrame-none : (places : Places) (v p : ℕ) (frame : Option Tag) → HasNoList places v p (p + 1) → HasFrame places v p frame
HasFrame-none places v p frame none r q x there koid page = absurd (none r q x there (record { koid = koid; order = omega (arith, page); below = omega (arith, page) }))

module _ (places : Places) (v p : ℕ) (list : Option Tag) (has : HasFrame places v p list) (frame : Option Tag) where
  -- one of them holds another frame where all do
  other-is : (r q : ℕ) (x : Translation) → places r q ≡ Some x → shows_in v p (p + 1) x.entry ≡ true
      → holds_other (frame_number frame) x ≡ not (is_same_frame (frame_number list) (frame_number frame))
  other-is r q x there shows =
      let page = shows-is v p x.entry.koid.0 x.entry.page shows in
      ap (λ (f : Option Tag). not (is_same_frame (frame_number f) (frame_number frame))) (has r q x there page.0 page.1)

  -- they hold this frame: none holds another
  pub outdated-same : is_same_frame (frame_number list) (frame_number frame) ≡ true → places ≡ changed_where dropped (is_outdated v p (frame_number frame)) places
  outdated-same same = changed-none dropped places (is_outdated v p (frame_number frame)) (λ r q x there. elim (cases_Bool (shows_in v p (p + 1) x.entry)) [
    | inl shows ↦ and_right (shows_in v p (p + 1) x.entry) (holds_other (frame_number frame) x) (other-is r q x there shows ∙ ap not same)
    | inr other ↦ and_left (shows_in v p (p + 1) x.entry) (holds_other (frame_number frame) x) other
  ])

  pub HasFrame-same : is_same_frame (frame_number list) (frame_number frame) ≡ true → HasFrame places v p frame
  HasFrame-same same = subst (HasFrame places v p) (same-frame list frame same) has

  module _ (new : Places) (e : new ≡ changed_where dropped (is_translation_of v p (p + 1)) places) where
    -- they hold another: all are outdated
    pub outdated-all : is_same_frame (frame_number list) (frame_number frame) ≡ false → new ≡ changed_where dropped (is_outdated v p (frame_number frame)) places
    outdated-all other = changed-alike dropped new places (is_translation_of v p (p + 1)) (is_outdated v p (frame_number frame)) (λ r q x there. elim (cases_Bool (shows_in v p (p + 1) x.entry)) [
      | inl shows ↦ shows ∙ sym (and_from (shows_in v p (p + 1) x.entry) (holds_other (frame_number frame) x) shows (other-is r q x there shows ∙ ap not other))
      | inr apart ↦ apart ∙ sym (and_left (shows_in v p (p + 1) x.entry) (holds_other (frame_number frame) x) apart)
    ]) e

    -- and none is left
    pub HasFrame-dropped : HasFrame new v p frame
    HasFrame-dropped r q x there koid page =
        let left = dropped-left new places (is_translation_of v p (p + 1)) e r q x there in
        absurd (let no : ◌≡◌ {A = Bool} true false = sym (here x.entry.koid.0 x.entry.page koid page) ∙ left.1 in cc)
      where
        here : (w page : ℕ) → w ≡ v → page ≡ p → ((w == v) && is_within p (p + 1) page) ≡ true
        here w page koid page_is = grind (arith, nat_tests)

-- ---- a page of an address space is translated anew

-- a translation is of the entry
pub entry-same : (o : Option Translation) (x : Translation) (entry : Entry) → o ≡ Some x → IfSome o (λ y. y.entry ≡ entry) → x.entry ≡ entry
entry-same o x entry at same = subst (λ (m : Option Translation). IfSome m (λ y. y.entry ≡ entry)) at same

-- what is there holds another frame where nothing is there
pub HoldsOther-none : (o : Option Translation) (frame : Option ℕ) → o ≡ None → HoldsOther frame o
HoldsOther-none None frame none = tt
HoldsOther-none (Some x) frame none = absurd cc

module _ (old new : Places) (root p : ℕ) (x : Translation) (same : IfSome (old root p) (λ y. y.entry ≡ x.entry)) where
  here : (v q : ℕ) → ((v == v) && is_within q (q + 1) q) ≡ true
  here v q = grind (arith, nat_tests)

  -- the translation that the page had is gone, where it held another frame
  pub gone-here : HoldsOther (translated_frame x) (old root p) → new ≡ changed_where dropped (is_outdated x.entry.koid.0 x.entry.page (translated_frame x)) old → new root p ≡ None
  gone-here other e = dropped-gone new old (is_outdated x.entry.koid.0 x.entry.page (translated_frame x)) e root p (λ k at.
      let entry = entry-same (old root p) k x.entry at same in
      and_from (shows_in x.entry.koid.0 x.entry.page (x.entry.page + 1) k.entry) (holds_other (translated_frame x) k)
      (ap (shows_in x.entry.koid.0 x.entry.page (x.entry.page + 1)) entry ∙ here x.entry.koid.0 x.entry.page)
      (subst (HoldsOther (translated_frame x)) at other))

-- where no other translation of the page of the VMO holds another frame, none is forgotten
pub set-elsewhere : (old : Places) (root p : ℕ) (x : Translation) → HoldElsewhere old root p x
    → with_translation old root p x ≡ with_translation (translations_without (is_outdated x.entry.koid.0 x.entry.page (translated_frame x)) old) root p x
unfolding with_translation translations_without passes
set-elsewhere old root p x hold = λ i r q. go r q ((r == root) && (q == p)) (old r q) refl refl i
  where
    off : (r q : ℕ) (u : Translation) → old r q ≡ Some u → ((r == root) && (q == p)) ≡ false → is_outdated x.entry.koid.0 x.entry.page (translated_frame x) r q u ≡ false
    off r q u there apart = elim (cases_Bool (shows_in x.entry.koid.0 x.entry.page (x.entry.page + 1) u.entry)) [
      | inl shows ↦
          let page = shows-is x.entry.koid.0 x.entry.page u.entry.koid.0 u.entry.page shows in
          let same = hold r q u there (λ one two. both_ways ((r == root) && (q == p)) apart (and_from (r == root) (q == p) (eq-eqb r root one) (eq-eqb q p two))) page.0 page.1 in
          and_right (shows_in x.entry.koid.0 x.entry.page (x.entry.page + 1) u.entry) (holds_other (translated_frame x) u)
          (ap (λ (f : Option Tag). not (is_same_frame (frame_number f) (translated_frame x))) same ∙ ap not (is_same_frame-same (translated_frame x)))
      | inr other ↦ and_left (shows_in x.entry.koid.0 x.entry.page (x.entry.page + 1) u.entry) (holds_other (translated_frame x) u) other
    ]

    go : (r q : ℕ) (b : Bool) (o : Option Translation) → ((r == root) && (q == p)) ≡ b → old r q ≡ o
        → cond b (Some x) o ≡ cond b (Some x) (cond (passes (is_outdated x.entry.koid.0 x.entry.page (translated_frame x) r q) o) None o)
    go r q true o e f = refl
    go r q false None e f = refl
    go r q false (Some u) e f = rw (off r q u f e) refl
