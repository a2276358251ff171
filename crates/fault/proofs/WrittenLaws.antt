-- What translations are once a page of a VMO was written: those of it that hold another frame are forgotten, and what is ready is
-- what the writing of one page leaves ready.
use Rattle.std.proofs.Common.{◌≡◌, ◌≢◌, ℕ, ◌+◌, ◌<◌, ◌≤◌, Bool, true, false, not, cond, ◌&&◌, List, length, Option, None, Some, refl, sym, ap, subst, ◌∙◌, inl, inr, arith}
use Rattle.std.specs.Prelude.{is_some}
use Rattle.std.specs.Cmp.{both_ways}
use Rattle.std.proofs.lemmas.Bool.{cases_Bool, lt-ltb, not-false}
use Rattle.std.proofs.lemmas.Bool.Decides.{nat_tests}
use Rattle.vm_base.specs.declared.limits.TheConstants.{PAGE}
use Rattle.vm_base.specs.declared.names.Tag.{Tag}
use Rattle.vm_base.specs.Entries.{passes}
use Rattle.vm_base.proofs.EntryLaws.{some_same}
use Rattle.vm_model.specs.declared.space.Entry.{Entry}
use Rattle.vm_model.specs.declared.space.Readiness.{Readiness}
use Rattle.vm_model.specs.declared.space.Readiness.TheVariants.{Write}
use Rattle.vm_model.specs.Contents.Content.{Content, pages_of, sole, IsGood}
use Rattle.vm_model.specs.Contents.Writing.{Piece, part_at, part_bytes, WritesPiece}
use Rattle.vm_model.specs.Space.Readiness.{Ready, frame_at, is_same_frame, is_writable, keeps_frame, settled, with_ready, shows_in}
use Rattle.vm_model.specs.Machine.Access.{WritesPage}
use Rattle.vm_model.proofs.ContentLaws.{same_page}
use Rattle.vm_model.proofs.OwningLaws.{Owned, Owned-from_Owns}
use Rattle.vm_model.proofs.WritingLaws.{Written, Written-from_WritesPiece, WritesPiece-keeps}
use Rattle.vm_model.proofs.AccessLaws.{frame_at-other, frame_at-sole}
use Rattle.vm_model.proofs.ReadinessLaws.{keeps_frame-from, keeps_frame-parts, settled-same, settled-kept, settled-some, with_ready-same, with_ready-other}
use Rattle.ready_pages.proofs.SettledLaws.{settled-none}
use Rattle.fault.specs.declared.translation.Translation.{Translation}
use Rattle.fault.specs.declared.writable.WritablePage.{WritablePage}
use Rattle.fault.specs.Table.{Places, AreTrue, readiness_of, ready_of, translations_without, is_outdated}
use Rattle.fault.specs.inside.Writable.{IsSoleWith, IsWritable, WritesTo}
use Rattle.page_store.proofs.PartLaws.{WritesPiece-from_parts}
use Rattle.fault.proofs.OwnedLaws.{frame_at-overwritten}
use Rattle.fault.proofs.WritableLaws.{is_writable-is}
use Rattle.fault.proofs.TranslationLaws.{ready_of-with_translation, AreTrue-with_translation}

-- the entry shows page p of v
shows_one : (v p : ℕ) (entry : Entry) → shows_in v p (p + 1) entry ≡ true → (entry.koid.0 ≡ v) × (entry.page ≡ p)
shows_one = grind (arith, nat_tests)

-- the entry does not show it
shows_other : (v p : ℕ) (entry : Entry) → shows_in v p (p + 1) entry ≡ false → entry.koid.0 ≡ v → entry.page ≡ p → ⊥
shows_other = grind (arith, nat_tests)

-- a page that is ready has a translation
pub ready_of-some : (places : Places) (r s : ℕ) (readiness : Readiness) → ready_of places r s ≡ Some readiness
    → (x : Translation) × (places r s ≡ Some x) × (x.readiness ≡ readiness)
ready_of-some places r s readiness e = go (places r s) e where
  go : (o : Option Translation) → readiness_of o ≡ Some readiness → (x : Translation) × (o ≡ Some x) × (x.readiness ≡ readiness)
  go None f = absurd cc
  go (Some x) f = (x, refl, cc)

-- a page that lies in its VMO keeps its frame where it has the same
keeps_frame-below : (old new : Content) (entry : Entry) → entry.page < pages_of new entry.koid.0
    → keeps_frame old new entry ≡ is_same_frame (frame_at old entry.koid.0 entry.page) (frame_at new entry.koid.0 entry.page)
unfolding keeps_frame
keeps_frame-below old new entry below = rw (lt-ltb entry.page (pages_of new entry.koid.0) below) (go _) where
  go : (b : Bool) → (b && true) ≡ b
  go true = refl
  go false = refl

-- a translation that is left stood before, and does not pass
pub translations_without-some : (goes : ℕ → ℕ → Translation → Bool) (places : Places) (r s : ℕ) (x : Translation) → translations_without goes places r s ≡ Some x
    → (places r s ≡ Some x) × (goes r s x ≡ false)
unfolding translations_without passes
translations_without-some goes places r s x e = go (places r s) e where
  go : (o : Option Translation) → cond (passes (goes r s) o) None o ≡ Some x → (o ≡ Some x) × (goes r s x ≡ false)
  go None f = absurd cc
  go (Some y) f = elim (cases_Bool (goes r s y)) [
    | inl gone ↦ absurd (let none : ◌≡◌ {A = Option Translation} None (Some x) = rw gone at f in cc)
    | inr stays ↦ let same : y ≡ x = some_same (rw stays at f) in (ap (λ (z : Translation). Some z) same, ap (goes r s) (sym same) ∙ stays)
  ]

-- a page that is written, below the count, with bytes that lie in it
module _ (old : Content) (part : Piece) (new : Content) (good : IsGood old) (h : part.page < pages_of old part.koid)
    (fits : part.at + length part.bytes ≤ PAGE) (w : WritesPiece old part new) where
  -- what writing it keeps
  written : Written old part.koid part.page new
  written = Written-from_WritesPiece old part new good h fits w

  -- sole pages stay so
  keeps : (v p : ℕ) → sole old v p ≡ true → sole new v p ≡ true
  keeps v p alone = (WritesPiece-keeps old part new good h fits w (λ _ _. true)).alone v p refl alone

  -- a sole page keeps its frame
  pub frame_at-kept : (v p : ℕ) → sole old v p ≡ true → frame_at new v p ≡ frame_at old v p
  frame_at-kept v p alone = elim (same_page part.koid part.page v p) [
    | inl here ↦ frame_at-sole old new part w written (rw (sym here.0, sym here.1) alone) v p
    | inr apart ↦ frame_at-other old new part.koid part.page written v p apart
  ]

  module _ (table : ℕ → ℕ → Option Entry) (places : Places) (are : AreTrue old table places) where
    -- what a translation is of still lies in its VMO
    below : (r s : ℕ) (x : Translation) → places r s ≡ Some x → x.entry.page < pages_of new x.entry.koid.0
    below r s x e = omega (arith, are.below r s x e, written.kept.pages x.entry.koid.0)

    -- where the page is sole, no frame changes, and all translations stay true
    module _ (alone : sole old part.koid part.page ≡ true) where
      pub AreTrue-sole : AreTrue new table places
      AreTrue-sole = record {
        entry = are.entry;
        frame = λ r s x e. are.frame r s x e ∙ sym (frame_at-sole old new part w written alone x.entry.koid.0 x.entry.page);
        below = below;
        alone = λ r s x e writes. keeps x.entry.koid.0 x.entry.page (are.alone r s x e writes);
      }

      -- and what was ready is ready
      pub settled-sole : settled old new table (ready_of places) ≡ ready_of places
      settled-sole = settled-same old new table (ready_of places) (λ r s readiness e.
          let found = ready_of-some places r s readiness e in (
            found.0.entry,
            are.entry r s found.0 found.1,
            keeps_frame-from old new found.0.entry (frame_at-sole old new part w written alone found.0.entry.koid.0 found.0.entry.page) (below r s found.0 found.1),
          ))

    -- the page has this frame then
    module _ (frame : Option ℕ) (same : frame ≡ frame_at new part.koid part.page) where
      -- the translations that are forgotten
      abbrev stale : ℕ → ℕ → Translation → Bool
      stale = is_outdated part.koid part.page frame

      -- a translation is forgotten exactly where what its page shows does not keep its frame
      stale-is : (r s : ℕ) (x : Translation) → places r s ≡ Some x → stale r s x ≡ not (keeps_frame old new x.entry)
      stale-is r s x e = elim (cases_Bool (shows_in part.koid part.page (part.page + 1) x.entry)) [
        | inl here ↦
            let one = shows_one part.koid part.page x.entry here in
            let now = same ∙ sym (λ i. frame_at new (one.0 i) (one.1 i)) in
            rw (here, keeps_frame-below old new x.entry (below r s x e), are.frame r s x e, now) refl
        | inr there ↦
            let keeps = keeps_frame-from old new x.entry
            (frame_at-other old new part.koid part.page written x.entry.koid.0 x.entry.page (shows_other part.koid part.page x.entry there)) (below r s x e) in
            rw (there, keeps) refl
      ]

      -- what is ready by those that are left
      pub ready_of-left : ready_of (translations_without stale places) ≡ settled old new table (ready_of places)
      unfolding translations_without settled passes
      ready_of-left = λ i r s. at r s (places r s) refl i where
        none : (b : Bool) → ◌≡◌ {A = Option Readiness} None (cond b None None)
        none true = refl
        none false = refl

        at : (r s : ℕ) (o : Option Translation) → places r s ≡ o → ready_of (translations_without stale places) r s ≡ settled old new table (ready_of places) r s
        at r s None e = rw e (none (passes (keeps_frame old new) (table r s)))
        at r s (Some x) e = rw (e, are.entry r s x e, stale-is r s x e) (elim (cases_Bool (keeps_frame old new x.entry)) [
          | inl stays ↦ rw stays refl
          | inr goes ↦ rw goes refl
        ])

      -- those that are left are true
      pub AreTrue-left : AreTrue new table (translations_without stale places)
      AreTrue-left =
          let was = λ (r s : ℕ) (x : Translation) (e : translations_without stale places r s ≡ Some x). translations_without-some stale places r s x e in
          let still = λ (r s : ℕ) (x : Translation) (e : translations_without stale places r s ≡ Some x).
          keeps_frame-parts old new x.entry (not-false (keeps_frame old new x.entry) (sym (stale-is r s x (was r s x e).0) ∙ (was r s x e).1)) in
          record {
            entry = λ r s x e. are.entry r s x (was r s x e).0;
            frame = λ r s x e. are.frame r s x (was r s x e).0 ∙ sym (still r s x e).0;
            below = λ r s x e. (still r s x e).1;
            alone = λ r s x e writes. keeps x.entry.koid.0 x.entry.page (are.alone r s x (was r s x e).0 writes);
          }

-- Bytes that lie in the page are written through page p of an address space.
module _ (c : Content) (table : ℕ → ℕ → Option Entry) (old : Places) (root p : ℕ) (page : WritablePage) (at : ℕ) (bytes : List ℕ) (d : Content) (new : Places)
    (good : IsGood c) (are : AreTrue c table old) (found : IsWritable c table old root p page) (fits : at + length bytes ≤ PAGE)
    (w : WritesTo root p page at bytes c old d new) where
  -- the bytes, in the page of the VMO
  abbrev part : Piece
  part = record { koid = page.entry.koid.0; page = page.entry.page; at = at; bytes = bytes }

  -- the page of the VMO was owned
  owned : Owned c w.owned part.koid part.page w.tag.0
  owned = Owned-from_Owns c w.owned part.koid part.page w.tag.0 good found.store.below w.owns

  -- and its bytes were written
  pub writes : WritesPiece c part d
  writes = WritesPiece-from_parts c w.owned d part.koid part.page w.tag.0 at bytes owned w.owns w.overwrites

  -- what that keeps
  pub written-here : Written c part.koid part.page d
  written-here = Written-from_WritesPiece c part d good found.store.below fits writes

  -- the page of the VMO has this frame then
  same-frame : Some w.tag.0 ≡ frame_at d part.koid part.page
  same-frame = sym (frame_at-overwritten c w.owned d part.koid part.page w.tag.0 at bytes owned w.overwrites)

  -- what is ready then
  pub ready-written : ready_of new ≡ with_ready (settled c d table (ready_of old)) root p Write
  ready-written = go page.frame refl where
    go : (o : Option Tag) → page.frame ≡ o → ready_of new ≡ with_ready (settled c d table (ready_of old)) root p Write
    go None e =
        let x : Translation = record { entry = page.entry; frame = Some w.tag; readiness = Write } in
        ap ready_of (rw e at w.places) ∙ (ready_of-with_translation _ root p x
        ∙ ap (λ (ready : Ready). with_ready ready root p Write) (ready_of-left c part d good found.store.below fits writes table old are (Some w.tag.0) same-frame))
    go (Some tag) e =
        let was : ready_of old root p ≡ Some Write = is_writable-is (ready_of old root p) (sym found.ready ∙ ap is_some e) in
        let same = settled-sole c part d good found.store.below fits writes table old are (found.store.frame tag e).alone in
        ap ready_of (rw e at w.places) ∙ sym (ap (λ (ready : Ready). with_ready ready root p Write) same ∙ with_ready-same (ready_of old) root p Write was)

  -- and the translations are true
  pub AreTrue-written : AreTrue d table new
  AreTrue-written = go page.frame refl where
    go : (o : Option Tag) → page.frame ≡ o → AreTrue d table new
    go None e =
        let x : Translation = record { entry = page.entry; frame = Some w.tag; readiness = Write } in
        let left = AreTrue-left c part d good found.store.below fits writes table old are (Some w.tag.0) same-frame in
        subst (AreTrue d table) (sym (rw e at w.places))
        (AreTrue-with_translation d table _ root p x found.entry same-frame (omega (arith, found.store.below, written-here.kept.pages part.koid)) (λ _. written-here.alone) left)
    go (Some tag) e =
        subst (AreTrue d table) (sym (rw e at w.places))
        (AreTrue-sole c part d good found.store.below fits writes table old are (found.store.frame tag e).alone)

  -- it is the writing of one page of these bytes that are written from an address on
  pub WritesPage-written : (addr : ℕ) (all : List ℕ) → at ≡ part_at addr p → bytes ≡ part_bytes addr all p
      → WritesPage table root addr all p (record { content = c; ready = ready_of old }) (record { content = d; ready = ready_of new })
  WritesPage-written addr all place same = record {
    entry = page.entry;
    is = found.entry;
    writes = subst (λ (piece : Piece). WritesPiece c piece d) (λ i. record { koid = part.koid; page = part.page; at = place i; bytes = same i }) writes;
    ready = ready-written;
  }

  -- another page of the address space is ready for writing where it was
  writable-other : (q : ℕ) → q ≢ p → is_writable (ready_of new root q) ≡ is_writable (ready_of old root q)
  writable-other q apart =
      let now : ready_of new root q ≡ settled c d table (ready_of old) root q =
      ap (λ (ready : Ready). ready root q) ready-written ∙ with_ready-other (settled c d table (ready_of old)) root p Write root q (λ _ here. apart here) in
      both_ways (is_writable (ready_of new root q)) (is_writable (ready_of old root q))
      (λ writes_now.
      let still = settled-some c d table (ready_of old) root q Write (sym now ∙ is_writable-is (ready_of new root q) writes_now) in ap is_writable still.3)
      (λ wrote.
      let x = ready_of-some old root q Write (is_writable-is (ready_of old root q) wrote) in
      let alone = are.alone root q x.0 x.1 x.2 in
      let below = are.below root q x.0 x.1 in
      let keeps = keeps_frame-from c d x.0.entry (frame_at-kept c part d good found.store.below fits writes x.0.entry.koid.0 x.0.entry.page alone)
      (omega (arith, below, written-here.kept.pages x.0.entry.koid.0)) in
      ap is_writable (now ∙ settled-kept c d table (ready_of old) root q x.0.entry (are.entry root q x.0 x.1) keeps) ∙ wrote)

  -- and has no translation where it had none
  absent-other : (q : ℕ) → q ≢ p → old root q ≡ None → new root q ≡ None
  absent-other q apart none =
      let now : ready_of new root q ≡ settled c d table (ready_of old) root q =
      ap (λ (ready : Ready). ready root q) ready-written ∙ with_ready-other (settled c d table (ready_of old)) root p Write root q (λ _ here. apart here) in
      go (new root q) refl (now ∙ settled-none c d table (ready_of old) root q (ap readiness_of none)) where
        go : (o : Option Translation) → new root q ≡ o → ready_of new root q ≡ None → o ≡ None
        go None e unready = refl
        go (Some x) e unready = absurd (let some : ◌≡◌ {A = Option Readiness} (Some x.readiness) None = rw e at unready in cc)

  -- and is sole with its frame where it was
  sole-still : (other : WritablePage) (tag : ℕ) → IsSoleWith c other.entry.koid.0 other.entry.page tag → IsSoleWith d other.entry.koid.0 other.entry.page tag
  sole-still other tag was = record {
    alone = keeps c part d good found.store.below fits writes other.entry.koid.0 other.entry.page was.alone;
    frame = frame_at-kept c part d good found.store.below fits writes other.entry.koid.0 other.entry.page was.alone ∙ was.frame;
  }

  -- another page that may be written still may
  pub IsWritable-other : (q : ℕ) (other : WritablePage) → q ≢ p → IsWritable c table old root q other → IsWritable d table new root q other
  IsWritable-other q other apart is = record {
    entry = is.entry;
    ready = is.ready ∙ sym (writable-other q apart);
    absent = λ e. absent-other q apart (is.absent e);
    store = record {
      below = omega (arith, is.store.below, written-here.kept.pages other.entry.koid.0);
      frame = λ tag e. sole-still other tag.0 (is.store.frame tag e);
    };
  }
