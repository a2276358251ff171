-- Laws of translations as notes of what is ready: what a change leaves of them fits to what it leaves ready.
use Rattle.std.proofs.Common.{◌≡◌, ℕ, ◌<◌, ◌≤◌, Bool, true, false, not, cond, ◌&&◌, ◌==◌, Option, None, Some, refl, sym, ap, subst, ◌∙◌, inl, inr, arith}
use Rattle.std.specs.Option.{option_map}
use Rattle.std.proofs.lemmas.Bool.{cases_Bool, and_parts, not-true, not-false}
use Rattle.vm_base.specs.declared.limits.TheConstants.{VMO_PAGES}
use Rattle.vm_base.specs.declared.names.Koid.{Koid}
use Rattle.vm_base.specs.Entries.{passes}
use Rattle.vm_base.proofs.EntryLaws.{some_same}
use Rattle.vm_base.proofs.SearchLaws.{eqb_is}
use Rattle.vm_model.specs.declared.space.Entry.{Entry}
use Rattle.vm_model.specs.declared.space.Readiness.{Readiness}
use Rattle.vm_model.specs.declared.space.Readiness.TheVariants.{Read}
use Rattle.vm_model.specs.Contents.Content.{Content, sole, pages_of}
use Rattle.vm_model.specs.Contents.Zeroing.{is_within}
use Rattle.vm_model.specs.Naming.Pins.{Pin, is_pinned}
use Rattle.vm_model.specs.Space.Readiness.{Ready, frame_at, is_same_frame, settled, shows_in, shows_but, read_only_but}
use Rattle.vm_model.proofs.ReadinessLaws.{is_same_frame-is}
use Rattle.vm_model.proofs.ZeroingLaws.{is_within-parts}
use Rattle.ready_pages.specs.declared.change.Change.{Change}
use Rattle.ready_pages.specs.Changes.{Entries, EntryStays, Covers, AreReadyAt, IsReadyAt, IsBounded, reaches, left_ready}
use Rattle.ready_pages.proofs.SettledLaws.{settled-none, settled-lost, unready-none}
use Rattle.fault.specs.declared.translation.Translation.{Translation}
use Rattle.fault.specs.Table.{Places, readiness_of, ready_of, translated_frame, AreTrue, translations_without, is_translation_of, is_stale}
use Rattle.fault.specs.inside.Left.{left_by}
use Rattle.fault.proofs.FitLaws.{Fits, Fits-all, Fits-settled, Fits-unready, Fits-read_only_but}

-- an entry that shows a page of a range of v
shows_in-parts : (v first end : ℕ) (entry : Entry) → shows_in v first end entry ≡ true → (entry.koid.0 ≡ v) × (first ≤ entry.page) × (entry.page < end)
shows_in-parts v first end entry e =
    let both = and_parts (entry.koid.0 == v) (is_within first end entry.page) e in
    let within = is_within-parts first end entry.page both.1 in
    (eqb_is entry.koid.0 v both.0, within.0, within.1)

-- translations that fit to pages that may be ready are true
AreTrue-fits : (d : Content) (table : Entries) (ready : Ready) (left : Places) → Fits d table ready left → AreReadyAt d table (ready_of left) → AreTrue d table left
AreTrue-fits d table ready left fits good = record {
  entry = fits.entry;
  frame = fits.frame;
  below = λ root p x e.
      let is = fine root p x e in subst (λ (shown : Entry). shown.page < pages_of d shown.koid.0) (same root p x e is) is.below;
  alone = λ root p x e writes.
      let is = fine root p x e in subst (λ (shown : Entry). sole d shown.koid.0 shown.page ≡ true) (same root p x e is) (is.alone writes);
} where
  fine : (root p : ℕ) (x : Translation) → left root p ≡ Some x → IsReadyAt d table root p x.readiness
  fine root p x e = good root p x.readiness (ap readiness_of e)

  same : (root p : ℕ) (x : Translation) → left root p ≡ Some x → (is : IsReadyAt d table root p x.readiness) → is.entry ≡ x.entry
  same root p x e is = some_same (sym is.is ∙ fits.entry root p x e)

module _ (c d : Content) (before after : Entries) (places : Places) (true_of : AreTrue c before places) where
  -- what is ready once the content and the table changed
  abbrev kept : Ready
  kept = settled c d after (ready_of places)

  -- a translation stays whose entry the change does not reach
  stays : (change : Change) → Covers change c d before after → (root p : ℕ) (x : Translation) → places root p ≡ Some x → reaches change root p x.entry ≡ false
      → EntryStays c d after root p x.entry
  stays change covers root p x e out = covers.stays root p x.entry (true_of.entry root p x e) (true_of.below root p x e) out

  -- where the table does not change, it has the entry still
  stands : after ≡ before → (root p : ℕ) (x : Translation) → places root p ≡ Some x → after root p ≡ Some x.entry
  stands same root p x e = ap (λ (table : Entries). table root p) same ∙ true_of.entry root p x e

  -- frames change
  Fits-frames : (v : Koid) (first end : ℕ) → end ≤ pages_of d v.0 → Covers (Change.Frames v first end) c d before after
      → Fits d after kept (translations_without (is_stale d v.0 first end) places)
  Fits-frames v first end few covers = Fits-settled c d before after places true_of (is_stale d v.0 first end) gone left where
    same_in : Translation → Bool
    same_in x = is_same_frame (translated_frame x) (frame_at d v.0 x.entry.page)

    gone : (root p : ℕ) (x : Translation) → places root p ≡ Some x → (shows_in v.0 first end x.entry && not (same_in x)) ≡ true → settled c d after (ready_of places) root p ≡ None
    gone root p x e on =
        let both = and_parts (shows_in v.0 first end x.entry) (not (same_in x)) on in
        let vmo = (shows_in-parts v.0 first end x.entry both.0).0 in
        settled-lost c d after (ready_of places) root p x.entry (stands covers.table.0 root p x e)
        (inl (ap (λ (o : Option ℕ). is_same_frame o (frame_at d x.entry.koid.0 x.entry.page)) (sym (true_of.frame root p x e))
        ∙ (ap (λ (w : ℕ). is_same_frame (translated_frame x) (frame_at d w x.entry.page)) vmo ∙ not-true (same_in x) both.1)))

    left : (root p : ℕ) (x : Translation) → places root p ≡ Some x → (shows_in v.0 first end x.entry && not (same_in x)) ≡ false → EntryStays c d after root p x.entry
    left root p x e off = elim (cases_Bool (shows_in v.0 first end x.entry)) [
      | inl on ↦
          let parts = shows_in-parts v.0 first end x.entry on in
          let same : same_in x ≡ true = not-false (same_in x) (ap (λ (b : Bool). b && not (same_in x)) (sym on) ∙ off) in
          record {
            is = stands covers.table.0 root p x e;
            frame = ap (λ (w : ℕ). frame_at d w x.entry.page) parts.0
                ∙ (sym (is_same_frame-is (translated_frame x) (frame_at d v.0 x.entry.page) same) ∙ true_of.frame root p x e);
            inside = subst (λ (w : ℕ). x.entry.page < pages_of d w) (sym parts.0) (omega (arith, parts.2, few));
          }
      | inr out ↦ stays (Change.Frames v first end) covers root p x e out
    ]

  -- pages are in their VMO no more
  Fits-past : (v : Koid) (first : ℕ) → pages_of d v.0 ≤ first → Covers (Change.Past v first) c d before after
      → Fits d after kept (translations_without (is_translation_of v.0 first VMO_PAGES) places)
  Fits-past v first few covers = Fits-settled c d before after places true_of (is_translation_of v.0 first VMO_PAGES) gone (stays (Change.Past v first) covers) where
    gone : (root p : ℕ) (x : Translation) → places root p ≡ Some x → shows_in v.0 first VMO_PAGES x.entry ≡ true → settled c d after (ready_of places) root p ≡ None
    gone root p x e on =
        let parts = shows_in-parts v.0 first VMO_PAGES x.entry on in
        settled-lost c d after (ready_of places) root p x.entry (stands covers.table.0 root p x e)
        (inr (subst (λ (w : ℕ). pages_of d w ≤ x.entry.page) (sym parts.0) (omega (arith, parts.1, few))))

  -- what any change leaves of the translations fits
  Fits-left : (pins : ℕ → Option Pin) (change : Change) → IsBounded d change → Covers change c d before after
      → Fits d after (left_ready change pins before kept) (left_by change d pins places)
  Fits-left pins Change.None bounded covers = Fits-all c d before after places true_of (λ root p x e. stays Change.None covers root p x e refl)
  Fits-left pins (Change.Frames v first end) bounded covers = Fits-frames v first end bounded.2 covers
  Fits-left pins (Change.Past v first) bounded covers = Fits-past v first bounded.2 covers
  Fits-left pins (Change.Shared v first end) bounded covers =
      Fits-read_only_but c d before after places true_of (is_pinned pins v.0) v.0 first end (λ root p x e. stays (Change.Shared v first end) covers root p x e refl)
  Fits-left pins (Change.Mapped r first end) bounded covers =
      Fits-unready c d before after places true_of r.0 first end (stays (Change.Mapped r first end) covers)

  module _ (pins : ℕ → Option Pin) (change : Change) (bounded : IsBounded d change) (covers : Covers change c d before after) (left : Places) (is : left ≡ left_by change d pins places) where
    fits-left : Fits d after (left_ready change pins before kept) left
    fits-left = subst (Fits d after (left_ready change pins before kept)) (sym is) (Fits-left pins change bounded covers)

    -- by the translations that are left, this is ready
    pub ready-left : ready_of left ≡ left_ready change pins before kept
    ready-left = fits-left.are_ready

    -- and they are true, if those pages may be ready
    pub AreTrue-changed : AreReadyAt d after (ready_of left) → AreTrue d after left
    AreTrue-changed = AreTrue-fits d after (left_ready change pins before kept) left fits-left

-- where no page is ready, no change leaves one ready
pub none_ready : (c d : Content) (before after : Entries) (pins : ℕ → Option Pin) (change : Change) (ready : Ready) → ((root p : ℕ) → ready root p ≡ None)
    → ready ≡ left_ready change pins before (settled c d after ready)
unfolding read_only_but
none_ready c d before after pins change ready none = λ i root p. (none root p ∙ sym (go change root p)) i where
  bare : (b : Bool) (o : Option Readiness) → o ≡ None → cond b (option_map (λ (r : Readiness). Read) o) o ≡ None
  bare true o e = ap (option_map (λ (r : Readiness). Read)) e
  bare false o e = e

  go : (change : Change) (root p : ℕ) → left_ready change pins before (settled c d after ready) root p ≡ None
  go Change.None root p = settled-none c d after ready root p (none root p)
  go (Change.Frames v first end) root p = settled-none c d after ready root p (none root p)
  go (Change.Past v first) root p = settled-none c d after ready root p (none root p)
  go (Change.Shared v first end) root p =
      bare (passes (shows_but (is_pinned pins v.0) v.0 first end) (before root p)) (settled c d after ready root p) (settled-none c d after ready root p (none root p))
  go (Change.Mapped r first end) root p = unready-none (settled c d after ready) r.0 first end root p (settled-none c d after ready root p (none root p))
