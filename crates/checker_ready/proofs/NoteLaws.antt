-- What is ready once a page was noted.
use Rattle.std.proofs.Common.{◌≡◌, ℕ, ◌+◌, Bool, true, false, not, cond, [], ◌∷◌, Option, Some, refl, sym, ap, subst, ◌∙◌}
use Rattle.std.specs.Prelude.{is_some}
use Rattle.std.proofs.lemmas.Bool.{and_from, lt-ltb}
use Rattle.vm_base.specs.declared.names.Tag.{Tag}
use Rattle.vm_model.specs.declared.space.Entry.{Entry}
use Rattle.vm_model.specs.declared.space.Readiness.{Readiness}
use Rattle.vm_model.specs.declared.space.Readiness.TheVariants.{Read}
use Rattle.vm_model.specs.Contents.Content.{Content}
use Rattle.vm_model.specs.Space.Readiness.{Ready, frame_at, settled, with_ready, frame_number}
use Rattle.vm_model.specs.Machine.Access.{after_reading}
use Rattle.vm_model.proofs.ReadinessLaws.{is_same_frame-same, with_ready-other}
use Rattle.pair_map.specs.Maps.{with_pair}
use Rattle.ready_pages.specs.Changes.{Entries, ChangesRange}
use Rattle.checker_ready.specs.declared.touching.TouchedPage.{TouchedPage}
use Rattle.checker_ready.specs.Notes.{ReadyRows, ready_in, has_frame, changed_rows, row_if_current, without_range, FitsRows, NotesAreTrue}
use Rattle.checker_ready.specs.inside.Pages.{IsMappedInside, IsTouchedPage}
use Rattle.checker_ready.proofs.RowLaws.{row-cleared}
use Rattle.checker_ready.proofs.SettledLaws.{note_of, rows_noted, rows_still}

-- the note of a page goes, and another one comes
pub rows_replaced : (c d : Content) (table : Entries) (root p : ℕ) (entry : Entry) (frame : Option Tag) (readiness : Readiness) (old cleared new : ReadyRows)
    → frame_number frame ≡ frame_at d entry.koid.0 entry.page → cleared ≡ without_range old root p (p + 1)
    → (has_frame d entry.koid.0 entry.page frame ≡ true
    → new ≡ with_pair (changed_rows (row_if_current d) entry.koid.0 entry.page (entry.page + 1) cleared) root p (Some (note_of c d table root p entry frame readiness old)))
    → NotesAreTrue c table old → IsMappedInside d table root p entry → ChangesRange c d entry.koid.0 entry.page (entry.page + 1)
    → FitsRows d table (with_ready (settled c d table (ready_in old)) root p readiness) new
rows_replaced c d table root p entry frame readiness old cleared new is gone made are shows change =
    let note = note_of c d table root p entry frame readiness old in
    let has : has_frame d entry.koid.0 entry.page frame ≡ true = rw is (and_from _ _ (is_same_frame-same (frame_at d entry.koid.0 entry.page)) (lt-ltb _ _ shows.below)) in
    let left = made has
    ∙ (ap (λ (rows : ReadyRows). with_pair (changed_rows (row_if_current d) entry.koid.0 entry.page (entry.page + 1) rows) root p (Some note)) gone
    ∙ row-cleared (row_if_current d) entry.koid.0 entry.page (entry.page + 1) old root p note) in
    subst (FitsRows d table (with_ready (settled c d table (ready_in old)) root p readiness)) (sym left)
    (rows_noted c d table root p entry frame readiness old are shows.is shows.below is change)

-- ---- a page that was read

module _ (c : Content) (table : Entries) (root p : ℕ) (page : TouchedPage) (old new : ReadyRows) (are : NotesAreTrue c table old)
    (is : IsTouchedPage Read c table (ready_in old) root p page) where
  -- nothing changes
  pub no_change : ChangesRange c c page.entry.koid.0 page.entry.page (page.entry.page + 1)
  no_change = record { frame = λ w q apart. refl; below = λ w q apart low. low }

  after_unready : (b : Bool) → not b ≡ true → with_ready (ready_in old) root p Read ≡ cond b (ready_in old) (with_ready (ready_in old) root p Read)
  after_unready true e = absurd cc
  after_unready false e = refl

  after_ready : (b : Bool) → not b ≡ false → ready_in old ≡ cond b (ready_in old) (with_ready (ready_in old) root p Read)
  after_ready true e = refl
  after_ready false e = absurd cc

  -- a page that was not ready was noted
  pub rows_read : page.unready ≡ true → FitsRows c table (with_ready (settled c c table (ready_in old)) root p Read) new → FitsRows c table (after_reading root (p ∷ []) (ready_in old)) new
  unfolding after_reading
  rows_read lacking fits = record {
    are_ready = fits.are_ready
        ∙ (ap (λ (ready : Ready). with_ready ready root p Read) (sym (rows_still c c table old are (λ w q. refl) (λ w. refl)).are_ready)
        ∙ after_unready (is_some (ready_in old root p)) (sym is.unready ∙ lacking));
    notes = fits.notes;
  }

  -- a page that was ready stays so
  pub rows_left : page.unready ≡ false → FitsRows c table (after_reading root (p ∷ []) (ready_in old)) old
  unfolding after_reading
  rows_left enough = record { are_ready = after_ready (is_some (ready_in old root p)) (sym is.unready ∙ enough); notes = are }

-- reading a page leaves the others as they are
pub after_reading-other : (root p q : ℕ) (ready : Ready) → (q ≡ p → ⊥) → after_reading root (p ∷ []) ready root q ≡ ready root q
unfolding after_reading
after_reading-other root p q ready apart = go (is_some (ready root p)) where
  go : (b : Bool) → (cond b ready (with_ready ready root p Read)) root q ≡ ready root q
  go true = refl
  go false = with_ready-other ready root p Read root q (λ same. apart)
