-- The notes after a change.
use Rattle.std.proofs.Common.{◌≡◌, ℕ, Bool, true, false, cond, ◌&&◌, ◌==◌, Option, None, refl, sym, ap, subst, ◌∙◌}
use Rattle.vm_base.specs.declared.limits.TheConstants.{VMO_PAGES}
use Rattle.vm_base.specs.Entries.{passes}
use Rattle.vm_model.specs.declared.space.Readiness.{Readiness}
use Rattle.vm_model.specs.Contents.Content.{Content}
use Rattle.vm_model.specs.Contents.Zeroing.{is_within}
use Rattle.vm_model.specs.Naming.Pins.{Pin, is_pinned}
use Rattle.vm_model.specs.Space.Readiness.{Ready, keeps_frame, settled, unready, read_only_but}
use Rattle.ready_pages.specs.declared.change.Change.{Change}
use Rattle.ready_pages.specs.Changes.{Entries, ChangesRange, AreReadyAt, Covers, left_ready}
use Rattle.checker_ready.specs.Notes.{ReadyRows, ready_in, changed_rows, row_if_current, row_limited, without_range, FitsRows, NotesAreTrue, AreGoodNotes}
use Rattle.checker_ready.proofs.SettledLaws.{rows_stay, rows_settled, rows_limited, row_outside, ready-dropped}

-- it is the same whether pages of an address space are ready for nothing before or after what shows another frame is
settled-unready : (c d : Content) (table : Entries) (ready : Ready) (root first end : ℕ) → settled c d table (unready ready root first end) ≡ unready (settled c d table ready) root first end
unfolding settled unready
settled-unready c d table ready root first end = λ i r q. each (passes (keeps_frame c d) (table r q)) ((r == root) && is_within first end q) (ready r q) i where
  each : (kept inside : Bool) (o : Option Readiness) → cond kept (cond inside None o) None ≡ cond inside None (cond kept o None)
  each true true o = refl
  each true false o = refl
  each false true o = refl
  each false false o = refl

-- what the map makes of its rows
abbrev pub rows_after : Content → (ℕ → Option Pin) → Change → ReadyRows → ReadyRows
rows_after d pins Change.None rows = rows
rows_after d pins (Change.Frames v first end) rows = changed_rows (row_if_current d) v.0 first end rows
rows_after d pins (Change.Past v first) rows = changed_rows (row_if_current d) v.0 first VMO_PAGES rows
rows_after d pins (Change.Shared v first end) rows = changed_rows (row_limited (is_pinned pins v.0)) v.0 first end rows
rows_after d pins (Change.Mapped root first end) rows = without_range rows root.0 first end

module _ (c d : Content) (before after : Entries) (rows : ReadyRows) (are : NotesAreTrue c before rows) (pins : ℕ → Option Pin) where
  -- pages of a VMO that were settled
  frames_applied : (v first end : ℕ) → after ≡ before → ChangesRange c d v first end → FitsRows d after (settled c d after (ready_in rows)) (changed_rows (row_if_current d) v first end rows)
  frames_applied v first end table changes =
      subst (λ (t : Entries). FitsRows d t (settled c d t (ready_in rows)) (changed_rows (row_if_current d) v first end rows)) (sym table) (rows_settled c d before rows are v first end changes)

  rows_fit : (change : Change) → Covers change c d before after → FitsRows d after (left_ready change pins before (settled c d after (ready_in rows))) (rows_after d pins change rows)
  rows_fit Change.None covers = rows_stay c d before after rows are (λ r q row e entry here low. covers.stays r q entry here low refl)
  rows_fit (Change.Frames v first end) covers = frames_applied v.0 first end covers.table.0 covers.table.1
  rows_fit (Change.Past v first) covers = frames_applied v.0 first VMO_PAGES covers.table.0 covers.table.1
  rows_fit (Change.Shared v first end) covers =
      let still = rows_stay c d before after rows are (λ r q row e entry here low. covers.stays r q entry here low refl) in
      let limited = rows_limited d before rows (subst (λ (t : Entries). NotesAreTrue d t rows) covers.table still.notes) (is_pinned pins v.0) v.0 first end in
      record {
        are_ready = limited.are_ready ∙ ap (read_only_but (is_pinned pins v.0) before v.0 first end) still.are_ready;
        notes = subst (λ (t : Entries). NotesAreTrue d t (changed_rows (row_limited (is_pinned pins v.0)) v.0 first end rows)) (sym covers.table) limited.notes;
      }
  rows_fit (Change.Mapped root first end) covers =
      let rest = without_range rows root.0 first end in
      let out = row_outside rows root.0 first end in
      let still = rows_stay c d before after rest (λ r q row e. are r q row (out r q row e).0) (λ r q row e entry here low. covers.stays r q entry here low (out r q row e).1) in
      record {
        are_ready = still.are_ready ∙ (ap (settled c d after) (ready-dropped rows root.0 first end) ∙ settled-unready c d after (ready_in rows) root.0 first end);
        notes = still.notes;
      }

-- so it is where this is left of the rows
module _ (d : Content) (pins : ℕ → Option Pin) (change : Change) (rows left : ReadyRows) (is : left ≡ rows_after d pins change rows) (c : Content) (before after : Entries)
    (good : AreGoodNotes c before rows) (covers : Covers change c d before after) where
  pub applied_ready : ready_in left ≡ left_ready change pins before (settled c d after (ready_in rows))
  applied_ready = ap ready_in is ∙ (rows_fit c d before after rows good.true_rows pins change covers).are_ready

  pub applied_notes : AreReadyAt d after (ready_in left) → AreGoodNotes d after left
  applied_notes ready = record { true_rows = subst (NotesAreTrue d after) (sym is) (rows_fit c d before after rows good.true_rows pins change covers).notes; ready = ready }
