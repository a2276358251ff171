-- What the calls make of readiness, in the words of the machine: notes that are true stay so, and what they say is ready is
-- what the machine's rule leaves.
use Rattle.std.proofs.Common.{◌≡◌, ℕ, ◌+◌, ◌<◌, ◌≤◌, Bool, true, false, not, cond, ◌&&◌, ◌==◌, Option, None, Some, refl, sym, ap, subst, ◌∙◌, inl, inr, arith}
use Rattle.std.specs.Prelude.{nat_lt}
use Rattle.std.specs.Option.{option_map, option_and_then}
use Rattle.std.proofs.lemmas.Bool.Decides.{nat_tests}
use Rattle.vm_base.specs.declared.names.Tag.{Tag}
use Rattle.vm_base.specs.Entries.{passes}
use Rattle.vm_base.proofs.EntryLaws.{some_same}
use Rattle.vm_model.specs.declared.space.Entry.{Entry}
use Rattle.vm_model.specs.declared.space.Readiness.{Readiness}
use Rattle.vm_model.specs.declared.space.Readiness.TheVariants.{Read}
use Rattle.vm_model.specs.Contents.Content.{Content, pages_of}
use Rattle.vm_model.specs.Contents.Zeroing.{is_within}
use Rattle.vm_model.specs.Space.Readiness.{Ready, frame_at, is_same_frame, keeps_frame, settled, with_ready, unready, shows_but, read_only_but, frame_number}
use Rattle.vm_model.proofs.ReadinessLaws.{keeps_frame-parts, keeps_frame-from}
use Rattle.pair_map.specs.Maps.{with_pair}
use Rattle.ready_pages.specs.Changes.{Entries, EntryStays, ChangesRange}
use Rattle.ready_pages.proofs.SettledLaws.{settled-none, settled-stays}
use Rattle.page_store.proofs.LinkLaws.{pair-cases}
use Rattle.checker_ready.specs.declared.ready_map.ReadyPage.{ReadyPage}
use Rattle.checker_ready.specs.Notes.{ReadyRows, ready_in, has_frame, is_row_in, changed_rows, row_if_current, row_limited, without_range, IsTrueNote, FitsRows, NotesAreTrue}

-- what a row is ready for
abbrev readiness_in : Option ReadyPage → Option Readiness
readiness_in o = option_map (λ (x : ReadyPage). x.readiness) o

module _ (old new : Content) (before after : Entries) (root p : ℕ) (row : ReadyPage) (was : IsTrueNote old before root p row) where
  -- a note is true still where its entry stays
  note_stays : EntryStays old new after root p was.entry → IsTrueNote new after root p row
  note_stays stays = record { entry = was.entry; is = stays.is; koid = was.koid; page = was.page; frame = was.frame ∙ sym stays.frame; below = stays.inside }

  -- its page has the frame still where the entry keeps it
  note_keeps : has_frame new row.koid.0 row.page row.frame ≡ keeps_frame old new was.entry
  unfolding keeps_frame
  note_keeps = λ i. is_same_frame (was.frame i) (frame_at new (was.koid i) (was.page i)) && nat_lt (was.page i) (pages_of new (was.koid i))

-- where the entry of each row stays, the rows do
pub rows_stay : (c d : Content) (before after : Entries) (rows : ReadyRows) → NotesAreTrue c before rows
    → ((r q : ℕ) (row : ReadyPage) → rows r q ≡ Some row → (entry : Entry) → before r q ≡ Some entry → entry.page < pages_of c entry.koid.0 → EntryStays c d after r q entry)
    → FitsRows d after (settled c d after (ready_in rows)) rows
rows_stay c d before after rows are stays = record {
  are_ready = λ i r q. each r q (rows r q) refl i;
  notes = λ r q row e. note_stays c d before after r q row (are r q row e) (stay r q row e);
} where
  stay : (r q : ℕ) (row : ReadyPage) (e : rows r q ≡ Some row) → EntryStays c d after r q (are r q row e).entry
  stay r q row e = let note = are r q row e in stays r q row e note.entry note.is note.below

  each : (r q : ℕ) (o : Option ReadyPage) → rows r q ≡ o → ready_in rows r q ≡ settled c d after (ready_in rows) r q
  each r q None e = let none : ready_in rows r q ≡ None = ap readiness_in e in none ∙ sym (settled-none c d after (ready_in rows) r q none)
  each r q (Some row) e = sym (settled-stays c d after (ready_in rows) r q (are r q row e).entry (stay r q row e))

-- so they do where no page gets another frame or leaves its VMO
pub rows_still : (c d : Content) (table : Entries) (rows : ReadyRows) → NotesAreTrue c table rows → ((w q : ℕ) → frame_at d w q ≡ frame_at c w q) → ((w : ℕ) → pages_of d w ≡ pages_of c w)
    → FitsRows d table (settled c d table (ready_in rows)) rows
rows_still c d table rows are frames pages = rows_stay c d table table rows are (λ r q row e entry is low. record {
  is = is;
  frame = frames entry.koid.0 entry.page;
  inside = subst (λ (n : ℕ). entry.page < n) (sym (pages entry.koid.0)) low;
})

-- ---- pages of a VMO that are settled

module _ (old new : Content) (table : Entries) (rows : ReadyRows) (are : NotesAreTrue old table rows) (v first end : ℕ) (change : ChangesRange old new v first end) where
  -- a row stays where its entry keeps its frame
  row_settled : (r q : ℕ) (row : ReadyPage) (was : IsTrueNote old table r q row)
      → cond (is_row_in v first end row) (row_if_current new row) (Some row) ≡ cond (keeps_frame old new was.entry) (Some row) None
  row_settled r q row was = go (is_row_in v first end row) refl where
    outside : (entry : Entry) → row.koid.0 ≡ entry.koid.0 → row.page ≡ entry.page → is_row_in v first end row ≡ false → entry.koid.0 ≡ v → first ≤ entry.page → entry.page < end → ⊥
    outside entry koid page out same low high = grind (arith, nat_tests)

    go : (b : Bool) → is_row_in v first end row ≡ b → cond b (row_if_current new row) (Some row) ≡ cond (keeps_frame old new was.entry) (Some row) None
    go true inside = ap (λ (keeps : Bool). cond keeps (Some row) None) (note_keeps old new table table r q row was)
    go false out =
        let apart = outside was.entry was.koid was.page out in
        rw (keeps_frame-from old new was.entry (change.frame was.entry.koid.0 was.entry.page apart) (change.below was.entry.koid.0 was.entry.page apart was.below)) refl

  -- settling the range is the machine's rule
  pub rows_settled : FitsRows new table (settled old new table (ready_in rows)) (changed_rows (row_if_current new) v first end rows)
  unfolding changed_rows settled passes
  rows_settled = record { are_ready = λ i r q. ready r q (rows r q) refl i; notes = λ r q x f. note r q x (rows r q) refl f } where
    none : (b : Bool) → ◌≡◌ {A = Option Readiness} None (cond b None None)
    none true = refl
    none false = refl

    by_bit : (b : Bool) (row : ReadyPage) → readiness_in (cond b (Some row) None) ≡ cond b (Some row.readiness) None
    by_bit true row = refl
    by_bit false row = refl

    ready : (r q : ℕ) (o : Option ReadyPage) → rows r q ≡ o
        → readiness_in (option_and_then (λ row. cond (is_row_in v first end row) (row_if_current new row) (Some row)) o) ≡ cond (passes (keeps_frame old new) (table r q)) (readiness_in o) None
    ready r q None e = none (passes (keeps_frame old new) (table r q))
    ready r q (Some row) e =
        let was = are r q row e in
        ap readiness_in (row_settled r q row was)
        ∙ (by_bit (keeps_frame old new was.entry) row ∙ ap (λ (o : Option Entry). cond (passes (keeps_frame old new) o) (Some row.readiness) None) (sym was.is))

    note : (r q : ℕ) (x : ReadyPage) (o : Option ReadyPage) → rows r q ≡ o
        → option_and_then (λ row. cond (is_row_in v first end row) (row_if_current new row) (Some row)) o ≡ Some x → IsTrueNote new table r q x
    note r q x None e f = absurd cc
    note r q x (Some row) e f = go (keeps_frame old new was.entry) refl (sym (row_settled r q row was) ∙ f) where
      was : IsTrueNote old table r q row
      was = are r q row e

      go : (b : Bool) → keeps_frame old new was.entry ≡ b → cond b (Some row) None ≡ Some x → IsTrueNote new table r q x
      go true keeps g =
          let parts = keeps_frame-parts old new was.entry keeps in
          subst (IsTrueNote new table r q) (some_same g) (note_stays old new table table r q row was (record { is = was.is; frame = parts.0; inside = parts.1 }))
      go false gone g = absurd cc

-- ---- pages of a VMO that a snapshot shares

module _ (c : Content) (table : Entries) (rows : ReadyRows) (are : NotesAreTrue c table rows) (stays : ℕ → Bool) (v first end : ℕ) where
  pub rows_limited : FitsRows c table (read_only_but stays table v first end (ready_in rows)) (changed_rows (row_limited stays) v first end rows)
  unfolding changed_rows read_only_but passes
  rows_limited = record { are_ready = λ i r q. ready r q (rows r q) refl i; notes = λ r q x f. note r q x (rows r q) refl f } where
    none : (b : Bool) → ◌≡◌ {A = Option Readiness} None (cond b None None)
    none true = refl
    none false = refl

    by_bits : (a b : Bool) (row : ReadyPage) → readiness_in (cond a (Some (cond b row (record row { readiness = Read }))) (Some row)) ≡ cond (a && not b) (Some Read) (Some row.readiness)
    by_bits true true row = refl
    by_bits true false row = refl
    by_bits false true row = refl
    by_bits false false row = refl

    ready : (r q : ℕ) (o : Option ReadyPage) → rows r q ≡ o
        → readiness_in (option_and_then (λ row. cond (is_row_in v first end row) (row_limited stays row) (Some row)) o)
        ≡ cond (passes (shows_but stays v first end) (table r q)) (option_map (λ (readiness : Readiness). Read) (readiness_in o)) (readiness_in o)
    ready r q None e = none (passes (shows_but stays v first end) (table r q))
    ready r q (Some row) e =
        let was = are r q row e in
        let test : passes (shows_but stays v first end) (table r q) ≡ (is_row_in v first end row && not (stays row.page)) =
        ap (passes (shows_but stays v first end)) was.is ∙ (λ i. ((sym was.koid i) == v) && is_within first end (sym was.page i) && not (stays (sym was.page i))) in
        rw test (by_bits (is_row_in v first end row) (stays row.page) row)

    note : (r q : ℕ) (x : ReadyPage) (o : Option ReadyPage) → rows r q ≡ o
        → option_and_then (λ row. cond (is_row_in v first end row) (row_limited stays row) (Some row)) o ≡ Some x → IsTrueNote c table r q x
    note r q x None e f = absurd cc
    note r q x (Some row) e f = go (is_row_in v first end row) (stays row.page) f where
      was : IsTrueNote c table r q row
      was = are r q row e

      go : (a b : Bool) → cond a (Some (cond b row (record row { readiness = Read }))) (Some row) ≡ Some x → IsTrueNote c table r q x
      go true true g = subst (IsTrueNote c table r q) (some_same g) was
      go true false g = subst (IsTrueNote c table r q) (some_same g) (record { entry = was.entry; is = was.is; koid = was.koid; page = was.page; frame = was.frame; below = was.below })
      go false b g = subst (IsTrueNote c table r q) (some_same g) was

-- ---- pages of an address space that are dropped

module _ (rows : ReadyRows) (root first end : ℕ) where
  -- a row that is left was there, outside of the range
  pub row_outside : (r q : ℕ) (row : ReadyPage) → without_range rows root first end r q ≡ Some row → (rows r q ≡ Some row) × (((r == root) && is_within first end q) ≡ false)
  unfolding without_range
  row_outside r q row e = go ((r == root) && is_within first end q) refl e where
    go : (b : Bool) → ((r == root) && is_within first end q) ≡ b → cond b None (rows r q) ≡ Some row → (rows r q ≡ Some row) × (((r == root) && is_within first end q) ≡ false)
    go true inside e = absurd cc
    go false out e = (e, out)

  pub ready-dropped : ready_in (without_range rows root first end) ≡ unready (ready_in rows) root first end
  unfolding without_range unready
  ready-dropped = λ i r q. each ((r == root) && is_within first end q) (rows r q) i where
    each : (b : Bool) (o : Option ReadyPage) → readiness_in (cond b None o) ≡ cond b None (readiness_in o)
    each true o = refl
    each false o = refl

-- ---- a page that is noted

module _ (c d : Content) (table : Entries) (root p : ℕ) (entry : Entry) (frame : Option Tag) (readiness : Readiness) (old : ReadyRows) where
  -- what is noted, and the other rows
  abbrev pub note_of : ReadyPage
  note_of = record { koid = entry.koid; page = entry.page; frame = frame; readiness = readiness }

  abbrev pub others_of : ReadyRows
  others_of = changed_rows (row_if_current d) entry.koid.0 entry.page (entry.page + 1) old

  put : (b : Bool) (o : Option ReadyPage) → readiness_in (cond b (Some note_of) o) ≡ cond b (Some readiness) (readiness_in o)
  put true o = refl
  put false o = refl

  -- Noting a page after a change of the page of the VMO alone that it shows: the others are reset by the machine's rule.
  pub rows_noted : NotesAreTrue c table old → table root p ≡ Some entry → entry.page < pages_of d entry.koid.0 → frame_number frame ≡ frame_at d entry.koid.0 entry.page
      → ChangesRange c d entry.koid.0 entry.page (entry.page + 1) → FitsRows d table (with_ready (settled c d table (ready_in old)) root p readiness) (with_pair others_of root p (Some note_of))
  unfolding with_pair with_ready
  rows_noted are is below now change =
      let left = rows_settled c d table old are entry.koid.0 entry.page (entry.page + 1) change in
      record {
        are_ready = (λ i r q. put ((r == root) && (q == p)) (others_of r q) i) ∙ ap (λ (ready : Ready). with_ready ready root p readiness) left.are_ready;
        notes = λ r q row e. elim (pair-cases others_of root p (Some note_of) r q row e) [
          | inl here ↦ rw (here.0, here.1) (subst (IsTrueNote d table root p) (some_same here.2) (record { entry = entry; is = is; koid = refl; page = refl; frame = now; below = below }))
          | inr other ↦ left.notes r q row other.1
        ];
      }
