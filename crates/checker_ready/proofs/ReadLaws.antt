-- What reading through no page of an address space gives, through one, or through two.
use Rattle.std.proofs.Common.{◌≡◌, ℕ, ◌+◌, ◌/◌, ◌%◌, ◌≤◌, List, [], ◌∷◌, ◌++◌, length, take, drop, None, refl, sym, ap, subst, ◌∙◌, arith}
use Rattle.std.specs.List.{range_with_len}
use Rattle.vm_base.specs.declared.limits.TheConstants.{PAGE}
use Rattle.vm_model.specs.declared.space.Readiness.TheVariants.{Read}
use Rattle.vm_model.specs.Contents.Content.{Content, shown, IsGood}
use Rattle.vm_model.specs.Contents.Writing.{touched}
use Rattle.vm_model.specs.Space.Readiness.{Ready}
use Rattle.vm_model.specs.Machine.Access.{bytes_through, read_faults, after_reading}
use Rattle.vm_model.specs.Machine.Refusals.{read_refusals, first_of}
use Rattle.vm_model.proofs.OwningLaws.{length-shown}
use Rattle.vm_model.proofs.ThroughLaws.{bytes_through-page, bytes_through-append}
use Rattle.ready_pages.specs.Access.{ReadsReady}
use Rattle.ready_pages.specs.Changes.{Entries, AreReadyAt}
use Rattle.checker_ready.specs.declared.touching.TouchedPage.{TouchedPage}
use Rattle.checker_ready.specs.Notes.{ReadyRows, ready_in, FitsRows, NotesAreTrue, AreGoodNotes}
use Rattle.checker_ready.specs.inside.Pages.{AreFrom, IsTouchedPage, LiesInVmo, Touches, faults_in, is_unready}
use Rattle.checker_ready.proofs.AskLaws.{read_row, fits_none, fits_one}
use Rattle.checker_ready.proofs.FaultLaws.{faults_to_read}
use Rattle.checker_ready.proofs.GoodLaws.{AreReadyAt-read}
use Rattle.checker_ready.proofs.NoteLaws.{after_reading-other}

-- the bytes of a page, from a place in it on
bytes_here : (c : Content) (table : Entries) (ready : Ready) (root addr n p at : ℕ) (page : TouchedPage) → IsGood c → p ≡ addr / PAGE → at ≡ addr % PAGE → at + n ≤ PAGE
    → IsTouchedPage Read c table ready root p page → take n (drop at (shown c page.entry.koid.0 page.entry.page)) ≡ bytes_through c (table root) addr n
bytes_here c table ready root addr n p at page good start place fits is =
    ap (λ (k : ℕ). take n (drop k (shown c page.entry.koid.0 page.entry.page))) place
    ∙ sym (bytes_through-page c (table root) addr n page.entry (ap (table root) (sym start) ∙ is.shows.is)
    (length-shown c page.entry.koid.0 page.entry.page good) (rw place at fits))

module _ (table : Entries) (c : Content) (root addr : ℕ) (old : ReadyRows) where
  -- what a read of these pages gives
  abbrev pub Reads : (len : ℕ) → List TouchedPage → List ℕ → ReadyRows → Type 0
  Reads len xs bytes new = ReadsReady c table root addr len (ready_in old) (faults_in xs) bytes (ready_in new) × NotesAreTrue c table new

  module _ (len : ℕ) (xs : List TouchedPage) (free : first_of (read_refusals c (table root) (touched addr len)) ≡ None)
      (touches : Touches (IsTouchedPage Read c table (ready_in old) root) addr len xs) where
    reads : (bytes : List ℕ) (new : ReadyRows) → bytes ≡ bytes_through c (table root) addr len
        → FitsRows c table (after_reading root (range_with_len (addr / PAGE) (length xs)) (ready_in old)) new → Reads len xs bytes new
    reads bytes new is fits = (
      record {
        free = free;
        faults_are =
            faults_to_read c table (ready_in old) root (addr / PAGE) xs touches.each
            ∙ ap (read_faults (ready_in old root)) (sym touches.pages);
        bytes_are = is;
        ready = fits.are_ready ∙ ap (λ (ps : List ℕ). after_reading root ps (ready_in old)) (sym touches.pages);
      },
      fits.notes,
    )

  -- no page
  pub reads_none : (bytes : List ℕ) → first_of (read_refusals c (table root) (touched addr (length bytes))) ≡ None → NotesAreTrue c table old
      → Touches (IsTouchedPage Read c table (ready_in old) root) addr (length bytes) [] → Reads (length bytes) [] bytes old
  unfolding bytes_through after_reading
  reads_none [] free are touches = reads 0 [] free touches [] old refl (record { are_ready = refl; notes = are })
  reads_none (b ∷ bytes) free are touches = absurd (let none = fits_none addr (length (b ∷ bytes)) touches.pages in omega arith)

  -- one page
  pub reads_one : IsGood c → (p at n : ℕ) (page : TouchedPage) (bytes : List ℕ) (new : ReadyRows) → p ≡ addr / PAGE → at ≡ addr % PAGE → first_of (read_refusals c (table root) (touched addr n)) ≡ None
      → Touches (IsTouchedPage Read c table (ready_in old) root) addr n (page ∷ []) → bytes ≡ take n (drop at (shown c page.entry.koid.0 page.entry.page))
      → (IsTouchedPage Read c table (ready_in old) root p page → FitsRows c table (after_reading root (p ∷ []) (ready_in old)) new) → Reads n (page ∷ []) bytes new
  reads_one good p at n page bytes new start place free touches read rows =
      let is = subst (λ (q : ℕ). IsTouchedPage Read c table (ready_in old) root q page) (sym start) touches.each.0 in
      reads n (page ∷ []) free touches bytes new
      (read ∙ bytes_here c table (ready_in old) root addr n p at page good start place (rw place (fits_one addr n touches.pages)) is)
      (subst (λ (q : ℕ). FitsRows c table (after_reading root (q ∷ []) (ready_in old)) new) start (rows is))

  -- two pages
  module _ (good : IsGood c) (p at n m len : ℕ) (first second : TouchedPage) (front behind : List ℕ) (mid new : ReadyRows) (start : p ≡ addr / PAGE) (place : at ≡ addr % PAGE)
      (whole : at + n ≡ PAGE) (short : m ≤ PAGE) (both : n + m ≡ len) where
    pub reads_two : first_of (read_refusals c (table root) (touched addr len)) ≡ None → Touches (IsTouchedPage Read c table (ready_in old) root) addr len (first ∷ second ∷ [])
        → front ≡ take n (drop at (shown c first.entry.koid.0 first.entry.page)) → behind ≡ take m (drop 0 (shown c second.entry.koid.0 second.entry.page))
        → (IsTouchedPage Read c table (ready_in old) root p first → FitsRows c table (after_reading root (p ∷ []) (ready_in old)) mid)
        → (NotesAreTrue c table mid → IsTouchedPage Read c table (ready_in mid) root (p + 1) second → FitsRows c table (after_reading root ((p + 1) ∷ []) (ready_in mid)) new)
        → Reads len (first ∷ second ∷ []) (front ++ behind) new
    unfolding after_reading
    reads_two free touches read then_read rows then_rows =
        let is = subst (λ (q : ℕ). IsTouchedPage Read c table (ready_in old) root q first) (sym start) touches.each.0 in
        let was = subst (λ (q : ℕ). IsTouchedPage Read c table (ready_in old) root (q + 1) second) (sym start) touches.each.1.0 in
        let fits = rows is in
        let then_is : IsTouchedPage Read c table (ready_in mid) root (p + 1) second = record {
          shows = was.shows;
          unready = was.unready ∙ ap (is_unready Read) (sym (ap (λ (ready : Ready). ready root (p + 1)) fits.are_ready ∙ after_reading-other root p (p + 1) (ready_in old) (λ same. omega (arith, same))));
        } in
        let then_fits = then_rows fits.notes then_is in
        let after : p + 1 ≡ (addr + n) / PAGE = omega (arith, start, place, whole) in
        let begin : 0 ≡ (addr + n) % PAGE = omega (arith, place, whole) in
        reads len (first ∷ second ∷ []) free touches (front ++ behind) new
        (rw (← both) ((λ i. (read ∙ bytes_here c table (ready_in old) root addr n p at first good start place (omega (arith, whole)) is) i
        ++ (then_read ∙ bytes_here c table (ready_in mid) root (addr + n) m (p + 1) 0 second good after begin (omega (arith, short)) then_is) i)
        ∙ sym (bytes_through-append c (table root) addr n m)))
        (record {
          are_ready = then_fits.are_ready ∙ (ap (after_reading root ((p + 1) ∷ [])) fits.are_ready ∙ ap (λ (q : ℕ). after_reading root (q ∷ (q + 1) ∷ []) (ready_in old)) start);
          notes = then_fits.notes;
        })

-- pages that are touched lie in their VMOs
pub lie_inside : (c : Content) (table : Entries) (ready : Ready) (root p : ℕ) (pages : List TouchedPage) → AreFrom (IsTouchedPage Read c table ready root) p pages
    → AreFrom (λ q page. LiesInVmo c page.entry) p pages
lie_inside c table ready root p [] each = tt
lie_inside c table ready root p (page ∷ pages) each = (each.0.shows.below, lie_inside c table ready root (p + 1) pages each.1)

-- the same of other rows and of another number that are the same
pub reads_same : (table : Entries) (c : Content) (root addr n len : ℕ) (rows old : ReadyRows) (xs : List TouchedPage) (bytes : List ℕ) (new : ReadyRows) → n ≡ len → rows ≡ old
    → (first_of (read_refusals c (table root) (touched addr n)) ≡ None → NotesAreTrue c table rows → Touches (IsTouchedPage Read c table (ready_in rows) root) addr n xs
    → Reads table c root addr rows n xs bytes new)
    → first_of (read_refusals c (table root) (touched addr len)) ≡ None → NotesAreTrue c table old → Touches (IsTouchedPage Read c table (ready_in old) root) addr len xs
    → Reads table c root addr old len xs bytes new
reads_same table c root addr n len rows old xs bytes new same kept law free are touches = rw (← same, ← kept) (law (rw same free) (rw kept are) (rw (same, kept) touches))

-- A read that nothing refuses leaves good notes.
pub AreGoodNotes-read : (c : Content) (table : Entries) (root addr len faults : ℕ) (old new : ReadyRows) (bytes : List ℕ) → AreGoodNotes c table old
    → ReadsReady c table root addr len (ready_in old) faults bytes (ready_in new) → NotesAreTrue c table new → AreGoodNotes c table new
AreGoodNotes-read c table root addr len faults old new bytes good reads are = record {
  true_rows = are;
  ready = subst (AreReadyAt c table) (sym reads.ready) (AreReadyAt-read c table root (touched addr len) (ready_in old) good.ready (read_row c (table root) (touched addr len) ∙ reads.free));
}
