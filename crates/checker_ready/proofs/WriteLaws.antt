-- What writing through one page of an address space, or through two, gives.
use Rattle.std.proofs.Common.{◌≡◌, ℕ, ◌+◌, ◌-◌, ◌/◌, ◌%◌, ◌≤◌, true, false, List, [], ◌∷◌, length, map, take, drop, None, Some, refl, sym, ap, subst, ◌∙◌, inl, inr, arith}
use Rattle.std.proofs.lemmas.Bool.{cases_Bool}
use Rattle.vm_base.specs.declared.limits.TheConstants.{PAGE}
use Rattle.vm_base.proofs.EntryLaws.{some_same}
use Rattle.vm_model.specs.declared.space.Entry.{Entry}
use Rattle.vm_model.specs.declared.space.Readiness.TheVariants.{Write}
use Rattle.vm_model.specs.Contents.Content.{Content, used, sole, IsGood}
use Rattle.vm_model.specs.Contents.Owning.{VmoPage, need_each}
use Rattle.vm_model.specs.Contents.Writing.{touched, part_at, part_bytes, WritesPiece}
use Rattle.vm_model.specs.Space.Readiness.{Ready, frame_at, settled, with_ready}
use Rattle.vm_model.specs.Machine.Access.{page_shown, pages_shown, WritesPage}
use Rattle.vm_model.specs.Machine.Refusals.{write_refusals, first_of}
use Rattle.vm_model.proofs.AccessLaws.{frame_at-other, frame_at-sole}
use Rattle.vm_model.proofs.ContentLaws.{same_page}
use Rattle.vm_model.proofs.PartLaws.{part_at-first, part_bytes-all, part_bytes-first, part_at-second, part_bytes-second}
use Rattle.vm_model.proofs.ReadinessLaws.{keeps_frame-from, settled-kept, settled-some, with_ready-same, with_ready-other}
use Rattle.vm_model.proofs.WritingLaws.{Written, Written-from_WritesPiece, WritesPiece-keeps}
use Rattle.page_store.specs.Needs.{MayOwn}
use Rattle.page_store.proofs.NeedLaws.{first-free, second-free}
use Rattle.ready_pages.specs.Access.{WritesReady}
use Rattle.ready_pages.specs.Changes.{Entries, ChangesRange, AreReadyAt}
use Rattle.checker_ready.specs.declared.touching.TouchedPage.{TouchedPage}
use Rattle.checker_ready.specs.Notes.{ReadyRows, ready_in, FitsRows, NotesAreTrue, AreGoodNotes}
use Rattle.checker_ready.specs.inside.Pages.{IsMappedInside, IsTouchedPage, Touches, MayWritePage, MayWrite, faults_in, is_unready}
use Rattle.checker_ready.proofs.AskLaws.{each_from, shown_from, fits_one, write_row_free, write_row_fits}
use Rattle.checker_ready.proofs.FaultLaws.{fault_to_write, ready_to_write}
use Rattle.checker_ready.proofs.GoodLaws.{AreReadyAt-written}
use Rattle.checker_ready.proofs.SettledLaws.{rows_still}

-- ---- one page

module _ (c d : Content) (table : Entries) (rows : ReadyRows) (root p at : ℕ) (part : List ℕ) (page : TouchedPage) (good : IsGood c) (are : NotesAreTrue c table rows)
    (is : IsTouchedPage Write c table (ready_in rows) root p page) (fits : at + length part ≤ PAGE)
    (writes : WritesPiece c (record { koid = page.entry.koid.0; page = page.entry.page; at = at; bytes = part }) d) where
  page_written : Written c page.entry.koid.0 page.entry.page d
  page_written = Written-from_WritesPiece c (record { koid = page.entry.koid.0; page = page.entry.page; at = at; bytes = part }) d good is.shows.below fits writes

  -- no frame changes but that of the page that is shown, which lies in its VMO still
  pub range_written : ChangesRange c d page.entry.koid.0 page.entry.page (page.entry.page + 1)
  range_written = record {
    frame = λ w q apart. frame_at-other c d page.entry.koid.0 page.entry.page page_written w q (λ vmo number. apart vmo (omega (arith, number)) (omega (arith, number)));
    below = λ w q apart low. omega (arith, low, (page_written).kept.pages w);
  }

  pub shows_written : IsMappedInside d table root p page.entry
  shows_written = record { is = is.shows.is; below = omega (arith, is.shows.below, (page_written).kept.pages page.entry.koid.0) }

  -- a sole page that was ready for writing
  pub rows_kept : sole c page.entry.koid.0 page.entry.page ≡ true → page.unready ≡ false → FitsRows d table (with_ready (settled c d table (ready_in rows)) root p Write) rows
  rows_kept alone ready =
      let frames = frame_at-sole c d (record { koid = page.entry.koid.0; page = page.entry.page; at = at; bytes = part }) writes page_written alone in
      let still = rows_still c d table rows are frames (page_written).kept.pages in
      let now : settled c d table (ready_in rows) root p ≡ Some Write =
      ap (λ (r : Ready). r root p) (sym still.are_ready) ∙ ready_to_write (ready_in rows root p) (sym is.unready ∙ ready) in
      record { are_ready = still.are_ready ∙ sym (with_ready-same (settled c d table (ready_in rows)) root p Write now); notes = still.notes }

-- ---- two pages

-- one after another
module _ (c : Content) (addr len : ℕ) (first second : TouchedPage) (may : MayWrite c addr len (first ∷ second ∷ [])) where
  pub own_first : MayOwn c first.entry.koid.0 first.entry.page
  own_first = first-free c first.entry.koid.0 first.entry.page second.entry.koid.0 second.entry.page may.good may.touches.each.0.inside may.frames

  module _ (at : ℕ) (part : List ℕ) (d : Content) (fits : at + length part ≤ PAGE)
      (wrote : WritesPiece c (record { koid = first.entry.koid.0; page = first.entry.page; at = at; bytes = part }) d) where
    written : Written c first.entry.koid.0 first.entry.page d
    written = Written-from_WritesPiece c (record { koid = first.entry.koid.0; page = first.entry.page; at = at; bytes = part }) d may.good may.touches.each.0.inside fits wrote

    pub good_between : IsGood d
    good_between = (written).kept.good

    pub own_second : MayOwn d second.entry.koid.0 second.entry.page
    own_second = second-free c first.entry.koid.0 first.entry.page second.entry.koid.0 second.entry.page may.good may.touches.each.0.inside at part d fits wrote may.frames

    -- the second may still be written
    pub may_between : MayWritePage d second
    may_between = record {
      inside = omega (arith, may.touches.each.1.0.inside, (written).kept.pages second.entry.koid.0);
      alone = λ ready_for.
          (WritesPiece-keeps c (record { koid = first.entry.koid.0; page = first.entry.page; at = at; bytes = part }) d may.good may.touches.each.0.inside fits wrote (λ v q. true)).alone
          second.entry.koid.0 second.entry.page refl (may.touches.each.1.0.alone ready_for);
    }

    -- and keeps its frame if it is sole
    frame_between : sole c second.entry.koid.0 second.entry.page ≡ true → frame_at d second.entry.koid.0 second.entry.page ≡ frame_at c second.entry.koid.0 second.entry.page
    frame_between alone = elim (same_page first.entry.koid.0 first.entry.page second.entry.koid.0 second.entry.page) [
      | inl here ↦
          frame_at-sole c d (record { koid = first.entry.koid.0; page = first.entry.page; at = at; bytes = part }) wrote written
          ((λ i. sole c (sym here.0 i) (sym here.1 i)) ∙ alone) second.entry.koid.0 second.entry.page
      | inr apart ↦ frame_at-other c d first.entry.koid.0 first.entry.page written second.entry.koid.0 second.entry.page apart
    ]

    -- so its page of the address space is ready for writing as it was
    module _ (table : Entries) (ready later : Ready) (root p q : ℕ) (apart : q ≡ p → ⊥) (is : IsTouchedPage Write c table ready root q second)
        (now : later ≡ with_ready (settled c d table ready) root p Write) where
      later_there : later root q ≡ settled c d table ready root q
      later_there = ap (λ (r : Ready). r root q) now ∙ with_ready-other (settled c d table ready) root p Write root q (λ same. apart)

      pub touched_between : IsTouchedPage Write d table later root q second
      touched_between = record {
        shows = record { is = is.shows.is; below = (may_between).inside };
        unready = elim (cases_Bool second.unready) [
          | inl lacking ↦ elim (cases_Bool (is_unready Write (later root q))) [
            | inl lacks ↦ lacking ∙ sym lacks
            | inr ready_now ↦
                let was = settled-some c d table ready root q Write (sym later_there ∙ ready_to_write (later root q) ready_now) in
                absurd (let had = is.unready ∙ ap (is_unready Write) was.3 in cc)
          ]
          | inr ready_for ↦
              let keeps = keeps_frame-from c d second.entry (frame_between (may.touches.each.1.0.alone ready_for)) (may_between).inside in
              is.unready ∙ ap (is_unready Write) (sym (later_there ∙ settled-kept c d table ready root q second.entry is.shows.is keeps))
        ];
      }

-- ---- all bytes

module _ (table : Entries) (c : Content) (rows : ReadyRows) (root addr : ℕ) (bytes : List ℕ) where
  -- what a write to these pages gives
  abbrev pub WritesTo : List TouchedPage → Content → ReadyRows → Type 0
  WritesTo xs d later = WritesReady c table root addr bytes (ready_in rows) (faults_in xs) d (ready_in later) × NotesAreTrue d table later

  -- no page
  pub writes_none : first_of (write_refusals c (table root) (touched addr (length bytes))) ≡ None → NotesAreTrue c table rows
      → Touches (IsTouchedPage Write c table (ready_in rows) root) addr (length bytes) [] → WritesTo [] c rows
  writes_none free are touches = (record { free = free; writes = rw touches.pages (refl, refl) }, are)

  -- the part of the write that falls into a page
  part_written : (d : Content) (mid : ReadyRows) (p at : ℕ) (part : List ℕ) (page : TouchedPage) → IsTouchedPage Write c table (ready_in rows) root p page
      → WritesPiece c (record { koid = page.entry.koid.0; page = page.entry.page; at = at; bytes = part }) d → ready_in mid ≡ with_ready (settled c d table (ready_in rows)) root p Write
      → at ≡ part_at addr p → part ≡ part_bytes addr bytes p
      → WritesPage table root addr bytes p (record { content = c; ready = ready_in rows }) (record { content = d; ready = ready_in mid })
  part_written d mid p at part page is wrote ready place same = record { entry = page.entry; is = is.shows.is; writes = rw (← place, ← same) wrote; ready = ready }

  -- one page
  pub writes_one : (d : Content) (mid : ReadyRows) (p at : ℕ) (page : TouchedPage) → p ≡ addr / PAGE → at ≡ addr % PAGE
      → first_of (write_refusals c (table root) (touched addr (length bytes))) ≡ None → Touches (IsTouchedPage Write c table (ready_in rows) root) addr (length bytes) (page ∷ [])
      → WritesPiece c (record { koid = page.entry.koid.0; page = page.entry.page; at = at; bytes = bytes }) d
      → (IsTouchedPage Write c table (ready_in rows) root p page → FitsRows d table (with_ready (settled c d table (ready_in rows)) root p Write) mid) → WritesTo (page ∷ []) d mid
  writes_one d mid p at page start place free touches wrote fits =
      let is = subst (λ (q : ℕ). IsTouchedPage Write c table (ready_in rows) root q page) (sym start) touches.each.0 in
      let one : touched addr (length bytes) ≡ p ∷ [] = touches.pages ∙ ap (λ (q : ℕ). q ∷ []) (sym start) in
      let all : bytes ≡ part_bytes addr bytes p = rw start (part_bytes-all addr bytes (fits_one addr (length bytes) touches.pages)) in (
        record {
          free = free;
          writes = rw one (
            record { content = d; ready = ready_in mid },
            0,
            part_written d mid p at bytes page is wrote (fits is).are_ready (rw start (place ∙ part_at-first addr)) all,
            (refl, refl),
            omega (arith, fault_to_write page (ready_in rows root p) is.unready),
          );
        },
        (fits is).notes,
      )

-- two pages
module _ (table : Entries) (c : Content) (rows : ReadyRows) (root addr : ℕ) (bytes : List ℕ) (p at : ℕ) (first second : TouchedPage) (front : List ℕ) (d : Content) (mid : ReadyRows)
    (may : MayWrite c addr (length bytes) (first ∷ second ∷ [])) (start : p ≡ addr / PAGE) (place : at ≡ addr % PAGE) (here : front ≡ take (PAGE - at) bytes) (range : at + length front ≤ PAGE)
    (wrote : WritesPiece c (record { koid = first.entry.koid.0; page = first.entry.page; at = at; bytes = front }) d) where
  pub writes_two : (behind : List ℕ) (e : Content) (later : ReadyRows) → length bytes ≤ PAGE → behind ≡ drop (PAGE - at) bytes
      → first_of (write_refusals c (table root) (touched addr (length bytes))) ≡ None → Touches (IsTouchedPage Write c table (ready_in rows) root) addr (length bytes) (first ∷ second ∷ [])
      → WritesPiece d (record { koid = second.entry.koid.0; page = second.entry.page; at = 0; bytes = behind }) e
      → (IsTouchedPage Write c table (ready_in rows) root p first → FitsRows d table (with_ready (settled c d table (ready_in rows)) root p Write) mid)
      → (NotesAreTrue d table mid → IsTouchedPage Write d table (ready_in mid) root (p + 1) second → FitsRows e table (with_ready (settled d e table (ready_in mid)) root (p + 1) Write) later)
      → WritesTo table c rows root addr bytes (first ∷ second ∷ []) e later
  writes_two behind e later few there free touches then_wrote fits then_fits =
      let is = subst (λ (q : ℕ). IsTouchedPage Write c table (ready_in rows) root q first) (sym start) touches.each.0 in
      let was = subst (λ (q : ℕ). IsTouchedPage Write c table (ready_in rows) root (q + 1) second) (sym start) touches.each.1.0 in
      let then_is = touched_between c addr (length bytes) first second may at front d range wrote table (ready_in rows) (ready_in mid) root p (p + 1) (λ same. omega (arith, same)) was (fits is).are_ready in
      let rest = then_fits (fits is).notes then_is in
      let two : touched addr (length bytes) ≡ p ∷ (p + 1) ∷ [] = touches.pages ∙ ap (λ (q : ℕ). q ∷ (q + 1) ∷ []) (sym start) in (
        record {
          free = free;
          writes = rw two (
            record { content = d; ready = ready_in mid },
            faults_in (second ∷ []),
            part_written table c rows root addr bytes d mid p at front first is wrote (fits is).are_ready (rw start (place ∙ part_at-first addr)) (rw start (here ∙ part_bytes-first addr at bytes place)),
            (
              record { content = e; ready = ready_in later },
              0,
              part_written table d mid root addr bytes e later (p + 1) 0 behind second then_is then_wrote rest.are_ready (rw start (part_at-second addr)) (rw start (there ∙ part_bytes-second addr at bytes place few)),
              (refl, refl),
              omega (arith, fault_to_write second (ready_in mid root (p + 1)) then_is.unready),
            ),
            omega (arith, fault_to_write first (ready_in rows root p) is.unready),
          );
        },
        rest.notes,
      )

-- the same of a content and of rows that are the same
pub writes_same : (table : Entries) (now c : Content) (rows old : ReadyRows) (root addr : ℕ) (bytes : List ℕ) (xs : List TouchedPage) (d : Content) (later : ReadyRows) → now ≡ c → rows ≡ old
    → (first_of (write_refusals now (table root) (touched addr (length bytes))) ≡ None → NotesAreTrue now table rows → Touches (IsTouchedPage Write now table (ready_in rows) root) addr (length bytes) xs
    → WritesTo table now rows root addr bytes xs d later)
    → first_of (write_refusals c (table root) (touched addr (length bytes))) ≡ None → NotesAreTrue c table old → Touches (IsTouchedPage Write c table (ready_in old) root) addr (length bytes) xs
    → WritesTo table c old root addr bytes xs d later
writes_same table now c rows old root addr bytes xs d later same kept law free are touches = rw (← same, ← kept) (law (rw same free) (rw (same, kept) are) (rw (same, kept) touches))

-- ---- a write that nothing refuses

-- a page that is ready for writing shows a sole page
may_there : (c : Content) (table : Entries) (ready : Ready) (root p : ℕ) (page : TouchedPage) → AreReadyAt c table ready → IsTouchedPage Write c table ready root p page → MayWritePage c page
may_there c table ready root p page are is = record {
  inside = is.shows.below;
  alone = λ ready_for.
      let at = are root p Write (ready_to_write (ready root p) (sym is.unready ∙ ready_for)) in
      let same : at.entry ≡ page.entry = some_same (sym at.is ∙ is.shows.is) in
      subst (λ (entry : Entry). sole c entry.koid.0 entry.page ≡ true) same (at.alone refl);
}

-- what is found may be written
pub MayWrite-found : (c d : Content) (table : Entries) (rows : ReadyRows) (root addr len : ℕ) (pages : List TouchedPage) → d ≡ c → IsGood c → AreGoodNotes c table rows
    → None ≡ first_of (write_refusals c (table root) (touched addr len)) → Touches (IsTouchedPage Write c table (ready_in rows) root) addr len pages → MayWrite d addr len pages
MayWrite-found c d table rows root addr len pages same good notes free touches = rw same (record {
  good = good;
  touches = record {
    pages = touches.pages;
    each = each_from (IsTouchedPage Write c table (ready_in rows) root) (λ p. MayWritePage c) (λ p q page is. may_there c table (ready_in rows) root p page notes.ready is) (addr / PAGE) (addr / PAGE) pages touches.each;
  };
  frames =
      let shown : pages_shown (table root) (touched addr len) ≡ map (λ page. page_shown page.entry) pages =
      ap (pages_shown (table root)) touches.pages
      ∙ shown_from (IsTouchedPage Write c table (ready_in rows) root) (table root) (λ page. page.entry) (λ p page is. is.shows.is) (addr / PAGE) pages touches.each in
      subst (λ (ws : List VmoPage). used c + need_each c ws ≤ c.frames) shown (write_row_fits c (table root) (touched addr len) free);
})

-- the write leaves good notes
pub AreGoodNotes-written : (c d : Content) (table : Entries) (root addr : ℕ) (bytes : List ℕ) (rows later : ReadyRows) (faults : ℕ) → IsGood c → AreGoodNotes c table rows
    → WritesReady c table root addr bytes (ready_in rows) faults d (ready_in later) → NotesAreTrue d table later → AreGoodNotes d table later
AreGoodNotes-written c d table root addr bytes rows later faults good notes wrote are = record {
  true_rows = are;
  ready = AreReadyAt-written c d table root addr bytes (ready_in rows) (ready_in later) faults good notes.ready (write_row_free c (table root) (touched addr (length bytes)) (sym wrote.free)) wrote.writes;
}
