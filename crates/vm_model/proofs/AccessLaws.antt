-- Laws of accesses through mappings: what it means that they are not refused, and that a good machine stays good.
use Rattle.std.proofs.Common.{◌≡◌, ℕ, ◌/◌, ◌<◌, ◌≤◌, Bool, true, false, not, cond, List, [], ◌∷◌, length, Option, None, Some, refl, sym, ap, subst, ◌∙◌, inl, inr, arith}
use Rattle.std.specs.Prelude.{is_some, nat_lt}
use Rattle.std.specs.Option.{option_map, option_or}
use Rattle.std.specs.List.{All}
use Rattle.std.proofs.lemmas.Bool.{cases_Bool, ltb-true}
use Rattle.std.proofs.lemmas.List.Elements.{All-head, All-tail}
use Rattle.vm_base.specs.declared.limits.TheConstants.{PAGE}
use Rattle.vm_base.specs.declared.refusal.Refusal.{Refusal}
use Rattle.vm_base.specs.declared.refusal.Refusal.TheVariants.{AccessDenied, OutOfRange}
use Rattle.vm_base.proofs.EntryLaws.{some_same}
use Rattle.vm_model.specs.declared.space.Entry.{Entry}
use Rattle.vm_model.specs.declared.space.Readiness.{Readiness}
use Rattle.vm_model.specs.declared.space.Readiness.TheVariants.{Read, Write}
use Rattle.vm_model.specs.Contents.Content.{Content, Page, pages_of, sole, IsGood}
use Rattle.vm_model.specs.Contents.Writing.{Piece, touched, WritesPiece}
use Rattle.vm_model.specs.Space.Rights.{has, reading, writing}
use Rattle.vm_model.specs.Space.Readiness.{Ready, frame_at, settled, with_ready}
use Rattle.vm_model.specs.Naming.Pins.{is_pinned}
use Rattle.vm_model.specs.Machine.State.{State}
use Rattle.vm_model.specs.Machine.Step.{ChangesContent}
use Rattle.vm_model.specs.Machine.Access.{refusal_at, access_refusal, after_reading, Memory, piece_through, WritesPage, WritesThrough}
use Rattle.vm_model.specs.Machine.Machine.{Machine, memory_of, IsGoodReady, IsGoodMachine}
use Rattle.vm_model.proofs.ContentLaws.{same_page, page-hold_here, sole_held}
use Rattle.vm_model.proofs.RangeLaws.{part_fits, touched-from}
use Rattle.vm_model.proofs.SoleLaws.{KeepsSole}
use Rattle.vm_model.proofs.WritingLaws.{KeepsPages, KeepsPages-handed_on, Written, Written-from_WritesPiece, Written-other, WritesPiece-keeps}
use Rattle.vm_model.proofs.KeepLaws.{change_keeps}
use Rattle.vm_model.proofs.ReadinessLaws.{with_ready-cases, keeps_frame-parts, settled-some}

-- ---- accesses that are not refused

-- where an access to a page is not refused, its entry has the right, and what it shows lies in its VMO
pub refusal_at-parts : (c : Content) (right : ℕ) (entry : Entry) → refusal_at c right (Some entry) ≡ None
    → (has entry.perm.0 right ≡ true) × (entry.page < pages_of c entry.koid.0)
unfolding refusal_at
refusal_at-parts c right entry free = go (has entry.perm.0 right) (nat_lt entry.page (pages_of c entry.koid.0)) refl refl free where
  go : (may inside : Bool) → has entry.perm.0 right ≡ may → nat_lt entry.page (pages_of c entry.koid.0) ≡ inside
      → cond (not may) (Some AccessDenied) (cond inside None (Some OutOfRange)) ≡ None → (has entry.perm.0 right ≡ true) × (entry.page < pages_of c entry.koid.0)
  go false inside e f free = absurd cc
  go true false e f free = absurd cc
  go true true e f free = (e, ltb-true entry.page (pages_of c entry.koid.0) f)

-- and there is such an entry
pub refusal_at-entry : (c : Content) (right : ℕ) (o : Option Entry) → refusal_at c right o ≡ None
    → (entry : Entry) × (o ≡ Some entry) × (has entry.perm.0 right ≡ true) × (entry.page < pages_of c entry.koid.0)
unfolding refusal_at
refusal_at-entry c right None free = absurd cc
refusal_at-entry c right (Some entry) free = let parts = refusal_at-parts c right entry free in (entry, refl, parts.0, parts.1)

-- a refusal goes by the counts of VMOs alone
pub refusal_at-same : (c d : Content) (right : ℕ) (o : Option Entry) → ((v : ℕ) → pages_of d v ≡ pages_of c v) → refusal_at d right o ≡ refusal_at c right o
unfolding refusal_at
refusal_at-same c d right None pages = refl
refusal_at-same c d right (Some entry) pages =
    ap (λ (n : ℕ). cond (not (has entry.perm.0 right)) (Some AccessDenied) (cond (nat_lt entry.page n) None (Some OutOfRange))) (pages entry.koid.0)

pub access_refusal-same : (c d : Content) (right : ℕ) (entries : ℕ → Option Entry) (ps : List ℕ) → ((v : ℕ) → pages_of d v ≡ pages_of c v)
    → access_refusal d right entries ps ≡ access_refusal c right entries ps
unfolding access_refusal
access_refusal-same c d right entries [] pages = refl
access_refusal-same c d right entries (p ∷ ps) pages =
    (λ i. option_or (refusal_at-same c d right (entries p) pages i) (access_refusal-same c d right entries ps pages i))

-- an access to some pages is not refused on the first of them, nor on the others
pub access_refusal-parts : (c : Content) (right : ℕ) (entries : ℕ → Option Entry) (p : ℕ) (ps : List ℕ) → access_refusal c right entries (p ∷ ps) ≡ None
    → (refusal_at c right (entries p) ≡ None) × (access_refusal c right entries ps ≡ None)
unfolding access_refusal
access_refusal-parts c right entries p ps free = go (refusal_at c right (entries p)) refl free where
  go : (o : Option Refusal) → refusal_at c right (entries p) ≡ o → option_or o (access_refusal c right entries ps) ≡ None
      → (refusal_at c right (entries p) ≡ None) × (access_refusal c right entries ps ≡ None)
  go None e free = (e, free)
  go (Some refusal) e free = absurd cc

-- ---- what is ready stays good

-- what holds of a page that is ready holds of each
abbrev pub AreGoodReady : State → Ready → Type 0
AreGoodReady s ready = (root p : ℕ) (readiness : Readiness) → ready root p ≡ Some readiness → IsGoodReady s root p readiness

-- one page more
pub AreGoodReady-with_ready : (s : State) (ready : Ready) (root p : ℕ) (readiness : Readiness) → AreGoodReady s ready → IsGoodReady s root p readiness
    → AreGoodReady s (with_ready ready root p readiness)
AreGoodReady-with_ready s ready root p readiness good fine r q now e = elim (with_ready-cases ready root p readiness r q now e) [
  | inl made ↦ rw (made.0, made.1) (subst (IsGoodReady s root p) made.2 fine)
  | inr was ↦ good r q now was.1
]

-- what stays ready where the content changes, and sole pages stay so
pub AreGoodReady-settled : (s : State) (new : Content) (ready : Ready) → KeepsSole (λ w q. true) s.content new → AreGoodReady s ready
    → AreGoodReady (record s { content = new }) (settled s.content new s.spaces.table ready)
AreGoodReady-settled s new ready alone good root p readiness e =
    let still = settled-some s.content new s.spaces.table ready root p readiness e in
    let was = good root p readiness still.3 in
    let same : was.entry ≡ still.0 = some_same (sym was.is ∙ still.1) in
    record {
      entry = still.0;
      is = still.1;
      below = (keeps_frame-parts s.content new still.0 still.2).1;
      alone = λ write. subst (λ (entry : Entry). sole new entry.koid.0 entry.page ≡ true) same (alone was.entry.koid.0 was.entry.page refl (was.alone write));
    }

-- ---- reading

module _ (root p : ℕ) (ps : List ℕ) (ready : Ready) where
  -- reading a page that is ready changes nothing
  pub after_reading-ready : is_some (ready root p) ≡ true → after_reading root (p ∷ ps) ready ≡ after_reading root ps ready
  unfolding after_reading
  after_reading-ready is = ap (λ b. after_reading root ps (cond b ready (with_ready ready root p Read))) is

  -- reading another page makes it ready for reading
  pub after_reading-unready : is_some (ready root p) ≡ false → after_reading root (p ∷ ps) ready ≡ after_reading root ps (with_ready ready root p Read)
  unfolding after_reading
  after_reading-unready is = ap (λ b. after_reading root ps (cond b ready (with_ready ready root p Read))) is

-- what is ready stays good where pages are read
pub AreGoodReady-after_reading : (s : State) (root : ℕ) (ps : List ℕ) (ready : Ready) → AreGoodReady s ready
    → access_refusal s.content reading (s.spaces.table root) ps ≡ None → AreGoodReady s (after_reading root ps ready)
unfolding after_reading
AreGoodReady-after_reading s root [] ready good free = good
AreGoodReady-after_reading s root (p ∷ ps) ready good free =
    let parts = access_refusal-parts s.content reading (s.spaces.table root) p ps free in
    let shown = refusal_at-entry s.content reading (s.spaces.table root p) parts.0 in
    elim (cases_Bool (is_some (ready root p))) [
      | inl is ↦ subst (AreGoodReady s) (sym (after_reading-ready root p ps ready is)) (AreGoodReady-after_reading s root ps ready good parts.1)
      | inr is ↦ subst (AreGoodReady s) (sym (after_reading-unready root p ps ready is)) (AreGoodReady-after_reading s root ps (with_ready ready root p Read)
          (AreGoodReady-with_ready s ready root p Read good (record { entry = shown.0; is = shown.1; below = shown.3; alone = λ e. absurd cc })) parts.1)
    ]

-- So a good machine stays good where pages are read
pub reading_keeps : (old : Machine) (root : ℕ) (ps : List ℕ) → IsGoodMachine old → access_refusal old.state.content reading (old.state.spaces.table root) ps ≡ None
    → IsGoodMachine (record old { ready = after_reading root ps old.ready })
reading_keeps old root ps good free = record { state = good.state; ready = AreGoodReady-after_reading old.state root ps old.ready good.ready free }

-- ---- writing

-- writing a piece gives no other page another frame
pub frame_at-other : (old new : Content) (v p : ℕ) → Written old v p new → (w q : ℕ) → (w ≡ v → q ≡ p → ⊥) → frame_at new w q ≡ frame_at old w q
frame_at-other old new v p written w q apart = ap (option_map (λ (held : Page). held.tag)) (Written-other old new v p written w q apart)

-- nor the page itself, where it is sole
pub frame_at-sole : (old new : Content) (part : Piece) → WritesPiece old part new → Written old part.koid part.page new → sole old part.koid part.page ≡ true
    → (w q : ℕ) → frame_at new w q ≡ frame_at old w q
frame_at-sole old new part writes written alone w q = elim (same_page part.koid part.page w q) [
  | inr apart ↦ frame_at-other old new part.koid part.page written w q apart
  | inl here ↦
      let tag_of : Option Page → Option ℕ = option_map (λ (held : Page). held.tag) in
      let held = sole_held old part.koid part.page alone in
      let tag : writes.tag ≡ held.0.tag = (writes.owns.stays alone).1 held.0 held.1 in
      let now = ap (λ (c : Content). frame_at c part.koid part.page) writes.bytes ∙ ap tag_of (page-hold_here writes.owned part.koid part.page _) in
      rw (here.0, here.1) (now ∙ (ap (λ (n : ℕ). Some n) tag ∙ sym (ap tag_of held.1)))
]

-- a page on which the write is not refused, and which is not before its first byte's
module _ (s : State) (root addr : ℕ) (bytes : List ℕ) (p : ℕ) (old new : Memory) (good : IsGood old.content) (from : addr / PAGE ≤ p)
    (free : refusal_at old.content writing (s.spaces.table root p) ≡ None) (w : WritesPage s.spaces.table root addr bytes p old new) where
  below : w.entry.page < pages_of old.content w.entry.koid.0
  below = (refusal_at-parts old.content writing w.entry (ap (refusal_at old.content writing) (sym w.is) ∙ free)).1

  -- what writing it does to the page that it shows, and to others
  pub Written-from_WritesPage : Written old.content w.entry.koid.0 w.entry.page new.content
  Written-from_WritesPage =
      Written-from_WritesPiece old.content (piece_through w.entry addr bytes p) new.content good below (part_fits addr bytes p from) w.writes

  -- the content stays good, and sole pages stay so
  pub WritesPage-keeps : (test : ℕ → ℕ → Bool) → KeepsPages test old.content new.content
  WritesPage-keeps test = WritesPiece-keeps old.content (piece_through w.entry addr bytes p) new.content good below (part_fits addr bytes p from) w.writes test

  -- what is ready stays good
  pub AreGoodReady-WritesPage : AreGoodReady (record s { content = old.content }) old.ready → AreGoodReady (record s { content = new.content }) new.ready
  AreGoodReady-WritesPage ready =
      let written = Written-from_WritesPage in
      let keeps = WritesPage-keeps (λ v q. true) in
      let state : State = record s { content = new.content } in
      subst (AreGoodReady state) (sym w.ready)
      (AreGoodReady-with_ready state (settled old.content new.content s.spaces.table old.ready) root p Write
      (AreGoodReady-settled (record s { content = old.content }) new.content old.ready keeps.alone ready)
      (record { entry = w.entry; is = w.is; below = omega (arith, below, written.kept.pages w.entry.koid.0); alone = λ write. written.alone }))

-- the same of such pages that are written one after another
pub WritesThrough-keeps : (s : State) (root addr : ℕ) (bytes ps : List ℕ) (old new : Memory) (faults : ℕ) (test : ℕ → ℕ → Bool) → IsGood old.content
    → All (λ p. addr / PAGE ≤ p) ps → access_refusal old.content writing (s.spaces.table root) ps ≡ None
    → WritesThrough s.spaces.table root addr bytes ps old faults new → AreGoodReady (record s { content = old.content }) old.ready
    → KeepsPages test old.content new.content × AreGoodReady (record s { content = new.content }) new.ready
WritesThrough-keeps s root addr bytes [] old new faults test good from free writes ready = (
  (KeepsPages-handed_on test).same old.content new.content good (ap (λ (m : Memory). m.content) writes.0),
  subst (λ (m : Memory). AreGoodReady (record s { content = m.content }) m.ready) (sym writes.0) ready,
)
WritesThrough-keeps s root addr bytes (p ∷ ps) old new faults test good from free writes ready =
    let mid = writes.0 in
    let parts = access_refusal-parts old.content writing (s.spaces.table root) p ps free in
    let low = All-head (λ q. addr / PAGE ≤ q) p ps from in
    let step = WritesPage-keeps s root addr bytes p old mid good low parts.0 writes.2 test in
    let rest = WritesThrough-keeps s root addr bytes ps mid new writes.1 test step.kept.good (All-tail (λ q. addr / PAGE ≤ q) p ps from)
    (access_refusal-same old.content mid.content writing (s.spaces.table root) ps step.kept.pages ∙ parts.1) writes.3
    (AreGoodReady-WritesPage s root addr bytes p old mid good low parts.0 writes.2 ready) in
    ((KeepsPages-handed_on test).both old.content mid.content new.content step rest.0, rest.1)

-- So a good machine stays good where bytes are written
pub writing_keeps : (old new : Machine) (root addr : ℕ) (bytes : List ℕ) (faults : ℕ) → IsGoodMachine old
    → access_refusal old.state.content writing (old.state.spaces.table root) (touched addr (length bytes)) ≡ None → ChangesContent old.state new.state
    → WritesThrough old.state.spaces.table root addr bytes (touched addr (length bytes)) (memory_of old) faults (memory_of new)
    → IsGoodMachine new × (new.state.content.next ≡ old.state.content.next) × (new.state.content.frames ≡ old.state.content.frames)
writing_keeps old new root addr bytes faults good free change writes =
    let keeps = WritesThrough-keeps old.state root addr bytes (touched addr (length bytes)) (memory_of old) (memory_of new) faults (is_pinned old.state.pins)
    good.state.content (touched-from addr (length bytes)) free writes good.ready in (
      record {
        state = (change_keeps old.state new.state good.state change keeps.0).good;
        ready = subst (λ (s : State). AreGoodReady s new.ready) (sym change) keeps.1;
      },
      keeps.0.kept.next,
      keeps.0.kept.frames,
    )
