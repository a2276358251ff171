-- Laws of an access that is refused, and of one that is not.
use Rattle.std.proofs.Common.{◌≡◌, ℕ, ◌+◌, ◌<◌, ◌≤◌, Bool, true, false, not, cond, List, [], ◌∷◌, Option, None, Some, refl, sym, ap, ◌∙◌, inl, inr, arith}
use Rattle.std.specs.Prelude.{nat_lt, is_some, unwrap_or}
use Rattle.std.specs.List.{list_any}
use Rattle.std.proofs.lemmas.Bool.{cases_Bool, lt-ltb, le-ltb}
use Rattle.vm_base.specs.declared.refusal.Refusal.{Refusal}
use Rattle.vm_base.specs.declared.refusal.Refusal.TheVariants.{NotFound, HostMemory}
use Rattle.vm_model.specs.declared.space.Entry.{Entry}
use Rattle.vm_model.specs.declared.space.Readiness.{Readiness}
use Rattle.vm_model.specs.Contents.Content.{Content, used}
use Rattle.vm_model.specs.Contents.Owning.{VmoPage, need_each}
use Rattle.vm_model.specs.Space.Rights.{reading, writing}
use Rattle.vm_model.specs.Space.Readiness.{is_writable}
use Rattle.vm_model.specs.Machine.Access.{refusal_at, access_refusal, page_shown, pages_shown, entry_at, read_faults, write_fault}
use Rattle.vm_model.specs.Machine.Refusals.{read_refusals, write_refusals, first_of}
use Rattle.fault.specs.declared.writable.WritablePage.{WritablePage}
use Rattle.fault.specs.Table.{Places, ready_of}
use Rattle.ready_pages.specs.Access.{IsDenied}
use Rattle.fault.specs.inside.Needing.{LacksRoomToWrite}
use Rattle.fault.specs.inside.Writable.{IsWritable, fault_of}
use Rattle.fault.proofs.CheckLaws.{access_refusal-here, access_refusal-behind, access_refusal-nil}
use Rattle.fault.proofs.TouchingLaws.{any-read_faults}

-- Nothing refuses an access with this right to these pages of an address space, which show those pages of VMOs.
pub record AreAsked (c : Content) (right : ℕ) (entries : ℕ → Option Entry) (ps : List ℕ) (shown : List VmoPage) : Type 0 where
  pub free : access_refusal c right entries ps ≡ None
  pub shown_are : pages_shown entries ps ≡ shown

-- the page that an entry shows
entry_at-is : (entries : ℕ → Option Entry) (p : ℕ) (entry : Entry) → entries p ≡ Some entry → entry_at entries p ≡ entry
unfolding entry_at
entry_at-is entries p entry is = rw is refl

module _ (c : Content) (right : ℕ) (entries : ℕ → Option Entry) where
  -- no page
  pub AreAsked-none : AreAsked c right entries [] []
  unfolding pages_shown
  AreAsked-none = record { free = access_refusal-nil c right entries; shown_are = refl }

  -- one page more before them
  AreAsked-more : (p : ℕ) (ps : List ℕ) (shown : List VmoPage) (entry : Entry) → entries p ≡ Some entry → refusal_at c right (entries p) ≡ None
      → AreAsked c right entries ps shown → AreAsked c right entries (p ∷ ps) (page_shown entry ∷ shown)
  unfolding pages_shown
  AreAsked-more p ps shown entry is free rest = record {
    free = access_refusal-behind c right entries p ps free ∙ rest.free;
    shown_are = λ i. page_shown (entry_at-is entries p entry is i) ∷ rest.shown_are i;
  }

  -- one page, and two
  pub AreAsked-one : (p : ℕ) (entry : Entry) → entries p ≡ Some entry → refusal_at c right (entries p) ≡ None
      → AreAsked c right entries (p ∷ []) (page_shown entry ∷ [])
  AreAsked-one p entry is free = AreAsked-more p [] [] entry is free AreAsked-none

  pub AreAsked-two : (p q : ℕ) (first second : Entry) → entries p ≡ Some first → refusal_at c right (entries p) ≡ None
      → entries q ≡ Some second → refusal_at c right (entries q) ≡ None
      → AreAsked c right entries (p ∷ q ∷ []) (page_shown first ∷ page_shown second ∷ [])
  AreAsked-two p q first second is free then_is then_free = AreAsked-more p (q ∷ []) _ first is free (AreAsked-one q second then_is then_free)

  -- ---- an access that a page refuses, before what else may refuse it

  module _ (rest : List (Bool × Refusal)) (wants : Bool) (refusal : Refusal) where
    abbrev rows_of : List ℕ → List (Bool × Refusal)
    rows_of ps = (is_some (access_refusal c right entries ps), unwrap_or (access_refusal c right entries ps) NotFound) ∷ rest

    IsDenied-page : (ps : List ℕ) → access_refusal c right entries ps ≡ Some refusal → IsDenied (rows_of ps) wants refusal
    IsDenied-page ps is = record { why = inl (rw is refl) }

    -- the first page refuses it, or the second
    pub IsDenied-first : (p : ℕ) (ps : List ℕ) → refusal_at c right (entries p) ≡ Some refusal → IsDenied (rows_of (p ∷ ps)) wants refusal
    IsDenied-first p ps is = IsDenied-page (p ∷ ps) (access_refusal-here c right entries p ps refusal is)

    pub IsDenied-second : (p q : ℕ) → refusal_at c right (entries p) ≡ None → refusal_at c right (entries q) ≡ Some refusal
        → IsDenied (rows_of (p ∷ q ∷ [])) wants refusal
    IsDenied-second p q free is = IsDenied-page (p ∷ q ∷ [])
        (access_refusal-behind c right entries p (q ∷ []) free ∙ access_refusal-here c right entries q [] refusal is)

-- ---- a read

module _ {c : Content} {entries : ℕ → Option Entry} {ps : List ℕ} {shown : List VmoPage} (asked : AreAsked c reading entries ps shown) where
  -- the host lacks memory for a page that is not ready
  pub IsDenied-memory : (ready : ℕ → Option Readiness) (missing : ℕ) (refusal : Refusal) → read_faults ready ps ≡ missing → 0 < missing → refusal ≡ HostMemory
      → IsDenied (read_refusals c entries ps) (list_any (λ p. not (is_some (ready p))) ps) refusal
  IsDenied-memory ready missing refusal count some is = record { why = inr (rw asked.free refl, is, any-read_faults ready ps (omega (arith, count, some))) }

  -- nothing refuses it
  pub none-refuses_read : first_of (read_refusals c entries ps) ≡ None
  none-refuses_read = rw asked.free refl

-- ---- a write

module _ (c : Content) (entries : ℕ → Option Entry) (ps : List ℕ) (shown : List VmoPage) (asked : AreAsked c writing entries ps shown) where
  -- too few frames are free, or the host lacks memory
  pub IsDenied-room : (faults : ℕ) (wants : Bool) (refusal : Refusal) → LacksRoomToWrite c (need_each c shown) faults refusal → (0 < faults → wants ≡ true)
      → IsDenied (write_refusals c entries ps) wants refusal
  IsDenied-room faults wants refusal lacks wanted = elim lacks [
    | inl frames ↦
        let few : nat_lt c.frames (used c + need_each c (pages_shown entries ps)) ≡ true = rw asked.shown_are (lt-ltb _ _ frames.0) in
        record { why = inl (rw (asked.free, few, frames.1) refl) }
    | inr host ↦
        let enough : nat_lt c.frames (used c + need_each c (pages_shown entries ps)) ≡ false = rw asked.shown_are (le-ltb _ _ host.0) in
        record { why = inr (rw (asked.free, enough) refl, host.1, wanted host.2) }
  ]

  -- nothing refuses it
  pub none-refuses : used c + need_each c shown ≤ c.frames → first_of (write_refusals c entries ps) ≡ None
  none-refuses free =
      let enough : nat_lt c.frames (used c + need_each c (pages_shown entries ps)) ≡ false = rw asked.shown_are (le-ltb _ _ free) in
      rw (asked.free, enough) refl

-- ---- page faults of a write

module _ (c : Content) (table : ℕ → ℕ → Option Entry) (places : Places) (root p : ℕ) (page : WritablePage) (is : IsWritable c table places root p page) where
  -- the page takes as many page faults as it is to
  pub fault-found : fault_of page ≡ write_fault (ready_of places root p)
  fault-found = ap (λ b. cond b 0 1) is.ready

  -- and wants memory of the host where it takes one
  wants-found : 0 < fault_of page → not (is_writable (ready_of places root p)) ≡ true
  wants-found some = elim (cases_Bool (is_some page.frame)) [
    | inl ready ↦ absurd (let none : fault_of page ≡ 0 = rw ready refl in omega (arith, some, none))
    | inr unready ↦ ap not (sym is.ready ∙ unready)
  ]

-- some page of one or two wants it
pub wants-one : (c : Content) (table : ℕ → ℕ → Option Entry) (places : Places) (root p : ℕ) (page : WritablePage) → IsWritable c table places root p page
    → 0 < fault_of page → list_any (λ q. not (is_writable (ready_of places root q))) (p ∷ []) ≡ true
wants-one c table places root p page is some = rw (wants-found c table places root p page is some) refl

pub wants-two : (c : Content) (table : ℕ → ℕ → Option Entry) (places : Places) (root p q : ℕ) (first second : WritablePage)
    → IsWritable c table places root p first → IsWritable c table places root q second
    → 0 < fault_of first + fault_of second → list_any (λ r. not (is_writable (ready_of places root r))) (p ∷ q ∷ []) ≡ true
wants-two c table places root p q first second is then_is some = elim (cases_Bool (is_some first.frame)) [
  | inl ready ↦
      let none : fault_of first ≡ 0 = rw ready refl in
      let later = wants-found c table places root q second then_is (omega (arith, some, none)) in
      rw (sym is.ready ∙ ready, later) refl
  | inr unready ↦ rw (sym is.ready ∙ unready) refl
]
