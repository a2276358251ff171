-- Laws of what is ready: a page that is made ready, and pages that stay ready where what they show keeps its frame.
use Rattle.std.proofs.Common.{◌≡◌, ℕ, ◌<◌, true, false, ◌&&◌, ◌==◌, Option, None, Some, ◌⊎◌, refl, sym, ap, ◌∙◌, inl, inr}
use Rattle.std.specs.Prelude.{nat_lt}
use Rattle.std.proofs.lemmas.Bool.{cases_Bool, cond-true, cond-false, and_parts, and_from, false_from_ne_true, ltb-true, lt-ltb}
use Rattle.vm_base.specs.Entries.{passes}
use Rattle.vm_base.proofs.SearchLaws.{eqb_same, eqb_is}
use Rattle.vm_base.proofs.EntryLaws.{passes-some, passes_found}
use Rattle.vm_model.specs.declared.space.Entry.{Entry}
use Rattle.vm_model.specs.declared.space.Readiness.{Readiness}
use Rattle.vm_model.specs.Contents.Content.{Content, pages_of}
use Rattle.vm_model.specs.Space.Readiness.{Ready, frame_at, is_same_frame, keeps_frame, settled, with_ready}
use Rattle.vm_model.proofs.ContentLaws.{same_page}

-- ---- pages that are made ready

module _ (ready : Ready) (root p : ℕ) (readiness : Readiness) where
  -- the page is ready for what it was made
  pub with_ready-here : with_ready ready root p readiness root p ≡ Some readiness
  unfolding with_ready
  with_ready-here = cond-true _ _ _ (and_from (root == root) (p == p) (eqb_same root) (eqb_same p))

  -- another page is ready for what it was
  pub with_ready-other : (r q : ℕ) → (r ≡ root → q ≡ p → ⊥) → with_ready ready root p readiness r q ≡ ready r q
  unfolding with_ready
  with_ready-other r q apart = cond-false _ _ _ (false_from_ne_true ((r == root) && (q == p)) (λ e.
      let both = and_parts (r == root) (q == p) e in apart (eqb_is r root both.0) (eqb_is q p both.1)))

  -- a page that is ready now is this one, or another that was ready for the same
  pub with_ready-cases : (r q : ℕ) (now : Readiness) → with_ready ready root p readiness r q ≡ Some now
      → ((r ≡ root) × (q ≡ p) × (readiness ≡ now)) ⊎ ((r ≡ root → q ≡ p → ⊥) × (ready r q ≡ Some now))
  with_ready-cases r q now e = elim (same_page root p r q) [
    | inl here ↦ let space = here.0 in let page = here.1 in let made = with_ready-here in inl (space, page, cc)
    | inr apart ↦ inr (apart, sym (with_ready-other r q apart) ∙ e)
  ]

  -- where the page was ready for the same, nothing changes
  pub with_ready-same : ready root p ≡ Some readiness → with_ready ready root p readiness ≡ ready
  with_ready-same is = λ i r q. same r q i where
    same : (r q : ℕ) → with_ready ready root p readiness r q ≡ ready r q
    same r q = elim (same_page root p r q) [ inl here ↦ rw (here.0, here.1) (with_ready-here ∙ sym is) | inr apart ↦ with_ready-other r q apart ]

-- ---- pages whose frames change

-- frames that pass the test are the same
pub is_same_frame-is : (t u : Option ℕ) → is_same_frame t u ≡ true → t ≡ u
is_same_frame-is None None e = refl
is_same_frame-is None (Some u) e = absurd cc
is_same_frame-is (Some t) None e = absurd cc
is_same_frame-is (Some t) (Some u) e = ap (λ (n : ℕ). Some n) (eqb_is t u e)

-- and a frame passes it with itself
pub is_same_frame-same : (t : Option ℕ) → is_same_frame t t ≡ true
is_same_frame-same None = refl
is_same_frame-same (Some t) = eqb_same t

module _ (old new : Content) (entry : Entry) where
  -- a page that keeps its frame has it still, and lies in its VMO
  pub keeps_frame-parts : keeps_frame old new entry ≡ true
      → (frame_at new entry.koid.0 entry.page ≡ frame_at old entry.koid.0 entry.page) × (entry.page < pages_of new entry.koid.0)
  unfolding keeps_frame
  keeps_frame-parts e =
      let both = and_parts (is_same_frame (frame_at old entry.koid.0 entry.page) (frame_at new entry.koid.0 entry.page)) (nat_lt entry.page (pages_of new entry.koid.0)) e in
      (sym (is_same_frame-is _ _ both.0), ltb-true entry.page (pages_of new entry.koid.0) both.1)

  -- and a page of which this holds keeps its frame
  pub keeps_frame-from : frame_at new entry.koid.0 entry.page ≡ frame_at old entry.koid.0 entry.page → entry.page < pages_of new entry.koid.0
      → keeps_frame old new entry ≡ true
  unfolding keeps_frame
  keeps_frame-from same below = and_from _ _
      (ap (is_same_frame (frame_at old entry.koid.0 entry.page)) same ∙ is_same_frame-same (frame_at old entry.koid.0 entry.page))
      (lt-ltb entry.page (pages_of new entry.koid.0) below)

module _ (old new : Content) (table : ℕ → ℕ → Option Entry) (ready : Ready) (root p : ℕ) where
  -- a page is ready for what it was where what it shows keeps its frame
  pub settled-kept : (entry : Entry) → table root p ≡ Some entry → keeps_frame old new entry ≡ true → settled old new table ready root p ≡ ready root p
  unfolding settled
  settled-kept entry is keeps = cond-true _ _ _ (passes-some (keeps_frame old new) (table root p) entry is ∙ keeps)

  -- where it shows nothing that keeps its frame, it is ready for nothing
  pub settled-changed : passes (keeps_frame old new) (table root p) ≡ false → settled old new table ready root p ≡ None
  unfolding settled
  settled-changed changes = cond-false _ _ _ changes

  -- a page that is ready still was ready for the same, and what it shows keeps its frame
  pub settled-some : (readiness : Readiness) → settled old new table ready root p ≡ Some readiness
      → (entry : Entry) × (table root p ≡ Some entry) × (keeps_frame old new entry ≡ true) × (ready root p ≡ Some readiness)
  unfolding settled
  settled-some readiness e = elim (cases_Bool (passes (keeps_frame old new) (table root p))) [
    | inl keeps ↦
        let found = passes_found (keeps_frame old new) (table root p) keeps in
        (found.0, found.1, found.2, sym (cond-true _ _ _ keeps) ∙ e)
    | inr changes ↦ absurd (let gone = settled-changed changes in cc)
  ]

-- where what every ready page shows keeps its frame, all are ready for what they were
pub settled-same : (old new : Content) (table : ℕ → ℕ → Option Entry) (ready : Ready)
    → ((root p : ℕ) (readiness : Readiness) → ready root p ≡ Some readiness → (entry : Entry) × (table root p ≡ Some entry) × (keeps_frame old new entry ≡ true))
    → settled old new table ready ≡ ready
settled-same old new table ready keeps = λ i root p. same root p (ready root p) refl i where
  same : (root p : ℕ) (o : Option Readiness) → ready root p ≡ o → settled old new table ready root p ≡ ready root p
  same root p (Some readiness) e = let shows = keeps root p readiness e in settled-kept old new table ready root p shows.0 shows.1 shows.2
  same root p None e = elim (cases_Bool (passes (keeps_frame old new) (table root p))) [
    | inl kept ↦ let found = passes_found (keeps_frame old new) (table root p) kept in settled-kept old new table ready root p found.0 found.1 found.2
    | inr changes ↦ settled-changed old new table ready root p changes ∙ sym e
  ]
