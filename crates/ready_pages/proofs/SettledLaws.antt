-- Laws of what is ready once a content is settled, and of pages of a range that are ready for nothing.
use Rattle.std.proofs.Common.{◌≡◌, ℕ, ◌≤◌, Bool, true, false, cond, ◌&&◌, ◌==◌, None, Some, ◌⊎◌, refl, ap, ◌∙◌, inl, inr}
use Rattle.std.specs.Option.{option_map}
use Rattle.std.proofs.lemmas.Bool.{and_left, and_right, cond-true, cond-false, le-ltb}
use Rattle.vm_base.specs.Entries.{passes}
use Rattle.vm_base.proofs.EntryLaws.{passes-some, passes-none}
use Rattle.vm_model.specs.declared.space.Entry.{Entry}
use Rattle.vm_model.specs.Contents.Content.{Page, Content, pages_of}
use Rattle.vm_model.specs.Contents.Zeroing.{is_within}
use Rattle.vm_model.specs.Space.Readiness.{Ready, frame_at, is_same_frame, keeps_frame, settled, unready}
use Rattle.vm_model.proofs.ReadinessLaws.{keeps_frame-from, settled-kept, settled-changed}
use Rattle.ready_pages.specs.Changes.{Entries, EntryStays}

-- a page that is the same has the same frame
pub frame_at-same : (c d : Content) (v p : ℕ) → d.page v p ≡ c.page v p → frame_at d v p ≡ frame_at c v p
frame_at-same c d v p same = ap (option_map (λ (held : Page). held.tag)) same

-- ---- what is settled

module _ (c d : Content) (table : Entries) (ready : Ready) (root p : ℕ) where
  -- what was ready for nothing is so still
  pub settled-none : ready root p ≡ None → settled c d table ready root p ≡ None
  unfolding settled
  settled-none e = go (passes (keeps_frame c d) (table root p)) where
    go : (b : Bool) → cond b (ready root p) None ≡ None
    go true = e
    go false = refl

  -- where nothing is shown, nothing is ready
  pub settled-bare : table root p ≡ None → settled c d table ready root p ≡ None
  settled-bare e = settled-changed c d table ready root p (passes-none (keeps_frame c d) (table root p) e)

  -- so it is where what is shown has another frame, or lies in its VMO no more
  pub settled-lost : (entry : Entry) → table root p ≡ Some entry
      → (is_same_frame (frame_at c entry.koid.0 entry.page) (frame_at d entry.koid.0 entry.page) ≡ false) ⊎ (pages_of d entry.koid.0 ≤ entry.page)
      → settled c d table ready root p ≡ None
  unfolding keeps_frame
  settled-lost entry e lost = settled-changed c d table ready root p (passes-some (keeps_frame c d) (table root p) entry e ∙ elim lost [
    | inl other ↦ and_left _ _ other
    | inr past ↦ and_right _ _ (le-ltb entry.page (pages_of d entry.koid.0) past)
  ])

  -- an entry that stays is ready for what it was
  pub settled-stays : (entry : Entry) → EntryStays c d table root p entry → settled c d table ready root p ≡ ready root p
  settled-stays entry stays = settled-kept c d table ready root p entry stays.is (keeps_frame-from c d entry stays.frame stays.inside)

-- ---- pages of a range that are ready for nothing

module _ (ready : Ready) (root first end r p : ℕ) where
  -- a page of the range is
  pub unready-in : ((r == root) && is_within first end p) ≡ true → unready ready root first end r p ≡ None
  unfolding unready
  unready-in e = cond-true _ _ _ e

  -- another page is ready for what it was
  pub unready-out : ((r == root) && is_within first end p) ≡ false → unready ready root first end r p ≡ ready r p
  unfolding unready
  unready-out e = cond-false _ _ _ e

  -- what was ready for nothing is so still
  pub unready-none : ready r p ≡ None → unready ready root first end r p ≡ None
  unfolding unready
  unready-none e = go ((r == root) && is_within first end p) where
    go : (b : Bool) → cond b None (ready r p) ≡ None
    go true = refl
    go false = e
