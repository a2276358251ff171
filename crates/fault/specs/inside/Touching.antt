-- A page of an address space that an access may touch, as it is found before anything is changed, and what reading it
-- does.
use Rattle.std.specs.Prelude.{◌≡◌, ◌≢◌, ℕ, ◌<◌, Option, None, Some, is_some, if◌then◌else◌}
use Rattle.vm_model.specs.declared.space.Entry.{Entry}
use Rattle.vm_model.specs.declared.space.Readiness.TheVariants.{Read}
use Rattle.vm_model.specs.Contents.Content.{Content, pages_of}
use Rattle.vm_model.specs.Space.Readiness.{frame_at, with_ready}
use Rattle.vm_model.specs.Machine.Access.{refusal_at}
use Rattle.fault.specs.declared.translation.Translation.{Translation}
use Rattle.fault.specs.declared.checking.TouchedPage.{TouchedPage}
use Rattle.fault.specs.Table.{Places, AreTrue, ready_of, translated_frame}

-- The page has this entry, on which an access with this right is not refused, and this translation.
pub record IsTouched (c : Content) (table : ℕ → ℕ → Option Entry) (places : Places) (right root page : ℕ) (touched : TouchedPage) : Type 0 where
  pub entry : table root page ≡ Some touched.entry
  pub free : refusal_at c right (Some touched.entry) ≡ None
  pub translation : places root page ≡ touched.translation

-- how many translations are missing before the page can be read
abbrev pub missing_in : TouchedPage → ℕ
missing_in touched = if is_some touched.translation then 0 else 1

-- The translation is of this entry, and holds the frame of the page that it shows.
pub record IsTranslationOf (c : Content) (entry : Entry) (x : Translation) : Type 0 where
  pub same : x.entry ≡ entry
  pub frame : translated_frame x ≡ frame_at c entry.koid.0 entry.page

-- What the table does not say of a page: the page of the VMO that it shows lies in the VMO, its translation is of that
-- page, and each translation of that page holds that page's frame.
pub record IsFoundPage (c : Content) (places : Places) (root page : ℕ) (touched : TouchedPage) : Type 0 where
  pub translation : places root page ≡ touched.translation
  pub below : touched.entry.page < pages_of c touched.entry.koid.0
  pub of_entry : (x : Translation) → touched.translation ≡ Some x → IsTranslationOf c touched.entry x
  pub alike : (r q : ℕ) (x : Translation) → places r q ≡ Some x → x.entry.koid.0 ≡ touched.entry.koid.0 → x.entry.page ≡ touched.entry.page
      → translated_frame x ≡ frame_at c touched.entry.koid.0 touched.entry.page

-- From old, reading the page leads to new: the page is ready for reading at least, and no other page changes.
pub record ReadsPage (c : Content) (root page : ℕ) (touched : TouchedPage) (old new : Places) : Type 0 where
  pub ready : ready_of new ≡ (if is_some (ready_of old root page) then ready_of old else with_ready (ready_of old) root page Read)
  pub others : (q : ℕ) → q ≢ page → new root q ≡ old root q
  pub are_true : (table : ℕ → ℕ → Option Entry) → table root page ≡ Some touched.entry → AreTrue c table old → AreTrue c table new
