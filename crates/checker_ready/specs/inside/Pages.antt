-- The pages that an access touches, one by one.
use Rattle.std.specs.Prelude.{◌≡◌, ℕ, ◌+◌, ◌/◌, ◌<◌, ◌≤◌, Bool, true, false, not, is_some, if◌then◌else◌, List, [], ◌∷◌, length, map, Option, None, Some, Result, MatchResult, ⊤}
use Rattle.std.specs.List.{range_with_len}
use Rattle.vm_base.specs.declared.limits.TheConstants.{PAGE}
use Rattle.vm_base.specs.declared.refusal.Refusal.{Refusal}
use Rattle.vm_model.specs.declared.space.Entry.{Entry}
use Rattle.vm_model.specs.declared.space.Readiness.{Readiness}
use Rattle.vm_model.specs.declared.space.Readiness.TheVariants.{Read, Write}
use Rattle.vm_model.specs.Contents.Content.{Content, pages_of, used, sole, IsGood}
use Rattle.vm_model.specs.Contents.Owning.{need_each}
use Rattle.vm_model.specs.Contents.Writing.{touched}
use Rattle.vm_model.specs.Space.Readiness.{Ready, is_writable}
use Rattle.vm_model.specs.Machine.Access.{page_shown}
use Rattle.ready_pages.specs.Changes.{Entries}
use Rattle.checker_ready.specs.declared.touching.Touched.{Touched}
use Rattle.checker_ready.specs.declared.touching.Touched.TheVariants.{No, One, Two}
use Rattle.checker_ready.specs.declared.touching.TouchedPage.{TouchedPage}

-- ---- pages that are touched

module _ {A : Type 0} where
  -- what stands there of each page
  abbrev pub list_of : Touched A → List A
  list_of No = []
  list_of (One x) = x ∷ []
  list_of (Two x y) = x ∷ y ∷ []

  -- this holds of each, where the first stands for page p, and each other one for the page behind the one before
  abbrev pub AreFrom : (ℕ → A → Type 0) → (p : ℕ) → List A → Type 0
  AreFrom holds p [] = ⊤
  AreFrom holds p (x ∷ xs) = holds p x × AreFrom holds (p + 1) xs

  -- An access to so many bytes touches as many pages as these, and this holds of each.
  pub record Touches (holds : ℕ → A → Type 0) (addr len : ℕ) (xs : List A) : Type 0 where
    pub pages : touched addr len ≡ range_with_len (addr / PAGE) (length xs)
    pub each : AreFrom holds (addr / PAGE) xs

-- the page of a VMO that an entry shows lies in the VMO
abbrev pub LiesInVmo : Content → Entry → Type 0
LiesInVmo c entry = entry.page < pages_of c entry.koid.0

-- page p of an address space has this entry, and what it shows lies in its VMO
pub record IsMappedInside (c : Content) (table : Entries) (root p : ℕ) (entry : Entry) : Type 0 where
  pub is : table root p ≡ Some entry
  pub below : LiesInVmo c entry

-- the entries of the pages are found if this refuses nothing, and else what it refuses
abbrev pub FindsTouched : Content → Entries → (root addr len : ℕ) → Option Refusal → Result (Touched Entry) Refusal → Type 0
FindsTouched c table root addr len refusal outcome =
    MatchResult outcome (λ found. (None ≡ refusal) × Touches (IsMappedInside c table root) addr len (list_of found)) (λ denied. Some denied ≡ refusal)

-- ---- where an access takes page faults

-- a page is not ready for this
abbrev pub is_unready : (wanted : Readiness) → Option Readiness → Bool
is_unready Read readiness = not (is_some readiness)
is_unready Write readiness = not (is_writable readiness)

-- page p of an address space has the entry of this one, which says whether the page is not ready for this
pub record IsTouchedPage (wanted : Readiness) (c : Content) (table : Entries) (ready : Ready) (root p : ℕ) (page : TouchedPage) : Type 0 where
  pub shows : IsMappedInside c table root p page.entry
  pub unready : page.unready ≡ is_unready wanted (ready root p)

-- how many page faults an access takes on these pages
abbrev pub faults_in : List TouchedPage → ℕ
faults_in [] = 0
faults_in (page ∷ pages) = (if page.unready then 1 else 0) + faults_in pages

-- ---- writing

-- The page that is shown lies in its VMO, and is sole where the write takes no page fault.
pub record MayWritePage (c : Content) (page : TouchedPage) : Type 0 where
  pub inside : LiesInVmo c page.entry
  pub alone : page.unready ≡ false → sole c page.entry.koid.0 page.entry.page ≡ true

-- So many bytes may be written from an address on to these pages, which can be owned.
pub record MayWrite (c : Content) (addr len : ℕ) (pages : List TouchedPage) : Type 0 where
  pub good : IsGood c
  pub touches : Touches (λ p. MayWritePage c) addr len pages
  pub frames : used c + need_each c (map (λ page. page_shown page.entry) pages) ≤ c.frames
