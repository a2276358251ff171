-- A page of an address space that may be written, as it is found before anything is written, and what writing to it
-- does.
use Rattle.std.specs.Prelude.{◌≡◌, ℕ, ◌<◌, true, false, List, if◌then◌else◌, Option, None, Some, is_some}
use Rattle.vm_base.specs.declared.names.Tag.{Tag}
use Rattle.vm_model.specs.declared.space.Entry.{Entry}
use Rattle.vm_model.specs.declared.space.Readiness.TheVariants.{Write}
use Rattle.vm_model.specs.Contents.Content.{Content, sole, pages_of}
use Rattle.vm_model.specs.Contents.Owning.{Owns}
use Rattle.vm_model.specs.Space.Readiness.{frame_at, is_writable}
use Rattle.page_store.specs.Pages.{Overwrites}
use Rattle.fault.specs.declared.translation.Translation.{Translation}
use Rattle.fault.specs.declared.writable.WritablePage.{WritablePage}
use Rattle.fault.specs.Table.{Places, ready_of, with_translation, translations_without, is_outdated}

-- the frame of a page that is translated for writing
abbrev pub writing_frame : Option Translation → Option Tag
writing_frame None = None
writing_frame (Some x) = if is_writable (Some x.readiness) then x.frame else None

-- Page p of the VMO v is sole, with this frame.
pub record IsSoleWith (c : Content) (v p tag : ℕ) : Type 0 where
  pub alone : sole c v p ≡ true
  pub frame : frame_at c v p ≡ Some tag

-- The page of the VMO is a page of the store. If the found page has a frame, the page of the VMO is sole with it.
pub record IsInStore (c : Content) (page : WritablePage) : Type 0 where
  pub below : page.entry.page < pages_of c page.entry.koid.0
  pub frame : (tag : Tag) → page.frame ≡ Some tag → IsSoleWith c page.entry.koid.0 page.entry.page tag.0

-- if the page of the address space was found to have no translation, it has none
abbrev pub IsAbsent : Places → (root p : ℕ) → WritablePage → Type 0
IsAbsent places root p page = page.translated ≡ false → places root p ≡ None

-- The found page is what page p of an address space shows. It has a frame if and only if page p is ready for writing.
pub record IsWritable (c : Content) (table : ℕ → ℕ → Option Entry) (places : Places) (root p : ℕ) (page : WritablePage) : Type 0 where
  pub entry : table root p ≡ Some page.entry
  pub ready : is_some page.frame ≡ is_writable (ready_of places root p)
  pub absent : IsAbsent places root p page
  pub store : IsInStore c page

-- how many page faults a write to the page takes
abbrev pub fault_of : WritablePage → ℕ
fault_of page = if is_some page.frame then 0 else 1

-- The translations once page p of an address space took a page fault, after which the page of the VMO has this frame.
-- The translations of that page that hold another frame are forgotten, and page p is translated for writing.
abbrev pub faulted : Places → (root p : ℕ) → Entry → Tag → Places
faulted places root p entry tag =
    with_translation (translations_without (is_outdated entry.koid.0 entry.page (Some tag.0)) places) root p
    (record { entry = entry; frame = Some tag; readiness = Write })

-- From the content c and the translations `old`, writing these bytes to page p of an address space, from a place in the
-- page on, leads to d and `new`. The page of the VMO is owned first. If the found page has no frame, page p takes a
-- page fault.
pub record WritesTo (root p : ℕ) (page : WritablePage) (at : ℕ) (bytes : List ℕ) (c : Content) (old : Places) (d : Content) (new : Places) : Type 0 where
  pub tag : Tag
  pub owned : Content
  pub owns : Owns c owned page.entry.koid.0 page.entry.page tag.0
  pub overwrites : Overwrites owned d tag.0 at bytes
  pub places : new ≡ (if is_some page.frame then old else faulted old root p page.entry tag)
