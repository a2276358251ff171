-- Which pages of address spaces are ready for an access, so that the access takes no page fault. From the kernel's page
-- tables: a page is translated when it is touched first, and again after its frame changed.
use Rattle.std.specs.Prelude.{ℕ, Bool, true, false, not, ◌&&◌, ◌==◌, nat_lt, if◌then◌else◌, Option, None, Some}
use Rattle.std.specs.Option.{option_map}
use Rattle.vm_base.specs.Entries.{passes}
use Rattle.vm_model.specs.declared.space.Entry.{Entry}
use Rattle.vm_model.specs.declared.space.Readiness.{Readiness}
use Rattle.vm_model.specs.declared.space.Readiness.TheVariants.{Read, Write}
use Rattle.vm_model.specs.Contents.Content.{Content, Page, pages_of}
use Rattle.vm_model.specs.Contents.Zeroing.{is_within}
use Rattle.vm_base.specs.declared.names.Tag.{Tag}

-- what each page of each address space is ready for
abbrev pub Ready : Type 0
Ready = ℕ → ℕ → Option Readiness

-- a page is ready for writing
abbrev pub is_writable : Option Readiness → Bool
is_writable None = false
is_writable (Some Read) = false
is_writable (Some Write) = true

-- the frame of page p of the VMO v, if the page is held
abbrev pub frame_at : Content → ℕ → ℕ → Option ℕ
frame_at c v p = option_map (λ (held : Page). held.tag) (c.page v p)

-- the number of a frame, if there is one
abbrev pub frame_number : Option Tag → Option ℕ
frame_number frame = option_map (λ (tag : Tag). tag.0) frame

-- both are the same frame, or no frame
abbrev pub is_same_frame : Option ℕ → Option ℕ → Bool
is_same_frame None None = true
is_same_frame (Some t) (Some u) = t == u
is_same_frame _ _ = false

-- the page that the entry shows lies in its VMO in `new`, and has the frame there that it had in `old`
unfoldable pub keeps_frame : (old new : Content) → Entry → Bool
keeps_frame old new entry =
    is_same_frame (frame_at old entry.koid.0 entry.page) (frame_at new entry.koid.0 entry.page) && nat_lt entry.page (pages_of new entry.koid.0)

-- What is ready once the content is `new` in place of `old`, and pages show what the table says. A page stays ready if
-- what it shows keeps its frame.
unfoldable pub settled : (old new : Content) → (ℕ → ℕ → Option Entry) → Ready → Ready
settled old new table ready root p = if passes (keeps_frame old new) (table root p) then ready root p else None

-- page p of an address space is ready for this
unfoldable pub with_ready : Ready → (root p : ℕ) → Readiness → Ready
with_ready ready root p readiness r q = if (r == root) && (q == p) then Some readiness else ready r q

-- the pages from `first` to below `end` of an address space are ready for nothing
unfoldable pub unready : Ready → (root first end : ℕ) → Ready
unready ready root first end r p = if (r == root) && is_within first end p then None else ready r p

-- the entry shows a page of the VMO v from `first` to below `end`
abbrev pub shows_in : (v first end : ℕ) → Entry → Bool
shows_in v first end entry = (entry.koid.0 == v) && is_within first end entry.page

-- the entry shows such a page that does not pass the test
abbrev pub shows_but : (stays : ℕ → Bool) → (v first end : ℕ) → Entry → Bool
shows_but stays v first end entry = shows_in v first end entry && not (stays entry.page)

-- Pages that show a page of the VMO v from `first` to below `end` are ready for reading at most, unless the page of v
-- passes the test. All other pages stay ready for what they were.
unfoldable pub read_only_but : (stays : ℕ → Bool) → (ℕ → ℕ → Option Entry) → (v first end : ℕ) → Ready → Ready
read_only_but stays table v first end ready root p =
    if passes (shows_but stays v first end) (table root p) then option_map (λ (readiness : Readiness). Read) (ready root p) else ready root p
