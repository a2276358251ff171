-- Reading and writing through mappings. From the loads and stores of threads, and from the kernel's page faults. An
-- access goes through the entries of one address space, page by page in the order of its addresses.
use Rattle.std.specs.Prelude.{◌≡◌, ℕ, ◌+◌, ◌/◌, ◌%◌, not, nat_lt, List, [], ◌∷◌, length, map, slice_index, if◌then◌else◌, Option, None, Some, is_some, unwrap_or}
use Rattle.std.specs.Option.{option_or}
use Rattle.std.specs.List.{filter, range_with_len}
use Rattle.vm_base.specs.declared.limits.TheConstants.{PAGE}
use Rattle.vm_base.specs.declared.refusal.Refusal.{Refusal}
use Rattle.vm_base.specs.declared.refusal.Refusal.TheVariants.{NotFound, AccessDenied, OutOfRange}
use Rattle.vm_model.specs.declared.space.Entry.{Entry}
use Rattle.vm_model.specs.declared.space.Readiness.{Readiness}
use Rattle.vm_model.specs.declared.space.Readiness.TheVariants.{Read, Write}
use Rattle.vm_model.specs.Contents.Content.{Content, shown, pages_of}
use Rattle.vm_model.specs.Contents.Owning.{VmoPage}
use Rattle.vm_model.specs.Contents.Writing.{Piece, piece, WritesPiece}
use Rattle.vm_model.specs.Space.Rights.{has}
use Rattle.vm_model.specs.Space.Readiness.{Ready, is_writable, settled, with_ready}

-- ---- what is touched

-- the entry of a page. If the page has none, this means nothing
unfoldable pub entry_at : (ℕ → Option Entry) → ℕ → Entry
entry_at entries p =
    unwrap_or (entries p) (record { koid = record { 0 = 0 }; page = 0; perm = record { 0 = 0 }; cap = record { 0 = 0 }; region = record { 0 = 0 } })

-- the page of a VMO that an entry shows
abbrev pub page_shown : Entry → VmoPage
page_shown entry = record { koid = entry.koid.0; page = entry.page }

-- the pages of VMOs that these pages show
unfoldable pub pages_shown : (ℕ → Option Entry) → List ℕ → List VmoPage
pages_shown entries ps = map (λ p. page_shown (entry_at entries p)) ps

-- ---- when it is refused

-- the refusal of an access that needs this right, on a page with this entry, if it is refused
unfoldable pub refusal_at : Content → (right : ℕ) → Option Entry → Option Refusal
refusal_at c right None = Some NotFound
refusal_at c right (Some entry) =
    if not (has entry.perm.0 right) then Some AccessDenied
    else if nat_lt entry.page (pages_of c entry.koid.0) then None
    else Some OutOfRange

-- the refusal of an access on these pages: the first page on which it is refused decides
unfoldable pub access_refusal : Content → (right : ℕ) → (ℕ → Option Entry) → List ℕ → Option Refusal
access_refusal c right entries [] = None
access_refusal c right entries (p ∷ ps) = option_or (refusal_at c right (entries p)) (access_refusal c right entries ps)

-- ---- reading

-- the byte at an address
abbrev pub byte_through : Content → (ℕ → Option Entry) → ℕ → ℕ
byte_through c entries addr =
    let entry = entry_at entries (addr / PAGE) in
    slice_index (shown c entry.koid.0 entry.page) (addr % PAGE)

-- the bytes from an address on
unfoldable pub bytes_through : Content → (ℕ → Option Entry) → (addr len : ℕ) → List ℕ
bytes_through c entries addr len = map (byte_through c entries) (range_with_len addr len)

-- how many of these pages are ready for nothing. To read each of them takes one page fault
unfoldable pub read_faults : (ℕ → Option Readiness) → List ℕ → ℕ
read_faults ready ps = length (filter (λ p. not (is_some (ready p))) ps)

-- what is ready once these pages were read: each is ready for reading at least
unfoldable pub after_reading : (root : ℕ) → List ℕ → Ready → Ready
after_reading root [] ready = ready
after_reading root (p ∷ ps) ready =
    after_reading root ps (if is_some (ready root p) then ready else with_ready ready root p Read)

-- ---- writing

-- what a store contains, and which pages of address spaces are ready
pub record Memory : Type 0 where
  pub content : Content
  pub ready : Ready

-- the piece of a write from this address on that falls into page p, which has this entry
abbrev pub piece_through : Entry → (addr : ℕ) → List ℕ → ℕ → Piece
piece_through entry addr bytes p = record (piece entry.koid.0 addr bytes p) { page = entry.page }

-- a write takes one page fault if the page is not ready for writing
abbrev pub write_fault : Option Readiness → ℕ
write_fault readiness = if is_writable readiness then 0 else 1

-- From old, writing the part of a write that falls into page p may lead to new. The page of a VMO that p shows is
-- owned, and its bytes are replaced. Pages that showed it in another frame are ready no more. Page p is ready for
-- writing.
pub record WritesPage (table : ℕ → ℕ → Option Entry) (root addr : ℕ) (bytes : List ℕ) (p : ℕ) (old new : Memory) : Type 0 where
  pub entry : Entry
  pub is : table root p ≡ Some entry
  pub writes : WritesPiece old.content (piece_through entry addr bytes p) new.content
  pub ready : new.ready ≡ with_ready (settled old.content new.content table old.ready) root p Write

-- the parts of a write that fall into these pages are written, one page after another, with so many page faults
abbrev pub WritesThrough : (ℕ → ℕ → Option Entry) → (root addr : ℕ) → List ℕ → List ℕ → Memory → (faults : ℕ) → Memory → Type 0
WritesThrough table root addr bytes [] old faults new = (new ≡ old) × (faults ≡ 0)
WritesThrough table root addr bytes (p ∷ ps) old faults new =
    (mid : Memory) × (later : ℕ) × WritesPage table root addr bytes p old mid × WritesThrough table root addr bytes ps mid later new
    × (faults ≡ write_fault (old.ready root p) + later)
