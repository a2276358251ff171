-- What is noted of the pages of address spaces that are ready, and what each call leaves of it.
use Rattle.std.specs.Prelude.{◌≡◌, ℕ, zero, suc, ◌+◌, ◌-◌, ◌^◌, ◌<◌, ◌≤◌, Bool, true, false, not, ◌&&◌, ◌==◌, nat_lt, if◌then◌else◌, Option, None, Some}
use Rattle.std.specs.Option.{option_map, option_and_then}
use Rattle.vm_base.specs.declared.names.Tag.{Tag}
use Rattle.vm_base.specs.Entries.{passes}
use Rattle.vm_model.specs.declared.space.Entry.{Entry}
use Rattle.vm_model.specs.declared.space.Readiness.TheVariants.{Read}
use Rattle.vm_model.specs.Contents.Content.{Content, pages_of}
use Rattle.vm_model.specs.Contents.Zeroing.{is_within}
use Rattle.vm_model.specs.Space.Readiness.{Ready, frame_at, is_same_frame, frame_number}
use Rattle.pair_map.specs.declared.pair_map.PairMap.{PairMap}
use Rattle.pair_map.specs.Maps.{values_of}
use Rattle.ready_pages.specs.Changes.{Entries, AreReadyAt}
use Rattle.checker_ready.specs.declared.ready_map.ReadyPage.{ReadyPage}
use Rattle.checker_ready.specs.declared.ready_map.ReadyMap.TheInside.{Inside}
use Rattle.checker_ready.specs.declared.stamps.Kept.{Kept}
use Rattle.checker_ready.specs.declared.stamps.Stamp.{Stamp}

-- the notes by root region and page, the stamps of the pages of VMOs by koid and page, the time of the next note, and how
-- many more notes there is room for
pub record Notes : Type 0 where
  pub places : PairMap Kept
  pub stamps : PairMap Stamp
  pub time : ℕ
  pub room : ℕ

-- what a note says under the stamp of its page. None if it does not count
abbrev pub ready_page : Kept → Option Stamp → Option ReadyPage
ready_page kept None = None
ready_page kept (Some stamp) =
    if nat_lt kept.made stamp.since then None
    else Some (record { koid = kept.koid; page = kept.page; frame = stamp.frame; readiness = if nat_lt kept.made stamp.shared then Read else kept.readiness })

-- what is noted of each page of each address space that is ready for an access
abbrev pub ReadyRows : Type 0
ReadyRows = ℕ → ℕ → Option ReadyPage

-- what the notes say under their stamps
abbrev pub rows_of : Notes → ReadyRows
rows_of m root p = option_and_then (λ kept. ready_page kept (values_of m.stamps kept.koid.0 kept.page)) (values_of m.places root p)

-- the stamp of a page that has this frame, with one note more than the one that it has
abbrev pub stamp_for : Option Stamp → Option Tag → (time : ℕ) → Stamp
stamp_for None frame time = record { frame = frame; since = time; shared = time; notes = 1 }
stamp_for (Some stamp) frame time =
    if is_same_frame (frame_number stamp.frame) (frame_number frame) then record stamp { notes = stamp.notes + 1 }
    else record { frame = frame; since = time; shared = time; notes = 1 }

-- the stamp without a note that was made at this time. None if no other note counts
abbrev pub lowered : (made : ℕ) → Option Stamp → Option Stamp
lowered made None = None
lowered made (Some stamp) =
    if nat_lt made stamp.since then Some stamp
    else (if nat_lt 1 stamp.notes then Some (record stamp { notes = stamp.notes - 1 }) else None)

-- what each page is ready for
abbrev pub ready_in : ReadyRows → Ready
ready_in rows root p = option_map (λ (x : ReadyPage). x.readiness) (rows root p)

-- page p of the VMO v lies in it, and has this frame
abbrev pub has_frame : Content → (v p : ℕ) → Option Tag → Bool
has_frame c v p frame = is_same_frame (frame_number frame) (frame_at c v p) && nat_lt p (pages_of c v)

-- ---- what the calls change

-- the row is of a page of the VMO v from `first` to below `end`
abbrev pub is_row_in : (v first end : ℕ) → ReadyPage → Bool
is_row_in v first end row = (row.koid.0 == v) && is_within first end row.page

-- the rows, with this change of each that is of such a page
unfoldable pub changed_rows : (ReadyPage → Option ReadyPage) → (v first end : ℕ) → ReadyRows → ReadyRows
changed_rows change v first end rows r q = option_and_then (λ row. if is_row_in v first end row then change row else Some row) (rows r q)

-- the row, if its page lies in its VMO, with the row's frame
abbrev pub row_if_current : Content → ReadyPage → Option ReadyPage
row_if_current c row = if has_frame c row.koid.0 row.page row.frame then Some row else None

-- the row, for reading alone unless its page passes
abbrev pub row_limited : (stays : ℕ → Bool) → ReadyPage → Option ReadyPage
row_limited stays row = Some (if stays row.page then row else record row { readiness = Read })

-- the rows, without those of an address space from page `first` to below `end`
unfoldable pub without_range : ReadyRows → (root first end : ℕ) → ReadyRows
without_range rows root first end r q = if (r == root) && is_within first end q then None else rows r q

-- no row is of a page of the VMO v from `from` to below `end`
pub record HasNoRow (rows : ReadyRows) (v from end : ℕ) : Type 0 where
  pub none : (r q : ℕ) (row : ReadyPage) → rows r q ≡ Some row → row.koid.0 ≡ v → from ≤ row.page → row.page < end → ⊥

-- page p of the VMO v is shown by a page that is ready for an access
abbrev pub IsReadySomewhere : ReadyRows → (v p : ℕ) → Type 0
IsReadySomewhere rows v p = (root : ℕ) × (at : ℕ) × (row : ReadyPage) × (rows root at ≡ Some row) × (row.koid.0 ≡ v) × (row.page ≡ p)

-- ---- what holds of them

-- the places whose notes are of page p of the VMO v, and were made at this time or later
abbrev pub counting : (ℕ → ℕ → Option Kept) → (v p since : ℕ) → ℕ → ℕ → Bool
counting places v p since r q = passes (λ kept. (kept.koid.0 == v) && (kept.page == p) && not (nat_lt kept.made since)) (places r q)

-- there are this many places: none, or one, and without it one less
abbrev pub HasCount : (ℕ → ℕ → Bool) → ℕ → Type 0
HasCount among zero = (r q : ℕ) → among r q ≡ false
HasCount among (suc n) = (r : ℕ) × (q : ℕ) × (among r q ≡ true) × HasCount (λ a b. among a b && not ((a == r) && (b == q))) n

-- The times of a stamp are none later than this one. It has the number of the notes that count under it, one at least.
pub record IsStamp (places : ℕ → ℕ → Option Kept) (time v p : ℕ) (stamp : Stamp) : Type 0 where
  pub since : stamp.since ≤ time
  pub shared : stamp.shared ≤ time
  pub counted : HasCount (counting places v p stamp.since) stamp.notes
  pub some : 1 ≤ stamp.notes
  pub few : stamp.notes ≤ time

-- What holds of all notes: those that were made have earlier times than the next.
pub record AreNotes (m : Notes) : Type 0 where
  pub made : (root p : ℕ) (kept : Kept) → values_of m.places root p ≡ Some kept → kept.made < m.time
  pub stamped : (v p : ℕ) (stamp : Stamp) → values_of m.stamps v p ≡ Some stamp → IsStamp (values_of m.places) m.time v p stamp
  pub places_room : m.room ≤ m.places.spare
  pub stamps_room : m.room ≤ m.stamps.spare
  pub times : m.time + m.room < 2 ^ 64

-- the notes that the fields are
abbrev pub notes_of : Inside → Notes
notes_of a = record { places = a.places; stamps = a.stamps; time = a.time; room = a.room }

-- The row is of the entry that its page has in the table. What that shows lies in its VMO, and has the row's frame.
pub record IsTrueNote (c : Content) (table : Entries) (root p : ℕ) (row : ReadyPage) : Type 0 where
  pub entry : Entry
  pub is : table root p ≡ Some entry
  pub koid : row.koid.0 ≡ entry.koid.0
  pub page : row.page ≡ entry.page
  pub frame : frame_number row.frame ≡ frame_at c entry.koid.0 entry.page
  pub below : entry.page < pages_of c entry.koid.0

-- each row is
abbrev pub NotesAreTrue : Content → Entries → ReadyRows → Type 0
NotesAreTrue c table rows = (root p : ℕ) (row : ReadyPage) → rows root p ≡ Some row → IsTrueNote c table root p row

-- by these notes the pages are ready for this, and they are true
pub record FitsRows (c : Content) (table : Entries) (ready : Ready) (rows : ReadyRows) : Type 0 where
  pub are_ready : ready_in rows ≡ ready
  pub notes : NotesAreTrue c table rows

-- The notes are true, and what they say is ready may be accessed so: a page that is ready for writing shows a page that is sole.
pub record AreGoodNotes (c : Content) (table : Entries) (rows : ReadyRows) : Type 0 where
  pub true_rows : NotesAreTrue c table rows
  pub ready : AreReadyAt c table (ready_in rows)
