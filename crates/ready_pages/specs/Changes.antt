-- What a change of pages means for what is ready.
use Rattle.std.specs.Prelude.{◌≡◌, ℕ, ◌<◌, ◌≤◌, Bool, true, false, ◌&&◌, ◌==◌, Option, Some, IsSome}
use Rattle.vm_base.specs.declared.limits.TheConstants.{PAGES_END, VMO_PAGES}
use Rattle.vm_model.specs.declared.space.Entry.{Entry}
use Rattle.vm_model.specs.declared.space.Readiness.{Readiness}
use Rattle.vm_model.specs.declared.space.Readiness.TheVariants.{Write}
use Rattle.vm_model.specs.Contents.Content.{Content, sole, pages_of}
use Rattle.vm_model.specs.Contents.Zeroing.{is_within}
use Rattle.vm_model.specs.Naming.Pins.{Pin, is_pinned}
use Rattle.vm_model.specs.Space.Readiness.{Ready, frame_at, shows_in, unready, read_only_but}
use Rattle.ready_pages.specs.declared.change.Change.{Change}

-- the entry of each page of each address space
abbrev pub Entries : Type 0
Entries = ℕ → ℕ → Option Entry

-- The entry stands in the table, what it shows has in d the frame that it had in c, and lies in its VMO there.
pub record EntryStays (c d : Content) (table : Entries) (root p : ℕ) (entry : Entry) : Type 0 where
  pub is : table root p ≡ Some entry
  pub frame : frame_at d entry.koid.0 entry.page ≡ frame_at c entry.koid.0 entry.page
  pub inside : entry.page < pages_of d entry.koid.0

-- only pages of the VMO v from `first` to below `end` may have another frame, or lie in their VMO no more
pub record ChangesRange (old new : Content) (v first end : ℕ) : Type 0 where
  pub frame : (w p : ℕ) → (w ≡ v → first ≤ p → p < end → ⊥) → frame_at new w p ≡ frame_at old w p
  pub below : (w p : ℕ) → (w ≡ v → first ≤ p → p < end → ⊥) → p < pages_of old w → p < pages_of new w

-- the change may be one of what this page shows, which has this entry
abbrev pub reaches : Change → (root p : ℕ) → Entry → Bool
reaches Change.None root p entry = false
reaches (Change.Frames v first end) root p entry = shows_in v.0 first end entry
reaches (Change.Past v first) root p entry = shows_in v.0 first VMO_PAGES entry
reaches (Change.Shared v first end) root p entry = false
reaches (Change.Mapped r first end) root p entry = (root == r.0) && is_within first end p

-- only a change of mappings changes the table, and only pages of a change of frames change theirs
abbrev pub KeepsTable : Change → (c d : Content) → (before after : Entries) → Type 0
KeepsTable (Change.Mapped root first end) c d before after = Unit {0}
KeepsTable (Change.Frames v first end) c d before after = (after ≡ before) × ChangesRange c d v.0 first end
KeepsTable (Change.Past v first) c d before after = (after ≡ before) × ChangesRange c d v.0 first VMO_PAGES
KeepsTable _ c d before after = after ≡ before

-- From c to d, and from the one table to the other, all that a page shows stays but what the change is of.
pub record Covers (change : Change) (c d : Content) (before after : Entries) : Type 0 where
  pub stays : (root p : ℕ) (entry : Entry) → before root p ≡ Some entry → entry.page < pages_of c entry.koid.0
      → reaches change root p entry ≡ false → EntryStays c d after root p entry
  pub table : KeepsTable change c d before after

-- the change is of pages that there are
abbrev pub IsBounded : Content → Change → Type 0
IsBounded d Change.None = Unit {0}
IsBounded d (Change.Frames v first end) = IsSome (d.count v.0) × (first ≤ end) × (end ≤ pages_of d v.0)
IsBounded d (Change.Past v first) = IsSome (d.count v.0) × (first ≤ VMO_PAGES) × (pages_of d v.0 ≤ first)
IsBounded d (Change.Shared v first end) = (first ≤ end) × (end ≤ PAGES_END)
IsBounded d (Change.Mapped root first end) = (first ≤ end) × (end ≤ PAGES_END)

-- what the change leaves of what is ready, beside the pages whose frames changed
abbrev pub left_ready : Change → (ℕ → Option Pin) → Entries → Ready → Ready
left_ready (Change.Shared v first end) pins before ready = read_only_but (is_pinned pins v.0) before v.0 first end ready
left_ready (Change.Mapped root first end) pins before ready = unready ready root.0 first end
left_ready _ pins before ready = ready

-- What holds of a page that is ready.
pub record IsReadyAt (d : Content) (table : Entries) (root p : ℕ) (readiness : Readiness) : Type 0 where
  pub entry : Entry
  pub is : table root p ≡ Some entry
  pub below : entry.page < pages_of d entry.koid.0
  pub alone : readiness ≡ Write → sole d entry.koid.0 entry.page ≡ true

-- what holds of all pages that are ready
abbrev pub AreReadyAt : Content → Entries → Ready → Type 0
AreReadyAt d table ready = (root p : ℕ) (readiness : Readiness) → ready root p ≡ Some readiness → IsReadyAt d table root p readiness
