-- The pages of a snapshot that are copies of pinned pages.
use Rattle.std.specs.Prelude.{◌≡◌, ℕ, ◌+◌, ◌-◌, ◌*◌, ◌/◌, ◌%◌, ◌≤◌, ◌==◌, ◌&&◌, ◌||◌, ◌⊎◌, not, Bool, false, List, length}
use Rattle.std.specs.List.{filter, range_with_len}
use Rattle.vm_base.specs.Pages.{rounded}
use Rattle.vm_base.specs.declared.limits.TheConstants.{PAGE, VMO_PAGES}
use Rattle.vm_model.specs.declared.names.Target.{Target}
use Rattle.vm_model.specs.Contents.Content.{Content, pages_of, used}
use Rattle.vm_model.specs.Machine.State.{seen_pages}
use Rattle.vmo_ops.specs.declared.snapshots.SeenPart.{SeenPart}

-- A page of a snapshot is the copy of a pinned page. The snapshot sees pages of a VMO from the VMO's page `first` on. A page
-- of the VMO is pinned if it passes the test.
unfoldable pub is_copy : (pinned : ℕ → Bool) → (first : ℕ) → ℕ → Bool
is_copy pinned first = λ q. pinned (first + q)

-- The pages of a snapshot, from `from` on, that are copies of pinned pages, in ascending order. The snapshot sees `seen`
-- pages.
unfoldable pub copies_of : (pinned : ℕ → Bool) → (first seen from : ℕ) → List ℕ
copies_of pinned first seen from = filter (is_copy pinned first) (range_with_len from (seen - from))

-- This is what a snapshot of so many bytes of a name sees, and nothing refuses it. A page of the VMO is pinned if it passes
-- the test.
pub record IsSeenPart (c : Content) (pinned : ℕ → Bool) (t : Target) (offset size : ℕ) (resizable no_write : Bool) (part : SeenPart) : Type 0 where
  pub asked : (not (offset % PAGE == 0) || (resizable && no_write)) ≡ false
  pub few : offset + rounded size ≤ VMO_PAGES * PAGE
  pub whole : part.pages ≡ rounded size / PAGE
  pub most : part.pages ≤ VMO_PAGES
  pub sees : part.seen ≡ seen_pages c t (offset / PAGE) (rounded size / PAGE)
  pub at : (part.first ≡ t.first + offset / PAGE) ⊎ (part.seen ≡ 0)
  pub inside : part.first + part.seen ≤ pages_of c t.koid.0
  pub within : part.seen ≤ part.pages
  pub copies : part.copied ≡ length (copies_of pinned part.first part.seen 0)
  pub free : used c + part.copied ≤ c.frames
