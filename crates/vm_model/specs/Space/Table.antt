-- What each page of each address space shows. From the kernel's mappings, page by page. An address space goes by the
-- name of its root region.
use Rattle.std.specs.Prelude.{◌≡◌, ℕ, ◌+◌, ◌-◌, Bool, true, false, ◌&&◌, ◌==◌, if◌then◌else◌, Option, None, Some}
use Rattle.std.specs.Option.{option_map}
use Rattle.vm_base.specs.Search.{any_from}
use Rattle.vm_base.specs.Entries.{passes}
use Rattle.vm_base.specs.declared.flags.Perm.{Perm}
use Rattle.vm_model.specs.declared.space.Entry.{Entry}
use Rattle.vm_model.specs.declared.space.Region.{Region}
use Rattle.vm_model.specs.Contents.Zeroing.{is_within}
use Rattle.vm_model.specs.Space.Rights.{has}
use Rattle.vm_model.specs.Space.Regions.{reaches_over, meets_child}

-- The entry of the page that is `i` pages behind a page of a mapping. It shows the page of the VMO that is `i` pages
-- further on.
abbrev pub entry_behind : Entry → ℕ → Entry
entry_behind entry i = record entry { page = entry.page + i }

-- the entries of a mapping from the page `first` on
abbrev pub mapping_from : ℕ → Entry → ℕ → Option Entry
mapping_from first entry p = Some (entry_behind entry (p - first))

-- the entries, each with these permissions
abbrev pub with_perm : Perm → (ℕ → Option Entry) → ℕ → Option Entry
with_perm perm entries p = option_map (λ (entry : Entry). record entry { perm = perm }) (entries p)

-- the table, with these in place of the entries of `root` from the page `first` to below `end`
unfoldable pub with_pages : (ℕ → ℕ → Option Entry) → ℕ → ℕ → ℕ → (ℕ → Option Entry) → ℕ → ℕ → Option Entry
with_pages table root first end new r p = if (r == root) && is_within first end p then new p else table r p

-- the table, without the entries that belong to regions that die
unfoldable pub without_regions : (ℕ → ℕ → Option Entry) → (ℕ → Bool) → ℕ → ℕ → Option Entry
without_regions table dies r p = if passes (λ (entry : Entry). dies entry.region.0) (table r p) then None else table r p

-- the entry belongs to the region
abbrev pub is_in : ℕ → Entry → Bool
is_in region entry = entry.region.0 == region

-- some entry of `root` that belongs to the region is on a page from `first` to below `end`
unfoldable pub has_entry : (ℕ → ℕ → Option Entry) → ℕ → ℕ → ℕ → ℕ → Bool
has_entry table root region first end = any_from first end (λ p. passes (is_in region) (table root p))

-- What holds of every entry of the page p of an address space: its region is live, is of that address space, and has
-- the page, and no live child of the region has the page. What an access may do is within what it may be changed to.
pub record IsGoodEntry (regions : ℕ → Option Region) (root p : ℕ) (entry : Entry) : Type 0 where
  pub region : Region
  pub given : regions entry.region.0 ≡ Some region
  pub live : region.live ≡ true
  pub root_is : region.root.0 ≡ root
  pub inside : reaches_over p (p + 1) region ≡ true
  pub alone : meets_child regions entry.region.0 p (p + 1) ≡ false
  pub allowed : has entry.cap.0 entry.perm.0 ≡ true
