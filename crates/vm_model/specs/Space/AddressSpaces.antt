-- The address spaces of the machine: their regions, and what each of their pages shows.
use Rattle.std.specs.Prelude.{◌≡◌, ℕ, Bool, true, ◌==◌, Option, None, Some, IsSome}
use Rattle.vm_base.specs.Search.{any_below, count_below, sum_below}
use Rattle.vm_base.specs.Entries.{passes, with_key}
use Rattle.vm_base.specs.declared.limits.TheConstants.{NAMES, ROOT_END}
use Rattle.vm_model.specs.declared.space.Entry.{Entry}
use Rattle.vm_model.specs.declared.space.Region.{Region}
use Rattle.vm_model.specs.Contents.Content.{Content}
use Rattle.vm_model.specs.Space.Rights.{has, all_rights}
use Rattle.vm_model.specs.Space.Regions.{killed, is_at_or_below, AreGoodRegions}
use Rattle.vm_model.specs.Space.Table.{without_regions, IsGoodEntry}

-- the regions by their names, and the entry of each page of each root region
pub record Spaces : Type 0 where
  pub regions : ℕ → Option Region
  pub table : ℕ → ℕ → Option Entry

-- no region was ever given
unfoldable pub no_spaces : Spaces
no_spaces = record { regions = λ n. None; table = λ root p. None }

-- the entry shows a page of the VMO v
abbrev pub shows : ℕ → Entry → Bool
shows v entry = entry.koid.0 == v

-- some page of some address space shows a page of the VMO v
unfoldable pub is_mapped : Spaces → ℕ → Bool
is_mapped spaces v = any_below NAMES (λ root. any_below ROOT_END (λ p. passes (shows v) (spaces.table root p)))

-- how many pages of all address spaces show a page of the VMO v
unfoldable pub mapped_count : Spaces → ℕ → ℕ
mapped_count spaces v = sum_below NAMES (λ root. count_below ROOT_END (λ p. passes (shows v) (spaces.table root p)))

-- the spaces with one region more
abbrev pub with_region : Spaces → ℕ → Region → Spaces
with_region spaces name region = record spaces { regions = with_key spaces.regions name region }

-- the region and all that lie below it are dead, and their entries are gone
abbrev pub without_region : Spaces → ℕ → Spaces
without_region spaces name = record {
  regions = killed spaces.regions (is_at_or_below spaces.regions name);
  table = without_regions spaces.table (is_at_or_below spaces.regions name);
}

-- What holds of the address spaces of every state that the machine comes to, if its store contains c: regions and
-- entries are good, no region allows a permission without a name, and each entry shows a VMO.
pub record AreGoodSpaces (c : Content) (spaces : Spaces) : Type 0 where
  pub regions : AreGoodRegions spaces.regions
  pub caps : (n : ℕ) (region : Region) → spaces.regions n ≡ Some region → has all_rights region.caps.0 ≡ true
  pub entries : (root p : ℕ) (entry : Entry) → spaces.table root p ≡ Some entry → IsGoodEntry spaces.regions root p entry
  pub vmos : (root p : ℕ) (entry : Entry) → spaces.table root p ≡ Some entry → IsSome (c.count entry.koid.0)
