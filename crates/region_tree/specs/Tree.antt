-- The regions of address spaces, as the callers of the tree see them.
use Rattle.std.specs.Prelude.{◌≡◌, ℕ, ◌<◌, Bool, true, ◌==◌, Option, Some, ◌⊎◌}
use Rattle.balanced_tree.specs.Rows.{Rows}
use Rattle.pair_map.specs.declared.pair_row.PairRow.{PairRow}
use Rattle.pair_map.specs.Maps.{values_of, IsOpen}
use Rattle.pair_map.specs.declared.stretch_row.Extent.{Extent}
use Rattle.vm_base.specs.Entries.{passes}
use Rattle.vm_base.specs.declared.limits.TheConstants.{NAMES}
use Rattle.vm_base.specs.declared.names.RegionName.{RegionName}
use Rattle.vm_model.specs.declared.space.Entry.{Entry}
use Rattle.vm_model.specs.declared.space.Region.{Region}
use Rattle.vm_model.specs.Space.Regions.{lies_in, is_child, any_child, is_below, killed}
use Rattle.vm_model.specs.Space.AddressSpaces.{Spaces}
use Rattle.mapping_set.specs.Pieces.{list_number}

-- the regions under their names
abbrev pub RegionRows : Type 0
RegionRows = Rows (PairRow Region)

-- the region of each name that was given
abbrev pub regions_of : RegionRows → ℕ → Option Region
regions_of tree = values_of tree 0

-- the name was given to a region that is live
abbrev pub is_live_region : (ℕ → Option Region) → ℕ → Bool
is_live_region regions name = passes (λ (region : Region). region.live) (regions name)

-- the region has a live child
abbrev pub has_child : (ℕ → Option Region) → ℕ → Bool
has_child regions name = any_child regions name (λ (region : Region). true)

-- the regions, with this one dead
abbrev pub with_one_dead : (ℕ → Option Region) → ℕ → ℕ → Option Region
with_one_dead regions name = killed regions (λ n. n == name)

-- these regions, and these entries
abbrev pub spaces_of : (ℕ → Option Region) → (ℕ → ℕ → Option Entry) → Spaces
spaces_of regions table = record { regions = regions; table = table }

-- `name` is a live region below `above`, with all of its pages among those from `first` to below `end`
pub record IsWithin (regions : ℕ → Option Region) (above first end name : ℕ) : Type 0 where
  pub region : Region
  pub given : regions name ≡ Some region
  pub live : region.live ≡ true
  pub below : is_below regions above name ≡ true
  pub inside : lies_in first end region ≡ true

-- no live region below `above` has all of its pages among those from `first` to below `end`
abbrev pub HasNoneWithin : (ℕ → Option Region) → (above first end : ℕ) → Type 0
HasNoneWithin regions above first end = (name : ℕ) → IsWithin regions above first end name → ⊥

-- the search for a region below `above` that lies in the range begins at `above` itself, or at such a region
abbrev pub IsStart : (ℕ → Option Region) → (above first end start : ℕ) → Type 0
IsStart regions above first end start = (start ≡ above) ⊎ IsWithin regions above first end start

-- the extent stands for a live child of `parent` that begins at this page
pub record IsChildAt (regions : ℕ → Option Region) (parent page : ℕ) (e : Extent RegionName) : Type 0 where
  pub region : Region
  pub given : regions e.value.0 ≡ Some region
  pub child : is_child parent region ≡ true
  pub first : region.first ≡ page
  pub count : region.count ≡ e.count

-- the extent of a region
abbrev pub extent_for : ℕ → Region → Extent RegionName
extent_for n region = record { count = region.count; value = record { 0 = n } }

-- the live region n, which has a parent, is noted as a place in its parent
pub record IsNoted (places : ℕ → ℕ → Option (Extent RegionName)) (parent n : ℕ) (region : Region) : Type 0 where
  pub root : region.root.0 < NAMES
  pub is : places (list_number parent region.root.0) region.first ≡ Some (extent_for n region)

-- the place in the list of `parent` is a live child of `parent`, in this address space
pub record IsChildIn (regions : ℕ → Option Region) (parent root page : ℕ) (e : Extent RegionName) : Type 0 where
  pub at : IsChildAt regions parent page e
  pub root_is : at.region.root.0 ≡ root

-- The places that a set of mappings has noted are the live children of each region, and nothing else. So the set's list
-- of a region tells all that is taken in the region.
pub record AreNoted (regions : ℕ → Option Region) (places : ℕ → ℕ → Option (Extent RegionName)) : Type 0 where
  pub noted : (p n : ℕ) (region : Region) → regions n ≡ Some region → is_child p region ≡ true → IsNoted places p n region
  pub only : (p root page : ℕ) (e : Extent RegionName) → root < NAMES → places (list_number p root) page ≡ Some e → IsChildIn regions p root page e

-- no place that was noted in the region has one of `count` pages from `first` on
abbrev pub IsVacant : (ℕ → ℕ → Option (Extent RegionName)) → (root region first count : ℕ) → Type 0
IsVacant places root region first count = IsOpen (places (list_number region root)) first count
