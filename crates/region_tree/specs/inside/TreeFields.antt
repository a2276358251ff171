-- How the fields of the tree hang together, and what its searches find in them.
use Rattle.std.specs.Prelude.{◌≡◌, ℕ, ◌+◌, ◌<◌, ◌≤◌, ◌⊎◌, true, false, Option, Some}
use Rattle.vm_base.specs.declared.names.RegionName.{RegionName}
use Rattle.vm_model.specs.declared.space.Region.{Region}
use Rattle.vm_model.specs.Space.Regions.{end_of, lies_in, is_child, any_child, is_below, AreGoodRegions}
use Rattle.pair_map.specs.declared.stretch_row.Extent.{Extent}
use Rattle.pair_map.specs.Maps.{Covers}
use Rattle.region_tree.specs.Tree.{extent_for, IsChildAt}

-- The regions are good, and the extents are the live children of each region, under the page where each begins.
pub record IsTree (regions : ℕ → Option Region) (children : ℕ → ℕ → Option (Extent RegionName)) : Type 0 where
  pub good : AreGoodRegions regions
  pub listed : (p n : ℕ) (region : Region) → regions n ≡ Some region → is_child p region ≡ true → children p region.first ≡ Some (extent_for n region)
  pub child : (p page : ℕ) (e : Extent RegionName) → children p page ≡ Some e → IsChildAt regions p page e

-- an extent of a list, with this name, has no number but those from `first` to below `end`
pub record IsBetween (extents : ℕ → Option (Extent RegionName)) (first end name : ℕ) : Type 0 where
  pub start : ℕ
  pub extent : Extent RegionName
  pub is : extents start ≡ Some extent
  pub name_is : extent.value.0 ≡ name
  pub low : first ≤ start
  pub high : start + extent.count ≤ end

-- each extent of the list has a number outside these
abbrev pub HasNoExtentBetween : (ℕ → Option (Extent RegionName)) → (first end : ℕ) → Type 0
HasNoExtentBetween extents first end = (name : ℕ) → IsBetween extents first end name → ⊥

-- `name` is a live region below `above` that has this page
pub record IsOver (regions : ℕ → Option Region) (above page name : ℕ) : Type 0 where
  pub region : Region
  pub given : regions name ≡ Some region
  pub live : region.live ≡ true
  pub below : is_below regions above name ≡ true
  pub low : region.first ≤ page
  pub high : page < end_of region

-- neither `above` nor a region below it that has this page has a live child in the range
pub record HasNoneOver (regions : ℕ → Option Region) (above page first end : ℕ) : Type 0 where
  pub here : any_child regions above (lies_in first end) ≡ false
  pub deeper : (name : ℕ) → IsOver regions above page name → any_child regions name (lies_in first end) ≡ false

-- some region below `above`, dead or live, has this parent
pub record IsAbove (regions : ℕ → Option Region) (above : ℕ) (parent : Option RegionName) : Type 0 where
  pub name : ℕ
  pub region : Region
  pub given : regions name ≡ Some region
  pub below : is_below regions above name ≡ true
  pub parent_is : region.parent ≡ parent

-- an extent has this page, and a number before `first`, or one from `end` on
pub record ReachesOut (extents : ℕ → Option (Extent RegionName)) (page first end : ℕ) : Type 0 where
  pub start : ℕ
  pub extent : Extent RegionName
  pub covers : Covers extents page start extent
  pub out : (start < first) ⊎ (end < start + extent.count)
