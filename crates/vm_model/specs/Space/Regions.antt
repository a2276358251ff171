-- The regions of address spaces (VMARs), a tree under each root. From the kernel's allocating and destroying of
-- regions.
use Rattle.std.specs.Prelude.{◌≡◌, ℕ, zero, suc, ◌+◌, ◌-◌, ◌<◌, ◌≤◌, min, max, Bool, true, false, not, ◌&&◌, ◌||◌, ◌==◌, nat_lt, nat_le, if◌then◌else◌, Option, None, Some, unwrap_or, ◌⊎◌}
use Rattle.std.specs.Option.{option_map}
use Rattle.vm_base.specs.Entries.{passes, any_entry, entry_count}
use Rattle.vm_base.specs.declared.limits.TheConstants.{NAMES, ROOT_FIRST, ROOT_END}
use Rattle.vm_base.specs.declared.names.RegionName.{RegionName}
use Rattle.vm_model.specs.declared.space.Region.{Region}
use Rattle.vm_model.specs.Space.Rights.{all_rights}

-- the page behind the last one of a region
abbrev pub end_of : Region → ℕ
end_of region = region.first + region.count

-- a root region under this name, with all of an address space
abbrev pub root_region : ℕ → Region
root_region name = record {
  root = record { 0 = name };
  parent = None;
  first = ROOT_FIRST;
  count = ROOT_END - ROOT_FIRST;
  caps = record { 0 = all_rights };
  live = true;
}

-- the region of a name. If the name was never given, this means nothing
unfoldable pub region_of : (ℕ → Option Region) → ℕ → Region
region_of regions name = unwrap_or (regions name) (root_region 0)

-- a region below `parent`, which is `above`
abbrev pub region_below : ℕ → Region → ℕ → ℕ → ℕ → Region
region_below parent above first count caps = record {
  root = above.root;
  parent = Some (record { 0 = parent });
  first = first;
  count = count;
  caps = record { 0 = caps };
  live = true;
}

-- the region has one of the pages from `first` to below `end`
abbrev pub meets : ℕ → ℕ → Region → Bool
meets first end region = nat_lt (max first region.first) (min end (end_of region))

-- all pages of the region are among those from `first` to below `end`
abbrev pub lies_in : ℕ → ℕ → Region → Bool
lies_in first end region = nat_le first region.first && nat_le (end_of region) end

-- the pages from `first` to below `end` are pages of the region
abbrev pub reaches_over : ℕ → ℕ → Region → Bool
reaches_over first end region = nat_le region.first first && nat_le end (end_of region)

-- the number of the parent's name
abbrev pub parent_of : Region → Option ℕ
parent_of region = option_map (λ (name : RegionName). name.0) region.parent

-- the region is live, and `name` is its parent
abbrev pub is_child : ℕ → Region → Bool
is_child name region = region.live && passes (λ (parent : ℕ). parent == name) (parent_of region)

-- some live child of `name` passes
abbrev pub any_child : (ℕ → Option Region) → ℕ → (Region → Bool) → Bool
any_child regions name test = any_entry NAMES (λ (region : Region). is_child name region && test region) regions

-- some live child of `name` has a page of the range
abbrev pub meets_child : (ℕ → Option Region) → ℕ → ℕ → ℕ → Bool
meets_child regions name first end = any_child regions name (meets first end)

-- some live child of `name` has a page of the range and a page outside it
abbrev pub cuts_child : (ℕ → Option Region) → ℕ → ℕ → ℕ → Bool
cuts_child regions name first end =
    any_child regions name (λ (region : Region). meets first end region && not (lies_in first end region))

-- the parent of a region, if there is one and it has a parent
abbrev pub parent_in : Option Region → Option ℕ
parent_in None = None
parent_in (Some region) = parent_of region

-- `above` is the parent, or the parent's parent, and so on, among the first `steps` of them
unfoldable pub is_above : ℕ → (ℕ → Option Region) → ℕ → Option ℕ → Bool
is_above zero regions above parent = false
is_above (suc steps) regions above None = false
is_above (suc steps) regions above (Some p) = (p == above) || is_above steps regions above (parent_in (regions p))

-- The region `name` lies below the region `above`. No chain of parents is longer than there are names.
abbrev pub is_below : (ℕ → Option Region) → ℕ → ℕ → Bool
is_below regions above name = is_above NAMES regions above (parent_in (regions name))

-- the regions, with those that pass dead
unfoldable pub killed : (ℕ → Option Region) → (ℕ → Bool) → ℕ → Option Region
killed regions dies n = option_map (λ (region : Region). if dies n then record region { live = false } else region) (regions n)

-- the region itself or one below it
abbrev pub is_at_or_below : (ℕ → Option Region) → ℕ → ℕ → Bool
is_at_or_below regions name n = (n == name) || is_below regions name n

-- how many names were given to regions
abbrev pub given_count : (ℕ → Option Region) → ℕ
given_count regions = entry_count NAMES (λ (region : Region). true) regions

-- What holds of a region that has a parent: both are of the same address space. As long as the region is live, the
-- parent is live too, and the region lies in it.
pub record IsBelow (region above : Region) : Type 0 where
  pub root : region.root ≡ above.root
  pub live : region.live ≡ true → above.live ≡ true
  pub inside : region.live ≡ true → reaches_over region.first (end_of region) above ≡ true

-- What holds of the regions of every state that the machine comes to. A region is younger than its parent, so each
-- chain of parents ends.
pub record AreGoodRegions (regions : ℕ → Option Region) : Type 0 where
  pub age : ℕ → ℕ
  pub names : (n : ℕ) (region : Region) → regions n ≡ Some region → n < NAMES
  pub ages : (n : ℕ) (region : Region) → regions n ≡ Some region → age n < given_count regions
  pub pages : (n : ℕ) (region : Region) → regions n ≡ Some region → 1 ≤ region.count
  pub roots : (n : ℕ) (region : Region) → regions n ≡ Some region → region.parent ≡ None → region ≡ record (root_region n) { live = region.live }
  pub parents : (n : ℕ) (region : Region) (p : RegionName) → regions n ≡ Some region → region.parent ≡ Some p
      → (above : Region) × (regions p.0 ≡ Some above) × (age p.0 < age n) × IsBelow region above
  -- live regions with one parent have no page in common
  pub apart : (p n m : ℕ) (x y : Region) → regions n ≡ Some x → regions m ≡ Some y → is_child p x ≡ true → is_child p y ≡ true
      → (n ≡ m) ⊎ (end_of x ≤ y.first) ⊎ (end_of y ≤ x.first)
