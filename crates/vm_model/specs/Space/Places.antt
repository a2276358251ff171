-- Where a region or a mapping may be placed in a region. From the kernel's zx_vmar_allocate and zx_vmar_map: at an
-- offset (ZX_VM_SPECIFIC), below a limit (ZX_VM_OFFSET_IS_UPPER_LIMIT), or wherever there is room.
use Rattle.std.specs.Prelude.{◌≡◌, ℕ, ◌+◌, ◌*◌, ◌/◌, ◌%◌, ◌≤◌, Bool, true, not, ◌&&◌, ◌||◌, ◌==◌, nat_lt, nat_le, if◌then◌else◌}
use Rattle.vm_base.specs.Pages.{rounded}
use Rattle.vm_base.specs.Search.{any_below}
use Rattle.vm_base.specs.declared.limits.TheConstants.{PAGE}
use Rattle.vm_model.specs.declared.space.Region.{Region}
use Rattle.vm_model.specs.Space.Regions.{end_of, region_of, reaches_over, meets_child}
use Rattle.vm_model.specs.Space.Table.{has_entry}
use Rattle.vm_model.specs.Space.AddressSpaces.{Spaces}

-- The pages from `first` to below `end` are a free place in the region of this name. There are such pages, and all of
-- them lie in the region. No live child of the region has one of them, and none of them has an entry that belongs to
-- the region.
unfoldable pub is_free : Spaces → ℕ → ℕ → ℕ → Bool
is_free spaces name first end =
    nat_lt first end && reaches_over first end (region_of spaces.regions name) && not (meets_child spaces.regions name first end)
    && not (has_entry spaces.table (region_of spaces.regions name).root.0 name first end)

-- some place of `count` pages is free and ends at most `limit` pages behind the start of the region
unfoldable pub has_place : Spaces → ℕ → ℕ → ℕ → Bool
has_place spaces name count limit =
    any_below (end_of (region_of spaces.regions name)) (λ first. nat_le (first + count) ((region_of spaces.regions name).first + limit) && is_free spaces name first (first + count))

-- The offset and the length, in bytes, are wrong for a place in the region. A place may be asked for at the offset
-- (`fixed`), or at or below it (`limited`), and not both. If it is asked for anywhere, the offset is 0.
abbrev pub is_misplaced : Region → (fixed limited : Bool) → (offset len : ℕ) → Bool
is_misplaced region fixed limited offset len =
    not (offset % PAGE == 0) || (len == 0 || ((fixed && limited) || ((not fixed && (not limited && not (offset == 0)))
    || (fixed && nat_lt (region.count * PAGE) (offset + rounded len)))))

-- how many pages behind the start of the region a place may end at most. If the offset, in bytes, is the limit, it ends
-- at the offset
abbrev pub limit_of : Region → (limited : Bool) → (offset : ℕ) → ℕ
limit_of region limited offset = if limited then offset / PAGE else region.count

-- The page `first` begins a free place of `count` pages in the region of this name, at a place that suits the request.
-- The offset is in bytes.
pub record IsPlace (spaces : Spaces) (name : ℕ) (fixed limited : Bool) (offset count first : ℕ) : Type 0 where
  pub free : is_free spaces name first (first + count) ≡ true
  pub at : fixed ≡ true → first ≡ (region_of spaces.regions name).first + offset / PAGE
  pub limit : first + count ≤ (region_of spaces.regions name).first + limit_of (region_of spaces.regions name) limited offset
