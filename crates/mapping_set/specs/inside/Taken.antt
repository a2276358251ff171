-- What is taken in the regions, as extents of lists: pieces, which have no name, and places.
use Rattle.std.specs.Prelude.{◌≡◌, ℕ, ◌+◌, ◌<◌, ◌≤◌, Option, None, Some}
use Rattle.vm_base.specs.declared.names.RegionName.{RegionName}
use Rattle.pair_map.specs.declared.stretch_row.Extent.{Extent}

-- the piece that an extent is, if it is one
abbrev pub piece_by : ℕ → Option RegionName → Option (Extent Unit)
piece_by count None = Some (record { count = count; value = tt })
piece_by count (Some name) = None

abbrev pub piece_at : Option (Extent (Option RegionName)) → Option (Extent Unit)
piece_at None = None
piece_at (Some extent) = piece_by extent.count extent.value

-- the pieces of what is taken in each list, by their first pages
unfoldable pub pieces_in : (ℕ → ℕ → Option (Extent (Option RegionName))) → ℕ → ℕ → Option (Extent Unit)
pieces_in taken list first = piece_at (taken list first)

-- the extent of a list that begins at `start` has one of `count` pages from `first` on
pub record IsMeeting (extents : ℕ → Option (Extent (Option RegionName))) (first count start : ℕ) : Type 0 where
  pub extent : Extent (Option RegionName)
  pub is : extents start ≡ Some extent
  pub page : ℕ
  pub low : first ≤ page
  pub high : page < first + count
  pub from : start ≤ page
  pub below : page < start + extent.count
