-- The set of mappings as its callers see it: what each page of each address space shows, and room.
use Rattle.std.specs.Prelude.{◌≡◌, ℕ, ◌+◌, ◌-◌, ◌<◌, ◌≤◌, min, max, false, Option, None, Some, IsSome}
use Rattle.pair_map.specs.declared.pair_row.PairRow.{PairRow}
use Rattle.pair_map.specs.declared.stretch_row.Extent.{Extent}
use Rattle.pair_map.specs.declared.stretch_row.StretchRow.{StretchRow}
use Rattle.pair_map.specs.Maps.{values_of, extents_of, IsOpen}
use Rattle.balanced_tree.specs.Pairs.{with_pair}
use Rattle.balanced_tree.specs.Rows.{Rows}
use Rattle.vm_base.specs.Search.{count_below}
use Rattle.vm_base.specs.Entries.{passes}
use Rattle.vm_base.specs.declared.limits.TheConstants.{PAGES_END}
use Rattle.vm_base.specs.declared.names.RegionName.{RegionName}
use Rattle.vm_model.specs.declared.space.Entry.{Entry}
use Rattle.vm_model.specs.Space.Table.{mapping_from, with_pages, is_in, has_entry}
use Rattle.mapping_set.specs.declared.piece.Piece.{Piece}
use Rattle.mapping_set.specs.Pieces.{table_in}

-- the pieces, how many more pieces or places fit with no memory from the host, and what is taken in the regions
pub record Mappings : Type 0 where
  pub pieces : Rows (PairRow Piece)
  pub spare : ℕ
  pub taken : Rows (StretchRow (Option RegionName))

-- what each page of each address space shows, by the number of the root region
abbrev pub table_of : Mappings → ℕ → ℕ → Option Entry
table_of m = table_in (values_of m.pieces)

-- how many more pieces or places fit with no memory from the host
abbrev pub mapping_spare : Mappings → ℕ
mapping_spare m = m.spare

-- the pieces of each root region, by its number and the last page of each
abbrev pub pieces_of : Mappings → ℕ → ℕ → Option Piece
pieces_of m = values_of m.pieces

-- the place that an extent of what is taken is. Without a name it is a piece
abbrev pub place_by : ℕ → Option RegionName → Option (Extent RegionName)
place_by count None = None
place_by count (Some name) = Some (record { count = count; value = name })

abbrev pub place_at : Option (Extent (Option RegionName)) → Option (Extent RegionName)
place_at None = None
place_at (Some extent) = place_by extent.count extent.value

-- the places of what is taken in each list, by their first pages
unfoldable pub places_in : (ℕ → ℕ → Option (Extent (Option RegionName))) → ℕ → ℕ → Option (Extent RegionName)
places_in taken list first = place_at (taken list first)

-- the places that callers noted, each with the name of a region, by the number of the list of the region in which they
-- are taken and their first page
abbrev pub places_of : Mappings → ℕ → ℕ → Option (Extent RegionName)
places_of m = places_in (extents_of m.taken)

-- the places, with one of `count` pages from `first` on
abbrev pub with_place : (ℕ → ℕ → Option (Extent RegionName)) → ℕ → (first count : ℕ) → RegionName → ℕ → ℕ → Option (Extent RegionName)
with_place places list first count name = with_pair places list first (Some (record { count = count; value = name }))

-- the table, with the entries of a piece under `root`, or with none on its pages
abbrev pub with_piece : (ℕ → ℕ → Option Entry) → ℕ → Piece → ℕ → ℕ → Option Entry
with_piece table root piece = with_pages table root piece.first (piece.first + piece.count) (mapping_from piece.first piece.entry)

abbrev pub without_piece : (ℕ → ℕ → Option Entry) → ℕ → Piece → ℕ → ℕ → Option Entry
without_piece table root piece = with_pages table root piece.first (piece.first + piece.count) (λ p. None)

-- the table, without what is taken out, if anything is
abbrev pub without_taken : (ℕ → ℕ → Option Entry) → ℕ → Option Piece → ℕ → ℕ → Option Entry
without_taken table root None = table
without_taken table root (Some piece) = without_piece table root piece

-- each page from `first` to below `end` has an entry
abbrev pub IsFull : (ℕ → Option Entry) → ℕ → ℕ → Type 0
IsFull entries first end = (p : ℕ) → first ≤ p → p < end → IsSome (entries p)

-- no page from `first` to below `end` has an entry
abbrev pub IsBare : (ℕ → Option Entry) → ℕ → ℕ → Type 0
IsBare entries first end = (p : ℕ) → first ≤ p → p < end → entries p ≡ None

-- no page from `first` on has an entry
abbrev pub IsBareFrom : (ℕ → Option Entry) → ℕ → Type 0
IsBareFrom entries first = (p : ℕ) → first ≤ p → entries p ≡ None

-- The pages of the piece have the entries that it says, and lie below the end of the page numbers.
pub record IsPieceOf (shown : ℕ → Option Entry) (piece : Piece) : Type 0 where
  pub some : 1 ≤ piece.count
  pub end : piece.first + piece.count ≤ PAGES_END
  pub pages : piece.entry.page + piece.count ≤ PAGES_END
  pub entries : (p : ℕ) → piece.first ≤ p → p < piece.first + piece.count → shown p ≡ mapping_from piece.first piece.entry p

-- The piece begins at the first entry at or past the page `from`.
pub record IsNextPiece (shown : ℕ → Option Entry) (from : ℕ) (piece : Piece) : Type 0 where
  pub not_before : from ≤ piece.first
  pub bare : IsBare shown from piece.first
  pub is : IsPieceOf shown piece

-- The piece begins at the first entry on the pages from `first` to below `end`, and ends there.
pub record IsFirstPiece (shown : ℕ → Option Entry) (first end : ℕ) (piece : Piece) : Type 0 where
  pub next : IsNextPiece shown first piece
  pub not_past : piece.first + piece.count ≤ end

-- The piece has entries that belong to the region.
pub record IsPieceIn (shown : ℕ → Option Entry) (region : ℕ) (piece : Piece) : Type 0 where
  pub is : IsPieceOf shown piece
  pub region_is : piece.entry.region.0 ≡ region

-- the piece is one of those of a root region, each by its last page
abbrev pub IsOneOf : (ℕ → Option Piece) → Piece → Type 0
IsOneOf pieces piece = pieces (piece.first + piece.count - 1) ≡ Some piece

-- The piece is all that one of those of a root region has from the page `from` on.
pub record IsRestOf (pieces : ℕ → Option Piece) (from : ℕ) (piece : Piece) : Type 0 where
  pub whole : Piece
  pub is : IsOneOf pieces whole
  pub begins : piece.first ≡ max whole.first from
  pub ends : piece.first + piece.count ≡ whole.first + whole.count

-- The piece is all that one of those of a root region has on the pages from `from` to below `end`.
pub record IsPieceWithin (pieces : ℕ → Option Piece) (from end : ℕ) (piece : Piece) : Type 0 where
  pub rest : Piece
  pub is : IsRestOf pieces from rest
  pub begins : piece.first ≡ rest.first
  pub ends : piece.first + piece.count ≡ min (rest.first + rest.count) end

-- how many pages have an entry that belongs to the region
abbrev pub entries_in : (ℕ → ℕ → Option Entry) → (root region : ℕ) → ℕ
entries_in table root region = count_below PAGES_END (λ p. passes (is_in region) (table root p))

-- a range of pages is in no place of a list, and none of its pages has an entry that belongs to the region
pub record IsClear (places : ℕ → Option (Extent RegionName)) (table : ℕ → ℕ → Option Entry) (root region first count : ℕ) : Type 0 where
  pub apart : IsOpen places first count
  pub bare : has_entry table root region first (first + count) ≡ false
