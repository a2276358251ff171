-- The pieces of mappings by root region and last page, the list that tells where those of a region lie, and what they
-- show.
use Rattle.std.specs.Prelude.{◌≡◌, ℕ, zero, suc, ◌+◌, ◌-◌, ◌*◌, ◌<◌, ◌≤◌, cond, Option, None, Some}
use Rattle.vm_base.specs.declared.limits.TheConstants.{NAMES, PAGES_END}
use Rattle.vm_base.specs.declared.flags.Perm.{Perm}
use Rattle.vm_model.specs.declared.space.Entry.{Entry}
use Rattle.vm_model.specs.Contents.Zeroing.{is_within}
use Rattle.vm_model.specs.Space.Table.{entry_behind, mapping_from}
use Rattle.pair_map.specs.declared.stretch_row.Extent.{Extent}
use Rattle.mapping_set.specs.declared.piece.Piece.{Piece}

-- the number of the list of the pieces of a region under a root region
abbrev pub list_number : ℕ → ℕ → ℕ
list_number region root = region * NAMES + root

-- the piece from the page `page` on, and before it
abbrev pub piece_from : Piece → ℕ → Piece
piece_from piece page = record {
  first = page;
  count = piece.first + piece.count - page;
  entry = entry_behind piece.entry (page - piece.first);
}

abbrev pub piece_until : Piece → ℕ → Piece
piece_until piece page = record piece { count = page - piece.first }

-- the piece with other permissions
abbrev pub piece_with_perm : Piece → Perm → Piece
piece_with_perm piece perm = record piece { entry = record piece.entry { perm = perm } }

-- the first value, or the second if there is no first
abbrev pub or_else : {A : Type 0} → Option A → Option A → Option A
or_else None other = other
or_else (Some a) other = Some a

-- what f gives for the greatest number below n for which it gives a value
unfoldable pub last_some : {A : Type 0} → ℕ → (ℕ → Option A) → Option A
last_some zero f = None
last_some (suc n) f = or_else (f n) (last_some n f)

-- what a piece with its last page at `last` shows on page p
abbrev pub shown_by : ℕ → ℕ → Option Piece → Option Entry
shown_by p last None = None
shown_by p last (Some piece) = cond (is_within piece.first (last + 1) p) (mapping_from piece.first piece.entry p) None

-- what the pieces show, each by the number of its root region and its last page
unfoldable pub table_in : (ℕ → ℕ → Option Piece) → ℕ → ℕ → Option Entry
table_in pieces root p = last_some PAGES_END (λ last. shown_by p last (pieces root last))

-- What holds of a piece of a root region with its last page at `last`.
pub record IsSound (root last : ℕ) (piece : Piece) : Type 0 where
  pub root_below : root < NAMES
  pub region_below : piece.entry.region.0 < NAMES
  pub some : 1 ≤ piece.count
  pub last_is : piece.first + piece.count ≡ last + 1
  pub end : last < PAGES_END
  pub pages : piece.entry.page + piece.count ≤ PAGES_END

-- Each piece is sound, and no two of one root region have a page in common.
pub record ArePieces (pieces : ℕ → ℕ → Option Piece) : Type 0 where
  pub sound : (r b : ℕ) (x : Piece) → pieces r b ≡ Some x → IsSound r b x
  pub apart : (r b c : ℕ) (x y : Piece) → pieces r b ≡ Some x → pieces r c ≡ Some y → b < c → b < y.first

-- The lists have an extent for each piece, and for nothing else.
pub record AreListed {V : Type 0} (pieces : ℕ → ℕ → Option Piece) (lists : ℕ → ℕ → Option (Extent V)) : Type 0 where
  pub listed : (r b : ℕ) (x : Piece) → pieces r b ≡ Some x
      → (e : Extent V) × (lists (list_number x.entry.region.0 r) x.first ≡ Some e) × (e.count ≡ x.count)
  pub held : (r n p : ℕ) (e : Extent V) → r < NAMES → lists (list_number n r) p ≡ Some e
      → (b : ℕ) × (x : Piece) × (pieces r b ≡ Some x) × (x.first ≡ p) × (x.count ≡ e.count) × (x.entry.region.0 ≡ n)

-- The piece with its last page at `last` is the first one of the root region that ends at or behind `from`.
pub record IsHeld (pieces : ℕ → ℕ → Option Piece) (root from last : ℕ) (piece : Piece) : Type 0 where
  pub is : pieces root last ≡ Some piece
  pub sound : IsSound root last piece
  pub not_before : from ≤ last
  pub free : (p : ℕ) → from ≤ p → p < piece.first → table_in pieces root p ≡ None
  pub entries : (p : ℕ) → piece.first ≤ p → p < piece.first + piece.count → table_in pieces root p ≡ mapping_from piece.first piece.entry p
  pub before : (b : ℕ) (x : Piece) → pieces root b ≡ Some x → b < last → b < from
  pub behind : (b : ℕ) (x : Piece) → pieces root b ≡ Some x → last < b → last < x.first

-- No piece of the root region ends at or behind `from`.
pub record HasNoHeld (pieces : ℕ → ℕ → Option Piece) (root from : ℕ) : Type 0 where
  pub bare : (p : ℕ) → from ≤ p → table_in pieces root p ≡ None
  pub before : (b : ℕ) (x : Piece) → pieces root b ≡ Some x → b < from

-- The piece with its last page at `last` belongs to the region.
pub record IsOfRegion (pieces : ℕ → ℕ → Option Piece) (root region last : ℕ) : Type 0 where
  pub piece : Piece
  pub is : pieces root last ≡ Some piece
  pub region_is : piece.entry.region.0 ≡ region

-- No piece of those of a root region, by their last pages, has pages before q and from q on.
pub record IsBorder (pieces : ℕ → Option Piece) (q : ℕ) : Type 0 where
  pub ends : (b : ℕ) (x : Piece) → pieces b ≡ Some x → x.first < q → b < q
