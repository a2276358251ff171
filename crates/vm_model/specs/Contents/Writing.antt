-- Reading and writing a range of a VMO, in bytes from its first byte.
use Rattle.std.specs.Prelude.{◌≡◌, ℕ, ◌+◌, ◌-◌, ◌*◌, ◌/◌, ◌%◌, ◌==◌, List, [], ◌∷◌, length, map, slice_index, slice_range, if◌then◌else◌}
use Rattle.std.specs.List.{range_with_len}
use Rattle.vm_base.specs.declared.limits.TheConstants.{PAGE}
use Rattle.vm_model.specs.Contents.Content.{Content, shown, hold}
use Rattle.vm_model.specs.Contents.Owning.{Owns}
use Rattle.vm_base.specs.Pages.{replaced}

-- the page behind the last that the range touches
unfoldable pub touched_end : ℕ → ℕ → ℕ
touched_end offset len = (offset + len + (PAGE - 1)) / PAGE

-- the pages that hold a byte of the range. If the range has no byte, there are none
unfoldable pub touched : ℕ → ℕ → List ℕ
touched offset len = if len == 0 then [] else range_with_len (offset / PAGE) (touched_end offset len - offset / PAGE)

-- the byte of v at this place
abbrev pub byte_at : Content → ℕ → ℕ → ℕ
byte_at c v at = slice_index (shown c v (at / PAGE)) (at % PAGE)

-- the bytes of the range
unfoldable pub bytes_in : Content → ℕ → ℕ → ℕ → List ℕ
bytes_in c v offset len = map (byte_at c v) (range_with_len offset len)

-- what a write puts into one page of a VMO: bytes, from a place in the page on
pub record Piece : Type 0 where
  pub koid : ℕ
  pub page : ℕ
  pub at : ℕ
  pub bytes : List ℕ

-- where the part of a write begins that falls into page p, in bytes into the page. The write begins at this offset.
-- Differences stop at 0
unfoldable pub part_at : ℕ → ℕ → ℕ
part_at offset p = offset - PAGE * p

-- the bytes of this part
unfoldable pub part_bytes : ℕ → List ℕ → ℕ → List ℕ
part_bytes offset bytes p = slice_range bytes (PAGE * p - offset) (PAGE * (p + 1) - offset)

-- the piece of a write to v, from this offset on, that falls into page p
abbrev pub piece : ℕ → ℕ → List ℕ → ℕ → Piece
piece v offset bytes p = record { koid = v; page = p; at = part_at offset p; bytes = part_bytes offset bytes p }

-- the pieces of a write to v, in ascending order
unfoldable pub pieces : ℕ → ℕ → List ℕ → List Piece
pieces v offset bytes = map (piece v offset bytes) (touched offset (length bytes))

-- From old, writing a piece may lead to new: the page is owned, and then its bytes are replaced.
pub record WritesPiece (old : Content) (part : Piece) (new : Content) : Type 0 where
  pub tag : ℕ
  pub owned : Content
  pub owns : Owns old owned part.koid part.page tag
  pub bytes : new ≡ hold owned part.koid part.page (record { tag = tag; bytes = replaced (shown owned part.koid part.page) part.at part.bytes })

-- the pieces, of any VMOs, are written one after another
abbrev pub Writes : Content → List Piece → Content → Type 0
Writes old [] new = new ≡ old
Writes old (part ∷ parts) new = (mid : Content) × WritesPiece old part mid × Writes mid parts new
