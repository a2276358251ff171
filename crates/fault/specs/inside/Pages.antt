-- Numbers of links by lists and pages, in blocks of eight pages.
use Rattle.std.specs.Prelude.{◌≡◌, ℕ, ◌-◌, ◌^◌, ◌<◌, ◌/◌, ◌%◌, min, length, Option, None, Some, IsSome, slice_index_or, slice_set}
use Rattle.slab.specs.Slab.{Slab, get, slab_len}
use Rattle.balanced_tree.specs.Rows.{Rows}
use Rattle.pair_map.specs.declared.pair_row.PairRow.{PairRow}
use Rattle.pair_map.specs.Maps.{values_of, spare_of}
use Rattle.fault.specs.declared.page_map.Block.{Block}

-- the number of each block, and the blocks
pub record Pages : Type 0 where
  pub rows : Rows (PairRow ℕ)
  pub blocks : Slab Block

-- the number that a place of a block has
abbrev pub block_entry : Block → ℕ → Option ℕ
block_entry k i = slice_index_or k.entries i None

-- the number that a place of a block has, if there is the block
abbrev pub entry_in : Option Block → ℕ → Option ℕ
entry_in None i = None
entry_in (Some k) i = block_entry k i

abbrev pub block_entry_at : (ℕ → Option Block) → Option ℕ → ℕ → Option ℕ
block_entry_at blocks None i = None
block_entry_at blocks (Some x) i = entry_in (blocks x) i

-- the number of each page of each list
abbrev pub links_in : (ℕ → ℕ → Option ℕ) → (ℕ → Option Block) → ℕ → ℕ → Option ℕ
links_in rows blocks a p = block_entry_at blocks (rows a (p / 8)) (p % 8)

unfoldable pub link_numbers : Pages → ℕ → ℕ → Option ℕ
link_numbers m = links_in (values_of m.rows) (get m.blocks)

-- how many more fit with no memory from the host: one takes a row and a block
abbrev pub room_left : Pages → ℕ
room_left m = min (spare_of m.rows) (m.blocks.capacity - slab_len m.blocks)

-- a block with another number at a place
abbrev pub with_entry : Block → ℕ → Option ℕ → Block
with_entry k i v = record { entries = slice_set k.entries i v }

-- The block of each row is there, and that of no other row. It has eight places, of which one has a number.
pub record AreBlocks (rows : ℕ → ℕ → Option ℕ) (blocks : ℕ → Option Block) : Type 0 where
  pub there : (a n x : ℕ) → rows a n ≡ Some x → IsSome (blocks x)
  pub once : (a n b m x : ℕ) → rows a n ≡ Some x → rows b m ≡ Some x → (a ≡ b) × (n ≡ m)
  pub used : (a n x : ℕ) (k : Block) → rows a n ≡ Some x → blocks x ≡ Some k → (i : ℕ) × IsSome (block_entry k i)
  pub below : (a n x : ℕ) → rows a n ≡ Some x → n < 2 ^ 61
  pub size : (x : ℕ) (k : Block) → blocks x ≡ Some k → length k.entries ≡ 8

abbrev pub ArePages : Pages → Type 0
ArePages m = AreBlocks (values_of m.rows) (get m.blocks)
