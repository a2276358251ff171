-- The filter beside the rows: which pages of which lists may have one.
use Rattle.std.specs.Prelude.{◌≡◌, ℕ, ◌-◌, ◌^◌, ◌%◌, ◌<◌, ◌==◌, Bool, true, IsSome, bit_and, slice_index_or}
use Rattle.std.specs.Int.{bit_at}
use Rattle.balanced_tree.specs.Rows.{Rows}
use Rattle.balanced_tree.specs.Pairs.{pair_rank}
use Rattle.page_list.specs.declared.filter.Filter.{Filter}
use Rattle.page_list.specs.declared.row.Row.{Row}
use Rattle.page_list.specs.Lists.{slots_of}

-- the word of list l. If the filter does not have it, all of its bits are set
abbrev pub word_in : Filter → ℕ → ℕ
word_in f l = slice_index_or f.words.items (bit_and l f.mask) (2 ^ 64 - 1)

-- the bit of page p of list l is set
unfoldable pub has_bit : Filter → ℕ → ℕ → Bool
has_bit f l p = bit_at (word_in f l) (p % 64) == 1

-- no bit was cleared
pub record IsMore (old new : Filter) : Type 0 where
  pub kept : (l p : ℕ) → has_bit old l p ≡ true → has_bit new l p ≡ true

-- the bit of each page that has a row is set
pub record AreFiltered (f : Filter) (t : Rows Row) : Type 0 where
  pub set : (l p : ℕ) → IsSome (slots_of t l p) → has_bit f l p ≡ true

-- the bit of each page that has a row of a rank below this one is set
pub record AreFilteredBelow (f : Filter) (t : Rows Row) (rank : ℕ) : Type 0 where
  pub set : (l p : ℕ) → p < 2 ^ 64 → pair_rank l p < rank → IsSome (slots_of t l p) → has_bit f l p ≡ true
