-- Maps from pairs of numbers as their callers see them.
use Rattle.std.specs.Prelude.{◌≡◌, ℕ, ◌+◌, ◌^◌, ◌<◌, ◌≤◌, length, Option, Some}
use Rattle.balanced_tree.specs.Rows.{Rows}
use Rattle.balanced_tree.specs.Pairs.{value_at}
pub use Rattle.balanced_tree.specs.Pairs.{IsNext}
unfoldable pub use Rattle.balanced_tree.specs.Pairs.{with_pair}
use Rattle.pair_map.specs.declared.pair_map.PairMap.{PairMap}
use Rattle.pair_map.specs.declared.extent_map.ExtentMap.{ExtentMap}
use Rattle.pair_map.specs.declared.stretch_row.Extent.{Extent}
use Rattle.pair_map.specs.PairRows.{pair_functions, value_of}
use Rattle.pair_map.specs.StretchRows.{stretch_functions, extent_of}

-- how many rows there are
abbrev pub count_of : {R : Type 0} → Rows R → ℕ
count_of m = length m.rows

-- how many more rows fit with no memory from the host
abbrev pub spare_of : {R : Type 0} → Rows R → ℕ
spare_of m = m.spare

module _ {V : Type 0} where
  -- the value of each pair
  abbrev pub values_of : PairMap V → ℕ → ℕ → Option V
  values_of m = value_at pair_functions value_of m.rows

  -- the extent of each list and first number
  abbrev pub extents_of : ExtentMap V → ℕ → ℕ → Option (Extent V)
  extents_of m = value_at stretch_functions extent_of m.rows

  -- number q lies in the extent from p on
  pub record Covers (extents : ℕ → Option (Extent V)) (q p : ℕ) (e : Extent V) : Type 0 where
    pub is : extents p ≡ Some e
    pub from : p ≤ q
    pub below : q < p + e.count

  -- no extent has one of the numbers from `first` to below `first + count`
  pub record IsOpen (extents : ℕ → Option (Extent V)) (first count : ℕ) : Type 0 where
    pub free : (q p : ℕ) (e : Extent V) → first ≤ q → q < first + count → Covers extents q p e → ⊥

  -- Each extent has a number and ends at or below number 2^63, and no two of one list have a number in common.
  pub record StandApart (extents : ℕ → ℕ → Option (Extent V)) : Type 0 where
    pub some : (l p : ℕ) (e : Extent V) → extents l p ≡ Some e → 1 ≤ e.count
    pub end : (l p : ℕ) (e : Extent V) → extents l p ≡ Some e → p + e.count ≤ 2 ^ 63
    pub apart : (l p q : ℕ) (d e : Extent V) → extents l p ≡ Some d → extents l q ≡ Some e → p < q → p + d.count ≤ q

  -- the extent that begins at `first` has this many numbers or more
  pub record IsHead (extents : ℕ → Option (Extent V)) (first count : ℕ) : Type 0 where
    pub extent : Extent V
    pub is : extents first ≡ Some extent
    pub most : count ≤ extent.count

  -- an extent begins at `first` and ends just before `end`
  pub record IsExtent (extents : ℕ → Option (Extent V)) (first end : ℕ) : Type 0 where
    pub extent : Extent V
    pub is : extents first ≡ Some extent
    pub ends : first + extent.count ≡ end
