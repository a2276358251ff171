-- What the tree knows of a row that stands for an extent of a list.
use Rattle.std.specs.Prelude.{◌≡◌, ℕ, ◌+◌, ◌-◌, ◌^◌, ◌≤◌, min, List, Option, None, Some, refl}
use Rattle.balanced_tree.specs.Pairs.{pair_rank, ArePairs}
use Rattle.balanced_tree.specs.Rows.{row_at}
use Rattle.balanced_tree.specs.Gaps.{AreApart}
use Rattle.balanced_tree.specs.Extents.{Extents, span_over, span_in}
use Rattle.balanced_tree.specs.Row.{Functions, link_of, height_over}
use Rattle.pair_map.specs.Pairs.{pair_under}
use Rattle.pair_map.specs.declared.stretch_row.Extent.{Extent}
use Rattle.pair_map.specs.declared.stretch_row.StretchRow.{StretchRow}

-- the rank just behind an extent that ends below number 2^64 of its list
abbrev pub end_rank : ℕ → ℕ → ℕ → ℕ
end_rank list first count = pair_rank list (min (first + count) (2 ^ 64 - 1))

module _ {V : Type 0} where
  abbrev pub stretch_functions : Functions (StretchRow V)
  stretch_functions = record {
    rank = λ x. pair_rank x.list x.first;
    left = λ x. x.left;
    right = λ x. x.right;
    height = λ x. x.height;
    linked = λ x l r. record x {
      left = link_of l;
      right = link_of r;
      height = height_over (λ y. y.height) l r;
      span = span_over (pair_rank x.list x.first) (end_rank x.list x.first x.extent.count)
          (span_in (λ y. y.span) l) (span_in (λ y. y.span) r);
    };
  }

  abbrev pub stretch_extents : Extents (StretchRow V)
  stretch_extents = record { end = λ x. end_rank x.list x.first x.extent.count; span = λ x. x.span }

  abbrev pub list_of : StretchRow V → ℕ
  list_of row = row.list

  abbrev pub first_of : StretchRow V → ℕ
  first_of row = row.first

  abbrev pub extent_of : StretchRow V → Extent V
  extent_of row = row.extent

  -- the row of an extent with no children
  abbrev pub stretch_of : ℕ → ℕ → Extent V → StretchRow V
  stretch_of list first extent = record {
    list = list;
    first = first;
    extent = extent;
    left = None;
    right = None;
    height = 0;
    span = record { lowest = 0; highest = 0; gap = 0 };
  }

  -- the first number and the extent of a row, if its list is l
  abbrev pub stretch_in : ℕ → Option (StretchRow V) → Option (ℕ × Extent V)
  stretch_in = pair_under list_of first_of extent_of

  abbrev pub stretch_rows : ArePairs {R = StretchRow V} {V = Extent V} stretch_functions list_of first_of extent_of
  stretch_rows = record { rank_is = λ x. refl; rank_kept = λ x. refl; value_kept = λ x. refl }

  -- an extent has a number, and ends at or below number 2^63 of its list
  pub record IsSound (row : StretchRow V) : Type 0 where
    pub some : 1 ≤ row.extent.count
    pub end : row.first + row.extent.count ≤ 2 ^ 63

  -- each row is sound, and the ranks of each end before those of the next begin
  pub record AreExtents (rows : List (StretchRow V)) : Type 0 where
    pub sound : (n : ℕ) (row : StretchRow V) → row_at stretch_functions n rows ≡ Some row → IsSound row
    pub apart : AreApart stretch_functions stretch_extents rows
