-- What the tree knows of a row that stands for an extent: its end, and the span that is stored in it.
use Rattle.std.specs.Prelude.{◌≡◌, ℕ, ◌-◌, max, Option, None, Some}
use Rattle.balanced_tree.specs.declared.children.Child.{Child}
use Rattle.balanced_tree.specs.declared.spans.Span.{Span}
use Rattle.balanced_tree.specs.Row.{Functions}

-- what a row type computes of its rows
pub record Extents (R : Type 0) : Type 0 where
  pub end : R → ℕ
  pub span : R → Span

-- the lowest rank, the highest end, and the greatest gap of the extents up to the row's own and from it on
abbrev pub lowest_over : ℕ → Option Span → ℕ
lowest_over rank None = rank
lowest_over rank (Some s) = s.lowest

abbrev pub highest_over : ℕ → Option Span → ℕ
highest_over end None = end
highest_over end (Some s) = s.highest

abbrev pub gap_before : ℕ → Option Span → ℕ
gap_before rank None = 0
gap_before rank (Some s) = max s.gap (rank - s.highest)

abbrev pub gap_behind : ℕ → Option Span → ℕ
gap_behind end None = 0
gap_behind end (Some s) = max s.gap (s.lowest - end)

-- the span of an extent over those of its children
abbrev pub span_over : ℕ → ℕ → Option Span → Option Span → Span
span_over rank end left right =
    record {
      lowest = lowest_over rank left;
      highest = highest_over end right;
      gap = max (gap_before rank left) (gap_behind end right);
    }

module _ {R : Type 0} where
  -- the span that is stored in a child
  abbrev pub span_in : (R → Span) → Option (Child R) → Option Span
  span_in of None = None
  span_in of (Some c) = Some (of c.row)

-- a row over two children has the end that it had, and the span over theirs
pub record AreSpanned {R : Type 0} (f : Functions R) (e : Extents R) : Type 0 where
  pub end_kept : (x : R) (l r : Option (Child R)) → e.end (f.linked x l r) ≡ e.end x
  pub span_set : (x : R) (l r : Option (Child R)) → e.span (f.linked x l r)
      ≡ span_over (f.rank x) (e.end x) (span_in e.span l) (span_in e.span r)
