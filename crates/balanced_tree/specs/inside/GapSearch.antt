-- What a search for a gap answers in a tree, and how many steps it takes.
use Rattle.std.specs.Prelude.{◌≡◌, ℕ, ◌+◌, ◌*◌, ◌<◌, ◌≤◌, Option, None, Some}
use Rattle.balanced_tree.specs.declared.spans.Span.{Span}
use Rattle.balanced_tree.specs.Row.{Functions}
use Rattle.balanced_tree.specs.Extents.{Extents, span_over}
use Rattle.balanced_tree.specs.Gaps.{IsFree, IsFirstGapOrNone}
use Rattle.balanced_tree.specs.inside.Tree.{SearchTree, Leaf, Node, height, rows_of}

module _ {R : Type 0} (f : Functions R) (e : Extents R) where
  -- the span of a tree that has a row
  abbrev pub span_of : SearchTree R → Option Span
  span_of Leaf = None
  span_of (Node l p x r) = Some (span_over (f.rank x) (e.end x) (span_of l) (span_of r))

  -- The answer is the first gap of this size in a tree whose extents lie from low on and up to high. The count of steps
  -- went from `before` to `after`. Each clause on steps is what a search above it in the tree needs of one that
  -- begins below the tree, ends above it, or does neither.
  pub record HasSearched (t : SearchTree R) (low high from size limit : ℕ) (result : Option ℕ) (before after : ℕ) :
      Type 0 where
    pub gap : IsFirstGapOrNone (IsFree f e (rows_of f t) size) from size limit result
    pub steps : after ≤ before + 4 * height t
    pub ahead : from ≤ low → after ≤ before + 2 * height t
    pub none : result ≡ None → high ≤ limit → after ≤ before + 2 * height t
    pub none_ahead : result ≡ None → from ≤ low → high ≤ limit → after ≤ before + 1
    pub behind : high ≤ from → after ≤ before + 1
    pub over : limit < from + size → after ≤ before
