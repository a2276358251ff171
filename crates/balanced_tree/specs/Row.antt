-- What the tree knows of a row: its rank in the order, its links to its two children, and the height that is stored
-- in it.
use Rattle.std.specs.Prelude.{◌≡◌, ℕ, ◌+◌, ◌-◌, ◌^◌, min, max, Option, None, Some}
use Rattle.balanced_tree.specs.declared.children.Child.{Child}

-- what a row type computes of its rows: `linked` is the row over these two children
pub record Functions (R : Type 0) : Type 0 where
  pub rank : R → ℕ
  pub left : R → Option ℕ
  pub right : R → Option ℕ
  pub height : R → ℕ
  pub linked : R → Option (Child R) → Option (Child R) → R

module _ {R : Type 0} where
  -- the link to a child
  abbrev pub link_of : Option (Child R) → Option ℕ
  link_of None = None
  link_of (Some c) = Some c.link

  -- the height that a child's row has; no child has the height 0
  abbrev pub height_in : (R → ℕ) → Option (Child R) → ℕ
  height_in of None = 0
  height_in of (Some c) = of c.row

  -- one more than the greater height of two children, up to the end of the height's type
  abbrev pub height_over : (R → ℕ) → Option (Child R) → Option (Child R) → ℕ
  height_over of l r = min (max (height_in of l) (height_in of r) + 1) (2 ^ 32 - 1)

  -- the row with no children
  abbrev pub plain : Functions R → R → R
  plain f x = f.linked x None None

-- A row over two children has the rank that it had, links to these children, and is one higher than the higher of
-- them, up to the end of the height's type. Nothing is left of the children that it had before.
pub record AreLawful {R : Type 0} (f : Functions R) : Type 0 where
  pub rank_kept : (x : R) (l r : Option (Child R)) → f.rank (f.linked x l r) ≡ f.rank x
  pub left_set : (x : R) (l r : Option (Child R)) → f.left (f.linked x l r) ≡ link_of l
  pub right_set : (x : R) (l r : Option (Child R)) → f.right (f.linked x l r) ≡ link_of r
  pub height_set : (x : R) (l r : Option (Child R)) → f.height (f.linked x l r) ≡ height_over f.height l r
  pub forgets : (x : R) (a b l r : Option (Child R)) → f.linked (f.linked x a b) l r ≡ f.linked x l r

-- Rows are stored over the one row as over the other, where the two stand under the same link.
pub record AreAlike {R : Type 0} (f : Functions R) (x y : R) : Type 0 where
  pub height : f.height x ≡ f.height y
  pub left : (z : R) (p : ℕ) (r : Option (Child R))
      → f.linked z (Some (record { link = p; row = x })) r ≡ f.linked z (Some (record { link = p; row = y })) r
  pub right : (z : R) (p : ℕ) (l : Option (Child R))
      → f.linked z l (Some (record { link = p; row = x })) ≡ f.linked z l (Some (record { link = p; row = y }))
