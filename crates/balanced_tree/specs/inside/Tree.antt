-- A tree of rows, each under a place of the slab, and what is done to it, as functions of trees.
use Rattle.std.specs.Prelude.{ℕ, ◌+◌, ◌≤◌, max, Bool, true, false, not, cond, nat_lt, List, [], ◌∷◌, ◌++◌, Option, None, Some, is_some}
use Rattle.balanced_tree.specs.declared.children.Child.{Child}
use Rattle.balanced_tree.specs.Row.{Functions, height_in, plain}
use Rattle.balanced_tree.specs.Rows.{IsBeside}

pub data SearchTree (R : Type 0) : Type 0 where
  Leaf : SearchTree R
  Node : (left : SearchTree R) (place : ℕ) (row : R) (right : SearchTree R) → SearchTree R

module _ {R : Type 0} where
  -- the place of the root
  abbrev pub place_of : SearchTree R → Option ℕ
  place_of Leaf = None
  place_of (Node l p x r) = Some p

  abbrev pub is_leaf : SearchTree R → Bool
  is_leaf Leaf = true
  is_leaf (Node l p x r) = false

  -- how many rows lie on the longest way down
  abbrev pub height : SearchTree R → ℕ
  height Leaf = 0
  height (Node l p x r) = max (height l) (height r) + 1

  -- the heights of each node's parts differ by at most one
  abbrev pub IsBalanced : SearchTree R → Type 0
  IsBalanced Leaf = Unit {0}
  IsBalanced (Node l p x r) = (height l ≤ height r + 1) × (height r ≤ height l + 1) × IsBalanced l × IsBalanced r

module _ {R : Type 0} (f : Functions R) where
  -- the root with its link, as it is stored over its parts
  abbrev pub child_of : SearchTree R → Option (Child R)
  child_of Leaf = None
  child_of (Node l p x r) = Some (record { link = p; row = f.linked x (child_of l) (child_of r) })

  -- the height that is stored in the root
  abbrev pub stored : SearchTree R → ℕ
  stored t = height_in f.height (child_of t)

  -- the rows from left to right, with no children
  abbrev pub rows_of : SearchTree R → List R
  rows_of Leaf = []
  rows_of (Node l p x r) = rows_of l ++ plain f x ∷ rows_of r

  -- the ranks rise from left to right, from low on and below high
  abbrev pub IsOrdered : ℕ → ℕ → SearchTree R → Type 0
  IsOrdered low high Leaf = low ≤ high
  IsOrdered low high (Node l p x r) = IsOrdered low (f.rank x) l × IsOrdered (f.rank x + 1) high r

  -- the row of this rank on the way down by rank, with no children
  abbrev pub row_in : ℕ → SearchTree R → Option R
  row_in n Leaf = None
  row_in n (Node l p x r) =
      cond (nat_lt n (f.rank x)) (row_in n l) (cond (nat_lt (f.rank x) n) (row_in n r) (Some (plain f x)))

  -- some row on the way down by rank has this rank
  abbrev pub has_rank : ℕ → SearchTree R → Bool
  has_rank n t = is_some (row_in n t)

  -- The last row on the way down by rank that lies at this rank or past it, or with `down`, at it or before it. If
  -- there is none, it is what was found above.
  abbrev pub found : (down : Bool) → ℕ → Option R → SearchTree R → Option R
  found down n best Leaf = best
  found down n best (Node l p x r) =
      cond
      (nat_lt n (f.rank x))
      (found down n (cond (not down) (Some (plain f x)) best) l)
      (cond (nat_lt (f.rank x) n) (found down n (cond down (Some (plain f x)) best) r) (Some (plain f x)))

  -- The node made again, if its left part is too high: the left child moves up, or the inner grandchild, if this is
  -- higher than the outer one.
  unfoldable pub leaned_right : SearchTree R → ℕ → R → SearchTree R → SearchTree R
  leaned_right Leaf p x r = Node Leaf p x r
  leaned_right (Node a j y Leaf) p x r = Node a j y (Node Leaf p x r)
  leaned_right (Node a j y (Node c k z d)) p x r =
      cond
      (nat_lt (stored a) (stored (Node c k z d)))
      (Node (Node a j y c) k z (Node d p x r))
      (Node a j y (Node (Node c k z d) p x r))

  -- the same if its right part is too high
  unfoldable pub leaned_left : SearchTree R → ℕ → R → SearchTree R → SearchTree R
  leaned_left l p x Leaf = Node l p x Leaf
  leaned_left l p x (Node Leaf j y b) = Node (Node l p x Leaf) j y b
  leaned_left l p x (Node (Node c k z d) j y b) =
      cond
      (nat_lt (stored b) (stored (Node c k z d)))
      (Node (Node l p x c) k z (Node d j y b))
      (Node (Node l p x (Node c k z d)) j y b)

  -- the node over parts whose heights differ by at most two, with a rotation if they differ by two
  unfoldable pub balanced : SearchTree R → ℕ → R → SearchTree R → SearchTree R
  balanced l p x r =
      cond
      (nat_lt (stored r + 1) (stored l))
      (leaned_right l p x r)
      (cond (nat_lt (stored l + 1) (stored r)) (leaned_left l p x r) (Node l p x r))

  -- the tree with the row w, under the place q where no row has its rank
  unfoldable pub inserted : ℕ → R → SearchTree R → SearchTree R
  inserted q w Leaf = Node Leaf q w Leaf
  inserted q w (Node l p x r) =
      cond
      (nat_lt (f.rank w) (f.rank x))
      (balanced (inserted q w l) p x r)
      (cond (nat_lt (f.rank x) (f.rank w)) (balanced l p x (inserted q w r)) (Node l p w r))

  -- the first row, and d if there is none
  abbrev pub least : SearchTree R → R → R
  least Leaf d = d
  least (Node l p x r) d = least l x

  -- the tree without its first row
  unfoldable pub without_least : SearchTree R → SearchTree R
  without_least Leaf = Leaf
  without_least (Node l p x r) = cond (is_leaf l) r (balanced (without_least l) p x r)

  -- the tree without its root: if it has a right part, the first row of this part goes to the place of the root
  unfoldable pub without_root : SearchTree R → SearchTree R
  without_root Leaf = Leaf
  without_root (Node l p x Leaf) = l
  without_root (Node l p x (Node a q y b)) = balanced l p (least a y) (without_least (Node a q y b))

  -- the tree without the row of this rank
  unfoldable pub removed : ℕ → SearchTree R → SearchTree R
  removed n Leaf = Leaf
  removed n (Node l p x r) =
      cond
      (nat_lt n (f.rank x))
      (balanced (removed n l) p x r)
      (cond (nat_lt (f.rank x) n) (balanced l p x (removed n r)) (without_root (Node l p x r)))

  -- the tree with the row w in place of the one of rank n
  unfoldable pub moved : ℕ → R → SearchTree R → SearchTree R
  moved n w Leaf = Leaf
  moved n w (Node l p x r) =
      cond
      (nat_lt n (f.rank x))
      (Node (moved n w l) p x r)
      (cond (nat_lt (f.rank x) n) (Node l p x (moved n w r)) (Node l p w r))

  -- no row has the rank m or one between n and m
  abbrev pub AreBeside : ℕ → ℕ → SearchTree R → Type 0
  AreBeside n m Leaf = Unit {0}
  AreBeside n m (Node l p x r) = IsBeside f n m x × AreBeside n m l × AreBeside n m r
