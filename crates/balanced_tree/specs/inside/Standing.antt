-- How a tree stands in a slab, and what changes with a part of it.
use Rattle.std.specs.Prelude.{◌≡◌, ◌⊎◌, ℕ, ◌+◌, ◌-◌, ◌*◌, ◌^◌, ◌<◌, ◌≤◌, cond, length, List, [], ◌∷◌, ◌++◌, zero, suc, false, Option, None, Some}
use Rattle.std.specs.Option.{ForSome}
use Rattle.slab.specs.Slab.{Slab, get, slab_len, ContainsKey, HasRoomFor, Updates}
use Rattle.balanced_tree.specs.declared.changes.Change.{Change}
use Rattle.balanced_tree.specs.declared.changes.Change.TheVariants.{Hidden, Empty, Root}
use Rattle.balanced_tree.specs.declared.children.Child.{Child}
use Rattle.balanced_tree.specs.Row.{Functions, AreAlike, link_of, height_in, plain}
use Rattle.balanced_tree.specs.Rows.{Rows}
use Rattle.balanced_tree.specs.inside.Tree.{SearchTree, Leaf, Node, place_of, height, IsBalanced, child_of, rows_of, IsOrdered, has_rank, row_in, inserted, removed, least, without_least, without_root, moved, AreBeside}

module _ {R : Type 0} where
  -- a row with the link to it, if there is one
  abbrev pub child_under : ℕ → Option R → Option (Child R)
  child_under p None = None
  child_under p (Some x) = Some (record { link = p; row = x })

  -- the row that a link leads to, with the link
  abbrev pub child_at : Slab R → Option ℕ → Option (Child R)
  child_at s None = None
  child_at s (Some p) = child_under p (get s p)

  -- how many more rows fit with no memory from the host
  abbrev pub spare_in : Slab R → ℕ
  spare_in s = s.capacity - slab_len s

-- the link to the root after a change
abbrev pub root_after : Change → Option ℕ → Option ℕ
root_after Hidden before = before
root_after Empty before = None
root_after (Root link) before = Some link

-- the change after which this is the link to the root
abbrev pub change_to : Option ℕ → Change
change_to None = Empty
change_to (Some link) = Root link

module _ {R : Type 0} (f : Functions R) where
  -- rows are stored over the one child as over the other
  pub record IsLike (a b : Option (Child R)) : Type 0 where
    pub link : link_of a ≡ link_of b
    pub height : height_in f.height a ≡ height_in f.height b
    pub left : (z : R) (r : Option (Child R)) → f.linked z a r ≡ f.linked z b r
    pub right : (z : R) (l : Option (Child R)) → f.linked z l a ≡ f.linked z l b

  -- the change leads from the child that was there to the root of the tree, or hides that it is another one
  pub record IsRooted (had : Option (Child R)) (t : SearchTree R) (change : Change) : Type 0 where
    pub root : place_of t ≡ root_after change (link_of had)
    pub hidden : change ≡ Hidden → IsLike had (child_of f t)

  -- under each place of the tree stands its row over its parts
  abbrev pub Spells : Slab R → SearchTree R → Type 0
  Spells s Leaf = Unit {0}
  Spells s (Node l p x r) = (get s p ≡ Some (f.linked x (child_of f l) (child_of f r))) × Spells s l × Spells s r

  -- a row stands at the place, and its links lead to rows
  pub record HasChildren (s : Slab R) (p : ℕ) : Type 0 where
    pub row : R
    pub at : get s p ≡ Some row
    pub left : ForSome (f.left row) (ContainsKey s)
    pub right : ForSome (f.right row) (ContainsKey s)

  -- The new slab has the row w at the place, over the children of the row that was there. If c is `Hidden`, the row above
  -- the place is stored as it was.
  pub record IsPut (old new : Slab R) (p : ℕ) (had w : R) (c : Change) : Type 0 where
    pub updates : Updates old new p (Some (f.linked w (child_at old (f.left had)) (child_at old (f.right had))))
    pub hidden : c ≡ Hidden → AreAlike f had (f.linked w (child_at old (f.left had)) (child_at old (f.right had)))

  -- a row differs from another in its children alone
  pub record Same (x y : R) : Type 0 where
    pub linked : (l r : Option (Child R)) → f.linked y l r ≡ f.linked x l r
    pub rank : f.rank y ≡ f.rank x

  -- under this link stands this balanced tree, with ranks from low on and below high; its height is less than a stored
  -- height can be
  pub record IsStanding (s : Slab R) (at : Option ℕ) (t : SearchTree R) (low high : ℕ) : Type 0 where
    pub spelled : Spells s t
    pub is_at : place_of t ≡ at
    pub ordered : IsOrdered f low high t
    pub short : height t < 2 ^ 32
    pub balanced : IsBalanced t

  -- some tree stands under this link
  pub record Stands (s : Slab R) (at : Option ℕ) : Type 0 where
    pub tree : SearchTree R
    pub low : ℕ
    pub high : ℕ
    pub standing : IsStanding s at tree low high

  -- some tree stands under this link whose bounds hold this rank; it has no row of it, and there is room for one
  pub record StandsFor (s : Slab R) (at : Option ℕ) (n : ℕ) : Type 0 where
    pub tree : SearchTree R
    pub low : ℕ
    pub high : ℕ
    pub standing : IsStanding s at tree low high
    pub from_low : low ≤ n
    pub below_high : n < high
    pub absent : has_rank f n tree ≡ false
    pub room : HasRoomFor s 1

  -- some tree stands under this link whose bounds hold m, and in which no row has the rank m or one between n and m
  pub record StandsBeside (s : Slab R) (at : Option ℕ) (n m : ℕ) : Type 0 where
    pub tree : SearchTree R
    pub low : ℕ
    pub high : ℕ
    pub standing : IsStanding s at tree low high
    pub beside : AreBeside f n m tree
    pub from_low : low ≤ m
    pub below_high : m < high

  -- each row whose rank is outside these bounds stands where it stood
  pub record Keeps (low high : ℕ) (old new : Slab R) : Type 0 where
    pub kept : (p : ℕ) (x : R) → get old p ≡ Some x → (f.rank x < low) ⊎ (high ≤ f.rank x) → get new p ≡ Some x

  -- the new slab has this tree in place of what was within the bounds, and keeps the rest
  pub record Becomes (old new : Slab R) (t : SearchTree R) (low high : ℕ) : Type 0 where
    pub spelled : Spells new t
    pub ordered : IsOrdered f low high t
    pub kept : Keeps low high old new

  -- Two trees stand in the slab, and between them is a place with some row; the ranks of this row and of x lie
  -- between theirs.
  pub record IsSplit (s : Slab R) (l : SearchTree R) (p : ℕ) (x : R) (r : SearchTree R) (low high : ℕ) : Type 0 where
    pub middle : ℕ
    pub past : ℕ
    pub had : R
    pub at : get s p ≡ Some had
    pub left : Spells s l
    pub right : Spells s r
    pub left_ordered : IsOrdered f low middle l
    pub right_ordered : IsOrdered f past high r
    pub had_from : middle ≤ f.rank had
    pub had_below : f.rank had < past
    pub row_from : middle ≤ f.rank x
    pub row_below : f.rank x < past

  -- some trees stand so, under these links
  pub record Splits (s : Slab R) (left : Option ℕ) (p : ℕ) (x : R) (right : Option ℕ) : Type 0 where
    pub left_tree : SearchTree R
    pub right_tree : SearchTree R
    pub low : ℕ
    pub high : ℕ
    pub split : IsSplit s left_tree p x right_tree low high
    pub left_is : place_of left_tree ≡ left
    pub right_is : place_of right_tree ≡ right

  -- The new slab has the tree with the row w, and c is what the row above it stores anew. If no row had the rank of w,
  -- it has one row more. The count of steps went from `before` to `after`.
  pub record HasInserted (old new : Slab R) (w : R) (t : SearchTree R) (low high : ℕ) (c : Change)
      (before after : ℕ) : Type 0 where
    pub becomes : Becomes old new (inserted f old.vacant_key w t) low high
    pub rooted : IsRooted (child_of f t) (inserted f old.vacant_key w t) c
    pub len : slab_len new ≡ slab_len old + cond (has_rank f (f.rank w) t) 0 1
    pub steps : after ≤ before + 14 * height t + 1

  -- The new slab has the tree with the row w in place of that of rank n, and c is what the row above it stores anew. The
  -- count of steps went from `before` to `after`.
  pub record HasMoved (old new : Slab R) (n : ℕ) (w : R) (t : SearchTree R) (low high : ℕ) (c : Change)
      (before after : ℕ) : Type 0 where
    pub becomes : Becomes old new (moved f n w t) low high
    pub rooted : IsRooted (child_of f t) (moved f n w t) c
    pub len : slab_len new ≡ slab_len old
    pub steps : after ≤ before + 14 * height t

  -- The new slab has the tree without the row of rank n, which is y with no children, and c is what the row above it
  -- stores anew. It has a row less where a row had this rank.
  pub record HasRemoved (old new : Slab R) (n : ℕ) (t : SearchTree R) (low high : ℕ) (y : Option R) (c : Change)
      (before after : ℕ) : Type 0 where
    pub becomes : Becomes old new (removed f n t) low high
    pub row : y ≡ row_in f n t
    pub rooted : IsRooted (child_of f t) (removed f n t) c
    pub len : slab_len new + cond (has_rank f n t) 1 0 ≡ slab_len old
    pub steps : after ≤ before + 14 * height t

  -- The new slab has the tree without its first row, which is y, and c is what the row above it stores anew.
  pub record HasTakenLeast (old new : Slab R) (t : SearchTree R) (low high : ℕ) (y : R) (c : Change)
      (before after : ℕ) : Type 0 where
    pub spelled : Spells new (without_least f t)
    pub ordered : IsOrdered f (f.rank (least f t y) + 1) high (without_least f t)
    pub kept : Keeps low high old new
    pub rooted : IsRooted (child_of f t) (without_least f t) c
    pub row : Same (least f t y) y
    pub from_low : low ≤ f.rank (least f t y)
    pub len : slab_len new + 1 ≡ slab_len old
    pub steps : after ≤ before + 14 * height t

  -- The new slab has the tree without its root, and c is the link to the new root.
  pub record HasTakenRoot (old new : Slab R) (t : SearchTree R) (low high : ℕ) (c : Option ℕ)
      (before after : ℕ) : Type 0 where
    pub becomes : Becomes old new (without_root f t) low high
    pub root : place_of (without_root f t) ≡ c
    pub len : slab_len new + 1 ≡ slab_len old
    pub steps : after + 1 ≤ before + 14 * height t

  -- the height that is stored in the row under a link
  abbrev pub height_at : Slab R → Option ℕ → ℕ
  height_at s at = height_in f.height (child_at s at)

  -- the rows below a child and the child's own, in order; `below` gives those under a link
  abbrev pub rows_round : Option (Child R) → (Option ℕ → List R) → List R
  rows_round None below = []
  rows_round (Some c) below = below (f.left c.row) ++ plain f c.row ∷ below (f.right c.row)

  -- the rows under a link in order, down to this depth
  unfoldable pub rows_down : ℕ → Slab R → Option ℕ → List R
  rows_down zero s at = []
  rows_down (suc n) s at = rows_round (child_at s at) (λ link. rows_down n s link)

  -- the slab and the link to the root, as the rows in order and the room for more
  abbrev pub rows_in : Slab R → Option ℕ → Rows R
  rows_in s root = record { rows = rows_down (height_at s root) s root; spare = spare_in s }

  -- the rows of the slab are those of one balanced tree
  pub record IsTree (s : Slab R) (root : Option ℕ) : Type 0 where
    pub tree : SearchTree R
    pub standing : IsStanding s root tree 0 (2 ^ 128)
    pub balanced : IsBalanced tree
    pub count : slab_len s ≡ length (rows_of f tree)
    pub holds : slab_len s ≤ s.capacity
    pub fits : s.capacity < 2 ^ 64
