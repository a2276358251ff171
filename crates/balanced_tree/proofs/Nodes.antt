-- The root of a tree that stands in a slab, and its parts.
use Rattle.std.proofs.Common.{◌≡◌, ℕ, ◌+◌, ◌<◌, ◌≤◌, ◌^◌, max, Bool, true, false, not, cond, Option, None, Some, is_some, refl, sym, ap, ◌∙◌, subst, inl, inr, arith}
use Rattle.std.proofs.lemmas.Grind.{common_steps}
use Rattle.std.proofs.lemmas.Bool.{cases_lt}
use Rattle.std.proofs.lemmas.Option.{same_Some}
use Rattle.slab.specs.Slab.{Slab, get, ContainsKey}
use Rattle.std.specs.Option.{option_map}
use Rattle.balanced_tree.specs.Row.{Functions, AreLawful, height_in, plain}
use Rattle.balanced_tree.specs.inside.Tree.{SearchTree, Leaf, Node, place_of, height, child_of, stored, has_rank, row_in, found}
use Rattle.balanced_tree.specs.inside.Standing.{child_at, Spells, Same, IsStanding, Stands, StandsFor, Keeps, Becomes, IsSplit, Splits, height_at}
use Rattle.balanced_tree.proofs.Spelling.{link_of-child_of, child_at-place_of, IsOrdered-bounds, Same-linked, Spells-kept, split_over, split_with, ContainsKey-place_of}

module _ {R : Type 0} (f : Functions R) where
  -- a height that is not too great is stored as it is
  pub stored-short : AreLawful f → (t : SearchTree R) → height t < 2 ^ 32 → stored f t ≡ height t
  stored-short laws Leaf h = refl
  stored-short laws (Node l p x r) h =
      let on_l = stored-short laws l (omega arith) in
      let on_r = stored-short laws r (omega arith) in
      laws.height_set x (child_of f l) (child_of f r) ∙ rw (on_l, on_r) (omega arith)

  pub height_at-standing : {s : Slab R} {at : Option ℕ} {t : SearchTree R} {low high : ℕ} → AreLawful f → IsStanding f s at t low high → height_at f s at ≡ height t
  height_at-standing {s} {at} {t} laws h =
      ap (height_in f.height) (ap (child_at s) (sym h.is_at) ∙ child_at-place_of f s t h.spelled) ∙ stored-short laws t h.short

  -- the tree at a place where this row is stored
  pub record IsNode (s : Slab R) (p : ℕ) (here : R) (t : SearchTree R) (low high : ℕ) : Type 0 where
    pub left : SearchTree R
    pub right : SearchTree R
    pub row : R
    pub is : t ≡ Node left p row right
    pub at : get s p ≡ Some here
    pub here_is : here ≡ f.linked row (child_of f left) (child_of f right)
    pub same : Same f row here
    pub left_level : height left ≤ height right + 1
    pub right_level : height right ≤ height left + 1
    pub left_standing : IsStanding f s (f.left here) left low (f.rank row)
    pub right_standing : IsStanding f s (f.right here) right (f.rank row + 1) high

  pub IsNode-standing : AreLawful f → (s : Slab R) (p : ℕ) (here : R) (t : SearchTree R) (low high : ℕ) → IsStanding f s (Some p) t low high → get s p ≡ Some here → IsNode s p here t low high
  IsNode-standing laws s p here Leaf low high h at = let none : None ≡ Some p = h.is_at in cc
  IsNode-standing laws s p here (Node l q x r) low high h at =
      let e : q ≡ p = same_Some q p h.is_at in
      let here_is : here ≡ f.linked x (child_of f l) (child_of f r) = same_Some _ _ (sym at ∙ ap (get s) (sym e) ∙ h.spelled.0) in
      let short : max (height l) (height r) + 1 < 2 ^ 32 = h.short in
      record {
        left = l;
        right = r;
        row = x;
        is = ap (λ k. Node l k x r) e;
        at = at;
        here_is = here_is;
        same = subst (Same f x) (sym here_is) (Same-linked f laws x _ _);
        left_level = h.balanced.0;
        right_level = h.balanced.1;
        left_standing = record { spelled = h.spelled.1; is_at = sym (ap f.left here_is ∙ laws.left_set x _ _ ∙ link_of-child_of f l); ordered = h.ordered.0; short = omega arith; balanced = h.balanced.2 };
        right_standing = record { spelled = h.spelled.2; is_at = sym (ap f.right here_is ∙ laws.right_set x _ _ ∙ link_of-child_of f r); ordered = h.ordered.1; short = omega arith; balanced = h.balanced.3 };
      }

  module _ {s : Slab R} {p : ℕ} {here : R} {t : SearchTree R} {low high : ℕ} (n : IsNode s p here t low high) where
    pub height-left : height n.left + 1 ≤ height t
    height-left = omega (arith, ap height n.is)

    pub height-right : height n.right + 1 ≤ height t
    height-right = omega (arith, ap height n.is)

    pub rank_here : f.rank here ≡ f.rank n.row
    rank_here = n.same.rank

    pub falls-left : AreLawful f → height_at f s (f.left here) + 1 ≤ height t
    falls-left laws = omega (arith, height_at-standing laws n.left_standing, height-left)

    pub falls-right : AreLawful f → height_at f s (f.right here) + 1 ≤ height t
    falls-right laws = omega (arith, height_at-standing laws n.right_standing, height-right)

    -- what is read of the row again
    pub same_again : {again : R} → again ≡ here → Same f n.row again
    same_again e = subst (Same f n.row) (sym e) n.same

    pub left_again : {again : R} {link : Option ℕ} → again ≡ here → link ≡ f.left again → place_of n.left ≡ link
    left_again e is = n.left_standing.is_at ∙ ap f.left (sym e) ∙ sym is

    pub right_again : {again : R} {link : Option ℕ} → again ≡ here → link ≡ f.right again → place_of n.right ≡ link
    right_again e is = n.right_standing.is_at ∙ ap f.right (sym e) ∙ sym is

    -- a change of one part leaves the row under its place
    pub stays_left : {s1 : Slab R} → Keeps f low (f.rank n.row) s s1 → get s1 p ≡ Some here
    stays_left k = k.kept p here n.at (inr (omega (arith, rank_here)))

    pub stays_right : {s1 : Slab R} → Keeps f (f.rank n.row + 1) high s s1 → get s1 p ≡ Some here
    stays_right k = k.kept p here n.at (inl (omega (arith, rank_here)))

    pub again_left : {s1 : Slab R} {again : R} → Keeps f low (f.rank n.row) s s1 → get s1 p ≡ Some again → again ≡ here
    again_left k e = same_Some _ _ (sym e ∙ stays_left k)

    pub again_right : {s1 : Slab R} {again : R} → Keeps f (f.rank n.row + 1) high s s1 → get s1 p ≡ Some again → again ≡ here
    again_right k e = same_Some _ _ (sym e ∙ stays_right k)

    -- the part that a link leads to can be read in a slab where it stands
    pub readable-right_part : (s1 : Slab R) (q : ℕ) → Spells f s1 n.right → f.right here ≡ Some q → ContainsKey s1 q
    readable-right_part s1 q h e = ContainsKey-place_of f s1 n.right q h (n.right_standing.is_at ∙ e)

    pub readable-left_part : (s1 : Slab R) (q : ℕ) → Spells f s1 n.left → f.left here ≡ Some q → ContainsKey s1 q
    readable-left_part s1 q h e = ContainsKey-place_of f s1 n.left q h (n.left_standing.is_at ∙ e)

    -- a change of one part leaves the other, and the row
    pub right_kept : {s1 : Slab R} → AreLawful f → Keeps f low (f.rank n.row) s s1 → Spells f s1 n.right
    right_kept laws k = Spells-kept f (f.rank n.row + 1) high n.right k laws n.right_standing.ordered (inr (omega arith)) n.right_standing.spelled

    pub left_kept : {s1 : Slab R} → AreLawful f → Keeps f (f.rank n.row + 1) high s s1 → Spells f s1 n.left
    left_kept laws k = Spells-kept f low (f.rank n.row) n.left k laws n.left_standing.ordered (inl (omega arith)) n.left_standing.spelled

    pub split_left : {s1 : Slab R} {l : SearchTree R} → AreLawful f → Becomes f s s1 l low (f.rank n.row) → IsSplit f s1 l p n.row n.right low high
    split_left laws h =
        split_over f (stays_left h.kept) rank_here h.spelled (right_kept laws h.kept) h.ordered n.right_standing.ordered

    pub split_right : {s1 : Slab R} {r : SearchTree R} → AreLawful f → Becomes f s s1 r (f.rank n.row + 1) high → IsSplit f s1 n.left p n.row r low high
    split_right laws h =
        split_over f (stays_right h.kept) rank_here (left_kept laws h.kept) h.spelled n.left_standing.ordered h.ordered

    -- what stands under the link to a part
    pub left_is : {link : Option ℕ} → link ≡ f.left here → child_at s link ≡ child_of f n.left
    left_is e = ap (child_at s) (e ∙ sym n.left_standing.is_at) ∙ child_at-place_of f s n.left n.left_standing.spelled

    pub right_is : {link : Option ℕ} → link ≡ f.right here → child_at s link ≡ child_of f n.right
    right_is e = ap (child_at s) (e ∙ sym n.right_standing.is_at) ∙ child_at-place_of f s n.right n.right_standing.spelled

    pub in_low : low ≤ f.rank n.row
    in_low = IsOrdered-bounds f low (f.rank n.row) n.left n.left_standing.ordered

    pub in_high : f.rank n.row + 1 ≤ high
    in_high = IsOrdered-bounds f (f.rank n.row + 1) high n.right n.right_standing.ordered

    pub kept_wider_left : {s1 : Slab R} → Keeps f low (f.rank n.row) s s1 → Keeps f low high s s1
    kept_wider_left k = Rattle.balanced_tree.proofs.Spelling.Keeps-wider f low high (omega arith) (omega (arith, in_high)) k

    pub kept_wider_right : {s1 : Slab R} → Keeps f (f.rank n.row + 1) high s s1 → Keeps f low high s s1
    kept_wider_right k = Rattle.balanced_tree.proofs.Spelling.Keeps-wider f low high (omega (arith, in_low)) (omega arith) k

    -- which way leads to a rank
    pub found-left : (down : Bool) (m : ℕ) (best next : Option R) → next ≡ cond (not down) (Some here) best → m < f.rank here
        → found f down m (option_map (plain f) best) t ≡ found f down m (option_map (plain f) next) n.left
    found-left false m best next is h = rw (n.is, is) (grind (arith, common_steps, rank_here, n.same.linked None None))
    found-left true m best next is h = rw (n.is, is) (grind (arith, common_steps, rank_here))

    pub found-right : (down : Bool) (m : ℕ) (best next : Option R) → next ≡ cond down (Some here) best → f.rank here < m
        → found f down m (option_map (plain f) best) t ≡ found f down m (option_map (plain f) next) n.right
    found-right false m best next is h = rw (n.is, is) (grind (arith, common_steps, rank_here))
    found-right true m best next is h = rw (n.is, is) (grind (arith, common_steps, rank_here, n.same.linked None None))

    pub found-here : (down : Bool) (m : ℕ) (best : Option R) → f.rank here ≤ m → m ≤ f.rank here → found f down m best t ≡ Some (f.linked here None None)
    found-here down m best g h = rw n.is (grind (arith, common_steps, rank_here, n.same.linked None None))

    pub row_in-left : (m : ℕ) → m < f.rank here → row_in f m t ≡ row_in f m n.left
    row_in-left m h = rw n.is (grind (arith, common_steps, rank_here))

    pub row_in-right : (m : ℕ) → f.rank here < m → row_in f m t ≡ row_in f m n.right
    row_in-right m h = rw n.is (grind (arith, common_steps, rank_here))

    pub row_in-here : (m : ℕ) → f.rank here ≤ m → m ≤ f.rank here → row_in f m t ≡ Some (plain f here)
    row_in-here m g h = rw n.is (grind (arith, common_steps, rank_here, n.same.linked None None))

    pub has_rank-left : (m : ℕ) → m < f.rank here → has_rank f m t ≡ has_rank f m n.left
    has_rank-left m h = ap is_some (row_in-left m h)

    pub has_rank-right : (m : ℕ) → f.rank here < m → has_rank f m t ≡ has_rank f m n.right
    has_rank-right m h = ap is_some (row_in-right m h)

    pub has_rank-here : (m : ℕ) → f.rank here ≤ m → m ≤ f.rank here → has_rank f m t ≡ true
    has_rank-here m g h = ap is_some (row_in-here m g h)

  pub standing-at : {s : Slab R} {at link : Option ℕ} {t : SearchTree R} {low high : ℕ} → at ≡ link → IsStanding f s at t low high → IsStanding f s link t low high
  standing-at {s} {at} {link} {t} {low} {high} e h = subst (λ q. IsStanding f s q t low high) e h

  -- the node of a tree that stands under a link
  pub node_of : {s : Slab R} {at : Option ℕ} {p : ℕ} {here : R} {t : SearchTree R} {low high : ℕ} → AreLawful f → IsStanding f s at t low high → at ≡ Some p → get s p ≡ Some here → IsNode s p here t low high
  node_of laws h is at = IsNode-standing laws _ _ _ _ _ _ (standing-at is h) at

  pub lower-left : {s : Slab R} {at link : Option ℕ} {p : ℕ} {here : R} {t : SearchTree R} {low high : ℕ} → AreLawful f → IsStanding f s at t low high → at ≡ Some p → get s p ≡ Some here → link ≡ f.left here → height_at f s link < height_at f s at
  lower-left {s} laws h is at e =
      let n = node_of laws h is at in
      omega (arith, ap (height_at f s) e, falls-left n laws, height_at-standing laws h)

  pub lower-right : {s : Slab R} {at link : Option ℕ} {p : ℕ} {here : R} {t : SearchTree R} {low high : ℕ} → AreLawful f → IsStanding f s at t low high → at ≡ Some p → get s p ≡ Some here → link ≡ f.right here → height_at f s link < height_at f s at
  lower-right {s} laws h is at e =
      let n = node_of laws h is at in
      omega (arith, ap (height_at f s) e, falls-right n laws, height_at-standing laws h)

  pub IsSplit-Same : {s : Slab R} {l : SearchTree R} {p : ℕ} {x y : R} {r : SearchTree R} {low high : ℕ} → Same f x y → IsSplit f s l p x r low high → IsSplit f s l p y r low high
  IsSplit-Same same h =
      split_with f h same.rank h.at h.left h.right h.left_ordered h.right_ordered

  module _ {s s1 : Slab R} {p : ℕ} {here : R} {t : SearchTree R} {low high : ℕ} (laws : AreLawful f) (n : IsNode s p here t low high) where
    -- what `balance` asks after a change of one part, where the row was read again
    pub Splits-left : {l : SearchTree R} {again : R} {left right : Option ℕ} → Becomes f s s1 l low (f.rank n.row) → get s1 p ≡ Some again → place_of l ≡ left → right ≡ f.right again → Splits f s1 left p again right
    Splits-left {l} h e on_left on_right =
        let is = again_left n h.kept e in
        record {
          left_tree = l;
          right_tree = n.right;
          low = low;
          high = high;
          split = IsSplit-Same (same_again n is) (split_left n laws h);
          left_is = on_left;
          right_is = right_again n is on_right;
        }

    pub Splits-right : {r : SearchTree R} {again : R} {left right : Option ℕ} → Becomes f s s1 r (f.rank n.row + 1) high → get s1 p ≡ Some again → left ≡ f.left again → place_of r ≡ right → Splits f s1 left p again right
    Splits-right {r} h e on_left on_right =
        let is = again_right n h.kept e in
        record {
          left_tree = n.left;
          right_tree = r;
          low = low;
          high = high;
          split = IsSplit-Same (same_again n is) (split_right n laws h);
          left_is = left_again n is on_left;
          right_is = on_right;
        }

  -- a row of no lower rank than this one has a higher rank, since no row has its rank yet
  pub past-absent : {s : Slab R} {at : Option ℕ} {p m : ℕ} {here : R} → AreLawful f → StandsFor f s at m → at ≡ Some p → get s p ≡ Some here → f.rank here ≤ m → f.rank here < m
  past-absent {m = m} {here} laws h is at from =
      let n = node_of laws h.standing is at in
      elim (cases_lt (f.rank here) m) [
        | inl more ↦ more
        | inr most ↦ (let clash : false ≡ true = sym h.absent ∙ has_rank-here n m from most in cc)
      ]

  -- what a recursion into a part asks
  pub StandsFor-left : {s : Slab R} {at link : Option ℕ} {p m : ℕ} {here : R} → AreLawful f → StandsFor f s at m → at ≡ Some p → get s p ≡ Some here → link ≡ f.left here → m < f.rank here → StandsFor f s link m
  StandsFor-left {s} {m = m} laws h is at e less =
      let n = node_of laws h.standing is at in
      record {
        tree = n.left;
        low = h.low;
        high = f.rank n.row;
        standing = standing-at (sym e) n.left_standing;
        from_low = h.from_low;
        below_high = omega (arith, rank_here n);
        absent = sym (has_rank-left n m less) ∙ h.absent;
        room = h.room;
      }

  pub StandsFor-right : {s : Slab R} {at link : Option ℕ} {p m : ℕ} {here : R} → AreLawful f → StandsFor f s at m → at ≡ Some p → get s p ≡ Some here → link ≡ f.right here → f.rank here < m → StandsFor f s link m
  StandsFor-right {s} {m = m} laws h is at e more =
      let n = node_of laws h.standing is at in
      record {
        tree = n.right;
        low = f.rank n.row + 1;
        high = h.high;
        standing = standing-at (sym e) n.right_standing;
        from_low = omega (arith, rank_here n);
        below_high = h.below_high;
        absent = sym (has_rank-right n m more) ∙ h.absent;
        room = h.room;
      }

  pub Stands-left : {s : Slab R} {at link : Option ℕ} {p : ℕ} {here : R} → AreLawful f → Stands f s at → at ≡ Some p → get s p ≡ Some here → link ≡ f.left here → Stands f s link
  Stands-left laws h is at e =
      let n = node_of laws h.standing is at in
      record { tree = n.left; low = h.low; high = f.rank n.row; standing = standing-at (sym e) n.left_standing }

  pub Stands-right : {s : Slab R} {at link : Option ℕ} {p : ℕ} {here : R} → AreLawful f → Stands f s at → at ≡ Some p → get s p ≡ Some here → link ≡ f.right here → Stands f s link
  Stands-right laws h is at e =
      let n = node_of laws h.standing is at in
      record { tree = n.right; low = f.rank n.row + 1; high = h.high; standing = standing-at (sym e) n.right_standing }

  pub leaf-standing : {s : Slab R} {at : Option ℕ} (t : SearchTree R) {low high : ℕ} → at ≡ None → IsStanding f s at t low high → t ≡ Leaf
  leaf-standing Leaf e h = refl
  leaf-standing (Node l p x r) e h = let none : Some p ≡ None = h.is_at ∙ e in cc
