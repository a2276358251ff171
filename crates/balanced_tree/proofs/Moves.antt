-- What a row that comes in place of one of another rank does to a tree, case by case.
use Rattle.std.proofs.Common.{◌≡◌, ℕ, ◌+◌, ◌<◌, ◌≤◌, Option, None, Some, inl, inr, refl, sym, ap, ◌∙◌, subst, arith}
use Rattle.std.proofs.lemmas.Bool.{cases_lt}
use Rattle.slab.specs.Slab.{Slab, get, slab_len, Updates}
use Rattle.balanced_tree.specs.declared.changes.Change.{Change}
use Rattle.balanced_tree.specs.declared.changes.Change.TheVariants.{Hidden}
use Rattle.balanced_tree.specs.declared.children.Child.{Child}
use Rattle.balanced_tree.specs.Row.{Functions, AreLawful, AreAlike}
use Rattle.balanced_tree.specs.inside.Tree.{SearchTree, Leaf, Node, child_of, moved, AreBeside}
use Rattle.balanced_tree.specs.inside.Standing.{child_at, root_after, IsRooted, IsStanding, StandsBeside, Becomes, IsSplit, HasChildren, IsPut, HasMoved}
use Rattle.balanced_tree.proofs.Spelling.{Keeps-refl, Same-refl, child_at-link, ContainsKey-place_of, place_over-tree}
use Rattle.balanced_tree.proofs.Nodes.{IsNode, node_of, standing-at, rank_here, height-left, height-right, right_is, left_is, stays_left, stays_right, readable-left_part, readable-right_part, split_left, split_right, left_kept, right_kept}
use Rattle.balanced_tree.proofs.Hiding.{like-same, rooted-hidden, rooted-put, rooted-again, still-left, still-right, becomes-still}
use Rattle.balanced_tree.proofs.Insertions.{Becomes-left, Becomes-right}
use Rattle.balanced_tree.proofs.TreeLaws.{moved-left, moved-right, moved-here, moved-leaf, place-moved, ordered-below, ordered-above}

module _ {R : Type 0} (f : Functions R) where
  pub move-leaf : {s : Slab R} {at : Option ℕ} (t : SearchTree R) {low high before : ℕ} (n : ℕ) (w : R) → at ≡ None → IsStanding f s at t low high → HasMoved f s s n w t low high Hidden before before
  move-leaf {s} Leaf {low} {high} n w none h = record {
    becomes = subst (λ u. Becomes f s s u low high) (sym (moved-leaf f n w)) (record { spelled = tt; ordered = h.ordered; kept = Keeps-refl f low high s });
    rooted = rooted-hidden f (like-same f (ap (child_of f) (sym (moved-leaf f n w))));
    len = refl;
    steps = omega arith;
  }
  move-leaf {s} (Node l p x r) n w none h = let some : Some p ≡ None = h.is_at ∙ none in absurd cc

  -- where the way down went to the left
  pub move-left : {s s1 s2 : Slab R} {p : ℕ} {here w : R} {t : SearchTree R} {low high n before b1 b2 after : ℕ} {part change : Change}
      → AreLawful f → (d : IsNode f s p here t low high) → n < f.rank here → HasMoved f s s1 n w d.left low (f.rank d.row) part b1 b2
      → IsPut f s1 s2 p here here change → root_after change (Some p) ≡ Some p → slab_len s2 ≡ slab_len s1 → b1 ≤ before + 1 → after ≤ b2 + 4
      → HasMoved f s s2 n w t low high change before after
  move-left {s} {s1} {s2} {p} {here} {w} {low = low} {high} {n} laws d less sub put root len g1 g2 =
      let on_left = child_at-link f s1 (moved f n w d.left) sub.becomes.spelled (place-moved f n w d.left ∙ d.left_standing.is_at) in
      let on_right = child_at-link f s1 d.right (right_kept f d laws sub.becomes.kept) d.right_standing.is_at in
      let made = place_over-tree f laws (split_left f d laws sub.becomes) d.same on_left on_right refl put.updates refl in
      let is = ap (moved f n w) d.is ∙ moved-left f n w d.left p d.row d.right (omega (arith, rank_here f d)) in
      record {
        becomes = Becomes-left f d sub.becomes (subst (λ u. Becomes f s1 s2 u low high) (sym is) made.becomes);
        rooted = rooted-again f laws d refl is (rooted-put f made.child root put.hidden);
        len = len ∙ sub.len;
        steps = omega (arith, sub.steps, height-left f d);
      }

  -- and to the right
  pub move-right : {s s1 s2 : Slab R} {p : ℕ} {here w : R} {t : SearchTree R} {low high n before b1 b2 after : ℕ} {part change : Change}
      → AreLawful f → (d : IsNode f s p here t low high) → f.rank here < n → HasMoved f s s1 n w d.right (f.rank d.row + 1) high part b1 b2
      → IsPut f s1 s2 p here here change → root_after change (Some p) ≡ Some p → slab_len s2 ≡ slab_len s1 → b1 ≤ before + 1 → after ≤ b2 + 4
      → HasMoved f s s2 n w t low high change before after
  move-right {s} {s1} {s2} {p} {here} {w} {low = low} {high} {n} laws d more sub put root len g1 g2 =
      let on_left = child_at-link f s1 d.left (left_kept f d laws sub.becomes.kept) d.left_standing.is_at in
      let on_right = child_at-link f s1 (moved f n w d.right) sub.becomes.spelled (place-moved f n w d.right ∙ d.right_standing.is_at) in
      let made = place_over-tree f laws (split_right f d laws sub.becomes) d.same on_left on_right refl put.updates refl in
      let is = ap (moved f n w) d.is ∙ moved-right f n w d.left p d.row d.right (omega (arith, rank_here f d)) in
      record {
        becomes = Becomes-right f d sub.becomes (subst (λ u. Becomes f s1 s2 u low high) (sym is) made.becomes);
        rooted = rooted-again f laws d refl is (rooted-put f made.child root put.hidden);
        len = len ∙ sub.len;
        steps = omega (arith, sub.steps, height-right f d);
      }

  -- the row hides the change of a part
  module _ {s s1 : Slab R} {p : ℕ} {here w : R} {t : SearchTree R} {low high n before b1 b2 : ℕ} {part : Change} (laws : AreLawful f) (d : IsNode f s p here t low high) where
    pub move-left_hidden : n < f.rank here → HasMoved f s s1 n w d.left low (f.rank d.row) part b1 b2 → part ≡ Hidden → b1 ≤ before + 1 → HasMoved f s s1 n w t low high Hidden before b2
    move-left_hidden less sub is_hidden g =
        let is = ap (moved f n w) d.is ∙ moved-left f n w d.left p d.row d.right (omega (arith, rank_here f d)) in
        let still = still-left f laws d sub.becomes.spelled sub.becomes.ordered sub.becomes.kept (sub.rooted.hidden is_hidden) in
        record {
          becomes = subst (λ u. Becomes f s s1 u low high) (sym is) (becomes-still f still);
          rooted = subst (λ u. IsRooted f (child_of f t) u Hidden) (sym is) (rooted-hidden f still.like);
          len = sub.len;
          steps = omega (arith, sub.steps, height-left f d);
        }

    pub move-right_hidden : f.rank here < n → HasMoved f s s1 n w d.right (f.rank d.row + 1) high part b1 b2 → part ≡ Hidden → b1 ≤ before + 1 → HasMoved f s s1 n w t low high Hidden before b2
    move-right_hidden more sub is_hidden g =
        let is = ap (moved f n w) d.is ∙ moved-right f n w d.left p d.row d.right (omega (arith, rank_here f d)) in
        let still = still-right f laws d sub.becomes.spelled sub.becomes.ordered sub.becomes.kept (sub.rooted.hidden is_hidden) in
        record {
          becomes = subst (λ u. Becomes f s s1 u low high) (sym is) (becomes-still f still);
          rooted = subst (λ u. IsRooted f (child_of f t) u Hidden) (sym is) (rooted-hidden f still.like);
          len = sub.len;
          steps = omega (arith, sub.steps, height-right f d);
        }

  -- the parts of a node are beside both ranks too
  beside-node : {s : Slab R} {p : ℕ} {here : R} {t : SearchTree R} {low high : ℕ} (n m : ℕ) (d : IsNode f s p here t low high) → AreBeside f n m t → AreBeside f n m (Node d.left p d.row d.right)
  beside-node n m d b = subst (AreBeside f n m) d.is b

  pub sub-left : {s : Slab R} {p : ℕ} {here : R} {t : SearchTree R} {low high k : ℕ} (n m : ℕ) (d : IsNode f s p here t low high) → AreBeside f n m t → k ≡ f.rank here → n < k
      → AreBeside f n m d.left × (m < f.rank d.row)
  sub-left n m d b is less = let sides = beside-node n m d b in let same = rank_here f d in (sides.1, sides.0.1 (omega arith))

  pub sub-right : {s : Slab R} {p : ℕ} {here : R} {t : SearchTree R} {low high k : ℕ} (n m : ℕ) (d : IsNode f s p here t low high) → AreBeside f n m t → k ≡ f.rank here → k < n
      → AreBeside f n m d.right × (f.rank d.row + 1 ≤ m)
  sub-right n m d b is more = let sides = beside-node n m d b in let same = rank_here f d in let above = sides.0.0 (omega arith) in (sides.2, omega arith)

  pub move-here : {s s2 : Slab R} {p : ℕ} {here w : R} {t : SearchTree R} {low high n before after : ℕ} {change : Change}
      → AreLawful f → (d : IsNode f s p here t low high) → f.rank here ≤ n → n ≤ f.rank here → AreBeside f n (f.rank w) t → low ≤ f.rank w → f.rank w < high
      → IsPut f s s2 p here w change → root_after change (Some p) ≡ Some p → slab_len s2 ≡ slab_len s → after ≤ before + 5
      → HasMoved f s s2 n w t low high change before after
  move-here {s} {s2} {p} {here} {w} {t} {low} {high} {n} laws d g h b from below put root len steps =
      let sides = beside-node n (f.rank w) d b in
      let same = rank_here f d in
      let split : IsSplit f s d.left p w d.right low high = elim (cases_lt (f.rank w) n) [
        | inl less ↦ record {
          middle = f.rank w;
          past = f.rank d.row + 1;
          had = here;
          at = d.at;
          left = d.left_standing.spelled;
          right = d.right_standing.spelled;
          left_ordered = ordered-below f n (f.rank w) low (f.rank d.row) d.left d.left_standing.ordered sides.1 (omega arith) from;
          right_ordered = d.right_standing.ordered;
          had_from = omega arith;
          had_below = omega arith;
          row_from = omega arith;
          row_below = omega arith;
        }
        | inr more ↦ record {
          middle = f.rank d.row;
          past = f.rank w + 1;
          had = here;
          at = d.at;
          left = d.left_standing.spelled;
          right = d.right_standing.spelled;
          left_ordered = d.left_standing.ordered;
          right_ordered = ordered-above f n (f.rank w) (f.rank d.row + 1) high d.right d.right_standing.ordered sides.2 (omega arith) below;
          had_from = omega arith;
          had_below = omega arith;
          row_from = omega arith;
          row_below = omega arith;
        }
      ] in
      let made = place_over-tree f laws split (Same-refl f w) (left_is f d refl) (right_is f d refl) refl put.updates refl in
      let is = ap (moved f n w) d.is ∙ moved-here f n w d.left p d.row d.right (omega arith) in
      record {
        becomes = subst (λ u. Becomes f s s2 u low high) (sym is) made.becomes;
        rooted = rooted-again f laws d refl is (rooted-put f made.child root put.hidden);
        len = len;
        steps = omega (arith, height-left f d);
      }

  -- what a recursion into a part asks
  pub StandsBeside-left : {s : Slab R} {at link : Option ℕ} {p n m : ℕ} {here : R} → AreLawful f → StandsBeside f s at n m → at ≡ Some p → get s p ≡ Some here → link ≡ f.left here → n < f.rank here → StandsBeside f s link n m
  StandsBeside-left {n = n} {m} laws h is at e less =
      let d = node_of f laws h.standing is at in
      let sides = beside-node n m d h.beside in
      let same = rank_here f d in
      record {
        tree = d.left;
        low = h.low;
        high = f.rank d.row;
        standing = standing-at f (sym e) d.left_standing;
        beside = sides.1;
        from_low = h.from_low;
        below_high = sides.0.1 (omega arith);
      }

  pub StandsBeside-right : {s : Slab R} {at link : Option ℕ} {p n m : ℕ} {here : R} → AreLawful f → StandsBeside f s at n m → at ≡ Some p → get s p ≡ Some here → link ≡ f.right here → f.rank here < n → StandsBeside f s link n m
  StandsBeside-right {n = n} {m} laws h is at e more =
      let d = node_of f laws h.standing is at in
      let sides = beside-node n m d h.beside in
      let same = rank_here f d in
      let above = sides.0.0 (omega arith) in
      record {
        tree = d.right;
        low = f.rank d.row + 1;
        high = h.high;
        standing = standing-at f (sym e) d.right_standing;
        beside = sides.2;
        from_low = omega arith;
        below_high = h.below_high;
      }

  -- the links of a row lead to rows
  pub children-here : {s : Slab R} {p : ℕ} {here : R} {t : SearchTree R} {low high : ℕ} → IsNode f s p here t low high → HasChildren f s p
  children-here {s} {here = here} d = record {
    row = here;
    at = d.at;
    left = λ q e. readable-left_part f d s q d.left_standing.spelled e;
    right = λ q e. readable-right_part f d s q d.right_standing.spelled e;
  }

  -- also after a change of one part
  module _ {s s1 : Slab R} {p n : ℕ} {here w : R} {t : SearchTree R} {low high b1 b2 : ℕ} {part : Change} (laws : AreLawful f) (d : IsNode f s p here t low high) where
    pub children-left : HasMoved f s s1 n w d.left low (f.rank d.row) part b1 b2 → HasChildren f s1 p
    children-left sub = record {
      row = here;
      at = stays_left f d sub.becomes.kept;
      left = λ q e. ContainsKey-place_of f s1 (moved f n w d.left) q sub.becomes.spelled (place-moved f n w d.left ∙ (d.left_standing.is_at ∙ e));
      right = λ q e. readable-right_part f d s1 q (right_kept f d laws sub.becomes.kept) e;
    }

    pub children-right : HasMoved f s s1 n w d.right (f.rank d.row + 1) high part b1 b2 → HasChildren f s1 p
    children-right sub = record {
      row = here;
      at = stays_right f d sub.becomes.kept;
      left = λ q e. readable-left_part f d s1 q (left_kept f d laws sub.becomes.kept) e;
      right = λ q e. ContainsKey-place_of f s1 (moved f n w d.right) q sub.becomes.spelled (place-moved f n w d.right ∙ (d.right_standing.is_at ∙ e));
    }

  -- what was put in place of a row, over the children that were read
  pub put-read : {s s2 : Slab R} {p : ℕ} {had w : R} {l r : Option (Child R)} {c : Child R} {change : Change}
      → l ≡ child_at s (f.left had) → r ≡ child_at s (f.right had)
      → Updates s s2 p (Some (f.linked w l r)) → c ≡ record { link = p; row = f.linked w l r } → (change ≡ Hidden → AreAlike f had c.row)
      → IsPut f s s2 p had w change
  put-read {s} {s2} {p} {had} {w} {l} {r} {c} {change} left right u child hidden =
      let row_is : f.linked w l r ≡ f.linked w (child_at s (f.left had)) (child_at s (f.right had)) = rw (left, right) refl in
      record {
        updates = subst (λ y. Updates s s2 p (Some y)) row_is u;
        hidden = λ e. subst (AreAlike f had) (ap (λ d. d.row) child ∙ row_is) (hidden e);
      }
