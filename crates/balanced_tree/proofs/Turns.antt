-- The rotations: rows that are put over their parts one after another spell the tree that is turned.
use Rattle.std.proofs.Common.{◌≡◌, ℕ, ◌+◌, ◌<◌, ◌≤◌, cond, ltb, Option, None, Some, refl, sym, ap, ◌∙◌, subst, inl, inr, arith}
use Rattle.std.proofs.lemmas.Bool.{cond-true, cond-false, lt-ltb, le-ltb}
use Rattle.std.proofs.lemmas.Option.{same_Some}
use Rattle.slab.specs.Slab.{Slab, Updates}
use Rattle.balanced_tree.specs.declared.children.Child.{Child}
use Rattle.balanced_tree.specs.Row.{Functions, AreLawful, height_in}
use Rattle.balanced_tree.specs.inside.Tree.{SearchTree, Leaf, Node, place_of, child_of, stored, leaned_right, leaned_left, balanced}
use Rattle.balanced_tree.specs.inside.Standing.{child_at, Spells, Same, Keeps, IsSplit, height_at}
use Rattle.balanced_tree.proofs.Spelling.{link_of-child_of, child_at-place_of, height_at-link, IsOrdered-bounds, Spells-kept, Keeps-trans, Keeps-wider, Same-linked, IsPlaced, split_over, split_with, place_over-tree, picked-is, picked-test, not_picked}

module _ {R : Type 0} (f : Functions R) where
  -- a second row is put over parts among which the first was put
  IsPlaced-after : {s s1 s2 : Slab R} {u : SearchTree R} {low high a b : ℕ} {d : Child R} → low ≤ a → b ≤ high → Keeps f a b s s1 → IsPlaced f s1 s2 u low high d → IsPlaced f s s2 u low high d
  IsPlaced-after {low = low} {high = high} g h one two =
      record {
        becomes = record {
          spelled = two.becomes.spelled;
          ordered = two.becomes.ordered;
          kept = Keeps-trans f (Keeps-wider f low high g h one) two.becomes.kept;
        };
        child = two.child;
      }

  pub once_right :
      {s s1 s2 : Slab R} {a b r : SearchTree R} {p j q i low high : ℕ} {x y w v : R} {cl cm cr : Option (Child R)} {lower upper : Child R}
      → AreLawful f
      → IsSplit f s (Node a j y b) p x r low high → Same f x w → Same f y v → i ≡ j → q ≡ p
      → cl ≡ child_of f a → cm ≡ child_of f b → cr ≡ child_of f r
      → Updates s s1 q (Some (f.linked w cm cr)) → lower ≡ record { link = q; row = f.linked w cm cr }
      → Updates s1 s2 i (Some (f.linked v cl (Some lower))) → upper ≡ record { link = i; row = f.linked v cl (Some lower) }
      → IsPlaced f s s2 (Node a j y (Node b p x r)) low high upper
  once_right {s} {s1} {s2} {a} {b} {r} {p} {j} {q} {i} {low} {high} {x} {y} laws split same_x same_y is_j is_p left middle right u1 lower_is u2 upper_is =
      let inner : IsSplit f s b p x r (f.rank y + 1) high = split_with f split refl split.at split.left.2 split.right split.left_ordered.1 split.right_ordered in
      let one = place_over-tree f laws inner same_x middle right is_p u1 lower_is in
      let had = f.linked y (child_of f a) (child_of f b) in
      let rank_is : f.rank had ≡ f.rank y = laws.rank_kept y _ _ in
      let below = IsOrdered-bounds f low (f.rank y) a split.left_ordered.0 in
      let outer : IsSplit f s1 a j y (Node b p x r) low high = split_over f (one.becomes.kept.kept j had split.left.0 (inl (omega arith))) rank_is (Spells-kept f low (f.rank y) a one.becomes.kept laws split.left_ordered.0 (inl (omega arith)) split.left.1) one.becomes.spelled split.left_ordered.0 one.becomes.ordered in
      IsPlaced-after (omega arith) (omega arith) one.becomes.kept (place_over-tree f laws outer same_y left one.child is_j u2 upper_is)

  pub once_left :
      {s s1 s2 : Slab R} {l a b : SearchTree R} {p j q i low high : ℕ} {x y w v : R} {cl cm cr : Option (Child R)} {lower upper : Child R}
      → AreLawful f
      → IsSplit f s l p x (Node a j y b) low high → Same f x w → Same f y v → i ≡ j → q ≡ p
      → cl ≡ child_of f l → cm ≡ child_of f a → cr ≡ child_of f b
      → Updates s s1 q (Some (f.linked w cl cm)) → lower ≡ record { link = q; row = f.linked w cl cm }
      → Updates s1 s2 i (Some (f.linked v (Some lower) cr)) → upper ≡ record { link = i; row = f.linked v (Some lower) cr }
      → IsPlaced f s s2 (Node (Node l p x a) j y b) low high upper
  once_left {s} {s1} {s2} {l} {a} {b} {p} {j} {q} {i} {low} {high} {x} {y} laws split same_x same_y is_j is_p left middle right u1 lower_is u2 upper_is =
      let inner : IsSplit f s l p x a low (f.rank y) = split_with f split refl split.at split.left split.right.1 split.left_ordered split.right_ordered.0 in
      let one = place_over-tree f laws inner same_x left middle is_p u1 lower_is in
      let had = f.linked y (child_of f a) (child_of f b) in
      let rank_is : f.rank had ≡ f.rank y = laws.rank_kept y _ _ in
      let above = IsOrdered-bounds f (f.rank y + 1) high b split.right_ordered.1 in
      let outer : IsSplit f s1 (Node l p x a) j y b low high = split_over f (one.becomes.kept.kept j had split.right.0 (inr (omega arith))) rank_is one.becomes.spelled (Spells-kept f (f.rank y + 1) high b one.becomes.kept laws split.right_ordered.1 (inr (omega arith)) split.right.2) one.becomes.ordered split.right_ordered.1 in
      IsPlaced-after (omega arith) (omega arith) one.becomes.kept (place_over-tree f laws outer same_y one.child right is_j u2 upper_is)

  pub twice_right :
      {s s1 s2 s3 : Slab R} {a c d r : SearchTree R} {p j k q i h low high : ℕ} {x y z w v u : R} {ca cc cd cr : Option (Child R)} {first last upper : Child R}
      → AreLawful f
      → IsSplit f s (Node a j y (Node c k z d)) p x r low high → Same f x w → Same f y v → Same f z u → i ≡ j → h ≡ k → q ≡ p
      → ca ≡ child_of f a → cc ≡ child_of f c → cd ≡ child_of f d → cr ≡ child_of f r
      → Updates s s1 i (Some (f.linked v ca cc)) → first ≡ record { link = i; row = f.linked v ca cc }
      → Updates s1 s2 q (Some (f.linked w cd cr)) → last ≡ record { link = q; row = f.linked w cd cr }
      → Updates s2 s3 h (Some (f.linked u (Some first) (Some last))) → upper ≡ record { link = h; row = f.linked u (Some first) (Some last) }
      → IsPlaced f s s3 (Node (Node a j y c) k z (Node d p x r)) low high upper
  twice_right {s} {s1} {s2} {s3} {a} {c} {d} {r} {p} {j} {k} {q} {i} {h} {low} {high} {x} {y} {z} laws split same_x same_y same_z is_j is_k is_p on_a on_c on_d on_r u1 first_is u2 last_is u3 upper_is =
      let had_y = f.linked y (child_of f a) (child_of f (Node c k z d)) in
      let rank_y : f.rank had_y ≡ f.rank y = laws.rank_kept y _ _ in
      let had_z = f.linked z (child_of f c) (child_of f d) in
      let rank_z : f.rank had_z ≡ f.rank z = laws.rank_kept z _ _ in
      let in_a = IsOrdered-bounds f low (f.rank y) a split.left_ordered.0 in
      let in_c = IsOrdered-bounds f (f.rank y + 1) (f.rank z) c split.left_ordered.1.0 in
      let in_d = IsOrdered-bounds f (f.rank z + 1) split.middle d split.left_ordered.1.1 in
      let in_r = IsOrdered-bounds f split.past high r split.right_ordered in
      let had_from : split.middle ≤ f.rank split.had = split.had_from in
      let had_below : f.rank split.had < split.past = split.had_below in
      let inner : IsSplit f s a j y c low (f.rank z) = split_over f split.left.0 rank_y split.left.1 split.left.2.1 split.left_ordered.0 split.left_ordered.1.0 in
      let one = place_over-tree f laws inner same_y on_a on_c is_j u1 first_is in
      let next : IsSplit f s1 d p x r (f.rank z + 1) high = split_with f split refl (one.becomes.kept.kept p split.had split.at (inr (omega arith))) (Spells-kept f (f.rank z + 1) split.middle d one.becomes.kept laws split.left_ordered.1.1 (inr (omega arith)) split.left.2.2) (Spells-kept f split.past high r one.becomes.kept laws split.right_ordered (inr (omega arith)) split.right) split.left_ordered.1.1 split.right_ordered in
      let two = place_over-tree f laws next same_x on_d on_r is_p u2 last_is in
      let outer : IsSplit f s2 (Node a j y c) k z (Node d p x r) low high = split_over f (two.becomes.kept.kept k had_z (one.becomes.kept.kept k had_z split.left.2.0 (inr (omega arith))) (inl (omega arith))) rank_z (Spells-kept f low (f.rank z) (Node a j y c) two.becomes.kept laws one.becomes.ordered (inl (omega arith)) one.becomes.spelled) two.becomes.spelled one.becomes.ordered two.becomes.ordered in
      let three = place_over-tree f laws outer same_z one.child two.child is_k u3 upper_is in
      IsPlaced-after (omega arith) (omega arith) one.becomes.kept (IsPlaced-after (omega arith) (omega arith) two.becomes.kept three)

  pub twice_left :
      {s s1 s2 s3 : Slab R} {l c d b : SearchTree R} {p j k q i h low high : ℕ} {x y z w v u : R} {cl cc cd cb : Option (Child R)} {first last upper : Child R}
      → AreLawful f
      → IsSplit f s l p x (Node (Node c k z d) j y b) low high → Same f x w → Same f y v → Same f z u → i ≡ j → h ≡ k → q ≡ p
      → cl ≡ child_of f l → cc ≡ child_of f c → cd ≡ child_of f d → cb ≡ child_of f b
      → Updates s s1 q (Some (f.linked w cl cc)) → first ≡ record { link = q; row = f.linked w cl cc }
      → Updates s1 s2 i (Some (f.linked v cd cb)) → last ≡ record { link = i; row = f.linked v cd cb }
      → Updates s2 s3 h (Some (f.linked u (Some first) (Some last))) → upper ≡ record { link = h; row = f.linked u (Some first) (Some last) }
      → IsPlaced f s s3 (Node (Node l p x c) k z (Node d j y b)) low high upper
  twice_left {s} {s1} {s2} {s3} {l} {c} {d} {b} {p} {j} {k} {q} {i} {h} {low} {high} {x} {y} {z} laws split same_x same_y same_z is_j is_k is_p on_l on_c on_d on_b u1 first_is u2 last_is u3 upper_is =
      let had_y = f.linked y (child_of f (Node c k z d)) (child_of f b) in
      let rank_y : f.rank had_y ≡ f.rank y = laws.rank_kept y _ _ in
      let had_z = f.linked z (child_of f c) (child_of f d) in
      let rank_z : f.rank had_z ≡ f.rank z = laws.rank_kept z _ _ in
      let in_l = IsOrdered-bounds f low split.middle l split.left_ordered in
      let in_c = IsOrdered-bounds f split.past (f.rank z) c split.right_ordered.0.0 in
      let in_d = IsOrdered-bounds f (f.rank z + 1) (f.rank y) d split.right_ordered.0.1 in
      let in_b = IsOrdered-bounds f (f.rank y + 1) high b split.right_ordered.1 in
      let had_from : split.middle ≤ f.rank split.had = split.had_from in
      let had_below : f.rank split.had < split.past = split.had_below in
      let inner : IsSplit f s l p x c low (f.rank z) = split_with f split refl split.at split.left split.right.1.1 split.left_ordered split.right_ordered.0.0 in
      let one = place_over-tree f laws inner same_x on_l on_c is_p u1 first_is in
      let next : IsSplit f s1 d j y b (f.rank z + 1) high = split_over f (one.becomes.kept.kept j had_y split.right.0 (inr (omega arith))) rank_y (Spells-kept f (f.rank z + 1) (f.rank y) d one.becomes.kept laws split.right_ordered.0.1 (inr (omega arith)) split.right.1.2) (Spells-kept f (f.rank y + 1) high b one.becomes.kept laws split.right_ordered.1 (inr (omega arith)) split.right.2) split.right_ordered.0.1 split.right_ordered.1 in
      let two = place_over-tree f laws next same_y on_d on_b is_j u2 last_is in
      let outer : IsSplit f s2 (Node l p x c) k z (Node d j y b) low high = split_over f (two.becomes.kept.kept k had_z (one.becomes.kept.kept k had_z split.right.1.0 (inr (omega arith))) (inl (omega arith))) rank_z (Spells-kept f low (f.rank z) (Node l p x c) two.becomes.kept laws one.becomes.ordered (inl (omega arith)) one.becomes.spelled) two.becomes.spelled one.becomes.ordered two.becomes.ordered in
      let three = place_over-tree f laws outer same_z one.child two.child is_k u3 upper_is in
      IsPlaced-after (omega arith) (omega arith) one.becomes.kept (IsPlaced-after (omega arith) (omega arith) two.becomes.kept three)

  -- a child that is the root of a tree
  record IsRoot (s : Slab R) (c : Child R) (a : SearchTree R) (j : ℕ) (y : R) (b : SearchTree R) : Type 0 where
    pub link : c.link ≡ j
    pub same : Same f y c.row
    pub left : child_at s (f.left c.row) ≡ child_of f a
    pub right : child_at s (f.right c.row) ≡ child_of f b

  IsRoot-child_of : AreLawful f → (s : Slab R) (a : SearchTree R) (j : ℕ) (y : R) (b : SearchTree R) (c : Child R) → Spells f s (Node a j y b) → Some c ≡ child_of f (Node a j y b) → IsRoot s c a j y b
  IsRoot-child_of laws s a j y b c h e =
      subst (λ d. IsRoot s d a j y b) (sym (same_Some _ _ e)) (record {
        link = refl;
        same = Same-linked f laws y _ _;
        left = ap (child_at s) (laws.left_set y _ _ ∙ link_of-child_of f a) ∙ child_at-place_of f s a h.1;
        right = ap (child_at s) (laws.right_set y _ _ ∙ link_of-child_of f b) ∙ child_at-place_of f s b h.2;
      })

  pub leaned_right-once :
      {s s1 s2 : Slab R} {p low high : ℕ} {x w : R} {cl cm picked cr : Option (Child R)} {left lower upper : Child R}
      (l r : SearchTree R) → AreLawful f
      → IsSplit f s l p x r low high → Same f x w → Some left ≡ child_of f l → cr ≡ child_of f r
      → cl ≡ child_at s (f.left left.row) → cm ≡ child_at s (f.right left.row)
      → picked ≡ cond (ltb (height_in f.height cl) (height_in f.height cm)) cm None → picked ≡ None
      → Updates s s1 p (Some (f.linked w cm cr)) → lower ≡ record { link = p; row = f.linked w cm cr }
      → Updates s1 s2 left.link (Some (f.linked left.row cl (Some lower))) → upper ≡ record { link = left.link; row = f.linked left.row cl (Some lower) }
      → IsPlaced f s s2 (leaned_right f l p x r) low high upper
  unfolding leaned_right
  leaned_right-once Leaf r laws split same left_is right_is on_l on_m e none u1 lower_is u2 upper_is = cc
  leaned_right-once {s} {left = left} (Node a j y Leaf) r laws split same left_is right_is on_l on_m e none u1 lower_is u2 upper_is =
      let root = IsRoot-child_of laws s a j y Leaf left split.left left_is in
      once_right laws split same root.same root.link refl (on_l ∙ root.left) (on_m ∙ root.right) right_is u1 lower_is u2 upper_is
  leaned_right-once {s} {s2 = s2} {p} {low} {high} {x} {cl = cl} {cm} {picked} {left = left} {upper = upper} (Node a j y (Node c k z d)) r laws split same left_is right_is on_l on_m e none u1 lower_is u2 upper_is =
      let root = IsRoot-child_of laws s a j y (Node c k z d) left split.left left_is in
      let test : ltb (height_in f.height cl) (height_in f.height cm) ≡ ltb (stored f a) (stored f (Node c k z d)) = rw (on_l ∙ root.left, on_m ∙ root.right) refl in
      let turn = sym test ∙ not_picked _ cm picked _ (on_m ∙ root.right) e none in
      subst (λ t. IsPlaced f s s2 t low high upper) (sym (cond-false (ltb (stored f a) (stored f (Node c k z d))) (Node (Node a j y c) k z (Node d p x r)) (Node a j y (Node (Node c k z d) p x r)) turn))
      (once_right laws split same root.same root.link refl (on_l ∙ root.left) (on_m ∙ root.right) right_is u1 lower_is u2 upper_is)

  pub leaned_right-twice :
      {s s1 s2 s3 : Slab R} {p low high : ℕ} {x w : R} {cl cm picked cc cd cr : Option (Child R)} {left middle first last upper : Child R}
      (l r : SearchTree R) → AreLawful f
      → IsSplit f s l p x r low high → Same f x w → Some left ≡ child_of f l → cr ≡ child_of f r
      → cl ≡ child_at s (f.left left.row) → cm ≡ child_at s (f.right left.row)
      → picked ≡ cond (ltb (height_in f.height cl) (height_in f.height cm)) cm None → picked ≡ Some middle
      → cc ≡ child_at s (f.left middle.row) → cd ≡ child_at s (f.right middle.row)
      → Updates s s1 left.link (Some (f.linked left.row cl cc)) → first ≡ record { link = left.link; row = f.linked left.row cl cc }
      → Updates s1 s2 p (Some (f.linked w cd cr)) → last ≡ record { link = p; row = f.linked w cd cr }
      → Updates s2 s3 middle.link (Some (f.linked middle.row (Some first) (Some last))) → upper ≡ record { link = middle.link; row = f.linked middle.row (Some first) (Some last) }
      → IsPlaced f s s3 (leaned_right f l p x r) low high upper
  unfolding leaned_right
  leaned_right-twice Leaf r laws split same left_is right_is on_l on_m e some on_c on_d u1 first_is u2 last_is u3 upper_is = cc
  leaned_right-twice {s} {cm = cm} {picked} {left = left} {middle} (Node a j y Leaf) r laws split same left_is right_is on_l on_m e some on_c on_d u1 first_is u2 last_is u3 upper_is =
      let root = IsRoot-child_of laws s a j y Leaf left split.left left_is in
      let none : None ≡ Some middle = sym (on_m ∙ root.right) ∙ picked-is _ cm picked middle e some in cc
  leaned_right-twice {s} {s3 = s3} {p} {low} {high} {x} {cl = cl} {cm} {picked} {left = left} {middle} {upper = upper} (Node a j y (Node c k z d)) r laws split same left_is right_is on_l on_m e some on_c on_d u1 first_is u2 last_is u3 upper_is =
      let root = IsRoot-child_of laws s a j y (Node c k z d) left split.left left_is in
      let inner = IsRoot-child_of laws s c k z d middle split.left.2 (sym (picked-is _ cm picked middle e some) ∙ on_m ∙ root.right) in
      let test : ltb (height_in f.height cl) (height_in f.height cm) ≡ ltb (stored f a) (stored f (Node c k z d)) = rw (on_l ∙ root.left, on_m ∙ root.right) refl in
      let turn = sym test ∙ picked-test _ cm picked middle e some in
      subst (λ t. IsPlaced f s s3 t low high upper) (sym (cond-true (ltb (stored f a) (stored f (Node c k z d))) (Node (Node a j y c) k z (Node d p x r)) (Node a j y (Node (Node c k z d) p x r)) turn))
      (twice_right laws split same root.same inner.same root.link inner.link refl (on_l ∙ root.left) (on_c ∙ inner.left) (on_d ∙ inner.right) right_is u1 first_is u2 last_is u3 upper_is)

  pub leaned_left-once :
      {s s1 s2 : Slab R} {p low high : ℕ} {x w : R} {cl cm picked cr : Option (Child R)} {right lower upper : Child R}
      (l r : SearchTree R) → AreLawful f
      → IsSplit f s l p x r low high → Same f x w → cl ≡ child_of f l → Some right ≡ child_of f r
      → cr ≡ child_at s (f.right right.row) → cm ≡ child_at s (f.left right.row)
      → picked ≡ cond (ltb (height_in f.height cr) (height_in f.height cm)) cm None → picked ≡ None
      → Updates s s1 p (Some (f.linked w cl cm)) → lower ≡ record { link = p; row = f.linked w cl cm }
      → Updates s1 s2 right.link (Some (f.linked right.row (Some lower) cr)) → upper ≡ record { link = right.link; row = f.linked right.row (Some lower) cr }
      → IsPlaced f s s2 (leaned_left f l p x r) low high upper
  unfolding leaned_left
  leaned_left-once l Leaf laws split same left_is right_is on_r on_m e none u1 lower_is u2 upper_is = cc
  leaned_left-once {s} {right = right} l (Node Leaf j y b) laws split same left_is right_is on_r on_m e none u1 lower_is u2 upper_is =
      let root = IsRoot-child_of laws s Leaf j y b right split.right right_is in
      once_left laws split same root.same root.link refl left_is (on_m ∙ root.left) (on_r ∙ root.right) u1 lower_is u2 upper_is
  leaned_left-once {s} {s2 = s2} {p} {low} {high} {x} {cm = cm} {picked} {cr} {right} {upper = upper} l (Node (Node c k z d) j y b) laws split same left_is right_is on_r on_m e none u1 lower_is u2 upper_is =
      let root = IsRoot-child_of laws s (Node c k z d) j y b right split.right right_is in
      let test : ltb (height_in f.height cr) (height_in f.height cm) ≡ ltb (stored f b) (stored f (Node c k z d)) = rw (on_r ∙ root.right, on_m ∙ root.left) refl in
      let turn = sym test ∙ not_picked _ cm picked _ (on_m ∙ root.left) e none in
      subst (λ t. IsPlaced f s s2 t low high upper) (sym (cond-false (ltb (stored f b) (stored f (Node c k z d))) (Node (Node l p x c) k z (Node d j y b)) (Node (Node l p x (Node c k z d)) j y b) turn))
      (once_left laws split same root.same root.link refl left_is (on_m ∙ root.left) (on_r ∙ root.right) u1 lower_is u2 upper_is)

  pub leaned_left-twice :
      {s s1 s2 s3 : Slab R} {p low high : ℕ} {x w : R} {cl cm picked cc cd cr : Option (Child R)} {right middle first last upper : Child R}
      (l r : SearchTree R) → AreLawful f
      → IsSplit f s l p x r low high → Same f x w → cl ≡ child_of f l → Some right ≡ child_of f r
      → cr ≡ child_at s (f.right right.row) → cm ≡ child_at s (f.left right.row)
      → picked ≡ cond (ltb (height_in f.height cr) (height_in f.height cm)) cm None → picked ≡ Some middle
      → cc ≡ child_at s (f.left middle.row) → cd ≡ child_at s (f.right middle.row)
      → Updates s s1 p (Some (f.linked w cl cc)) → first ≡ record { link = p; row = f.linked w cl cc }
      → Updates s1 s2 right.link (Some (f.linked right.row cd cr)) → last ≡ record { link = right.link; row = f.linked right.row cd cr }
      → Updates s2 s3 middle.link (Some (f.linked middle.row (Some first) (Some last))) → upper ≡ record { link = middle.link; row = f.linked middle.row (Some first) (Some last) }
      → IsPlaced f s s3 (leaned_left f l p x r) low high upper
  unfolding leaned_left
  leaned_left-twice l Leaf laws split same left_is right_is on_r on_m e some on_c on_d u1 first_is u2 last_is u3 upper_is = cc
  leaned_left-twice {s} {cm = cm} {picked} {right = right} {middle} l (Node Leaf j y b) laws split same left_is right_is on_r on_m e some on_c on_d u1 first_is u2 last_is u3 upper_is =
      let root = IsRoot-child_of laws s Leaf j y b right split.right right_is in
      let none : None ≡ Some middle = sym (on_m ∙ root.left) ∙ picked-is _ cm picked middle e some in cc
  leaned_left-twice {s} {s3 = s3} {p} {low} {high} {x} {cm = cm} {picked} {cr = cr} {right} {middle} {upper = upper} l (Node (Node c k z d) j y b) laws split same left_is right_is on_r on_m e some on_c on_d u1 first_is u2 last_is u3 upper_is =
      let root = IsRoot-child_of laws s (Node c k z d) j y b right split.right right_is in
      let inner = IsRoot-child_of laws s c k z d middle split.right.1 (sym (picked-is _ cm picked middle e some) ∙ on_m ∙ root.left) in
      let test : ltb (height_in f.height cr) (height_in f.height cm) ≡ ltb (stored f b) (stored f (Node c k z d)) = rw (on_r ∙ root.right, on_m ∙ root.left) refl in
      let turn = sym test ∙ picked-test _ cm picked middle e some in
      subst (λ t. IsPlaced f s s3 t low high upper) (sym (cond-true (ltb (stored f b) (stored f (Node c k z d))) (Node (Node l p x c) k z (Node d j y b)) (Node (Node l p x (Node c k z d)) j y b) turn))
      (twice_left laws split same root.same inner.same root.link inner.link refl left_is (on_c ∙ inner.left) (on_d ∙ inner.right) (on_r ∙ root.right) u1 first_is u2 last_is u3 upper_is)

  -- the heights under the links to the parts say which turn it is
  module _ {s : Slab R} {l r : SearchTree R} {p low high : ℕ} {x : R} {left right : Option ℕ} (split : IsSplit f s l p x r low high) (left_is : place_of l ≡ left) (right_is : place_of r ≡ right) where
    height_left : height_at f s left ≡ stored f l
    height_left = height_at-link f s l split.left left_is

    height_right : height_at f s right ≡ stored f r
    height_right = height_at-link f s r split.right right_is

    pub balanced-right : height_at f s right + 1 < height_at f s left → balanced f l p x r ≡ leaned_right f l p x r
    unfolding balanced
    balanced-right h = cond-true (ltb (stored f r + 1) (stored f l)) _ _ (lt-ltb _ _ (omega (arith, height_left, height_right)))

    pub balanced-left : height_at f s left + 1 < height_at f s right → balanced f l p x r ≡ leaned_left f l p x r
    unfolding balanced
    balanced-left h =
        cond-false (ltb (stored f r + 1) (stored f l)) _ _ (le-ltb _ _ (omega (arith, height_left, height_right))) ∙ cond-true (ltb (stored f l + 1) (stored f r)) _ _ (lt-ltb _ _ (omega (arith, height_left, height_right)))

    pub balanced-level : height_at f s left ≤ height_at f s right + 1 → height_at f s right ≤ height_at f s left + 1 → balanced f l p x r ≡ Node l p x r
    unfolding balanced
    balanced-level g h =
        cond-false (ltb (stored f r + 1) (stored f l)) _ _ (le-ltb _ _ (omega (arith, height_left, height_right))) ∙ cond-false (ltb (stored f l + 1) (stored f r)) _ _ (le-ltb _ _ (omega (arith, height_left, height_right)))
