-- What insertion and removal make of a tree's rows, heights and balance.
use Rattle.std.proofs.Common.{◌≡◌, ◌⊎◌, inl, inr, ℕ, ◌+◌, ◌<◌, ◌≤◌, ◌^◌, max, true, cond, ltb, List, ◌∷◌, ◌++◌, length, length-append, refl, sym, ap, ◌∙◌, subst, arith}
use Rattle.std.proofs.lemmas.Bool.{ltb-true, ltb-false, cond_both, cond-true, cond-false, lt-ltb, le-ltb, cases_order}
use Rattle.std.proofs.lemmas.Grind.{common_steps}
use Rattle.std.proofs.lemmas.List.{append_assoc}
use Rattle.balanced_tree.specs.Row.{Functions, AreLawful, plain}
use Rattle.balanced_tree.specs.inside.Tree.{SearchTree, Leaf, Node, is_leaf, height, IsBalanced, stored, rows_of, leaned_right, leaned_left, balanced, inserted, least, without_least, without_root, removed, place_of, IsOrdered, moved, AreBeside}
use Rattle.balanced_tree.proofs.Spelling.{IsOrdered-bounds}
use Rattle.balanced_tree.proofs.Nodes.{stored-short}

module _ {R : Type 0} (f : Functions R) where
  -- the rows of a node
  abbrev pub joined_rows : SearchTree R → R → SearchTree R → List R
  joined_rows l x r = rows_of f l ++ plain f x ∷ rows_of f r

  rows-leaned_right : (l : SearchTree R) (p : ℕ) (x : R) (r : SearchTree R) → rows_of f (leaned_right f l p x r) ≡ joined_rows l x r
  unfolding leaned_right
  rows-leaned_right Leaf p x r = refl
  rows-leaned_right (Node a j y Leaf) p x r = simp append_assoc
  rows-leaned_right (Node a j y (Node c k z d)) p x r = grind (arith, common_steps, append_assoc {A = R})

  rows-leaned_left : (l : SearchTree R) (p : ℕ) (x : R) (r : SearchTree R) → rows_of f (leaned_left f l p x r) ≡ joined_rows l x r
  unfolding leaned_left
  rows-leaned_left l p x Leaf = refl
  rows-leaned_left l p x (Node Leaf j y b) = simp append_assoc
  rows-leaned_left l p x (Node (Node c k z d) j y b) = grind (arith, common_steps, append_assoc {A = R})

  -- a rotation keeps the rows and their order
  pub rows-balanced : (l : SearchTree R) (p : ℕ) (x : R) (r : SearchTree R) → rows_of f (balanced f l p x r) ≡ joined_rows l x r
  unfolding balanced
  rows-balanced l p x r = grind (arith, common_steps, rows-leaned_right l p x r, rows-leaned_left l p x r)

  -- what a node is balanced to: as high as the higher part or one higher, and one higher where no rotation is needed
  pub record IsSettled (l r t : SearchTree R) : Type 0 where
    pub good : IsBalanced t
    pub at_least : max (height l) (height r) ≤ height t
    pub at_most : height t ≤ max (height l) (height r) + 1
    pub level : (height t ≡ max (height l) (height r) + 1) ⊎ ((height l ≡ height r + 2) ⊎ (height r ≡ height l + 2))

  settled-leaned_right : AreLawful f → (l : SearchTree R) (p : ℕ) (x : R) (r : SearchTree R) → IsBalanced l → IsBalanced r → height l ≡ height r + 2 → height l < 2 ^ 31 → IsSettled l r (leaned_right f l p x r)
  unfolding leaned_right
  settled-leaned_right laws Leaf p x r hl hr two short = absurd (omega arith)
  settled-leaned_right laws (Node a j y Leaf) p x r hl hr two short =
      let h1 = hl.0 in let h2 = hl.1 in
      record { good = (omega arith, omega arith, hl.2, (omega arith, omega arith, tt, hr)); at_least = omega arith; at_most = omega arith; level = inr (inl two) }
  settled-leaned_right laws (Node a j y (Node c k z d)) p x r hl hr two short =
      let h1 = hl.0 in let h2 = hl.1 in let g1 = hl.3.0 in let g2 = hl.3.1 in
      let sa = stored-short f laws a (omega arith) in
      let sb = stored-short f laws (Node c k z d) (omega arith) in
      cond_both (ltb (stored f a) (stored f (Node c k z d))) (Node (Node a j y c) k z (Node d p x r)) (Node a j y (Node (Node c k z d) p x r))
      (IsSettled (Node a j y (Node c k z d)) r)
      (λ e. let q = ltb-true (stored f a) (stored f (Node c k z d)) e in record {
        good = (omega arith, omega arith, (omega arith, omega arith, hl.2, hl.3.2), (omega arith, omega arith, hl.3.3, hr));
        at_least = omega arith;
        at_most = omega arith;
        level = inr (inl two);
      })
      (λ e. let q = ltb-false (stored f a) (stored f (Node c k z d)) e in record {
        good = (omega arith, omega arith, hl.2, (omega arith, omega arith, hl.3, hr));
        at_least = omega arith;
        at_most = omega arith;
        level = inr (inl two);
      })

  settled-leaned_left : AreLawful f → (l : SearchTree R) (p : ℕ) (x : R) (r : SearchTree R) → IsBalanced l → IsBalanced r → height r ≡ height l + 2 → height r < 2 ^ 31 → IsSettled l r (leaned_left f l p x r)
  unfolding leaned_left
  settled-leaned_left laws l p x Leaf hl hr two short = absurd (omega arith)
  settled-leaned_left laws l p x (Node Leaf j y b) hl hr two short =
      let h1 = hr.0 in let h2 = hr.1 in
      record { good = (omega arith, omega arith, (omega arith, omega arith, hl, tt), hr.3); at_least = omega arith; at_most = omega arith; level = inr (inr two) }
  settled-leaned_left laws l p x (Node (Node c k z d) j y b) hl hr two short =
      let h1 = hr.0 in let h2 = hr.1 in let g1 = hr.2.0 in let g2 = hr.2.1 in
      let sa = stored-short f laws b (omega arith) in
      let sb = stored-short f laws (Node c k z d) (omega arith) in
      cond_both (ltb (stored f b) (stored f (Node c k z d))) (Node (Node l p x c) k z (Node d j y b)) (Node (Node l p x (Node c k z d)) j y b)
      (IsSettled l (Node (Node c k z d) j y b))
      (λ e. let q = ltb-true (stored f b) (stored f (Node c k z d)) e in record {
        good = (omega arith, omega arith, (omega arith, omega arith, hl, hr.2.2), (omega arith, omega arith, hr.2.3, hr.3));
        at_least = omega arith;
        at_most = omega arith;
        level = inr (inr two);
      })
      (λ e. let q = ltb-false (stored f b) (stored f (Node c k z d)) e in record {
        good = (omega arith, omega arith, (omega arith, omega arith, hl, hr.2), hr.3);
        at_least = omega arith;
        at_most = omega arith;
        level = inr (inr two);
      })

  pub settled-balanced : AreLawful f → (l : SearchTree R) (p : ℕ) (x : R) (r : SearchTree R) → IsBalanced l → IsBalanced r → height l ≤ height r + 2 → height r ≤ height l + 2 → height l < 2 ^ 31 → height r < 2 ^ 31 → IsSettled l r (balanced f l p x r)
  unfolding balanced
  settled-balanced laws l p x r hl hr g h short_l short_r =
      let sl = stored-short f laws l (omega arith) in
      let sr = stored-short f laws r (omega arith) in
      cond_both (ltb (stored f r + 1) (stored f l)) (leaned_right f l p x r) (cond (ltb (stored f l + 1) (stored f r)) (leaned_left f l p x r) (Node l p x r))
      (IsSettled l r)
      (λ e. settled-leaned_right laws l p x r hl hr (omega (arith, ltb-true (stored f r + 1) (stored f l) e)) short_l)
      (λ e. cond_both (ltb (stored f l + 1) (stored f r)) (leaned_left f l p x r) (Node l p x r) (IsSettled l r)
      (λ q. settled-leaned_left laws l p x r hl hr (omega (arith, ltb-true (stored f l + 1) (stored f r) q)) short_r)
      (λ q. (let q1 = ltb-false (stored f r + 1) (stored f l) e in let q2 = ltb-false (stored f l + 1) (stored f r) q in
      record { good = (omega arith, omega arith, hl, hr); at_least = omega arith; at_most = omega arith; level = inl refl })))

  -- a tree that is balanced, and as high as another or one higher
  pub record IsGrown (t u : SearchTree R) : Type 0 where
    pub good : IsBalanced u
    pub at_least : height t ≤ height u
    pub at_most : height u ≤ height t + 1

  pub grown-inserted : AreLawful f → (q : ℕ) (w : R) (t : SearchTree R) → IsBalanced t → height t + 1 < 2 ^ 31 → IsGrown t (inserted f q w t)
  unfolding inserted
  grown-inserted laws q w Leaf h short = record { good = (omega arith, omega arith, tt, tt); at_least = omega arith; at_most = omega arith }
  grown-inserted laws q w (Node l p x r) h short =
      let h1 = h.0 in let h2 = h.1 in
      cond_both (ltb (f.rank w) (f.rank x)) (balanced f (inserted f q w l) p x r) (cond (ltb (f.rank x) (f.rank w)) (balanced f l p x (inserted f q w r)) (Node l p w r))
      (IsGrown (Node l p x r))
      (λ e. let sub = grown-inserted laws q w l h.2 (omega arith) in
      let s = settled-balanced laws (inserted f q w l) p x r sub.good h.3 (omega (arith, sub.at_most)) (omega (arith, sub.at_least)) (omega (arith, sub.at_most)) (omega arith) in
      record { good = s.good; at_least = omega (arith, sub.at_least, s.at_least, s.level); at_most = omega (arith, sub.at_most, s.at_most) })
      (λ e. cond_both (ltb (f.rank x) (f.rank w)) (balanced f l p x (inserted f q w r)) (Node l p w r) (IsGrown (Node l p x r))
      (λ g. let sub = grown-inserted laws q w r h.3 (omega arith) in
      let s = settled-balanced laws l p x (inserted f q w r) h.2 sub.good (omega (arith, sub.at_least)) (omega (arith, sub.at_most)) (omega arith) (omega (arith, sub.at_most)) in
      record { good = s.good; at_least = omega (arith, sub.at_least, s.at_least, s.level); at_most = omega (arith, sub.at_most, s.at_most) })
      (λ g. record { good = h; at_least = omega arith; at_most = omega arith }))

  -- a tree that is balanced, and as high as another or one lower
  pub record IsShrunk (t u : SearchTree R) : Type 0 where
    pub good : IsBalanced u
    pub at_most : height u ≤ height t
    pub at_least : height t ≤ height u + 1

  shrunk-left : AreLawful f → (l u : SearchTree R) (p : ℕ) (x y : R) (r : SearchTree R) → IsBalanced (Node l p x r) → height (Node l p x r) < 2 ^ 31 → IsShrunk l u → IsShrunk (Node l p x r) (balanced f u p y r)
  shrunk-left laws l u p x y r h short sub =
      let h1 = h.0 in let h2 = h.1 in let g1 = sub.at_least in let g2 = sub.at_most in
      let s = settled-balanced laws u p y r sub.good h.3 (omega arith) (omega arith) (omega arith) (omega arith) in
      record { good = s.good; at_most = omega (arith, s.at_most, s.level); at_least = omega (arith, s.at_least, s.level) }

  shrunk-right : AreLawful f → (l u : SearchTree R) (p : ℕ) (x y : R) (r : SearchTree R) → IsBalanced (Node l p x r) → height (Node l p x r) < 2 ^ 31 → IsShrunk r u → IsShrunk (Node l p x r) (balanced f l p y u)
  shrunk-right laws l u p x y r h short sub =
      let h1 = h.0 in let h2 = h.1 in let g1 = sub.at_least in let g2 = sub.at_most in
      let s = settled-balanced laws l p y u h.2 sub.good (omega arith) (omega arith) (omega arith) (omega arith) in
      record { good = s.good; at_most = omega (arith, s.at_most, s.level); at_least = omega (arith, s.at_least, s.level) }

  shrunk-without_least : AreLawful f → (t : SearchTree R) → IsBalanced t → height t < 2 ^ 31 → IsShrunk t (without_least f t)
  unfolding without_least
  shrunk-without_least laws Leaf h short = record { good = tt; at_most = omega arith; at_least = omega arith }
  shrunk-without_least laws (Node l p x r) h short =
      let h1 = h.0 in let h2 = h.1 in
      cond_both (is_leaf l) r (balanced f (without_least f l) p x r) (IsShrunk (Node l p x r))
      (λ e. record { good = h.3; at_most = omega arith; at_least = omega (arith, height-leaf l e) })
      (λ e. shrunk-left laws l (without_least f l) p x x r h short (shrunk-without_least laws l h.2 (omega arith)))
    where
      height-leaf : (t : SearchTree R) → is_leaf t ≡ true → height t ≡ 0
      height-leaf Leaf e = refl
      height-leaf (Node l p x r) e = cc

  shrunk-without_root : AreLawful f → (l : SearchTree R) (p : ℕ) (x : R) (r : SearchTree R) → IsBalanced (Node l p x r) → height (Node l p x r) < 2 ^ 31 → IsShrunk (Node l p x r) (without_root f (Node l p x r))
  unfolding without_root
  shrunk-without_root laws l p x Leaf h short = let h1 = h.0 in let h2 = h.1 in record { good = h.2; at_most = omega arith; at_least = omega arith }
  shrunk-without_root laws l p x (Node a q y b) h short =
      shrunk-right laws l (without_least f (Node a q y b)) p x (least f a y) (Node a q y b) h short (shrunk-without_least laws (Node a q y b) h.3 (omega arith))

  pub shrunk-removed : AreLawful f → (n : ℕ) (t : SearchTree R) → IsBalanced t → height t < 2 ^ 31 → IsShrunk t (removed f n t)
  unfolding removed
  shrunk-removed laws n Leaf h short = record { good = tt; at_most = omega arith; at_least = omega arith }
  shrunk-removed laws n (Node l p x r) h short =
      cond_both (ltb n (f.rank x)) (balanced f (removed f n l) p x r) (cond (ltb (f.rank x) n) (balanced f l p x (removed f n r)) (without_root f (Node l p x r)))
      (IsShrunk (Node l p x r))
      (λ e. shrunk-left laws l (removed f n l) p x x r h short (shrunk-removed laws n l h.2 (omega arith)))
      (λ e. cond_both (ltb (f.rank x) n) (balanced f l p x (removed f n r)) (without_root f (Node l p x r)) (IsShrunk (Node l p x r))
      (λ g. shrunk-right laws l (removed f n r) p x x r h short (shrunk-removed laws n r h.3 (omega arith)))
      (λ g. shrunk-without_root laws l p x r h short))

-- ---- a row that comes in place of another

module _ {R : Type 0} (f : Functions R) (n : ℕ) (w : R) where
  pub moved-left : (l : SearchTree R) (p : ℕ) (x : R) (r : SearchTree R) → n < f.rank x → moved f n w (Node l p x r) ≡ Node (moved f n w l) p x r
  unfolding moved
  moved-left l p x r h = cond-true (ltb n (f.rank x)) _ _ (lt-ltb _ _ h)

  pub moved-right : (l : SearchTree R) (p : ℕ) (x : R) (r : SearchTree R) → f.rank x < n → moved f n w (Node l p x r) ≡ Node l p x (moved f n w r)
  unfolding moved
  moved-right l p x r h = cond-false (ltb n (f.rank x)) _ _ (le-ltb _ _ (omega arith)) ∙ cond-true (ltb (f.rank x) n) _ _ (lt-ltb _ _ h)

  pub moved-here : (l : SearchTree R) (p : ℕ) (x : R) (r : SearchTree R) → n ≡ f.rank x → moved f n w (Node l p x r) ≡ Node l p w r
  unfolding moved
  moved-here l p x r h = cond-false (ltb n (f.rank x)) _ _ (le-ltb _ _ (omega arith)) ∙ cond-false (ltb (f.rank x) n) _ _ (le-ltb _ _ (omega arith))

  pub moved-leaf : moved f n w Leaf ≡ Leaf
  unfolding moved
  moved-leaf = refl

  -- each row keeps its place and its height
  pub place-moved : (t : SearchTree R) → place_of (moved f n w t) ≡ place_of t
  place-moved Leaf = ap place_of moved-leaf
  place-moved (Node l p x r) = elim (cases_order n (f.rank x)) [
    | inl same ↦ ap place_of (moved-here l p x r same)
    | inr (inl less) ↦ ap place_of (moved-left l p x r less)
    | inr (inr more) ↦ ap place_of (moved-right l p x r more)
  ]

  pub height-moved : (t : SearchTree R) → height (moved f n w t) ≡ height t
  height-moved Leaf = ap height moved-leaf
  height-moved (Node l p x r) = elim (cases_order n (f.rank x)) [
    | inl same ↦ ap height (moved-here l p x r same)
    | inr (inl less) ↦ ap height (moved-left l p x r less) ∙ ap (λ k. max k (height r) + 1) (height-moved l)
    | inr (inr more) ↦ ap height (moved-right l p x r more) ∙ ap (λ k. max (height l) k + 1) (height-moved r)
  ]

  pub balanced-moved : (t : SearchTree R) → IsBalanced t → IsBalanced (moved f n w t)
  balanced-moved Leaf h = subst IsBalanced (sym moved-leaf) tt
  balanced-moved (Node l p x r) h = elim (cases_order n (f.rank x)) [
    | inl same ↦ subst IsBalanced (sym (moved-here l p x r same)) h
    | inr (inl less) ↦
        let same = height-moved l in
        subst IsBalanced (sym (moved-left l p x r less)) (omega (arith, h.0), omega (arith, h.1), balanced-moved l h.2, h.3)
    | inr (inr more) ↦
        let same = height-moved r in
        subst IsBalanced (sym (moved-right l p x r more)) (omega (arith, h.0), omega (arith, h.1), h.2, balanced-moved r h.3)
  ]

  pub length-moved : (t : SearchTree R) → length (rows_of f (moved f n w t)) ≡ length (rows_of f t)
  length-moved Leaf = ap (λ t. length (rows_of f t)) moved-leaf
  length-moved (Node l p x r) = elim (cases_order n (f.rank x)) [
    | inl same ↦
        let is = ap (λ t. length (rows_of f t)) (moved-here l p x r same) in
        omega (arith, is, length-append (rows_of f l) (plain f w ∷ rows_of f r), length-append (rows_of f l) (plain f x ∷ rows_of f r))
    | inr (inl less) ↦
        let is = ap (λ t. length (rows_of f t)) (moved-left l p x r less) in
        omega (arith, is, length-moved l, length-append (rows_of f (moved f n w l)) (plain f x ∷ rows_of f r), length-append (rows_of f l) (plain f x ∷ rows_of f r))
    | inr (inr more) ↦
        let is = ap (λ t. length (rows_of f t)) (moved-right l p x r more) in
        omega (arith, is, length-moved r, length-append (rows_of f l) (plain f x ∷ rows_of f (moved f n w r)), length-append (rows_of f l) (plain f x ∷ rows_of f r))
  ]

-- rows that lie before the old rank lie before the new one, and so behind
module _ {R : Type 0} (f : Functions R) (n m : ℕ) where
  pub ordered-below : (low high : ℕ) (t : SearchTree R) → IsOrdered f low high t → AreBeside f n m t → high ≤ n → low ≤ m → IsOrdered f low m t
  ordered-below low high Leaf o b h g = g
  ordered-below low high (Node l p x r) o b h g =
      let end = IsOrdered-bounds f (f.rank x + 1) high r o.1 in
      let less = b.0.0 (omega arith) in
      (o.0, ordered-below (f.rank x + 1) high r o.1 b.2 h (omega arith))

  pub ordered-above : (low high : ℕ) (t : SearchTree R) → IsOrdered f low high t → AreBeside f n m t → n < low → m < high → IsOrdered f (m + 1) high t
  ordered-above low high Leaf o b h g = omega arith
  ordered-above low high (Node l p x r) o b h g =
      let from = IsOrdered-bounds f low (f.rank x) l o.0 in
      let more = b.0.1 (omega arith) in
      (ordered-above low (f.rank x) l o.0 b.1 h more, o.1)
