-- The rows of a tree as a list: what insertion, removal and look-up are of it.
use Rattle.std.proofs.Common.{◌≡◌, ℕ, ◌+◌, ◌<◌, ◌≤◌, Bool, true, false, not, cond, ltb, leb, eqb, List, [], ◌∷◌, ◌++◌, length, Option, None, Some, is_some, refl, sym, ap, ◌∙◌, subst, inl, inr, arith}
use Rattle.std.specs.List.{filter, find, AllByRecursion}
use Rattle.std.specs.Option.{option_or}
use Rattle.std.proofs.lemmas.Bool.{lt-ltb, le-ltb, le-leb, lt-leb, ne_eqb, cond-true, cond-false, cond_both, cases_order}
use Rattle.std.proofs.lemmas.List.{append_assoc, append-nil}
use Rattle.std.proofs.lemmas.Grind.{common_steps}
use Rattle.std.proofs.lemmas.List.Elements.{filter-append}
use Rattle.std.proofs.lemmas.List.Folds.{find-append}
use Rattle.balanced_tree.specs.Row.{Functions, AreLawful, plain}
use Rattle.balanced_tree.specs.Rows.{row_at, row_from, row_to, with_row, without_rank, IsBeside, AreAllBeside, RisesWithin}
use Rattle.balanced_tree.specs.inside.Tree.{SearchTree, Leaf, Node, is_leaf, rows_of, IsOrdered, has_rank, row_in, found, inserted, least, without_least, without_root, removed, moved, AreBeside}
use Rattle.balanced_tree.proofs.TreeLaws.{rows-balanced, moved-left, moved-right, moved-here, ordered-below, ordered-above}

pub option_or-none : {A : Type 0} (o : Option A) → option_or o None ≡ o
option_or-none None = refl
option_or-none (Some x) = refl

option_or-some : {A : Type 0} (o : Option A) (x : A) (p : Option A) → option_or (option_or o (Some x)) p ≡ option_or o (Some x)
option_or-some None x p = refl
option_or-some (Some y) x p = refl

option_or-within : {A : Type 0} (o p q : Option A) → option_or (option_or o p) q ≡ option_or o (option_or p q)
option_or-within None p q = refl
option_or-within (Some x) p q = refl

module _ {R : Type 0} (f : Functions R) where
  RisesWithin-bounds : (low high : ℕ) (xs : List R) → RisesWithin f low high xs → low ≤ high
  RisesWithin-bounds low high [] h = h
  RisesWithin-bounds low high (x ∷ xs) h = omega (arith, h.0, RisesWithin-bounds (f.rank x + 1) high xs h.1)

  -- what a test of the rank keeps of rising rows where it passes all ranks between the bounds, or none
  filter-all : (q : ℕ → Bool) (low high : ℕ) (xs : List R) → RisesWithin f low high xs → ((n : ℕ) → low ≤ n → n < high → q n ≡ true) → filter (λ x. q (f.rank x)) xs ≡ xs
  filter-all q low high [] h p = refl
  filter-all q low high (x ∷ xs) h p =
      let end = RisesWithin-bounds (f.rank x + 1) high xs h.1 in
      let from = h.0 in
      let rest : filter (λ x. q (f.rank x)) xs ≡ xs = filter-all q (f.rank x + 1) high xs h.1 (λ n g e. p n (omega arith) e) in
      cond-true (q (f.rank x)) (x ∷ filter (λ x. q (f.rank x)) xs) (filter (λ x. q (f.rank x)) xs) (p (f.rank x) h.0 (omega arith)) ∙ ap (λ l. x ∷ l) rest

  filter-none : (q : ℕ → Bool) (low high : ℕ) (xs : List R) → RisesWithin f low high xs → ((n : ℕ) → low ≤ n → n < high → q n ≡ false) → filter (λ x. q (f.rank x)) xs ≡ []
  filter-none q low high [] h p = refl
  filter-none q low high (x ∷ xs) h p =
      let end = RisesWithin-bounds (f.rank x + 1) high xs h.1 in
      let from = h.0 in
      cond-false (q (f.rank x)) (x ∷ filter (λ x. q (f.rank x)) xs) (filter (λ x. q (f.rank x)) xs) (p (f.rank x) h.0 (omega arith))
      ∙ filter-none q (f.rank x + 1) high xs h.1 (λ n g e. p n (omega arith) e)

  find-none : (q : ℕ → Bool) (low high : ℕ) (xs : List R) → RisesWithin f low high xs → ((n : ℕ) → low ≤ n → n < high → q n ≡ false) → find (λ x. q (f.rank x)) xs ≡ None
  find-none q low high [] h p = refl
  find-none q low high (x ∷ xs) h p =
      let end = RisesWithin-bounds (f.rank x + 1) high xs h.1 in
      let from = h.0 in
      cond-false (q (f.rank x)) (Some x) (find (λ x. q (f.rank x)) xs) (p (f.rank x) h.0 (omega arith))
      ∙ find-none q (f.rank x + 1) high xs h.1 (λ n g e. p n (omega arith) e)

  -- rising rows on both sides of a row
  pub RisesWithin-join : (low high : ℕ) (xs : List R) (y : R) (ys : List R) → RisesWithin f low (f.rank y) xs → RisesWithin f (f.rank y + 1) high ys → RisesWithin f low high (xs ++ y ∷ ys)
  RisesWithin-join low high [] y ys h g = (h, g)
  RisesWithin-join low high (x ∷ xs) y ys h g = (h.0, RisesWithin-join (f.rank x + 1) high xs y ys h.1 g)

  row_to-append : (n : ℕ) (xs ys : List R) → row_to f n (xs ++ ys) ≡ option_or (row_to f n ys) (row_to f n xs)
  row_to-append n [] ys = sym (option_or-none (row_to f n ys))
  row_to-append n (x ∷ xs) ys =
      let here = cond (leb (f.rank x) n) (Some x) None in
      ap (λ o. option_or o here) (row_to-append n xs ys) ∙ option_or-within (row_to f n ys) (row_to f n xs) here

  row_to-behind : (n low high : ℕ) (xs : List R) → RisesWithin f low high xs → n < low → row_to f n xs ≡ None
  row_to-behind n low high [] h less = refl
  row_to-behind n low high (x ∷ xs) h less =
      let from = h.0 in
      ap (λ o. option_or o (cond (leb (f.rank x) n) (Some x) None)) (row_to-behind n (f.rank x + 1) high xs h.1 (omega arith))
      ∙ cond-false (leb (f.rank x) n) (Some x) None (lt-leb (f.rank x) n (omega arith))

  RisesWithin-lower : (low more high : ℕ) (xs : List R) → low ≤ more → RisesWithin f more high xs → RisesWithin f low high xs
  RisesWithin-lower low more high [] less h = omega arith
  RisesWithin-lower low more high (x ∷ xs) less h = (omega (arith, h.0), h.1)

  -- rows that are left rise as before
  pub rises-filter : (keeps : R → Bool) (low high : ℕ) (xs : List R) → RisesWithin f low high xs → RisesWithin f low high (filter keeps xs)
  rises-filter keeps low high [] h = h
  rises-filter keeps low high (x ∷ xs) h =
      let rest = rises-filter keeps (f.rank x + 1) high xs h.1 in
      cond_both (keeps x) (x ∷ filter keeps xs) (filter keeps xs) (RisesWithin f low high)
      (λ _. (h.0, rest)) (λ _. RisesWithin-lower low (f.rank x + 1) high (filter keeps xs) (omega (arith, h.0)) rest)

  below-left : (n : ℕ) (xs : List R) → filter (λ y. ltb (f.rank y) n) (filter (λ y. not (eqb (f.rank y) n)) xs) ≡ filter (λ y. ltb (f.rank y) n) xs
  below-left n [] = refl
  below-left n (x ∷ xs) = grind (arith, common_steps, below-left n xs)

  above-left : (n : ℕ) (xs : List R) → filter (λ y. ltb n (f.rank y)) (filter (λ y. not (eqb (f.rank y) n)) xs) ≡ filter (λ y. ltb n (f.rank y)) xs
  above-left n [] = refl
  above-left n (x ∷ xs) = grind (arith, common_steps, above-left n xs)

  -- a row comes in place of the one of its rank, also where that one went before
  pub with_row-without : (x : R) (rows : List R) → with_row f x (without_rank f (f.rank x) rows) ≡ with_row f x rows
  with_row-without x rows = rw (below-left (f.rank x) rows, above-left (f.rank x) rows) refl

  below : R → R → Bool
  below x y = ltb (f.rank y) (f.rank x)

  module _ (x y : R) (low high : ℕ) (xs ys : List R) (left : RisesWithin f low (f.rank y) xs) (right : RisesWithin f (f.rank y + 1) high ys) where
    whole_right : RisesWithin f (f.rank y) high (y ∷ ys)
    whole_right = (omega arith, right)

    with_row-left : f.rank x < f.rank y → with_row f x (xs ++ y ∷ ys) ≡ with_row f x xs ++ y ∷ ys
    with_row-left h =
        let less : filter (λ z. ltb (f.rank z) (f.rank x)) (y ∷ ys) ≡ [] = filter-none (λ n. ltb n (f.rank x)) (f.rank y) high (y ∷ ys) whole_right (λ n g e. le-ltb n (f.rank x) (omega arith)) in
        let more : filter (λ z. ltb (f.rank x) (f.rank z)) (y ∷ ys) ≡ y ∷ ys = filter-all (λ n. ltb (f.rank x) n) (f.rank y) high (y ∷ ys) whole_right (λ n g e. lt-ltb (f.rank x) n (omega arith)) in
        simp (filter-append, less, more, append-nil, append_assoc)

    with_row-right : f.rank y < f.rank x → with_row f x (xs ++ y ∷ ys) ≡ xs ++ y ∷ with_row f x ys
    with_row-right h =
        let less : filter (λ z. ltb (f.rank z) (f.rank x)) xs ≡ xs = filter-all (λ n. ltb n (f.rank x)) low (f.rank y) xs left (λ n g e. lt-ltb n (f.rank x) (omega arith)) in
        let more : filter (λ z. ltb (f.rank x) (f.rank z)) xs ≡ [] = filter-none (λ n. ltb (f.rank x) n) low (f.rank y) xs left (λ n g e. le-ltb (f.rank x) n (omega arith)) in
        let at_y = lt-ltb (f.rank y) (f.rank x) h in
        let not_y = le-ltb (f.rank x) (f.rank y) (omega arith) in
        simp (filter-append, less, more, at_y, not_y, append_assoc)

    with_row-here : f.rank x ≡ f.rank y → with_row f x (xs ++ y ∷ ys) ≡ xs ++ x ∷ ys
    with_row-here h =
        let less : filter (λ z. ltb (f.rank z) (f.rank x)) xs ≡ xs = filter-all (λ n. ltb n (f.rank x)) low (f.rank y) xs left (λ n g e. lt-ltb n (f.rank x) (omega arith)) in
        let more : filter (λ z. ltb (f.rank x) (f.rank z)) xs ≡ [] = filter-none (λ n. ltb (f.rank x) n) low (f.rank y) xs left (λ n g e. le-ltb (f.rank x) n (omega arith)) in
        let no_less : filter (λ z. ltb (f.rank z) (f.rank x)) (y ∷ ys) ≡ [] = filter-none (λ n. ltb n (f.rank x)) (f.rank y) high (y ∷ ys) whole_right (λ n g e. le-ltb n (f.rank x) (omega arith)) in
        let not_y = le-ltb (f.rank x) (f.rank y) (omega arith) in
        let all_more : filter (λ z. ltb (f.rank x) (f.rank z)) ys ≡ ys = filter-all (λ n. ltb (f.rank x) n) (f.rank y + 1) high ys right (λ n g e. lt-ltb (f.rank x) n (omega arith)) in
        simp (filter-append, less, more, no_less, not_y, all_more, append-nil)

  module _ (n : ℕ) (y : R) (low high : ℕ) (xs ys : List R) (left : RisesWithin f low (f.rank y) xs) (right : RisesWithin f (f.rank y + 1) high ys) where
    differs : (a b : ℕ) → (a ≡ b → ⊥) → not (eqb a b) ≡ true
    differs a b h = ap not (ne_eqb a b h)

    without_rank-left : n < f.rank y → without_rank f n (xs ++ y ∷ ys) ≡ without_rank f n xs ++ y ∷ ys
    without_rank-left h =
        let all = filter-all (λ m. not (eqb m n)) (f.rank y) high (y ∷ ys) (omega arith, right) (λ m g e. differs m n (λ q. absurd (omega arith))) in
        grind (arith, common_steps, filter-append (λ z. not (eqb (f.rank z) n)) xs (y ∷ ys))

    without_rank-right : f.rank y < n → without_rank f n (xs ++ y ∷ ys) ≡ xs ++ y ∷ without_rank f n ys
    without_rank-right h =
        let all = filter-all (λ m. not (eqb m n)) low (f.rank y) xs left (λ m g e. differs m n (λ q. absurd (omega arith))) in
        grind (arith, common_steps, filter-append (λ z. not (eqb (f.rank z) n)) xs (y ∷ ys))

    without_rank-here : n ≡ f.rank y → without_rank f n (xs ++ y ∷ ys) ≡ xs ++ ys
    without_rank-here h =
        let all = filter-all (λ m. not (eqb m n)) low (f.rank y) xs left (λ m g e. differs m n (λ q. absurd (omega arith))) in
        let rest = filter-all (λ m. not (eqb m n)) (f.rank y + 1) high ys right (λ m g e. differs m n (λ q. absurd (omega arith))) in
        grind (arith, common_steps, filter-append (λ z. not (eqb (f.rank z) n)) xs (y ∷ ys))

    row_from-left : n < f.rank y → row_from f n (xs ++ y ∷ ys) ≡ option_or (row_from f n xs) (Some y)
    row_from-left h = grind (arith, common_steps, find-append (λ z. leb n (f.rank z)) xs (y ∷ ys))

    row_from-right : f.rank y < n → row_from f n (xs ++ y ∷ ys) ≡ row_from f n ys
    row_from-right h = let none = find-none (λ m. leb n m) low (f.rank y) xs left (λ m g e. lt-leb n m (omega arith)) in grind (arith, common_steps, find-append (λ z. leb n (f.rank z)) xs (y ∷ ys))

    row_from-here : n ≡ f.rank y → row_from f n (xs ++ y ∷ ys) ≡ Some y
    row_from-here h = let none = find-none (λ m. leb n m) low (f.rank y) xs left (λ m g e. lt-leb n m (omega arith)) in grind (arith, common_steps, find-append (λ z. leb n (f.rank z)) xs (y ∷ ys))

    row_to-left : n < f.rank y → row_to f n (xs ++ y ∷ ys) ≡ row_to f n xs
    row_to-left h =
        row_to-append n xs (y ∷ ys)
        ∙ ap (λ o. option_or o (row_to f n xs)) (row_to-behind n (f.rank y) high (y ∷ ys) (omega arith, right) h)

    row_to-here : f.rank y ≤ n → row_to f n (xs ++ y ∷ ys) ≡ option_or (row_to f n ys) (Some y)
    row_to-here h =
        row_to-append n xs (y ∷ ys) ∙ option_or-within (row_to f n ys) _ (row_to f n xs)
        ∙ ap (λ o. option_or (row_to f n ys) (option_or o (row_to f n xs))) (cond-true (leb (f.rank y) n) (Some y) None (le-leb (f.rank y) n h))

    row_at-left : n < f.rank y → row_at f n (xs ++ y ∷ ys) ≡ row_at f n xs
    row_at-left h =
        let none = find-none (λ m. eqb m n) (f.rank y) high (y ∷ ys) (omega arith, right) (λ m g e. ne_eqb m n (λ q. absurd (omega arith))) in
        grind (arith, common_steps, find-append (λ z. eqb (f.rank z) n) xs (y ∷ ys), option_or-none (row_at f n xs))

    row_at-right : f.rank y < n → row_at f n (xs ++ y ∷ ys) ≡ row_at f n ys
    row_at-right h = let none = find-none (λ m. eqb m n) low (f.rank y) xs left (λ m g e. ne_eqb m n (λ q. absurd (omega arith))) in grind (arith, common_steps, find-append (λ z. eqb (f.rank z) n) xs (y ∷ ys))

    row_at-here : n ≡ f.rank y → row_at f n (xs ++ y ∷ ys) ≡ Some y
    row_at-here h = let none = find-none (λ m. eqb m n) low (f.rank y) xs left (λ m g e. ne_eqb m n (λ q. absurd (omega arith))) in grind (arith, common_steps, find-append (λ z. eqb (f.rank z) n) xs (y ∷ ys))

  module _ (laws : AreLawful f) where
    rank-plain : (x : R) → f.rank (plain f x) ≡ f.rank x
    rank-plain x = laws.rank_kept x None None

    -- the rows of an ordered tree rise
    pub rises-rows : (low high : ℕ) (t : SearchTree R) → IsOrdered f low high t → RisesWithin f low high (rows_of f t)
    rises-rows low high Leaf h = h
    rises-rows low high (Node l p x r) h =
        RisesWithin-join low high (rows_of f l) (plain f x) (rows_of f r)
        (subst (λ k. RisesWithin f low k (rows_of f l)) (sym (rank-plain x)) (rises-rows low (f.rank x) l h.0))
        (subst (λ k. RisesWithin f (k + 1) high (rows_of f r)) (sym (rank-plain x)) (rises-rows (f.rank x + 1) high r h.1))

    -- both sides of a node
    record Sides (low high : ℕ) (l : SearchTree R) (x : R) (r : SearchTree R) : Type 0 where
      pub left : RisesWithin f low (f.rank (plain f x)) (rows_of f l)
      pub right : RisesWithin f (f.rank (plain f x) + 1) high (rows_of f r)

    sides : (low high : ℕ) (l : SearchTree R) (p : ℕ) (x : R) (r : SearchTree R) → IsOrdered f low high (Node l p x r) → Sides low high l x r
    sides low high l p x r h =
        record {
          left = subst (λ k. RisesWithin f low k (rows_of f l)) (sym (rank-plain x)) (rises-rows low (f.rank x) l h.0);
          right = subst (λ k. RisesWithin f (k + 1) high (rows_of f r)) (sym (rank-plain x)) (rises-rows (f.rank x + 1) high r h.1);
        }

    pub rows-inserted : (q : ℕ) (w : R) (low high : ℕ) (t : SearchTree R) → IsOrdered f low high t → rows_of f (inserted f q w t) ≡ with_row f (plain f w) (rows_of f t)
    unfolding inserted
    rows-inserted q w low high Leaf h = refl
    rows-inserted q w low high (Node l p x r) h =
        let s = sides low high l p x r h in
        let here = with_row-here (plain f w) (plain f x) low high (rows_of f l) (rows_of f r) s.left s.right in
        let left = with_row-left (plain f w) (plain f x) low high (rows_of f l) (rows_of f r) s.left s.right in
        let right = with_row-right (plain f w) (plain f x) low high (rows_of f l) (rows_of f r) s.left s.right in
        grind (arith, common_steps, rank-plain, rows-balanced f, rows-inserted q w low (f.rank x) l h.0, rows-inserted q w (f.rank x + 1) high r h.1)

    rows-without_least : (d : R) (t : SearchTree R) → is_leaf t ≡ false → plain f (least f t d) ∷ rows_of f (without_least f t) ≡ rows_of f t
    unfolding without_least
    rows-without_least d Leaf h = cc
    rows-without_least d (Node Leaf p x r) h = refl
    rows-without_least d (Node (Node a q y b) p x r) h =
        ap (λ u. plain f (least f a y) ∷ u) (rows-balanced f (without_least f (Node a q y b)) p x r)
        ∙ ap (λ u. u ++ plain f x ∷ rows_of f r) (rows-without_least x (Node a q y b) refl)

    rows-without_root : (l : SearchTree R) (p : ℕ) (x : R) (r : SearchTree R) → rows_of f (without_root f (Node l p x r)) ≡ rows_of f l ++ rows_of f r
    unfolding without_root
    rows-without_root l p x Leaf = sym (append-nil (rows_of f l))
    rows-without_root l p x (Node a q y b) =
        rows-balanced f l p (least f a y) (without_least f (Node a q y b)) ∙ ap (λ u. rows_of f l ++ u) (rows-without_least x (Node a q y b) refl)

    pub rows-removed : (n low high : ℕ) (t : SearchTree R) → IsOrdered f low high t → rows_of f (removed f n t) ≡ without_rank f n (rows_of f t)
    unfolding removed
    rows-removed n low high Leaf h = refl
    rows-removed n low high (Node l p x r) h =
        let s = sides low high l p x r h in
        let here = without_rank-here n (plain f x) low high (rows_of f l) (rows_of f r) s.left s.right in
        let left = without_rank-left n (plain f x) low high (rows_of f l) (rows_of f r) s.left s.right in
        let right = without_rank-right n (plain f x) low high (rows_of f l) (rows_of f r) s.left s.right in
        let root = rows-without_root l p x r in
        grind (arith, common_steps, rank-plain, rows-balanced f, rows-removed n low (f.rank x) l h.0, rows-removed n (f.rank x + 1) high r h.1)

    -- a row between others
    with_row-between : (w : R) (low high : ℕ) (xs ys : List R) → RisesWithin f low (f.rank w) xs → RisesWithin f (f.rank w + 1) high ys → with_row f w (xs ++ ys) ≡ xs ++ w ∷ ys
    with_row-between w low high xs ys left right =
        ap (with_row f w) (sym (without_rank-here (f.rank w) w low high xs ys left right refl))
        ∙ (with_row-without w (xs ++ w ∷ ys) ∙ with_row-here w w low high xs ys left right refl)

    -- a row comes in place of one of another rank, and no other lies between
    pub rows-moved : (n : ℕ) (w : R) (low high : ℕ) (t : SearchTree R) → IsOrdered f low high t → AreBeside f n (f.rank w) t → low ≤ f.rank w → f.rank w < high → has_rank f n t ≡ true
        → rows_of f (moved f n w t) ≡ with_row f (plain f w) (without_rank f n (rows_of f t))
    rows-moved n w low high Leaf o b g h there = absurd cc
    rows-moved n w low high (Node l p x r) o b g h there =
        let s = sides low high l p x r o in
        let ex = rank-plain x in
        let ew = rank-plain w in
        let xs = rows_of f l in
        let ys = rows_of f r in
        elim (cases_order n (f.rank x)) [
          | inl same ↦
              let lower : RisesWithin f low (f.rank (plain f w)) xs = subst (λ k. RisesWithin f low k (rows_of f l)) (sym ew) (rises-rows low (f.rank w) l (ordered-below f n (f.rank w) low (f.rank x) l o.0 b.1 (omega arith) g)) in
              let upper : RisesWithin f (f.rank (plain f w) + 1) high ys = subst (λ k. RisesWithin f (k + 1) high (rows_of f r)) (sym ew) (rises-rows (f.rank w + 1) high r (ordered-above f n (f.rank w) (f.rank x + 1) high r o.1 b.2 (omega arith) h)) in
              ap (rows_of f) (moved-here f n w l p x r same)
              ∙ sym (ap (with_row f (plain f w)) (without_rank-here n (plain f x) low high xs ys s.left s.right (omega arith))
              ∙ with_row-between (plain f w) low high xs ys lower upper)
          | inr (inl less) ↦
              let inside : has_rank f n l ≡ true = sym (ap is_some (cond-true (ltb n (f.rank x)) _ _ (lt-ltb n (f.rank x) less))) ∙ there in
              let before = b.0.1 less in
              ap (rows_of f) (moved-left f n w l p x r less)
              ∙ (ap (λ u. u ++ plain f x ∷ rows_of f r) (rows-moved n w low (f.rank x) l o.0 b.1 g before inside)
              ∙ sym (ap (with_row f (plain f w)) (without_rank-left n (plain f x) low high xs ys s.left s.right (omega arith))
              ∙ with_row-left (plain f w) (plain f x) low high (without_rank f n xs) ys (rises-filter _ low (f.rank (plain f x)) xs s.left) s.right (omega arith)))
          | inr (inr more) ↦
              let inside : has_rank f n r ≡ true = sym (ap is_some (cond-false (ltb n (f.rank x)) _ _ (le-ltb n (f.rank x) (omega arith)) ∙ cond-true (ltb (f.rank x) n) _ _ (lt-ltb (f.rank x) n more))) ∙ there in
              let behind = b.0.0 more in
              ap (rows_of f) (moved-right f n w l p x r more)
              ∙ (ap (λ u. rows_of f l ++ plain f x ∷ u) (rows-moved n w (f.rank x + 1) high r o.1 b.2 (omega arith) h inside)
              ∙ sym (ap (with_row f (plain f w)) (without_rank-right n (plain f x) low high xs ys s.left s.right (omega arith))
              ∙ with_row-right (plain f w) (plain f x) low high xs (without_rank f n ys) s.left (rises-filter _ (f.rank (plain f x) + 1) high ys s.right) (omega arith)))
        ]

    all-parts : (P : R → Type 0) (xs : List R) (y : R) (ys : List R) → AllByRecursion P (xs ++ y ∷ ys) → AllByRecursion P xs × P y × AllByRecursion P ys
    all-parts P [] y ys h = (tt, h.0, h.1)
    all-parts P (x ∷ xs) y ys h = let rest = all-parts P xs y ys h.1 in ((h.0, rest.0), rest.1, rest.2)

    -- a rank is beside itself
    pub beside-itself : (n : ℕ) (rows : List R) → AreAllBeside f n n rows
    beside-itself n [] = tt
    beside-itself n (x ∷ rows) = ((λ less. less, λ more. more), beside-itself n rows)

    -- a row comes in place of the one of its rank
    pub with_row-again : (x : R) (rows : List R) → with_row f (plain f x) (without_rank f (f.rank x) rows) ≡ with_row f (plain f x) rows
    with_row-again x rows = ap (λ k. with_row f (plain f x) (without_rank f k rows)) (sym (rank-plain x)) ∙ with_row-without (plain f x) rows

    -- the same is said of the rows and of the tree
    pub beside-rows : (n m : ℕ) (t : SearchTree R) → AreAllBeside f n m (rows_of f t) → AreBeside f n m t
    beside-rows n m Leaf h = tt
    beside-rows n m (Node l p x r) h =
        let parts = all-parts (IsBeside f n m) (rows_of f l) (plain f x) (rows_of f r) h in
        (subst (λ k. (k < n → k < m) × (n < k → m < k)) (rank-plain x) parts.1, beside-rows n m l parts.0, beside-rows n m r parts.2)

    -- what the way down finds
    pub found-row_from : (n : ℕ) (best : Option R) (low high : ℕ) (t : SearchTree R) → IsOrdered f low high t → found f false n best t ≡ option_or (row_from f n (rows_of f t)) best
    found-row_from n best low high Leaf h = refl
    found-row_from n best low high (Node l p x r) h =
        let s = sides low high l p x r h in
        let here = row_from-here n (plain f x) low high (rows_of f l) (rows_of f r) s.left s.right in
        let left = row_from-left n (plain f x) low high (rows_of f l) (rows_of f r) s.left s.right in
        let right = row_from-right n (plain f x) low high (rows_of f l) (rows_of f r) s.left s.right in
        let on_left = found-row_from n (Some (plain f x)) low (f.rank x) l h.0 in
        let on_right = found-row_from n best (f.rank x + 1) high r h.1 in
        grind (arith, common_steps, rank-plain, option_or-some (row_from f n (rows_of f l)) (plain f x) best)

    pub found-row_to : (n : ℕ) (best : Option R) (low high : ℕ) (t : SearchTree R) → IsOrdered f low high t → found f true n best t ≡ option_or (row_to f n (rows_of f t)) best
    found-row_to n best low high Leaf h = refl
    found-row_to n best low high (Node l p x r) h =
        let s = sides low high l p x r h in
        let ex = rank-plain x in
        elim (cases_order n (f.rank x)) [
          | inl same ↦
              cond-false (ltb n (f.rank x)) _ _ (le-ltb n (f.rank x) (omega arith)) ∙ cond-false (ltb (f.rank x) n) _ _ (le-ltb (f.rank x) n (omega arith))
              ∙ sym (ap (λ o. option_or o best) (row_to-here n (plain f x) low high (rows_of f l) (rows_of f r) s.left s.right (omega arith)
              ∙ ap (λ o. option_or o (Some (plain f x))) (row_to-behind n (f.rank (plain f x) + 1) high (rows_of f r) s.right (omega arith))))
          | inr (inl less) ↦
              cond-true (ltb n (f.rank x)) _ _ (lt-ltb n (f.rank x) less) ∙ found-row_to n best low (f.rank x) l h.0
              ∙ sym (ap (λ o. option_or o best) (row_to-left n (plain f x) low high (rows_of f l) (rows_of f r) s.left s.right (omega arith)))
          | inr (inr more) ↦
              cond-false (ltb n (f.rank x)) _ _ (le-ltb n (f.rank x) (omega arith)) ∙ cond-true (ltb (f.rank x) n) _ _ (lt-ltb (f.rank x) n more) ∙ found-row_to n (Some (plain f x)) (f.rank x + 1) high r h.1
              ∙ sym (ap (λ o. option_or o best) (row_to-here n (plain f x) low high (rows_of f l) (rows_of f r) s.left s.right (omega arith))
              ∙ option_or-some (row_to f n (rows_of f r)) (plain f x) best)
        ]

    pub row_in-row_at : (n low high : ℕ) (t : SearchTree R) → IsOrdered f low high t → row_in f n t ≡ row_at f n (rows_of f t)
    row_in-row_at n low high Leaf h = refl
    row_in-row_at n low high (Node l p x r) h =
        let s = sides low high l p x r h in
        let here = row_at-here n (plain f x) low high (rows_of f l) (rows_of f r) s.left s.right in
        let left = row_at-left n (plain f x) low high (rows_of f l) (rows_of f r) s.left s.right in
        let right = row_at-right n (plain f x) low high (rows_of f l) (rows_of f r) s.left s.right in
        grind (arith, common_steps, rank-plain, row_in-row_at n low (f.rank x) l h.0, row_in-row_at n (f.rank x + 1) high r h.1)

    pub length-inserted : (q : ℕ) (w : R) (t : SearchTree R) → length (rows_of f (inserted f q w t)) ≡ length (rows_of f t) + cond (has_rank f (f.rank w) t) 0 1
    unfolding inserted
    length-inserted q w Leaf = refl
    length-inserted q w (Node l p x r) = grind (arith, common_steps, rows-balanced f, length-inserted q w l, length-inserted q w r)

    pub length-removed : (n : ℕ) (t : SearchTree R) → length (rows_of f (removed f n t)) + cond (has_rank f n t) 1 0 ≡ length (rows_of f t)
    unfolding removed
    length-removed n Leaf = refl
    length-removed n (Node l p x r) =
        grind (arith, common_steps, rows-balanced f, rows-without_root l p x r, length-removed n l, length-removed n r)
