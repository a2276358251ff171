-- What putting a row into a tree does, case by case.
use Rattle.std.proofs.Common.{◌≡◌, ℕ, ◌+◌, ◌<◌, ◌≤◌, cond, ltb, Option, None, Some, refl, sym, ap, ◌∙◌, subst, arith}
use Rattle.std.proofs.lemmas.Bool.{lt-ltb, le-ltb, cond-true, cond-false}
use Rattle.slab.specs.Slab.{Slab, get, slab_len, Updates}
use Rattle.balanced_tree.specs.declared.changes.Change.{Change}
use Rattle.balanced_tree.specs.declared.changes.Change.TheVariants.{Hidden, Root}
use Rattle.balanced_tree.specs.Row.{Functions, AreLawful}
use Rattle.balanced_tree.specs.inside.Tree.{SearchTree, Leaf, Node, place_of, child_of, balanced, inserted}
use Rattle.balanced_tree.specs.inside.Standing.{child_under, root_after, IsRooted, Same, IsStanding, Becomes, IsSplit, HasInserted}
use Rattle.balanced_tree.proofs.Spelling.{Keeps-trans}
use Rattle.balanced_tree.proofs.Nodes.{IsNode, rank_here, height-left, height-right, same_again, left_again, right_again, again_left, again_right, split_left, split_right, kept_wider_left, kept_wider_right, has_rank-left, has_rank-right}
use Rattle.balanced_tree.proofs.Hiding.{rooted-at, rooted-hidden, rooted-link, rooted-again, still-left, still-right, becomes-still, even-left, even-right}

module _ {R : Type 0} (f : Functions R) where
  pub inserted-left : (q : ℕ) (w : R) (l : SearchTree R) (p : ℕ) (x : R) (r : SearchTree R) → f.rank w < f.rank x → inserted f q w (Node l p x r) ≡ balanced f (inserted f q w l) p x r
  unfolding inserted
  inserted-left q w l p x r h = cond-true (ltb (f.rank w) (f.rank x)) _ _ (lt-ltb _ _ h)

  pub inserted-right : (q : ℕ) (w : R) (l : SearchTree R) (p : ℕ) (x : R) (r : SearchTree R) → f.rank x < f.rank w → inserted f q w (Node l p x r) ≡ balanced f l p x (inserted f q w r)
  unfolding inserted
  inserted-right q w l p x r h = cond-false (ltb (f.rank w) (f.rank x)) _ _ (le-ltb _ _ (omega arith)) ∙ cond-true (ltb (f.rank x) (f.rank w)) _ _ (lt-ltb _ _ h)

  -- what `balance` says of the trees that it is given
  abbrev pub Balances : Slab R → Slab R → ℕ → R → Option ℕ → Option ℕ → ℕ → Type 0
  Balances s s1 p w left right root =
      (l : SearchTree R) (x : R) (r : SearchTree R) (low high : ℕ) → IsSplit f s l p x r low high → Same f x w → place_of l ≡ left → place_of r ≡ right
      → Becomes f s s1 (balanced f l p x r) low high × (place_of (balanced f l p x r) ≡ Some root)

  -- what `rebalance` says of them
  abbrev pub Rebalances : Slab R → Slab R → ℕ → R → Option ℕ → Option ℕ → Change → Type 0
  Rebalances s s1 p w left right change =
      (l : SearchTree R) (x : R) (r : SearchTree R) (low high : ℕ) → IsSplit f s l p x r low high → Same f x w → place_of l ≡ left → place_of r ≡ right
      → Becomes f s s1 (balanced f l p x r) low high × IsRooted f (child_under p (Some w)) (balanced f l p x r) change

  -- a change of a part, and then one of the whole
  pub Becomes-left : {s s1 s2 : Slab R} {p : ℕ} {here : R} {t u l : SearchTree R} {low high : ℕ} (n : IsNode f s p here t low high) → Becomes f s s1 l low (f.rank n.row) → Becomes f s1 s2 u low high → Becomes f s s2 u low high
  Becomes-left n one two = record { spelled = two.spelled; ordered = two.ordered; kept = Keeps-trans f (kept_wider_left f n one.kept) two.kept }

  pub Becomes-right : {s s1 s2 : Slab R} {p : ℕ} {here : R} {t u r : SearchTree R} {low high : ℕ} (n : IsNode f s p here t low high) → Becomes f s s1 r (f.rank n.row + 1) high → Becomes f s1 s2 u low high → Becomes f s s2 u low high
  Becomes-right n one two = record { spelled = two.spelled; ordered = two.ordered; kept = Keeps-trans f (kept_wider_right f n one.kept) two.kept }

  pub insert-left :
      {s s1 s2 : Slab R} {p : ℕ} {here again w : R} {t : SearchTree R} {low high before b1 b2 after : ℕ} {left right : Option ℕ} {part change : Change}
      → AreLawful f → (n : IsNode f s p here t low high) → f.rank w < f.rank here
      → HasInserted f s s1 w n.left low (f.rank n.row) part b1 b2 → left ≡ root_after part (f.left here)
      → get s1 p ≡ Some again → right ≡ f.right again
      → Rebalances s1 s2 p again left right change
      → slab_len s2 ≡ slab_len s1 → b1 ≤ before + 1 → after ≤ b2 + 13
      → HasInserted f s s2 w t low high change before after
  insert-left {s} {s1} {s2} {p} {here} {w = w} {low = low} {high} laws n less sub link_is e on_right balance len g1 g2 =
      let q = s.vacant_key in
      let again_is = again_left f n sub.becomes.kept e in
      let made = balance _ n.row n.right low high (split_left f n laws sub.becomes) (same_again f n again_is) (rooted-link f n.left sub.rooted n.left_standing.is_at ∙ sym link_is) (right_again f n again_is on_right) in
      let is = ap (inserted f q w) n.is ∙ inserted-left q w n.left p n.row n.right (omega (arith, rank_here f n)) in
      record {
        becomes = Becomes-left n sub.becomes (subst (λ u. Becomes f s1 s2 u low high) (sym is) made.0);
        rooted = rooted-again f laws n again_is is made.1;
        len = len ∙ sub.len ∙ ap (λ b. slab_len s + cond b 0 1) (sym (has_rank-left f n (f.rank w) less));
        steps = omega (arith, sub.steps, height-left f n);
      }

  pub insert-right :
      {s s1 s2 : Slab R} {p : ℕ} {here again w : R} {t : SearchTree R} {low high before b1 b2 after : ℕ} {left right : Option ℕ} {part change : Change}
      → AreLawful f → (n : IsNode f s p here t low high) → f.rank here < f.rank w
      → HasInserted f s s1 w n.right (f.rank n.row + 1) high part b1 b2 → right ≡ root_after part (f.right here)
      → get s1 p ≡ Some again → left ≡ f.left again
      → Rebalances s1 s2 p again left right change
      → slab_len s2 ≡ slab_len s1 → b1 ≤ before + 1 → after ≤ b2 + 13
      → HasInserted f s s2 w t low high change before after
  insert-right {s} {s1} {s2} {p} {here} {w = w} {low = low} {high} laws n more sub link_is e on_left balance len g1 g2 =
      let q = s.vacant_key in
      let again_is = again_right f n sub.becomes.kept e in
      let made = balance n.left n.row _ low high (split_right f n laws sub.becomes) (same_again f n again_is) (left_again f n again_is on_left) (rooted-link f n.right sub.rooted n.right_standing.is_at ∙ sym link_is) in
      let is = ap (inserted f q w) n.is ∙ inserted-right q w n.left p n.row n.right (omega (arith, rank_here f n)) in
      record {
        becomes = Becomes-right n sub.becomes (subst (λ u. Becomes f s1 s2 u low high) (sym is) made.0);
        rooted = rooted-again f laws n again_is is made.1;
        len = len ∙ sub.len ∙ ap (λ b. slab_len s + cond b 0 1) (sym (has_rank-right f n (f.rank w) more));
        steps = omega (arith, sub.steps, height-right f n);
      }

  -- the row hides the change of a part
  pub insert-left_hidden :
      {s s1 : Slab R} {p : ℕ} {here w : R} {t : SearchTree R} {low high before b1 b2 : ℕ} {part : Change}
      → AreLawful f → (n : IsNode f s p here t low high) → f.rank w < f.rank here
      → HasInserted f s s1 w n.left low (f.rank n.row) part b1 b2 → part ≡ Hidden → b1 ≤ before + 1
      → HasInserted f s s1 w t low high Hidden before b2
  insert-left_hidden {s} {s1} {p} {w = w} {t} {low} {high} laws n less sub is_hidden g =
      let q = s.vacant_key in
      let like = sub.rooted.hidden is_hidden in
      let is = ap (inserted f q w) n.is ∙ inserted-left q w n.left p n.row n.right (omega (arith, rank_here f n)) ∙ even-left f laws n (inserted f q w n.left) like in
      let still = still-left f laws n sub.becomes.spelled sub.becomes.ordered sub.becomes.kept like in
      record {
        becomes = subst (λ u. Becomes f s s1 u low high) (sym is) (becomes-still f still);
        rooted = subst (λ u. IsRooted f (child_of f t) u Hidden) (sym is) (rooted-hidden f still.like);
        len = sub.len ∙ ap (λ b. slab_len s + cond b 0 1) (sym (has_rank-left f n (f.rank w) less));
        steps = omega (arith, sub.steps, height-left f n);
      }

  pub insert-right_hidden :
      {s s1 : Slab R} {p : ℕ} {here w : R} {t : SearchTree R} {low high before b1 b2 : ℕ} {part : Change}
      → AreLawful f → (n : IsNode f s p here t low high) → f.rank here < f.rank w
      → HasInserted f s s1 w n.right (f.rank n.row + 1) high part b1 b2 → part ≡ Hidden → b1 ≤ before + 1
      → HasInserted f s s1 w t low high Hidden before b2
  insert-right_hidden {s} {s1} {p} {w = w} {t} {low} {high} laws n more sub is_hidden g =
      let q = s.vacant_key in
      let like = sub.rooted.hidden is_hidden in
      let is = ap (inserted f q w) n.is ∙ inserted-right q w n.left p n.row n.right (omega (arith, rank_here f n)) ∙ even-right f laws n (inserted f q w n.right) like in
      let still = still-right f laws n sub.becomes.spelled sub.becomes.ordered sub.becomes.kept like in
      record {
        becomes = subst (λ u. Becomes f s s1 u low high) (sym is) (becomes-still f still);
        rooted = subst (λ u. IsRooted f (child_of f t) u Hidden) (sym is) (rooted-hidden f still.like);
        len = sub.len ∙ ap (λ b. slab_len s + cond b 0 1) (sym (has_rank-right f n (f.rank w) more));
        steps = omega (arith, sub.steps, height-right f n);
      }

  pub insert-leaf_tree : (q : ℕ) (w : R) → inserted f q w Leaf ≡ Node Leaf q w Leaf
  unfolding inserted
  insert-leaf_tree q w = refl

  pub insert-leaf :
      {s s2 : Slab R} {w : R} {low high before after link : ℕ}
      (t : SearchTree R) → IsStanding f s None t low high → low ≤ f.rank w → f.rank w < high
      → get s link ≡ None → link ≡ s.vacant_key
      → Updates s s2 link (Some (f.linked w None None)) → slab_len s2 ≡ slab_len s + 1 → after ≤ before + 1
      → HasInserted f s s2 w t low high (Root link) before after
  insert-leaf {s} {s2} {w} {low} {high} {link = link} Leaf h from below vacant is_key u len steps =
      let key_is : inserted f s.vacant_key w Leaf ≡ Node Leaf link w Leaf = insert-leaf_tree s.vacant_key w ∙ ap (λ k. Node Leaf k w Leaf) (sym is_key) in
      record {
        becomes = subst (λ u. Becomes f s s2 u low high) (sym key_is) (record {
          spelled = (u.changed, tt, tt);
          ordered = (from, below_next);
          kept = record { kept = λ p x at out. u.others p (λ same. (let clash : None ≡ Some x = sym vacant ∙ ap (get s) (sym same) ∙ at in cc)) ∙ at };
        });
        rooted = rooted-at f (ap place_of key_is);
        len = len;
        steps = omega arith;
      } where
        below_next : f.rank w + 1 ≤ high
        below_next = omega arith
  insert-leaf {s} (Node l p x r) h from below vacant is_key u len steps = let none : Some p ≡ None = h.is_at in cc
