-- What taking a row out of a tree does, case by case.
use Rattle.std.proofs.Common.{◌≡◌, ℕ, ◌+◌, ◌<◌, ◌≤◌, true, false, cond, ltb, Option, None, Some, refl, sym, ap, ◌∙◌, subst, inl, inr, arith}
use Rattle.std.proofs.lemmas.Bool.{lt-ltb, le-ltb, cond-true, cond-false}
use Rattle.std.proofs.lemmas.Option.{same_Some}
use Rattle.slab.specs.Slab.{Slab, get, slab_len, Updates}
use Rattle.balanced_tree.specs.declared.changes.Change.{Change}
use Rattle.balanced_tree.specs.declared.changes.Change.TheVariants.{Hidden}
use Rattle.balanced_tree.specs.Row.{Functions, AreLawful, plain}
use Rattle.balanced_tree.specs.inside.Tree.{SearchTree, Leaf, Node, is_leaf, place_of, child_of, IsOrdered, balanced, least, without_least, without_root, removed}
use Rattle.balanced_tree.specs.inside.Standing.{root_after, change_to, IsRooted, Spells, Same, IsStanding, Keeps, Becomes, IsSplit, Splits, HasRemoved, HasTakenLeast, HasTakenRoot}
use Rattle.balanced_tree.proofs.Spelling.{Keeps-refl, Keeps-trans, Keeps-wider, Keeps-Updates, Spells-kept, split_over}
use Rattle.balanced_tree.proofs.Nodes.{IsNode, rank_here, height-left, height-right, in_low, in_high, same_again, left_again, right_again, stays_left, stays_right, again_left, again_right, right_kept, left_kept, split_left, split_right, kept_wider_left, has_rank-left, has_rank-right, has_rank-here, row_in-left, row_in-right, row_in-here, IsSplit-Same}
use Rattle.balanced_tree.proofs.Hiding.{IsStill, like-same, rooted-to, rooted-hidden, rooted-link, rooted-again, still-left, still-right, becomes-still, even-left, even-right}
use Rattle.balanced_tree.proofs.Insertions.{Balances, Rebalances, Becomes-left, Becomes-right}

module _ {R : Type 0} where
  is_leaf-none : (t : SearchTree R) → place_of t ≡ None → is_leaf t ≡ true
  is_leaf-none Leaf h = refl
  is_leaf-none (Node l p x r) h = cc

  is_leaf-some : (t : SearchTree R) (q : ℕ) → place_of t ≡ Some q → is_leaf t ≡ false
  is_leaf-some Leaf q h = cc
  is_leaf-some (Node l p x r) q h = refl

module _ {R : Type 0} (f : Functions R) where
  least-leaf : (t : SearchTree R) (d : R) → is_leaf t ≡ true → least f t d ≡ d
  least-leaf Leaf d h = refl
  least-leaf (Node l p x r) d h = cc

  -- the default does not matter where there is a row
  least-any : (t : SearchTree R) (d e : R) → is_leaf t ≡ false → least f t d ≡ least f t e
  least-any Leaf d e h = cc
  least-any (Node l p x r) d e h = refl

  without_least-first : (l : SearchTree R) (p : ℕ) (x : R) (r : SearchTree R) → is_leaf l ≡ true → without_least f (Node l p x r) ≡ r
  unfolding without_least
  without_least-first l p x r h = cond-true (is_leaf l) _ _ h

  without_least-later : (l : SearchTree R) (p : ℕ) (x : R) (r : SearchTree R) → is_leaf l ≡ false → without_least f (Node l p x r) ≡ balanced f (without_least f l) p x r
  unfolding without_least
  without_least-later l p x r h = cond-false (is_leaf l) _ _ h

  without_root-leaf : (l : SearchTree R) (p : ℕ) (x : R) (r : SearchTree R) → is_leaf r ≡ true → without_root f (Node l p x r) ≡ l
  unfolding without_root
  without_root-leaf l p x Leaf h = refl
  without_root-leaf l p x (Node a q y b) h = cc

  without_root-node : (l : SearchTree R) (p : ℕ) (x : R) (r : SearchTree R) (d : R) → is_leaf r ≡ false → without_root f (Node l p x r) ≡ balanced f l p (least f r d) (without_least f r)
  unfolding without_root
  without_root-node l p x Leaf d h = cc
  without_root-node l p x (Node a q y b) d h = refl

  -- the row of a node is taken away
  Keeps-taken : {s s1 : Slab R} {p : ℕ} {here : R} {t : SearchTree R} {low high : ℕ} (n : IsNode f s p here t low high) → Updates s s1 p None → Keeps f (f.rank n.row) (f.rank n.row + 1) s s1
  Keeps-taken n u = Keeps-Updates f _ _ _ n.at (omega (arith, rank_here f n)) (omega (arith, rank_here f n)) u

  pub take-first :
      {s s1 : Slab R} {p : ℕ} {here y : R} {t : SearchTree R} {low high before after : ℕ} {rest : Option ℕ}
      → AreLawful f → (n : IsNode f s p here t low high) → f.left here ≡ None
      → rest ≡ f.right here → get s p ≡ Some y → Updates s s1 p None → slab_len s1 + 1 ≡ slab_len s → after ≤ before + 2
      → HasTakenLeast f s s1 t low high y (change_to rest) before after
  take-first {s} {s1} {p} {here} {y} {t} {low} {high} {rest = rest} laws n none on_right e u len steps =
      let leaf = is_leaf-none n.left (n.left_standing.is_at ∙ none) in
      let is : without_least f t ≡ n.right = ap (without_least f) n.is ∙ without_least-first n.left p n.row n.right leaf in
      let first : least f t y ≡ n.row = ap (λ u. least f u y) n.is ∙ least-leaf n.left n.row leaf in
      let kept = Keeps-taken n u in
      let right = Spells-kept f (f.rank n.row + 1) high n.right kept laws n.right_standing.ordered (inr (omega arith)) n.right_standing.spelled in
      record {
        spelled = subst (Spells f s1) (sym is) right;
        ordered = subst (λ z. IsOrdered f (f.rank z + 1) high (without_least f t)) (sym first) (subst (IsOrdered f (f.rank n.row + 1) high) (sym is) n.right_standing.ordered);
        kept = Keeps-wider f low high (in_low f n) (in_high f n) kept;
        rooted = rooted-to f rest (ap place_of is ∙ right_again f n refl on_right);
        row = subst (λ z. Same f z y) (sym first) (same_again f n (same_Some _ _ (sym e ∙ n.at)));
        from_low = subst (λ z. low ≤ f.rank z) (sym first) (in_low f n);
        len = len;
        steps = omega (arith, height-left f n);
      }

  -- what stands once the first row of the left part is taken
  split_least :
      {s s1 : Slab R} {p : ℕ} {here y : R} {t : SearchTree R} {low high b1 b2 : ℕ} {rest : Change}
      → AreLawful f → (n : IsNode f s p here t low high)
      → HasTakenLeast f s s1 n.left low (f.rank n.row) y rest b1 b2
      → IsSplit f s1 (without_least f n.left) p n.row n.right (f.rank (least f n.left y) + 1) high
  split_least laws n sub =
      split_over f (stays_left f n sub.kept) (rank_here f n) sub.spelled (right_kept f n laws sub.kept) sub.ordered n.right_standing.ordered

  pub Splits-least :
      {s s1 : Slab R} {p : ℕ} {here again y : R} {t : SearchTree R} {low high b1 b2 : ℕ} {rest right : Option ℕ} {part : Change}
      → AreLawful f → (n : IsNode f s p here t low high)
      → HasTakenLeast f s s1 n.left low (f.rank n.row) y part b1 b2 → rest ≡ root_after part (f.left here)
      → get s1 p ≡ Some again → right ≡ f.right again → Splits f s1 rest p again right
  Splits-least {y = y} {high = high} laws n sub link_is e on_right =
      let is = again_left f n sub.kept e in
      record {
        left_tree = without_least f n.left;
        right_tree = n.right;
        low = f.rank (least f n.left y) + 1;
        high = high;
        split = IsSplit-Same f (same_again f n is) (split_least laws n sub);
        left_is = rooted-link f n.left sub.rooted n.left_standing.is_at ∙ sym link_is;
        right_is = right_again f n is on_right;
      }

  pub take-later :
      {s s1 s2 : Slab R} {p q : ℕ} {here again y : R} {t : SearchTree R} {low high before b1 b2 after : ℕ} {rest right : Option ℕ} {part change : Change}
      → AreLawful f → (n : IsNode f s p here t low high) → f.left here ≡ Some q
      → HasTakenLeast f s s1 n.left low (f.rank n.row) y part b1 b2 → rest ≡ root_after part (f.left here)
      → get s1 p ≡ Some again → right ≡ f.right again → Rebalances f s1 s2 p again rest right change
      → slab_len s2 ≡ slab_len s1 → b1 ≤ before + 1 → after ≤ b2 + 13
      → HasTakenLeast f s s2 t low high y change before after
  take-later {s} {s1} {s2} {p} {q} {here} {y = y} {t} {low} {high} laws n some sub link_is e on_right balance len g1 g2 =
      let node = is_leaf-some n.left q (n.left_standing.is_at ∙ some) in
      let is : without_least f t ≡ balanced f (without_least f n.left) p n.row n.right = ap (without_least f) n.is ∙ without_least-later n.left p n.row n.right node in
      let first : least f t y ≡ least f n.left y = ap (λ u. least f u y) n.is ∙ least-any n.left n.row y node in
      let from = f.rank (least f n.left y) + 1 in
      let again_is = again_left f n sub.kept e in
      let made = balance _ n.row n.right from high (split_least laws n sub) (same_again f n again_is) (rooted-link f n.left sub.rooted n.left_standing.is_at ∙ sym link_is) (right_again f n again_is on_right) in
      record {
        spelled = subst (Spells f s2) (sym is) made.0.spelled;
        ordered = subst (λ z. IsOrdered f (f.rank z + 1) high (without_least f t)) (sym first) (subst (IsOrdered f from high) (sym is) made.0.ordered);
        kept = Keeps-trans f (kept_wider_left f n sub.kept) (Keeps-wider f low high (omega (arith, sub.from_low)) (omega arith) made.0.kept);
        rooted = rooted-again f laws n again_is is made.1;
        row = subst (λ z. Same f z y) (sym first) sub.row;
        from_low = subst (λ z. low ≤ f.rank z) (sym first) sub.from_low;
        len = omega (arith, len, sub.len);
        steps = omega (arith, sub.steps, height-left f n);
      }

  pub take-later_hidden :
      {s s1 : Slab R} {p q : ℕ} {here y : R} {t : SearchTree R} {low high before b1 b2 : ℕ} {part : Change}
      → AreLawful f → (n : IsNode f s p here t low high) → f.left here ≡ Some q
      → HasTakenLeast f s s1 n.left low (f.rank n.row) y part b1 b2 → part ≡ Hidden → b1 ≤ before + 1
      → HasTakenLeast f s s1 t low high y Hidden before b2
  take-later_hidden {s} {s1} {p} {q} {y = y} {t} {low} {high} laws n some sub is_hidden g =
      let node = is_leaf-some n.left q (n.left_standing.is_at ∙ some) in
      let like = sub.rooted.hidden is_hidden in
      let is : without_least f t ≡ Node (without_least f n.left) p n.row n.right = ap (without_least f) n.is ∙ without_least-later n.left p n.row n.right node ∙ even-left f laws n (without_least f n.left) like in
      let first : least f t y ≡ least f n.left y = ap (λ u. least f u y) n.is ∙ least-any n.left n.row y node in
      let still = subst (λ u. IsStill f s s1 t u (f.rank (least f n.left y) + 1) low high) (sym is) (still-left f laws n sub.spelled sub.ordered sub.kept like) in
      record {
        spelled = still.spelled;
        ordered = subst (λ z. IsOrdered f (f.rank z + 1) high (without_least f t)) (sym first) still.ordered;
        kept = still.kept;
        rooted = rooted-hidden f still.like;
        row = subst (λ z. Same f z y) (sym first) sub.row;
        from_low = subst (λ z. low ≤ f.rank z) (sym first) sub.from_low;
        len = sub.len;
        steps = omega (arith, sub.steps, height-left f n);
      }

  pub take_root-leaf :
      {s s1 : Slab R} {p : ℕ} {here : R} {t : SearchTree R} {low high before after : ℕ} {rest : Option ℕ}
      → AreLawful f → (n : IsNode f s p here t low high) → f.right here ≡ None
      → rest ≡ f.left here → Updates s s1 p None → slab_len s1 + 1 ≡ slab_len s → after ≤ before + 2
      → HasTakenRoot f s s1 t low high rest before after
  take_root-leaf {s} {s1} {p} {here} {t} {low} {high} laws n none on_left u len steps =
      let leaf = is_leaf-none n.right (n.right_standing.is_at ∙ none) in
      let is : without_root f t ≡ n.left = ap (without_root f) n.is ∙ without_root-leaf n.left p n.row n.right leaf in
      let kept = Keeps-taken n u in
      let left = Spells-kept f low (f.rank n.row) n.left kept laws n.left_standing.ordered (inl (omega arith)) n.left_standing.spelled in
      record {
        becomes = subst (λ u. Becomes f s s1 u low high) (sym is) (record {
          spelled = left;
          ordered = Rattle.balanced_tree.proofs.Spelling.IsOrdered-wider f low low (f.rank n.row) high n.left (omega arith) (omega (arith, in_high f n)) n.left_standing.ordered;
          kept = Keeps-wider f low high (in_low f n) (in_high f n) kept;
        });
        root = ap place_of is ∙ left_again f n refl on_left;
        len = len;
        steps = omega (arith, height-left f n);
      }

  -- what stands once the first row of the right part is taken, with this row for the place of the root
  split_root :
      {s s1 : Slab R} {p : ℕ} {here y : R} {t : SearchTree R} {low high b1 b2 : ℕ} {rest : Change}
      → AreLawful f → (n : IsNode f s p here t low high)
      → HasTakenLeast f s s1 n.right (f.rank n.row + 1) high y rest b1 b2
      → IsSplit f s1 n.left p (least f n.right y) (without_least f n.right) low high
  split_root {here = here} {y} laws n sub =
      record {
        middle = f.rank n.row;
        past = f.rank (least f n.right y) + 1;
        had = here;
        at = stays_right f n sub.kept;
        left = left_kept f n laws sub.kept;
        right = sub.spelled;
        left_ordered = n.left_standing.ordered;
        right_ordered = sub.ordered;
        had_from = omega (arith, rank_here f n);
        had_below = omega (arith, rank_here f n, sub.from_low);
        row_from = omega (arith, sub.from_low);
        row_below = omega arith;
      }

  pub Splits-root :
      {s s1 : Slab R} {p : ℕ} {here y : R} {t : SearchTree R} {low high b1 b2 : ℕ} {left right : Option ℕ} {rest : Change}
      → AreLawful f → (n : IsNode f s p here t low high)
      → HasTakenLeast f s s1 n.right (f.rank n.row + 1) high y rest b1 b2
      → left ≡ f.left here → right ≡ root_after rest (f.right here) → Splits f s1 left p y right
  Splits-root {low = low} {high} laws n sub on_left on_right =
      record {
        left_tree = n.left;
        right_tree = without_least f n.right;
        low = low;
        high = high;
        split = IsSplit-Same f sub.row (split_root laws n sub);
        left_is = left_again f n refl on_left;
        right_is = rooted-link f n.right sub.rooted n.right_standing.is_at ∙ sym on_right;
      }

  pub take_root-node :
      {s s1 s2 : Slab R} {p q : ℕ} {here y : R} {t : SearchTree R} {low high before b1 b2 after root : ℕ} {left right : Option ℕ} {rest : Change}
      → AreLawful f → (n : IsNode f s p here t low high) → f.right here ≡ Some q
      → HasTakenLeast f s s1 n.right (f.rank n.row + 1) high y rest b1 b2
      → left ≡ f.left here → right ≡ root_after rest (f.right here) → Balances f s1 s2 p y left right root
      → slab_len s2 ≡ slab_len s1 → b1 ≤ before + 1 → after ≤ b2 + 11
      → HasTakenRoot f s s2 t low high (Some root) before after
  take_root-node {s} {s1} {s2} {p} {q} {here} {y} {t} {low} {high} laws n some sub on_left on_right balance len g1 g2 =
      let node = is_leaf-some n.right q (n.right_standing.is_at ∙ some) in
      let is : without_root f t ≡ balanced f n.left p (least f n.right y) (without_least f n.right) = ap (without_root f) n.is ∙ without_root-node n.left p n.row n.right y node in
      let made = balance n.left _ _ low high (split_root laws n sub) sub.row (left_again f n refl on_left) (rooted-link f n.right sub.rooted n.right_standing.is_at ∙ sym on_right) in
      record {
        becomes = Becomes-right f n (record { spelled = sub.spelled; ordered = IsOrdered-least sub; kept = sub.kept }) (subst (λ u. Becomes f s1 s2 u low high) (sym is) made.0);
        root = ap place_of is ∙ made.1;
        len = omega (arith, len, sub.len);
        steps = omega (arith, sub.steps, height-right f n);
      } where
        IsOrdered-least : {s s1 : Slab R} {t : SearchTree R} {low high b1 b2 : ℕ} {y : R} {c : Change} → HasTakenLeast f s s1 t low high y c b1 b2 → IsOrdered f low high (without_least f t)
        IsOrdered-least {s} {s1} {t} {low} {high} {y = y} h = Rattle.balanced_tree.proofs.Spelling.IsOrdered-wider f low (f.rank (least f t y) + 1) high high (without_least f t) (omega (arith, h.from_low)) (omega arith) h.ordered

  pub removed-left : (m : ℕ) (l : SearchTree R) (p : ℕ) (x : R) (r : SearchTree R) → m < f.rank x → removed f m (Node l p x r) ≡ balanced f (removed f m l) p x r
  unfolding removed
  removed-left m l p x r h = cond-true (ltb m (f.rank x)) _ _ (lt-ltb _ _ h)

  pub removed-right : (m : ℕ) (l : SearchTree R) (p : ℕ) (x : R) (r : SearchTree R) → f.rank x < m → removed f m (Node l p x r) ≡ balanced f l p x (removed f m r)
  unfolding removed
  removed-right m l p x r h = cond-false (ltb m (f.rank x)) _ _ (le-ltb _ _ (omega arith)) ∙ cond-true (ltb (f.rank x) m) _ _ (lt-ltb _ _ h)

  pub removed-here : (m : ℕ) (l : SearchTree R) (p : ℕ) (x : R) (r : SearchTree R) → m ≡ f.rank x → removed f m (Node l p x r) ≡ without_root f (Node l p x r)
  unfolding removed
  removed-here m l p x r h = cond-false (ltb m (f.rank x)) _ _ (le-ltb _ _ (omega arith)) ∙ cond-false (ltb (f.rank x) m) _ _ (le-ltb _ _ (omega arith))

  pub removed-leaf : (m : ℕ) → removed f m Leaf ≡ Leaf
  unfolding removed
  removed-leaf m = refl

  pub remove-left :
      {s s1 s2 : Slab R} {p m : ℕ} {here again : R} {t : SearchTree R} {low high before b1 b2 after : ℕ} {y : Option R} {left right : Option ℕ} {part change : Change}
      → AreLawful f → (n : IsNode f s p here t low high) → m < f.rank here
      → HasRemoved f s s1 m n.left low (f.rank n.row) y part b1 b2 → left ≡ root_after part (f.left here)
      → get s1 p ≡ Some again → right ≡ f.right again → Rebalances f s1 s2 p again left right change
      → slab_len s2 ≡ slab_len s1 → b1 ≤ before + 1 → after ≤ b2 + 13
      → HasRemoved f s s2 m t low high y change before after
  remove-left {s1 = s1} {s2} {p} {m} {low = low} {high} laws n less sub link_is e on_right balance len g1 g2 =
      let again_is = again_left f n sub.becomes.kept e in
      let made = balance _ n.row n.right low high (split_left f n laws sub.becomes) (same_again f n again_is) (rooted-link f n.left sub.rooted n.left_standing.is_at ∙ sym link_is) (right_again f n again_is on_right) in
      let is = ap (removed f m) n.is ∙ removed-left m n.left p n.row n.right (omega (arith, rank_here f n)) in
      record {
        becomes = Becomes-left f n sub.becomes (subst (λ u. Becomes f s1 s2 u low high) (sym is) made.0);
        row = sub.row ∙ sym (row_in-left f n m less);
        rooted = rooted-again f laws n again_is is made.1;
        len = omega (arith, len, sub.len, ap {B = ℕ} (λ b. cond b 1 0) (has_rank-left f n m less));
        steps = omega (arith, sub.steps, height-left f n);
      }

  pub remove-right :
      {s s1 s2 : Slab R} {p m : ℕ} {here again : R} {t : SearchTree R} {low high before b1 b2 after : ℕ} {y : Option R} {left right : Option ℕ} {part change : Change}
      → AreLawful f → (n : IsNode f s p here t low high) → f.rank here < m
      → HasRemoved f s s1 m n.right (f.rank n.row + 1) high y part b1 b2 → right ≡ root_after part (f.right here)
      → get s1 p ≡ Some again → left ≡ f.left again → Rebalances f s1 s2 p again left right change
      → slab_len s2 ≡ slab_len s1 → b1 ≤ before + 1 → after ≤ b2 + 13
      → HasRemoved f s s2 m t low high y change before after
  remove-right {s1 = s1} {s2} {p} {m} {low = low} {high} laws n more sub link_is e on_left balance len g1 g2 =
      let again_is = again_right f n sub.becomes.kept e in
      let made = balance n.left n.row _ low high (split_right f n laws sub.becomes) (same_again f n again_is) (left_again f n again_is on_left) (rooted-link f n.right sub.rooted n.right_standing.is_at ∙ sym link_is) in
      let is = ap (removed f m) n.is ∙ removed-right m n.left p n.row n.right (omega (arith, rank_here f n)) in
      record {
        becomes = Becomes-right f n sub.becomes (subst (λ u. Becomes f s1 s2 u low high) (sym is) made.0);
        row = sub.row ∙ sym (row_in-right f n m more);
        rooted = rooted-again f laws n again_is is made.1;
        len = omega (arith, len, sub.len, ap {B = ℕ} (λ b. cond b 1 0) (has_rank-right f n m more));
        steps = omega (arith, sub.steps, height-right f n);
      }

  pub remove-left_hidden :
      {s s1 : Slab R} {p m : ℕ} {here : R} {t : SearchTree R} {low high before b1 b2 : ℕ} {y : Option R} {part : Change}
      → AreLawful f → (n : IsNode f s p here t low high) → m < f.rank here
      → HasRemoved f s s1 m n.left low (f.rank n.row) y part b1 b2 → part ≡ Hidden → b1 ≤ before + 1
      → HasRemoved f s s1 m t low high y Hidden before b2
  remove-left_hidden {s} {s1} {p} {m} {t = t} {low} {high} laws n less sub is_hidden g =
      let like = sub.rooted.hidden is_hidden in
      let is = ap (removed f m) n.is ∙ removed-left m n.left p n.row n.right (omega (arith, rank_here f n)) ∙ even-left f laws n (removed f m n.left) like in
      let still = still-left f laws n sub.becomes.spelled sub.becomes.ordered sub.becomes.kept like in
      record {
        becomes = subst (λ u. Becomes f s s1 u low high) (sym is) (becomes-still f still);
        row = sub.row ∙ sym (row_in-left f n m less);
        rooted = subst (λ u. IsRooted f (child_of f t) u Hidden) (sym is) (rooted-hidden f still.like);
        len = omega (arith, sub.len, ap {B = ℕ} (λ b. cond b 1 0) (has_rank-left f n m less));
        steps = omega (arith, sub.steps, height-left f n);
      }

  pub remove-right_hidden :
      {s s1 : Slab R} {p m : ℕ} {here : R} {t : SearchTree R} {low high before b1 b2 : ℕ} {y : Option R} {part : Change}
      → AreLawful f → (n : IsNode f s p here t low high) → f.rank here < m
      → HasRemoved f s s1 m n.right (f.rank n.row + 1) high y part b1 b2 → part ≡ Hidden → b1 ≤ before + 1
      → HasRemoved f s s1 m t low high y Hidden before b2
  remove-right_hidden {s} {s1} {p} {m} {t = t} {low} {high} laws n more sub is_hidden g =
      let like = sub.rooted.hidden is_hidden in
      let is = ap (removed f m) n.is ∙ removed-right m n.left p n.row n.right (omega (arith, rank_here f n)) ∙ even-right f laws n (removed f m n.right) like in
      let still = still-right f laws n sub.becomes.spelled sub.becomes.ordered sub.becomes.kept like in
      record {
        becomes = subst (λ u. Becomes f s s1 u low high) (sym is) (becomes-still f still);
        row = sub.row ∙ sym (row_in-right f n m more);
        rooted = subst (λ u. IsRooted f (child_of f t) u Hidden) (sym is) (rooted-hidden f still.like);
        len = omega (arith, sub.len, ap {B = ℕ} (λ b. cond b 1 0) (has_rank-right f n m more));
        steps = omega (arith, sub.steps, height-right f n);
      }

  pub remove-here :
      {s s1 : Slab R} {p m : ℕ} {here : R} {t : SearchTree R} {low high before b1 after : ℕ} {y : Option R} {root : Option ℕ}
      → (n : IsNode f s p here t low high) → f.rank here ≤ m → m ≤ f.rank here → y ≡ Some (plain f here)
      → HasTakenRoot f s s1 t low high root b1 after → b1 ≤ before + 1
      → HasRemoved f s s1 m t low high y (change_to root) before after
  remove-here {s} {s1} {p} {m} {here} {t} {low} {high} {root = root} n g h row_is sub g1 =
      let is : removed f m t ≡ without_root f t = ap (removed f m) n.is ∙ removed-here m n.left p n.row n.right (omega (arith, rank_here f n)) ∙ ap (without_root f) (sym n.is) in
      record {
        becomes = subst (λ u. Becomes f s s1 u low high) (sym is) sub.becomes;
        row = row_is ∙ sym (row_in-here f n m g h);
        rooted = rooted-to f root (ap place_of is ∙ sub.root);
        len = omega (arith, sub.len, ap {B = ℕ} (λ b. cond b 1 0) (has_rank-here f n m g h));
        steps = omega (arith, sub.steps);
      }

  pub remove-leaf : {s : Slab R} {m low high before : ℕ} (t : SearchTree R) → IsStanding f s None t low high → HasRemoved f s s m t low high None Hidden before before
  remove-leaf {s} {m} {low} {high} Leaf h =
      record {
        becomes = subst (λ u. Becomes f s s u low high) (sym (removed-leaf m)) (record { spelled = tt; ordered = h.ordered; kept = Keeps-refl f low high s });
        row = refl;
        rooted = rooted-hidden f (like-same f (ap (child_of f) (sym (removed-leaf m))));
        len = omega arith;
        steps = omega arith;
      }
  remove-leaf (Node l p x r) h = let none : Some p ≡ None = h.is_at in cc
