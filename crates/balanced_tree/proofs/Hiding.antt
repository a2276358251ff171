-- What hides a change of a tree from the rows above it.
use Rattle.std.proofs.Common.{◌≡◌, ℕ, ◌+◌, ◌≤◌, ltb, Option, None, Some, refl, sym, ap, ◌∙◌, subst, arith}
use Rattle.std.proofs.lemmas.Bool.{le-ltb, cond-false}
use Rattle.slab.specs.Slab.{Slab}
use Rattle.balanced_tree.specs.declared.changes.Change.{Change}
use Rattle.balanced_tree.specs.declared.changes.Change.TheVariants.{Hidden, Root}
use Rattle.balanced_tree.specs.declared.children.Child.{Child}
use Rattle.balanced_tree.specs.Row.{Functions, AreLawful, AreAlike, link_of}
use Rattle.balanced_tree.specs.inside.Tree.{SearchTree, Node, place_of, child_of, stored, IsOrdered, balanced}
use Rattle.balanced_tree.specs.inside.Standing.{child_under, root_after, change_to, IsLike, IsRooted, Spells, Keeps, Becomes}
use Rattle.balanced_tree.proofs.Spelling.{link_of-child_of}
use Rattle.balanced_tree.proofs.Nodes.{IsNode, stored-short, stays_left, stays_right, right_kept, left_kept, kept_wider_left, kept_wider_right}

module _ {R : Type 0} (f : Functions R) where
  pub like-same : {a b : Option (Child R)} → a ≡ b → IsLike f a b
  like-same {a} e = subst (IsLike f a) e (record { link = refl; height = refl; left = λ z r. refl; right = λ z l. refl })

  pub like-alike : {x y : R} (p : ℕ) → AreAlike f x y → IsLike f (child_under p (Some x)) (child_under p (Some y))
  like-alike p a = record { link = refl; height = a.height; left = λ z r. a.left z p r; right = λ z l. a.right z p l }

  pub rooted-at : {had : Option (Child R)} {t : SearchTree R} {q : ℕ} → place_of t ≡ Some q → IsRooted f had t (Root q)
  rooted-at h = record { root = h; hidden = λ e. cc }

  pub rooted-to : {had : Option (Child R)} {t : SearchTree R} (at : Option ℕ) → place_of t ≡ at → IsRooted f had t (change_to at)
  rooted-to None h = record { root = h; hidden = λ e. cc }
  rooted-to (Some q) h = rooted-at h

  pub rooted-hidden : {had : Option (Child R)} {t : SearchTree R} → IsLike f had (child_of f t) → IsRooted f had t Hidden
  rooted-hidden {t = t} like = record { root = sym (link_of-child_of f t) ∙ sym like.link; hidden = λ e. like }

  -- what a row over its parts answers of the one that stood in its place
  pub rooted-put : {change : Change} {had now : R} {u : SearchTree R} {p : ℕ} → child_under p (Some now) ≡ child_of f u → root_after change (Some p) ≡ Some p → (change ≡ Hidden → AreAlike f had now) → IsRooted f (child_under p (Some had)) u change
  rooted-put {had = had} {u = u} {p} child root hidden =
      record {
        root = sym (link_of-child_of f u) ∙ ap link_of (sym child) ∙ sym root;
        hidden = λ e. subst (IsLike f (child_under p (Some had))) child (like-alike p (hidden e));
      }

  -- the same of the child that is handed back, where the row that stood there is called another way too
  pub rooted-placed :
      {change : Change} {had row : R} {u : SearchTree R} {p : ℕ} {c : Child R}
      → row ≡ had → c.link ≡ p → Some c ≡ child_of f u → root_after change (Some p) ≡ Some p → (change ≡ Hidden → AreAlike f had c.row)
      → IsRooted f (child_under p (Some row)) u change
  rooted-placed {change} {u = u} {p} {c} is is_p child root hidden =
      subst (λ z. IsRooted f (child_under p (Some z)) u change) (sym is) (rooted-put {now = c.row} (ap (λ q. Some (record { link = q; row = c.row })) (sym is_p) ∙ child) root hidden)

  -- the link to the root after the change
  pub rooted-link : (t : SearchTree R) {u : SearchTree R} {c : Change} {at : Option ℕ} → IsRooted f (child_of f t) u c → place_of t ≡ at → place_of u ≡ root_after c at
  rooted-link t {c = c} h e = h.root ∙ ap (root_after c) (link_of-child_of f t ∙ e)

  -- parts whose stored heights differ by at most one stay where they are
  balanced-even : (l : SearchTree R) (p : ℕ) (x : R) (r : SearchTree R) → stored f l ≤ stored f r + 1 → stored f r ≤ stored f l + 1 → balanced f l p x r ≡ Node l p x r
  unfolding balanced
  balanced-even l p x r g h = cond-false (ltb (stored f r + 1) (stored f l)) _ _ (le-ltb _ _ g) ∙ cond-false (ltb (stored f l + 1) (stored f r)) _ _ (le-ltb _ _ h)

  -- The new slab has the tree u in place of t, with ranks from `from` on and below high. It keeps what is outside the
  -- bounds, and the root hides the change.
  pub record IsStill (old new : Slab R) (t u : SearchTree R) (from low high : ℕ) : Type 0 where
    pub spelled : Spells f new u
    pub ordered : IsOrdered f from high u
    pub kept : Keeps f low high old new
    pub like : IsLike f (child_of f t) (child_of f u)

  pub becomes-still : {old new : Slab R} {t u : SearchTree R} {low high : ℕ} → IsStill old new t u low low high → Becomes f old new u low high
  becomes-still h = record { spelled = h.spelled; ordered = h.ordered; kept = h.kept }

  module _ {s : Slab R} {p : ℕ} {here : R} {t : SearchTree R} {low high : ℕ} (laws : AreLawful f) (n : IsNode f s p here t low high) where
    -- the root of a node, as it is read
    child_here : child_of f t ≡ child_under p (Some here)
    child_here = ap (child_of f) n.is ∙ ap (λ y. child_under p (Some y)) (sym n.here_is)

    pub rooted-again : {again : R} {u v : SearchTree R} {c : Change} → again ≡ here → u ≡ v → IsRooted f (child_under p (Some again)) v c → IsRooted f (child_of f t) u c
    rooted-again {again} {u} {v} {c} again_is is h =
        subst (λ o. IsRooted f o u c) (sym (child_here ∙ ap (λ y. child_under p (Some y)) (sym again_is))) (subst (λ w. IsRooted f (child_under p (Some again)) w c) (sym is) h)

    -- a row over another part that it hides needs no rotation
    pub even-left : (u : SearchTree R) → IsLike f (child_of f n.left) (child_of f u) → balanced f u p n.row n.right ≡ Node u p n.row n.right
    even-left u like =
        let tall = stored-short f laws n.left n.left_standing.short in
        let beside = stored-short f laws n.right n.right_standing.short in
        balanced-even u p n.row n.right (omega (arith, tall, beside, like.height, n.left_level)) (omega (arith, tall, beside, like.height, n.right_level))

    pub even-right : (u : SearchTree R) → IsLike f (child_of f n.right) (child_of f u) → balanced f n.left p n.row u ≡ Node n.left p n.row u
    even-right u like =
        let tall = stored-short f laws n.right n.right_standing.short in
        let beside = stored-short f laws n.left n.left_standing.short in
        balanced-even n.left p n.row u (omega (arith, tall, beside, like.height, n.left_level)) (omega (arith, tall, beside, like.height, n.right_level))

  module _ {s s1 : Slab R} {p : ℕ} {here : R} {t : SearchTree R} {low high : ℕ} (laws : AreLawful f) (n : IsNode f s p here t low high) where
    -- a row over another part that it hides
    pub still-left : {u : SearchTree R} {from : ℕ} → Spells f s1 u → IsOrdered f from (f.rank n.row) u → Keeps f low (f.rank n.row) s s1 → IsLike f (child_of f n.left) (child_of f u) → IsStill s s1 t (Node u p n.row n.right) from low high
    still-left {u} spelled ordered kept like =
        let row_is = like.left n.row (child_of f n.right) in
        record {
          spelled = (stays_left f n kept ∙ ap Some (n.here_is ∙ row_is), spelled, right_kept f n laws kept);
          ordered = (ordered, n.right_standing.ordered);
          kept = kept_wider_left f n kept;
          like = like-same (ap (child_of f) n.is ∙ ap (λ y. child_under p (Some y)) row_is);
        }

    pub still-right : {u : SearchTree R} → Spells f s1 u → IsOrdered f (f.rank n.row + 1) high u → Keeps f (f.rank n.row + 1) high s s1 → IsLike f (child_of f n.right) (child_of f u) → IsStill s s1 t (Node n.left p n.row u) low low high
    still-right {u} spelled ordered kept like =
        let row_is = like.right n.row (child_of f n.left) in
        record {
          spelled = (stays_right f n kept ∙ ap Some (n.here_is ∙ row_is), left_kept f n laws kept, spelled);
          ordered = (n.left_standing.ordered, ordered);
          kept = kept_wider_right f n kept;
          like = like-same (ap (child_of f) n.is ∙ ap (λ y. child_under p (Some y)) row_is);
        }
