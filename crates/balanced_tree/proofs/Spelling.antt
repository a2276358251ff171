-- How trees stand in a slab: what links lead to, and what stays where a row is put over its parts.
use Rattle.std.proofs.Common.{◌≡◌, ◌⊎◌, ℕ, ◌+◌, ◌<◌, ◌≤◌, Bool, true, false, cond, Option, None, Some, is_some, refl, sym, ap, ◌∙◌, subst, inl, inr, arith}
use Rattle.std.proofs.lemmas.Bool.{cases_eq}
use Rattle.std.proofs.lemmas.Option.{same_Some}
use Rattle.std.specs.Option.{ForSome}
use Rattle.slab.specs.Slab.{Slab, get, ContainsKey, Updates}
use Rattle.balanced_tree.specs.declared.children.Child.{Child}
use Rattle.balanced_tree.specs.Row.{Functions, AreLawful, link_of, height_in}
use Rattle.balanced_tree.specs.inside.Tree.{SearchTree, Leaf, Node, place_of, child_of, stored, IsOrdered}
use Rattle.balanced_tree.specs.inside.Standing.{child_under, child_at, Spells, Same, Keeps, Becomes, IsSplit, height_at}

-- what is picked of one thing or none is that thing
pub picked-is : {A : Type 0} (b : Bool) (o picked : Option A) (m : A) → picked ≡ cond b o None → picked ≡ Some m → o ≡ Some m
picked-is true o picked m e h = sym e ∙ h
picked-is false o picked m e h = cc

pub picked-test : {A : Type 0} (b : Bool) (o picked : Option A) (m : A) → picked ≡ cond b o None → picked ≡ Some m → b ≡ true
picked-test true o picked m e h = refl
picked-test false o picked m e h = cc

pub not_picked : {A : Type 0} (b : Bool) (o picked : Option A) (m : A) → o ≡ Some m → picked ≡ cond b o None → picked ≡ None → b ≡ false
not_picked true o picked m is e h = cc
not_picked false o picked m is e h = refl

module _ {R : Type 0} (f : Functions R) where
  pub link_of-child_of : (t : SearchTree R) → link_of (child_of f t) ≡ place_of t
  link_of-child_of Leaf = refl
  link_of-child_of (Node l p x r) = refl

  pub child_at-place_of : (s : Slab R) (t : SearchTree R) → Spells f s t → child_at s (place_of t) ≡ child_of f t
  child_at-place_of s Leaf h = refl
  child_at-place_of s (Node l p x r) h = ap (child_under p) h.0

  -- the same under a link to the tree
  pub child_at-link : (s : Slab R) (t : SearchTree R) {at : Option ℕ} → Spells f s t → place_of t ≡ at → child_at s at ≡ child_of f t
  child_at-link s t h is = ap (child_at s) (sym is) ∙ child_at-place_of s t h

  pub height_at-link : (s : Slab R) (t : SearchTree R) {at : Option ℕ} → Spells f s t → place_of t ≡ at → height_at f s at ≡ stored f t
  height_at-link s t h is = ap (height_in f.height) (child_at-link s t h is)

  -- the ranks between the bounds of a tree are some or none
  pub IsOrdered-bounds : (low high : ℕ) (t : SearchTree R) → IsOrdered f low high t → low ≤ high
  IsOrdered-bounds low high Leaf h = h
  IsOrdered-bounds low high (Node l p x r) h =
      omega (arith, IsOrdered-bounds low (f.rank x) l h.0, IsOrdered-bounds (f.rank x + 1) high r h.1)

  pub IsOrdered-wider : (low a b high : ℕ) (t : SearchTree R) → low ≤ a → b ≤ high → IsOrdered f a b t → IsOrdered f low high t
  IsOrdered-wider low a b high Leaf g h o = omega arith
  IsOrdered-wider low a b high (Node l p x r) g h o =
      (IsOrdered-wider low a (f.rank x) (f.rank x) l g (omega arith) o.0, IsOrdered-wider (f.rank x + 1) (f.rank x + 1) b high r (omega arith) h o.1)

  -- what a change within other bounds leaves
  pub Spells-kept : {low high : ℕ} {old new : Slab R} (a b : ℕ) (t : SearchTree R) → Keeps f low high old new → AreLawful f → IsOrdered f a b t → (b ≤ low) ⊎ (high ≤ a) → Spells f old t → Spells f new t
  Spells-kept a b Leaf k laws o apart h = tt
  Spells-kept {low} {high} a b (Node l p x r) k laws o apart h =
      let from = IsOrdered-bounds a (f.rank x) l o.0 in
      let to = IsOrdered-bounds (f.rank x + 1) b r o.1 in
      let same = laws.rank_kept x (child_of f l) (child_of f r) in
      let outside : (f.rank (f.linked x (child_of f l) (child_of f r)) < low) ⊎ (high ≤ f.rank (f.linked x (child_of f l) (child_of f r))) = elim apart [ inl e ↦ inl (omega arith) | inr e ↦ inr (omega arith) ] in
      let in_left : (f.rank x ≤ low) ⊎ (high ≤ a) = elim apart [ inl e ↦ inl (omega arith) | inr e ↦ inr e ] in
      let in_right : (b ≤ low) ⊎ (high ≤ f.rank x + 1) = elim apart [ inl e ↦ inl e | inr e ↦ inr (omega arith) ] in
      (k.kept p _ h.0 outside, Spells-kept a (f.rank x) l k laws o.0 in_left h.1, Spells-kept (f.rank x + 1) b r k laws o.1 in_right h.2)

  pub Keeps-refl : (low high : ℕ) (s : Slab R) → Keeps f low high s s
  Keeps-refl low high s = record { kept = λ p x e o. e }

  pub Keeps-trans : {low high : ℕ} {s s1 s2 : Slab R} → Keeps f low high s s1 → Keeps f low high s1 s2 → Keeps f low high s s2
  Keeps-trans h k = record { kept = λ p x e o. k.kept p x (h.kept p x e o) o }

  pub Keeps-wider : {low high : ℕ} {old new : Slab R} (a b : ℕ) → a ≤ low → high ≤ b → Keeps f low high old new → Keeps f a b old new
  Keeps-wider {low} {high} a b h k keeps =
      record { kept = λ p x e o. keeps.kept p x e (elim o as (λ _. (f.rank x < low) ⊎ (high ≤ f.rank x)) [ inl q ↦ inl (omega arith) | inr q ↦ inr (omega arith) ]) }

  -- a write under the place of a row within the bounds
  pub Keeps-Updates : {old new : Slab R} {place : ℕ} {slot : Option R} (low high : ℕ) (had : R) → get old place ≡ Some had → low ≤ f.rank had → f.rank had < high → Updates old new place slot → Keeps f low high old new
  Keeps-Updates {old} {new} {place} low high had at from below u =
      record {
        kept = λ p x e o. elim (cases_eq p place) [
          | inl same ↦ (let both : had ≡ x = same_Some had x (sym at ∙ ap (get old) (sym same) ∙ e) in elim o [ inl q ↦ absurd (omega (arith, ap f.rank both)) | inr q ↦ absurd (omega (arith, ap f.rank both)) ])
          | inr differs ↦ u.others p differs ∙ e
        ];
      }

  pub Same-refl : (x : R) → Same f x x
  Same-refl x = record { linked = λ l r. refl; rank = refl }

  pub Same-linked : AreLawful f → (x : R) (l r : Option (Child R)) → Same f x (f.linked x l r)
  Same-linked laws x l r = record { linked = λ a b. laws.forgets x l r a b; rank = laws.rank_kept x l r }

  -- parts on both sides of a row, over a row of its rank
  pub split_over :
      {s : Slab R} {l r : SearchTree R} {p low high : ℕ} {x had : R}
      → get s p ≡ Some had → f.rank had ≡ f.rank x → Spells f s l → Spells f s r
      → IsOrdered f low (f.rank x) l → IsOrdered f (f.rank x + 1) high r → IsSplit f s l p x r low high
  split_over {x = x} {had} at same left right left_ordered right_ordered =
      record {
        middle = f.rank x;
        past = f.rank x + 1;
        had = had;
        at = at;
        left = left;
        right = right;
        left_ordered = left_ordered;
        right_ordered = right_ordered;
        had_from = omega arith;
        had_below = omega arith;
        row_from = omega arith;
        row_below = omega arith;
      }

  -- other parts between the same bounds, under a row of the same rank
  pub split_with :
      {s s1 : Slab R} {l r l1 r1 : SearchTree R} {p low high low1 high1 : ℕ} {x y : R}
      → (h : IsSplit f s l p x r low high) → f.rank y ≡ f.rank x → get s1 p ≡ Some h.had → Spells f s1 l1 → Spells f s1 r1
      → IsOrdered f low1 h.middle l1 → IsOrdered f h.past high1 r1 → IsSplit f s1 l1 p y r1 low1 high1
  split_with h same at left right left_ordered right_ordered =
      record {
        middle = h.middle;
        past = h.past;
        had = h.had;
        at = at;
        left = left;
        right = right;
        left_ordered = left_ordered;
        right_ordered = right_ordered;
        had_from = h.had_from;
        had_below = h.had_below;
        row_from = omega (arith, h.row_from);
        row_below = omega (arith, h.row_below);
      }

  -- the new slab has the tree, and the row that is handed back is its root
  pub record IsPlaced (old new : Slab R) (t : SearchTree R) (low high : ℕ) (c : Child R) : Type 0 where
    pub becomes : Becomes f old new t low high
    pub child : Some c ≡ child_of f t

  -- a row is put over its parts
  pub place_over-tree :
      {s s1 : Slab R} {l r : SearchTree R} {p place low high : ℕ} {x w : R} {cl cr : Option (Child R)} {c : Child R}
      → AreLawful f
      → IsSplit f s l p x r low high → Same f x w → cl ≡ child_of f l → cr ≡ child_of f r → place ≡ p
      → Updates s s1 place (Some (f.linked w cl cr)) → c ≡ record { link = place; row = f.linked w cl cr }
      → IsPlaced s s1 (Node l p x r) low high c
  place_over-tree {s} {s1} {l} {r} {p} {place} {low} {high} {x} {w} {cl} {cr} {c} laws split same left right is_p u child =
      let row_is : f.linked w cl cr ≡ f.linked x (child_of f l) (child_of f r) = rw (left, right) (same.linked _ _) in
      let v : Updates s s1 p (Some (f.linked x (child_of f l) (child_of f r))) = subst (λ q. Updates s s1 q (Some (f.linked x (child_of f l) (child_of f r)))) is_p (subst (λ y. Updates s s1 place (Some y)) row_is u) in
      let from = IsOrdered-bounds low split.middle l split.left_ordered in
      let to = IsOrdered-bounds split.past high r split.right_ordered in
      let narrow = Keeps-Updates split.middle split.past split.had split.at split.had_from split.had_below v in
      record {
        becomes = record {
          spelled = (v.changed, Spells-kept low split.middle l narrow laws split.left_ordered (inl (omega arith)) split.left, Spells-kept split.past high r narrow laws split.right_ordered (inr (omega arith)) split.right);
          ordered = (IsOrdered-wider low low split.middle (f.rank x) l (omega arith) split.row_from split.left_ordered, IsOrdered-wider (f.rank x + 1) split.past high high r (omega (arith, split.row_below)) (omega arith) split.right_ordered);
          kept = Keeps-wider low high from to narrow;
        };
        child = ap Some (child ∙ rw (is_p, row_is) refl);
      }

  -- the link to the root of what was put
  pub IsPlaced-root : {old new : Slab R} {t : SearchTree R} {low high : ℕ} {c : Child R} → IsPlaced old new t low high c → place_of t ≡ Some c.link
  IsPlaced-root {t = t} h = sym (link_of-child_of t) ∙ ap link_of (sym h.child)

  -- what stands under the links of a row
  pub record HasParts (s : Slab R) (c : Child R) : Type 0 where
    pub left : SearchTree R
    pub right : SearchTree R
    pub left_is : place_of left ≡ f.left c.row
    pub right_is : place_of right ≡ f.right c.row
    pub left_spelled : Spells f s left
    pub right_spelled : Spells f s right

  -- a child that was read under the link to a tree
  pub HasParts-link : AreLawful f → (s : Slab R) (t : SearchTree R) {at : Option ℕ} {o : Option (Child R)} {c : Child R} → Spells f s t → place_of t ≡ at → o ≡ child_at s at → o ≡ Some c → HasParts s c
  HasParts-link laws s t {c = c} h is read some = from t h (sym some ∙ read ∙ child_at-link s t h is) where
    from : (t : SearchTree R) → Spells f s t → Some c ≡ child_of f t → HasParts s c
    from Leaf h e = cc
    from (Node l p x r) h e =
        subst (HasParts s) (sym (same_Some _ _ e)) (record {
          left = l;
          right = r;
          left_is = sym (laws.left_set x _ _ ∙ link_of-child_of l);
          right_is = sym (laws.right_set x _ _ ∙ link_of-child_of r);
          left_spelled = h.1;
          right_spelled = h.2;
        })

  pub ContainsKey-at : (s : Slab R) (p : ℕ) (x : R) → get s p ≡ Some x → ContainsKey s p
  ContainsKey-at s p x e = ap is_some e

  pub ContainsKey-place_of : (s : Slab R) (t : SearchTree R) (q : ℕ) → Spells f s t → place_of t ≡ Some q → ContainsKey s q
  ContainsKey-place_of s Leaf q h e = cc
  ContainsKey-place_of s (Node l p x r) q h e = subst (ContainsKey s) (same_Some p q e) (ContainsKey-at s p _ h.0)

  pub readable-left : {s : Slab R} {c : Child R} {at : Option ℕ} → HasParts s c → at ≡ f.left c.row → ForSome at (ContainsKey s)
  readable-left {s} h e = λ q some. ContainsKey-place_of s h.left q h.left_spelled (h.left_is ∙ sym e ∙ some)

  pub readable-right : {s : Slab R} {c : Child R} {at : Option ℕ} → HasParts s c → at ≡ f.right c.row → ForSome at (ContainsKey s)
  readable-right {s} h e = λ q some. ContainsKey-place_of s h.right q h.right_spelled (h.right_is ∙ sym e ∙ some)

  -- both
  pub readable-both : {s : Slab R} {c : Child R} → HasParts s c → ForSome (f.left c.row) (ContainsKey s) × ForSome (f.right c.row) (ContainsKey s)
  readable-both h = (readable-left h refl, readable-right h refl)

module _ {R : Type 0} where
  -- a child that was read under a link stands there
  pub held-link : (s : Slab R) {o : Option (Child R)} {c : Child R} (at : Option ℕ) → o ≡ child_at s at → o ≡ Some c → ContainsKey s c.link
  held-link s None read some = cc
  held-link s {o} {c} (Some p) read some = go (get s p) refl (sym read ∙ some) where
    go : (v : Option R) → get s p ≡ v → child_under p v ≡ Some c → ContainsKey s c.link
    go None e h = cc
    go (Some x) e h = subst (λ (d : Child R). ContainsKey s d.link) (same_Some _ _ h) (ap is_some e)

  -- and still does, if a row was put under any place
  pub held-still : {s s1 : Slab R} {q : ℕ} {row : R} (p : ℕ) → Updates s s1 q (Some row) → ContainsKey s p → ContainsKey s1 p
  held-still {s} {s1} {q} p update held = elim (cases_eq p q) [
    | inl same ↦ subst (λ (k : ℕ). ContainsKey s1 k) (sym same) (ap is_some update.changed)
    | inr other ↦ ap is_some (update.others p other) ∙ held
  ]
