-- Walks after a snapshot: the hidden node has the rows of the leaf, which sees all of it, and the new node sees its window.
use Rattle.cow_arena.proofs.Words.{◌≡◌, ◌≢◌, ℕ, ◌+◌, ◌<◌, ◌≤◌, Option, None, Some, ◌⊎◌, inl, inr, refl, sym, ap, ◌∙◌, subst, arith}
use Rattle.cow_arena.proofs.Words.{cases_eq, Koid, eqb_apart, some_same, with_key-same, with_key-other, ListId, Slot, NodeId, Node, Side}
use Rattle.cow_arena.proofs.Words.{IsVisible, link_to, child_on, side_in, Tree, from_side, walk, frame_found, frame_shown, IsForest}
use Rattle.cow_arena.proofs.Words.{IsListed, HasListedRows, relinked, hidden_over, below_hidden, snapshot_node, paired, Climbs, Reaches}
use Rattle.cow_arena.proofs.WalkLaws.{climb_below, walk-own, walk-past}
use Rattle.cow_arena.proofs.ReachLaws.{reach-one, reach-more, reach-cases, climbs-same, side-of-child, hidden-of-child, side-kept}
use Rattle.cow_arena.proofs.ReachLaws.{hidden-apart, walk-reach}
use Rattle.cow_arena.proofs.MovedLaws.{SameStep, step-back, same-side, climbs-moved, step-free, walk-moved, reach-moved, reach-back}
use Rattle.cow_arena.proofs.RelinkLaws.{relinked-stays, relinked-here}
use Rattle.cow_arena.proofs.ForestLaws.{held_apart}

-- the tree after a snapshot of node k, which was this leaf
abbrev pub paired_tree : Tree → (k : ℕ) → Node → (h c : ℕ) → Koid → (first seen count : ℕ) → Tree
paired_tree t k leaf h c koid first seen count = record {
  nodes = paired t.nodes k leaf h c t.lists koid first seen count;
  slots = t.slots;
  lists = t.lists + 2;
}

module _ (t : Tree) (f : IsForest t.nodes t.lists) (rows : HasListedRows t) where
  -- a list that was not given yet has no rows
  pub rows-fresh : (l p : ℕ) → t.lists ≤ l → t.slots l p ≡ None
  rows-fresh l p new = none (t.slots l p) refl
    where
      none : (o : Option Slot) → t.slots l p ≡ o → t.slots l p ≡ None
      none None e = e
      none (Some slot) e =
          let of = rows.listed l p slot e in
          absurd (omega (arith, f.by.given of.k of.node of.at, of.named))

-- Node i, below node h on this side, has no rows and sees this window of it.
pub record Views (t : Tree) (h i : ℕ) (s : Side) (first seen : ℕ) : Type 0 where
  pub node : Node
  pub at : t.nodes i ≡ Some node
  pub free : (p : ℕ) → t.slots node.list.0 p ≡ None
  pub parent : node.parent ≡ link_to h
  pub side : side_in t.nodes i ≡ Some s
  pub first_is : 0 < seen → node.first ≡ first
  pub seen_is : node.seen ≡ seen

module _ {t : Tree} {h i : ℕ} {s : Side} {first seen : ℕ} (v : Views t h i s first seen) where
  pub views-climbs : (p q : ℕ) → p < seen → q ≡ first + p → Climbs t i p h q
  views-climbs p q inside page = record {
    node = v.node;
    at = v.at;
    free = v.free p;
    inside = let seen_is = v.seen_is in omega arith;
    parent = v.parent;
    page = let first_is = v.first_is (omega arith) in omega arith;
  }

  pub views-reach : (p q : ℕ) → p < seen → q ≡ first + p → Reaches t i p s h q
  views-reach p q inside page = reach-one t i p s h q (views-climbs p q inside page) v.side

  views-inside : (p x y : ℕ) → Climbs t i p x y → p < seen
  views-inside p x y step =
      omega (arith, ap (λ (n : Node). n.seen) (some_same (sym step.at ∙ v.at)), v.seen_is, step.inside)

module _ (t : Tree) (f : IsForest t.nodes t.lists) (k : ℕ) (leaf : Node) (visible : IsVisible t.nodes k leaf) (h c : ℕ) (koid : Koid) (first seen count : ℕ)
    (no_h : t.nodes h ≡ None) (no_c : t.nodes c ≡ None) (apart : h ≢ c) (g : IsForest (paired t.nodes k leaf h c t.lists koid first seen count) (t.lists + 2)) where
  abbrev after : Tree
  after = paired_tree t k leaf h c koid first seen count

  -- ---- the nodes

  k_h : k ≢ h
  k_h = held_apart t.nodes k h leaf visible.at no_h

  k_c : k ≢ c
  k_c = held_apart t.nodes k c leaf visible.at no_c

  pub child-at : after.nodes c ≡ Some (snapshot_node koid h (t.lists + 1) first seen count)
  unfolding paired
  child-at = with_key-same _ c _

  pub leaf-at : after.nodes k ≡ Some (below_hidden leaf h t.lists)
  unfolding paired
  leaf-at = with_key-other _ c _ k k_c ∙ with_key-same _ k _

  pub hidden-at : after.nodes h ≡ Some (hidden_over leaf k c)
  unfolding paired
  hidden-at = with_key-other _ c _ h apart ∙ (with_key-other _ k _ h (λ e. k_h (sym e)) ∙ with_key-same _ h _)

  pub other-at : (j : ℕ) (node : Node) → t.nodes j ≡ Some node → j ≢ k → after.nodes j ≡ relinked t.nodes leaf.parent k h j
  unfolding paired
  other-at j node at other =
      with_key-other _ c _ j (held_apart t.nodes j c node at no_c)
      ∙ (with_key-other _ k _ j other ∙ with_key-other _ h _ j (held_apart t.nodes j h node at no_h))

  -- ---- the steps that stay

  -- a node that was there, other than the leaf
  abbrev pub IsOther : ℕ → Type 0
  IsOther j = (node : Node) × (t.nodes j ≡ Some node) × (j ≢ k)

  -- the parent of a node is such a one
  other-above : (j p x q : ℕ) → Climbs t j p x q → IsOther x
  other-above j p x q step =
      let below = climb_below t f.rank f.by j p x q step in
      (below.above, below.at, hidden-apart t f x k below.above leaf below.at below.hidden visible)

  -- and keeps its other children
  child-stays : (j x : ℕ) (above : Node) (s : Side) → j ≢ k → t.nodes x ≡ Some above → child_on above s ≡ link_to j →
      (up : Node) × (after.nodes x ≡ Some up) × (child_on up s ≡ link_to j)
  child-stays j x above s other at child =
      let x_k = hidden-apart t f x k above leaf at (hidden-of-child t.nodes t.lists f x j above s at child) visible in
      let b = relinked-stays t.nodes leaf.parent k h x above at in
      (b.0, other-at x above at x_k ∙ b.1, b.2.child s j other child)

  -- the hidden node has the place of the leaf
  child-moved : (x : ℕ) (above : Node) (s : Side) → leaf.parent ≡ link_to x → t.nodes x ≡ Some above → child_on above s ≡ link_to k →
      (up : Node) × (after.nodes x ≡ Some up) × (child_on up s ≡ link_to h)
  child-moved x above s parent at child =
      let x_k = hidden-apart t f x k above leaf at (hidden-of-child t.nodes t.lists f x k above s at child) visible in
      let b = relinked-here t.nodes k h x above s at child in
      (b.0, other-at x above at x_k ∙ (ap (λ (o : Option NodeId). relinked t.nodes o k h x) parent ∙ b.1), b.2)

  pub pair-same-other : (j : ℕ) → IsOther j → SameStep t after j j
  pair-same-other j other =
      let b = relinked-stays t.nodes leaf.parent k h j other.0 other.1 in
      let now_at = other-at j other.0 other.1 other.2 ∙ b.1 in
      record {
        node = other.0;
        at = other.1;
        now = b.0;
        now_at = now_at;
        rows = λ p. ap (λ (l : ListId). t.slots l.0 p) b.2.list;
        parent = b.2.parent;
        first = b.2.first;
        seen = b.2.seen;
        side = same-side t.nodes after.nodes t.lists after.lists f g j j other.0 b.0 other.1 now_at b.2.parent (λ x above s _ at child. child-stays j x above s other.2 at child);
      }

  pub pair-same-hidden : SameStep t after k h
  pair-same-hidden = record {
    node = leaf;
    at = visible.at;
    now = hidden_over leaf k c;
    now_at = hidden-at;
    rows = λ p. refl;
    parent = refl;
    first = refl;
    seen = refl;
    side = same-side t.nodes after.nodes t.lists after.lists f g k h leaf (hidden_over leaf k c) visible.at hidden-at refl child-moved;
  }

  -- ---- other nodes

  pub pair-walk-other : (j p : ℕ) → IsOther j → walk after j p ≡ walk t j p
  pair-walk-other = walk-moved t after f g IsOther pair-same-other (λ j p x q _ step. other-above j p x q step)

  pub pair-reach-other : (j p : ℕ) (side : Side) (x q : ℕ) → IsOther j → Reaches t j p side x q → Reaches after j p side x q
  pair-reach-other = reach-moved t after f g IsOther pair-same-other (λ j p x q _ step. other-above j p x q step)

  pub pair-reach-other-back : (j p : ℕ) (side : Side) (x q : ℕ) → IsOther j → Reaches after j p side x q → Reaches t j p side x q
  pair-reach-other-back = reach-back t after f g IsOther pair-same-other (λ j p x q _ step. other-above j p x q step)

  -- ---- the hidden node, in the place of the leaf

  pub pair-walk-hidden-own : (p : ℕ) (slot : Slot) → t.slots leaf.list.0 p ≡ Some slot → walk after h p ≡ Some (record { node = h; page = p; side = None; slot = slot })
  pair-walk-hidden-own p slot row = walk-own after g h p (hidden_over leaf k c) slot hidden-at row

  pub pair-walk-hidden : (p : ℕ) → t.slots leaf.list.0 p ≡ None → walk after h p ≡ walk t k p
  unfolding pair-same-hidden
  pair-walk-hidden p free = step-free t after f g k h p pair-same-hidden free (λ x q step. pair-walk-other x q (other-above k p x q step))

  pub pair-reach-hidden-back : (p : ℕ) (side : Side) (x q : ℕ) → Reaches after h p side x q → Reaches t k p side x q
  pair-reach-hidden-back p side x q w =
      let back = step-back t after k h pair-same-hidden in
      elim (reach-cases after h p side x q w) [
        | inl one ↦ reach-one t k p side x q (climbs-moved after t h k back p x q one.0) (sym pair-same-hidden.side ∙ one.1)
        | inr on ↦
            let step = climbs-moved after t h k back p on.0 on.1 on.2 in
            reach-more t k p on.0 on.1 side x q step (pair-reach-other-back on.0 on.1 side x q (other-above k p on.0 on.1 step) on.3)
      ]

  -- ---- the nodes below the hidden node

  -- the leaf sees all of it
  pub pair-views-leaf : HasListedRows t → Views after h k Side.Left 0 leaf.count
  pair-views-leaf rows = record {
    node = below_hidden leaf h t.lists;
    at = leaf-at;
    free = λ p. rows-fresh t f rows t.lists p (omega arith);
    parent = refl;
    side = side-of-child after.nodes after.lists g h k (hidden_over leaf k c) Side.Left hidden-at refl;
    first_is = λ some_page. refl;
    seen_is = refl;
  }

  -- and the node of the snapshot its window
  pub pair-views-child : HasListedRows t → Views after h c Side.Right first seen
  pair-views-child rows = record {
    node = snapshot_node koid h (t.lists + 1) first seen count;
    at = child-at;
    free = λ p. rows-fresh t f rows (t.lists + 1) p (omega arith);
    parent = refl;
    side = side-of-child after.nodes after.lists g h c (hidden_over leaf k c) Side.Right hidden-at refl;
    first_is = λ some_page. rw (eqb_apart seen 0 (λ none. omega arith)) refl;
    seen_is = refl;
  }

  -- Page p of either is page q of the hidden node, and so shows what page q of the leaf showed.
  module _ (i : ℕ) (s : Side) (from pages : ℕ) (v : Views after h i s from pages) (p q : ℕ) (page : q ≡ from + p) where
    -- an own row of the leaf is now found in the hidden node
    pub pair-walk-own : (slot : Slot) → p < pages → t.slots leaf.list.0 q ≡ Some slot → walk after i p ≡ Some (record { node = h; page = q; side = Some s; slot = slot })
    pair-walk-own slot inside row = walk-reach after g i p s h q (views-reach v p q inside page) ∙ ap (from_side (Some s)) (pair-walk-hidden-own q slot row)

    -- what is further up is found as before
    pub pair-walk-free : p < pages → t.slots leaf.list.0 q ≡ None → walk after i p ≡ walk t k q
    pair-walk-free inside free =
        walk-reach after g i p s h q (views-reach v p q inside page)
        ∙ (ap (from_side (Some s)) (pair-walk-hidden q free) ∙ side-kept t f k q leaf (Some s) visible.at free)

    pub pair-frame : p < pages → frame_shown after i p ≡ frame_shown t k q
    pair-frame inside = with_row (t.slots leaf.list.0 q) refl
      where
        with_row : (o : Option Slot) → t.slots leaf.list.0 q ≡ o → frame_shown after i p ≡ frame_shown t k q
        with_row None e = ap frame_found (pair-walk-free inside e)
        with_row (Some slot) e = ap frame_found (pair-walk-own slot inside e) ∙ sym (ap frame_found (walk-own t f k q leaf slot visible.at e))

    pub pair-reach-cases : (side : Side) (x y : ℕ) → Reaches after i p side x y → (p < pages) × (((x ≡ h) × (y ≡ q) × (side ≡ s)) ⊎ Reaches t k q side x y)
    pair-reach-cases side x y w = elim (reach-cases after i p side x y w) [
      | inl one ↦
          let inside = views-inside v p x y one.0 in
          let same = climbs-same after g i p x y p h q one.0 (views-climbs v p q inside page) in
          (inside, inl (same.0, omega (arith, same.1), some_same (sym one.1 ∙ v.side)))
      | inr on ↦
          let inside = views-inside v p on.0 on.1 on.2 in
          let same = climbs-same after g i p on.0 on.1 p h q on.2 (views-climbs v p q inside page) in
          let here : on.1 ≡ q = omega (arith, same.1) in
          (inside, inr (pair-reach-hidden-back q side x y (subst (λ n. Reaches after n q side x y) same.0 (subst (λ r. Reaches after on.0 r side x y) here on.3))))
    ]

  pub pair-walk-past : (i : ℕ) (s : Side) (from pages : ℕ) (v : Views after h i s from pages) (p : ℕ) → pages ≤ p → walk after i p ≡ None
  pair-walk-past i s from pages v p outside = walk-past after g i p v.node v.at (v.free p) (let seen_is = v.seen_is in omega arith)

  -- rows still stand in lists of nodes alone
  pub pair-listed : HasListedRows t → HasListedRows after
  pair-listed rows = record { listed = λ l p slot e. here l (rows.listed l p slot e) }
    where
      here : (l : ℕ) → IsListed t.nodes l → IsListed after.nodes l
      here l of = elim (cases_eq of.k k) [
        | inl same ↦
            let one : leaf ≡ of.node = some_same (sym visible.at ∙ (sym (ap t.nodes same) ∙ of.at)) in
            record { k = h; node = hidden_over leaf k c; at = hidden-at; named = ap (λ (n : Node). n.list.0) one ∙ of.named }
        | inr apart ↦
            let b = relinked-stays t.nodes leaf.parent k h of.k of.node of.at in
            record { k = of.k; node = b.0; at = other-at of.k of.node of.at apart ∙ b.1; named = ap (λ (l : ListId). l.0) b.2.list ∙ of.named }
      ]
