-- Laws of the ways upwards from a page of a node, whether it has a row there or not: they are joined, and stay where rows go, where
-- a visible node gets rows or changes, and where a snapshot is made.
use Rattle.cow_arena.proofs.Words.{◌≡◌, ◌≢◌, ℕ, ◌+◌, ◌<◌, None, Some, inl, inr, refl, sym, ap, ◌∙◌, subst, arith, IsSome, is_some, Koid}
use Rattle.cow_arena.proofs.Words.{some_same, Node, Side, Nodes, IsVisible, side_in, Tree, Slots, IsForest, paired, Climbs, Reaches}
use Rattle.cow_arena.proofs.Words.{IsPageAbove, Rises, KeepsBare}
use Rattle.cow_arena.proofs.WalkLaws.{climb_below, climbs-bare}
use Rattle.cow_arena.proofs.ReachLaws.{reach-one, reach-more, reach-each, hidden-apart, hidden-of-child}
use Rattle.cow_arena.proofs.MovedLaws.{page-moved, IsChangeOf, other-same, same-side, reach-stays}
use Rattle.cow_arena.proofs.PairWalkLaws.{paired_tree, pair-same-hidden, pair-same-other, pair-reach-other}

module _ (t : Tree) where
  -- to the parent
  pub rises-parent : (k p : ℕ) (side : Side) (h q : ℕ) → IsPageAbove t k p h q → side_in t.nodes k ≡ Some side → Rises t k p side h q
  rises-parent k p side h q step is = record { j = h; r = q; step = step; further = inl (refl, refl, is) }

  -- a walk goes on where the node has no row
  climbs-above : (k p h q : ℕ) (node : Node) → t.nodes k ≡ Some node → t.slots node.list.0 p ≡ None → IsPageAbove t k p h q → Climbs t k p h q
  climbs-above k p h q node at free step = record {
    node = step.node;
    at = step.at;
    free = ap (λ (n : Node). t.slots n.list.0 p) (some_same (sym step.at ∙ at)) ∙ free;
    inside = step.inside;
    parent = step.parent;
    page = step.page;
  }

  pub rises-reach : (k p : ℕ) (side : Side) (h q : ℕ) (node : Node) → t.nodes k ≡ Some node → t.slots node.list.0 p ≡ None → Rises t k p side h q →
      Reaches t k p side h q
  rises-reach k p side h q node at free rises =
      let step = climbs-above k p rises.j rises.r node at free rises.step in
      elim rises.further [
        | inl here ↦
            reach-one t k p side h q (subst (λ i. Climbs t k p i q) here.0 (subst (λ x. Climbs t k p rises.j x) here.1 step)) here.2
        | inr way ↦ reach-more t k p rises.j rises.r side h q step way
      ]

  -- a way, and a way on from there
  pub reach-then : (k p : ℕ) (side : Side) (h q : ℕ) (last : Side) (g r : ℕ) → Reaches t k p side h q → Reaches t h q last g r → Reaches t k p last g r
  reach-then k p side h q last g r way on = reach-each t side h q (λ k p. Reaches t k p last g r)
      (λ k p c _. reach-more t k p h q last g r c on)
      (λ k p j x c _ ih. reach-more t k p j x last g r c ih) k p way

  pub rises-on : (k p : ℕ) (side : Side) (h q : ℕ) (last : Side) (g r : ℕ) → Rises t k p side h q → Reaches t h q last g r → Rises t k p last g r
  rises-on k p side h q last g r rises on = record {
    j = rises.j;
    r = rises.r;
    step = rises.step;
    further = elim rises.further [
      | inl here ↦ inr (subst (λ i. Reaches t i rises.r last g r) (sym here.0) (subst (λ x. Reaches t h x last g r) (sym here.1) on))
      | inr way ↦ inr (reach-then rises.j rises.r side h q last g r way on)
    ];
  }

-- node i of u stands for node k of t, and what comes to the parent goes on as before
pub rises-moved : (t u : Tree) (k i p : ℕ) (side : Side) (h q : ℕ) → ((j r : ℕ) → IsPageAbove t k p j r → IsPageAbove u i p j r) →
    side_in u.nodes i ≡ side_in t.nodes k → ((j r : ℕ) → IsPageAbove t k p j r → Reaches t j r side h q → Reaches u j r side h q) →
    Rises t k p side h q → Rises u i p side h q
rises-moved t u k i p side h q steps side_is reaches rises = record {
  j = rises.j;
  r = rises.r;
  step = steps rises.j rises.r rises.step;
  further = elim rises.further [
    | inl here ↦ inl (here.0, here.1, side_is ∙ here.2)
    | inr way ↦ inr (reaches rises.j rises.r rises.step way)
  ];
}

-- the parent of a node is there, and hidden
pub above-hidden : (t : Tree) → IsForest t.nodes t.lists → (k p h q : ℕ) → IsPageAbove t k p h q → (above : Node) × (t.nodes h ≡ Some above) × (above.koid ≡ None)
above-hidden t f k p h q step = let below = f.by.below h k step.node step.at step.parent in (below.above, below.at, below.hidden)

-- Rows go, and no page gets one that had none.
module _ (t : Tree) (slots : Slots) (fewer : (l q : ℕ) → t.slots l q ≡ None → slots l q ≡ None) where
  abbrev with_fewer : Tree
  with_fewer = record { nodes = t.nodes; slots = slots; lists = t.lists }

  climbs-fewer : (k p h q : ℕ) → Climbs t k p h q → Climbs with_fewer k p h q
  climbs-fewer k p h q c = climbs-bare slots c (fewer c.node.list.0 p c.free)

  reach-fewer : (k p : ℕ) (side : Side) (h q : ℕ) → Reaches t k p side h q → Reaches with_fewer k p side h q
  reach-fewer k p side h q way = reach-each t side h q (λ k p. Reaches with_fewer k p side h q)
      (λ k p c is. reach-one with_fewer k p side h q (climbs-fewer k p h q c) is)
      (λ k p j r c _ ih. reach-more with_fewer k p j r side h q (climbs-fewer k p j r c) ih) k p way

  pub rises-fewer : (k p : ℕ) (side : Side) (h q : ℕ) → Rises t k p side h q → Rises with_fewer k p side h q
  rises-fewer k p side h q = rises-moved t with_fewer k k p side h q
      (λ j r step. record { node = step.node; at = step.at; inside = step.inside; parent = step.parent; page = step.page }) refl
      (λ j r step way. reach-fewer j r side h q way)

-- Rows go, and the visible node v gets some.
module _ (t : Tree) (f : IsForest t.nodes t.lists) (slots : Slots) (v : ℕ) (leaf : Node) (visible : IsVisible t.nodes v leaf)
    (keeps : KeepsBare t.slots slots leaf.list.0) where
  abbrev with_slots : Tree
  with_slots = record { nodes = t.nodes; slots = slots; lists = t.lists }

  climbs-kept : (k p h q : ℕ) (node : Node) → t.nodes k ≡ Some node → node.koid ≡ None → Climbs t k p h q → Climbs with_slots k p h q
  climbs-kept k p h q node at hidden c = climbs-bare slots c
      (keeps.bare c.node.list.0 p (λ same. hidden-apart t f k v node leaf at hidden visible (f.by.own k v c.node leaf c.at visible.at same)) c.free)

  reach-bare : (k p : ℕ) (side : Side) (h q : ℕ) (node : Node) → t.nodes k ≡ Some node → node.koid ≡ None → Reaches t k p side h q → Reaches with_slots k p side h q
  reach-bare k p side h q node at hidden way = reach-each t side h q
      (λ k p. (node : Node) → t.nodes k ≡ Some node → node.koid ≡ None → Reaches with_slots k p side h q)
      (λ k p c is node at hidden. reach-one with_slots k p side h q (climbs-kept k p h q node at hidden c) is)
      (λ k p j r c _ ih node at hidden.
      let below = climb_below t f.rank f.by k p j r c in
      reach-more with_slots k p j r side h q (climbs-kept k p j r node at hidden c) (ih below.above below.at below.hidden)) k p way node at hidden

  pub rises-bare : (k p : ℕ) (side : Side) (h q : ℕ) → Rises t k p side h q → Rises with_slots k p side h q
  rises-bare k p side h q = rises-moved t with_slots k k p side h q
      (λ j r step. record { node = step.node; at = step.at; inside = step.inside; parent = step.parent; page = step.page }) refl
      (λ j r step way. let above = above-hidden t f k p j r step in reach-bare j r side h q above.0 above.1 above.2 way)

-- A visible node changes, comes or goes.
module _ (t : Tree) (nodes : Nodes) (lists v : ℕ) (f : IsForest t.nodes t.lists) (g : IsForest nodes lists) (change : IsChangeOf t.nodes nodes v) where
  abbrev with_nodes : Tree
  with_nodes = record { nodes = nodes; slots = t.slots; lists = lists }

  -- the parent of a node is another
  above-stays : (k p h q : ℕ) (side : Side) (g r : ℕ) → IsPageAbove t k p h q → Reaches t h q side g r → Reaches with_nodes h q side g r
  above-stays k p h q side g' r step way =
      let above = above-hidden t f k p h q step in
      (reach-stays t nodes lists v f g change h q side g' r above.0 above.1 (λ same.
      let visible = change.leaf above.0 (sym (ap t.nodes same) ∙ above.1) in
      let none = above.2 in
      absurd (cc))).0 way

  -- from another node
  pub rises-stays : (k p : ℕ) (side : Side) (h q : ℕ) → k ≢ v → Rises t k p side h q → Rises with_nodes k p side h q
  rises-stays k p side h q apart rises =
      let same = other-same t nodes lists v f g change k (rises.step.node, rises.step.at, apart) in
      rises-moved t with_nodes k k p side h q
      (λ j r step. record { node = step.node; at = change.stay k step.node step.at apart; inside = step.inside; parent = step.parent; page = step.page }) same.side
      (λ j r step way. above-stays k p j r side h q step way) rises

  -- from the node itself, at a page that it sees where it saw it
  pub rises-changed : (p : ℕ) (side : Side) (h q : ℕ) (leaf now : Node) → t.nodes v ≡ Some leaf → nodes v ≡ Some now → now.parent ≡ leaf.parent →
      now.first ≡ leaf.first → p < now.seen → Rises t v p side h q → Rises with_nodes v p side h q
  rises-changed p side h q leaf now at now_at parent first inside rises = rises-moved t with_nodes v v p side h q
      (λ j r step.
      let same : step.node ≡ leaf = some_same (sym step.at ∙ at) in
      let was = ap (λ (n : Node). n.first) same in
      record {
        node = now;
        at = now_at;
        inside = inside;
        parent = parent ∙ (ap (λ (n : Node). n.parent) (sym same) ∙ step.parent);
        page = let page = step.page in omega arith;
      })
      (same-side t.nodes nodes t.lists lists f g v v leaf now at now_at parent (λ x above s _ above_at child.
      let hidden = hidden-of-child t.nodes t.lists f x v above s above_at child in (
        above,
        change.stay x above above_at (λ same. no_leaf above hidden (change.leaf above (sym (ap t.nodes same) ∙ above_at))),
        child,
      )))
      (λ j r step way. above-stays v p j r side h q step way) rises
    where
      no_leaf : (above : Node) → above.koid ≡ None → IsSome above.koid → ⊥
      no_leaf above hidden visible = let none = ap is_some hidden in absurd (cc)

-- A snapshot of node v, which was this leaf, is made.
module _ (t : Tree) (f : IsForest t.nodes t.lists) (v : ℕ) (leaf : Node) (visible : IsVisible t.nodes v leaf) (h c : ℕ) (koid : Koid) (first seen count : ℕ)
    (no_h : t.nodes h ≡ None) (no_c : t.nodes c ≡ None) (apart : h ≢ c) (g : IsForest (paired t.nodes v leaf h c t.lists koid first seen count) (t.lists + 2)) where
  abbrev pair : Tree
  pair = paired_tree t v leaf h c koid first seen count

  pair-above : (k p j r : ℕ) (side : Side) (x q : ℕ) → IsPageAbove t k p j r → Reaches t j r side x q → Reaches pair j r side x q
  pair-above k p j r side x q step way =
      let above = above-hidden t f k p j r step in
      pair-reach-other t f v leaf visible h c koid first seen count no_h no_c apart g j r side x q
      (above.0, above.1, hidden-apart t f j v above.0 leaf above.1 above.2 visible) way

  -- from another node
  pub rises-paired : (k p : ℕ) (side : Side) (x q : ℕ) → k ≢ v → Rises t k p side x q → Rises pair k p side x q
  rises-paired k p side x q other rises =
      let s = pair-same-other t f v leaf visible h c koid first seen count no_h no_c apart g k (rises.step.node, rises.step.at, other) in
      rises-moved t pair k k p side x q (λ j r step. page-moved t pair k k p j r s step) s.side (λ j r step way. pair-above k p j r side x q step way) rises

  -- from the hidden node as it was from the leaf
  pub rises-hidden : (p : ℕ) (side : Side) (x q : ℕ) → Rises t v p side x q → Rises pair h p side x q
  rises-hidden p side x q rises =
      let s = pair-same-hidden t f v leaf visible h c koid first seen count no_h no_c apart g in
      rises-moved t pair v h p side x q (λ j r step. page-moved t pair v h p j r s step) s.side (λ j r step way. pair-above v p j r side x q step way) rises
