-- Walks over other nodes: they stay where the nodes that they pass say the same of rows, windows, parents and sides.
use Rattle.cow_arena.proofs.Words.{◌≡◌, ◌≢◌, ℕ, Option, None, Some, refl, sym, ap, ◌∙◌, arith, IsSome, is_some, ◌↔◌, some_same, Slot}
use Rattle.cow_arena.proofs.Words.{NodeId, Node, Side, Nodes, link_to, child_on, side_in, Tree, from_side, walk, IsForest, HasRow, Climbs}
use Rattle.cow_arena.proofs.Words.{IsPageAbove, Reaches, absent_node, own_row, past_window, on_upwards}
use Rattle.cow_arena.proofs.WalkLaws.{climb_below, up-each, begins, walk-row, walk-past, walk-climbs}
use Rattle.cow_arena.proofs.ReachLaws.{reach-one, reach-more, reach-each, side-of-child, side-of-parent, hidden-of-child}

-- Node i of u says of its rows, its window, its parent and its side what node j of t says.
pub record SameStep (t u : Tree) (j i : ℕ) : Type 0 where
  pub node : Node
  pub at : t.nodes j ≡ Some node
  pub now : Node
  pub now_at : u.nodes i ≡ Some now
  pub rows : (p : ℕ) → u.slots now.list.0 p ≡ t.slots node.list.0 p
  pub parent : now.parent ≡ node.parent
  pub first : now.first ≡ node.first
  pub seen : now.seen ≡ node.seen
  pub side : side_in u.nodes i ≡ side_in t.nodes j

pub step-back : (t u : Tree) (j i : ℕ) → SameStep t u j i → SameStep u t i j
step-back t u j i s = record {
  node = s.now;
  at = s.now_at;
  now = s.node;
  now_at = s.at;
  rows = λ p. sym (s.rows p);
  parent = sym s.parent;
  first = sym s.first;
  seen = sym s.seen;
  side = sym s.side;
}

-- the side is the same where the parent has the node as the child that the other was
pub same-side : (nodes new : Nodes) (lists now_lists : ℕ) → IsForest nodes lists → IsForest new now_lists → (j i : ℕ) (node now : Node) →
    nodes j ≡ Some node → new i ≡ Some now → now.parent ≡ node.parent →
    ((h : ℕ) (above : Node) (s : Side) → node.parent ≡ link_to h → nodes h ≡ Some above → child_on above s ≡ link_to j → (up : Node) × (new h ≡ Some up) × (child_on up s ≡ link_to i)) →
    side_in new i ≡ side_in nodes j
same-side nodes new lists now_lists f g j i node now at now_at parent child = with_parent node.parent refl
  where
    with_parent : (o : Option NodeId) → node.parent ≡ o → side_in new i ≡ side_in nodes j
    with_parent None e =
        let now_none : now.parent ≡ None = parent ∙ e in
        rw (at, now_at, e, now_none) refl
    with_parent (Some h) e =
        let was = side-of-parent nodes lists f h.0 j node at e in
        let there = child h.0 was.0 was.1 e was.2 was.3 in
        side-of-child new now_lists g h.0 i there.0 was.1 there.1 there.2 ∙ sym was.4

-- a node says of its window, its parent and its side what another said
pub page-moved : (t u : Tree) (k i p j r : ℕ) → SameStep t u k i → IsPageAbove t k p j r → IsPageAbove u i p j r
page-moved t u k i p j r s step =
    let same : step.node ≡ s.node = some_same (sym step.at ∙ s.at) in
    let seen = ap (λ (n : Node). n.seen) same in
    let first = ap (λ (n : Node). n.first) same in
    record {
      node = s.now;
      at = s.now_at;
      inside = let now_seen = s.seen in let inside = step.inside in omega arith;
      parent = s.parent ∙ (ap (λ (n : Node). n.parent) (sym same) ∙ step.parent);
      page = let now_first = s.first in let page = step.page in omega arith;
    }

pub climbs-moved : (t u : Tree) (j i : ℕ) → SameStep t u j i → (p h q : ℕ) → Climbs t j p h q → Climbs u i p h q
unfolding page-moved
climbs-moved t u j i s p h q c =
    let it = page-moved t u j i p h q s (record { node = c.node; at = c.at; inside = c.inside; parent = c.parent; page = c.page }) in
    let free = s.rows p ∙ (ap (λ (n : Node). t.slots n.list.0 p) (some_same (sym s.at ∙ c.at)) ∙ c.free) in
    record { node = it.node; at = it.at; free = free; inside = it.inside; parent = it.parent; page = it.page }

-- it has the rows of the other
pub row-moved : (t u : Tree) (j i p : ℕ) (slot : Slot) → SameStep t u j i → HasRow t j p slot → HasRow u i p slot
row-moved t u j i p slot s r = record {
  node = s.now;
  at = s.now_at;
  row = s.rows p ∙ (ap (λ (n : Node). t.slots n.list.0 p) (some_same (sym s.at ∙ r.at)) ∙ r.row);
}

module _ (t u : Tree) (f : IsForest t.nodes t.lists) (g : IsForest u.nodes u.lists) where
  -- a walk that doesn't end at once stays where what it goes on to stays
  pub step-free : (j i p : ℕ) (s : SameStep t u j i) → t.slots s.node.list.0 p ≡ None → ((h q : ℕ) → Climbs t j p h q → walk u h q ≡ walk t h q) →
      walk u i p ≡ walk t j p
  step-free j i p s free further = elim (begins t f j p) [
    | absent_node e ↦ absurd (let there = s.at in cc)
    | own_row slot r ↦ absurd (let row = sym (ap (λ (n : Node). t.slots n.list.0 p) (some_same (sym r.at ∙ s.at))) ∙ r.row in cc)
    | past_window node at free outside ↦
        let seen = ap (λ (n : Node). n.seen) (some_same (sym s.at ∙ at)) in
        let now_seen = s.seen in
        walk-past u g i p s.now s.now_at (s.rows p ∙ (ap (λ (n : Node). t.slots n.list.0 p) (some_same (sym s.at ∙ at)) ∙ free)) (omega arith)
        ∙ sym (walk-past t f j p node at free outside)
    | on_upwards h q c ↦
        walk-climbs u g i p h q (climbs-moved t u j i s p h q c)
        ∙ (ap (from_side (side_in u.nodes i)) (further h q c)
        ∙ (ap (λ s. from_side s (walk t h q)) s.side ∙ sym (walk-climbs t f j p h q c)))
  ]

  pub step-same : (j p : ℕ) → SameStep t u j j → ((h q : ℕ) → Climbs t j p h q → walk u h q ≡ walk t h q) → walk u j p ≡ walk t j p
  step-same j p s further = with_row (t.slots s.node.list.0 p) refl
    where
      with_row : (o : Option _) → t.slots s.node.list.0 p ≡ o → walk u j p ≡ walk t j p
      with_row None e = step-free j j p s e further
      with_row (Some slot) e =
          let row : HasRow t j p slot = record { node = s.node; at = s.at; row = e } in
          walk-row u g j p slot (row-moved t u j j p slot s row) ∙ sym (walk-row t f j p slot row)

  -- what holds of all that a walk passes, and says that nodes say the same
  module _ (Stays : ℕ → Type 0) (same : (j : ℕ) → Stays j → SameStep t u j j) (on : (j p h q : ℕ) → Stays j → Climbs t j p h q → Stays h) where
    pub walk-moved : (j p : ℕ) → Stays j → walk u j p ≡ walk t j p
    walk-moved = up-each t f (λ j p. Stays j → walk u j p ≡ walk t j p)
        (λ j p ih stays. step-same j p (same j stays) (λ h q c. ih h q c (on j p h q stays c)))

    pub reach-moved : (j p : ℕ) (side : Side) (h q : ℕ) → Stays j → Reaches t j p side h q → Reaches u j p side h q
    reach-moved j p side h q stays w = reach-each t side h q (λ j p. Stays j → Reaches u j p side h q)
        (λ j p c is stays. let s = same j stays in reach-one u j p side h q (climbs-moved t u j j s p h q c) (s.side ∙ is))
        (λ j p x r c _ ih stays. reach-more u j p x r side h q (climbs-moved t u j j (same j stays) p x r c) (ih (on j p x r stays c))) j p w stays

    pub reach-back : (j p : ℕ) (side : Side) (h q : ℕ) → Stays j → Reaches u j p side h q → Reaches t j p side h q
    reach-back j p side h q stays w = reach-each u side h q (λ j p. Stays j → Reaches t j p side h q)
        (λ j p c is stays. let s = same j stays in reach-one t j p side h q (climbs-moved u t j j (step-back t u j j s) p h q c) (sym s.side ∙ is))
        (λ j p x r c _ ih stays.
        let c' = climbs-moved u t j j (step-back t u j j (same j stays)) p x r c in
        reach-more t j p x r side h q c' (ih (on j p x r stays c'))) j p w stays

-- ---- other nodes, where none but a leaf changes

-- Each node but k stays, and k was visible or not there.
pub record IsChangeOf (old new : Nodes) (k : ℕ) : Type 0 where
  pub leaf : (node : Node) → old k ≡ Some node → IsSome node.koid
  pub stay : (j : ℕ) (node : Node) → old j ≡ Some node → j ≢ k → new j ≡ Some node

module _ (t : Tree) (nodes : Nodes) (lists k : ℕ) (f : IsForest t.nodes t.lists) (g : IsForest nodes lists) (change : IsChangeOf t.nodes nodes k) where
  abbrev after : Tree
  after = record { nodes = nodes; slots = t.slots; lists = lists }

  abbrev pub IsOther : ℕ → Type 0
  IsOther j = (node : Node) × (t.nodes j ≡ Some node) × (j ≢ k)

  hidden_other : (x : ℕ) (above : Node) → t.nodes x ≡ Some above → above.koid ≡ None → IsOther x
  hidden_other x above at hidden = (above, at, λ same. no_leaf (change.leaf above (sym (ap t.nodes same) ∙ at)))
    where
      no_leaf : IsSome above.koid → ⊥
      no_leaf visible = let none = ap is_some hidden in absurd (cc)

  other_above : (j p x q : ℕ) → Climbs t j p x q → IsOther x
  other_above j p x q step = let below = climb_below t f.rank f.by j p x q step in hidden_other x below.above below.at below.hidden

  pub other-same : (j : ℕ) → IsOther j → SameStep t after j j
  other-same j other =
      let now_at = change.stay j other.0 other.1 other.2 in
      record {
        node = other.0;
        at = other.1;
        now = other.0;
        now_at = now_at;
        rows = λ p. refl;
        parent = refl;
        first = refl;
        seen = refl;
        side = same-side t.nodes nodes t.lists lists f g j j other.0 other.0 other.1 now_at refl (λ x above s _ at child.
            let up = hidden_other x above at (hidden-of-child t.nodes t.lists f x j above s at child) in
            (above, change.stay x above at up.2, child));
      }

  pub walk-stays : (j p : ℕ) (node : Node) → t.nodes j ≡ Some node → j ≢ k → walk after j p ≡ walk t j p
  walk-stays j p node at apart = walk-moved t after f g IsOther other-same (λ j p x q _ step. other_above j p x q step) j p (node, at, apart)

  pub reach-stays : (j p : ℕ) (side : Side) (h q : ℕ) (node : Node) → t.nodes j ≡ Some node → j ≢ k → Reaches t j p side h q ↔ Reaches after j p side h q
  reach-stays j p side h q node at apart = (
    reach-moved t after f g IsOther other-same (λ j p x q _ step. other_above j p x q step) j p side h q (node, at, apart),
    reach-back t after f g IsOther other-same (λ j p x q _ step. other_above j p x q step) j p side h q (node, at, apart),
  )
