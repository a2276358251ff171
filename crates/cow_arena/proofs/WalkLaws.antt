-- Laws of walks in a forest: how they begin, which ways they take upwards, and where they end.
use Rattle.cow_arena.proofs.Words.{◌≡◌, ℕ, zero, suc, ◌+◌, ◌<◌, ◌≤◌, true, false, Option, None, Some, inl, inr, refl, sym, ap, ◌∙◌, arith}
use Rattle.cow_arena.proofs.Words.{nat_lt, cases_lt, lt-ltb, le-ltb, some_same, Slot, NodeId, Node, Side, link_to, side_in, Tree, Slots}
use Rattle.cow_arena.proofs.Words.{from_side, walk_over, walk, IsForest, IsForestBy, HasAsChild, HasRow, Climbs, Begins, absent_node}
use Rattle.cow_arena.proofs.Words.{own_row, past_window, on_upwards}

-- ---- one step

-- links that are equal lead to one node
pub link_same : {j k : ℕ} → link_to j ≡ link_to k → j ≡ k
link_same {j} {k} e = let e' : ◌≡◌ {A = NodeId} (record { 0 = j }) (record { 0 = k }) = some_same e in ap (λ (at : NodeId). at.0) e'

module _ (t : Tree) where
  pub over-none : (k p : ℕ) → walk_over t.nodes t.slots 0 k p ≡ None
  unfolding walk_over
  over-none k p = refl

  pub over-absent : (n k p : ℕ) → t.nodes k ≡ None → walk_over t.nodes t.slots n k p ≡ None
  unfolding walk_over
  over-absent zero k p e = refl
  over-absent (suc n) k p e = rw e refl

  pub over-own : (n k p : ℕ) (slot : Slot) (r : HasRow t k p slot) →
      walk_over t.nodes t.slots (suc n) k p ≡ Some (record { node = k; page = p; side = None; slot = slot })
  unfolding walk_over
  over-own n k p slot r = rw (r.at, r.row) refl

  pub over-past : (n k p : ℕ) (node : Node) → t.nodes k ≡ Some node → t.slots node.list.0 p ≡ None → node.seen ≤ p →
      walk_over t.nodes t.slots (suc n) k p ≡ None
  unfolding walk_over
  over-past n k p node at free outside =
      let test : nat_lt p node.seen ≡ false = le-ltb p node.seen outside in
      rw (at, free, test) refl

  over-side : (n k p h q : ℕ) (side : Option Side) → Climbs t k p h q → side_in t.nodes k ≡ side →
      walk_over t.nodes t.slots (suc n) k p ≡ from_side side (walk_over t.nodes t.slots n h q)
  unfolding walk_over
  over-side n k p h q side c is =
      let test : nat_lt p c.node.seen ≡ true = lt-ltb p c.node.seen c.inside in
      rw (c.at, c.free, test, c.parent, ← c.page) (ap (λ s. from_side s (walk_over t.nodes t.slots n h q)) is)

  pub over-up : (n k p h q : ℕ) → Climbs t k p h q →
      walk_over t.nodes t.slots (suc n) k p ≡ from_side (side_in t.nodes k) (walk_over t.nodes t.slots n h q)
  over-up n k p h q c = over-side n k p h q (side_in t.nodes k) c refl

-- a step stays where other rows have none of the page either
pub climbs-bare : {t : Tree} {k p h q : ℕ} (slots : Slots) (c : Climbs t k p h q) → slots c.node.list.0 p ≡ None → Climbs (record t { slots = slots }) k p h q
climbs-bare slots c free = record { node = c.node; at = c.at; free = free; inside = c.inside; parent = c.parent; page = c.page }

-- ---- the rank

-- a step upwards goes to the node that is the parent, at a lesser rank
pub climb_below : (t : Tree) (rank : ℕ → ℕ) → IsForestBy t.nodes t.lists rank → (k p h q : ℕ) (c : Climbs t k p h q) → HasAsChild t.nodes rank h k c.node
climb_below t rank f k p h q c = f.below h k c.node c.at c.parent

-- what holds of each node, where it holds of one if it holds of all further up
pub rank-each : (rank : ℕ → ℕ) (P : ℕ → Type 0) → ((k : ℕ) → ((h : ℕ) → rank h < rank k → P h) → P k) → (k : ℕ) → P k
rank-each rank P each k = go (suc (rank k)) k (omega arith)
  where
    go : (n k : ℕ) → rank k < n → P k
    go zero k h = absurd (omega arith)
    go (suc n) k h = each k (λ j deeper. go n j (omega arith))

-- What holds of each page of each node, where it holds of one if it holds of the page to which a walk goes on. This is the
-- induction for all that follows.
pub up-each : (t : Tree) → IsForest t.nodes t.lists → (P : ℕ → ℕ → Type 0) →
    ((k p : ℕ) → ((h q : ℕ) → Climbs t k p h q → P h q) → P k p) → (k p : ℕ) → P k p
up-each t f P each k = rank-each f.rank (λ k. (p : ℕ) → P k p) (λ k ih p. each k p (λ h q c. ih h (climb_below t f.rank f.by k p h q c).deeper q)) k

module _ (t : Tree) (f : IsForest t.nodes t.lists) where
  pub begins : (k p : ℕ) → Begins t k p
  begins k p = with_node (t.nodes k) refl
    where
      with_parent : (node : Node) → t.nodes k ≡ Some node → t.slots node.list.0 p ≡ None → p < node.seen → (o : Option NodeId) → node.parent ≡ o → Begins t k p
      with_parent node at free inside None e = absurd (let none = f.by.root k node at e in omega arith)
      with_parent node at free inside (Some parent) e =
          on_upwards parent.0 (node.first + p) (record { node = node; at = at; free = free; inside = inside; parent = e; page = refl })

      with_row : (node : Node) → t.nodes k ≡ Some node → (o : Option Slot) → t.slots node.list.0 p ≡ o → Begins t k p
      with_row node at (Some slot) e = own_row slot (record { node = node; at = at; row = e })
      with_row node at None e = elim (cases_lt p node.seen) [
        | inl inside ↦ with_parent node at e inside node.parent refl
        | inr outside ↦ past_window node at e outside
      ]

      with_node : (o : Option Node) → t.nodes k ≡ o → Begins t k p
      with_node None e = absent_node e
      with_node (Some node) e = with_row node e (t.slots node.list.0 p) refl

  -- more fuel than the rank of the node is as good as any
  over-enough : (n m k p : ℕ) → f.rank k < n → f.rank k < m → walk_over t.nodes t.slots n k p ≡ walk_over t.nodes t.slots m k p
  over-enough zero m k p h g = absurd (omega arith)
  over-enough (suc n) zero k p h g = absurd (omega arith)
  over-enough (suc n) (suc m) k p h g = elim (begins k p) [
    | absent_node e ↦ over-absent t (suc n) k p e ∙ sym (over-absent t (suc m) k p e)
    | own_row slot r ↦ over-own t n k p slot r ∙ sym (over-own t m k p slot r)
    | past_window node at free outside ↦ over-past t n k p node at free outside ∙ sym (over-past t m k p node at free outside)
    | on_upwards j q c ↦
        let deeper = (climb_below t f.rank f.by k p j q c).deeper in
        over-up t n k p j q c ∙ (ap (from_side (side_in t.nodes k)) (over-enough n m j q (omega arith) (omega arith)) ∙ sym (over-up t m k p j q c))
  ]

  -- the fuel of a walk from a node that is there
  fuel : (k : ℕ) (node : Node) → t.nodes k ≡ Some node → (n : ℕ) × (t.lists ≡ suc n) × (f.rank k ≤ n)
  fuel k node at = let below = f.by.ranks k node at in with_lists t.lists refl
    where
      with_lists : (n : ℕ) → t.lists ≡ n → (m : ℕ) × (t.lists ≡ suc m) × (f.rank k ≤ m)
      with_lists zero e = absurd (let below = f.by.ranks k node at in omega arith)
      with_lists (suc m) e = (m, e, let below = f.by.ranks k node at in omega arith)

  -- ---- how a walk begins

  pub walk-absent : (k p : ℕ) → t.nodes k ≡ None → walk t k p ≡ None
  walk-absent k p e = over-absent t t.lists k p e

  pub walk-row : (k p : ℕ) (slot : Slot) → HasRow t k p slot → walk t k p ≡ Some (record { node = k; page = p; side = None; slot = slot })
  walk-row k p slot r =
      let enough = fuel k r.node r.at in
      ap (λ n. walk_over t.nodes t.slots n k p) enough.1 ∙ over-own t enough.0 k p slot r

  pub walk-own : (k p : ℕ) (node : Node) (slot : Slot) → t.nodes k ≡ Some node → t.slots node.list.0 p ≡ Some slot →
      walk t k p ≡ Some (record { node = k; page = p; side = None; slot = slot })
  walk-own k p node slot at row = walk-row k p slot (record { node = node; at = at; row = row })

  pub walk-past : (k p : ℕ) (node : Node) → t.nodes k ≡ Some node → t.slots node.list.0 p ≡ None → node.seen ≤ p → walk t k p ≡ None
  walk-past k p node at free outside =
      let enough = fuel k node at in
      ap (λ n. walk_over t.nodes t.slots n k p) enough.1 ∙ over-past t enough.0 k p node at free outside

  pub walk-climbs : (k p h q : ℕ) → Climbs t k p h q → walk t k p ≡ from_side (side_in t.nodes k) (walk t h q)
  walk-climbs k p h q c =
      let enough = fuel k c.node c.at in
      let deeper = (climb_below t f.rank f.by k p h q c).deeper in
      ap (λ n. walk_over t.nodes t.slots n k p) enough.1
      ∙ (over-up t enough.0 k p h q c
      ∙ ap (from_side (side_in t.nodes k)) (over-enough enough.0 t.lists h q (let few = enough.2 in omega arith) (let few = enough.2 in let all = enough.1 in omega arith)))

  pub walk-up : (k p h : ℕ) (node : Node) → t.nodes k ≡ Some node → t.slots node.list.0 p ≡ None → p < node.seen → node.parent ≡ link_to h →
      walk t k p ≡ from_side (side_in t.nodes k) (walk t h (node.first + p))
  walk-up k p h node at free inside parent =
      walk-climbs k p h (node.first + p) (record { node = node; at = at; free = free; inside = inside; parent = parent; page = refl })
