-- Walks after a leaf got another count or window, and where a root comes; and which lists have rows then.
use Rattle.cow_arena.proofs.Words.{◌≡◌, ◌≢◌, ℕ, ◌<◌, ◌≤◌, None, Some, inl, inr, sym, ap, ◌∙◌, subst, arith, IsSome, cases_eq, with_key}
use Rattle.cow_arena.proofs.Words.{some_same, with_key-same, with_key-other, ListId, Node, Nodes, IsVisible, side_in, Tree, tree_with}
use Rattle.cow_arena.proofs.Words.{from_side, walk, IsForest, IsListed, Climbs, absent_node, own_row, past_window, on_upwards, HasListedRows}
use Rattle.cow_arena.proofs.WalkLaws.{climb_below, begins, walk-row, walk-past, walk-climbs}
use Rattle.cow_arena.proofs.ReachLaws.{hidden-of-child, hidden-apart}
use Rattle.cow_arena.proofs.MovedLaws.{IsChangeOf, same-side, walk-stays}

-- a leaf changes
pub leaf-changed : (nodes : Nodes) (k : ℕ) (leaf new : Node) → IsVisible nodes k leaf → IsChangeOf nodes (with_key nodes k new) k
leaf-changed nodes k leaf new visible = record {
  leaf = λ node at. subst (λ (n : Node). IsSome n.koid) (some_same (sym visible.at ∙ at)) visible.koid;
  stay = λ j node at apart. with_key-other nodes k new j apart ∙ at;
}

-- where a node comes, or one keeps its list, rows still stand in lists of nodes alone
pub put-listed : (t : Tree) (nodes : Nodes) (lists k : ℕ) (new : Node) → nodes ≡ with_key t.nodes k new → ((node : Node) → t.nodes k ≡ Some node → new.list ≡ node.list) →
    HasListedRows t → HasListedRows (tree_with nodes lists t.slots)
put-listed t nodes lists k new is list rows = record { listed = λ l p slot e. here l (rows.listed l p slot e) }
  where
    here : (l : ℕ) → IsListed t.nodes l → IsListed nodes l
    here l of = elim (cases_eq of.k k) [
      | inl same ↦
          let kept = list of.node (ap t.nodes (sym same) ∙ of.at) in
          record { k = k; node = new; at = ap (λ (map : Nodes). map k) is ∙ with_key-same t.nodes k new; named = ap (λ (i : ListId). i.0) kept ∙ of.named }
      | inr apart ↦ record {
        k = of.k;
        node = of.node;
        at = ap (λ (map : Nodes). map of.k) is ∙ (with_key-other t.nodes k new of.k apart ∙ of.at);
        named = of.named;
      }
    ]

-- a node comes
pub node-added : (nodes : Nodes) (k : ℕ) (new : Node) → nodes k ≡ None → IsChangeOf nodes (with_key nodes k new) k
node-added nodes k new free = record { leaf = λ node at. absurd (cc); stay = λ j node at apart. with_key-other nodes k new j apart ∙ at }

module _ (t : Tree) (f : IsForest t.nodes t.lists) (k : ℕ) (leaf new : Node) (visible : IsVisible t.nodes k leaf) (list : new.list ≡ leaf.list) (parent : new.parent ≡ leaf.parent)
    (g : IsForest (with_key t.nodes k new) t.lists) where
  abbrev after : Tree
  after = record t { nodes = with_key t.nodes k new }

  new_at : after.nodes k ≡ Some new
  new_at = with_key-same t.nodes k new

  leaf_side : side_in after.nodes k ≡ side_in t.nodes k
  leaf_side = same-side t.nodes after.nodes t.lists t.lists f g k k leaf new visible.at new_at parent (λ h above s _ at child.
      let other = hidden-apart t f h k above leaf at (hidden-of-child t.nodes t.lists f h k above s at child) visible in
      (above, with_key-other t.nodes k new h other ∙ at, child))

  -- the walks of other nodes stay
  pub walk-leaf-changed-other : (j p : ℕ) (node : Node) → t.nodes j ≡ Some node → j ≢ k → walk after j p ≡ walk t j p
  walk-leaf-changed-other = walk-stays t after.nodes t.lists k f g (leaf-changed t.nodes k leaf new visible)

  rows_same : (p : ℕ) → t.slots new.list.0 p ≡ t.slots leaf.list.0 p
  rows_same p = ap (λ (l : ListId). t.slots l.0 p) list

  leaf_climbs : (p h q : ℕ) → (p < leaf.seen → (p < new.seen) × (new.first ≡ leaf.first)) → Climbs t k p h q → Climbs after k p h q
  leaf_climbs p h q window c =
      let one : c.node ≡ leaf = some_same (sym c.at ∙ visible.at) in
      let seen = ap (λ (n : Node). n.seen) one in
      let first = ap (λ (n : Node). n.first) one in
      let was = c.inside in
      let now = window (omega arith) in
      let page = c.page in
      record {
        node = new;
        at = new_at;
        free = rows_same p ∙ (ap (λ (n : Node). t.slots n.list.0 p) (sym one) ∙ c.free);
        inside = now.0;
        parent = parent ∙ (ap (λ (n : Node). n.parent) (sym one) ∙ c.parent);
        page = omega (arith, now.1);
      }

  -- and the leaf's at a page that it sees where it saw it, or sees no more than it did
  pub walk-leaf-changed : (p : ℕ) → (p < leaf.seen → (p < new.seen) × (new.first ≡ leaf.first)) → (leaf.seen ≤ p → new.seen ≤ p) → walk after k p ≡ walk t k p
  walk-leaf-changed p window outside = elim (begins t f k p) [
    | absent_node e ↦ absurd (let there = visible.at in cc)
    | own_row slot r ↦
        let row = rows_same p ∙ (ap (λ (n : Node). t.slots n.list.0 p) (some_same (sym visible.at ∙ r.at)) ∙ r.row) in
        walk-row after g k p slot (record { node = new; at = new_at; row = row }) ∙ sym (walk-row t f k p slot r)
    | past_window node at free past ↦
        let one : leaf ≡ node = some_same (sym visible.at ∙ at) in
        let seen = ap (λ (n : Node). n.seen) one in
        walk-past after g k p new new_at (rows_same p ∙ (ap (λ (n : Node). t.slots n.list.0 p) one ∙ free)) (outside (omega arith))
        ∙ sym (walk-past t f k p node at free past)
    | on_upwards h q c ↦
        let below = climb_below t f.rank f.by k p h q c in
        walk-climbs after g k p h q (leaf_climbs p h q window c)
        ∙ (ap (from_side (side_in after.nodes k)) (walk-leaf-changed-other h q below.above below.at (hidden-apart t f h k below.above leaf below.at below.hidden visible))
        ∙ (ap (λ s. from_side s (walk t h q)) leaf_side ∙ sym (walk-climbs t f k p h q c)))
  ]
