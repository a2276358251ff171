-- A tree under other list numbers: its walks are the same, and its nodes are a forest.
use Rattle.cow_arena.proofs.Words.{◌≡◌, ◌≢◌, ℕ, zero, suc, ◌<◌, ◌≤◌, Option, None, Some, inl, inr, refl, sym, ap, subst, ◌∙◌, arith}
use Rattle.cow_arena.proofs.Words.{option_map, IsSome, cases_eq, eqb_same, eqb_apart, some_same, NodeId, Node, Nodes, link_to, side_of}
use Rattle.cow_arena.proofs.Words.{side_in, Tree, from_side, walk_over, walk, frame_found, frame_shown, IsForest, IsForestBy, IsChild}
use Rattle.cow_arena.proofs.Words.{HasPair, HasAsChild, exchanged, renamed_node, renamed_nodes, renamed, IsExchange, absent_node, own_row}
use Rattle.cow_arena.proofs.Words.{past_window, on_upwards}
use Rattle.cow_arena.proofs.WalkLaws.{over-none, over-absent, over-own, over-past, over-up, begins}
use Rattle.cow_arena.proofs.ForestLaws.{pair_stays}

-- ---- two numbers that are exchanged

pub exchanged-first : (a b : ℕ) → exchanged a b a ≡ b
unfolding exchanged
exchanged-first a b = rw (eqb_same a) refl

pub exchanged-second : (a b : ℕ) → exchanged a b b ≡ a
unfolding exchanged
exchanged-second a b = elim (cases_eq b a) [
  | inl same ↦ rw (same, eqb_same a) refl
  | inr apart ↦ rw (eqb_apart b a apart, eqb_same b) refl
]

pub exchanged-other : (a b l : ℕ) → l ≢ a → l ≢ b → exchanged a b l ≡ l
unfolding exchanged
exchanged-other a b l l_a l_b = rw (eqb_apart l a l_a, eqb_apart l b l_b) refl

pub exchange-of : (a b lists : ℕ) → a < lists → b < lists → IsExchange (exchanged a b) lists
exchange-of a b lists a_less b_less = record { twice = twice; below = below }
  where
    twice : (l : ℕ) → exchanged a b (exchanged a b l) ≡ l
    twice l = elim (cases_eq l a) [
      | inl here ↦ ap (λ n. exchanged a b (exchanged a b n)) here ∙ (ap (exchanged a b) (exchanged-first a b) ∙ (exchanged-second a b ∙ sym here))
      | inr l_a ↦ elim (cases_eq l b) [
        | inl there ↦ ap (λ n. exchanged a b (exchanged a b n)) there ∙ (ap (exchanged a b) (exchanged-second a b) ∙ (exchanged-first a b ∙ sym there))
        | inr l_b ↦ ap (exchanged a b) (exchanged-other a b l l_a l_b) ∙ exchanged-other a b l l_a l_b
      ]
    ]

    below : (l : ℕ) → l < lists → exchanged a b l < lists
    below l less = elim (cases_eq l a) [
      | inl here ↦ omega (arith, ap (exchanged a b) here ∙ exchanged-first a b)
      | inr l_a ↦ elim (cases_eq l b) [
        | inl there ↦ omega (arith, ap (exchanged a b) there ∙ exchanged-second a b)
        | inr l_b ↦ omega (arith, exchanged-other a b l l_a l_b)
      ]
    ]

-- ---- nodes

module _ (name : ℕ → ℕ) (nodes : Nodes) where
  pub renamed-at : (k : ℕ) (node : Node) → nodes k ≡ Some node → renamed_nodes name nodes k ≡ Some (renamed_node name node)
  renamed-at k node at = ap (option_map (renamed_node name)) at

  -- each node is one under its new list number
  pub renamed-was : (k : ℕ) (now : Node) → renamed_nodes name nodes k ≡ Some now → (node : Node) × (nodes k ≡ Some node) × (renamed_node name node ≡ now)
  renamed-was k now at = by_node (nodes k) refl
    where
      by_node : (o : Option Node) → nodes k ≡ o → (node : Node) × (nodes k ≡ Some node) × (renamed_node name node ≡ now)
      by_node None is = absurd (let none : ◌≡◌ {A = Option Node} None (Some now) = sym (ap (option_map (renamed_node name)) is) ∙ at in cc)
      by_node (Some node) is = (node, is, some_same (sym (renamed-at k node is) ∙ at))

  -- what holds of each node under its new list number holds of each that is there now
  pub renamed-each : (P : ℕ → Node → Type 0) → ((k : ℕ) (node : Node) → nodes k ≡ Some node → P k (renamed_node name node)) → (k : ℕ) (now : Node) →
      renamed_nodes name nodes k ≡ Some now → P k now
  renamed-each P each k now at = let was = renamed-was k now at in subst (P k) was.2 (each k was.0 was.1)

  -- each node is on the side on which it was
  pub side-renamed : (k : ℕ) → side_in (renamed_nodes name nodes) k ≡ side_in nodes k
  side-renamed k = by_node (nodes k) refl
    where
      by_above : (o : Option Node) →
          option_map (λ (above : Node). side_of above k) (option_map (renamed_node name) o) ≡ option_map (λ (above : Node). side_of above k) o
      by_above None = refl
      by_above (Some above) = refl

      by_parent : (node : Node) → nodes k ≡ Some node → (o : Option NodeId) → node.parent ≡ o → side_in (renamed_nodes name nodes) k ≡ side_in nodes k
      by_parent node at None up = rw (at, up) refl
      by_parent node at (Some parent) up = rw (at, up) (by_above (nodes parent.0))

      by_node : (o : Option Node) → nodes k ≡ o → side_in (renamed_nodes name nodes) k ≡ side_in nodes k
      by_node None at = rw at refl
      by_node (Some node) at = by_parent node at node.parent refl

-- ---- the forest

module _ (name : ℕ → ℕ) (lists : ℕ) (exchange : IsExchange name lists) (nodes : Nodes) (rank : ℕ → ℕ) (f : IsForestBy nodes lists rank) where
  child : (h k : ℕ) → IsChild nodes h k → IsChild (renamed_nodes name nodes) h k
  child h k c = record { node = renamed_node name c.node; at = renamed-at name nodes k c.node c.at; parent = c.parent }

  pub forest-renamed_by : IsForestBy (renamed_nodes name nodes) lists rank
  forest-renamed_by = record {
    leaves = λ k now v. renamed-each name nodes (λ k now. IsSome now.koid → (now.left ≡ None) × (now.right ≡ None))
        (λ k node at koid. f.leaves k node (record { at = at; koid = koid })) k now v.at v.koid;
    pairs = renamed-each name nodes (λ k now. now.koid ≡ None → HasPair (renamed_nodes name nodes) k now)
        (λ k node at hidden. pair_stays refl refl (child k) (f.pairs k node at hidden));
    below = λ h. renamed-each name nodes (λ k now. now.parent ≡ link_to h → HasAsChild (renamed_nodes name nodes) rank h k now)
        (λ k node at parent.
        let b = f.below h k node at parent in
        record {
          above = renamed_node name b.above;
          at = renamed-at name nodes h b.above b.at;
          hidden = b.hidden;
          side = b.side;
          window = b.window;
          deeper = b.deeper;
        });
    own = λ j k a b a_at b_at same.
        let v = renamed-was name nodes j a a_at in
        let w = renamed-was name nodes k b b_at in
        f.own j k v.0 w.0 v.1 w.1
        (sym (exchange.twice v.0.list.0)
        ∙ (ap name (ap (λ (n : Node). n.list.0) v.2 ∙ (same ∙ sym (ap (λ (n : Node). n.list.0) w.2))) ∙ exchange.twice w.0.list.0));
    given = renamed-each name nodes (λ k now. now.list.0 < lists) (λ k node at. exchange.below node.list.0 (f.given k node at));
    ranks = renamed-each name nodes (λ k now. rank k < lists) f.ranks;
    seen = renamed-each name nodes (λ k now. now.seen ≤ now.count) f.seen;
    empty = renamed-each name nodes (λ k now. now.seen ≡ 0 → now.first ≡ 0) f.empty;
    root = renamed-each name nodes (λ k now. now.parent ≡ None → now.seen ≡ 0) f.root;
  }

-- ---- walks

module _ (name : ℕ → ℕ) (twice : (l : ℕ) → name (name l) ≡ l) (t : Tree) (f : IsForest t.nodes t.lists) where
  -- each node has the rows that it had
  pub row-renamed : (node : Node) (p : ℕ) → (renamed name t).slots (renamed_node name node).list.0 p ≡ t.slots node.list.0 p
  row-renamed node p = ap (λ l. t.slots l p) (twice node.list.0)

  over-renamed : (n k p : ℕ) → walk_over (renamed name t).nodes (renamed name t).slots n k p ≡ walk_over t.nodes t.slots n k p
  over-renamed zero k p = over-none (renamed name t) k p ∙ sym (over-none t k p)
  over-renamed (suc n) k p = elim (begins t f k p) [
    | absent_node none ↦ over-absent (renamed name t) (suc n) k p (ap (option_map (renamed_node name)) none) ∙ sym (over-absent t (suc n) k p none)
    | own_row slot r ↦
        over-own (renamed name t) n k p slot
        (record { node = renamed_node name r.node; at = renamed-at name t.nodes k r.node r.at; row = row-renamed r.node p ∙ r.row })
        ∙ sym (over-own t n k p slot r)
    | past_window node at free outside ↦
        over-past (renamed name t) n k p (renamed_node name node) (renamed-at name t.nodes k node at) (row-renamed node p ∙ free) outside
        ∙ sym (over-past t n k p node at free outside)
    | on_upwards h q c ↦
        over-up (renamed name t) n k p h q
        (record {
          node = renamed_node name c.node;
          at = renamed-at name t.nodes k c.node c.at;
          free = row-renamed c.node p ∙ c.free;
          inside = c.inside;
          parent = c.parent;
          page = c.page;
        })
        ∙ (ap (λ s. from_side s (walk_over (renamed name t).nodes (renamed name t).slots n h q)) (side-renamed name t.nodes k)
        ∙ (ap (from_side (side_in t.nodes k)) (over-renamed n h q) ∙ sym (over-up t n k p h q c)))
  ]

  -- each walk finds what it found
  pub walk-renamed : (k p : ℕ) → walk (renamed name t) k p ≡ walk t k p
  walk-renamed k p = over-renamed t.lists k p

  pub frame-renamed : (k p : ℕ) → frame_shown (renamed name t) k p ≡ frame_shown t k p
  frame-renamed k p = ap frame_found (walk-renamed k p)
