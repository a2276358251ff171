-- The walk over all trees comes to each node, and to none of them twice.
use Rattle.std.proofs.Common.{◌≡◌, ◌≢◌, ℕ, zero, suc, ◌+◌, ◌<◌, ◌≤◌, false, List, [], ◌++◌, Option, None, Some, ◌⊎◌, inl, inr, refl, sym, ap, ◌∙◌, subst, arith}
use Rattle.std.specs.Prelude.{eqb, IsSome}
use Rattle.std.specs.List.{All, Contains, IsDistinct}
use Rattle.std.proofs.lemmas.Bool.{ne_eqb, cases_eq}
use Rattle.std.proofs.lemmas.List.Elements.{Contains-append_left, Contains-append_right, Contains-append_cases, All-weaker, All-contains_itself, recursion_from_All}
use Rattle.std.proofs.lemmas.Map.Keys.{IsDistinct-cons, IsDistinct-tail}
use Rattle.slab.proofs.SlabLemmas.{Contains-cons_cases}
use Rattle.vm_base.specs.declared.names.Koid.{Koid}
use Rattle.vm_base.proofs.EntryLaws.{some_same}
use Rattle.cow_arena.specs.declared.node.NodeId.{NodeId}
use Rattle.cow_arena.specs.declared.node.Node.{Node}
use Rattle.cow_arena.specs.declared.node.Side.{Side}
use Rattle.cow_arena.specs.declared.node.Side.TheVariants as side
use Rattle.cow_arena.specs.Nodes.{Nodes, IsVisible, nodes_of, link_to, child_on}
use Rattle.cow_arena.specs.Forest.{IsForest, IsChild}
use Rattle.cow_arena.proofs.WalkLaws.{link_same}
use Rattle.cow_arena.proofs.ReachLaws.{child-there, side-of-parent, hidden-of-child}
use Rattle.cow_split.proofs.SearchLaws.{contains-none, contains-first, contains-later}
use Rattle.cow_split.proofs.ViewersLaws.{distinct-append, distinct-one}
use Rattle.cow_forest.specs.Tables.{node_in}
use Rattle.cow_forest.specs.Store.{Forest, IsNodeOf, IsStore}
use Rattle.tree_text.specs.Order.{Place, place_below_parent, nodes_below, root_from, root_over, root_of, tree_nodes, nodes_from, all_nodes, HasEachNodeOnce}
use Rattle.tree_text.proofs.PlaceLaws.{place-some, stands}
use Rattle.tree_text.proofs.WalkLaws.{over-none, below-absent, absent, below-step, child-place, root-top, root-right, root-left}

distinct-none : IsDistinct eqb []
distinct-none = IsDistinct-tail eqb 0 [] (distinct-one 0)

module _ (nodes : Nodes) (lists : ℕ) (f : IsForest nodes lists) where
  -- the nodes to which a link leads, and those of node k
  abbrev over : Option NodeId → List ℕ
  over at = nodes_below nodes lists at

  abbrev below : ℕ → List ℕ
  below k = over (link_to k)

  -- ---- upwards and downwards

  deeper : (h k : ℕ) → IsChild nodes h k → f.rank h < f.rank k
  deeper h k child = (f.by.below h k child.node child.at child.parent).deeper

  -- what holds of a node if it holds of its parent holds of each
  up : (P : ℕ → Type 0) → ((k : ℕ) → ((h : ℕ) → IsChild nodes h k → P h) → P k) → (k : ℕ) → P k
  up P step k = go (suc (f.rank k)) k (omega arith)
    where
      go : (n k : ℕ) → f.rank k < n → P k
      go zero k low = absurd (omega arith)
      go (suc n) k low = step k (λ h child. go n h (let less = deeper h k child in omega arith))

  -- what holds of a node if it holds of its children, and of each number without a node, holds of each
  down : (P : ℕ → Type 0) → ((k : ℕ) → nodes k ≡ None → P k) →
      ((k : ℕ) (node : Node) → nodes k ≡ Some node → ((c : ℕ) → IsChild nodes k c → P c) → P k) → (k : ℕ) → P k
  down P none step k = go lists k (omega arith)
    where
      with_node : (k : ℕ) → ((c : ℕ) → IsChild nodes k c → P c) → (o : Option Node) → nodes k ≡ o → P k
      with_node k further None e = none k e
      with_node k further (Some node) e = step k node e further

      go : (n k : ℕ) → lists ≤ n + f.rank k → P k
      go zero k few = none k (absent nodes lists f k (omega arith))
      go (suc n) k few = with_node k (λ c child. go n c (let less = deeper k c child in omega arith)) (nodes k) refl

  -- ---- the nodes at and below a node

  below-self : (k : ℕ) (node : Node) → nodes k ≡ Some node → Contains (below k) k
  below-self k node at = subst (λ list. Contains list k) (sym (below-step nodes lists f k node at)) (contains-first k (over node.left ++ over node.right))

  below-child : (k c j : ℕ) (node : Node) (s : Side) → nodes k ≡ Some node → child_on node s ≡ link_to c → Contains (below c) j → Contains (below k) j
  below-child k c j node s at child in_child =
      subst (λ list. Contains list j) (sym (below-step nodes lists f k node at)) (contains-later k j (over node.left ++ over node.right) (on_side s child))
    where
      on_side : (s : Side) → child_on node s ≡ link_to c → Contains (over node.left ++ over node.right) j
      on_side side.Left e = Contains-append_left (over node.left) (over node.right) j (subst (λ o. Contains (over o) j) (sym e) in_child)
      on_side side.Right e = Contains-append_right (over node.left) (over node.right) j (subst (λ o. Contains (over o) j) (sym e) in_child)

  -- what holds of each node and itself, and of a node if it holds of its child, holds of a node and each at or below it
  below-each : (P : ℕ → ℕ → Type 0) → ((k : ℕ) (node : Node) → nodes k ≡ Some node → P k k) →
      ((k c j : ℕ) (node : Node) (s : Side) → nodes k ≡ Some node → child_on node s ≡ link_to c → Contains (below c) j → P c j → P k j) →
      (j k : ℕ) → Contains (below k) j → P k j
  below-each P self step j = down (λ k. Contains (below k) j → P k j)
      (λ k none in_k. absurd (contains-none j (subst (λ list. Contains list j) (below-absent nodes lists k none) in_k)))
      (λ k node at further in_k.
      elim (Contains-cons_cases k j (over node.left ++ over node.right) (subst (λ list. Contains list j) (below-step nodes lists f k node at) in_k)) [
        | inl same ↦ subst (P k) same (self k node at)
        | inr later ↦ elim (Contains-append_cases (over node.left) (over node.right) j later) [
          | inl in_left ↦ on_side k node at further side.Left node.left refl in_left
          | inr in_right ↦ on_side k node at further side.Right node.right refl in_right
        ]
      ])
    where
      on_side : (k : ℕ) (node : Node) → nodes k ≡ Some node → ((c : ℕ) → IsChild nodes k c → Contains (below c) j → P c j) →
          (s : Side) (o : Option NodeId) → child_on node s ≡ o → Contains (over o) j → P k j
      on_side k node at further s None child in_child = absurd (contains-none j (subst (λ list. Contains list j) (over-none nodes lists) in_child))
      on_side k node at further s (Some c) child in_child =
          step k c.0 j node s at child in_child (further c.0 (child-there nodes lists f k c.0 node s at child) in_child)

  below-there : (k j : ℕ) → Contains (below k) j → IsSome (nodes j)
  below-there k j = below-each (λ k j. IsSome (nodes j)) (λ k node at. subst IsSome (sym at) refl) (λ k c j node s at child in_child ih. ih) j k

  below-deeper : (k j : ℕ) → Contains (below k) j → f.rank k ≤ f.rank j
  below-deeper k j = below-each (λ k j. f.rank k ≤ f.rank j) (λ k node at. omega arith)
      (λ k c j node s at child in_child ih. let less = deeper k c (child-there nodes lists f k c node s at child) in omega arith) j k

  -- a node below another has its parent there too
  below-parent : (k j : ℕ) → Contains (below k) j → (k ≡ j) ⊎ ((h : ℕ) × IsChild nodes h j × Contains (below k) h)
  below-parent k j = below-each (λ k j. (k ≡ j) ⊎ ((h : ℕ) × IsChild nodes h j × Contains (below k) h)) (λ k node at. inl refl)
      (λ k c j node s at child in_child ih. elim ih [
        | inl same ↦ inr (k, subst (IsChild nodes k) same (child-there nodes lists f k c node s at child), below-self k node at)
        | inr above ↦ inr (above.0, above.1, below-child k c above.0 node s at child above.2)
      ]) j k

  one-parent : (h p k : ℕ) → IsChild nodes h k → IsChild nodes p k → h ≡ p
  one-parent h p k a b =
      let same : a.node ≡ b.node = some_same (sym a.at ∙ b.at) in
      link_same (sym a.parent ∙ (ap (λ (n : Node). n.parent) same ∙ b.parent))

  -- two nodes of which neither stands below the other have nothing in common
  below-apart : (c d : ℕ) → ((p : ℕ) → IsChild nodes p c → Contains (below d) p → ⊥) → ((p : ℕ) → IsChild nodes p d → Contains (below c) p → ⊥) →
      (j : ℕ) → Contains (below c) j → Contains (below d) j → c ≡ d
  below-apart c d not_c not_d = up (λ j. Contains (below c) j → Contains (below d) j → c ≡ d)
      (λ j further in_c in_d. elim (below-parent c j in_c) [
        | inl c_is ↦ elim (below-parent d j in_d) [
          | inl d_is ↦ c_is ∙ sym d_is
          | inr above ↦ absurd (not_c above.0 (subst (IsChild nodes above.0) (sym c_is) above.1) above.2)
        ]
        | inr above ↦ elim (below-parent d j in_d) [
          | inl d_is ↦ absurd (not_d above.0 (subst (IsChild nodes above.0) (sym d_is) above.1) above.2)
          | inr other ↦ further above.0 above.1 above.2 (subst (Contains (below d)) (one-parent other.0 above.0 j other.1 above.1) other.2)
        ]
      ])

  -- so two children have not
  children-apart : (h c d j : ℕ) → IsChild nodes h c → IsChild nodes h d → c ≢ d → Contains (below c) j → Contains (below d) j → ⊥
  children-apart h c d j child_c child_d apart in_c in_d = apart (below-apart c d (away c d child_c child_d) (away d c child_d child_c) j in_c in_d)
    where
      away : (a b : ℕ) → IsChild nodes h a → IsChild nodes h b → (p : ℕ) → IsChild nodes p a → Contains (below b) p → ⊥
      away a b child_a child_b p above in_b =
          let low = below-deeper b p in_b in
          let less = deeper h b child_b in
          let same = ap f.rank (one-parent p h a above child_a) in
          omega arith

  -- the nodes at and below a node are different
  below-distinct : (k : ℕ) → IsDistinct eqb (below k)
  below-distinct = down (λ k. IsDistinct eqb (below k)) (λ k none. subst (IsDistinct eqb) (sym (below-absent nodes lists k none)) distinct-none) with_node
    where
      none_over : (j : ℕ) → Contains (over None) j → ⊥
      none_over j in_child = contains-none j (subst (λ list. Contains list j) (over-none nodes lists) in_child)

      on_side : (k : ℕ) (node : Node) → nodes k ≡ Some node → ((c : ℕ) → IsChild nodes k c → IsDistinct eqb (below c)) → (s : Side) (o : Option NodeId) →
          child_on node s ≡ o → IsDistinct eqb (over o) × ((j : ℕ) → Contains (over o) j → k ≢ j)
      on_side k node at further s None child = (subst (IsDistinct eqb) (sym (over-none nodes lists)) distinct-none, λ j in_child. absurd (none_over j in_child))
      on_side k node at further s (Some c) child =
          let it = child-there nodes lists f k c.0 node s at child in
          let less = deeper k c.0 it in (
            further c.0 it,
            λ j in_child same. let low = below-deeper c.0 j in_child in let rank = ap f.rank same in omega arith,
          )

      both_sides : (k : ℕ) (node : Node) → nodes k ≡ Some node → (l r : Option NodeId) → node.left ≡ l → node.right ≡ r →
          (j : ℕ) → Contains (over l) j → Contains (over r) j → ⊥
      both_sides k node at None r left right j in_left in_right = none_over j in_left
      both_sides k node at (Some l) None left right j in_left in_right = none_over j in_right
      both_sides k node at (Some l) (Some r) left right j in_left in_right =
          let pair = f.by.pairs k node at (hidden-of-child nodes lists f k l.0 node side.Left at left) in
          children-apart k l.0 r.0 j (child-there nodes lists f k l.0 node side.Left at left) (child-there nodes lists f k r.0 node side.Right at right)
          (λ same. pair.apart (link_same (sym pair.left_is ∙ left) ∙ (same ∙ sym (link_same (sym pair.right_is ∙ right))))) in_left in_right

      with_node : (k : ℕ) (node : Node) → nodes k ≡ Some node → ((c : ℕ) → IsChild nodes k c → IsDistinct eqb (below c)) → IsDistinct eqb (below k)
      with_node k node at further =
          let l = on_side k node at further side.Left node.left refl in
          let r = on_side k node at further side.Right node.right refl in
          let rest = over node.left ++ over node.right in
          let away : All (λ j. eqb k j ≡ false) rest =
          All-weaker (Contains rest) (λ j. eqb k j ≡ false)
          (λ j in_rest. ne_eqb k j (elim (Contains-append_cases (over node.left) (over node.right) j in_rest) [
            | inl in_left ↦ l.1 j in_left
            | inr in_right ↦ r.1 j in_right
          ])) rest (All-contains_itself rest) in
          subst (IsDistinct eqb) (sym (below-step nodes lists f k node at))
          (IsDistinct-cons eqb k rest (recursion_from_All (λ j. eqb k j ≡ false) rest away)
          (distinct-append (over node.left) (over node.right) l.0 r.0 (both_sides k node at node.left node.right refl refl)))

  -- ---- roots

  -- a root has no parent
  root-alone : (r p : ℕ) → place_below_parent nodes r ≡ None → IsChild nodes p r → ⊥
  root-alone r p none child =
      let up = side-of-parent nodes lists f p r child.node child.at child.parent in
      let some = place-some nodes r child.node (record { 0 = p }) up.1 child.at child.parent up.4 in
      absurd (let e = sym none ∙ some in cc)

  -- two roots have nothing in common
  roots-same : (q r j : ℕ) → place_below_parent nodes q ≡ None → place_below_parent nodes r ≡ None → Contains (below q) j → Contains (below r) j → q ≡ r
  roots-same q r j top_q top_r = below-apart q r (λ p child _. root-alone q p top_q child) (λ p child _. root-alone r p top_r child) j

  -- node j stands at or below the root r
  pub record IsOver (j r : ℕ) : Type 0 where
    pub node : Node
    pub at : nodes r ≡ Some node
    pub top : place_below_parent nodes r ≡ None
    pub below : Contains (below r) j

  -- each node stands at or below a root
  root-above : (j k : ℕ) (node : Node) → nodes k ≡ Some node → Contains (below k) j → (r : ℕ) × IsOver j r
  root-above j = up (λ k. (node : Node) → nodes k ≡ Some node → Contains (below k) j → (r : ℕ) × IsOver j r)
      (λ k further node at in_k. with_place k further node at in_k (place_below_parent nodes k) refl)
    where
      with_place : (k : ℕ) → ((h : ℕ) → IsChild nodes h k → (node : Node) → nodes h ≡ Some node → Contains (below h) j → (r : ℕ) × IsOver j r) →
          (node : Node) → nodes k ≡ Some node → Contains (below k) j → (o : Option Place) → place_below_parent nodes k ≡ o → (r : ℕ) × IsOver j r
      with_place k further node at in_k None e = (k, record { node = node; at = at; top = e; below = in_k })
      with_place k further node at in_k (Some place) e =
          let it = stands nodes lists f k place e in
          further place.0.0 (record { node = it.node; at = it.at; parent = it.parent }) it.above it.above_at
          (below-child place.0.0 k j it.above place.1 it.above_at it.child in_k)

  -- ---- the leaf of a tree that is furthest to the left

  -- from node k the left children lead to node a
  data Leads : ℕ → ℕ → Type 0 where
    here : (k a : ℕ) → k ≡ a → Leads k a
    left_of : (k a c : ℕ) (node : Node) → nodes k ≡ Some node → node.left ≡ link_to c → Leads c a → Leads k a

  leaf-same : (k a b : ℕ) (leaf other : Node) → Leads k a → Leads k b → IsVisible nodes a leaf → IsVisible nodes b other → a ≡ b
  leaf-same k a b leaf other (here _ _ a_is) (here _ _ b_is) v w = sym a_is ∙ b_is
  leaf-same k a b leaf other (here _ _ a_is) (left_of _ _ c node at left way) v w =
      let same : leaf ≡ node = some_same (sym v.at ∙ (ap nodes (sym a_is) ∙ at)) in
      let none = (f.by.leaves a leaf v).0 in
      absurd (let e : None ≡ link_to c = sym none ∙ (ap (λ (n : Node). n.left) same ∙ left) in cc)
  leaf-same k a b leaf other (left_of _ _ c node at left way) (here _ _ b_is) v w =
      let same : other ≡ node = some_same (sym w.at ∙ (ap nodes (sym b_is) ∙ at)) in
      let none = (f.by.leaves b other w).0 in
      absurd (let e : None ≡ link_to c = sym none ∙ (ap (λ (n : Node). n.left) same ∙ left) in cc)
  leaf-same k a b leaf other (left_of _ _ c node at left way) (left_of _ _ d other_k at_d left_d way_d) v w =
      let same : node ≡ other_k = some_same (sym at ∙ at_d) in
      let one : d ≡ c = link_same (sym left_d ∙ (ap (λ (n : Node). n.left) (sym same) ∙ left)) in
      leaf-same c a b leaf other way (subst (λ x. Leads x b) one way_d) v w

  abbrev Rooted : (a r k : ℕ) → Type 0
  Rooted a r k = Leads k a → root_from nodes lists k ≡ link_to r → Leads r a × (place_below_parent nodes r ≡ None)

  -- the left children of a root lead to the leaf whose root it is
  root-leads : (a r k : ℕ) → Rooted a r k
  root-leads a r = up (Rooted a r)
      (λ k further way is. with_place k further way is (place_below_parent nodes k) refl)
    where
      on_side : (k : ℕ) → ((h : ℕ) → IsChild nodes h k → Rooted a r h) → Leads k a → root_from nodes lists k ≡ link_to r → (place : Place) → place_below_parent nodes k ≡ Some place →
          (s : Side) → place.1 ≡ s → Leads r a × (place_below_parent nodes r ≡ None)
      on_side k further way is place e side.Right right = absurd (let none : None ≡ link_to r = sym (root-right nodes lists f k place e right) ∙ is in cc)
      on_side k further way is place e side.Left left =
          let it = stands nodes lists f k place e in
          let child : it.above.left ≡ link_to k = subst (λ s. child_on it.above s ≡ link_to k) left it.child in
          further place.0.0 (record { node = it.node; at = it.at; parent = it.parent }) (left_of place.0.0 a k it.above it.above_at child way)
          (sym (root-left nodes lists f k place e left) ∙ is)

      with_place : (k : ℕ) → ((h : ℕ) → IsChild nodes h k → Rooted a r h) → Leads k a → root_from nodes lists k ≡ link_to r → (o : Option Place) → place_below_parent nodes k ≡ o →
          Leads r a × (place_below_parent nodes r ≡ None)
      with_place k further way is None e =
          let same : k ≡ r = link_same (sym (root-top nodes lists f k e) ∙ is) in
          (subst (λ x. Leads x a) same way, subst (λ x. place_below_parent nodes x ≡ None) same e)
      with_place k further way is (Some place) e = on_side k further way is place e place.1 refl

  -- node a is the leaf
  pub record IsLeaf (r : Option NodeId) (a : ℕ) : Type 0 where
    pub node : Node
    pub visible : IsVisible nodes a node
    pub root : root_from nodes lists a ≡ r

  -- there is one
  leaf-of : (r : Option NodeId) (k : ℕ) → IsSome (nodes k) → root_from nodes lists k ≡ r → (a : ℕ) × IsLeaf r a
  leaf-of r = down (λ k. IsSome (nodes k) → root_from nodes lists k ≡ r → (a : ℕ) × IsLeaf r a)
      (λ k none some is. absurd (let e = subst IsSome none some in cc)) (λ k node at further some is. with_koid k node at further is node.koid refl)
    where
      with_koid : (k : ℕ) (node : Node) → nodes k ≡ Some node →
          ((c : ℕ) → IsChild nodes k c → IsSome (nodes c) → root_from nodes lists c ≡ r → (a : ℕ) × IsLeaf r a) → root_from nodes lists k ≡ r →
          (o : Option Koid) → node.koid ≡ o → (a : ℕ) × IsLeaf r a
      with_koid k node at further is (Some koid) e = (k, record { node = node; visible = record { at = at; koid = subst IsSome (sym e) refl }; root = is })
      with_koid k node at further is None e =
          let pair = f.by.pairs k node at e in
          let place = child-place nodes lists f k pair.left node side.Left at pair.left_is in
          further pair.left pair.left_child (subst IsSome (sym pair.left_child.at) refl)
          (root-left nodes lists f pair.left (record { 0 = k }, side.Left) place refl ∙ is)

-- ---- all trees

-- node j stands in the tree of the VMO v, whose root is node r and whose leaf furthest to the left is node a
record StandsIn (f : Forest) (v j : ℕ) : Type 0 where
  r : ℕ
  a : ℕ
  leaf : node_in f.nodes v ≡ link_to a
  root : root_from (nodes_of f.arena) f.arena.lists a ≡ link_to r
  below : Contains (nodes_below (nodes_of f.arena) f.arena.lists (link_to r)) j

module _ (f : Forest) (s : IsStore f) where
  abbrev nodes : Nodes
  nodes = nodes_of f.arena

  abbrev lists : ℕ
  lists = f.arena.lists

  abbrev is : IsForest nodes lists
  is = s.exact.forest

  tree-cases : (v j : ℕ) → Contains (tree_nodes f v) j → StandsIn f v j
  tree-cases v j in_tree = with_leaf (node_in f.nodes v) refl
    where
      absent : root_of f v ≡ None → ⊥
      absent none = contains-none j (subst (λ list. Contains list j) (ap (nodes_below nodes lists) none ∙ over-none nodes lists) in_tree)

      with_root : (a : ℕ) → node_in f.nodes v ≡ link_to a → (o : Option NodeId) → root_from nodes lists a ≡ o → StandsIn f v j
      with_root a leaf None e = absurd (absent (ap (root_over nodes lists) leaf ∙ e))
      with_root a leaf (Some r) e = record {
        r = r.0;
        a = a;
        leaf = leaf;
        root = e;
        below = subst (λ o. Contains (nodes_below nodes lists o) j) (ap (root_over nodes lists) leaf ∙ e) in_tree;
      }

      with_leaf : (o : Option NodeId) → node_in f.nodes v ≡ o → StandsIn f v j
      with_leaf None e = absurd (absent (ap (root_over nodes lists) e))
      with_leaf (Some a) e = with_root a.0 e (root_from nodes lists a.0) refl

  tree-distinct : (v : ℕ) → IsDistinct eqb (tree_nodes f v)
  tree-distinct v = with_root (root_of f v)
    where
      with_root : (o : Option NodeId) → IsDistinct eqb (nodes_below nodes lists o)
      with_root None = subst (IsDistinct eqb) (sym (over-none nodes lists)) distinct-none
      with_root (Some r) = below-distinct nodes lists is r.0

  -- no node stands in two trees
  tree-apart : (v w j : ℕ) → Contains (tree_nodes f v) j → Contains (tree_nodes f w) j → v ≡ w
  tree-apart v w j in_v in_w =
      let one = tree-cases v j in_v in
      let two = tree-cases w j in_w in
      let up = root-leads nodes lists is one.a one.r one.a (here one.a one.a refl) one.root in
      let other = root-leads nodes lists is two.a two.r two.a (here two.a two.a refl) two.root in
      let same : two.r ≡ one.r = roots-same nodes lists is two.r one.r j other.1 up.1 two.below one.below in
      let v_node = s.named v (record { 0 = one.a }) one.leaf in
      let w_node = s.named w (record { 0 = two.a }) two.leaf in
      let leaf : one.a ≡ two.a =
      leaf-same nodes lists is one.r one.a two.a v_node.node w_node.node up.0 (subst (λ x. Leads nodes lists is x two.a) same other.0)
      (record { at = v_node.is.at; koid = subst IsSome (sym v_node.is.has_koid) refl })
      (record { at = w_node.is.at; koid = subst IsSome (sym w_node.is.has_koid) refl }) in
      let node : v_node.node ≡ w_node.node = some_same (sym v_node.is.at ∙ (ap nodes leaf ∙ w_node.is.at)) in
      let koid : v_node.is.koid ≡ w_node.is.koid =
      some_same (sym v_node.is.has_koid ∙ (ap (λ (n : Node). n.koid) node ∙ w_node.is.has_koid)) in
      sym v_node.is.number ∙ (ap (λ (x : Koid). x.0) koid ∙ w_node.is.number)

  -- each node stands in a tree
  tree-of : (j : ℕ) (node : Node) → nodes j ≡ Some node → (v : ℕ) × (v < f.next) × Contains (tree_nodes f v) j
  tree-of j node at =
      let over = root-above nodes lists is j j node at (below-self nodes lists is j node at) in
      let r = over.0 in
      let leaf = leaf-of nodes lists is (link_to r) r (subst IsSome (sym over.1.at) refl) (root-top nodes lists is r over.1.top) in
      with_koid r leaf.0 over.1.below leaf.1 leaf.1.node.koid refl
    where
      with_koid : (r a : ℕ) → Contains (nodes_below nodes lists (link_to r)) j → (leaf : IsLeaf nodes lists is (link_to r) a) →
          (o : Option Koid) → leaf.node.koid ≡ o → (v : ℕ) × (v < f.next) × Contains (tree_nodes f v) j
      with_koid r a in_r leaf None e = absurd (let none = subst IsSome e leaf.visible.koid in cc)
      with_koid r a in_r leaf (Some koid) e =
          let named : IsNodeOf nodes koid.0 a leaf.node = record { at = leaf.visible.at; koid = koid; has_koid = e; number = refl } in
          let found = s.nodes koid.0 a leaf.node named in (
            koid.0,
            (s.koids koid.0 a leaf.node named).1,
            subst (λ o. Contains (nodes_below nodes lists o) j) (sym (ap (root_over nodes lists) found ∙ leaf.root)) in_r,
          )

  -- ---- the trees of a row of koids

  from-cases : (n v j : ℕ) → Contains (nodes_from f n v) j → (w : ℕ) × (v ≤ w) × Contains (tree_nodes f w) j
  unfolding nodes_from
  from-cases zero v j in_list = absurd (contains-none j in_list)
  from-cases (suc n) v j in_list = elim (Contains-append_cases (tree_nodes f v) (nodes_from f n (suc v)) j in_list) [
    | inl first ↦ (v, omega arith, first)
    | inr later ↦ let it = from-cases n (suc v) j later in let up = it.1 in (it.0, omega arith, it.2)
  ]

  from-contains : (n v w j : ℕ) → v ≤ w → w < v + n → Contains (tree_nodes f w) j → Contains (nodes_from f n v) j
  unfolding nodes_from
  from-contains zero v w j low high in_tree = absurd (omega arith)
  from-contains (suc n) v w j low high in_tree = elim (cases_eq v w) [
    | inl same ↦ Contains-append_left (tree_nodes f v) (nodes_from f n (suc v)) j (subst (λ x. Contains (tree_nodes f x) j) (sym same) in_tree)
    | inr apart ↦ Contains-append_right (tree_nodes f v) (nodes_from f n (suc v)) j (from-contains n (suc v) w j (omega arith) (omega arith) in_tree)
  ]

  from-distinct : (n v : ℕ) → IsDistinct eqb (nodes_from f n v)
  unfolding nodes_from
  from-distinct zero v = distinct-none
  from-distinct (suc n) v = distinct-append (tree_nodes f v) (nodes_from f n (suc v)) (tree-distinct v) (from-distinct n (suc v))
      (λ j in_first in_later.
      let it = from-cases n (suc v) j in_later in
      let up = it.1 in
      let same = tree-apart v it.0 j in_first it.2 in
      absurd (omega arith))

  pub each_once : HasEachNodeOnce f (all_nodes f)
  each_once = record { each = λ k. (there k, found k (nodes k) refl); once = from-distinct f.next 0 }
    where
      there : (k : ℕ) → Contains (all_nodes f) k → IsSome (nodes k)
      there k in_list =
          let it = from-cases f.next 0 k in_list in
          let stand = tree-cases it.0 k it.2 in
          below-there nodes lists is stand.r k stand.below

      found : (k : ℕ) (o : Option Node) → nodes k ≡ o → IsSome (nodes k) → Contains (all_nodes f) k
      found k None e some = absurd (let none = subst IsSome e some in cc)
      found k (Some node) e some =
          let it = tree-of k node e in
          let less = it.1 in
          from-contains f.next 0 it.0 k (omega arith) (omega arith) it.2
