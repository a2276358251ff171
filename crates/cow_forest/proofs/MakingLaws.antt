-- A root that is added for a new VMO makes a VMO of zero pages.
use Rattle.cow_forest.proofs.Words.{◌≡◌, ◌≢◌, ℕ, ◌+◌, ◌≤◌, ◌⊎◌, Option, None, Some, refl, sym, ap, subst, ◌∙◌, inl, inr, arith, with_key}
use Rattle.cow_forest.proofs.Words.{some_same, with_key-same, with_key-here, with_key-other, with_key-cases, created, is_taken, Node}
use Rattle.cow_forest.proofs.Words.{NodeId, Arena, Nodes, nodes_of, link_to, IsForest, root_node, visible_count, Tree, frame_shown, tree_of}
use Rattle.cow_forest.proofs.Words.{IsExact, all_in_sight, NodeEntries, node_in, Forest, tree, forest_content, page_showing, IsStore}
use Rattle.vm_base.specs.declared.limits.TheConstants.{VMO_PAGES}
use Rattle.cow_fork.proofs.RootLaws.{rooted, rooted-zero, rooted-shows, exact-rooted}
use Rattle.cow_forest.proofs.EnterLaws.{with_vmo, HasNewVmo, store-new, content-new, next-bare}

-- the arena has a root more, and the tables have its node by its koid and by its list
pub record HasRoot (f : Forest) (arena : Arena) (nodes owners : NodeEntries) (k count : ℕ) : Type 0 where
  pub forest : IsForest (nodes_of arena) arena.lists
  pub free : nodes_of f.arena k ≡ None
  pub arena_nodes : nodes_of arena ≡ with_key (nodes_of f.arena) k (root_node (record { 0 = f.next }) f.arena.lists count)
  pub lists : arena.lists ≡ f.arena.lists + 1
  pub visible : visible_count arena ≡ visible_count f.arena + 1
  pub nodes_in : node_in nodes ≡ with_key (node_in f.nodes) f.next (record { 0 = k })
  pub node : Node
  pub at : nodes_of arena k ≡ Some node
  pub owners_in : node_in owners ≡ with_key (node_in f.owners) node.list.0 (record { 0 = k })
  pub below : count ≤ VMO_PAGES

module _ (f : Forest) (s : IsStore f) (arena : Arena) (nodes owners : NodeEntries) (k count : ℕ)
    (has : HasRoot f arena nodes owners k count) where
  forest-with : IsForest (with_key (nodes_of f.arena) k (root_node (record { 0 = f.next }) f.arena.lists count)) (f.arena.lists + 1)
  forest-with = subst (IsForest (with_key (nodes_of f.arena) k (root_node (record { 0 = f.next }) f.arena.lists count))) has.lists
      (subst (λ (n : Nodes). IsForest n arena.lists) has.arena_nodes has.forest)

  abbrev after : Tree
  after = rooted (tree f) all_in_sight (is_taken f.pool) s.exact k (record { 0 = f.next }) count has.free forest-with

  tree-now : tree_of arena f.rows ≡ after
  tree-now = λ i. record (tree f) { nodes = has.arena_nodes i; lists = has.lists i }

  root-at : nodes_of arena k ≡ Some (root_node (record { 0 = f.next }) f.arena.lists count)
  root-at = ap (λ (n : Nodes). n k) has.arena_nodes ∙ with_key-same (nodes_of f.arena) k (root_node (record { 0 = f.next }) f.arena.lists count)

  -- what a node is now: the root, or one that was there
  node-cases : (j : ℕ) (n : Node) → nodes_of arena j ≡ Some n → ((j ≡ k) × (root_node (record { 0 = f.next }) f.arena.lists count ≡ n)) ⊎ ((j ≢ k) × (nodes_of f.arena j ≡ Some n))
  node-cases j n at = with_key-cases (nodes_of f.arena) k (root_node (record { 0 = f.next }) f.arena.lists count) j n (ap (λ (map : Nodes). map j) (sym has.arena_nodes) ∙ at)

  node-stays : (j : ℕ) (n : Node) → nodes_of f.arena j ≡ Some n → nodes_of arena j ≡ Some n
  node-stays j n at =
      ap (λ (map : Nodes). map j) has.arena_nodes
      ∙ (with_key-other (nodes_of f.arena) k (root_node (record { 0 = f.next }) f.arena.lists count) j
      (λ same. let none = ap (nodes_of f.arena) same ∙ has.free in absurd (cc)) ∙ at)

  -- the root's list is new
  list-is : has.node.list.0 ≡ f.arena.lists
  list-is = ap (λ (n : Node). n.list.0) (some_same (sym has.at ∙ root-at))

  owner-now : (j : ℕ) (n : Node) → nodes_of arena j ≡ Some n → node_in owners n.list.0 ≡ link_to j
  owner-now j n at = ap (λ (map : ℕ → Option NodeId). map n.list.0) has.owners_in ∙ elim (node-cases j n at) [
    | inl here ↦
        with_key-here (node_in f.owners) has.node.list.0 (record { 0 = k }) n.list.0
        (ap (λ (m : Node). m.list.0) (sym here.1) ∙ sym list-is) ∙ ap link_to (sym here.0)
    | inr there ↦
        let given = s.exact.forest.by.given j n there.1 in
        with_key-other (node_in f.owners) has.node.list.0 (record { 0 = k }) n.list.0 (λ same. absurd (omega (arith, given, list-is, same))) ∙ s.owners j n there.1
  ]

  new-root : HasNewVmo f arena f.rows nodes owners k (root_node (record { 0 = f.next }) f.arena.lists count)
  new-root = record {
    exact = subst (λ (t : Tree). IsExact t all_in_sight (is_taken f.pool)) (sym tree-now)
        (exact-rooted (tree f) all_in_sight (is_taken f.pool) s.exact k (record { 0 = f.next }) count has.free forest-with);
    linked = s.linked;
    comes = record { at = root-at; koid = record { 0 = f.next }; has_koid = refl; number = refl };
    below = has.below;
    stays = λ w n visible. record { after = n; at = node-stays w n visible.at; koid = refl; count = refl };
    no_more = λ w n visible apart. elim (node-cases w n visible.at) [
      | inl here ↦ absurd (apart here.0)
      | inr there ↦ record { after = n; at = there.1; koid = refl; count = refl }
    ];
    shows = λ w q page. ap (λ (t : Tree). frame_shown t w q) tree-now
        ∙ rooted-shows (tree f) all_in_sight (is_taken f.pool) s.exact k (record { 0 = f.next }) count has.free forest-with w q page;
    nodes_in = has.nodes_in;
    owners_in = owner-now;
    lists = let one = has.lists in omega (arith, one);
    visible = has.visible;
  }

  pub store-made : IsStore (with_vmo f arena f.rows nodes owners)
  store-made = store-new f s arena f.rows nodes owners k _ new-root

  pub content-made : forest_content (with_vmo f arena f.rows nodes owners) ≡ created (forest_content f) count
  unfolding created
  content-made = content-new f s arena f.rows nodes owners k _ new-root (created (forest_content f) count) refl refl (λ v. refl)
      (λ p. next-bare f s arena f.rows nodes owners k _ new-root p
      ∙ sym (ap (page_showing f.pool) (ap (λ (t : Tree). frame_shown t k p) tree-now
      ∙ rooted-zero (tree f) all_in_sight (is_taken f.pool) s.exact k (record { 0 = f.next }) count has.free forest-with p)))
      (λ v p apart. refl)
