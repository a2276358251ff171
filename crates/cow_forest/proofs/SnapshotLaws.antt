-- A VMO's node that was shared with a new one makes a snapshot of the VMO.
use Rattle.cow_forest.proofs.Words.{◌≡◌, ◌≢◌, ℕ, ◌+◌, ◌<◌, ◌≤◌, ◌==◌, Option, Some, IsSome, refl, sym, ap, subst, ◌∙◌, inl, inr, arith}
use Rattle.cow_forest.proofs.Words.{is_some, cases_lt, lt-ltb, le-ltb, cond-true, cond-false, eqb_same, eqb_apart, Rows, with_key}
use Rattle.cow_forest.proofs.Words.{some_same, with_key-here, with_key-other, page_seen, snapshotted, is_taken, ListId, Row, slots_of, Node}
use Rattle.cow_forest.proofs.Words.{NodeId, Pair, Arena, Nodes, nodes_of, link_to, paired, snapshot_node, IsForest, Slots, frame_shown}
use Rattle.cow_forest.proofs.Words.{tree_of, HasShared, split_slots, AreLinked, NodeEntries, node_in, Forest, tree, forest_content}
use Rattle.cow_forest.proofs.Words.{page_showing, HasNode, IsStore}
use Rattle.vm_base.specs.declared.limits.TheConstants.{VMO_PAGES}
use Rattle.cow_arena.proofs.AlikeLaws.{some-alike, frames-back}
use Rattle.cow_arena.proofs.PairWalkLaws.{hidden-at}
use Rattle.cow_fork.proofs.SnapshotLaws.{Origin, from_hidden, from_leaf, from_child, from_other, origin-of, split-frames}
use Rattle.cow_forest.proofs.ContentLaws.{node-visible, page-of}
use Rattle.cow_forest.proofs.EnterLaws.{with_vmo, HasNewVmo, store-new, content-new}

-- Of the three nodes after a snapshot of a VMO, the first two are there too.
module _ (f : Forest) (s : IsStore f) (arena : Arena) (rows : Rows Row) (v k : ℕ) (pair : Pair) (first seen count : ℕ) (h : HasNode f v k)
    (shared : HasShared f.arena arena f.rows rows k pair (record { 0 = f.next }) first seen count) where
  forest-shared : IsForest (paired (nodes_of f.arena) k h.node pair.hidden.0 pair.child.0 f.arena.lists (record { 0 = f.next }) first seen count) (f.arena.lists + 2)
  forest-shared = subst (λ (nodes : Nodes). IsForest nodes (f.arena.lists + 2)) (shared.nodes h.node h.is.at)
      (subst (IsForest (nodes_of arena)) shared.lists (shared.exact (is_taken f.pool) s.exact).forest)

  pub hidden-held : IsSome (nodes_of arena pair.hidden.0)
  hidden-held = ap is_some (ap (λ (nodes : Nodes). nodes pair.hidden.0) (shared.nodes h.node h.is.at)
      ∙ hidden-at (tree f) s.exact.forest k h.node (node-visible f s v k h) pair.hidden.0 pair.child.0 (record { 0 = f.next }) first seen count
      shared.new_hidden shared.new_child shared.apart forest-shared)

  pub leaf-held : IsSome (nodes_of arena k)
  leaf-held = ap is_some (shared.stays k h.node (node-visible f s v k h)).at

-- The node k was shared with a new one, and the tables have the three nodes: the snapshot's by its koid, and each by its list.
pub record HasPair (f : Forest) (arena : Arena) (rows : Rows Row) (nodes owners : NodeEntries) (k : ℕ) (pair : Pair)
    (first seen count : ℕ) : Type 0 where
  pub shared : HasShared f.arena arena f.rows rows k pair (record { 0 = f.next }) first seen count
  pub nodes_in : node_in nodes ≡ with_key (node_in f.nodes) f.next pair.child
  pub hidden : Node
  pub leaf : Node
  pub child : Node
  pub hidden_at : nodes_of arena pair.hidden.0 ≡ Some hidden
  pub leaf_at : nodes_of arena k ≡ Some leaf
  pub child_at : nodes_of arena pair.child.0 ≡ Some child
  pub owners_in : node_in owners ≡ with_key (with_key (with_key (node_in f.owners) hidden.list.0 pair.hidden) leaf.list.0 (record { 0 = k })) child.list.0 pair.child
  pub below : count ≤ VMO_PAGES

module _ (f : Forest) (s : IsStore f) (arena : Arena) (rows : Rows Row) (nodes owners : NodeEntries) (v k : ℕ) (pair : Pair)
    (first seen count : ℕ) (h : HasNode f v k) (has : HasPair f arena rows nodes owners k pair first seen count) where
  origin : (j : ℕ) (n : Node) → nodes_of arena j ≡ Some n →
      Origin (tree f) k h.node pair.hidden.0 pair.child.0 (record { 0 = f.next }) first seen count j n
  origin j n at = origin-of (tree f) k h.node pair.hidden.0 pair.child.0 (record { 0 = f.next }) first seen count j n
      (ap (λ (map : Nodes). map j) (sym (has.shared.nodes h.node h.is.at)) ∙ at)

  k_h : pair.hidden.0 ≢ k
  k_h same = let none = has.shared.new_hidden in let there = ap (nodes_of f.arena) same ∙ h.is.at in absurd (cc)

  k_c : pair.child.0 ≢ k
  k_c same = let none = has.shared.new_child in let there = ap (nodes_of f.arena) same ∙ h.is.at in absurd (cc)

  -- the lists of the three nodes
  hidden-list : has.hidden.list.0 ≡ h.node.list.0
  hidden-list = elim (origin pair.hidden.0 has.hidden has.hidden_at) [
    | from_hidden same is ↦ ap (λ (n : Node). n.list.0) is
    | from_leaf same is ↦ absurd (k_h same)
    | from_child same is ↦ absurd (has.shared.apart same)
    | from_other n at apart koid list pages ↦ absurd (let none = has.shared.new_hidden in cc)
  ]

  leaf-list : has.leaf.list.0 ≡ f.arena.lists
  leaf-list = elim (origin k has.leaf has.leaf_at) [
    | from_hidden same is ↦ absurd (k_h (sym same))
    | from_leaf same is ↦ ap (λ (n : Node). n.list.0) is
    | from_child same is ↦ absurd (k_c (sym same))
    | from_other n at apart koid list pages ↦ absurd (apart refl)
  ]

  child-list : has.child.list.0 ≡ f.arena.lists + 1
  child-list = ap (λ (n : Node). n.list.0) (some_same (sym has.child_at ∙ has.shared.comes))

  -- the owner of a list, by which of the three it is
  owner-is : (l : ℕ) → node_in owners l ≡ with_key (with_key (with_key (node_in f.owners) has.hidden.list.0 pair.hidden) has.leaf.list.0 (record { 0 = k })) has.child.list.0 pair.child l
  owner-is l = ap (λ (map : ℕ → Option NodeId). map l) has.owners_in

  owner-child : (l : ℕ) → l ≡ f.arena.lists + 1 → node_in owners l ≡ Some pair.child
  owner-child l same = owner-is l ∙ with_key-here _ has.child.list.0 pair.child l (same ∙ sym child-list)

  owner-leaf : (l : ℕ) → l ≡ f.arena.lists → node_in owners l ≡ link_to k
  owner-leaf l same = owner-is l
      ∙ (with_key-other _ has.child.list.0 pair.child l (λ e. absurd (omega (arith, same, e, child-list)))
      ∙ with_key-here _ has.leaf.list.0 (record { 0 = k }) l (same ∙ sym leaf-list))

  owner-before : (l : ℕ) → l < f.arena.lists → node_in owners l ≡ with_key (node_in f.owners) has.hidden.list.0 pair.hidden l
  owner-before l less = owner-is l
      ∙ (with_key-other _ has.child.list.0 pair.child l (λ e. absurd (omega (arith, less, e, child-list)))
      ∙ with_key-other _ has.leaf.list.0 (record { 0 = k }) l (λ e. absurd (omega (arith, less, e, leaf-list))))

  owner-now : (j : ℕ) (n : Node) → nodes_of arena j ≡ Some n → node_in owners n.list.0 ≡ link_to j
  owner-now j n at = elim (origin j n at) [
    | from_hidden same is ↦
        let list : n.list.0 ≡ h.node.list.0 = ap (λ (m : Node). m.list.0) is in
        let given = s.exact.forest.by.given k h.node h.is.at in
        owner-before n.list.0 (omega (arith, list, given))
        ∙ (with_key-here (node_in f.owners) has.hidden.list.0 pair.hidden n.list.0 (list ∙ sym hidden-list) ∙ ap link_to (sym same))
    | from_leaf same is ↦ owner-leaf n.list.0 (ap (λ (m : Node). m.list.0) is) ∙ ap link_to (sym same)
    | from_child same is ↦ owner-child n.list.0 (ap (λ (m : Node). m.list.0) is) ∙ ap link_to (sym same)
    | from_other m there apart koid list pages ↦
        let given = s.exact.forest.by.given j m there in
        let number : n.list.0 ≡ m.list.0 = ap (λ (l : ListId). l.0) list in
        owner-before n.list.0 (omega (arith, number, given))
        ∙ (with_key-other (node_in f.owners) has.hidden.list.0 pair.hidden n.list.0
        (λ e. apart (s.exact.forest.by.own j k m h.node there h.is.at (sym number ∙ (e ∙ hidden-list))))
        ∙ (ap (node_in f.owners) number ∙ s.owners j m there))
  ]

  -- each row is where it was
  linked-now : AreLinked rows f.pool
  linked-now = record {
    linked = λ l q row t at frame.
        let now : split_slots (slots_of f.rows) h.node.list.0 first seen l q ≡ Some row = ap (λ (slots : Slots). slots l q) (sym (has.shared.slots h.node h.is.at)) ∙ at in
        let had = some-alike (frames-back (split-frames (slots_of f.rows) h.node.list.0 first seen)) l q row now in
        s.linked.linked l q had.0 t had.1 (had.2 ∙ frame);
  }

  new-pair : HasNewVmo f arena rows nodes owners pair.child.0 (snapshot_node (record { 0 = f.next }) pair.hidden.0 (f.arena.lists + 1) first seen count)
  new-pair = record {
    exact = has.shared.exact (is_taken f.pool) s.exact;
    linked = linked-now;
    comes = record { at = has.shared.comes; koid = record { 0 = f.next }; has_koid = refl; number = refl };
    below = has.below;
    stays = has.shared.stays;
    no_more = has.shared.no_more;
    shows = has.shared.shows;
    nodes_in = has.nodes_in;
    owners_in = owner-now;
    lists = let two = has.shared.lists in omega (arith, two);
    visible = has.shared.visible;
  }

  pub store-shared : IsStore (with_vmo f arena rows nodes owners)
  store-shared = store-new f s arena rows nodes owners pair.child.0 _ new-pair

  -- the snapshot shows what the VMO shows from the first page on
  child-page : (p : ℕ) → page_seen (forest_content f) v first seen p ≡ page_showing f.pool (frame_shown (tree_of arena rows) pair.child.0 p)
  unfolding page_seen
  child-page p = elim (cases_lt p seen) [
    | inl less ↦ cond-true _ _ _ (lt-ltb p seen less) ∙ (page-of f s v k (first + p) h ∙ sym (ap (page_showing f.pool) (has.shared.child p less)))
    | inr past ↦ cond-false _ _ _ (le-ltb p seen past) ∙ sym (ap (page_showing f.pool) (has.shared.child_past p past))
  ]

  pub content-shared : forest_content (with_vmo f arena rows nodes owners) ≡ snapshotted (forest_content f) v first seen count
  unfolding snapshotted with_key
  content-shared = content-new f s arena rows nodes owners pair.child.0 _ new-pair (snapshotted (forest_content f) v first seen count) refl refl (λ w. refl)
      (λ p. cond-true (f.next == f.next) _ _ (eqb_same f.next) ∙ child-page p)
      (λ w p apart. cond-false (w == f.next) _ _ (eqb_apart w f.next apart))
