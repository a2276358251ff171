-- A forest that gets one more VMO stays a store, and one whose tables get room does.
use Rattle.cow_forest.proofs.Words.{◌≡◌, ◌≢◌, ℕ, ◌+◌, ◌≤◌, Option, None, Some, refl, sym, ap, subst, ◌∙◌, inl, inr, arith, is_some}
use Rattle.cow_forest.proofs.Words.{cases_lt, cases_eq, Rows, Koid, with_key, count_below_le, some_same, with_key-here, with_key-other}
use Rattle.cow_forest.proofs.Words.{with_key-cases, Content, vmos_of, created, is_taken, Row, Node, NodeId, Arena, Nodes, nodes_of, link_to}
use Rattle.cow_forest.proofs.Words.{IsVisible, visible_count, Tree, frame_shown, tree_of, IsPage, StaysVisible, IsExact, all_in_sight}
use Rattle.cow_forest.proofs.Words.{AreLinked, same_content, vmos_of-same, vmos_of-created, NodeEntries, node_in, Forest, tree}
use Rattle.cow_forest.proofs.Words.{forest_content, count_from, pages_in, frame_from, page_showing, HasNode, IsNodeOf, IsStore, forest_of}
use Rattle.cow_forest.proofs.Words.{AreStore, AreFounders}
use Rattle.vm_base.specs.declared.limits.TheConstants.{VMO_PAGES}
use Rattle.cow_jump.proofs.JumpRowLaws.{jumps-alike}
use Rattle.cow_forest.specs.declared.forest.CowForest.TheInside.{Inside}
use Rattle.cow_forest.proofs.ContentLaws.{node-visible, frame-past}

-- there are no more VMOs than koids
pub vmos_le : (f : Forest) → IsStore f → f.vmos ≤ f.next
unfolding vmos_of
vmos_le f s = let same = s.vmos in omega (arith, same, count_below_le f.next (λ v. is_some ((forest_content f).count v)))

-- a VMO is found in a table with the same nodes
pub found-node : (f : Forest) → IsStore f → (nodes : NodeEntries) → node_in nodes ≡ node_in f.nodes → (v : ℕ) (at : NodeId) → node_in nodes v ≡ Some at →
    HasNode f v at.0
found-node f s nodes same v at is = s.named v at (ap (λ (map : ℕ → Option NodeId). map v) (sym same) ∙ is)

-- ---- nothing comes

-- the arena and the tables of g say the same as those of f
pub record IsAlike (f : Forest) (arena : Arena) (nodes owners : NodeEntries) : Type 0 where
  pub arena_nodes : nodes_of arena ≡ nodes_of f.arena
  pub lists : arena.lists ≡ f.arena.lists
  pub visible : visible_count arena ≡ visible_count f.arena
  pub nodes_in : node_in nodes ≡ node_in f.nodes
  pub owners_in : node_in owners ≡ node_in f.owners

module _ (f : Forest) (arena : Arena) (nodes owners : NodeEntries) (a : IsAlike f arena nodes owners) where
  abbrev pub alike : Forest
  alike = record f { arena = arena; nodes = nodes; owners = owners }

  tree-alike : tree alike ≡ tree f
  tree-alike = λ i. record (tree f) { nodes = a.arena_nodes i; lists = a.lists i }

  pub content-alike : forest_content alike ≡ forest_content f
  content-alike = same_content _ _ refl refl
      (λ v. λ i. count_from (a.arena_nodes i) (a.nodes_in i v))
      (λ v p. λ i. page_showing f.pool (frame_from (tree-alike i) (a.nodes_in i v) p))

  node-alike : (v k : ℕ) (node : Node) → IsNodeOf (nodes_of arena) v k node → IsNodeOf (nodes_of f.arena) v k node
  node-alike v k node = subst (λ (n : Nodes). IsNodeOf n v k node) a.arena_nodes

  has-alike : (v k : ℕ) → HasNode f v k → HasNode alike v k
  has-alike v k h = record { node = h.node; is = subst (λ (n : Nodes). IsNodeOf n v k h.node) (sym a.arena_nodes) h.is }

  store-alike : IsStore f → IsStore alike
  store-alike s = record {
    exact = subst (λ (t : Tree). IsExact t all_in_sight (is_taken f.pool)) (sym tree-alike) s.exact;
    linked = s.linked;
    named = λ v at e. has-alike v at.0 (s.named v at (ap (λ (map : ℕ → Option NodeId). map v) (sym a.nodes_in) ∙ e));
    nodes = λ v k node is. ap (λ (map : ℕ → Option NodeId). map v) a.nodes_in ∙ s.nodes v k node (node-alike v k node is);
    owners = λ k node at. ap (λ (map : ℕ → Option NodeId). map node.list.0) a.owners_in ∙ s.owners k node (ap (λ (n : Nodes). n k) (sym a.arena_nodes) ∙ at);
    counts = λ v k node is. s.counts v k node (node-alike v k node is);
    koids = λ v k node is. s.koids v k node (node-alike v k node is);
    first_koid = s.first_koid;
    lists = let few = s.lists in let same = a.lists in omega (arith, few, same);
    vmos = s.vmos ∙ sym (ap vmos_of content-alike);
    visible = a.visible ∙ s.visible;
  }

-- the fields hold what they must where they say the same
pub are-alike : (a : Inside) (are : AreStore a) (arena : Arena) (nodes owners : NodeEntries) → IsAlike (forest_of a) arena nodes owners →
    AreStore (record a { arena = arena; nodes = nodes; owners = owners })
are-alike a are arena nodes owners alike = record {
  store = store-alike (forest_of a) arena nodes owners alike are.store;
  jumps = jumps-alike _ _ a.next a.jumps (sym (tree-alike (forest_of a) arena nodes owners alike)) are.jumps;
  founders = subst (λ (n : Nodes). AreFounders n a.next a.founders) (sym alike.arena_nodes) are.founders;
}

-- ---- a VMO comes

-- the forest with a VMO more
abbrev pub with_vmo : Forest → Arena → Rows Row → NodeEntries → NodeEntries → Forest
with_vmo f arena rows nodes owners = record f {
  arena = arena;
  rows = rows;
  nodes = nodes;
  owners = owners;
  next = f.next + 1;
  vmos = f.vmos + 1;
}

-- The node k is new, and that of the next VMO. The VMOs that there were have their nodes, and show what they showed.
pub record HasNewVmo (f : Forest) (arena : Arena) (rows : Rows Row) (nodes owners : NodeEntries) (k : ℕ) (node : Node) : Type 0 where
  pub exact : IsExact (tree_of arena rows) all_in_sight (is_taken f.pool)
  pub linked : AreLinked rows f.pool
  pub comes : IsNodeOf (nodes_of arena) f.next k node
  pub below : node.count ≤ VMO_PAGES
  pub stays : (w : ℕ) (n : Node) → IsVisible (nodes_of f.arena) w n → StaysVisible (nodes_of f.arena) (nodes_of arena) w n
  pub no_more : (w : ℕ) (n : Node) → IsVisible (nodes_of arena) w n → w ≢ k → StaysVisible (nodes_of arena) (nodes_of f.arena) w n
  pub shows : (w q : ℕ) → IsPage (tree f) w q → frame_shown (tree_of arena rows) w q ≡ frame_shown (tree f) w q
  pub nodes_in : node_in nodes ≡ with_key (node_in f.nodes) f.next (record { 0 = k })
  pub owners_in : (j : ℕ) (n : Node) → nodes_of arena j ≡ Some n → node_in owners n.list.0 ≡ link_to j
  pub lists : arena.lists ≤ f.arena.lists + 2
  pub visible : visible_count arena ≡ visible_count f.arena + 1

module _ (f : Forest) (s : IsStore f) (arena : Arena) (rows : Rows Row) (nodes owners : NodeEntries) (k : ℕ) (node : Node)
    (has : HasNewVmo f arena rows nodes owners k node) where
  -- the next koid is no VMO's
  next-free : node_in f.nodes f.next ≡ None
  next-free = with_node (node_in f.nodes f.next) refl
    where
      with_node : (o : Option NodeId) → node_in f.nodes f.next ≡ o → node_in f.nodes f.next ≡ None
      with_node None e = e
      with_node (Some at) e = let its = s.named f.next at e in let koid = s.koids f.next at.0 its.node its.is in absurd (let less = koid.1 in omega (arith, less))

  pub next-bare : (p : ℕ) → (forest_content f).page f.next p ≡ None
  next-bare p = ap (λ (o : Option NodeId). page_showing f.pool (frame_from (tree f) o p)) next-free

  node-here : (v : ℕ) → v ≡ f.next → node_in nodes v ≡ link_to k
  node-here v same = ap (λ (map : ℕ → Option NodeId). map v) has.nodes_in ∙ with_key-here (node_in f.nodes) f.next (record { 0 = k }) v same

  node-there : (v : ℕ) → v ≢ f.next → node_in nodes v ≡ node_in f.nodes v
  node-there v apart = ap (λ (map : ℕ → Option NodeId). map v) has.nodes_in ∙ with_key-other (node_in f.nodes) f.next (record { 0 = k }) v apart

  -- the VMOs that there were have their nodes
  carried : (v j : ℕ) → HasNode f v j → HasNode (with_vmo f arena rows nodes owners) v j
  carried v j h =
      let stays = has.stays j h.node (node-visible f s v j h) in
      record { node = stays.after; is = record { at = stays.at; koid = h.is.koid; has_koid = stays.koid ∙ h.is.has_koid; number = h.is.number } }

  -- what a visible node is: the new one, or one that was there
  data Was (v j : ℕ) (n : Node) : Type 0 where
    is_new : j ≡ k → v ≡ f.next → node ≡ n → Was v j n
    was_there : (before : Node) → IsNodeOf (nodes_of f.arena) v j before → before.count ≡ n.count → Was v j n

  was : (v j : ℕ) (n : Node) → IsNodeOf (nodes_of arena) v j n → Was v j n
  was v j n is = elim (cases_eq j k) [
    | inl same ↦
        let one : node ≡ n = some_same (sym has.comes.at ∙ (ap (nodes_of arena) (sym same) ∙ is.at)) in
        let koid : has.comes.koid ≡ is.koid = some_same (sym has.comes.has_koid ∙ (ap (λ (m : Node). m.koid) one ∙ is.has_koid)) in
        is_new same (sym is.number ∙ (ap (λ (name : Koid). name.0) (sym koid) ∙ has.comes.number)) one
    | inr apart ↦
        let back = has.no_more j n (record { at = is.at; koid = ap is_some is.has_koid }) apart in
        was_there back.after (record { at = back.at; koid = is.koid; has_koid = back.koid ∙ is.has_koid; number = is.number }) back.count
  ]

  count-now : (v : ℕ) → count_from (nodes_of arena) (node_in nodes v) ≡ with_key (forest_content f).count f.next node.count v
  count-now v = elim (cases_eq v f.next) [
    | inl same ↦
        ap (count_from (nodes_of arena)) (node-here v same) ∙ (ap pages_in has.comes.at ∙ sym (with_key-here (forest_content f).count f.next node.count v same))
    | inr apart ↦
        ap (count_from (nodes_of arena)) (node-there v apart) ∙ (with_node (node_in f.nodes v) refl ∙ sym (with_key-other (forest_content f).count f.next node.count v apart))
  ]
    where
      with_node : (o : Option NodeId) → node_in f.nodes v ≡ o → count_from (nodes_of arena) o ≡ count_from (nodes_of f.arena) o
      with_node None e = refl
      with_node (Some at) e =
          let h = s.named v at e in
          let stays = has.stays at.0 h.node (node-visible f s v at.0 h) in
          ap pages_in stays.at ∙ (ap (λ (n : ℕ). Some n) stays.count ∙ sym (ap pages_in h.is.at))

  pub store-new : IsStore (with_vmo f arena rows nodes owners)
  unfolding created
  store-new = record {
    exact = has.exact;
    linked = has.linked;
    named = λ v at e.
        elim (with_key-cases (node_in f.nodes) f.next (record { 0 = k }) v at (ap (λ (map : ℕ → Option NodeId). map v) (sym has.nodes_in) ∙ e)) [
          | inl here ↦
              let named : HasNode (with_vmo f arena rows nodes owners) f.next k = record { node = node; is = has.comes } in
              subst (λ (j : NodeId). HasNode (with_vmo f arena rows nodes owners) v j.0) here.1
              (subst (λ w. HasNode (with_vmo f arena rows nodes owners) w k) (sym here.0) named)
          | inr there ↦ carried v at.0 (s.named v at there.1)
        ];
    nodes = λ v j n is. elim (was v j n is) [
      | is_new same koid one ↦ node-here v koid ∙ ap link_to (sym same)
      | was_there before it count ↦
          let less = (s.koids v j before it).1 in
          node-there v (λ same. absurd (omega (arith, less, same))) ∙ s.nodes v j before it
    ];
    owners = has.owners_in;
    counts = λ v j n is. elim (was v j n is) [
      | is_new same koid one ↦ subst (λ (m : Node). m.count ≤ VMO_PAGES) one has.below
      | was_there before it count ↦ subst (λ m. m ≤ VMO_PAGES) count (s.counts v j before it)
    ];
    koids = λ v j n is. elim (was v j n is) [
      | is_new same koid one ↦ (let first = s.first_koid in omega (arith, first, koid), omega (arith, koid))
      | was_there before it count ↦ let range = s.koids v j before it in (range.0, let less = range.1 in omega (arith, less))
    ];
    first_koid = omega arith;
    lists = let few = s.lists in let more = has.lists in omega (arith, few, more);
    vmos = ap (λ n. n + 1) s.vmos ∙ (sym (vmos_of-created (forest_content f) node.count)
        ∙ sym (vmos_of-same (created (forest_content f) node.count) (forest_content (with_vmo f arena rows nodes owners)) refl (λ v. ap is_some (count-now v))));
    visible = has.visible ∙ ap (λ n. n + 1) s.visible;
  }

  page-now : (v p : ℕ) → v ≢ f.next → page_showing f.pool (frame_from (tree_of arena rows) (node_in nodes v) p) ≡ (forest_content f).page v p
  page-now v p apart = ap (λ (o : Option NodeId). page_showing f.pool (frame_from (tree_of arena rows) o p)) (node-there v apart) ∙ with_node (node_in f.nodes v) refl
    where
      with_node : (o : Option NodeId) → node_in f.nodes v ≡ o → page_showing f.pool (frame_from (tree_of arena rows) o p) ≡ page_showing f.pool (frame_from (tree f) o p)
      with_node None e = refl
      with_node (Some at) e =
          let h = s.named v at e in
          let visible = node-visible f s v at.0 h in
          let stays = has.stays at.0 h.node visible in
          let count = stays.count in
          elim (cases_lt p h.node.count) [
            | inl less ↦ ap (page_showing f.pool) (has.shows at.0 p (record { node = h.node; visible = visible; below = less }))
            | inr past ↦
                ap (page_showing f.pool) (frame-past (with_vmo f arena rows nodes owners) store-new at.0 p stays.after
                (record { at = stays.at; koid = ap is_some stays.koid ∙ visible.koid }) (omega (arith, past, count)))
                ∙ sym (ap (page_showing f.pool) (frame-past f s at.0 p h.node visible past))
          ]

  -- The content is any that has the new VMO, with what its node shows, and the others as they were.
  pub content-new : (d : Content) → d.frames ≡ f.pool.frames → d.next ≡ f.next + 1 → ((v : ℕ) → d.count v ≡ with_key (forest_content f).count f.next node.count v) →
      ((p : ℕ) → d.page f.next p ≡ page_showing f.pool (frame_shown (tree_of arena rows) k p)) →
      ((v p : ℕ) → v ≢ f.next → d.page v p ≡ (forest_content f).page v p) → forest_content (with_vmo f arena rows nodes owners) ≡ d
  content-new d frames next count here there = same_content _ _ (sym frames) (sym next) (λ v. count-now v ∙ sym (count v)) (λ v p. elim (cases_eq v f.next) [
    | inl same ↦
        ap (λ (o : Option NodeId). page_showing f.pool (frame_from (tree_of arena rows) o p)) (node-here v same)
        ∙ (sym (here p) ∙ ap (λ w. d.page w p) (sym same))
    | inr apart ↦ page-now v p apart ∙ sym (there v p apart)
  ])
