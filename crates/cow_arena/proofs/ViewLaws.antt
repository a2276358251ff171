-- What is shown, and which lists have rows, after a snapshot and after a node went, as the calls promise it.
use Rattle.cow_arena.proofs.Words.{◌≡◌, ◌≢◌, ℕ, ◌+◌, ◌<◌, ◌≤◌, Option, None, Some, refl, sym, ap, subst, ◌∙◌, arith, IsSome, IsSomeAnd, is_some}
use Rattle.cow_arena.proofs.Words.{get, with_value, without_key, some_same, with_key-other, without_key-other, Koid, Node, Side, Nodes}
use Rattle.cow_arena.proofs.Words.{Arena, nodes_of, IsVisible, AreFamily, Tree, Slots, tree_with, walk, frame_found, IsForest}
use Rattle.cow_arena.proofs.Words.{HasListedRows, paired, spliced, arena_of, IsArena, frame_shown}
use Rattle.cow_arena.specs.declared.arena.CowArena.TheInside.{Inside}
use Rattle.cow_arena.proofs.ForestLaws.{some_and}
use Rattle.cow_arena.proofs.WalkLaws.{walk-absent}
use Rattle.cow_arena.proofs.SlotLaws.{nodes_written}
use Rattle.cow_arena.proofs.WindowWalkLaws.{put-listed}
use Rattle.cow_arena.proofs.RelinkLaws.{relinked-absent}
use Rattle.cow_arena.proofs.PairWalkLaws.{paired_tree, pair-walk-other, pair-views-leaf, pair-views-child, pair-frame, pair-walk-past}
use Rattle.cow_arena.proofs.PairWalkLaws.{pair-listed}
use Rattle.cow_arena.proofs.SpliceWalkLaws.{walk-spliced, spliced-listed, removed-listed}

-- the forest of an arena that is seen so
pub forest_seen : (a : Inside) → IsArena a → (v : Arena) → arena_of a ≡ v → IsForest (nodes_of v) v.lists
forest_seen a arena v view = subst (λ (v : Arena). IsForest (nodes_of v) v.lists) view arena.forest

-- the tree of an arena with these rows
abbrev tree_seen : Arena → Slots → Tree
tree_seen a slots = tree_with (nodes_of a) a.lists slots

-- ---- a node that keeps its list

pub listed-changed : (a : Inside) (v : Arena) (k : ℕ) (node : Node) (change : Node → Node) → ((n : Node) → (change n).list ≡ n.list) → arena_of a ≡ v → get a.nodes k ≡ Some node →
    (slots : Slots) → HasListedRows (tree_seen v slots) → HasListedRows (tree_with (get (with_value a.nodes k (change node))) a.lists slots)
listed-changed a v k node change list view at slots = subst (λ (v : Arena). HasListedRows (tree_seen v slots) → HasListedRows (tree_with (get (with_value a.nodes k (change node))) a.lists slots)) view
    (put-listed (tree_seen (arena_of a) slots) (get (with_value a.nodes k (change node))) a.lists k (change node) (nodes_written a.nodes k (change node) (ap is_some at))
    (λ was is. list node ∙ ap (λ (n : Node). n.list) (some_same (sym at ∙ is))))

-- ---- a snapshot

module _ (old : Arena) {new : Nodes} {lists : ℕ} (f : IsForest (nodes_of old) old.lists) (g : IsForest new lists) (more : lists ≡ old.lists + 2)
    (k h c : ℕ) (koid : Koid) (first seen count : ℕ) (leaf : IsSomeAnd (nodes_of old k) (λ node. IsSome node.koid × (first + seen ≤ node.count)))
    (free : (nodes_of old h ≡ None) × (nodes_of old c ≡ None) × (h ≢ c))
    (is : (node : Node) → nodes_of old k ≡ Some node → new ≡ paired (nodes_of old) k node h c old.lists koid first seen count) (slots : Slots) where
  found : (node : Node) × (nodes_of old k ≡ Some node) × (IsSome node.koid × (first + seen ≤ node.count))
  found = some_and (nodes_of old k) (λ (node : Node). IsSome node.koid × (first + seen ≤ node.count)) leaf

  shown : IsVisible (nodes_of old) k found.0
  shown = record { at = found.1; koid = found.2.0 }

  nodes : new ≡ paired (nodes_of old) k found.0 h c old.lists koid first seen count
  nodes = is found.0 found.1

  paired_forest : IsForest (paired (nodes_of old) k found.0 h c old.lists koid first seen count) (old.lists + 2)
  paired_forest =
      subst (λ l. IsForest (paired (nodes_of old) k found.0 h c old.lists koid first seen count) l) more (subst (λ n. IsForest n lists) nodes g)

  paired_now : paired_tree (tree_seen old slots) k found.0 h c koid first seen count ≡ tree_with new lists slots
  paired_now = λ i. tree_with (sym nodes i) (sym more i) slots

  -- each page of node k shows what it showed, and the walk from each page of another node that was there finds what it found
  pub snapshot-shows : HasListedRows (tree_seen old slots) → (p : ℕ) (node : Node) → nodes_of old k ≡ Some node → p < node.count →
      frame_shown (tree_with new lists slots) k p ≡ frame_shown (tree_seen old slots) k p
  snapshot-shows rows p node at inside =
      let own = pair-views-leaf (tree_seen old slots) f k found.0 shown h c koid first seen count free.0 free.1 free.2 paired_forest rows in
      let pages = ap (λ (n : Node). n.count) (some_same (sym found.1 ∙ at)) in
      ap (λ (u : Tree). frame_shown u k p) (sym paired_now)
      ∙ pair-frame (tree_seen old slots) f k found.0 shown h c koid first seen count free.0 free.1 free.2 paired_forest k Side.Left 0 found.0.count own p p (omega arith) (omega arith)

  pub snapshot-walks : (j p : ℕ) (other : Node) → nodes_of old j ≡ Some other → j ≢ k → walk (tree_with new lists slots) j p ≡ walk (tree_seen old slots) j p
  snapshot-walks j p other at j_k = ap (λ (u : Tree). walk u j p) (sym paired_now) ∙ pair-walk-other (tree_seen old slots) f k found.0 shown h c koid first seen count free.0 free.1 free.2 paired_forest j p (other, at, j_k)

  -- a page of the snapshot that lies in its window shows what the page of node k showed, and any other is zero
  pub snapshot-inside : HasListedRows (tree_seen old slots) → (p : ℕ) → p < seen →
      frame_shown (tree_with new lists slots) c p ≡ frame_shown (tree_seen old slots) k (first + p)
  snapshot-inside rows p within =
      let views = pair-views-child (tree_seen old slots) f k found.0 shown h c koid first seen count free.0 free.1 free.2 paired_forest rows in
      ap (λ (u : Tree). frame_shown u c p) (sym paired_now) ∙ pair-frame (tree_seen old slots) f k found.0 shown h c koid first seen count free.0 free.1 free.2 paired_forest c Side.Right first seen views p (first + p) refl within

  pub snapshot-past : HasListedRows (tree_seen old slots) → (p : ℕ) → seen ≤ p → frame_shown (tree_with new lists slots) c p ≡ None
  snapshot-past rows p outside =
      let views = pair-views-child (tree_seen old slots) f k found.0 shown h c koid first seen count free.0 free.1 free.2 paired_forest rows in
      ap (λ (u : Tree). frame_shown u c p) (sym paired_now) ∙ ap frame_found (pair-walk-past (tree_seen old slots) f k found.0 shown h c koid first seen count free.0 free.1 free.2 paired_forest c Side.Right first seen views p outside)

  pub snapshot-listed : HasListedRows (tree_seen old slots) → HasListedRows (tree_with new lists slots)
  snapshot-listed rows = subst HasListedRows paired_now (pair-listed (tree_seen old slots) f k found.0 shown h c koid first seen count free.0 free.1 free.2 paired_forest rows)

-- ---- a leaf goes with its parent

-- no node comes
spliced-absent : (nodes : Nodes) (k h s : ℕ) (leaf parent sibling : Node) → AreFamily nodes k h s leaf parent sibling → (j : ℕ) → nodes j ≡ None →
    j ≢ k → j ≢ h → spliced nodes k h s parent sibling j ≡ None
unfolding spliced
spliced-absent nodes k h s leaf parent sibling family j none j_k j_h =
    with_key-other _ s _ j (λ same. absurd (let there = ap nodes same ∙ family.sibling_at in cc))
    ∙ (without_key-other _ k j j_k ∙ (without_key-other _ h j j_h ∙ relinked-absent nodes parent.parent h s j none))

module _ (t : Tree) (f : IsForest t.nodes t.lists) (k h s : ℕ) (leaf parent sibling : Node) (family : AreFamily t.nodes k h s leaf parent sibling)
    (visible : IsVisible t.nodes k leaf) (empty : (p : ℕ) → t.slots parent.list.0 p ≡ None) (g : IsForest (spliced t.nodes k h s parent sibling) t.lists) where
  pub spliced-keeps : (j p : ℕ) → j ≢ k → j ≢ h → walk (record t { nodes = spliced t.nodes k h s parent sibling }) j p ≡ walk t j p
  spliced-keeps j p j_k j_h = each (t.nodes j) refl
    where
      each : (o : Option Node) → t.nodes j ≡ o → walk (record t { nodes = spliced t.nodes k h s parent sibling }) j p ≡ walk t j p
      each None e =
          walk-absent (record t { nodes = spliced t.nodes k h s parent sibling }) g j p (spliced-absent t.nodes k h s leaf parent sibling family j e j_k j_h)
          ∙ sym (walk-absent t f j p e)
      each (Some node) e = walk-spliced t f k h s leaf parent sibling family visible empty g j p node e j_k j_h

module _ (old : Arena) (new : Nodes) (lists : ℕ) (f : IsForest (nodes_of old) old.lists) (g : IsForest new lists) (same : lists ≡ old.lists)
    (k h s : ℕ) (leaf parent sibling : Node) (shown : IsSomeAnd (nodes_of old k) (λ node. IsSome node.koid × IsSome node.parent))
    (family : AreFamily (nodes_of old) k h s leaf parent sibling) (nodes : new ≡ spliced (nodes_of old) k h s parent sibling)
    (slots : Slots) (empty : (p : ℕ) → slots parent.list.0 p ≡ None) where
  visible : IsVisible (nodes_of old) k leaf
  visible = record { at = family.at; koid = (rw (family.at) at shown).0 }

  spliced_forest : IsForest (spliced (nodes_of old) k h s parent sibling) old.lists
  spliced_forest = subst (λ l. IsForest (spliced (nodes_of old) k h s parent sibling) l) same (subst (λ n. IsForest n lists) nodes g)

  spliced_now : record (tree_seen old slots) { nodes = spliced (nodes_of old) k h s parent sibling } ≡ tree_with new lists slots
  spliced_now = λ i. tree_with (sym nodes i) (sym same i) slots

  pub keeps-walks : (j p : ℕ) → j ≢ k → j ≢ h → walk (tree_with new lists slots) j p ≡ walk (tree_seen old slots) j p
  keeps-walks = subst (λ (u : Tree). (j p : ℕ) → j ≢ k → j ≢ h → walk u j p ≡ walk (tree_seen old slots) j p) spliced_now
      (spliced-keeps (tree_seen old slots) f k h s leaf parent sibling family visible empty spliced_forest)

  pub keeps-listed : ((p : ℕ) → slots leaf.list.0 p ≡ None) → HasListedRows (tree_seen old slots) → HasListedRows (tree_with new lists slots)
  keeps-listed bare rows = subst HasListedRows spliced_now (spliced-listed (tree_seen old slots) f k h s leaf parent sibling family visible empty spliced_forest bare rows)

-- ---- a root goes

pub root-keeps-listed : (old : Arena) (new : Nodes) (lists : ℕ) → IsForest (nodes_of old) old.lists → IsForest new lists → lists ≡ old.lists →
    (k : ℕ) (leaf : Node) → IsSomeAnd (nodes_of old k) (λ node. IsSome node.koid × (node.parent ≡ None)) → new ≡ without_key (nodes_of old) k →
    (slots : Slots) → nodes_of old k ≡ Some leaf → ((p : ℕ) → slots leaf.list.0 p ≡ None) →
    HasListedRows (tree_seen old slots) → HasListedRows (tree_with new lists slots)
root-keeps-listed old new lists f g same k leaf shown nodes slots at bare rows =
    let visible = rw at at shown in
    let after : IsForest (without_key (nodes_of old) k) old.lists =
    subst (λ l. IsForest (without_key (nodes_of old) k) l) same (subst (λ n. IsForest n lists) nodes g) in
    subst HasListedRows (λ i. tree_with (sym nodes i) (sym same i) slots)
    (removed-listed (tree_seen old slots) f k leaf (record { at = at; koid = visible.0 }) after bare rows)
