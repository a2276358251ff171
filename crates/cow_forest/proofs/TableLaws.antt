-- What the map of a table of nodes says after a call of the library, and what a VMO that leaves takes out of its table.
use Rattle.cow_forest.proofs.Words.{◌≡◌, ◌≢◌, ℕ, ◌==◌, cond, List, [], ◌∷◌, length, Option, None, Some, Result, Ok, Err, ◌⊎◌, inl, inr}
use Rattle.cow_forest.proofs.Words.{refl, sym, ap, ◌∙◌, arith, IsOk, OnOk, OnErr, IsSome, is_some, cases_eq, common_steps, with_key}
use Rattle.cow_forest.proofs.Words.{without_key, some_same, with_key-same, with_key-other, without_key-other, NodeId, Node, Nodes, link_to}
use Rattle.cow_forest.proofs.Words.{sibling_in, IsForest, displaced_in, IsDisowned, AreMerged, HasOneOf}
use Rattle.std.specs.Map.{lookup}

-- an entry of the map
abbrev node_at : List (ℕ × NodeId) → ℕ → Option NodeId
node_at entries n = lookup (λ (number : ℕ). n == number) entries

-- what holds on success holds
pub from_ok : {T E P : Type 0} (r : Result T E) → IsOk r → OnOk r P → P
from_ok (Ok x) e h = h
from_ok (Err d) e h = absurd cc

-- a key that is there is put anew
pub ok-there : {T E : Type 0} (r : Result T E) (o : Option NodeId) → IsSome o → OnErr r (o ≡ None) → IsOk r
ok-there (Ok x) o some absent = refl
ok-there (Err d) o some absent = absurd (let none = ap is_some absent in cc)

module _ (old new : List (ℕ × NodeId)) where
  pub displaced-same : ((q : ℕ) → node_at new q ≡ node_at old q) → displaced_in new ≡ displaced_in old
  unfolding displaced_in
  displaced-same each = λ i n. each n i

  pub displaced-put : (k : ℕ) (at : NodeId) → ((q : ℕ) → node_at new q ≡ cond (k == q) (Some at) (node_at old q)) →
      displaced_in new ≡ with_key (displaced_in old) k at
  unfolding displaced_in with_key
  displaced-put k at each = λ i n. same n i
    where
      same : (n : ℕ) → node_at new n ≡ cond (n == k) (Some at) (node_at old n)
      same n = grind (arith, common_steps, each n)

  pub displaced-removed : (k : ℕ) → ((q : ℕ) → node_at new q ≡ cond (k == q) None (node_at old q)) →
      displaced_in new ≡ without_key (displaced_in old) k
  unfolding displaced_in without_key
  displaced-removed k each = λ i n. same n i
    where
      same : (n : ℕ) → node_at new n ≡ cond (n == k) None (node_at old n)
      same n = grind (arith, common_steps, each n)

-- nothing is taken out of a map of nothing
pub none-removed : (entries : List (ℕ × NodeId)) (k : ℕ) → length entries ≡ 0 → displaced_in entries ≡ without_key (displaced_in entries) k
unfolding displaced_in without_key
none-removed [] k none = λ i n. same n i
  where
    same : (n : ℕ) → ◌≡◌ {A = Option NodeId} None (cond (n == k) None None)
    same n = grind (arith, common_steps)
none-removed (e ∷ es) k none = absurd cc

-- ---- the lists of a node and its parent

module _ (nodes : Nodes) (lists : ℕ) (f : IsForest nodes lists) where
  -- no other node has the list of a node
  other-list : (map : ℕ → Option NodeId) (j k : ℕ) (own node : Node) → nodes j ≡ Some own → nodes k ≡ Some node → k ≢ j →
      without_key map own.list.0 node.list.0 ≡ map node.list.0
  other-list map j k own node at also apart =
      without_key-other map own.list.0 node.list.0 (λ same. apart (f.by.own k j node own also at same))

  module _ (old between : ℕ → Option NodeId) (v : ℕ) (own : Node) (at : nodes v ≡ Some own) (gone : between ≡ without_key old own.list.0) where
    pub disowned-root : IsDisowned nodes old between v
    disowned-root = record { kept = λ k node also apart _. ap (λ g. g node.list.0) gone ∙ other-list old v k own node at also apart }

-- ---- the list of the parent goes to the sibling

-- the list of another node than the one that is out is still that of the node
pub owner-stays : (nodes : Nodes) (lists : ℕ) (f : IsForest nodes lists) (old between : ℕ → Option NodeId) (v k : ℕ) (own node : Node) → nodes v ≡ Some own →
    nodes k ≡ Some node → k ≢ v → between ≡ without_key old own.list.0 → old node.list.0 ≡ link_to k → between node.list.0 ≡ link_to k
owner-stays nodes lists f old between v k own node at also apart gone was =
    ap (λ g. g node.list.0) gone ∙ (other-list nodes lists f old v k own node at also apart ∙ was)

-- each other node owns the list that it owned
pub disowned-led : (nodes : Nodes) (lists : ℕ) (f : IsForest nodes lists) (old between new : ℕ → Option NodeId) (v h : ℕ) (own above : Node) (to : NodeId) →
    nodes v ≡ Some own → between ≡ without_key old own.list.0 → own.parent ≡ link_to h → nodes h ≡ Some above → new ≡ with_key between above.list.0 to →
    IsDisowned nodes old new v
disowned-led nodes lists f old between new v h own above to at gone parent there led = record {
  kept = λ k node also apart below.
      let higher : k ≢ h = λ same. below (record { node = own; at = at; parent = parent ∙ ap link_to (sym same) }) in
      ap (λ g. g node.list.0) led
      ∙ (with_key-other between above.list.0 to node.list.0 (λ same. higher (f.by.own k h node above also there same))
      ∙ (disowned-root nodes lists f old between v own at gone).kept k node also apart below);
}

-- the sibling and the two lists
pub merged-led : (nodes : Nodes) (now between : ℕ → Option NodeId) (v h : ℕ) (own above sibling : Node) (s : NodeId) → nodes v ≡ Some own → own.parent ≡ link_to h →
    nodes h ≡ Some above → Some s ≡ sibling_in nodes v → nodes s.0 ≡ Some sibling → now ≡ with_key between above.list.0 s →
    AreMerged nodes now v s.0 above.list.0 sibling.list.0
merged-led nodes now between v h own above sibling s at parent there beside sibling_at led = record {
  h = h;
  child = record { node = own; at = at; parent = parent };
  parent = above;
  parent_at = there;
  above_is = refl;
  beside = sym beside;
  sibling = sibling;
  sibling_at = sibling_at;
  own_is = refl;
  leads = ap (λ g. g above.list.0) led ∙ with_key-same between above.list.0 s;
}

-- the list that goes is no node's
pub gone-apart : (nodes : Nodes) (s one other gone : ℕ) → HasOneOf nodes s one other → (own : Node) → nodes s ≡ Some own →
    ((own.list.0 ≡ one) × (gone ≡ other)) ⊎ ((own.list.0 ≢ one) × (gone ≡ one)) → (k : ℕ) (node : Node) → nodes k ≡ Some node → node.list.0 ≢ gone
gone-apart nodes s one other gone has own at which k node there same = elim (cases_eq k s) [
  | inr apart ↦
      let none = has.alone k node there apart in
      elim which [ inl first ↦ none.1 (same ∙ first.1) | inr second ↦ none.0 (same ∙ second.1) ]
  | inl here ↦
      let list : node.list.0 ≡ own.list.0 = ap (λ (n : Node). n.list.0) (some_same (sym there ∙ (ap nodes here ∙ at))) in
      elim which [
        | inl first ↦ has.apart (sym first.0 ∙ (sym list ∙ (same ∙ first.1)))
        | inr second ↦ second.0 (sym list ∙ (same ∙ second.1))
      ]
]

pub left-others : (nodes : Nodes) (old new : ℕ → Option NodeId) (gone : ℕ) → new ≡ without_key old gone →
    ((k : ℕ) (node : Node) → nodes k ≡ Some node → node.list.0 ≢ gone) → (k : ℕ) (node : Node) → nodes k ≡ Some node → new node.list.0 ≡ old node.list.0
left-others nodes old new gone left apart k node at = ap (λ g. g node.list.0) left ∙ without_key-other old gone node.list.0 (apart k node at)
