-- The founders of hidden nodes say who sees a row, and stay right where a VMO comes, changes its page count or goes, and where a
-- snapshot is made.
use Rattle.cow_forest.proofs.Words.{◌≡◌, ◌≢◌, ◌⊎◌, min, ℕ, zero, suc, ◌+◌, ◌≤◌, ◌==◌, if◌then◌else◌, Bool, None, Some, inl, inr, refl, sym}
use Rattle.cow_forest.proofs.Words.{ap, subst, ◌∙◌, arith, is_some, cases_eq, Koid, with_key, some_same, with_key-cases, eqb_same}
use Rattle.cow_forest.proofs.Words.{eqb_apart, Rows, Row, Node, Pair, Side, Arena, Nodes, nodes_of, IsVisible, link_to, Tree, Climbs}
use Rattle.cow_forest.proofs.Words.{ReachesIn, Reaches, IsForest, root_node, paired, hidden_over, below_hidden, snapshot_node, HasShared}
use Rattle.cow_forest.proofs.Words.{with_count, IsRaised, WasUnder, founders_in, koid_or, eldest, IsUnder, AreFoundersBy, AreFounders}
use Rattle.cow_forest.proofs.Words.{Forest, HasNode, IsStore, FounderTable}
use Rattle.cow_arena.proofs.WalkLaws.{link_same}
use Rattle.cow_arena.proofs.RelinkLaws.{relinked-was}
use Rattle.cow_merge.proofs.ParentLaws.{window_first-zero}
use Rattle.cow_forest.specs.declared.founders.Founders.{Founders}

-- ---- from where a way comes

module _ (t : Tree) (f : IsForest t.nodes t.lists) (next : ℕ) (elder younger : ℕ → ℕ) (by : AreFoundersBy t.nodes next elder younger) where
  -- all that is at node k, from page p of which a way leads to page q of h
  record StandsBelow (k p h q : ℕ) (node : Node) : Type 0 where
    under : ((eldest elder k node ≡ elder h) × (p ≡ q)) ⊎ (younger h ≤ eldest elder k node)
    later : node.koid ≡ None → younger h ≤ younger k

  -- one step
  stands-child : (k p h q : ℕ) (node : Node) → t.nodes k ≡ Some node → Climbs t k p h q → StandsBelow k p h q node
  stands-child k p h q node at step =
      let same : step.node ≡ node = some_same (sym step.at ∙ at) in
      let up : node.parent ≡ link_to h = ap (λ (n : Node). n.parent) (sym same) ∙ step.parent in
      let first = ap (λ (n : Node). n.first) same in
      let page = step.page in
      record {
        under = elim (by.under h k node at up) [
          | inl own ↦ (let none = own.1 in inl (own.0, omega arith))
          | inr late ↦ inr late
        ];
        later = λ hidden. by.later h k node at hidden up;
      }

  -- a step and a way
  stands-further : (k p j r h q : ℕ) (node above : Node) → t.nodes k ≡ Some node → above.koid ≡ None → StandsBelow k p j r node →
      StandsBelow j r h q above → StandsBelow k p h q node
  stands-further k p j r h q node above at hidden here there =
      let key : eldest elder j above ≡ elder j = ap (koid_or (elder j)) hidden in
      let later = there.later hidden in
      record {
        under = elim here.under [
          | inr late ↦ inr (omega arith)
          | inl own ↦
              let mine = own.0 in
              elim there.under [
                | inl upper ↦ (let its = upper.0 in inl (omega arith, own.1 ∙ upper.1))
                | inr late ↦ inr (omega arith)
              ]
        ];
        later = λ none. let mine = here.later none in omega arith;
      }

  stands : (n k p : ℕ) (side : Side) (h q : ℕ) (node : Node) → t.nodes k ≡ Some node → ReachesIn n t k p side h q → StandsBelow k p h q node
  stands zero k p side h q node at way = stands-child k p h q node at way.0
  stands (suc n) k p side h q node at way =
      let same : way.2.node ≡ node = some_same (sym way.2.at ∙ at) in
      let below = f.by.below way.0 k node at (ap (λ (n : Node). n.parent) (sym same) ∙ way.2.parent) in
      stands-further k p way.0 way.1 h q node below.above at below.hidden (stands-child k p way.0 way.1 node at way.2)
      (stands n way.0 way.1 side h q below.above below.at way.3)

  -- A VMO from whose page p a way leads to page q of the hidden node h is the elder founder of h, and p is q. Or it came no sooner than the
  -- younger.
  pub reach-founders : (k p : ℕ) (side : Side) (h q : ℕ) (node : Node) (koid : Koid) → t.nodes k ≡ Some node → node.koid ≡ Some koid →
      Reaches t k p side h q → ((koid.0 ≡ elder h) × (p ≡ q)) ⊎ (younger h ≤ koid.0)
  reach-founders k p side h q node koid at named way =
      let key : eldest elder k node ≡ koid.0 = ap (koid_or (elder k)) named in
      elim ((stands way.between k p side h q node at way.way).under) [
        | inl own ↦ (let its = own.0 in inl (omega arith, own.1))
        | inr late ↦ inr (omega arith)
      ]

-- ---- nodes keep their parents, or have those of their parents

module _ (old new : Nodes) (next now : ℕ) (more : next ≤ now) (keeps : (k h : ℕ) (now : Node) → new k ≡ Some now → now.parent ≡ link_to h → WasUnder old k h now) (elder younger : ℕ → ℕ) (by : AreFoundersBy old next elder younger) where
  key-same : (k : ℕ) (node after : Node) → after.koid ≡ node.koid → eldest elder k after ≡ eldest elder k node
  key-same k node after same = ap (koid_or (elder k)) same

  under-raised : (h k : ℕ) (after : Node) → IsRaised old k h after → IsUnder elder younger h k after
  under-raised h k after it =
      let key = key-same k it.node after it.koid in
      let above : eldest elder it.j it.between ≡ elder it.j = ap (koid_or (elder it.j)) it.hidden in
      let order = by.later h it.j it.between it.between_at it.hidden it.parent in
      elim (by.under it.j k it.node it.at it.below) [
        | inr late ↦ inr (omega arith)
        | inl own ↦
            let mine = own.0 in
            elim (by.under h it.j it.between it.between_at it.parent) [
              | inl upper ↦ (let its = upper.0 in inl (omega arith, it.first own.1 upper.1))
              | inr late ↦ inr (omega arith)
            ]
      ]

  pub founders-kept : AreFoundersBy new now elder younger
  founders-kept = record {
    under = λ h k after at up. elim (keeps k h after at up) [
      | inl it ↦
          let key = key-same k it.node after it.koid in
          elim (by.under h k it.node it.at it.parent) [
            | inl own ↦ (let mine = own.0 in inl (omega arith, it.first own.1))
            | inr late ↦ inr (omega arith)
          ]
      | inr it ↦ under-raised h k after it
    ];
    later = λ h k after at hidden up. elim (keeps k h after at up) [
      | inl it ↦ by.later h k it.node it.at (sym it.koid ∙ hidden) it.parent
      | inr it ↦
          let above = by.later h it.j it.between it.between_at it.hidden it.parent in
          let own = by.later it.j k it.node it.at (sym it.koid ∙ hidden) it.below in
          omega arith
    ];
    made = λ k. let was = by.made k in let bound = more in omega arith;
  }

-- the nodes may have changed, but no hidden node came
pub founders-stay : (old new : Nodes) (next now : ℕ) → next ≤ now →
    ((k h : ℕ) (now : Node) → new k ≡ Some now → now.parent ≡ link_to h → WasUnder old k h now) →
    ((k : ℕ) (after : Node) → new k ≡ Some after → after.koid ≡ None → (node : Node) × (old k ≡ Some node) × (node.koid ≡ None)) →
    (table : FounderTable) → AreFounders old next table → AreFounders new now table
founders-stay old new next now more keeps came table are = record {
  elder = are.elder;
  younger = are.younger;
  by = founders-kept old new next now more keeps are.elder are.younger are.by;
  noted = λ k after founders at hidden has. let was = came k after at hidden in are.noted k was.0 founders was.1 was.2 has;
}

-- ---- a VMO comes

pub founders-root : (old new : Nodes) (k list count : ℕ) (koid : Koid) → new ≡ with_key old k (root_node koid list count) → (next : ℕ) (table : FounderTable) →
    AreFounders old next table → AreFounders new (next + 1) table
founders-root old new k list count koid is next table =
    founders-stay old new next (next + 1) (omega arith)
    (λ j h after at up. elim (with_key-cases old k (root_node koid list count) j after (sym (ap (λ (n : Nodes). n j) is) ∙ at)) [
      | inl own ↦ absurd (let none = ap (λ (n : Node). n.parent) own.1 in cc)
      | inr was ↦ inl (record { node = after; at = was.1; koid = refl; parent = up; first = λ none. none })
    ])
    (λ j after at hidden. elim (with_key-cases old k (root_node koid list count) j after (sym (ap (λ (n : Nodes). n j) is) ∙ at)) [
      | inl own ↦ absurd (let some = ap (λ (n : Node). n.koid) own.1 in cc)
      | inr was ↦ (after, was.1, hidden)
    ])
    table

-- ---- a VMO changes its page count

pub founders-resized : (old new : Nodes) (k count : ℕ) (leaf : Node) → IsVisible old k leaf → new ≡ with_key old k (with_count leaf count) → (next : ℕ)
    (table : FounderTable) → AreFounders old next table → AreFounders new next table
founders-resized old new k count leaf visible is next table =
    founders-stay old new next next (omega arith)
    (λ j h after at up. elim (with_key-cases old k (with_count leaf count) j after (sym (ap (λ (n : Nodes). n j) is) ∙ at)) [
      | inl own ↦ inl (record {
        node = leaf;
        at = ap old own.0 ∙ visible.at;
        koid = ap (λ (n : Node). n.koid) (sym own.1);
        parent = ap (λ (n : Node). n.parent) own.1 ∙ up;
        first = λ none. ap (λ (n : Node). n.first) (sym own.1) ∙ window_first-zero leaf.first (min leaf.seen count) none;
      })
      | inr was ↦ inl (record { node = after; at = was.1; koid = refl; parent = up; first = λ none. none })
    ])
    (λ j after at hidden. elim (with_key-cases old k (with_count leaf count) j after (sym (ap (λ (n : Nodes). n j) is) ∙ at)) [
      | inl own ↦ absurd (let same = ap (λ (n : Node). is_some n.koid) own.1 in let some = visible.koid in let none = ap is_some hidden in cc)
      | inr was ↦ (after, was.1, hidden)
    ])
    table

-- ---- a snapshot is made

-- numbers of which one changes
put-here : (map : ℕ → ℕ) (h n : ℕ) → (if h == h then n else map h) ≡ n
put-here map h n = ap (λ (b : Bool). if b then n else map h) (eqb_same h)

put-other : (map : ℕ → ℕ) (h n k : ℕ) → k ≢ h → (if k == h then n else map k) ≡ map k
put-other map h n k away = ap (λ (b : Bool). if b then n else map k) (eqb_apart k h away)

module _ (old : Nodes) (lists : ℕ) (f : IsForest old lists) (v : ℕ) (leaf : Node) (visible : IsVisible old v leaf) (of : Koid) (named : leaf.koid ≡ Some of) (h c : ℕ)
    (no_h : old h ≡ None) (no_c : old c ≡ None) (apart : h ≢ c) (first seen count next : ℕ) (older newer : FounderTable) (are : AreFounders old next older)
    (here : (founders_in newer h ≡ Some (record { elder = of; younger = record { 0 = next } })) ⊎ (founders_in newer h ≡ None))
    (others : (k : ℕ) → k ≢ h → founders_in newer k ≡ founders_in older k) where
  abbrev koid : Koid
  koid = record { 0 = next }

  abbrev new : Nodes
  new = paired old v leaf h c lists koid first seen count

  -- the new node has new founders
  abbrev elder : ℕ → ℕ
  elder k = if k == h then of.0 else are.elder k

  abbrev younger : ℕ → ℕ
  younger k = if k == h then next else are.younger k

  -- the four kinds of nodes that are there
  data Kind (k : ℕ) (node : Node) : Type 0 where
    snapshot_kind : k ≡ c → node ≡ snapshot_node koid h (lists + 1) first seen count → Kind k node
    leaf_kind : k ≡ v → node ≡ below_hidden leaf h lists → Kind k node
    hidden_kind : k ≡ h → node ≡ hidden_over leaf v c → Kind k node
    other_kind : k ≢ h → (was : Node) → old k ≡ Some was → node.koid ≡ was.koid → node.parent ≡ was.parent → node.first ≡ was.first → Kind k node

  kind : (k : ℕ) (node : Node) → new k ≡ Some node → Kind k node
  unfolding paired
  kind k node at = elim (with_key-cases _ c _ k node at) [
    | inl own ↦ snapshot_kind own.0 (sym own.1)
    | inr on ↦ elim (with_key-cases _ v _ k node on.1) [
      | inl own ↦ leaf_kind own.0 (sym own.1)
      | inr further ↦ elim (with_key-cases _ h _ k node further.1) [
        | inl own ↦ hidden_kind own.0 (sym own.1)
        | inr last ↦ (let was = relinked-was old leaf.parent v h k node last.1 in other_kind last.0 was.0 was.1 was.2.koid was.2.parent was.2.first)
      ]
    ]
  ]

  -- no node that was there had the new one as its parent
  parent-apart : (x k : ℕ) (node : Node) → old k ≡ Some node → node.parent ≡ link_to x → x ≢ h
  parent-apart x k node at up same = let above = f.by.below x k node at up in let none = ap old same ∙ no_h in let some = above.at in absurd (cc)

  under-here : (x k : ℕ) (node : Node) → x ≡ h → ((eldest elder k node ≡ of.0) × (node.first ≡ 0)) ⊎ (next ≤ eldest elder k node) → IsUnder elder younger x k node
  under-here x k node same is =
      let its = ap elder same ∙ put-here are.elder h of.0 in
      let late = ap younger same ∙ put-here are.younger h next in
      elim is [
        | inl own ↦ (let key = own.0 in inl (omega arith, own.1))
        | inr newer ↦ inr (omega arith)
      ]

  under-there : (x k j : ℕ) (node was : Node) → x ≢ h → IsUnder are.elder are.younger x j was → eldest elder k node ≡ eldest are.elder j was → node.first ≡ was.first →
      IsUnder elder younger x k node
  under-there x k j node was away is key first_is =
      let its = put-other are.elder h of.0 x away in
      let late = put-other are.younger h next x away in
      elim is [
        | inl own ↦ (let mine = own.0 in inl (omega arith, first_is ∙ own.1))
        | inr newer ↦ inr (omega arith)
      ]

  under-of : (x k : ℕ) (node : Node) → Kind k node → node.parent ≡ link_to x → IsUnder elder younger x k node
  under-of x k node (snapshot_kind at is) up =
      under-here x k node (link_same (sym up ∙ ap (λ (n : Node). n.parent) is)) (inr (let key = ap (λ (n : Node). koid_or (elder k) n.koid) is in omega arith))
  under-of x k node (leaf_kind at is) up =
      under-here x k node (link_same (sym up ∙ ap (λ (n : Node). n.parent) is))
      (inl (ap (λ (n : Node). koid_or (elder k) n.koid) is ∙ ap (koid_or (elder k)) named, ap (λ (n : Node). n.first) is))
  under-of x k node (hidden_kind at is) up =
      let above : leaf.parent ≡ link_to x = sym (ap (λ (n : Node). n.parent) is) ∙ up in
      let away = parent-apart x v leaf visible.at above in
      under-there x k v node leaf away (are.by.under x v leaf visible.at above)
      (ap (λ (n : Node). koid_or (elder k) n.koid) is ∙ (ap elder at ∙ put-here are.elder h of.0) ∙ sym (ap (koid_or (are.elder v)) named))
      (ap (λ (n : Node). n.first) is)
  under-of x k node (other_kind away was at koid_is up_is first_is) up =
      let above : was.parent ≡ link_to x = sym up_is ∙ up in
      under-there x k k node was (parent-apart x k was at above) (are.by.under x k was at above)
      (ap (koid_or (elder k)) koid_is ∙ ap (λ e. koid_or e was.koid) (put-other are.elder h of.0 k away)) first_is

  later-of : (x k : ℕ) (node : Node) → Kind k node → node.koid ≡ None → node.parent ≡ link_to x → younger x ≤ younger k
  later-of x k node (snapshot_kind at is) hidden up = absurd (let some = ap (λ (n : Node). n.koid) is in cc)
  later-of x k node (leaf_kind at is) hidden up = absurd (let some = ap (λ (n : Node). n.koid) is ∙ named in cc)
  later-of x k node (hidden_kind at is) hidden up =
      let above : leaf.parent ≡ link_to x = sym (ap (λ (n : Node). n.parent) is) ∙ up in
      let its = put-other are.younger h next x (parent-apart x v leaf visible.at above) in
      let made = are.by.made x in
      let now = ap younger at ∙ put-here are.younger h next in
      omega arith
  later-of x k node (other_kind away was at koid_is up_is first_is) hidden up =
      let above : was.parent ≡ link_to x = sym up_is ∙ up in
      let order = are.by.later x k was at (sym koid_is ∙ hidden) above in
      let its = put-other are.younger h next x (parent-apart x k was at above) in
      let own = put-other are.younger h next k away in
      omega arith

  noted-of : (k : ℕ) (node : Node) (founders : Founders) → Kind k node → node.koid ≡ None → founders_in newer k ≡ Some founders →
      (founders.elder.0 ≡ elder k) × (founders.younger.0 ≡ younger k)
  noted-of k node founders (snapshot_kind at is) hidden has = absurd (let some = ap (λ (n : Node). n.koid) is in cc)
  noted-of k node founders (leaf_kind at is) hidden has = absurd (let some = ap (λ (n : Node). n.koid) is ∙ named in cc)
  noted-of k node founders (hidden_kind at is) hidden has = elim here [
    | inr none ↦ absurd (let some = ap (founders_in newer) (sym at) ∙ has in cc)
    | inl mine ↦
        let same : record { elder = of; younger = koid } ≡ founders = some_same (sym mine ∙ (ap (founders_in newer) (sym at) ∙ has)) in (
          ap (λ (it : Founders). it.elder.0) (sym same) ∙ sym (ap elder at ∙ put-here are.elder h of.0),
          ap (λ (it : Founders). it.younger.0) (sym same) ∙ sym (ap younger at ∙ put-here are.younger h next),
        )
  ]
  noted-of k node founders (other_kind away was at koid_is up_is first_is) hidden has =
      let it = are.noted k was founders at (sym koid_is ∙ hidden) (sym (others k away) ∙ has) in
      (it.0 ∙ sym (put-other are.elder h of.0 k away), it.1 ∙ sym (put-other are.younger h next k away))

  pub founders-paired : AreFounders new (next + 1) newer
  founders-paired = record {
    elder = elder;
    younger = younger;
    by = record {
      under = λ x k node at up. under-of x k node (kind k node at) up;
      later = λ x k node at hidden up. later-of x k node (kind k node at) hidden up;
      made = λ k. elim (cases_eq k h) [
        | inl same ↦ (let now = ap younger same ∙ put-here are.younger h next in omega arith)
        | inr away ↦ (let was = are.by.made k in let its = put-other are.younger h next k away in omega arith)
      ];
    };
    noted = λ k node founders at hidden has. noted-of k node founders (kind k node at) hidden has;
  }

-- of the forest
pub founders-shared : (f : Forest) (s : IsStore f) (arena : Arena) (rows : Rows Row) (v : Koid) (k : ℕ) (pair : Pair) (koid : Koid) (first seen count : ℕ)
    (h : HasNode f v.0 k) → HasShared f.arena arena f.rows rows k pair koid first seen count → koid.0 ≡ f.next → (older newer : FounderTable) →
    AreFounders (nodes_of f.arena) f.next older →
    (founders_in newer pair.hidden.0 ≡ Some (record { elder = v; younger = koid })) ⊎ (founders_in newer pair.hidden.0 ≡ None) →
    ((n : ℕ) → n ≢ pair.hidden.0 → founders_in newer n ≡ founders_in older n) → AreFounders (nodes_of arena) (f.next + 1) newer
founders-shared f s arena rows v k pair koid first seen count h shared next older newer are here others =
    let same : koid ≡ record { 0 = f.next } = λ i. record { 0 = next i } in
    let of : h.is.koid ≡ v = λ i. record { 0 = h.is.number i } in
    subst (λ (n : Nodes). AreFounders n (f.next + 1) newer)
    (ap (λ it. paired (nodes_of f.arena) k h.node pair.hidden.0 pair.child.0 f.arena.lists it first seen count) (sym same) ∙ sym (shared.nodes h.node h.is.at))
    (founders-paired (nodes_of f.arena) f.arena.lists s.exact.forest k h.node (record { at = h.is.at; koid = ap is_some h.is.has_koid }) v
    (h.is.has_koid ∙ ap (λ it. Some it) of) pair.hidden.0 pair.child.0 shared.new_hidden shared.new_child shared.apart first seen count f.next older newer are
    (subst (λ it. (founders_in newer pair.hidden.0 ≡ Some (record { elder = v; younger = it })) ⊎ (founders_in newer pair.hidden.0 ≡ None)) same here) others)

-- there is no node yet
pub founders-none : (nodes : Nodes) → nodes ≡ (λ k. None) → (next : ℕ) (table : FounderTable) → AreFounders nodes next table
founders-none nodes none next table = record {
  elder = λ k. 0;
  younger = λ k. 0;
  by = record {
    under = λ h k node at up. absurd (empty k node at);
    later = λ h k node at hidden up. absurd (empty k node at);
    made = λ k. omega arith;
  };
  noted = λ k node founders at hidden has. absurd (empty k node at);
}
  where
    empty : (k : ℕ) (node : Node) → nodes k ≡ Some node → ⊥
    empty k node at = let gone = ap (λ (n : Nodes). n k) none in cc
