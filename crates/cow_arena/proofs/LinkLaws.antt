-- Laws of links: the node above a node, its sibling, and a link that is moved.
use Rattle.cow_arena.proofs.Words.{◌≡◌, ◌≢◌, ℕ, ◌+◌, ◌≤◌, Bool, true, false, cond, Option, None, Some, refl, sym, ap, ◌∙◌, inl, inr, arith}
use Rattle.cow_arena.proofs.Words.{◌==◌, IsSome, IfSome, is_some, is_none, option_map, cases_eq, passes, eqb_same, eqb_apart, some_same}
use Rattle.cow_arena.proofs.Words.{none_is, NodeId, Node, Side, Nodes, leads_to, link_to, child_on, other_side, side_of, node_above}
use Rattle.cow_arena.proofs.Words.{sibling_in, AreFamily, IsForest, IsForestBy, HasPair, IsChild, moved_link, relinked}
use Rattle.std.proofs.lemmas.Bool.Decides.{nat_tests}
use Rattle.cow_arena.proofs.WalkLaws.{link_same}

-- ---- the node above

pub node_above-root : (nodes : Nodes) (k : ℕ) (node : Node) → nodes k ≡ Some node → node.parent ≡ None → node_above nodes k ≡ None
node_above-root nodes k node at root = rw (at, root) refl

pub node_above-child : (nodes : Nodes) (h k : ℕ) (node : Node) → nodes k ≡ Some node → node.parent ≡ link_to h → node_above nodes k ≡ nodes h
node_above-child nodes h k node at parent = rw (at, parent) refl

module _ (nodes : Nodes) (lists : ℕ) (f : IsForest nodes lists) (k : ℕ) (node : Node) (at : nodes k ≡ Some node) where
  -- the parent of a node is there
  pub parent_held : (h : ℕ) → node.parent ≡ link_to h → IsSome (nodes h)
  parent_held h parent = ap is_some (f.by.below h k node at parent).at

  parents_held_by : (parent : Option NodeId) → node.parent ≡ parent → IfSome parent (λ it. IsSome (nodes it.0))
  parents_held_by None e = tt
  parents_held_by (Some h) e = parent_held h.0 e

  pub parents_held : IfSome node.parent (λ it. IsSome (nodes it.0))
  parents_held = parents_held_by node.parent refl

  parents_apart_by : (parent : Option NodeId) → node.parent ≡ parent → IfSome parent (λ it. it.0 ≢ k)
  parents_apart_by None e = tt
  parents_apart_by (Some h) e = λ same. absurd (omega (arith, (f.by.below h.0 k node at e).deeper, ap f.rank same))

  -- and is another node
  pub parents_apart : IfSome node.parent (λ it. it.0 ≢ k)
  parents_apart = parents_apart_by node.parent refl

  above_none_by : (parent : Option NodeId) → node.parent ≡ parent → is_none (node_above nodes k) ≡ is_none parent
  above_none_by None e = ap is_none (node_above-root nodes k node at e)
  above_none_by (Some h) e = ap is_none (node_above-child nodes h.0 k node at e ∙ (f.by.below h.0 k node at e).at)

  pub above_none : is_none (node_above nodes k) ≡ is_none node.parent
  above_none = above_none_by node.parent refl

  sibling_none_by : (parent : Option NodeId) → node.parent ≡ parent → is_none (sibling_in nodes k) ≡ is_none parent
  sibling_none_by None e = rw (node_above-root nodes k node at e) refl
  sibling_none_by (Some h) e =
      let above = f.by.below h.0 k node at e in
      let pair = f.by.pairs h.0 above.above above.at above.hidden in
      rw (node_above-child nodes h.0 k node at e, above.at) (on_side above.above pair (other_side (side_of above.above k)))
    where
      on_side : (above : Node) → HasPair nodes h.0 above → (s : Side) → is_none (child_on above s) ≡ false
      on_side above pair Side.Left = ap is_none pair.left_is
      on_side above pair Side.Right = ap is_none pair.right_is

  -- and has a sibling there
  pub sibling_none : is_none (sibling_in nodes k) ≡ is_none node.parent
  sibling_none = sibling_none_by node.parent refl

-- the sibling of a node, and its side, by the node above it
pub sibling_below : (nodes : Nodes) (k : ℕ) (above : Node) → node_above nodes k ≡ Some above → sibling_in nodes k ≡ child_on above (other_side (side_of above k))
sibling_below nodes k above e = rw e refl

module _ (nodes : Nodes) (lists : ℕ) (f : IsForest nodes lists) (k h : ℕ) (node parent : Node) (at : nodes k ≡ Some node) (child : node.parent ≡ link_to h) (there : nodes h ≡ Some parent) where
  above_hidden : parent.koid ≡ None
  above_hidden = let up = f.by.below h k node at child in ap (λ (x : Node). x.koid) (some_same (sym there ∙ up.at)) ∙ up.hidden

  -- a node that has a child has another, and both are there
  pub other_child : (s : Side) → (n : ℕ) × (child_on parent s ≡ link_to n) × IsSome (nodes n)
  other_child Side.Left = let pair = f.by.pairs h parent there above_hidden in (pair.left, pair.left_is, ap is_some pair.left_child.at)
  other_child Side.Right = let pair = f.by.pairs h parent there above_hidden in (pair.right, pair.right_is, ap is_some pair.right_child.at)

  -- the child on this side is there
  pub child_there : (s : Side) (n : ℕ) → child_on parent s ≡ link_to n → IsSome (nodes n)
  child_there s n is = let other = other_child s in ap (λ (m : ℕ). is_some (nodes m)) (link_same (sym is ∙ other.1)) ∙ other.2

  pub child_some : (s : Side) → child_on parent s ≢ None
  child_some s none = let no : ◌≡◌ {A = Option NodeId} None (link_to (other_child s).0) = sym none ∙ (other_child s).1 in absurd cc

  -- a node, the one above it, and its sibling
  pub kin : (s : ℕ) (sibling : Node) → child_on parent (other_side (side_of parent k)) ≡ link_to s → nodes s ≡ Some sibling → AreFamily nodes k h s node parent sibling
  kin s sibling beside is = record {
    at = at;
    parent_is = child;
    parent_at = there;
    sibling_is = sibling_below nodes k parent (node_above-child nodes h k node at child ∙ there) ∙ beside;
    sibling_at = is;
  }

-- the window of a node ends where the node above it does, and is empty where there is none
pub room_fits : (nodes : Nodes) (lists : ℕ) (f : IsForest nodes lists) (k : ℕ) (node : Node) → nodes k ≡ Some node → (room : ℕ) →
    IfSome node.parent (λ it. (above : Node) → nodes it.0 ≡ Some above → room ≡ above.count) → node.first + node.seen ≤ room
room_fits nodes lists f k node at room is = by_parent node.parent refl is
  where
    by_parent : (parent : Option NodeId) → node.parent ≡ parent → IfSome parent (λ it. (above : Node) → nodes it.0 ≡ Some above → room ≡ above.count) → node.first + node.seen ≤ room
    by_parent None e is = let none = f.by.root k node at e in omega (arith, none, f.by.empty k node at none)
    by_parent (Some h) e is = let up = f.by.below h.0 k node at e in omega (arith, up.window, is up.above up.at)

-- ---- a link that is moved from child k to node j

abbrev pub moved_key : (k j l : ℕ) → ℕ
moved_key k j l = cond (l == k) j l

pub moved_key-here : (k j l : ℕ) → l ≡ k → moved_key k j l ≡ j
moved_key-here k j l same = rw (same, eqb_same k) refl

pub moved_key-other : (k j l : ℕ) → l ≢ k → moved_key k j l ≡ l
moved_key-other k j l apart = rw (eqb_apart l k apart) refl

-- two children stay two, where neither is the new one
pub moved_key-apart : (k j l r : ℕ) → l ≢ r → l ≢ j → r ≢ j → moved_key k j l ≢ moved_key k j r
moved_key-apart k j l r apart l_new r_new = grind (arith, nat_tests)

pub leads_to-link : (l k : ℕ) → leads_to (link_to l) k ≡ (l == k)
unfolding passes
leads_to-link l k = refl

pub moved_link-none : (k j : ℕ) → moved_link k j None ≡ None
unfolding passes
moved_link-none k j = refl

pub moved_link-to : (k j l : ℕ) → moved_link k j (link_to l) ≡ link_to (moved_key k j l)
unfolding passes
moved_link-to k j l = by_test (l == k)
  where
    by_test : (b : Bool) → ◌≡◌ {A = Option NodeId} (cond b (link_to j) (link_to l)) (link_to (cond b j l))
    by_test true = refl
    by_test false = refl

-- the link of a parent to a child that was moved
pub moved_link-here : (k j : ℕ) (link : Option NodeId) → link ≡ link_to k → moved_link k j link ≡ link_to j
moved_link-here k j link e = rw e (moved_link-to k j k ∙ ap link_to (moved_key-here k j k refl))

-- the link of a parent to another child
pub moved_link-other : (k j l : ℕ) (link : Option NodeId) → l ≢ k → link ≡ link_to l → moved_link k j link ≡ link_to l
moved_link-other k j l link apart e = rw e (moved_link-to k j l ∙ ap link_to (moved_key-other k j l apart))

pub moved_link-away : (k j : ℕ) (link : Option NodeId) → leads_to link k ≡ false → moved_link k j link ≡ link
moved_link-away k j link e = rw e refl

-- the node with its links moved
abbrev pub moved : (k j : ℕ) → Node → Node
moved k j node = record node { left = moved_link k j node.left; right = moved_link k j node.right }

module _ (nodes : Nodes) (lists : ℕ) (rank : ℕ → ℕ) (f : IsForestBy nodes lists rank) (k : ℕ) (node : Node) (at : nodes k ≡ Some node) where
  -- node n is not the parent of node k: no link of it leads there
  module _ (n : ℕ) (a : Node) (here : nodes n ≡ Some a) (other : node.parent ≢ link_to n) where
    not_child : (l : ℕ) (link : Option NodeId) → link ≡ link_to l → IsChild nodes n l → leads_to link k ≡ false
    not_child l link e child = rw e (leads_to-link l k ∙ eqb_apart l k (λ same.
        other (ap (λ (x : Node). x.parent) (some_same (sym at ∙ (ap nodes (sym same) ∙ child.at))) ∙ child.parent)))

    links_away_by : (koid : Bool) → is_some a.koid ≡ koid → (leads_to a.left k ≡ false) × (leads_to a.right k ≡ false)
    unfolding passes
    links_away_by true e = let none = f.leaves n a (record { at = here; koid = e }) in (ap (λ (x : Option NodeId). leads_to x k) none.0, ap (λ (x : Option NodeId). leads_to x k) none.1)
    links_away_by false e = let pair = f.pairs n a here (none_is a.koid e) in
        (not_child pair.left a.left pair.left_is pair.left_child, not_child pair.right a.right pair.right_is pair.right_child)

    pub moved-away : (j : ℕ) → moved k j a ≡ a
    moved-away j =
        let away = links_away_by (is_some a.koid) refl in
        let left = moved_link-away k j a.left away.0 in
        let right = moved_link-away k j a.right away.1 in
        λ i. record a { left = left i; right = right i }

  stays_elsewhere : (j n : ℕ) (entry : Option Node) → nodes n ≡ entry → node.parent ≢ link_to n → nodes n ≡ option_map (moved k j) entry
  stays_elsewhere j n None e other = e
  stays_elsewhere j n (Some a) e other = e ∙ ap (λ (x : Node). Some x) (sym (moved-away n a e other j))

  relinked_by : (j n : ℕ) (parent : Option NodeId) → node.parent ≡ parent → relinked nodes parent k j n ≡ option_map (moved k j) (nodes n)
  unfolding relinked
  relinked_by j n None e = stays_elsewhere j n (nodes n) refl (λ is. absurd (let no : ◌≡◌ {A = Option NodeId} None (link_to n) = sym e ∙ is in cc))
  relinked_by j n (Some h) e = elim (cases_eq n h.0) [
    | inl same ↦ rw (same, eqb_same h.0) refl
    | inr apart ↦ rw (eqb_apart n h.0 apart) (stays_elsewhere j n (nodes n) refl (λ is. apart (link_same (sym is ∙ e))))
  ]

  -- where node j is below its parent in place of it, the links are moved at each node
  pub relinked_at : (j n : ℕ) → relinked nodes node.parent k j n ≡ option_map (moved k j) (nodes n)
  relinked_at j n = relinked_by j n node.parent refl
