-- Laws of the walk over the nodes of a tree.
use Rattle.std.proofs.Common.{◌≡◌, ℕ, zero, suc, ◌+◌, ◌<◌, ◌≤◌, [], ◌∷◌, ◌++◌, Option, None, Some, refl, sym, ap, ◌∙◌, subst, arith, append_assoc, append-nil}
use Rattle.std.specs.Prelude.{IsSome, IfSome}
use Rattle.vm_base.specs.declared.names.Koid.{Koid}
use Rattle.vm_base.proofs.EntryLaws.{some_same}
use Rattle.cow_arena.specs.declared.node.NodeId.{NodeId}
use Rattle.cow_arena.specs.declared.node.Node.{Node}
use Rattle.cow_arena.specs.declared.node.Side.{Side}
use Rattle.cow_arena.specs.declared.node.Side.TheVariants as side
use Rattle.cow_arena.specs.Nodes.{Nodes, link_to, child_on}
use Rattle.cow_arena.specs.Forest.{IsForest}
use Rattle.cow_arena.proofs.ReachLaws.{child-there, side-of-child, hidden-of-child}
use Rattle.tree_text.specs.Order.{Place, place_below_parent, with_both_below, nodes_over, nodes_below, if_left, root_from}
use Rattle.tree_text.specs.inside.Walking.{right_in, after_child, nodes_after, nodes_ahead, ahead_from}
use Rattle.tree_text.proofs.PlaceLaws.{place-some, stands, climb-root, climb-step}

module _ (nodes : Nodes) where
  over-zero : (at : Option NodeId) → nodes_over nodes 0 at ≡ []
  unfolding nodes_over
  over-zero at = refl

  pub over-none : (n : ℕ) → nodes_over nodes n None ≡ []
  unfolding nodes_over
  over-none zero = refl
  over-none (suc n) = refl

  over-suc : (n k : ℕ) → nodes_over nodes (suc n) (link_to k) ≡ with_both_below nodes (nodes_over nodes n) k (nodes k)
  unfolding nodes_over
  over-suc n k = refl

  -- a node that is not there
  pub below-absent : (n k : ℕ) → nodes k ≡ None → nodes_over nodes n (link_to k) ≡ []
  below-absent zero k none = over-zero (link_to k)
  below-absent (suc n) k none = over-suc n k ∙ ap (with_both_below nodes (nodes_over nodes n) k) none

module _ (nodes : Nodes) (lists : ℕ) (f : IsForest nodes lists) where
  abbrev Same : (n m : ℕ) → Option NodeId → Type 0
  Same n m o = nodes_over nodes n o ≡ nodes_over nodes m o

  -- ---- the nodes below a node

  pub absent : (k : ℕ) → lists ≤ f.rank k → nodes k ≡ None
  absent k high = with_node (nodes k) refl
    where
      with_node : (o : Option Node) → nodes k ≡ o → nodes k ≡ None
      with_node None e = e
      with_node (Some node) e = absurd (let low = f.by.ranks k node e in omega arith)

  -- what is the same of each child is the same of both
  children-same : (n m k : ℕ) (node : Node) → nodes k ≡ Some node → ((c : ℕ) → f.rank k < f.rank c → Same n m (link_to c)) →
      nodes_over nodes n node.left ++ nodes_over nodes n node.right ≡ nodes_over nodes m node.left ++ nodes_over nodes m node.right
  children-same n m k node at each =
      ap (λ list. list ++ nodes_over nodes n node.right) (on_side side.Left node.left refl)
      ∙ ap (λ list. nodes_over nodes m node.left ++ list) (on_side side.Right node.right refl)
    where
      on_side : (s : Side) (o : Option NodeId) → child_on node s ≡ o → Same n m o
      on_side s None e = over-none nodes n ∙ sym (over-none nodes m)
      on_side s (Some c) e =
          let it = child-there nodes lists f k c.0 node s at e in
          each c.0 (f.by.below k c.0 it.node it.at it.parent).deeper

  over-enough : (n m k : ℕ) → lists ≤ n + f.rank k → lists ≤ m + f.rank k → Same n m (link_to k)
  over-enough zero zero k h g = refl
  over-enough zero (suc m) k h g =
      over-zero nodes (link_to k) ∙ sym (over-suc nodes m k ∙ ap (with_both_below nodes (nodes_over nodes m) k) (absent k (omega arith)))
  over-enough (suc n) zero k h g =
      over-suc nodes n k ∙ (ap (with_both_below nodes (nodes_over nodes n) k) (absent k (omega arith)) ∙ sym (over-zero nodes (link_to k)))
  over-enough (suc n) (suc m) k h g =
      over-suc nodes n k ∙ (with_node (λ c less. over-enough n m c (omega arith) (omega arith)) (nodes k) refl ∙ sym (over-suc nodes m k))
    where
      with_node : ((c : ℕ) → f.rank k < f.rank c → Same n m (link_to c)) → (o : Option Node) → nodes k ≡ o →
          with_both_below nodes (nodes_over nodes n) k o ≡ with_both_below nodes (nodes_over nodes m) k o
      with_node further None e = refl
      with_node further (Some node) e = ap (λ list. k ∷ list) (children-same n m k node e further)

  -- a node, and those below its children
  pub below-step : (k : ℕ) (node : Node) → nodes k ≡ Some node →
      nodes_below nodes lists (link_to k) ≡ k ∷ (nodes_below nodes lists node.left ++ nodes_below nodes lists node.right)
  below-step k node at = go lists (f.by.ranks k node at) refl
    where
      go : (n : ℕ) → f.rank k < n → n ≡ lists →
          nodes_over nodes n (link_to k) ≡ k ∷ (nodes_over nodes n node.left ++ nodes_over nodes n node.right)
      go zero low is = absurd (omega arith)
      go (suc n) low is =
          over-suc nodes n k
          ∙ (ap (with_both_below nodes (nodes_over nodes n) k) at
          ∙ ap (λ list. k ∷ list) (children-same n (suc n) k node at (λ c less. over-enough n (suc n) c (omega arith) (omega arith))))

  -- ---- the walk

  pub child-place : (k c : ℕ) (node : Node) (s : Side) → nodes k ≡ Some node → child_on node s ≡ link_to c → place_below_parent nodes c ≡ Some (record { 0 = k }, s)
  child-place k c node s at child =
      let it = child-there nodes lists f k c node s at child in
      place-some nodes c it.node (record { 0 = k }) s it.at it.parent (side-of-child nodes lists f k c node s at child)

  -- what comes after a child
  pub after-child : (k : ℕ) (place : Place) → place_below_parent nodes k ≡ Some place →
      nodes_after nodes lists k ≡ after_child nodes lists place.0.0 place.1 (nodes_after nodes lists place.0.0)
  after-child k place is =
      climb-step nodes (λ j. []) (λ place behind. after_child nodes lists place.0.0 place.1 behind) lists f k place is

  pub after-root : (k : ℕ) → place_below_parent nodes k ≡ None → nodes_after nodes lists k ≡ []
  after-root k none = climb-root nodes (λ j. []) (λ place behind. after_child nodes lists place.0.0 place.1 behind) lists k none

  -- from a root the walk goes over all that is below it
  pub ahead-root : (k : ℕ) → place_below_parent nodes k ≡ None → nodes_below nodes lists (link_to k) ≡ nodes_ahead nodes lists k
  ahead-root k none = sym (ap (λ list. nodes_below nodes lists (link_to k) ++ list) (after-root k none) ∙ append-nil (nodes_below nodes lists (link_to k)))

  -- the walk goes from a hidden node to its left child
  pub ahead-down : (k : ℕ) (node : Node) (left : NodeId) → nodes k ≡ Some node → node.left ≡ Some left →
      nodes_ahead nodes lists k ≡ k ∷ nodes_ahead nodes lists left.0
  ahead-down k node left at is =
      let here = nodes_below nodes lists node.left in
      let right = nodes_below nodes lists node.right in
      let behind = nodes_after nodes lists k in
      let after : nodes_after nodes lists left.0 ≡ right ++ behind =
      after-child left.0 (record { 0 = k }, side.Left) (child-place k left.0 node side.Left at is)
      ∙ ap (λ o. nodes_below nodes lists o ++ behind) (ap right_in at) in
      ap (λ list. list ++ behind) (below-step k node at)
      ∙ (ap (λ list. k ∷ list) (append_assoc here right behind)
      ∙ (ap (λ list. k ∷ (here ++ list)) (sym after)
      ∙ ap (λ o. k ∷ (nodes_below nodes lists o ++ nodes_after nodes lists left.0)) is))

  -- from a node without children it goes to what comes after it
  pub ahead-leaf : (k : ℕ) (node : Node) → nodes k ≡ Some node → node.left ≡ None → nodes_ahead nodes lists k ≡ k ∷ nodes_after nodes lists k
  ahead-leaf k node at none =
      let right = right_none node.koid refl in
      let none_below : nodes_below nodes lists node.left ++ nodes_below nodes lists node.right ≡ [] =
      ap (λ o. nodes_below nodes lists o ++ nodes_below nodes lists node.right) none
      ∙ (ap (λ list. list ++ nodes_below nodes lists node.right) (over-none nodes lists)
      ∙ (ap (nodes_below nodes lists) right ∙ over-none nodes lists)) in
      ap (λ list. list ++ nodes_after nodes lists k) (below-step k node at ∙ ap (λ list. k ∷ list) none_below)
    where
      right_none : (o : Option Koid) → node.koid ≡ o → node.right ≡ None
      right_none (Some koid) e = (f.by.leaves k node (record { at = at; koid = subst IsSome (sym e) refl })).1
      right_none None e = absurd (let left = (f.by.pairs k node at e).left_is in cc)

  -- after a left child comes the right one
  pub after-left : (k : ℕ) (place : Place) (above : Node) → place_below_parent nodes k ≡ Some place → place.1 ≡ side.Left → nodes place.0.0 ≡ Some above →
      (nodes_after nodes lists k ≡ ahead_from nodes lists above.right) × IfSome above.right (λ next. IsSome (nodes next.0))
  after-left k place above is left above_at =
      let h = place.0.0 in
      let it = stands nodes lists f k place is in
      let same : it.above ≡ above = some_same (sym it.above_at ∙ above_at) in
      let child : child_on above side.Left ≡ link_to k =
      subst (λ s. child_on above s ≡ link_to k) left (subst (λ (n : Node). child_on n place.1 ≡ link_to k) same it.child) in
      let pair = f.by.pairs h above above_at (hidden-of-child nodes lists f h k above side.Left above_at child) in
      let r = pair.right in
      let beside = after-child r (record { 0 = h }, side.Right) (child-place h r above side.Right above_at pair.right_is) in
      let there : IsSome (nodes r) = subst IsSome (sym pair.right_child.at) refl in
      let next : nodes_after nodes lists k ≡ ahead_from nodes lists (link_to r) =
      after-child k place is
      ∙ (ap (λ s. after_child nodes lists h s (nodes_after nodes lists h)) left
      ∙ (ap (λ o. nodes_below nodes lists (right_in o) ++ nodes_after nodes lists h) above_at
      ∙ (ap (λ o. nodes_below nodes lists o ++ nodes_after nodes lists h) pair.right_is
      ∙ ap (λ list. nodes_below nodes lists (link_to r) ++ list) (sym beside)))) in
      subst (λ o. (nodes_after nodes lists k ≡ ahead_from nodes lists o) × IfSome o (λ next. IsSome (nodes next.0))) (sym pair.right_is) (next, there)

  -- after a right child comes what comes after its parent
  pub after-right : (k : ℕ) (place : Place) → place_below_parent nodes k ≡ Some place → place.1 ≡ side.Right →
      nodes_after nodes lists k ≡ nodes_after nodes lists place.0.0
  after-right k place is right =
      after-child k place is ∙ ap (λ s. after_child nodes lists place.0.0 s (nodes_after nodes lists place.0.0)) right

  -- ---- roots

  pub root-top : (k : ℕ) → place_below_parent nodes k ≡ None → root_from nodes lists k ≡ link_to k
  root-top k none = climb-root nodes link_to (λ place root. if_left place.1 root) lists k none

  root-step : (k : ℕ) (place : Place) → place_below_parent nodes k ≡ Some place → root_from nodes lists k ≡ if_left place.1 (root_from nodes lists place.0.0)
  root-step k place is = climb-step nodes link_to (λ place root. if_left place.1 root) lists f k place is

  pub root-right : (k : ℕ) (place : Place) → place_below_parent nodes k ≡ Some place → place.1 ≡ side.Right → root_from nodes lists k ≡ None
  root-right k place is right = root-step k place is ∙ ap (λ s. if_left s (root_from nodes lists place.0.0)) right

  pub root-left : (k : ℕ) (place : Place) → place_below_parent nodes k ≡ Some place → place.1 ≡ side.Left →
      root_from nodes lists k ≡ root_from nodes lists place.0.0
  root-left k place is left = root-step k place is ∙ ap (λ s. if_left s (root_from nodes lists place.0.0)) left
