-- Laws of the nodes from one up to its root: how many there are, and what they weigh together.
use Rattle.cow_split.proofs.Words.{◌≡◌, ℕ, zero, suc, ◌+◌, ◌<◌, ◌≤◌, Option, None, Some, refl, sym, ap, ◌∙◌, subst, arith, IsSome, NodeId}
use Rattle.cow_split.proofs.Words.{Node, Nodes, link_to, parent_node_in, IsForest, nodes_up, depth, sum_up}

-- the number of nodes is their sum, where each weighs one
up-sum : (nodes : Nodes) (n : ℕ) (at : Option NodeId) → nodes_up nodes n at ≡ sum_up nodes (λ k. 1) n at
unfolding nodes_up sum_up
up-sum nodes zero at = refl
up-sum nodes (suc n) None = refl
up-sum nodes (suc n) (Some at) = let further = up-sum nodes n (parent_node_in (nodes at.0)) in omega arith

up-few : (nodes : Nodes) (n : ℕ) (at : Option NodeId) → nodes_up nodes n at ≤ n
unfolding nodes_up
up-few nodes zero at = omega arith
up-few nodes (suc n) None = omega arith
up-few nodes (suc n) (Some at) = let further = up-few nodes n (parent_node_in (nodes at.0)) in omega arith

module _ (nodes : Nodes) (weight : ℕ → ℕ) where
  sum-none : (n : ℕ) → sum_up nodes weight n None ≡ 0
  unfolding sum_up
  sum-none zero = refl
  sum-none (suc n) = refl

  sum-some : (n k : ℕ) → sum_up nodes weight (suc n) (link_to k) ≡ weight k + sum_up nodes weight n (parent_node_in (nodes k))
  unfolding sum_up
  sum-some n k = refl

module _ (nodes : Nodes) (lists : ℕ) (f : IsForest nodes lists) (weight : ℕ → ℕ) where
  abbrev Same : (n m : ℕ) → Option NodeId → Type 0
  Same n m o = sum_up nodes weight n o ≡ sum_up nodes weight m o

  -- more fuel than the rank of the node is as good as any
  sum-enough : (n m k : ℕ) → f.rank k < n → f.rank k < m → sum_up nodes weight n (link_to k) ≡ sum_up nodes weight m (link_to k)
  sum-enough zero m k h g = absurd (omega arith)
  sum-enough (suc n) zero k h g = absurd (omega arith)
  sum-enough (suc n) (suc m) k h g =
      sum-some nodes weight n k
      ∙ (ap (λ s. weight k + s) (with_node (λ j less. sum-enough n m j (omega arith) (omega arith)) (nodes k) refl)
      ∙ sym (sum-some nodes weight m k))
    where
      with_parent : ((j : ℕ) → f.rank j < f.rank k → Same n m (link_to j)) → (node : Node) → nodes k ≡ Some node → (o : Option NodeId) → node.parent ≡ o → Same n m o
      with_parent further node at None e = sum-none nodes weight n ∙ sym (sum-none nodes weight m)
      with_parent further node at (Some parent) e = further parent.0 (f.by.below parent.0 k node at e).deeper

      with_node : ((j : ℕ) → f.rank j < f.rank k → Same n m (link_to j)) → (o : Option Node) → nodes k ≡ o → Same n m (parent_node_in o)
      with_node further None e = sum-none nodes weight n ∙ sym (sum-none nodes weight m)
      with_node further (Some node) e = with_parent further node e node.parent refl

  -- a node, and what is from its parent on
  pub sum-step : (k h : ℕ) (node : Node) → nodes k ≡ Some node → node.parent ≡ link_to h →
      sum_up nodes weight lists (link_to k) ≡ weight k + sum_up nodes weight lists (link_to h)
  sum-step k h node at parent = go lists (f.by.ranks k node at)
    where
      go : (n : ℕ) → f.rank k < n → sum_up nodes weight n (link_to k) ≡ weight k + sum_up nodes weight n (link_to h)
      go zero below = absurd (omega arith)
      go (suc n) below =
          let deeper = (f.by.below h k node at parent).deeper in
          let parent_is : parent_node_in (nodes k) ≡ link_to h = ap parent_node_in at ∙ parent in
          sum-some nodes weight n k
          ∙ (ap (λ o. weight k + sum_up nodes weight n o) parent_is
          ∙ ap (λ s. weight k + s) (sum-enough n (suc n) h (omega arith) (omega arith)))

module _ (nodes : Nodes) (lists : ℕ) (f : IsForest nodes lists) where
  -- there is one node more from a child on than from its parent
  pub depth-up : (k h : ℕ) (node : Node) → nodes k ≡ Some node → node.parent ≡ link_to h → depth nodes lists k ≡ depth nodes lists h + 1
  depth-up k h node at parent =
      let one = sum-step nodes lists f (λ k. 1) k h node at parent in
      omega (arith, one, up-sum nodes lists (link_to k), up-sum nodes lists (link_to h))

  pub depth-few : (k : ℕ) → depth nodes lists k ≤ lists
  depth-few k = up-few nodes lists (link_to k)

  -- a node is one itself
  pub depth-some : (k : ℕ) (node : Node) → nodes k ≡ Some node → 1 ≤ depth nodes lists k
  depth-some k node at = go lists (f.by.ranks k node at)
    where
      go : (n : ℕ) → f.rank k < n → 1 ≤ nodes_up nodes n (link_to k)
      go zero below = absurd (omega arith)
      go (suc n) below = let one = up-sum nodes (suc n) (link_to k) in let some = sum-some nodes (λ k. 1) n k in omega arith

  -- the parent of a node is there
  pub parent-there : (k h : ℕ) (node : Node) → nodes k ≡ Some node → node.parent ≡ link_to h → IsSome (nodes h)
  parent-there k h node at parent = subst IsSome (sym (f.by.below h k node at parent).at) refl
