-- Laws of places: where a node stands, and what comes of going up from it.
use Rattle.std.proofs.Common.{◌≡◌, ℕ, zero, suc, ◌-◌, ◌<◌, ◌≤◌, Option, None, Some, refl, sym, ap, ◌∙◌, subst, arith}
use Rattle.vm_base.proofs.EntryLaws.{some_same}
use Rattle.cow_arena.specs.declared.node.NodeId.{NodeId}
use Rattle.cow_arena.specs.declared.node.Node.{Node}
use Rattle.cow_arena.specs.declared.node.Side.{Side}
use Rattle.cow_arena.specs.Nodes.{Nodes, link_to, parent_node_in, side_in, child_on}
use Rattle.cow_arena.specs.Forest.{IsForest}
use Rattle.cow_arena.proofs.ReachLaws.{side-of-parent}
use Rattle.tree_text.specs.Order.{Place, joined_place, place_below_parent, climbed, climb}

pub place-none : (nodes : Nodes) (k : ℕ) (node : Node) → nodes k ≡ Some node → node.parent ≡ None → place_below_parent nodes k ≡ None
place-none nodes k node at none = ap (λ o. joined_place o (side_in nodes k)) (ap parent_node_in at ∙ none)

pub place-some : (nodes : Nodes) (k : ℕ) (node : Node) (parent : NodeId) (side : Side) → nodes k ≡ Some node → node.parent ≡ Some parent →
    side_in nodes k ≡ Some side → place_below_parent nodes k ≡ Some (parent, side)
place-some nodes k node parent side at is side_is =
    ap (λ o. joined_place o (side_in nodes k)) (ap parent_node_in at ∙ is) ∙ ap (joined_place (Some parent)) side_is

-- node k stands there, further down than its parent
pub record StandsAt (nodes : Nodes) (rank : ℕ → ℕ) (k : ℕ) (place : Place) : Type 0 where
  pub node : Node
  pub at : nodes k ≡ Some node
  pub parent : node.parent ≡ Some place.0
  pub above : Node
  pub above_at : nodes place.0.0 ≡ Some above
  pub child : child_on above place.1 ≡ link_to k
  pub deeper : rank place.0.0 < rank k

module _ (nodes : Nodes) (lists : ℕ) (f : IsForest nodes lists) where
  pub stands : (k : ℕ) (place : Place) → place_below_parent nodes k ≡ Some place → StandsAt nodes f.rank k place
  stands k place is = with_node (nodes k) refl
    where
      with_parent : (node : Node) → nodes k ≡ Some node → (o : Option NodeId) → node.parent ≡ o → StandsAt nodes f.rank k place
      with_parent node at None none = absurd (let e : place_below_parent nodes k ≡ None = place-none nodes k node at none in cc)
      with_parent node at (Some parent) e =
          let up = side-of-parent nodes lists f parent.0 k node at e in
          let same : place ≡ (parent, up.1) = some_same (sym is ∙ place-some nodes k node parent up.1 at e up.4) in
          subst (StandsAt nodes f.rank k) (sym same) (record {
            node = node;
            at = at;
            parent = e;
            above = up.0;
            above_at = up.2;
            child = up.3;
            deeper = (f.by.below parent.0 k node at e).deeper;
          })

      with_node : (o : Option Node) → nodes k ≡ o → StandsAt nodes f.rank k place
      with_node None e = absurd (let none : place_below_parent nodes k ≡ None = ap (λ o. joined_place (parent_node_in o) (side_in nodes k)) e in cc)
      with_node (Some node) e = with_parent node e node.parent refl

  -- a node of the least rank stands nowhere
  pub place-low : (k : ℕ) → f.rank k ≤ 0 → place_below_parent nodes k ≡ None
  place-low k low = with_place (place_below_parent nodes k) refl
    where
      with_place : (o : Option Place) → place_below_parent nodes k ≡ o → place_below_parent nodes k ≡ None
      with_place None e = e
      with_place (Some place) e = absurd (let deeper = (stands k place e).deeper in omega arith)

module _ {A : Type 0} (nodes : Nodes) (at_root : ℕ → A) (step : Place → A → A) where
  pub climb-zero : (k : ℕ) → climb nodes at_root step 0 k ≡ at_root k
  unfolding climb
  climb-zero k = refl

  pub climb-suc : (n k : ℕ) → climb nodes at_root step (suc n) k ≡ climbed nodes at_root step (climb nodes at_root step n) k (place_below_parent nodes k)
  unfolding climb
  climb-suc n k = refl

  -- from a node without a parent
  pub climb-root : (n k : ℕ) → place_below_parent nodes k ≡ None → climb nodes at_root step n k ≡ at_root k
  climb-root zero k none = climb-zero k
  climb-root (suc n) k none = climb-suc n k ∙ ap (climbed nodes at_root step (climb nodes at_root step n) k) none

  -- one level less
  pub climb-level : (n k : ℕ) (place : Place) → 0 < n → place_below_parent nodes k ≡ Some place →
      climb nodes at_root step n k ≡ step place (climb nodes at_root step (n - 1) place.0.0)
  climb-level zero k place some is = absurd (omega arith)
  climb-level (suc n) k place some is =
      let less : n ≡ suc n - 1 = omega arith in
      climb-suc n k ∙ (ap (climbed nodes at_root step (climb nodes at_root step n) k) is
      ∙ ap (λ m. step place (climb nodes at_root step m place.0.0)) less)

  module _ (lists : ℕ) (f : IsForest nodes lists) where
    abbrev Same : (n m k : ℕ) → Type 0
    Same n m k = climb nodes at_root step n k ≡ climb nodes at_root step m k

    -- more levels than the rank of the node are as good as any
    climb-enough : (n m k : ℕ) → f.rank k ≤ n → f.rank k ≤ m → Same n m k
    climb-enough zero zero k h g = refl
    climb-enough zero (suc m) k h g = climb-zero k ∙ sym (climb-root (suc m) k (place-low nodes lists f k h))
    climb-enough (suc n) zero k h g = climb-root (suc n) k (place-low nodes lists f k g) ∙ sym (climb-zero k)
    climb-enough (suc n) (suc m) k h g =
        climb-suc n k ∙ (with_place (λ j less. climb-enough n m j (omega arith) (omega arith)) (place_below_parent nodes k) refl ∙ sym (climb-suc m k))
      where
        with_place : ((j : ℕ) → f.rank j < f.rank k → Same n m j) → (o : Option Place) → place_below_parent nodes k ≡ o →
            climbed nodes at_root step (climb nodes at_root step n) k o ≡ climbed nodes at_root step (climb nodes at_root step m) k o
        with_place further None e = refl
        with_place further (Some place) e = ap (step place) (further place.0.0 (stands nodes lists f k place e).deeper)

    -- from a node that stands below another
    pub climb-step : (k : ℕ) (place : Place) → place_below_parent nodes k ≡ Some place →
        climb nodes at_root step lists k ≡ step place (climb nodes at_root step lists place.0.0)
    climb-step k place is =
        let it = stands nodes lists f k place is in
        let low = f.by.ranks k it.node it.at in
        let deeper = it.deeper in
        climb-level lists k place (omega arith) is
        ∙ ap (step place) (climb-enough (lists - 1) lists place.0.0 (omega arith) (omega arith))
