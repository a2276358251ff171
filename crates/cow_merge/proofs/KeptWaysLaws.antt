-- The ways upwards stay where a VMO's node goes, alone or with its parent.
use Rattle.cow_merge.proofs.Words.{◌≡◌, ◌≢◌, ℕ, ◌≤◌, None, Some, IsSome, inl, inr, sym, ap, subst, ◌∙◌, arith, is_some, cases_eq}
use Rattle.cow_merge.proofs.Words.{without_key, some_same, without_key-same, without_key-other, without_key-some}
use Rattle.cow_merge.proofs.Words.{Side, Node, Nodes, IsVisible, AreFamily, Tree, Slots, tree_with, IsForest, IsChild}
use Rattle.cow_merge.proofs.Words.{lifted, spliced, IsPartOf, KeepsBelow}
use Rattle.cow_arena.specs.Ways.{Rises}
use Rattle.cow_arena.proofs.RisesLaws.{rises-bare, rises-stays}
use Rattle.cow_arena.proofs.RisesSplicedLaws.{rises-spliced}
use Rattle.cow_arena.proofs.SpliceWalkLaws.{sibling_at, splice-same}
use Rattle.cow_split.proofs.PartLaws.{bare-part}
use Rattle.cow_merge.proofs.SpliceLaws.{spliced-kept, spliced-gone, spliced-parent_gone}

-- a node that is there is none that is not
there-apart : (nodes : Nodes) (j k : ℕ) → nodes k ≡ None → IsSome (nodes j) → j ≢ k
there-apart nodes j k none some same = let here = ap is_some (ap nodes same ∙ none) in absurd (cc)

-- Node v is gone, and its parent. The other nodes are there, and see no more pages of their parents than they did. A page of one of
-- them that rose to a page of another rises to it.
pub record KeepsRises (old new : Tree) (v : ℕ) : Type 0 where
  pub kept : (k : ℕ) (node : Node) → old.nodes k ≡ Some node → k ≢ v → (IsChild old.nodes k v → ⊥) → IsSome (new.nodes k)
  pub seen : (k : ℕ) (node now : Node) → old.nodes k ≡ Some node → new.nodes k ≡ Some now → now.seen ≤ node.seen
  pub rises : (k p : ℕ) (side : Side) (h q : ℕ) → IsSome (new.nodes k) → IsSome (new.nodes h) → Rises old k p side h q → Rises new k p side h q

-- ---- it goes alone

pub keeps-removed : (t : Tree) (f : IsForest t.nodes t.lists) (slots : Slots) (v : ℕ) (leaf : Node) (visible : IsVisible t.nodes v leaf) → IsPartOf t.slots slots →
    IsForest (without_key t.nodes v) t.lists → KeepsRises t (tree_with (without_key t.nodes v) t.lists slots) v
keeps-removed t f slots v leaf visible part g = record {
  kept = λ k node at apart childless. ap is_some (without_key-other t.nodes v k apart ∙ at);
  seen = λ k node now at there.
      let was = without_key-some t.nodes v k now there in
      let same = ap (λ (n : Node). n.seen) (some_same (sym was.1 ∙ at)) in omega arith;
  rises = λ k p side h q some there rises.
      let apart = there-apart (without_key t.nodes v) k v (without_key-same t.nodes v) some in
      rises-stays (record { nodes = t.nodes; slots = slots; lists = t.lists }) (without_key t.nodes v) t.lists v f g
      (record {
        leaf = λ node at. subst (λ (n : Node). IsSome n.koid) (some_same (sym visible.at ∙ at)) visible.koid;
        stay = λ j node at other. without_key-other t.nodes v j other ∙ at;
      })
      k p side h q apart
      (rises-bare t f slots v leaf visible (bare-part t.slots slots leaf.list.0 part) k p side h q rises);
}

-- ---- it goes with its parent

module _ (t : Tree) (f : IsForest t.nodes t.lists) (k h s : ℕ) (leaf parent sibling : Node) (family : AreFamily t.nodes k h s leaf parent sibling)
    (visible : IsVisible t.nodes k leaf) (slots : Slots) (keeps : KeepsBelow t.slots slots parent sibling) (empty : (p : ℕ) → slots parent.list.0 p ≡ None)
    (g : IsForest (spliced t.nodes k h s parent sibling) t.lists) where
  abbrev mid : Tree
  mid = record { nodes = t.nodes; slots = slots; lists = t.lists }

  abbrev last : Tree
  last = record { nodes = spliced t.nodes k h s parent sibling; slots = slots; lists = t.lists }

  not-leaf : (j : ℕ) → IsSome (last.nodes j) → j ≢ k
  not-leaf j = there-apart last.nodes j k (spliced-gone t.nodes t.lists f k h s leaf parent sibling family)

  not-parent : (j : ℕ) → IsSome (last.nodes j) → j ≢ h
  not-parent j = there-apart last.nodes j h (spliced-parent_gone t.nodes t.lists f k h s leaf parent sibling family)

  seen-less : (j : ℕ) (node now : Node) → t.nodes j ≡ Some node → last.nodes j ≡ Some now → now.seen ≤ node.seen
  seen-less j node now at there = elim (cases_eq j s) [
    | inl same ↦
        let here : lifted parent sibling ≡ now = some_same (sym (sibling_at mid f k h s leaf parent sibling family visible empty g) ∙ (ap last.nodes (sym same) ∙ there)) in
        let seen = ap (λ (n : Node). n.seen) here in
        let was = ap (λ (n : Node). n.seen) (some_same (sym family.sibling_at ∙ (ap t.nodes (sym same) ∙ at))) in
        omega arith
    | inr apart ↦
        let some : IsSome (last.nodes j) = ap is_some there in
        let moved = splice-same mid f k h s leaf parent sibling family visible empty g j (node, at, not-leaf j some, not-parent j some) apart in
        let one = ap (λ (n : Node). n.seen) (some_same (sym moved.at ∙ at)) in
        let two = ap (λ (n : Node). n.seen) (some_same (sym moved.now_at ∙ there)) in
        let seen = moved.seen in
        omega arith
  ]

  pub keeps-spliced : KeepsRises t last k
  keeps-spliced = record {
    kept = λ j node at apart childless.
        ap is_some (spliced-kept t.nodes t.lists f k h s leaf parent sibling family j node at apart
        (λ same. childless (subst (λ i. IsChild t.nodes i k) (sym same) (record { node = leaf; at = family.at; parent = family.parent_is })))).at;
    seen = seen-less;
    rises = λ j p side x q some there rises.
        rises-spliced t f k h s leaf parent sibling family visible slots keeps empty g side x q (not-parent x there) j p (not-leaf j some) (not-parent j some) rises;
  }
