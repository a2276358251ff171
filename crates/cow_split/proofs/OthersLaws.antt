-- Laws of who else sees a row that a leaf sees: who comes to the leaf's parent comes wherever the leaf goes from there.
use Rattle.cow_split.proofs.Words.{◌≡◌, ◌≢◌, ℕ, ◌+◌, true, Some, inl, inr, sym, ap, ◌∙◌, subst, IsSome, is_some, some_same, NodeId, Node}
use Rattle.cow_split.proofs.Words.{Side, link_to, child_on, other_side, side_of, sibling_in, Tree, IsForest, Reaches, has_some}
use Rattle.cow_split.proofs.Words.{viewers_from, reached_from, viewers_at}
use Rattle.cow_arena.proofs.LinkLaws.{node_above-child, sibling_below}
use Rattle.cow_arena.proofs.RisesLaws.{reach-then}
use Rattle.cow_arena.proofs.WalkLaws.{link_same}
use Rattle.cow_arena.proofs.ReachLaws.{reach-cases, child-there}
use Rattle.cow_split.proofs.SearchLaws.{some-in, some-of, way-down, found-of-reached}

module _ (t : Tree) (f : IsForest t.nodes t.lists) (k : ℕ) (node : Node) (parent sib : NodeId) (at : t.nodes k ≡ Some node)
    (parent_is : node.parent ≡ Some parent) (sib_is : sibling_in t.nodes k ≡ Some sib) where
  -- the sibling is a child of the parent
  sibling-child : (above : Node) × (t.nodes parent.0 ≡ Some above) × (child_on above (other_side (side_of above k)) ≡ link_to sib.0)
  sibling-child =
      let below = f.by.below parent.0 k node at parent_is in
      (below.above, below.at, sym (sibling_below t.nodes k below.above (node_above-child t.nodes parent.0 k node at parent_is ∙ below.at)) ∙ sib_is)

  pub sibling-some : IsSome (t.nodes sib.0)
  sibling-some =
      let it = sibling-child in
      ap is_some (child-there t.nodes t.lists f parent.0 sib.0 it.0 (other_side (side_of it.0 k)) it.1 it.2).at

  -- whoever is found below the sibling comes to the row that the leaf comes to further up
  pub beside-reached : (x q : ℕ) (from : Side) (g r : ℕ) → parent.0 ≢ g → q ≡ node.first + x →
      has_some (viewers_at t (link_to k) (link_to sib.0) q) ≡ true → Reaches t k x from g r → reached_from t (link_to k) from g r ≡ true
  beside-reached x q from g r apart page some way = elim (reach-cases t k x from g r way) [
    | inl one ↦ absurd (apart (link_same (sym parent_is ∙ (ap (λ (n : Node). n.parent) (some_same (sym at ∙ one.0.at)) ∙ one.0.parent))))
    | inr on ↦ (
        let c = on.2 in
        let same : node ≡ c.node = some_same (sym at ∙ c.at) in
        let up : parent.0 ≡ on.0 = link_same (sym parent_is ∙ (ap (λ (n : Node). n.parent) same ∙ c.parent)) in
        let there : q ≡ on.1 = page ∙ (ap (λ (n : Node). n.first + x) same ∙ sym c.page) in
        let further : Reaches t parent.0 q from g r =
        subst (λ i. Reaches t i q from g r) (sym up) (subst (λ y. Reaches t on.0 y from g r) (sym there) on.3) in
        let found = some-in (viewers_at t (link_to k) (link_to sib.0) q) some in
        let it = sibling-child in
        let other = other_side (side_of it.0 k) in
        let by = way-down t f (link_to k) parent.0 sib.0 q found.0 it.0 other it.1 it.2 found.1 in
        some-of (viewers_from t (link_to k) from g r) found.0
        (found-of-reached t f (link_to k) from g r found.0
        (record { p = by.p; page = by.page; counts = by.counts; way = reach-then t found.0 by.p other parent.0 q from g r by.way further })))
  ]
