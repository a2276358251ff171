-- No way up from a VMO's node has more nodes than there are VMOs.
use Rattle.cow_forest.proofs.Words.{◌≡◌, ℕ, ◌<◌, ◌≤◌, ap, inl, inr, arith, IsSome, is_some, entry_count_hit, vmos_of, nodes_of, link_to}
use Rattle.cow_forest.proofs.Words.{visible_count, HasFewerHidden, depth, node_in, Forest, forest_content, HasNode, IsStore}
use Rattle.cow_arena.proofs.CountLaws.{is_visible}
use Rattle.cow_split.proofs.DepthLaws.{depth-hidden}

module _ (f : Forest) (s : IsStore f) (fewer : HasFewerHidden f.arena) (held : (k : ℕ) → IsSome (nodes_of f.arena k) → k < f.arena.slots.capacity) (v k : ℕ)
    (is : node_in f.nodes v ≡ link_to k) where
  has-node : HasNode f v k
  has-node = s.named v (record { 0 = k }) is

  -- the VMO's node is counted
  some-visible : 0 < visible_count f.arena
  unfolding visible_count
  some-visible = entry_count_hit f.arena.slots.capacity is_visible (nodes_of f.arena) k has-node.node (held k (ap is_some has-node.is.at)) has-node.is.at
      (ap is_some has-node.is.has_koid)

  -- each node above the VMO's is hidden, and fewer are hidden than there are VMOs
  pub depth-vmos : depth (nodes_of f.arena) f.arena.lists k ≤ vmos_of (forest_content f)
  depth-vmos =
      let up = depth-hidden f.arena s.exact.forest held k has-node.node has-node.is.at in
      elim fewer [
        | inl less ↦ omega (arith, up, less, s.visible, s.vmos)
        | inr none ↦ absurd (omega (arith, some-visible, none.1))
      ]
