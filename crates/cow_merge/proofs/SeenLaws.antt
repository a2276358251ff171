-- Rows of the parent of a VMO's node that the node's pages come to are seen from its side.
use Rattle.cow_merge.proofs.Words.{◌≡◌, ℕ, ◌+◌, ◌-◌, ◌<◌, Bool, None, Some, IsSome, refl, sym, ap, subst, ◌∙◌, inl, inr, arith, is_some}
use Rattle.cow_merge.proofs.Words.{cases_Bool, some_same, Slot, Node, IsVisible, link_to, side_of, Slots, Tree, IsExact, all_in_sight}
use Rattle.cow_merge.proofs.Words.{IsHeldBy, bit_on, AreSeenFrom}
use Rattle.cow_arena.proofs.ReachLaws.{reach-one, side-is, found-of-reach}
use Rattle.cow_merge.proofs.LiftedLaws.{denies-on}

-- A row with a frame that a page of the node sees is seen from its side.
pub seen-start : (t : Tree) (in_use : ℕ → Bool) (exact : IsExact t all_in_sight in_use) (k h : ℕ) (leaf parent : Node) → IsVisible t.nodes k leaf →
    leaf.parent ≡ link_to h → t.nodes h ≡ Some parent →
    ((p : ℕ) → IsHeldBy t.nodes t.slots h leaf p → t.slots leaf.list.0 p ≡ None) →
    AreSeenFrom t.slots parent k leaf.first (leaf.first + leaf.seen)
seen-start t in_use exact k h leaf parent visible up parent_at free = record {
  bit = λ q tag left right least less has. elim (cases_Bool (bit_on (side_of parent k) left right)) [
    | inr off ↦ off
    | inl on ↦
        let f = exact.forest in
        let below = f.by.below h k leaf visible.at up in
        let same : below.above ≡ parent = some_same (sym below.at ∙ parent_at) in
        let inside : q - leaf.first < leaf.seen = omega arith in
        let page : q ≡ leaf.first + (q - leaf.first) = omega arith in
        let held : IsHeldBy t.nodes t.slots h leaf (q - leaf.first) =
        record { above = parent; at = parent_at; row = subst (λ x. IsSome (t.slots parent.list.0 x)) page (ap is_some has); inside = inside } in
        absurd ((denies-on t all_in_sight h q left right (side_of parent k)
        (exact.bits h q parent tag left right parent_at (ap (λ (n : Node). n.koid) (sym same) ∙ below.hidden) has)).is_true on (record {
          v = k;
          p = q - leaf.first;
          sees = record {
            page = record { node = leaf; visible = visible; below = omega (arith, inside, f.by.seen k leaf visible.at) };
            slot = Slot.Frame tag left right;
            found = found-of-reach t f k (q - leaf.first) (side_of parent k) h q parent (Slot.Frame tag left right)
                (reach-one t k (q - leaf.first) (side_of parent k) h q
                (record { node = leaf; at = visible.at; free = free (q - leaf.first) held; inside = inside; parent = up; page = page })
                (side-is t.nodes t.lists f h k parent leaf parent_at visible.at up))
                parent_at has;
          };
          in_sight = refl;
        }))
  ];
}

-- they are, as long as they stay
pub seen-kept : (old new : Slots) (parent : Node) (k first end : ℕ) → new parent.list.0 ≡ old parent.list.0 → AreSeenFrom old parent k first end →
    AreSeenFrom new parent k first end
seen-kept old new parent k first end same was = record {
  bit = λ q tag left right least less has. was.bit q tag left right least less (ap (λ row. row q) (sym same) ∙ has);
}
