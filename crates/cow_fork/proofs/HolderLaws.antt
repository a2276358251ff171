-- What the holder of a page says of the page's own row, and of what the page shows.
use Rattle.cow_fork.proofs.Words.{◌≡◌, ℕ, Option, None, Some, refl, sym, ap, ◌∙◌, subst, some_same, Rows, Row, Slot, slots_of, Node, Side}
use Rattle.cow_fork.proofs.Words.{Arena, nodes_of, Tree, Found, walk, frame_in, frame_found, frame_shown, Arrives, Holder, tree_of}
use Rattle.cow_fork.proofs.Words.{holder_of, frame_held}
use Rattle.cow_arena.proofs.WalkLaws.{walk-own}
use Rattle.cow_arena.proofs.ReachLaws.{walk-ends}
use Rattle.cow_fork.proofs.LeafLaws.{IsLeaf}

held-own : (it : Found) → it.side ≡ None → holder_of (Some it) ≡ Holder.Own it.slot
held-own it e = rw e refl

held-above : (it : Found) (side : Side) → it.side ≡ Some side →
    holder_of (Some it) ≡ Holder.Above (record { 0 = it.node }) it.page side it.slot
held-above it side e = rw e refl

-- the frame of the holder's row is the one that is shown
held-found : (o : Option Found) → frame_held (holder_of o) ≡ frame_found o
held-found None = refl
held-found (Some it) = with_side it.side refl
  where
    with_side : (side : Option Side) → it.side ≡ side → frame_held (holder_of (Some it)) ≡ frame_in it.slot
    with_side None e = ap frame_held (held-own it e)
    with_side (Some side) e = ap frame_held (held-above it side e)

pub held-shown : (t : Tree) (v p : ℕ) (found : Holder) → found ≡ holder_of (walk t v p) → frame_held found ≡ frame_shown t v p
held-shown t v p found is = ap frame_held is ∙ held-found (walk t v p)

-- a slot without a frame says that the page is zero
pub zero-row : (row : Slot) → frame_in row ≡ None → row ≡ Slot.Zero
zero-row (Slot.Frame tag left right) e = absurd (cc)
zero-row Slot.Zero e = refl

module _ {arena : Arena} {rows : Rows Row} {v p : ℕ} {node : Node} (leaf : IsLeaf arena rows v p node) where
  -- an own row is the node's
  pub own-row : (row : Slot) → Holder.Own row ≡ holder_of (walk (tree_of arena rows) v p) → slots_of rows node.list.0 p ≡ Some row
  own-row row is = with_walk (walk (tree_of arena rows) v p) refl
    where
      with_side : (it : Found) → walk (tree_of arena rows) v p ≡ Some it → (side : Option Side) → it.side ≡ side → slots_of rows node.list.0 p ≡ Some row
      with_side it found None e =
          let ends = walk-ends (tree_of arena rows) leaf.forest v p it found in
          let way : Arrives (tree_of arena rows) v p None it.node it.page = subst (λ s. Arrives (tree_of arena rows) v p s it.node it.page) e ends.way in
          let same : ends.row.node ≡ node = some_same (sym ends.row.at ∙ (ap (nodes_of arena) (sym way.0) ∙ leaf.visible.at)) in
          let held : ◌≡◌ {A = Holder} (Holder.Own row) (Holder.Own it.slot) = is ∙ (ap holder_of found ∙ held-own it e) in
          let slot_is : it.slot ≡ row = cc in
          ap (λ (n : Node). slots_of rows n.list.0 p) (sym same) ∙ (ap (slots_of rows ends.row.node.list.0) way.1 ∙ (ends.row.row ∙ ap Some slot_is))
      with_side it found (Some side) e =
          let held : ◌≡◌ {A = Holder} (Holder.Own row) (Holder.Above (record { 0 = it.node }) it.page side it.slot) =
          is ∙ (ap holder_of found ∙ held-above it side e) in
          absurd (cc)

      with_walk : (o : Option Found) → walk (tree_of arena rows) v p ≡ o → slots_of rows node.list.0 p ≡ Some row
      with_walk None found = let held : ◌≡◌ {A = Holder} (Holder.Own row) Holder.Nothing = is ∙ ap holder_of found in absurd (cc)
      with_walk (Some it) found = with_side it found it.side refl

  -- and shows what it says
  pub own-shown : (row : Slot) → slots_of rows node.list.0 p ≡ Some row → frame_shown (tree_of arena rows) v p ≡ frame_in row
  own-shown row own = ap frame_found (walk-own (tree_of arena rows) leaf.forest v p node row leaf.visible.at own)

  -- the node has no row of its own where the holder is another's, or none
  pub bare-row : (found : Holder) → found ≡ holder_of (walk (tree_of arena rows) v p) → ((row : Slot) → found ≡ Holder.Own row → ⊥) →
      slots_of rows node.list.0 p ≡ None
  bare-row found is not_own = with_row (slots_of rows node.list.0 p) refl
    where
      with_row : (o : Option Slot) → slots_of rows node.list.0 p ≡ o → slots_of rows node.list.0 p ≡ None
      with_row None e = e
      with_row (Some row) e = absurd (not_own row (is ∙ ap holder_of (walk-own (tree_of arena rows) leaf.forest v p node row leaf.visible.at e)))

  -- an own row without a frame says that the page is zero
  pub own-zero : (found : Holder) (row : Slot) → found ≡ holder_of (walk (tree_of arena rows) v p) → found ≡ Holder.Own row →
      ((own : Slot) → slots_of rows node.list.0 p ≡ Some own → frame_in own ≡ None) → slots_of rows node.list.0 p ≡ Some Slot.Zero
  own-zero found row is held unowned =
      let own = own-row row (sym held ∙ is) in
      own ∙ ap Some (zero-row row (unowned row own))
