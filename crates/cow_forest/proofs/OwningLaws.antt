-- A page that a VMO's node shows alone is owned, and one that was forked is, once its frame's backlink leads to its row.
use Rattle.cow_forest.proofs.Words.{◌≡◌, ◌≢◌, ℕ, Bool, false, None, Some, IsSome, refl, sym, ap, cond, ◌∙◌, inl, inr, arith, ◌==◌}
use Rattle.cow_forest.proofs.Words.{if◌then◌else◌, cases_eq, eq-eqb, ne_eqb, cond-true, cond-false, Rows, Tag, some_same, Backlink, Pool}
use Rattle.cow_forest.proofs.Words.{taken_frames, is_taken, links_of, Row, Slot, slots_of, Node, Arena, nodes_of, walk, frame_in, HadRow, Holder}
use Rattle.cow_forest.proofs.Words.{tree_of, holder_of, IsExact, all_in_sight, IsSole, AreLinked, tag_there, own_frame, HasOwnRow, HasOwned}
use Rattle.cow_arena.proofs.WalkLaws.{walk-own}
use Rattle.cow_split.proofs.RowLaws.{exact-in_use_alike}
use Rattle.cow_split.proofs.PartLaws.{bare-same}
use Rattle.cow_fork.proofs.LeafLaws.{IsLeaf, leaf-row}
use Rattle.cow_fork.proofs.HolderLaws.{own-row, own-shown}
use Rattle.cow_fork.proofs.PoolLaws.{taken-same}
use Rattle.cow_fork.proofs.ZeroLaws.{own-last}

-- an own row with a frame
own-tag : (found : Holder) (tag : Tag) → own_frame found ≡ Some tag → (row : Slot) × (found ≡ Holder.Own row) × (frame_in row ≡ Some tag.0)
own-tag (Holder.Own (Slot.Frame its left right)) tag e = (Slot.Frame its left right, refl, ap (λ (x : Tag). Some x.0) (some_same e))
own-tag (Holder.Own Slot.Zero) tag e = absurd (cc)
own-tag (Holder.Above node page side row) tag e = absurd (cc)
own-tag Holder.Nothing tag e = absurd (cc)

-- an own row without one
pub own-none : (found : Holder) → ((tag : Tag) → own_frame found ≡ Some tag → ⊥) → (row : Slot) → Holder.Own row ≡ found → frame_in row ≡ None
own-none found none (Slot.Frame its left right) e = absurd (none its (ap own_frame (sym e)))
own-none found none Slot.Zero e = refl

-- no row of its own with a frame
pub bare-own : (found : Holder) → own_frame found ≡ None → (tag : Tag) → own_frame found ≡ Some tag → ⊥
bare-own found none tag e = absurd (cc)

-- a row whose bits are false, with this frame
plain-row : (row : Slot) (t : ℕ) → frame_in row ≡ Some t → ((tag : Tag) (left right : Bool) → row ≡ Slot.Frame tag left right → (left ≡ false) × (right ≡ false)) →
    row ≡ Slot.Frame (record { 0 = t }) false false
plain-row (Slot.Frame tag left right) t e plain =
    let bits = plain tag left right refl in
    let same : tag.0 ≡ t = some_same e in
    λ i. Slot.Frame (record { 0 = same i }) (bits.0 i) (bits.1 i)
plain-row Slot.Zero t e plain = absurd (cc)

module _ {arena : Arena} {rows : Rows Row} {v p : ℕ} {node : Node} (leaf : IsLeaf arena rows v p node) (pool : Pool)
    (exact : IsExact (tree_of arena rows) all_in_sight (is_taken pool)) (linked : AreLinked rows pool) where
  -- a page that is shown alone stays as it is
  owned-sole : (tag : ℕ) → IsSole (tree_of arena rows) v p tag → HasOwned arena rows rows pool pool v p tag
  owned-sole tag sole = record {
    exact = exact;
    shows = sole.shows;
    others = λ w q page apart. refl;
    stays = λ t is. (some_same (sym sole.shows ∙ is.shows), refl);
    taken = λ none. absurd (none tag sole);
    rows = λ n at. bare-same (slots_of rows) n.list.0;
    frames = refl;
    spare = omega arith;
  }

  -- an own frame is shown alone
  pub owned-own : (found : Holder) (tag : Tag) → found ≡ holder_of (walk (tree_of arena rows) v p) → own_frame found ≡ Some tag →
      HasOwned arena rows rows pool pool v p tag.0 × HasOwnRow arena rows v p tag.0
  owned-own found tag is shown =
      let its = own-tag found tag shown in
      let own = own-row leaf its.0 (sym its.1 ∙ is) in
      let plain = plain-row its.0 tag.0 its.2 (λ other left right e. exact.plain v p node other left right leaf.visible (own ∙ ap Some e)) in (
        owned-sole tag.0
            (record { shows = own-shown leaf its.0 own ∙ its.2; last = own-last (tree_of arena rows) (is_taken pool) v p node its.0 tag.0 exact leaf.visible own its.2 }),
        leaf-row leaf rows (Some (Slot.Frame (record { 0 = tag.0 }) false false)) (own ∙ ap Some plain),
      )

  -- where the node's list has no row, the row that is found is no own one
  pub found-bare : (found : Holder) → found ≡ holder_of (walk (tree_of arena rows) v p) → slots_of rows node.list.0 p ≡ None →
      own_frame found ≡ None
  found-bare (Holder.Own row) is none = ap tag_there (sym (own-row leaf row is) ∙ none)
  found-bare (Holder.Above n q side row) is none = refl
  found-bare Holder.Nothing is none = refl

  -- the node's own row has no frame
  pub unowned : (found : Holder) → found ≡ holder_of (walk (tree_of arena rows) v p) → ((tag : Tag) → own_frame found ≡ Some tag → ⊥) →
      (n : Node) (row : Slot) → nodes_of arena v ≡ Some n → slots_of rows n.list.0 p ≡ Some row → frame_in row ≡ None
  unowned found is none n row at own = own-none found none row (sym (is ∙ ap holder_of (walk-own (tree_of arena rows) leaf.forest v p n row at own)))

  -- The page was forked, and the backlink of its frame leads to its row.
  module _ (new : Rows Row) (after last : Pool) (tag : Tag) (forked : HasOwned arena rows new pool after v p tag.0) (row : HasOwnRow arena new v p tag.0) where
    pub forked-taken : IsSome (taken_frames after tag.0)
    forked-taken = forked.exact.used node.list.0 p (Slot.Frame tag false false) tag.0 (row node leaf.visible.at) refl

    pub owned-forked : last.frames ≡ after.frames → taken_frames last ≡ taken_frames after → HasOwned arena rows new pool last v p tag.0
    owned-forked frames same = record {
      exact = exact-in_use_alike (tree_of arena new) all_in_sight (is_taken after) (is_taken last) (taken-same after last same) forked.exact;
      shows = forked.shows;
      others = forked.others;
      stays = λ t sole. let its = forked.stays t sole in (its.0, same ∙ its.1);
      taken = λ shared. let takes = forked.taken shared in record { below = takes.below; was_free = takes.was_free; taken = same ∙ takes.taken };
      rows = forked.rows;
      frames = frames ∙ forked.frames;
      spare = forked.spare;
    }

    pub linked-forked : ((l q : ℕ) (its : Slot) (t : ℕ) → slots_of new l q ≡ Some its → frame_in its ≡ Some t → t ≢ tag.0 → HadRow (slots_of rows) l q its) →
        links_of after ≡ links_of pool → (links_of last ≡ λ t. if t == tag.0 then record { list = node.list.0; page = p } else links_of after t) → AreLinked new last
    linked-forked stood kept links = record { linked = λ l q its t at frame. link-now l q its t at frame (ap (λ (map : ℕ → Backlink). map t) links) }
      where
        link-now : (l q : ℕ) (its : Slot) (t : ℕ) → slots_of new l q ≡ Some its → frame_in its ≡ Some t →
            links_of last t ≡ cond (t == tag.0) (record { list = node.list.0; page = p }) (links_of after t) → links_of last t ≡ record { list = l; page = q }
        link-now l q its t at frame is = elim (cases_eq t tag.0) [
          | inl here ↦
              let place = forked.exact.once node.list.0 p l q t (Slot.Frame tag false false) its (row node leaf.visible.at) at (ap Some (sym here)) frame in
              is ∙ (cond-true (t == tag.0) (record { list = node.list.0; page = p }) (links_of after t) (eq-eqb t tag.0 here)
              ∙ λ i. record { list = place.0 i; page = place.1 i })
          | inr apart ↦
              let had = stood l q its t at frame apart in
              is ∙ (cond-false (t == tag.0) (record { list = node.list.0; page = p }) (links_of after t) (ne_eqb t tag.0 apart)
              ∙ (ap (λ (map : ℕ → Backlink). map t) kept ∙ linked.linked l q had.row t had.at (sym had.frame ∙ frame)))
        ]
