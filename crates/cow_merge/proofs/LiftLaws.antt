-- A row of a hidden node goes, or moves into the list of a child, where the other child is out of sight.
use Rattle.cow_merge.proofs.Words.{◌≡◌, ◌≢◌, ℕ, ◌+◌, ◌<◌, Bool, true, false, not, ◌&&◌, Option, None, Some, IsSome, refl, sym, ap, subst}
use Rattle.cow_merge.proofs.Words.{◌∙◌, inl, inr, arith, ◌==◌, ◌||◌, cond, is_some, cases_Bool, and_left, and_right, and_parts, eq-eqb}
use Rattle.cow_merge.proofs.Words.{with_pair, passes, Tag, some_same, eqb_is, Slot, Node, Side, IsVisible, AreFamily, link_to, leads_to}
use Rattle.cow_merge.proofs.Words.{other_side, side_of, child_on, side_in, Slots, Tree, Found, walk, frame_in, frame_found, frame_shown}
use Rattle.cow_merge.proofs.Words.{IsForest, Climbs, Reaches, Arrives, SameElsewhere, with_row, reached_from, IsPage, Sees, IsSeenFrom}
use Rattle.cow_merge.proofs.Words.{ShowsSame, Denies, AreSplitBits, IsExact, IsOnlyOf, with_frame, without_frame, IsInSight, IsMoved}
use Rattle.cow_merge.proofs.Words.{IsAside, IsReachedBelow}
use Rattle.cow_arena.proofs.WalkLaws.{link_same}
use Rattle.cow_arena.proofs.ReachLaws.{reach-cases, reach-last, reach-after, reach-hidden, reach-deeper, climbs-same, child-there}
use Rattle.cow_arena.proofs.ReachLaws.{side-of-child, found-of-reach, walk-ends, walk-arrives, hidden-apart, arrives-or-not}
use Rattle.cow_arena.proofs.AlikeLaws.{with_pair-same, with_pair-other, with_pair-elsewhere, elsewhere-back, walk-but, walk-elsewhere}
use Rattle.cow_arena.proofs.AlikeLaws.{arrives-but}
use Rattle.cow_arena.proofs.SpliceWalkLaws.{family-side, family-both, family-parent}
use Rattle.cow_split.proofs.SearchLaws.{reached-seen, seen-reached, reached-kept}
use Rattle.cow_split.proofs.ExactLaws.{with_row-changes, frame-stays, frame-gone, frame-comes, exact-changed, seen-carried, Fits}
use Rattle.cow_split.proofs.ExactLaws.{FollowFrame}
use Rattle.cow_split.proofs.RowLaws.{exact-in_use_alike, with_row-twice}
use Rattle.cow_merge.proofs.SpliceLaws.{family-apart}
use Rattle.cow_split.proofs.CutLaws.{page-over}

-- ---- rows that are moved

-- A walk that ends at a row stays, where another row becomes another.
seen-stays : (t : Tree) → IsForest t.nodes t.lists → (slots : Slots) (h q : ℕ) (node : Node) (row : Slot) → t.nodes h ≡ Some node →
    SameElsewhere t.slots slots node.list.0 q → t.slots node.list.0 q ≡ Some row →
    (v p : ℕ) (from : Option Side) (j r : ℕ) → Sees t v p from j r → ((j ≡ h) × (r ≡ q) → ⊥) →
    walk (record t { slots = slots }) v p ≡ walk t v p
seen-stays t f slots h q node row at but has v p from j r sees differs =
    walk-but t f slots node.list.0 q v p but (λ side i n there list way.
    let one = f.by.own i h n node there at list in
    let found = walk-arrives t f v p side h q row (subst (λ x. Arrives t v p side x q) one way) (record { node = node; at = at; row = has }) in
    let same = some_same (sym sees.found ∙ found) in
    differs (ap (λ (it : Found). it.node) same, ap (λ (it : Found). it.page) same))

-- the same, where a row becomes this one
goes-stays : (t : Tree) → IsForest t.nodes t.lists → (h q : ℕ) (node : Node) (was : Slot) (now : Option Slot) → t.nodes h ≡ Some node →
    t.slots node.list.0 q ≡ Some was →
    (v p : ℕ) (from : Option Side) (j r : ℕ) → Sees t v p from j r → ((j ≡ h) × (r ≡ q) → ⊥) →
    walk (with_row t node.list.0 q now) v p ≡ walk t v p
goes-stays t f h q node was now at has =
    seen-stays t f (with_pair t.slots node.list.0 q now) h q node was at (with_pair-elsewhere t.slots node.list.0 q now) has

-- a row that comes is a row then
came-stays : (t : Tree) → IsForest t.nodes t.lists → (h q : ℕ) (node : Node) (now : Slot) → t.nodes h ≡ Some node →
    (v p : ℕ) (from : Option Side) (j r : ℕ) → Sees (with_row t node.list.0 q (Some now)) v p from j r → ((j ≡ h) × (r ≡ q) → ⊥) →
    walk t v p ≡ walk (with_row t node.list.0 q (Some now)) v p
came-stays t f h q node now at v p from j r sees differs =
    seen-stays (with_row t node.list.0 q (Some now)) f t.slots h q node now at
    (elsewhere-back (with_pair-elsewhere t.slots node.list.0 q (Some now))) (with_pair-same t.slots node.list.0 q (Some now)) v p from j r sees differs

-- another place of another node's list is another place
place-apart : (t : Tree) (h q j r : ℕ) (node other : Node) → t.nodes h ≡ Some node → t.nodes j ≡ Some other →
    ((other.list.0 ≡ node.list.0) × (r ≡ q) → ⊥) → (j ≡ h) × (r ≡ q) → ⊥
place-apart t h q j r node other at there differs both =
    let same : other ≡ node = some_same (sym there ∙ (ap t.nodes both.0 ∙ at)) in
    differs (ap (λ (n : Node). n.list.0) same, both.1)

-- a place gets a row, and another loses its own: in either order
rows-swapped : (slots : Slots) (l q m r : ℕ) (now : Option Slot) → (l ≡ m → ⊥) →
    with_pair (with_pair slots m r now) l q None ≡ with_pair (with_pair slots l q None) m r now
unfolding with_pair
rows-swapped slots l q m r now apart i x p =
    chosen ((x == l) && (p == q)) ((x == m) && (p == r)) (slots x p)
    (λ here there. apart (sym (eqb_is x l (and_parts (x == l) (p == q) here).0) ∙ eqb_is x m (and_parts (x == m) (p == r) there).0)) i
  where
    chosen : (a b : Bool) (o : Option Slot) → (a ≡ true → b ≡ true → ⊥) → cond a None (cond b now o) ≡ cond b now (cond a None o)
    chosen true true o apart = absurd (apart refl refl)
    chosen true false o apart = refl
    chosen false b o apart = refl

-- ---- a frame that goes and comes again

-- a frame that went is not in use
without-itself : (in_use : ℕ → Bool) (frame : Option ℕ) (tag : ℕ) → frame ≡ Some tag → without_frame in_use frame tag ≡ false
unfolding without_frame
without-itself in_use None tag e = absurd (cc)
without-itself in_use (Some a) tag e = and_left (not (tag == a)) (in_use tag) (ap not (eq-eqb tag a (sym (some_same e))))

-- the frames in use are the same again, once it is back
with-again : (in_use : ℕ → Bool) (frame again : Option ℕ) → again ≡ frame → ((tag : ℕ) → frame ≡ Some tag → in_use tag ≡ true) → (tag : ℕ) →
    with_frame (without_frame in_use frame) again tag ≡ in_use tag
unfolding with_frame without_frame
with-again in_use frame again same used tag = subst (λ o. with_frame (without_frame in_use frame) o tag ≡ in_use tag) (sym same) (by_frame frame used)
  where
    by_test : (a : ℕ) (b : Bool) → (tag == a) ≡ b → in_use a ≡ true → (b || (not b && in_use tag)) ≡ in_use tag
    by_test a true is used = sym (ap in_use (eqb_is tag a is) ∙ used)
    by_test a false is used = refl

    by_frame : (frame : Option ℕ) → ((tag : ℕ) → frame ≡ Some tag → in_use tag ≡ true) → with_frame (without_frame in_use frame) frame tag ≡ in_use tag
    by_frame None used = refl
    by_frame (Some a) used = by_test a (tag == a) refl (used a refl)

-- a bit and the search that it denies
untold : (bit found : Bool) → bit ≡ not found → bit ≡ false → found ≡ true
untold bit true is e = refl
untold bit false is e = absurd (cc)

pub no-except : (v : ℕ) → leads_to None v ≡ false
unfolding passes
no-except v = refl

-- ---- a family, of which one child is visible

module _ (t : Tree) (f : IsForest t.nodes t.lists) (k h s : ℕ) (leaf parent sibling : Node)
    (family : AreFamily t.nodes k h s leaf parent sibling) (visible : IsVisible t.nodes k leaf) where
  abbrev its_side : Side
  its_side = other_side (side_of parent k)

  pub hidden : parent.koid ≡ None
  hidden =
      let below = f.by.below h k leaf family.at family.parent_is in
      ap (λ (n : Node). n.koid) (some_same (sym family.parent_at ∙ below.at)) ∙ below.hidden

  deeper : f.rank h < f.rank s
  deeper = (f.by.below h s sibling family.sibling_at (family-parent t.nodes t.lists f k h s leaf parent sibling family)).deeper

  pub lists-apart : parent.list.0 ≡ sibling.list.0 → ⊥
  lists-apart list =
      absurd (omega (arith, ap f.rank (f.by.own h s parent sibling family.parent_at family.sibling_at list), deeper))

  sibling_side : side_in t.nodes s ≡ Some its_side
  sibling_side =
      side-of-child t.nodes t.lists f h s parent its_side family.parent_at (family-side t.nodes t.lists f k h s leaf parent sibling family).1

  -- Whatever comes from another visible node to the parent comes through the sibling.
  comes-through : (w p : ℕ) (from : Option Side) (q : ℕ) → IsPage t w p → w ≢ k → Arrives t w p from h q →
      (r : ℕ) × (before : Option Side) × Arrives t w p before s r × Climbs t s r h q
  comes-through w p None q page other way = absurd (hidden-apart t f h w parent page.node family.parent_at hidden page.visible (sym way.0))
  comes-through w p (Some side) q page other way =
      let last = reach-last t f w p side h q way in
      let step = last.4 in
      elim (family-both t.nodes t.lists f k h s leaf parent sibling family last.0 step.node step.at step.parent) [
        | inl same ↦ absurd (off last.2 last.1 (subst (λ i. Arrives t w p last.2 i last.1) same last.3))
        | inr same ↦ (
          last.1,
          last.2,
          subst (λ i. Arrives t w p last.2 i last.1) same last.3,
          subst (λ i. Climbs t i last.1 h q) same step,
        )
      ]
    where
      off : (before : Option Side) (r : ℕ) → Arrives t w p before k r → ⊥
      off None r there = other there.0
      off (Some side) r there =
          let above = reach-hidden t f w p side k r there in
          hidden-apart t f k k above.0 leaf above.1 above.2 visible refl

  -- the visible child is not below its sibling
  pub not-below : (p : ℕ) (side : Side) (r : ℕ) → Reaches t k p side s r → ⊥
  not-below p side r way =
      let less = deeper in
      elim (reach-cases t k p side s r way) [
        | inl one ↦
            absurd (omega (arith, ap f.rank (up s (one.0).node (one.0).at (one.0).parent)))
        | inr on ↦
            let step = on.2 in
            absurd (omega (arith, ap f.rank (up on.0 step.node step.at step.parent), reach-deeper t f on.0 on.1 side s r on.3))
      ]
    where
      up : (j : ℕ) (node : Node) → t.nodes k ≡ Some node → node.parent ≡ link_to j → j ≡ h
      up j node at parent_is = link_same (sym parent_is ∙ (ap (λ (n : Node). n.parent) (some_same (sym at ∙ family.at)) ∙ family.parent_is))

  -- nobody comes through the leaf but itself
  at-leaf : (w p : ℕ) (before : Option Side) (r : ℕ) → Arrives t w p before k r → p ≡ r
  at-leaf w p None r way = way.1
  at-leaf w p (Some side) r way =
      let above = reach-hidden t f w p side k r way in
      absurd (hidden-apart t f k k above.0 leaf above.1 above.2 visible refl)

  -- a step of the leaf goes as many pages further as its window begins, from a page in the window
  pub leaf-step : (r q : ℕ) → Climbs t k r h q → (q ≡ leaf.first + r) × (r < leaf.seen)
  leaf-step r q step =
      let same : step.node ≡ leaf = some_same (sym step.at ∙ family.at) in
      let first = ap (λ (n : Node). n.first) same in
      let seen = ap (λ (n : Node). n.seen) same in
      (omega (arith, step.page), omega (arith, step.inside))

  -- a page of the leaf that comes to the parent lies in the window
  from-leaf : (p : ℕ) (from : Option Side) (q : ℕ) → Arrives t k p from h q → (q ≡ leaf.first + p) × (p < leaf.seen)
  from-leaf p None q way = absurd (hidden-apart t f h k parent leaf family.parent_at hidden visible (sym way.0))
  from-leaf p (Some side) q way =
      let last = reach-last t f k p side h q way in
      elim (family-both t.nodes t.lists f k h s leaf parent sibling family last.0 (last.4).node (last.4).at (last.4).parent) [
        | inl same ↦
            let one = at-leaf k p last.2 last.1 (subst (λ i. Arrives t k p last.2 i last.1) same last.3) in
            let step = leaf-step last.1 q (subst (λ i. Climbs t i last.1 h q) same last.4) in
            (omega (arith, step.0), omega (arith, step.1))
        | inr same ↦ absurd (below last.2 last.1 (subst (λ i. Arrives t k p last.2 i last.1) same last.3))
      ]
    where
      below : (before : Option Side) (r : ℕ) → Arrives t k p before s r → ⊥
      below None r way = (family-apart t.nodes t.lists f k h s leaf parent sibling family).0 way.0
      below (Some side) r way = not-below p side r way

  -- a page in sight that comes to a page of the parent is of another node, where the page of the leaf that does is out of sight
  sight-apart : (out : ℕ → ℕ → Bool) (q : ℕ) → IsAside out k leaf q → (w p : ℕ) (from : Option Side) → out w p ≡ false →
      Arrives t w p from h q → w ≢ k
  sight-apart out q aside w p from sight way same =
      let came = from-leaf p from q (subst (λ x. Arrives t x p from h q) same way) in
      let gone = aside p came.0 came.1 in
      let seen : out k p ≡ false = subst (λ x. out x p ≡ false) same sight in
      absurd (cc)

  -- ---- a row that the sibling does not see

  module _ (q : ℕ) (closed : (r : ℕ) → Climbs t s r h q → ⊥) where
    dropped-walks : (w p : ℕ) → IsPage t w p → ((from : Option Side) → Arrives t w p from h q → w ≢ k) →
        walk (with_row t parent.list.0 q None) w p ≡ walk t w p
    dropped-walks w p page other =
        walk-but t f (with_pair t.slots parent.list.0 q None) parent.list.0 q w p (with_pair-elsewhere t.slots parent.list.0 q None)
        (λ from i n at list way.
        let one = f.by.own i h n parent at family.parent_at list in
        let there = subst (λ x. Arrives t w p from x q) one way in
        let it = comes-through w p from q page (other from there) there in
        closed it.0 it.3)

    module _ (out : ℕ → ℕ → Bool) (aside : IsAside out k leaf q) where
      pub dropped-shows : ShowsSame t (with_row t parent.list.0 q None) (IsInSight out)
      dropped-shows w p page sight = ap frame_found (dropped-walks w p page (λ from way. sight-apart out q aside w p from sight way))

      module _ (in_use : ℕ → Bool) (exact : IsExact t out in_use) (row : Slot) (has : t.slots parent.list.0 q ≡ Some row) where
        -- nobody sees it
        unseen : (side : Side) → IsSeenFrom t out side h q → ⊥
        unseen side seen =
            let way = (walk-ends t f seen.v seen.p _ seen.sees.found).way in
            let it = comes-through seen.v seen.p (Some side) q seen.sees.page (sight-apart out q aside seen.v seen.p (Some side) seen.in_sight way) way in
            closed it.0 it.3

        -- so it has no frame
        no_frame : frame_in row ≡ None
        no_frame = by_row row has
          where
            by_bits : (left right : Bool) → AreSplitBits t out h q left right → ⊥
            by_bits false right bits = unseen Side.Left (bits.left_bit.is_false refl)
            by_bits true false bits = unseen Side.Right (bits.right_bit.is_false refl)
            by_bits true true bits = absurd (let none = bits.is_seen in cc)

            by_row : (row : Slot) → t.slots parent.list.0 q ≡ Some row → frame_in row ≡ None
            by_row Slot.Zero is = refl
            by_row (Slot.Frame tag left right) is = absurd (by_bits left right (exact.bits h q parent tag left right family.parent_at hidden is))

        pub dropped-exact : IsExact (with_row t parent.list.0 q None) out in_use
        dropped-exact =
            exact-changed t (with_row t parent.list.0 q None) out out in_use in_use h q parent (Some row) None exact family.parent_at
            (with_row-changes t parent.list.0 q (Some row) None has)
            (subst (λ o. FollowFrame o None in_use in_use) (sym no_frame) (frame-stays None in_use (λ tag e. absurd (cc))))
            (λ shown. record { below = λ slot e. absurd (cc); plain = λ tag left right e. absurd (cc) })
            (record {
              alike = λ j r n tag left right at none e differs side. (
                seen-carried t (with_row t parent.list.0 q None) out out side j r refl
                    (λ v p sees sight. (dropped-walks v p sees.page (λ from way. sight-apart out q aside v p from sight way), sight)),
                seen-carried (with_row t parent.list.0 q None) t out out side j r refl
                    (λ v p sees sight.
                    let page = page-over (with_row t parent.list.0 q None) t.slots v p sees.page in
                    (sym (dropped-walks v p page (λ from way. sight-apart out q aside v p from sight way)), sight)),
              );
            })
            (λ none tag left right e. absurd (cc))

  -- ---- a row that the sibling sees

  -- a row of the sibling is between
  closed-by : (q to : ℕ) (row : Slot) → t.slots sibling.list.0 to ≡ Some row → q ≡ sibling.first + to → (r : ℕ) → Climbs t s r h q → ⊥
  closed-by q to row has page r step =
      let same : step.node ≡ sibling = some_same (sym step.at ∙ family.sibling_at) in
      let first = ap (λ (n : Node). n.first) same in
      let here : r ≡ to = omega (arith, step.page) in
      let none : t.slots sibling.list.0 to ≡ None =
      subst (λ x. t.slots sibling.list.0 x ≡ None) here (subst (λ (n : Node). t.slots n.list.0 r ≡ None) same step.free) in
      absurd (cc)

  -- The frame goes out of the row, which becomes a zero row.
  emptied-exact : (q : ℕ) (row : Slot) (out : ℕ → ℕ → Bool) (in_use : ℕ → Bool) → IsExact t out in_use → t.slots parent.list.0 q ≡ Some row →
      IsExact (with_row t parent.list.0 q (Some Slot.Zero)) out (without_frame in_use (frame_in row))
  emptied-exact q row out in_use exact has =
      exact-changed t (with_row t parent.list.0 q (Some Slot.Zero)) out out in_use (without_frame in_use (frame_in row)) h q parent
      (Some row) (Some Slot.Zero) exact family.parent_at (with_row-changes t parent.list.0 q (Some row) (Some Slot.Zero) has)
      (frame-gone (frame_in row) in_use)
      (λ shown. absurd (let none = ap is_some hidden in cc))
      (record {
        alike = λ j r n tag left right at none e differs side.
            let other = place-apart t h q j r parent n family.parent_at at differs in (
              seen-carried t (with_row t parent.list.0 q (Some Slot.Zero)) out out side j r refl
                  (λ v p sees sight. (goes-stays t f h q parent row (Some Slot.Zero) family.parent_at has v p (Some side) j r sees other, sight)),
              seen-carried (with_row t parent.list.0 q (Some Slot.Zero)) t out out side j r refl
                  (λ v p sees sight. (came-stays t f h q parent Slot.Zero family.parent_at v p (Some side) j r sees other, sight)),
            );
      })
      (λ none tag left right e. absurd (cc))

  -- A row comes into the list of the sibling, over a zero row that it sees: its bits tell, and its frame stood in no row.
  filled-exact : (q to : ℕ) (row : Slot) (out : ℕ → ℕ → Bool) (in_use : ℕ → Bool) → IsExact t out in_use →
      t.slots parent.list.0 q ≡ Some Slot.Zero → Climbs t s to h q → t.slots sibling.list.0 to ≡ None → (IsSome sibling.koid → Fits sibling to (Some row)) →
      ((tag : ℕ) → frame_in row ≡ Some tag → in_use tag ≡ false) →
      (sibling.koid ≡ None → (tag : Tag) (left right : Bool) → Some row ≡ Some (Slot.Frame tag left right) →
      AreSplitBits (with_row t sibling.list.0 to (Some row)) out s to left right) →
      IsExact (with_row t sibling.list.0 to (Some row)) out (with_frame in_use (frame_in row))
  filled-exact q to row out in_use exact zero step free fits unused own =
      exact-changed t (with_row t sibling.list.0 to (Some row)) out out in_use (with_frame in_use (frame_in row)) s to sibling
      None (Some row) exact family.sibling_at (with_row-changes t sibling.list.0 to None (Some row) free)
      (frame-comes (frame_in row) in_use unused)
      fits
      (record {
        alike = λ j r n tag left right at none e differs side. (
          seen-carried t (with_row t sibling.list.0 to (Some row)) out out side j r refl
              (λ v p sees sight. (past j r n tag left right at e v p (Some side) sees, sight)),
          seen-carried (with_row t sibling.list.0 to (Some row)) t out out side j r refl
              (λ v p sees sight. (
                came-stays t f s to sibling row family.sibling_at v p (Some side) j r sees
                    (place-apart t s to j r sibling n family.sibling_at at differs),
                sight,
              )),
        );
      })
      own
    where
      -- whoever sees a frame does not come by
      past : (j r : ℕ) (n : Node) (tag : Tag) (left right : Bool) → t.nodes j ≡ Some n → t.slots n.list.0 r ≡ Some (Slot.Frame tag left right) →
          (v p : ℕ) (from : Option Side) → Sees t v p from j r → walk (with_row t sibling.list.0 to (Some row)) v p ≡ walk t v p
      past j r n tag left right at e v p from sees =
          walk-but t f (with_pair t.slots sibling.list.0 to (Some row)) sibling.list.0 to v p
          (with_pair-elsewhere t.slots sibling.list.0 to (Some row))
          (λ before i x there list way.
          let one = f.by.own i s x sibling there family.sibling_at list in
          let up = reach-after t f v p before s to its_side h q (subst (λ y. Arrives t v p before y to) one way) step sibling_side in
          let found = found-of-reach t f v p its_side h q parent Slot.Zero up family.parent_at zero in
          let ends = (walk-ends t f v p _ sees.found).row in
          let here : ends.node ≡ n = some_same (sym ends.at ∙ at) in
          let frame : sees.slot ≡ Slot.Frame tag left right = some_same (sym ends.row ∙ (ap (λ (y : Node). t.slots y.list.0 r) here ∙ e)) in
          let none : sees.slot ≡ Slot.Zero = ap (λ (it : Found). it.slot) (some_same (sym sees.found ∙ found)) in
          absurd (cc))

  -- what the search below the sibling answers does not depend on the rows of the parent and of the sibling
  below-alike : (slots new : Slots) → ((l p : ℕ) → l ≢ parent.list.0 → l ≢ sibling.list.0 → new l p ≡ slots l p) → (side : Side) (to : ℕ) →
      reached_from (record t { slots = new }) None side s to ≡ reached_from (record t { slots = slots }) None side s to
  below-alike slots new same side to =
      reached-kept (record t { slots = slots }) f new None side s to sibling family.sibling_at (λ j. f.rank s < f.rank j)
      (λ c child. child_deeper s c sibling side family.sibling_at child)
      (λ j c n from below at child. let further = child_deeper j c n from at child in omega arith)
      (λ j p n below at. same n.list.0 p
      (λ list. let one = ap f.rank (f.by.own j h n parent at family.parent_at list) in let less = deeper in absurd (omega arith))
      (λ list. let one = ap f.rank (f.by.own j s n sibling at family.sibling_at list) in absurd (omega arith)))
    where
      child_deeper : (j c : ℕ) (n : Node) (side : Side) → t.nodes j ≡ Some n → child_on n side ≡ link_to c → f.rank j < f.rank c
      child_deeper j c n side at child =
          let it = child-there t.nodes t.lists f j c n side at child in (f.by.below j c it.node it.at it.parent).deeper

-- ---- the row moves

module _ (t : Tree) (f : IsForest t.nodes t.lists) (k h s : ℕ) (leaf parent sibling : Node)
    (family : AreFamily t.nodes k h s leaf parent sibling) (visible : IsVisible t.nodes k leaf) (q to : ℕ) (was now : Slot)
    (has : t.slots parent.list.0 q ≡ Some was) (free : t.slots sibling.list.0 to ≡ None) (inside : to < sibling.seen)
    (page : q ≡ sibling.first + to) (frames : frame_in now ≡ frame_in was) where
  apart : parent.list.0 ≡ sibling.list.0 → ⊥
  apart = lists-apart t f k h s leaf parent sibling family visible

  on-up : (slots : Slots) → slots sibling.list.0 to ≡ None → Climbs (record t { slots = slots }) s to h q
  on-up slots none = record {
    node = sibling;
    at = family.sibling_at;
    free = none;
    inside = inside;
    parent = family-parent t.nodes t.lists f k h s leaf parent sibling family;
    page = page;
  }

  -- the tree with the row in both places, and with a zero row in the old one
  abbrev both : Tree
  both = with_row t sibling.list.0 to (Some now)

  abbrev emptied : Tree
  emptied = with_row t parent.list.0 q (Some Slot.Zero)

  abbrev filled : Tree
  filled = with_row emptied sibling.list.0 to (Some now)

  abbrev moved : Slots
  moved = with_pair (with_pair t.slots parent.list.0 q None) sibling.list.0 to (Some now)

  -- Whoever came by the sibling saw the row, and sees it in its new place.
  came-by : (w p : ℕ) (from : Option Side) → Arrives t w p from s to →
      (walk t w p ≡ Some (record { node = h; page = q; side = Some (its_side t f k h s leaf parent sibling family visible); slot = was })) ×
      (walk both w p ≡ Some (record { node = s; page = to; side = from; slot = now }))
  came-by w p from way = (
    found-of-reach t f w p (its_side t f k h s leaf parent sibling family visible) h q parent was
        (reach-after t f w p from s to (its_side t f k h s leaf parent sibling family visible) h q way (on-up t.slots free) (sibling_side t f k h s leaf parent sibling family visible)) family.parent_at has,
    walk-arrives both f w p from s to now
        (arrives-but t f (with_pair t.slots sibling.list.0 to (Some now)) s to sibling family.sibling_at
        (with_pair-elsewhere t.slots sibling.list.0 to (Some now)) w p from way)
        (record { node = sibling; at = family.sibling_at; row = with_pair-same t.slots sibling.list.0 to (Some now) }),
  )

  both-shows : (w p : ℕ) → frame_shown both w p ≡ frame_shown t w p
  both-shows w p = elim (arrives-or-not t f s to w p) [
    | inl by ↦ let it = came-by w p by.0 by.1 in ap frame_found it.1 ∙ (frames ∙ sym (ap frame_found it.0))
    | inr none ↦
        ap frame_found
        (walk-elsewhere t f sibling.list.0 to (Some now) w p (λ from i n at list way.
        none from (subst (λ x. Arrives t w p from x to) (f.by.own i s n sibling at family.sibling_at list) way)))
  ]

  pub moved-shows : (out : ℕ → ℕ → Bool) → IsAside out k leaf q → ShowsSame t (record t { slots = moved }) (IsInSight out)
  moved-shows out aside w p page_of sight =
      let closed = closed-by both f k h s leaf parent sibling family visible q to now (with_pair-same t.slots sibling.list.0 to (Some now)) page in
      subst (λ (slots : Slots). frame_shown (record t { slots = slots }) w p ≡ frame_shown t w p)
      (rows-swapped t.slots parent.list.0 q sibling.list.0 to (Some now) apart)
      (dropped-shows both f k h s leaf parent sibling family visible q closed out aside w p (page-over t both.slots w p page_of) sight ∙ both-shows w p)

  -- ---- the bits

  search-alike : (slots : Slots) → ((l p : ℕ) → l ≢ parent.list.0 → l ≢ sibling.list.0 → slots l p ≡ t.slots l p) → (side : Side) →
      reached_from (record t { slots = slots }) None side s to ≡ reached_from (with_row t parent.list.0 q None) None side s to
  search-alike slots same side =
      below-alike t f k h s leaf parent sibling family visible (with_pair t.slots parent.list.0 q None) slots
      (λ l p one two. same l p one two ∙ sym (with_pair-other t.slots parent.list.0 q None l p (λ e _. one e))) side to

  filled-alike : (side : Side) → reached_from filled None side s to ≡ reached_from (with_row t parent.list.0 q None) None side s to
  filled-alike = search-alike filled.slots (λ l p one two.
      with_pair-other emptied.slots sibling.list.0 to (Some now) l p (λ e _. two e)
      ∙ with_pair-other t.slots parent.list.0 q (Some Slot.Zero) l p (λ e _. one e))

  both-alike : (side : Side) → reached_from both None side s to ≡ reached_from (with_row t parent.list.0 q None) None side s to
  both-alike = search-alike both.slots (λ l p one two. with_pair-other t.slots sibling.list.0 to (Some now) l p (λ e _. two e))

  filled-row : filled.slots sibling.list.0 to ≡ Some now
  filled-row = with_pair-same emptied.slots sibling.list.0 to (Some now)

  module _ (out : ℕ → ℕ → Bool) (in_use : ℕ → Bool) (exact : IsExact t out in_use) (only : IsOnlyOf out k) (aside : IsAside out k leaf q) where
    denies : (side : Side) (bit : Bool) → bit ≡ not (reached_from (with_row t parent.list.0 q None) None side s to) →
        Denies bit (IsSeenFrom filled out side s to)
    denies side bit is = record {
      is_true = λ e seen.
          let holds = seen-reached filled f None seen.v seen.p side s to seen.sees (no-except seen.v) in
          let off : bit ≡ false = is ∙ ap not (sym (filled-alike side) ∙ holds) in
          absurd (cc);
      is_false = λ e.
          let holds = filled-alike side ∙ untold bit _ is e in
          let it = reached-seen filled f None side s to sibling now family.sibling_at filled-row holds in
          record { v = it.v; p = it.p; sees = it.sees; in_sight = sight it.v it.p it.sees };
    }
      where
        sight : (v p : ℕ) → Sees filled v p (Some side) s to → out v p ≡ false
        sight v p sees = elim (cases_Bool (out v p)) [
          | inr seen ↦ seen
          | inl gone ↦
              let way = (walk-ends filled f v p _ sees.found).way in
              absurd (not-below filled f k h s leaf parent sibling family visible p side to (subst (λ x. Reaches filled x p side s to) (only v p gone) way))
        ]

    -- some side of a hidden sibling sees the row
    below-seen : sibling.koid ≡ None → (side : Side) → IsSeenFrom t out side h q → IsReachedBelow (with_row t parent.list.0 q None) s to
    below-seen none side seen =
        let way = (walk-ends t f seen.v seen.p _ seen.sees.found).way in
        let other = sight-apart t f k h s leaf parent sibling family visible out q aside seen.v seen.p (Some side) seen.in_sight way in
        let it = comes-through t f k h s leaf parent sibling family visible seen.v seen.p (Some side) q seen.sees.page other way in
        let here : it.0 ≡ to = omega (arith, (climbs-same t f s it.0 h q to h q it.3 (on-up t.slots free)).1) in
        by_side it.1 (subst (λ r. Arrives t seen.v seen.p it.1 s r) here it.2)
      where
        by_side : (from : Option Side) → Arrives t seen.v seen.p from s to → IsReachedBelow (with_row t parent.list.0 q None) s to
        by_side None way = absurd (hidden-apart t f s seen.v sibling seen.sees.page.node family.sibling_at none seen.sees.page.visible (sym way.0))
        by_side (Some below) way =
            let sees : Sees both seen.v seen.p (Some below) s to = record {
              page = page-over t both.slots seen.v seen.p seen.sees.page;
              slot = now;
              found = (came-by seen.v seen.p (Some below) way).1;
            } in
            (below, sym (both-alike below) ∙ seen-reached both f None seen.v seen.p below s to sees (no-except seen.v))

    -- a frame is seen from some side
    is-seen : (tag : ℕ) → frame_in was ≡ Some tag → (side : Side) × IsSeenFrom t out side h q
    is-seen tag frame = by_row was has frame
      where
        by_bits : (left right : Bool) → AreSplitBits t out h q left right → (side : Side) × IsSeenFrom t out side h q
        by_bits false right bits = (Side.Left, bits.left_bit.is_false refl)
        by_bits true false bits = (Side.Right, bits.right_bit.is_false refl)
        by_bits true true bits = absurd (let none = bits.is_seen in cc)

        by_row : (row : Slot) → t.slots parent.list.0 q ≡ Some row → frame_in row ≡ Some tag → (side : Side) × IsSeenFrom t out side h q
        by_row Slot.Zero is e = absurd (cc)
        by_row (Slot.Frame tag left right) is e =
            by_bits left right (exact.bits h q parent tag left right family.parent_at (hidden t f k h s leaf parent sibling family visible) is)

    pub frame-reached : sibling.koid ≡ None → (tag : ℕ) → frame_in was ≡ Some tag → IsReachedBelow (with_row t parent.list.0 q None) s to
    frame-reached none tag frame = let from = is-seen tag frame in below-seen none from.0 from.1

    module _ (bits : IsMoved (with_row t parent.list.0 q None) s to sibling was now) where
      own-bits : sibling.koid ≡ None → (tag : Tag) (left right : Bool) → Some now ≡ Some (Slot.Frame tag left right) →
          AreSplitBits filled out s to left right
      own-bits none tag left right e =
          let is : now ≡ Slot.Frame tag left right = some_same e in
          let split = bits.split tag left right is none in
          let below = frame-reached none tag.0 (sym frames ∙ ap frame_in is) in
          record {
            left_bit = denies Side.Left left split.0;
            right_bit = denies Side.Right right split.1;
            is_seen = on_side below.0 below.1 split;
          }
        where
          on_side : (below : Side) → reached_from (with_row t parent.list.0 q None) None below s to ≡ true →
              (left ≡ not (reached_from (with_row t parent.list.0 q None) None Side.Left s to)) ×
              (right ≡ not (reached_from (with_row t parent.list.0 q None) None Side.Right s to)) → (left && right) ≡ false
          on_side Side.Left holds split = and_left left right (split.0 ∙ ap not holds)
          on_side Side.Right holds split = and_right left right (split.1 ∙ ap not holds)

      fits : IsSome sibling.koid → Fits sibling to (Some now)
      fits shown = record {
        below = λ slot e. omega (arith, f.by.seen s sibling family.sibling_at);
        plain = λ tag left right e. bits.plain tag left right (some_same e) shown;
      }

      filled-is : IsExact filled out (with_frame (without_frame in_use (frame_in was)) (frame_in now))
      filled-is =
          let none : emptied.slots sibling.list.0 to ≡ None =
          with_pair-other t.slots parent.list.0 q (Some Slot.Zero) sibling.list.0 to (λ list _. apart (sym list)) ∙ free in
          filled-exact emptied f k h s leaf parent sibling family visible q to now out (without_frame in_use (frame_in was)) (emptied-exact t f k h s leaf parent sibling family visible q was out in_use exact has)
          (with_pair-same t.slots parent.list.0 q (Some Slot.Zero)) (on-up emptied.slots none) none fits
          (λ tag e. without-itself in_use (frame_in was) tag (sym frames ∙ e)) own-bits

      pub moved-exact : IsExact (record t { slots = moved }) out in_use
      moved-exact =
          let zero : filled.slots parent.list.0 q ≡ Some Slot.Zero =
          with_pair-other emptied.slots sibling.list.0 to (Some now) parent.list.0 q (λ list _. apart list)
          ∙ with_pair-same t.slots parent.list.0 q (Some Slot.Zero) in
          let dropped = dropped-exact filled f k h s leaf parent sibling family visible q (closed-by filled f k h s leaf parent sibling family visible q to now filled-row page) out aside
          (with_frame (without_frame in_use (frame_in was)) (frame_in now)) filled-is Slot.Zero zero in
          subst (λ (slots : Slots). IsExact (record t { slots = slots }) out in_use)
          (rows-swapped emptied.slots parent.list.0 q sibling.list.0 to (Some now) apart
          ∙ ap (λ (u : Tree). with_pair u.slots sibling.list.0 to (Some now)) (with_row-twice t parent.list.0 q (Some Slot.Zero) None))
          (exact-in_use_alike (with_row filled parent.list.0 q None) out (with_frame (without_frame in_use (frame_in was)) (frame_in now)) in_use
          (with-again in_use (frame_in was) (frame_in now) frames (λ tag e. exact.used parent.list.0 q was tag has e)) dropped)
