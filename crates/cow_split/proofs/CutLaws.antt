-- What a cut leaves of the rows of a clone tree, and what it answers.
use Rattle.cow_split.proofs.Words.{◌≡◌, ◌⊎◌, ◌↔◌, ℕ, ◌<◌, Bool, true, false, if◌then◌else◌, Option, None, Some, refl, sym, ap, subst, ◌∙◌}
use Rattle.cow_split.proofs.Words.{inl, inr, arith, ◌==◌, is_some, option_map, cases_Bool, cases_lt, with_pair, passes, Tag, some_same}
use Rattle.cow_split.proofs.Words.{eqb_is, eqb_same, Slot, Node, Side, IsVisible, link_to, leads_to, other_side, Slots, Tree, Found, walk}
use Rattle.cow_split.proofs.Words.{frame_in, frame_found, frame_shown, IsForest, HasRow, Arrives, SameFrames, Cut, with_row, list_in}
use Rattle.cow_split.proofs.Words.{reached_from, IsPage, Sees, IsSeenFrom, IsLastViewer, ShowsSame, IsNotPage, Denies, AreSplitBits}
use Rattle.cow_split.proofs.Words.{IsExact, IsOnlyOf, leaving_out, without_frame, split_on, answer_on, slots_from, answer_from, slots_after}
use Rattle.cow_split.proofs.Words.{answer_after, cut_slots, cut_answer, frame_left}
use Rattle.cow_arena.proofs.WalkLaws.{walk-past}
use Rattle.cow_arena.proofs.ReachLaws.{reach-once, reach-hidden, walk-ends, walk-arrives}
use Rattle.cow_arena.proofs.AlikeLaws.{with_pair-same, with_pair-other, walk-elsewhere, frames-back, found-alike, frame-alike}
use Rattle.cow_split.proofs.SearchLaws.{reached-seen, seen-reached, IsSeenBut}
use Rattle.cow_split.proofs.ExactLaws.{cases_place, same_node, with_row-changes, frame-stays, frame-gone, exact-changed, exact-seen_alike}
use Rattle.cow_split.proofs.ExactLaws.{FollowFrame, frame_of}
use Rattle.cow_split.proofs.RowLaws.{left_out-in_sight, left_out-other, without_frame-none, exact-out_of_sight, frame-shown, frame-once}

-- page p of the visible node v sees the frame of page q of the hidden node h from this side
pub record SeesFrame (t : Tree) (v p : ℕ) (side : Side) (h q : ℕ) (node : Node) (tag : Tag) (left right : Bool) : Type 0 where
  pub page : IsPage t v p
  pub found : walk t v p ≡ Some (record { node = h; page = q; side = Some side; slot = Slot.Frame tag left right })
  pub at : t.nodes h ≡ Some node
  pub hidden : node.koid ≡ None
  pub row : t.slots node.list.0 q ≡ Some (Slot.Frame tag left right)

-- The rows after a cut of page p of v, and what is answered, in each case. Where no other node on the leaf's side sees the
-- frame, the row is split.
pub data CutBy (t : Tree) (v p : ℕ) : Slots → Cut → Type 0 where
  sees_nothing : frame_shown t v p ≡ None → CutBy t v p t.slots Cut.NothingThere
  sees_shared : (side : Side) (h q : ℕ) (node : Node) (tag : Tag) (left right : Bool) → SeesFrame t v p side h q node tag left right →
      reached_from t (link_to v) side h q ≡ true → CutBy t v p t.slots Cut.StillSeen
  sees_alone : (side : Side) (h q : ℕ) (node : Node) (tag : Tag) (left right : Bool) → SeesFrame t v p side h q node tag left right →
      reached_from t (link_to v) side h q ≡ false →
      CutBy t v p (with_pair t.slots node.list.0 q (split_on side tag left right)) (answer_on side tag left right)

-- the cut is one of these cases
module _ (t : Tree) (forest : IsForest t.nodes t.lists) (v p : ℕ) (node : Node) (visible : IsVisible t.nodes v node)
    (none : t.slots node.list.0 p ≡ None) where
  inside : (it : Found) → walk t v p ≡ Some it → p < node.seen
  inside it found = elim (cases_lt p node.seen) [
    | inl less ↦ less
    | inr past ↦ let nothing = walk-past t forest v p node visible.at none past in absurd (cc)
  ]

  sees-frame : (side : Side) (h q : ℕ) (tag : Tag) (left right : Bool) →
      walk t v p ≡ Some (record { node = h; page = q; side = Some side; slot = Slot.Frame tag left right }) →
      (at : HasRow t h q (Slot.Frame tag left right)) → SeesFrame t v p side h q at.node tag left right
  sees-frame side h q tag left right found at = record {
    page = record { node = node; visible = visible; below = omega (arith, forest.by.seen v node visible.at, inside _ found) };
    found = found;
    at = at.at;
    hidden =
        let above = reach-hidden t forest v p side h q (walk-ends t forest v p _ found).way in
        subst (λ (n : Node). n.koid ≡ None) (some_same (sym above.1 ∙ at.at)) above.2;
    row = at.row;
  }

  no-own : (h q : ℕ) (slot : Slot) → walk t v p ≡ Some (record { node = h; page = q; side = None; slot = slot }) → ⊥
  no-own h q slot found =
      let ends = walk-ends t forest v p _ found in
      let row : HasRow t v p slot = subst (λ k. HasRow t k p slot) (sym ends.way.0) (subst (λ r. HasRow t h r slot) (sym ends.way.1) ends.row) in
      let same : row.node ≡ node = some_same (sym row.at ∙ visible.at) in
      let mine : t.slots node.list.0 p ≡ Some slot = subst (λ (n : Node). t.slots n.list.0 p ≡ Some slot) same row.row in
      absurd (cc)

  pub cut-by : CutBy t v p (cut_slots t v p) (cut_answer t v p)
  unfolding cut_slots cut_answer
  cut-by = by_walk (walk t v p) refl
    where
      by_search : (side : Side) (h q : ℕ) (tag : Tag) (left right : Bool) (at : HasRow t h q (Slot.Frame tag left right)) →
          SeesFrame t v p side h q at.node tag left right → (seen : Bool) → reached_from t (link_to v) side h q ≡ seen →
          CutBy t v p
          (if seen then t.slots else with_pair t.slots (list_in (t.nodes h)) q (split_on side tag left right))
          (if seen then Cut.StillSeen else answer_on side tag left right)
      by_search side h q tag left right at sees true is = sees_shared side h q at.node tag left right sees is
      by_search side h q tag left right at sees false is =
          subst
          (λ l. CutBy t v p (with_pair t.slots l q (split_on side tag left right)) (answer_on side tag left right))
          (sym (ap list_in at.at))
          (sees_alone side h q at.node tag left right sees is)

      by_slot : (h q : ℕ) (row : Slot) (from : Option Side) →
          walk t v p ≡ Some (record { node = h; page = q; side = from; slot = row }) →
          CutBy t v p (slots_from t v h q row from) (answer_from t v h q row from)
      by_slot h q Slot.Zero from is = sees_nothing (ap frame_found is)
      by_slot h q (Slot.Frame tag left right) None is = absurd (no-own h q _ is)
      by_slot h q (Slot.Frame tag left right) (Some side) is =
          let at = (walk-ends t forest v p _ is).row in
          by_search side h q tag left right at (sees-frame side h q tag left right is at) (reached_from t (link_to v) side h q) refl

      by_walk : (found : Option Found) → walk t v p ≡ found → CutBy t v p (slots_after t v found) (answer_after t v found)
      by_walk None is = sees_nothing (ap frame_found is)
      by_walk (Some it) is = by_slot it.node it.page it.slot it.side is

-- ---- who sees a row

-- no visible node sees the row of page q of h from this side, but v by page p
abbrev IsAlone : Tree → (v p : ℕ) → Side → (h q : ℕ) → Type 0
IsAlone t v p side h q = (w r : ℕ) → Sees t w r (Some side) h q → (w ≡ v) × (r ≡ p)

one-of-sides : (side other : Side) → (other ≡ side) ⊎ (other ≡ other_side side)
one-of-sides Side.Left Side.Left = inl refl
one-of-sides Side.Left Side.Right = inr refl
one-of-sides Side.Right Side.Left = inr refl
one-of-sides Side.Right Side.Right = inl refl

apart : (side : Side) → other_side side ≡ side → ⊥
apart Side.Left e = cc
apart Side.Right e = cc

-- a link to a node leads to no other
leads-past : (v w : ℕ) → leads_to (link_to v) w ≡ false → w ≡ v → ⊥
unfolding passes
leads-past v w past same = let here = eqb_same v in let met : (v == w) ≡ (v == v) = ap (λ k. v == k) same in absurd (cc)

module _ (t : Tree) (forest : IsForest t.nodes t.lists) where
  -- v sees the row by one page, and from one side
  seen-once : (v p r : ℕ) (from other : Side) (h q : ℕ) → Sees t v p (Some from) h q → Sees t v r (Some other) h q →
      (r ≡ p) × (other ≡ from)
  seen-once v p r from other h q sees too =
      reach-once t forest v r p other from h q (walk-ends t forest v r _ too.found).way (walk-ends t forest v p _ sees.found).way

  sees-row : (w r h q : ℕ) (from : Option Side) (node : Node) (row : Slot) → Sees t w r from h q → t.nodes h ≡ Some node →
      t.slots node.list.0 q ≡ Some row → walk t w r ≡ Some (record { node = h; page = q; side = from; slot = row })
  sees-row w r h q from node row sees at is =
      walk-arrives t forest w r from h q row (walk-ends t forest w r _ sees.found).way (record { node = node; at = at; row = is })

  module _ (v p : ℕ) (side : Side) (h q : ℕ) (node : Node) (tag : Tag) (left right : Bool)
      (it : SeesFrame t v p side h q node tag left right) where
    sees-it : Sees t v p (Some side) h q
    sees-it = record { page = it.page; slot = Slot.Frame tag left right; found = it.found }

    -- it sees no other row
    only-there : (other : Side) (k r : ℕ) → Sees t v p (Some other) k r → (k ≡ h) × (r ≡ q) × (other ≡ side)
    only-there other k r sees =
        let same = some_same (sym sees.found ∙ it.found) in
        (ap (λ (f : Found). f.node) same, ap (λ (f : Found). f.page) same, some_same (ap (λ (f : Found). f.side) same))

    -- where the search finds nobody else on the side, nobody else sees the row from there
    is-alone : reached_from t (link_to v) side h q ≡ false → IsAlone t v p side h q
    unfolding passes
    is-alone none w r sees = elim (cases_Bool (leads_to (link_to v) w)) [
      | inl same ↦
          let here : v ≡ w = eqb_is v w same in
          (sym here, (seen-once v p r side side h q sees-it (subst (λ k. Sees t k r (Some side) h q) (sym here) sees)).0)
      | inr other ↦ let seen = seen-reached t forest (link_to v) w r side h q sees other in absurd (cc)
    ]

    -- where the search finds somebody, a page of another node sees the row from there
    shared-with : reached_from t (link_to v) side h q ≡ true → IsSeenBut t (link_to v) side h q
    shared-with seen = reached-seen t forest (link_to v) side h q node _ it.at it.row seen

    -- nobody sees the row from the other side, where nobody does by a page in sight, and only pages of v are out of sight
    nobody : (out : ℕ → ℕ → Bool) → IsOnlyOf out v → (IsSeenFrom t out (other_side side) h q → ⊥) → (w r : ℕ) →
        Sees t w r (Some (other_side side)) h q → ⊥
    nobody out only none w r sees = elim (cases_Bool (out w r)) [
      | inl gone ↦
          let too = subst (λ k. Sees t k r (Some (other_side side)) h q) (only w r gone) sees in
          apart side (seen-once v p r side (other_side side) h q sees-it too).1
      | inr sight ↦ none (record { v = w; p = r; sees = sees; in_sight = sight })
    ]

    -- then v alone sees the row
    alone-at : IsAlone t v p side h q → ((w r : ℕ) → Sees t w r (Some (other_side side)) h q → ⊥) → (w r : ℕ) (from : Option Side) →
        Sees t w r from h q → (w ≡ v) × (r ≡ p)
    alone-at alone none w r None sees =
        let own = (walk-ends t forest w r _ sees.found).way.0 in
        let visible = sees.page.visible in
        let same : sees.page.node ≡ node = some_same (sym visible.at ∙ (ap t.nodes own ∙ it.at)) in
        let shown = visible.koid in
        let hidden = ap is_some (ap (λ (n : Node). n.koid) same ∙ it.hidden) in
        absurd (cc)
    alone-at alone none w r (Some other) sees = elim (one-of-sides side other) [
      | inl same ↦ alone w r (subst (λ s. Sees t w r (Some s) h q) same sees)
      | inr different ↦ absurd (none w r (subst (λ s. Sees t w r (Some s) h q) different sees))
    ]

    -- v sees the frame, and whoever else sees the row shows it
    shows : (w r : ℕ) (from : Option Side) → Sees t w r from h q → frame_shown t w r ≡ Some tag.0
    shows w r from sees = ap frame_found (sees-row w r h q from node _ sees it.at it.row)

    -- where v is the last viewer, nobody sees the row from the other side, nor another node from its own
    last-alone : IsLastViewer t v tag.0 → (w r : ℕ) (from : Side) → Sees t w r (Some from) h q → (w ≡ v) × (from ≡ side)
    last-alone last w r from sees =
        let here = last w r sees.page (shows w r (Some from) sees) in
        (here, (seen-once v p r side from h q sees-it (subst (λ k. Sees t k r (Some from) h q) here sees)).1)

-- ---- the other pages

-- Each page of a visible node, but page p of v, sees the same place over both rows, and shows the same frame.
record OthersAlike (t : Tree) (slots : Slots) (v p : ℕ) : Type 0 where
  forth : (w r : ℕ) (from : Option Side) (h q : ℕ) → ((w ≡ v) × (r ≡ p) → ⊥) → Sees t w r from h q →
      Sees (record t { slots = slots }) w r from h q
  back : (w r : ℕ) (from : Option Side) (h q : ℕ) → ((w ≡ v) × (r ≡ p) → ⊥) →
      Sees (record t { slots = slots }) w r from h q → Sees t w r from h q
  frames : ShowsSame t (record t { slots = slots }) (IsNotPage v p)

-- a page is one whatever the rows are
pub page-over : (t : Tree) (slots : Slots) (w r : ℕ) → IsPage t w r → IsPage (record t { slots = slots }) w r
page-over t slots w r page = record { node = page.node; visible = page.visible; below = page.below }

-- rows that show the same frames
same-frames : (t : Tree) (slots : Slots) (v p : ℕ) → IsForest t.nodes t.lists → SameFrames t.slots slots → OthersAlike t slots v p
same-frames t slots v p forest alike = record {
  forth = λ w r from h q other sees.
      let found = found-alike t slots alike forest w r _ sees.found in
      record { page = page-over t slots w r sees.page; slot = found.0; found = found.1 };
  back = λ w r from h q other sees.
      let found = found-alike (record t { slots = slots }) t.slots (frames-back alike) forest w r _ sees.found in
      record { page = page-over (record t { slots = slots }) t.slots w r sees.page; slot = found.0; found = found.1 };
  frames = λ w r page other. frame-alike t slots alike forest w r;
}

-- walks that stay
same-walks : (t : Tree) (slots : Slots) (v p : ℕ) → ((w r : ℕ) → IsPage t w r → ((w ≡ v) × (r ≡ p) → ⊥) →
    walk (record t { slots = slots }) w r ≡ walk t w r) → OthersAlike t slots v p
same-walks t slots v p same = record {
  forth = λ w r from h q other sees. record {
    page = page-over t slots w r sees.page;
    slot = sees.slot;
    found = same w r sees.page other ∙ sees.found;
  };
  back = λ w r from h q other sees.
      let page = page-over (record t { slots = slots }) t.slots w r sees.page in
      record { page = page; slot = sees.slot; found = sym (same w r page other) ∙ sees.found };
  frames = λ w r page other. ap frame_found (same w r page other);
}

module _ (t : Tree) (slots : Slots) (out : ℕ → ℕ → Bool) (v p : ℕ) (others : OthersAlike t slots v p) where
  -- who saw a row sees it, where v does not see it by page p
  seen-now : (side : Side) (h q : ℕ) → (Sees t v p (Some side) h q → ⊥) → IsSeenFrom t out side h q →
      IsSeenFrom (record t { slots = slots }) (leaving_out out v p) side h q
  seen-now side h q none seen = record {
    v = seen.v;
    p = seen.p;
    sees = others.forth seen.v seen.p (Some side) h q differs seen.sees;
    in_sight = left_out-other out v p seen.v seen.p differs ∙ seen.in_sight;
  }
    where
      differs : (seen.v ≡ v) × (seen.p ≡ p) → ⊥
      differs here = none (subst (λ w. Sees t w p (Some side) h q) here.0 (subst (λ r. Sees t seen.v r (Some side) h q) here.1 seen.sees))

  seen-before : (side : Side) (h q : ℕ) → IsSeenFrom (record t { slots = slots }) (leaving_out out v p) side h q →
      IsSeenFrom t out side h q
  seen-before side h q seen =
      let sight = left_out-in_sight out v p seen.v seen.p seen.in_sight in
      record { v = seen.v; p = seen.p; sees = others.back seen.v seen.p (Some side) h q sight.0 seen.sees; in_sight = sight.1 }

  -- a row that v alone saw is seen no more
  seen-no-more : (side : Side) (h q : ℕ) → IsAlone t v p side h q →
      IsSeenFrom (record t { slots = slots }) (leaving_out out v p) side h q → ⊥
  seen-no-more side h q alone seen =
      let sight = left_out-in_sight out v p seen.v seen.p seen.in_sight in
      sight.0 (alone seen.v seen.p (others.back seen.v seen.p (Some side) h q sight.0 seen.sees))

-- ---- the cases

denies-true : (P : Type 0) → (P → ⊥) → Denies true P
denies-true P none = record { is_true = λ _. none; is_false = λ e. absurd (cc) }

denies-false : (P : Type 0) → P → Denies false P
denies-false P seen = record { is_true = λ e. absurd (cc); is_false = λ _. seen }

module _ (t : Tree) (out : ℕ → ℕ → Bool) (in_use : ℕ → Bool) (exact : IsExact t out in_use) (v p : ℕ) (only : IsOnlyOf out v) where
  module _ (side : Side) (h q : ℕ) (node : Node) (tag : Tag) (left right : Bool) (it : SeesFrame t v p side h q node tag left right) where
    -- somebody else sees the frame from the side: the rows stay
    exact-shared : reached_from t (link_to v) side h q ≡ true → IsExact t (leaving_out out v p) in_use
    exact-shared is = exact-seen_alike t out (leaving_out out v p) in_use exact
        (λ k r n tag left right at hidden row other. (forth other k r, seen-before t t.slots out v p others other k r))
      where
        others : OthersAlike t t.slots v p
        others = same-walks t t.slots v p (λ w r page other. refl)

        witness : IsSeenFrom t (leaving_out out v p) side h q
        witness =
            let seen = shared-with t exact.forest v p side h q node tag left right it is in
            let differs = leads-past v seen.v seen.counts in
            let sight : out seen.v seen.p ≡ false = elim (cases_Bool (out seen.v seen.p)) [
              | inl gone ↦ absurd (differs (only seen.v seen.p gone))
              | inr sight ↦ sight
            ] in
            record {
              v = seen.v;
              p = seen.p;
              sees = seen.sees;
              in_sight = left_out-other out v p seen.v seen.p (λ here. differs here.0) ∙ sight;
            }

        forth : (other : Side) (k r : ℕ) → IsSeenFrom t out other k r → IsSeenFrom t (leaving_out out v p) other k r
        forth other k r seen = elim (cases_place v p seen.v seen.p) [
          | inl here ↦
              let sees = subst (λ w. Sees t w p (Some other) k r) here.0 (subst (λ x. Sees t seen.v x (Some other) k r) here.1 seen.sees) in
              let there = only-there t exact.forest v p side h q node tag left right it other k r sees in
              rw (there.2, there.0, there.1) witness
          | inr differs ↦ record {
            v = seen.v;
            p = seen.p;
            sees = seen.sees;
            in_sight = left_out-other out v p seen.v seen.p differs ∙ seen.in_sight;
          }
        ]

    -- the row changes, and all others are seen as before
    exact-row : (after : Option Slot) (in_use_now : ℕ → Bool) → OthersAlike t (with_pair t.slots node.list.0 q after) v p →
        FollowFrame (Some tag.0) (frame_of after) in_use in_use_now →
        ((tag : Tag) (left right : Bool) → after ≡ Some (Slot.Frame tag left right) →
        AreSplitBits (with_row t node.list.0 q after) (leaving_out out v p) h q left right) →
        IsExact (with_row t node.list.0 q after) (leaving_out out v p) in_use_now
    exact-row after in_use_now others follow own =
        exact-changed t (with_row t node.list.0 q after) out (leaving_out out v p) in_use in_use_now h q node
        (Some (Slot.Frame tag left right)) after exact it.at (with_row-changes t node.list.0 q _ after it.row) follow
        (λ shown. let hidden = ap is_some it.hidden in absurd (cc))
        (record {
          alike = λ k r n tag' left' right' at hidden row differs other. (
            seen-now t (with_pair t.slots node.list.0 q after) out v p others other k r (λ sees.
                let there = only-there t exact.forest v p side h q node tag left right it other k r sees in
                let same : n ≡ node = some_same (sym at ∙ (ap t.nodes there.0 ∙ it.at)) in
                differs (ap (λ (n : Node). n.list.0) same, there.1)),
            seen-before t (with_pair t.slots node.list.0 q after) out v p others other k r,
          );
        })
        (λ hidden. own)

    others-kept : (set_left set_right : Bool) →
        OthersAlike t (with_pair t.slots node.list.0 q (Some (Slot.Frame tag set_left set_right))) v p
    others-kept set_left set_right = same-frames t _ v p exact.forest (record { same = same })
      where
        same : (l r : ℕ) → option_map frame_in (with_pair t.slots node.list.0 q (Some (Slot.Frame tag set_left set_right)) l r)
            ≡ option_map frame_in (t.slots l r)
        same l r = elim (cases_place node.list.0 q l r) [
          | inl here ↦ rw (here.0, here.1, with_pair-same t.slots node.list.0 q (Some (Slot.Frame tag set_left set_right)), it.row) refl
          | inr differs ↦ ap (option_map frame_in) (with_pair-other t.slots node.list.0 q _ l r (λ list page. differs (list, page)))
        ]

    -- the row gets other bits, which are exact
    exact-kept : (set_left set_right : Bool) →
        AreSplitBits (with_row t node.list.0 q (Some (Slot.Frame tag set_left set_right))) (leaving_out out v p) h q set_left set_right →
        IsExact (with_row t node.list.0 q (Some (Slot.Frame tag set_left set_right))) (leaving_out out v p) in_use
    exact-kept set_left set_right own =
        exact-row (Some (Slot.Frame tag set_left set_right)) in_use (others-kept set_left set_right)
        (frame-stays (Some tag.0) in_use (λ tag' e. exact.used node.list.0 q _ tag' it.row e))
        (λ tag' l r e.
        let left_is : set_left ≡ l = cc in
        let right_is : set_right ≡ r = cc in
        rw (← left_is, ← right_is) own)

    -- v alone sees the frame
    module _ (alone : IsAlone t v p side h q) (none : (w r : ℕ) → Sees t w r (Some (other_side side)) h q → ⊥) where
      others-gone : OthersAlike t (with_pair t.slots node.list.0 q None) v p
      others-gone = same-walks t _ v p (λ w r page differs.
          walk-elsewhere t exact.forest node.list.0 q None w r (λ from k n at list way.
          let there = same_node t h k node n exact.forest it.at at list in
          let row : HasRow t h q (Slot.Frame tag left right) = record { node = node; at = it.at; row = it.row } in
          let found = walk-arrives t exact.forest w r from h q _ (subst (λ x. Arrives t w r from x q) there.0 way) row in
          differs (alone-at t exact.forest v p side h q node tag left right it alone none w r from (record { page = page; slot = Slot.Frame tag left right; found = found }))))

      exact-gone : IsExact (with_row t node.list.0 q None) (leaving_out out v p) (without_frame in_use (Some tag.0))
      exact-gone = exact-row None (without_frame in_use (Some tag.0)) others-gone (frame-gone (Some tag.0) in_use) (λ tag l r e. absurd (cc))

      -- and is the last to show it
      is-last : IsLastViewer t v tag.0
      is-last w r page shown =
          let that = frame-shown t w r tag.0 shown in
          let one = frame-once t out in_use exact w r v p tag.0 that.it _ that.found it.found that.frame refl in
          let sees : Sees t w r that.it.side that.it.node that.it.page = record { page = page; slot = that.it.slot; found = that.found } in
          let here = subst (λ k. Sees t w r that.it.side k q) one.0 (subst (λ x. Sees t w r that.it.side that.it.node x) one.1 sees) in
          (alone-at t exact.forest v p side h q node tag left right it alone none w r that.it.side here).0

  -- What a cut keeps: the other pages see the same places, the tree is exact, and the last viewer is told.
  record Keeps (slots : Slots) (answer : Cut) : Type 0 where
    others : OthersAlike t slots v p
    exactly : IsExact (record t { slots = slots }) (leaving_out out v p) (without_frame in_use (frame_left answer))
    last : (tag : Tag) → answer ≡ Cut.LastViewer tag → (frame_shown t v p ≡ Some tag.0) × IsLastViewer t v tag.0
    is_last : (tag : Tag) → frame_shown t v p ≡ Some tag.0 → IsLastViewer t v tag.0 → answer ≡ Cut.LastViewer tag

  module _ (side : Side) (h q : ℕ) (node : Node) (tag : Tag) (left right : Bool) (it : SeesFrame t v p side h q node tag left right) where
    same-tag : (other : Tag) → frame_shown t v p ≡ Some other.0 → tag ≡ other
    same-tag other shown =
        let e : tag.0 ≡ other.0 = some_same (sym (ap frame_found it.found) ∙ shown) in λ i. record { 0 = e i }

    last-tag : (other : Tag) → frame_shown t v p ≡ Some other.0 → IsLastViewer t v other.0 → IsLastViewer t v tag.0
    last-tag other shown last = subst (λ (x : Tag). IsLastViewer t v x.0) (sym (same-tag other shown)) last

    keeps-shared : reached_from t (link_to v) side h q ≡ true → Keeps t.slots Cut.StillSeen
    keeps-shared is = record {
      others = same-walks t t.slots v p (λ w r page other. refl);
      exactly = subst (IsExact t (leaving_out out v p)) (sym (without_frame-none in_use)) (exact-shared side h q node tag left right it is);
      last = λ other e. absurd (cc);
      is_last = λ other shown last.
          let seen = shared-with t exact.forest v p side h q node tag left right it is in
          absurd
          (leads-past v seen.v seen.counts
          (last-alone t exact.forest v p side h q node tag left right it (last-tag other shown last) seen.v seen.p side seen.sees).0);
    }

    keeps-gone : IsAlone t v p side h q → (IsSeenFrom t out (other_side side) h q → ⊥) →
        Keeps (with_pair t.slots node.list.0 q None) (Cut.LastViewer tag)
    keeps-gone alone unseen =
        let none = nobody t exact.forest v p side h q node tag left right it out only unseen in
        record {
          others = others-gone side h q node tag left right it alone none;
          exactly = exact-gone side h q node tag left right it alone none;
          last = λ other e.
              let same : tag ≡ other = cc in
              subst (λ (x : Tag). (frame_shown t v p ≡ Some x.0) × IsLastViewer t v x.0) same
              (ap frame_found it.found, is-last side h q node tag left right it alone none);
          is_last = λ other shown last. ap Cut.LastViewer (same-tag other shown);
        }

    keeps-kept : (set_left set_right : Bool) →
        AreSplitBits (with_row t node.list.0 q (Some (Slot.Frame tag set_left set_right))) (leaving_out out v p) h q set_left set_right →
        IsSeenFrom t out (other_side side) h q →
        Keeps (with_pair t.slots node.list.0 q (Some (Slot.Frame tag set_left set_right))) Cut.StillSeen
    keeps-kept set_left set_right bits seen = record {
      others = others-kept side h q node tag left right it set_left set_right;
      exactly = subst (IsExact (with_row t node.list.0 q (Some (Slot.Frame tag set_left set_right))) (leaving_out out v p)) (sym (without_frame-none in_use))
          (exact-kept side h q node tag left right it set_left set_right bits);
      last = λ other e. absurd (cc);
      is_last = λ other shown last.
          absurd
          (apart side
          (last-alone t exact.forest v p side h q node tag left right it (last-tag other shown last) seen.v seen.p (other_side side) seen.sees).1);
    }

    -- the bit of the side is set, and the other stays false
    bits-set : (set_left set_right : Bool) → IsAlone t v p side h q →
        Denies true (IsSeenFrom (with_row t node.list.0 q (Some (Slot.Frame tag set_left set_right))) (leaving_out out v p) side h q)
    bits-set set_left set_right alone =
        denies-true _ (seen-no-more t _ out v p (others-kept side h q node tag left right it set_left set_right) side h q alone)

    bits-stay : (set_left set_right : Bool) → IsSeenFrom t out (other_side side) h q →
        Denies false (IsSeenFrom (with_row t node.list.0 q (Some (Slot.Frame tag set_left set_right))) (leaving_out out v p) (other_side side) h q)
    bits-stay set_left set_right seen =
        denies-false _
        (seen-now t _ out v p (others-kept side h q node tag left right it set_left set_right) (other_side side) h q
        (λ sees. apart side (only-there t exact.forest v p side h q node tag left right it (other_side side) h q sees).2) seen)

  keeps-alone : (side : Side) (h q : ℕ) (node : Node) (tag : Tag) (left right : Bool) → SeesFrame t v p side h q node tag left right →
      IsAlone t v p side h q → AreSplitBits t out h q left right →
      Keeps (with_pair t.slots node.list.0 q (split_on side tag left right)) (answer_on side tag left right)
  keeps-alone Side.Left h q node tag left true it alone bits = keeps-gone Side.Left h q node tag left true it alone (bits.right_bit.is_true refl)
  keeps-alone Side.Left h q node tag left false it alone bits =
      let seen = bits.right_bit.is_false refl in
      keeps-kept Side.Left h q node tag left false it true false
      (record {
        left_bit = bits-set Side.Left h q node tag left false it true false alone;
        right_bit = bits-stay Side.Left h q node tag left false it true false seen;
        is_seen = refl;
      })
      seen
  keeps-alone Side.Right h q node tag true right it alone bits = keeps-gone Side.Right h q node tag true right it alone (bits.left_bit.is_true refl)
  keeps-alone Side.Right h q node tag false right it alone bits =
      let seen = bits.left_bit.is_false refl in
      keeps-kept Side.Right h q node tag false right it false true
      (record {
        left_bit = bits-stay Side.Right h q node tag false right it false true seen;
        right_bit = bits-set Side.Right h q node tag false right it false true alone;
        is_seen = refl;
      })
      seen

  keeps : (slots : Slots) (answer : Cut) → CutBy t v p slots answer → Keeps slots answer
  keeps slots answer (sees_nothing none) = record {
    others = same-walks t t.slots v p (λ w r page other. refl);
    exactly = subst (IsExact t (leaving_out out v p)) (sym (without_frame-none in_use)) (exact-out_of_sight t out in_use v p (λ page. none) exact);
    last = λ tag e. absurd (cc);
    is_last = λ tag shown last. absurd (cc);
  }
  keeps slots answer (sees_shared side h q node tag left right it is) = keeps-shared side h q node tag left right it is
  keeps slots answer (sees_alone side h q node tag left right it is) =
      keeps-alone side h q node tag left right it (is-alone t exact.forest v p side h q node tag left right it is)
      (exact.bits h q node tag left right it.at it.hidden it.row)

-- ---- the laws of a cut

-- no row of a visible node is that of a hidden one
row-apart : (t : Tree) → IsForest t.nodes t.lists → (w h : ℕ) (own node : Node) → IsVisible t.nodes w own → t.nodes h ≡ Some node →
    node.koid ≡ None → own.list.0 ≡ node.list.0 → ⊥
row-apart t forest w h own node visible at hidden list =
    let same = (same_node t h w node own forest at visible.at list).1 in
    let shown = visible.koid in
    let none = ap is_some (ap (λ (n : Node). n.koid) same ∙ hidden) in
    absurd (cc)

own-by : (t : Tree) → IsForest t.nodes t.lists → (v p : ℕ) (slots : Slots) (answer : Cut) → CutBy t v p slots answer →
    (w r : ℕ) (own : Node) → IsVisible t.nodes w own → slots own.list.0 r ≡ t.slots own.list.0 r
own-by t forest v p slots answer (sees_nothing none) w r own visible = refl
own-by t forest v p slots answer (sees_shared side h q node tag left right it is) w r own visible = refl
own-by t forest v p slots answer (sees_alone side h q node tag left right it is) w r own visible =
    with_pair-other t.slots node.list.0 q _ own.list.0 r (λ list page. row-apart t forest w h own node visible it.at it.hidden list)

something : (side : Side) (tag : Tag) (left right : Bool) → answer_on side tag left right ≡ Cut.NothingThere → ⊥
something Side.Left tag left true e = cc
something Side.Left tag left false e = cc
something Side.Right tag true right e = cc
something Side.Right tag false right e = cc

nothing-by : (t : Tree) (v p : ℕ) (slots : Slots) (answer : Cut) → CutBy t v p slots answer →
    (answer ≡ Cut.NothingThere) ↔ (frame_shown t v p ≡ None)
nothing-by t v p slots answer (sees_nothing none) = (λ e. none, λ e. refl)
nothing-by t v p slots answer (sees_shared side h q node tag left right it is) =
    (λ e. absurd (cc), λ e. let shown = ap frame_found it.found in absurd (cc))
nothing-by t v p slots answer (sees_alone side h q node tag left right it is) =
    (λ e. absurd (something side tag left right e), λ e. let shown = ap frame_found it.found in absurd (cc))

-- What a cut of page p of the visible node v does, which has no row of its own there.
module _ (t : Tree) (forest : IsForest t.nodes t.lists) (v p : ℕ) (node : Node) (visible : IsVisible t.nodes v node)
    (none : t.slots node.list.0 p ≡ None) where
  -- it answers that nothing was there exactly where the page showed no frame
  pub cut-nothing : (cut_answer t v p ≡ Cut.NothingThere) ↔ (frame_shown t v p ≡ None)
  cut-nothing = nothing-by t v p _ _ (cut-by t forest v p node visible none)

  -- the rows of visible nodes stay, and rows stand in lists of nodes alone
  pub cut-own : (w r : ℕ) (own : Node) → IsVisible t.nodes w own → cut_slots t v p own.list.0 r ≡ t.slots own.list.0 r
  cut-own = own-by t forest v p _ _ (cut-by t forest v p node visible none)

-- What it does in an exact tree, where pages of v alone are out of sight.
module _ (t : Tree) (out : ℕ → ℕ → Bool) (in_use : ℕ → Bool) (exact : IsExact t out in_use) (v p : ℕ) (only : IsOnlyOf out v)
    (node : Node) (visible : IsVisible t.nodes v node) (none : t.slots node.list.0 p ≡ None) where
  cut-keeps : Keeps t out in_use exact v p only (cut_slots t v p) (cut_answer t v p)
  cut-keeps = keeps t out in_use exact v p only _ _ (cut-by t exact.forest v p node visible none)

  -- the tree is exact, with the page out of sight, over the frames but one that is answered
  pub exact-cut : IsExact (record t { slots = cut_slots t v p }) (leaving_out out v p) (without_frame in_use (frame_left (cut_answer t v p)))
  exact-cut = cut-keeps.exactly

  -- it answers that v was the last viewer exactly where v was, and with the frame that it saw
  pub cut-last : (tag : Tag) → (cut_answer t v p ≡ Cut.LastViewer tag) ↔ ((frame_shown t v p ≡ Some tag.0) × IsLastViewer t v tag.0)
  cut-last tag = (cut-keeps.last tag, λ both. cut-keeps.is_last tag both.0 both.1)

  -- each other page of a visible node shows what it showed
  pub cut-others : ShowsSame t (record t { slots = cut_slots t v p }) (IsNotPage v p)
  cut-others = cut-keeps.others.frames

  pub cut-shows : (w r : ℕ) → IsPage t w r → leaving_out out v p w r ≡ false →
      frame_shown (record t { slots = cut_slots t v p }) w r ≡ frame_shown t w r
  cut-shows w r page sight = cut-others w r page (left_out-in_sight out v p w r sight).0
