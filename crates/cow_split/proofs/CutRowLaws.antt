-- What a cut at a row leaves and answers, where the page comes to the row, and where no page in sight does.
use Rattle.cow_split.proofs.Words.{◌≡◌, ℕ, ◌≤◌, Bool, true, false, if◌then◌else◌, None, Some, inl, inr, refl, sym, ap, ◌∙◌, subst}
use Rattle.cow_split.proofs.Words.{cases_Bool, Rows, with_pair, passes, Tag, some_same, eqb_is, Row, Slot, slots_of, row_count, Node, Side}
use Rattle.cow_split.proofs.Words.{Arena, nodes_of, link_to, leads_to, Slots, Tree, walk, IsForest, HasRow, Reaches, Cut, tree_of, list_in}
use Rattle.cow_split.proofs.Words.{reached_from, IsSeenFrom, AreSplitBits, IsExact, split_on, answer_on, slots_from, answer_from}
use Rattle.cow_split.proofs.Words.{slots_after, answer_after, cut_slots, cut_answer, frame_left, HasCut, IsUnseenBy}
use Rattle.cow_arena.proofs.ReachLaws.{found-of-reach, walk-ends}
use Rattle.cow_arena.proofs.AlikeLaws.{with_pair-same, with_pair-other}
use Rattle.cow_split.proofs.SearchLaws.{seen-reached}
use Rattle.cow_split.proofs.ExactLaws.{cases_place}

-- ---- by what the search answers

module _ (t : Tree) (k h q : ℕ) (side : Side) (tag : Tag) (left right : Bool) where
  abbrev rows-for : Bool → Slots
  rows-for seen = if seen then t.slots else with_pair t.slots (list_in (t.nodes h)) q (split_on side tag left right)

  abbrev answer-for : Bool → Cut
  answer-for seen = if seen then Cut.StillSeen else answer_on side tag left right

  slots-for : (seen : Bool) → reached_from t (link_to k) side h q ≡ seen → rows-for seen ≡ slots_from t k h q (Slot.Frame tag left right) (Some side)
  slots-for seen is = ap rows-for (sym is)

  answered-for : (seen : Bool) → reached_from t (link_to k) side h q ≡ seen → answer-for seen ≡ answer_from t k h q (Slot.Frame tag left right) (Some side)
  answered-for seen is = ap answer-for (sym is)

-- ---- the page comes to the row

module _ (arena : Arena) (old new : Rows Row) (k p h q : ℕ) (side : Side) (f : IsForest (nodes_of arena) arena.lists)
    (way : Reaches (tree_of arena old) k p side h q) (spare : old.spare ≤ new.spare) (count : row_count new ≤ row_count old) where
  abbrev t : Tree
  t = tree_of arena old

  cut-at : (row : Slot) (answer : Cut) → HasRow t h q row → slots_of new ≡ slots_from t k h q row (Some side) →
      answer ≡ answer_from t k h q row (Some side) → HasCut arena old new k p answer
  unfolding cut_slots cut_answer
  cut-at row answer at rows answered =
      let found : walk t k p ≡ Some (record { node = h; page = q; side = Some side; slot = row }) =
      found-of-reach t f k p side h q at.node row way at.at at.row in
      record {
        slots = rows ∙ ap (slots_after t k) (sym found);
        answers = answered ∙ ap (answer_after t k) (sym found);
        spare = spare;
        count = count;
      }

  -- a row that says that the page is zero stays
  pub cut-zero : (row : Slot) → ((tag : Tag) (left right : Bool) → row ≡ Slot.Frame tag left right → ⊥) → HasRow t h q row →
      slots_of new ≡ slots_of old → HasCut arena old new k p Cut.NothingThere
  cut-zero Slot.Zero other at same = cut-at Slot.Zero Cut.NothingThere at same refl
  cut-zero (Slot.Frame tag left right) other at same = absurd (other tag left right refl)

  module _ (tag : Tag) (left right : Bool) (at : HasRow t h q (Slot.Frame tag left right)) where
    -- so does one that others see
    pub cut-shared_row : reached_from t (link_to k) side h q ≡ true → slots_of new ≡ slots_of old → HasCut arena old new k p Cut.StillSeen
    cut-shared_row is same =
        cut-at (Slot.Frame tag left right) Cut.StillSeen at (same ∙ slots-for t k h q side tag left right true is)
        (answered-for t k h q side tag left right true is)

    -- any other is split
    pub cut-own_row : (node : Node) → t.nodes h ≡ Some node → reached_from t (link_to k) side h q ≡ false →
        slots_of new ≡ with_pair (slots_of old) node.list.0 q (split_on side tag left right) → HasCut arena old new k p (answer_on side tag left right)
    cut-own_row node there is split =
        let list : node.list.0 ≡ list_in (t.nodes h) = ap list_in (sym there) in
        cut-at (Slot.Frame tag left right) (answer_on side tag left right) at
        (split ∙ (ap (λ l. with_pair (slots_of old) l q (split_on side tag left right)) list ∙ slots-for t k h q side tag left right false is))
        (answered-for t k h q side tag left right false is)

-- ---- no page in sight comes to it

-- a row in the place of an equal one
with_pair-again : (slots : Slots) (l q : ℕ) → with_pair slots l q (slots l q) ≡ slots
with_pair-again slots l q = λ i m r. each m r i
  where
    each : (m r : ℕ) → with_pair slots l q (slots l q) m r ≡ slots m r
    each m r = elim (cases_place l q m r) [
      | inl same ↦
          ap (λ k. with_pair slots l q (slots l q) k r) same.0
          ∙ (ap (with_pair slots l q (slots l q) l) same.1 ∙ (with_pair-same slots l q (slots l q) ∙ (λ i. slots (sym same.0 i) (sym same.1 i))))
      | inr apart ↦ with_pair-other slots l q (slots l q) m r (λ a b. apart (a, b))
    ]

-- the bit of a side from which nobody sees the row is set: to set it again changes nothing
split-again : (t : Tree) (out : ℕ → ℕ → Bool) (h q : ℕ) (tag : Tag) (from : Side) (left right : Bool) → AreSplitBits t out h q left right →
    (IsSeenFrom t out from h q → ⊥) → (split_on from tag left right ≡ Some (Slot.Frame tag left right)) × (frame_left (answer_on from tag left right) ≡ None)
split-again t out h q tag Side.Left false right bits none = absurd (none (bits.left_bit.is_false refl))
split-again t out h q tag Side.Left true true bits none = absurd (let some = bits.is_seen in cc)
split-again t out h q tag Side.Left true false bits none = (refl, refl)
split-again t out h q tag Side.Right left false bits none = absurd (none (bits.right_bit.is_false refl))
split-again t out h q tag Side.Right true true bits none = absurd (let some = bits.is_seen in cc)
split-again t out h q tag Side.Right false true bits none = (refl, refl)

module _ (t : Tree) (out : ℕ → ℕ → Bool) (in_use : ℕ → Bool) (exact : IsExact t out in_use) (k h q : ℕ) (from : Side)
    (unseen : IsUnseenBy t out k from h q) (nobody : reached_from t (link_to k) from h q ≡ false) where
  -- where the search finds no other node, nobody sees the row from there
  no-one : IsSeenFrom t out from h q → ⊥
  unfolding passes
  no-one seen = elim (cases_Bool (leads_to (link_to k) seen.v)) [
    | inl same ↦
        let here : k ≡ seen.v = eqb_is k seen.v same in
        let way = (walk-ends t exact.forest seen.v seen.p _ seen.sees.found).way in
        unseen.none seen.p (ap (λ w. out w seen.p) here ∙ seen.in_sight) (subst (λ w. Reaches t w seen.p from h q) (sym here) way)
    | inr other ↦ absurd (let found = seen-reached t exact.forest (link_to k) seen.v seen.p from h q seen.sees other in cc)
  ]

  pub cut-unseen : (tag : Tag) (left right : Bool) → HasRow t h q (Slot.Frame tag left right) → (node : Node) → t.nodes h ≡ Some node →
      (with_pair t.slots node.list.0 q (split_on from tag left right) ≡ t.slots) × (frame_left (answer_on from tag left right) ≡ None)
  cut-unseen tag left right at node there =
      let row : t.slots node.list.0 q ≡ Some (Slot.Frame tag left right) =
      subst (λ (n : Node). t.slots n.list.0 q ≡ Some (Slot.Frame tag left right)) (some_same (sym at.at ∙ there)) at.row in
      let hidden = ap (λ (n : Node). n.koid) (some_same (sym there ∙ unseen.at)) ∙ unseen.hidden in
      let again = split-again t out h q tag from left right (exact.bits h q node tag left right there hidden row) no-one in
      (ap (with_pair t.slots node.list.0 q) (again.0 ∙ sym row) ∙ with_pair-again t.slots node.list.0 q, again.1)
