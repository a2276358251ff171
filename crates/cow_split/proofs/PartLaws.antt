-- Rows may be gone or split, and those that are left have the frames that they had.
use Rattle.cow_split.proofs.Words.{◌≡◌, ℕ, Bool, true, false, Option, None, Some, inl, inr, refl, sym, ap, subst, ◌∙◌, Tag, some_same, Rows}
use Rattle.cow_split.proofs.Words.{with_pair, Row, Slot, slots_of, Node, Side, Arena, nodes_of, IsVisible, Slots, Tree, frame_in, IsForest}
use Rattle.cow_split.proofs.Words.{HadRow, IsPartOf, KeepsBare, Cut, tree_of, split_on, cut_slots, cut_answer, HasCut}
use Rattle.cow_arena.proofs.AlikeLaws.{with_pair-same, with_pair-other}
use Rattle.cow_split.proofs.ExactLaws.{cases_place}
use Rattle.cow_split.proofs.CutLaws.{CutBy, sees_nothing, sees_shared, sees_alone, cut-by}

pub part-same : (slots : Slots) → IsPartOf slots slots
part-same slots = record { had = λ l q row at. record { row = row; at = at; frame = refl } }

-- the row of one place goes, or keeps its frame
pub part-with_pair : (slots : Slots) (l q : ℕ) (now : Option Slot) → ((row : Slot) → now ≡ Some row → HadRow slots l q row) →
    IsPartOf slots (with_pair slots l q now)
part-with_pair slots l q now here = record {
  had = λ m r row at. elim (cases_place l q m r) [
    | inl same ↦
        let there : with_pair slots l q now m r ≡ now =
        ap (λ k. with_pair slots l q now k r) same.0 ∙ (ap (with_pair slots l q now l) same.1 ∙ with_pair-same slots l q now) in
        subst (λ k. HadRow slots k r row) (sym same.0) (subst (λ k. HadRow slots l k row) (sym same.1) (here row (sym there ∙ at)))
    | inr apart ↦ record { row = row; at = sym (with_pair-other slots l q now m r (λ a b. apart (a, b))) ∙ at; frame = refl }
  ];
}

pub part-then : (old mid new : Slots) → IsPartOf old mid → IsPartOf mid new → IsPartOf old new
part-then old mid new first second = record {
  had = λ l q row at.
      let late = second.had l q row at in
      let early = first.had l q late.row late.at in
      record { row = early.row; at = early.at; frame = late.frame ∙ early.frame };
}

-- a page without a row gets none
pub part-none : (old new : Slots) → IsPartOf old new → (l q : ℕ) → old l q ≡ None → new l q ≡ None
part-none old new part l q none = go (new l q) refl
  where
    go : (now : Option Slot) → new l q ≡ now → now ≡ None
    go None is = refl
    go (Some row) is = let had = part.had l q row is in let at = had.at in absurd (cc)

-- the row that is split by a cut has its frame
split-had : (slots : Slots) (l q : ℕ) (from : Side) (tag : Tag) (left right : Bool) → slots l q ≡ Some (Slot.Frame tag left right) →
    (row : Slot) → split_on from tag left right ≡ Some row → HadRow slots l q row
split-had slots l q from tag left right at row is =
    record { row = Slot.Frame tag left right; at = at; frame = frame from left right is }
  where
    frame : (from : Side) (left right : Bool) → split_on from tag left right ≡ Some row → frame_in row ≡ Some tag.0
    frame Side.Left left true e = absurd (cc)
    frame Side.Left left false e = ap frame_in (some_same (sym e))
    frame Side.Right true right e = absurd (cc)
    frame Side.Right false right e = ap frame_in (some_same (sym e))

part-by : (t : Tree) (v p : ℕ) (slots : Slots) (answer : Cut) → CutBy t v p slots answer → IsPartOf t.slots slots
part-by t v p slots answer (sees_nothing none) = part-same t.slots
part-by t v p slots answer (sees_shared side h q node tag left right sees seen) = part-same t.slots
part-by t v p slots answer (sees_alone side h q node tag left right sees seen) =
    part-with_pair t.slots node.list.0 q (split_on side tag left right) (split-had t.slots node.list.0 q side tag left right sees.row)

-- a cut leaves such rows
pub part-cut : (arena : Arena) (old new : Rows Row) (v p : ℕ) (answer : Cut) → IsForest (nodes_of arena) arena.lists → (node : Node) →
    IsVisible (nodes_of arena) v node → slots_of old node.list.0 p ≡ None → HasCut arena old new v p answer →
    IsPartOf (slots_of old) (slots_of new)
part-cut arena old new v p answer forest node visible none has =
    let t = tree_of arena old in
    subst (λ s. IsPartOf (slots_of old) s) (sym has.slots)
    (part-by t v p (cut_slots t v p) (cut_answer t v p) (cut-by t forest v p node visible none))

-- where a place gets a row, the row of any frame but this row's stood where it stands
pub stood-with_pair : (slots : Slots) (l q : ℕ) (put : Slot) (m r : ℕ) (row : Slot) (tag : ℕ) → with_pair slots l q (Some put) m r ≡ Some row →
    frame_in row ≡ Some tag → (frame_in put ≡ Some tag → ⊥) → slots m r ≡ Some row
stood-with_pair slots l q put m r row tag at frame other = elim (cases_place l q m r) [
  | inl same ↦
      let there : with_pair slots l q (Some put) m r ≡ Some put =
      ap (λ k. with_pair slots l q (Some put) k r) same.0 ∙ (ap (with_pair slots l q (Some put) l) same.1 ∙ with_pair-same slots l q (Some put)) in
      absurd (other (ap frame_in (some_same (sym there ∙ at)) ∙ frame))
  | inr apart ↦ sym (with_pair-other slots l q (Some put) m r (λ a b. apart (a, b))) ∙ at
]

-- ---- no list but one gets a row at a page that had none

pub bare-same : (slots : Slots) (list : ℕ) → KeepsBare slots slots list
bare-same slots list = record { bare = λ l q apart none. none }

pub bare-part : (old new : Slots) (list : ℕ) → IsPartOf old new → KeepsBare old new list
bare-part old new list part = record { bare = λ l q apart none. part-none old new part l q none }

pub bare-put : (slots : Slots) (list p : ℕ) (now : Option Slot) → KeepsBare slots (with_pair slots list p now) list
bare-put slots list p now = record { bare = λ l q apart none. with_pair-other slots list p now l q (λ same page. apart same) ∙ none }

pub bare-then : (old mid new : Slots) (list : ℕ) → KeepsBare old mid list → KeepsBare mid new list → KeepsBare old new list
bare-then old mid new list first second = record { bare = λ l q apart none. second.bare l q apart (first.bare l q apart none) }
