-- What a cut of a page leaves and answers, where the page's row was found, and what a cut in the lists of an arena does.
use Rattle.cow_split.proofs.Words.{◌≡◌, ◌↔◌, ℕ, Bool, Option, None, Some, IsSome, IsSomeAnd, inl, inr, refl, sym, ap, subst, is_some, Rows}
use Rattle.cow_split.proofs.Words.{Tag, Row, Slot, slots_of, Node, NodeId, Side, Arena, nodes_of, IsVisible, Slots, Tree, Found, walk}
use Rattle.cow_split.proofs.Words.{frame_shown, IsForest, HasRow, Reaches, Cut, tree_of, holder_of, IsLastViewer, IsExact, IsOnlyOf}
use Rattle.cow_split.proofs.Words.{leaving_out, without_frame, slots_from, answer_from, slots_after, answer_after, cut_slots, cut_answer}
use Rattle.cow_split.proofs.Words.{frame_left, HasCut}
use Rattle.cow_arena.proofs.ReachLaws.{reach-cases, walk-ends}
use Rattle.cow_split.specs.declared.answers.Holder.{Holder}
use Rattle.cow_arena.proofs.ForestLaws.{some_and}
use Rattle.cow_split.proofs.CutLaws.{cut-nothing, exact-cut, cut-last}

-- what was found, where this is the holder of the page
pub found-above : (o : Option Found) (h : NodeId) (q : ℕ) (side : Side) (slot : Slot) → Holder.Above h q side slot ≡ holder_of o →
    o ≡ Some (record { node = h.0; page = q; side = Some side; slot = slot })
found-above None h q side slot e = absurd (cc)
found-above (Some it) h q side slot e = found it.node it.page it.side it.slot e
  where
    found : (k r : ℕ) (from : Option Side) (row : Slot) →
        Holder.Above h q side slot ≡ holder_of (Some (record { node = k; page = r; side = from; slot = row })) →
        ◌≡◌ {A = Option Found} (Some (record { node = k; page = r; side = from; slot = row }))
        (Some (record { node = h.0; page = q; side = Some side; slot = slot }))
    found k r None row e = absurd (cc)
    found k r (Some other) row e =
        let at : ◌≡◌ {A = NodeId} (record { 0 = k }) h = cc in
        let page : r ≡ q = cc in
        let from : other ≡ side = cc in
        let has : row ≡ slot = cc in
        λ i. Some (record { node = (at i).0; page = page i; side = Some (from i); slot = has i })

pub held-row : (t : Tree) → IsForest t.nodes t.lists → (k p : ℕ) (h : NodeId) (q : ℕ) (side : Side) (slot : Slot) →
    Holder.Above h q side slot ≡ holder_of (walk t k p) → HasRow t h.0 q slot
held-row t forest k p h q side slot e =
    (walk-ends t forest k p (record { node = h.0; page = q; side = Some side; slot = slot }) (found-above (walk t k p) h q side slot e)).row

-- and the page comes to that row
pub held-way : (t : Tree) → IsForest t.nodes t.lists → (k p : ℕ) (h : NodeId) (q : ℕ) (side : Side) (slot : Slot) →
    Holder.Above h q side slot ≡ holder_of (walk t k p) → Reaches t k p side h.0 q
held-way t forest k p h q side slot e =
    (walk-ends t forest k p (record { node = h.0; page = q; side = Some side; slot = slot }) (found-above (walk t k p) h q side slot e)).way

-- there is the node from which it comes
pub way-node : {t : Tree} {k p : ℕ} {side : Side} {h q : ℕ} → Reaches t k p side h q → IsSome (t.nodes k)
way-node {t = t} {k = k} {p = p} {side = side} {h = h} {q = q} way = elim (reach-cases t k p side h q way) [
  | inl one ↦ ap is_some one.0.at
  | inr on ↦ ap is_some on.2.at
]

-- the rows and the answer, where the row of a hidden node was found
pub above-cut : (t : Tree) (k p : ℕ) (h : NodeId) (q : ℕ) (side : Side) (slot : Slot) → Holder.Above h q side slot ≡ holder_of (walk t k p) →
    (slots_from t k h.0 q slot (Some side) ≡ cut_slots t k p) × (answer_from t k h.0 q slot (Some side) ≡ cut_answer t k p)
unfolding cut_slots cut_answer
above-cut t k p h q side slot e =
    let found = sym (found-above (walk t k p) h q side slot e) in
    (ap (slots_after t k) found, ap (answer_after t k) found)

-- the rows stay, and nothing is answered, where the leaf's own row was found or none
own-stays : (t : Tree) (k : ℕ) (o : Option Found) (row : Slot) → Holder.Own row ≡ holder_of o →
    (t.slots ≡ slots_after t k o) × (Cut.NothingThere ≡ answer_after t k o)
own-stays t k None row e = absurd (cc)
own-stays t k (Some it) row e = stays it.node it.page it.side it.slot e
  where
    stays : (h r : ℕ) (from : Option Side) (its : Slot) →
        Holder.Own row ≡ holder_of (Some (record { node = h; page = r; side = from; slot = its })) →
        (t.slots ≡ slots_from t k h r its from) × (Cut.NothingThere ≡ answer_from t k h r its from)
    stays h r None Slot.Zero e = (refl, refl)
    stays h r None (Slot.Frame tag left right) e = (refl, refl)
    stays h r (Some other) its e = absurd (cc)

nothing-stays : (t : Tree) (k : ℕ) (o : Option Found) → Holder.Nothing ≡ holder_of o →
    (t.slots ≡ slots_after t k o) × (Cut.NothingThere ≡ answer_after t k o)
nothing-stays t k None e = (refl, refl)
nothing-stays t k (Some it) e = absurd (found it.node it.page it.side it.slot e)
  where
    found : (h r : ℕ) (from : Option Side) (row : Slot) →
        Holder.Nothing ≡ holder_of (Some (record { node = h; page = r; side = from; slot = row })) → ⊥
    found h r None row e = cc
    found h r (Some other) row e = cc

pub own-cut : (t : Tree) (k p : ℕ) (row : Slot) → Holder.Own row ≡ holder_of (walk t k p) →
    (t.slots ≡ cut_slots t k p) × (Cut.NothingThere ≡ cut_answer t k p)
unfolding cut_slots cut_answer
own-cut t k p row e = own-stays t k (walk t k p) row e

pub nothing-cut : (t : Tree) (k p : ℕ) → Holder.Nothing ≡ holder_of (walk t k p) →
    (t.slots ≡ cut_slots t k p) × (Cut.NothingThere ≡ cut_answer t k p)
unfolding cut_slots cut_answer
nothing-cut t k p e = nothing-stays t k (walk t k p) e

-- what a cut keeps and answers
module _ (arena : Arena) (old new : Rows Row) (v p : ℕ) (answer : Cut) (forest : IsForest (nodes_of arena) arena.lists)
    (leaf : IsSomeAnd (nodes_of arena v) (λ node. IsSome node.koid × (slots_of old node.list.0 p ≡ None)))
    (has : HasCut arena old new v p answer) where
  -- the leaf has no row of its own there
  bare : (node : Node) × (nodes_of arena v ≡ Some node) × (IsSome node.koid × (slots_of old node.list.0 p ≡ None))
  bare = some_and (nodes_of arena v) (λ (node : Node). IsSome node.koid × (slots_of old node.list.0 p ≡ None)) leaf

  visible : IsVisible (nodes_of arena) v bare.0
  visible = record { at = bare.1; koid = bare.2.0 }

  pub cut-exactly : (out : ℕ → ℕ → Bool) (in_use : ℕ → Bool) → IsExact (tree_of arena old) out in_use → IsOnlyOf out v →
      IsExact (tree_of arena new) (leaving_out out v p) (without_frame in_use (frame_left answer))
  cut-exactly out in_use exact only =
      subst (λ (s : Slots). IsExact (record (tree_of arena old) { slots = s }) (leaving_out out v p) (without_frame in_use (frame_left answer))) (sym has.slots)
      (subst (λ a. IsExact (record (tree_of arena old) { slots = cut_slots (tree_of arena old) v p }) (leaving_out out v p) (without_frame in_use (frame_left a))) (sym has.answers)
      (exact-cut (tree_of arena old) out in_use exact v p only bare.0 visible bare.2.1))

  pub cut-found_nothing : (answer ≡ Cut.NothingThere) ↔ (frame_shown (tree_of arena old) v p ≡ None)
  cut-found_nothing =
      subst (λ a. (a ≡ Cut.NothingThere) ↔ (frame_shown (tree_of arena old) v p ≡ None)) (sym has.answers)
      (cut-nothing (tree_of arena old) forest v p bare.0 visible bare.2.1)

  pub cut-last_viewer : (out : ℕ → ℕ → Bool) (in_use : ℕ → Bool) → IsExact (tree_of arena old) out in_use → IsOnlyOf out v → (tag : Tag) →
      (answer ≡ Cut.LastViewer tag) ↔ ((frame_shown (tree_of arena old) v p ≡ Some tag.0) × IsLastViewer (tree_of arena old) v tag.0)
  cut-last_viewer out in_use exact only tag =
      subst (λ a. (a ≡ Cut.LastViewer tag) ↔ ((frame_shown (tree_of arena old) v p ≡ Some tag.0) × IsLastViewer (tree_of arena old) v tag.0)) (sym has.answers)
      (cut-last (tree_of arena old) out in_use exact v p only bare.0 visible bare.2.1 tag)
