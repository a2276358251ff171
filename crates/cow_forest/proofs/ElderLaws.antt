-- Where only the elder founder of a hidden node may have a lesser koid, it shows the frame of a row of the node at the page of the row, or no
-- VMO with a lesser koid shows it.
use Rattle.cow_forest.proofs.Words.{◌≡◌, ℕ, ◌<◌, ◌≤◌, true, false, Option, None, Some, inl, inr, refl, sym, ap, subst, ◌∙◌, arith, cases_lt}
use Rattle.cow_forest.proofs.Words.{false_from_ne_true, Koid, views, is_taken, NodeId, Side, nodes_of, Found, frame_shown, Arrives}
use Rattle.cow_forest.proofs.Words.{AreFounders, IsElderFor, HasFrameRow, node_in, Forest, tree, forest_content, frame_from, IsStore}
use Rattle.cow_forest.proofs.Words.{FounderTable}
use Rattle.cow_arena.proofs.ReachLaws.{walk-ends, hidden-apart}
use Rattle.cow_forest.proofs.ContentLaws.{ShownBy, node-visible, node-of, shown-views, views-shown, frame-past}
use Rattle.cow_forest.proofs.ViewingLaws.{sees-row}
use Rattle.cow_forest.proofs.FounderLaws.{reach-founders}

-- who shows a frame at some page of its node views it
pub frame-views : (f : Forest) (s : IsStore f) (v q tag : ℕ) → frame_from (tree f) (node_in f.nodes v) q ≡ Some tag → views (forest_content f) tag v ≡ true
frame-views f s v q tag shown = with_node (node_in f.nodes v) refl shown
  where
    with_node : (o : Option NodeId) → node_in f.nodes v ≡ o → frame_from (tree f) o q ≡ Some tag → views (forest_content f) tag v ≡ true
    with_node None at shown = absurd (cc)
    with_node (Some at) led shown =
        let h = s.named v at led in
        shown-views f s v at.0 q tag (elim (cases_lt q h.node.count) [
          | inl below ↦ record { page = record { node = h; page = record { node = h.node; visible = node-visible f s v at.0 h; below = below } }; frame = shown }
          | inr past ↦ absurd (let none = frame-past f s at.0 q h.node (node-visible f s v at.0 h) past in cc)
        ])

module _ (f : Forest) (s : IsStore f) (table : FounderTable) (are : AreFounders (nodes_of f.arena) f.next table) (k q tag : ℕ) (has : HasFrameRow (tree f) k q tag)
    (koid elder : Koid) (is : IsElderFor (nodes_of f.arena) table k koid elder) where
  elder-from : (w j p : ℕ) (shown : ShownBy f w j p tag) → w < koid.0 → (from : Option Side) → Arrives (tree f) j p from k q →
      (w ≡ elder.0) × (frame_from (tree f) (node_in f.nodes w) q ≡ Some tag)
  elder-from w j p shown less None way =
      let its = shown.page.node in
      absurd (hidden-apart (tree f) s.exact.forest k j is.node its.node is.at is.hidden (node-visible f s w j its) (sym way.0))
  elder-from w j p shown less (Some side) way =
      let its = shown.page.node in
      let noted = are.noted k is.node is.founders is.at is.hidden is.noted in
      let number = its.is.number in
      let first = ap (λ (it : Koid). it.0) is.elder_is in
      let elder_noted = noted.0 in
      let younger_noted = noted.1 in
      let before = is.before in
      elim (reach-founders (tree f) s.exact.forest f.next are.elder are.younger are.by j p side k q its.node its.is.koid its.is.at its.is.has_koid way) [
        | inl own ↦
            let mine = own.0 in (
              omega arith,
              ap (λ o. frame_from (tree f) o q) (node-of f s w j its) ∙ (ap (frame_shown (tree f) j) (sym own.1) ∙ shown.frame),
            )
        | inr late ↦ absurd (omega arith)
      ]

  -- a VMO with a lesser koid that views the frame is the elder, by this page
  elder-alone : (w : ℕ) → w < koid.0 → views (forest_content f) tag w ≡ true → (w ≡ elder.0) × (frame_from (tree f) (node_in f.nodes elder.0) q ≡ Some tag)
  elder-alone w less e =
      let it = (views-shown f s w tag).0 e in
      let sees = sees-row (tree f) (is_taken f.pool, s.exact) k q tag it.0 has (record { p = it.1; page = it.2.page.page; frame = it.2.frame }) in
      let found : Found = record { node = k; page = q; side = sees.0; slot = sees.1.slot } in
      let alone = elder-from w it.0 it.1 it.2 less sees.0 (walk-ends (tree f) s.exact.forest it.0 it.1 found sees.1.found).way in
      (alone.0, subst (λ v. frame_from (tree f) (node_in f.nodes v) q ≡ Some tag) alone.0 alone.1)

  -- it has no lesser koid itself
  pub elder-late : koid.0 ≤ elder.0 → (w : ℕ) → w < koid.0 → views (forest_content f) tag w ≡ false
  elder-late late w less = false_from_ne_true (views (forest_content f) tag w) (λ e. let same = (elder-alone w less e).0 in absurd (omega arith))

  -- or does not show the frame there
  pub elder-parted : (frame_from (tree f) (node_in f.nodes elder.0) q ≡ Some tag → ⊥) → (w : ℕ) → w < koid.0 → views (forest_content f) tag w ≡ false
  elder-parted parted w less = false_from_ne_true (views (forest_content f) tag w) (λ e. absurd (parted (elder-alone w less e).1))
