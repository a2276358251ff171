-- Other rows and frames under the same nodes: the forest stays a store, and its content changes in one page at most.
use Rattle.cow_forest.proofs.Words.{◌≡◌, ℕ, Option, None, Some, refl, sym, ap, subst, ◌∙◌, inl, inr, cases_lt, Rows, Content, hold}
use Rattle.cow_forest.proofs.Words.{same_page, page-hold_here, page-hold_other, same_content, Pool, frame_bytes, is_taken, Row, NodeId}
use Rattle.cow_forest.proofs.Words.{frame_shown, tree_of, IsPage, ShowsSame, IsNotPage, IsExact, all_in_sight, AreLinked, vmos_of-same}
use Rattle.cow_forest.proofs.Words.{node_in, Forest, tree, forest_content, frame_from, page_with_frame, page_showing, HasNode, IsStore}
use Rattle.cow_forest.proofs.ContentLaws.{node-visible, one-vmo, page-of, frame-past}

-- the forest with these rows and frames
abbrev pub with_rows : Forest → Rows Row → Pool → Forest
with_rows f rows pool = record f { rows = rows; pool = pool }

-- a VMO has the node that it had
pub node-kept : (f : Forest) (rows : Rows Row) (pool : Pool) (v k : ℕ) → HasNode f v k → HasNode (with_rows f rows pool) v k
node-kept f rows pool v k h = record { node = h.node; is = h.is }

pub store-kept : (f : Forest) (rows : Rows Row) (pool : Pool) → IsStore f → IsExact (tree_of f.arena rows) all_in_sight (is_taken pool) → AreLinked rows pool →
    IsStore (with_rows f rows pool)
store-kept f rows pool s exact linked = record {
  exact = exact;
  linked = linked;
  named = λ v at is. node-kept f rows pool v at.0 (s.named v at is);
  nodes = s.nodes;
  owners = s.owners;
  counts = s.counts;
  koids = s.koids;
  first_koid = s.first_koid;
  lists = s.lists;
  vmos = s.vmos ∙ sym (vmos_of-same (forest_content f) (forest_content (with_rows f rows pool)) refl (λ v. refl));
  visible = s.visible;
}

-- The rows and the frames of the forest change. Each page of a VMO shows the frame that it showed, with the bytes that it
-- had, but for page p of the node k.
pub record IsChangedAt (f : Forest) (rows : Rows Row) (pool : Pool) (k p : ℕ) : Type 0 where
  pub exact : IsExact (tree_of f.arena rows) all_in_sight (is_taken pool)
  pub linked : AreLinked rows pool
  pub frames : pool.frames ≡ f.pool.frames
  pub others : ShowsSame (tree f) (tree_of f.arena rows) (IsNotPage k p)
  pub bytes : (w q t : ℕ) → IsPage (tree f) w q → ((w ≡ k) × (q ≡ p) → ⊥) → frame_shown (tree f) w q ≡ Some t → frame_bytes pool t ≡ frame_bytes f.pool t

-- a frame with the same bytes is the same page
pub showing-same : (old new : Pool) (before after : Option ℕ) → after ≡ before → ((t : ℕ) → before ≡ Some t → frame_bytes new t ≡ frame_bytes old t) →
    page_showing new after ≡ page_showing old before
showing-same old new None after same bytes = ap (page_showing new) same
showing-same old new (Some t) after same bytes = ap (page_showing new) same ∙ ap (λ xs. Some (record { tag = t; bytes = xs })) (bytes t refl)

-- page q of node k shows the frame that it showed, with the bytes that it had
pub record ShowsAlike (f : Forest) (rows : Rows Row) (pool : Pool) (k q : ℕ) : Type 0 where
  pub frame : frame_shown (tree_of f.arena rows) k q ≡ frame_shown (tree f) k q
  pub bytes : (t : ℕ) → frame_shown (tree f) k q ≡ Some t → frame_bytes pool t ≡ frame_bytes f.pool t

pub page-same : (f : Forest) (rows : Rows Row) (pool : Pool) → IsStore f → IsStore (with_rows f rows pool) → (w q : ℕ) →
    ((k : ℕ) → HasNode f w k → IsPage (tree f) k q → ShowsAlike f rows pool k q) → (forest_content (with_rows f rows pool)).page w q ≡ (forest_content f).page w q
page-same f rows pool s now w q alike = with_node (node_in f.nodes w) refl
  where
    with_node : (o : Option NodeId) → node_in f.nodes w ≡ o →
        page_showing pool (frame_from (tree_of f.arena rows) o q) ≡ page_showing f.pool (frame_from (tree f) o q)
    with_node None is = refl
    with_node (Some at) is =
        let its = s.named w at is in
        let visible = node-visible f s w at.0 its in
        elim (cases_lt q its.node.count) [
          | inl less ↦
              let same = alike at.0 its (record { node = its.node; visible = visible; below = less }) in
              showing-same f.pool pool (frame_shown (tree f) at.0 q) (frame_shown (tree_of f.arena rows) at.0 q) same.frame same.bytes
          | inr past ↦
              ap (page_showing pool) (frame-past (with_rows f rows pool) now at.0 q its.node visible past)
              ∙ sym (ap (page_showing f.pool) (frame-past f s at.0 q its.node visible past))
        ]

page-moved : (c : Content) (v p w q : ℕ) → w ≡ v → q ≡ p → c.page w q ≡ c.page v p
page-moved c v p w q vmo page = ap (λ u. c.page u q) vmo ∙ ap (c.page v) page

module _ (f : Forest) (rows : Rows Row) (pool : Pool) (v k p : ℕ) (s : IsStore f) (h : HasNode f v k) (c : IsChangedAt f rows pool k p) where
  store-now : IsStore (with_rows f rows pool)
  store-now = store-kept f rows pool s c.exact c.linked

  -- the other pages are as they were
  other-pages : (w q : ℕ) → ((w ≡ v) × (q ≡ p) → ⊥) → (forest_content (with_rows f rows pool)).page w q ≡ (forest_content f).page w q
  other-pages w q apart = page-same f rows pool s store-now w q (λ j its page.
      let away : (j ≡ k) × (q ≡ p) → ⊥ = λ here. apart (one-vmo f s w v k (subst (HasNode f w) here.0 its) h, here.1) in
      record { frame = c.others j q page away; bytes = λ t e. c.bytes j q t page away e })

  page-now : (forest_content (with_rows f rows pool)).page v p ≡ page_showing pool (frame_shown (tree_of f.arena rows) k p)
  page-now = page-of (with_rows f rows pool) store-now v k p (node-kept f rows pool v k h)

  -- so the content is any that differs from the old one in this page alone
  content-is : (d : Content) → d.frames ≡ f.pool.frames → d.next ≡ f.next → ((w : ℕ) → d.count w ≡ (forest_content f).count w) →
      d.page v p ≡ page_showing pool (frame_shown (tree_of f.arena rows) k p) → ((w q : ℕ) → (w ≡ v → q ≡ p → ⊥) → d.page w q ≡ (forest_content f).page w q) →
      forest_content (with_rows f rows pool) ≡ d
  content-is d frames next count here elsewhere =
      same_content _ _ (c.frames ∙ sym frames) (sym next) (λ w. sym (count w)) (λ w q. elim (same_page v p w q) [
        | inl place ↦
            page-moved (forest_content (with_rows f rows pool)) v p w q place.0 place.1
            ∙ (page-now ∙ (sym here ∙ sym (page-moved d v p w q place.0 place.1)))
        | inr apart ↦ other-pages w q (λ place. apart place.0 place.1) ∙ sym (elsewhere w q apart)
      ])

  -- the page shows this frame now
  pub content-held : (t : ℕ) → frame_shown (tree_of f.arena rows) k p ≡ Some t → forest_content (with_rows f rows pool) ≡ hold (forest_content f) v p (page_with_frame pool t)
  unfolding hold
  content-held t shown = content-is (hold (forest_content f) v p (page_with_frame pool t)) refl refl (λ w. refl)
      (page-hold_here (forest_content f) v p (page_with_frame pool t) ∙ sym (ap (page_showing pool) shown)) (page-hold_other (forest_content f) v p (page_with_frame pool t))

  -- the page shows what it showed
  pub content-same : frame_shown (tree_of f.arena rows) k p ≡ frame_shown (tree f) k p →
      ((t : ℕ) → frame_shown (tree f) k p ≡ Some t → frame_bytes pool t ≡ frame_bytes f.pool t) → forest_content (with_rows f rows pool) ≡ forest_content f
  content-same shown bytes = content-is (forest_content f) refl refl (λ w. refl)
      (page-of f s v k p h ∙ sym (showing-same f.pool pool (frame_shown (tree f) k p) (frame_shown (tree_of f.arena rows) k p) shown bytes)) (λ w q apart. refl)
