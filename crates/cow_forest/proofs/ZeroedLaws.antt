-- A range of a VMO becomes zero where the pages of its node do.
use Rattle.cow_forest.proofs.Words.{◌≡◌, ◌⊎◌, ℕ, ◌+◌, ◌-◌, ◌<◌, ◌≤◌, Option, None, Some, refl, sym, ap, subst, ◌∙◌, inl, inr, arith}
use Rattle.cow_forest.proofs.Words.{is_some, count_below_same, Rows, Page, is_held, pages_of, zeroed, cases_zeroed, page-zeroed_in}
use Rattle.cow_forest.proofs.Words.{page-zeroed_out, Backlink, Pool, is_taken, frame_bytes, Row, NodeId, nodes_of, link_to, frame_shown}
use Rattle.cow_forest.proofs.Words.{tree_of, all_in_sight, AreLinked, same_content, node_in, Forest, tree, forest_content, count_from}
use Rattle.cow_forest.proofs.Words.{page_showing, HasNode, IsStore, shown_from, IsReadyToZero, HasZeroed, HasNone, shows_frame, none_is, forest_of, AreStore}
use Rattle.vm_base.specs.declared.limits.TheConstants.{VMO_PAGES}
use Rattle.cow_split.proofs.RowLaws.{frame-in_use}
use Rattle.page_store.specs.Held.{held_from}
use Rattle.cow_forest.specs.declared.forest.CowForest.TheInside.{Inside}
use Rattle.cow_forest.proofs.JumpKeptLaws.{jumps-zeroed}
use Rattle.cow_forest.proofs.ContentLaws.{node-visible, one-vmo, page-of, pages-of}
use Rattle.cow_forest.proofs.ResizingLaws.{bytes-given}
use Rattle.cow_forest.proofs.StoreLaws.{with_rows, node-kept, store-kept, page-same}

showing-there : (pool : Pool) (frame : Option ℕ) → is_some (page_showing pool frame) ≡ is_some frame
showing-there pool None = refl
showing-there pool (Some t) = refl

-- a VMO that has a page count has a node
pub node-there : (f : Forest) (v n : ℕ) → (forest_content f).count v ≡ Some n → (k : ℕ) × (node_in f.nodes v ≡ link_to k)
node-there f v n has = go (node_in f.nodes v) refl has
  where
    go : (o : Option NodeId) → node_in f.nodes v ≡ o → count_from (nodes_of f.arena) o ≡ Some n → (k : ℕ) × (node_in f.nodes v ≡ link_to k)
    go None is e = absurd (cc)
    go (Some at) is e = (at.0, is)

module _ (f : Forest) (s : IsStore f) (v : ℕ) (at : NodeId) (is : node_in f.nodes v ≡ Some at) where
  h : HasNode f v at.0
  h = s.named v at is

  -- as many pages are held as show a frame
  pub held-shown : (first n : ℕ) → held_from (forest_content f) v first n ≡ shown_from (tree f) at.0 first n
  unfolding held_from shown_from
  held-shown first n = count_below_same n (λ j. is_held (forest_content f) v (first + j)) (λ j. is_some (frame_shown (tree f) at.0 (first + j))) (λ j less.
      ap (λ (page : Option Page). is_some page) (page-of f s v at.0 (first + j) h) ∙ showing-there f.pool (frame_shown (tree f) at.0 (first + j)))

  -- a range of a VMO ends in the bounds of its greatest size
  pub range-fits : (first n : ℕ) → first + n ≤ pages_of (forest_content f) v → first + n ≤ VMO_PAGES
  range-fits first n range = omega (arith, range, pages-of f s v at.0 h, s.counts v at.0 h.node h.is)

  pub range-ready : (first n : ℕ) → first + n ≤ pages_of (forest_content f) v → held_from (forest_content f) v first n ≤ f.rows.spare →
      IsReadyToZero f.arena f.rows f.pool at.0 first (first + n)
  range-ready first n range room = record {
    exact = s.exact;
    node = h.node;
    visible = node-visible f s v at.0 h;
    order = omega arith;
    below = omega (arith, range, pages-of f s v at.0 h);
    room =
        let length : (first + n) - first ≡ n = omega arith in
        let same = ap (shown_from (tree f) at.0 first) length in
        omega (arith, same, held-shown first n, room);
  }

  module _ (rows : Rows Row) (pool : Pool) (first end : ℕ) (z : HasZeroed f.arena f.rows rows f.pool pool at.0 first end) where
    -- the rows that are left stood where they stand
    linked : AreLinked rows pool
    linked = record {
      linked = λ l q row t at frame.
          let had = z.stood l q row t at frame in
          ap (λ (map : ℕ → Backlink). map t) z.links ∙ s.linked.linked l q had.row t had.at (sym had.frame ∙ frame);
    }

    pub store-ranged : IsStore (with_rows f rows pool)
    store-ranged = store-kept f rows pool s z.exact linked

    -- the frames that are shown keep their bytes
    bytes : (w q t : ℕ) → frame_shown (tree_of f.arena rows) w q ≡ Some t → frame_bytes pool t ≡ frame_bytes f.pool t
    bytes w q t shows =
        bytes-given f.pool pool (record { frames = z.frames; kept = z.gives }) t (frame-in_use (tree_of f.arena rows) all_in_sight (is_taken pool) z.exact w q t shows)

    -- a page outside the range is as it was
    outside : (w q : ℕ) → (w ≡ v → (q < first) ⊎ (end ≤ q)) → (forest_content (with_rows f rows pool)).page w q ≡ (forest_content f).page w q
    outside w q out = page-same f rows pool s store-ranged w q (λ j its page.
        let same : frame_shown (tree_of f.arena rows) j q ≡ frame_shown (tree f) j q = z.others j q page (λ here.
        elim (out (one-vmo f s w v at.0 (subst (HasNode f w) here.0 its) h)) [
          | inl before ↦ omega (arith, before, here.1)
          | inr past ↦ omega (arith, past, here.2)
        ]) in
        record { frame = same; bytes = λ t e. bytes j q t (same ∙ e) })

    pub content-ranged : HasNone (shows_frame (tree_of f.arena rows) at.0) first end → forest_content (with_rows f rows pool) ≡ zeroed (forest_content f) v first end
    unfolding zeroed
    content-ranged zero = same_content _ _ z.frames refl (λ w. refl) (λ w q. elim (cases_zeroed v first end w q) [
      | inl inside ↦
          ap (λ u. (forest_content (with_rows f rows pool)).page u q) inside.0
          ∙ (page-of (with_rows f rows pool) store-ranged v at.0 q (node-kept f rows pool v at.0 h)
          ∙ ap (page_showing pool) (none_is (frame_shown (tree_of f.arena rows) at.0 q) (zero q inside.1 inside.2)))
          ∙ sym (page-zeroed_in (forest_content f) v first end w q inside.0 inside.1 inside.2)
      | inr out ↦ outside w q out ∙ sym (page-zeroed_out (forest_content f) v first end w q out)
    ])

    -- the room that is left
    pub spare-ranged : (n : ℕ) → end ≡ first + n → first + n ≤ pages_of (forest_content f) v → f.rows.spare ≤ rows.spare + held_from (forest_content f) v first n
    spare-ranged n end_is range =
        let kept = z.spare h.node h.is.at first n (omega arith) (omega arith) (omega (arith, range, pages-of f s v at.0 h)) in
        omega (arith, kept, held-shown first n)

-- the fields hold what they must where pages of a range became zero
pub are-ranged : (a : Inside) (are : AreStore a) (v : ℕ) (at : NodeId) → node_in a.nodes v ≡ Some at → (rows : Rows Row) (pool : Pool) (first end : ℕ) →
    HasZeroed a.arena a.lists rows a.frames pool at.0 first end → AreStore (record a { lists = rows; frames = pool })
are-ranged a are v at is rows pool first end z =
    let h = are.store.named v at is in
    record {
      store = store-ranged (forest_of a) are.store v at is rows pool first end z;
      jumps = jumps-zeroed a.arena a.lists rows a.frames pool at.0 first end are.store.exact.forest h.node (node-visible (forest_of a) are.store v at.0 h) z
          a.next a.jumps are.jumps;
      founders = are.founders;
    }
