-- A VMO leaves the forest: its node is closed, and the tables no longer lead to it.
use Rattle.cow_forest.proofs.Words.{◌≡◌, ◌≢◌, ℕ, ◌+◌, ◌-◌, ◌*◌, ◌≤◌, ◌==◌, not, cond, Option, None, Some, refl, sym, ap, subst, ◌∙◌, inl}
use Rattle.cow_forest.proofs.Words.{inr, arith, is_some, IsSome, IfSome, IfNone, cases_eq, cases_lt, eq-eqb, Rows, without_key, some_same}
use Rattle.cow_forest.proofs.Words.{some_is, without_key-same, without_key-other, without_key-some, eqb_apart, Page, vmos_of, only, without}
use Rattle.cow_forest.proofs.Words.{page-only_stays, count-without_here, count-without_other, Pool, ListId, Row, Node, NodeId, Arena}
use Rattle.cow_forest.proofs.Words.{nodes_of, AreFamily, link_to, sibling_in, frame_shown, IsForest, IsChild, IsPage, tree_of, HasListOfParent}
use Rattle.cow_forest.proofs.Words.{visible_count, KeepsPages, HasGone, same_content, vmos_of-same, vmos_of-less, NodeEntries, node_in, IsDisowned, AreMerged}
use Rattle.cow_forest.proofs.Words.{HasOneOf, Forest, tree, forest_content, count_from, pages_in, frame_from, page_showing, HasNode}
use Rattle.cow_forest.proofs.Words.{IsNodeOf, IsStore}
use Rattle.cow_arena.proofs.WalkLaws.{link_same}
use Rattle.cow_arena.proofs.SpliceForestLaws.{s_h}
use Rattle.cow_forest.proofs.ContentLaws.{node-visible, node-of, one-node, one-vmo, vmo-below, page-of, count-of, frame-past}
use Rattle.cow_forest.proofs.ResizingLaws.{showing-given}

-- the node to which the table leads is there
pub node-found : (f : Forest) → IsStore f → (v : ℕ) (o : Option NodeId) → node_in f.nodes v ≡ o → IfSome o (λ at. IsSome (nodes_of f.arena at.0))
node-found f s v None e = tt
node-found f s v (Some at) e = ap is_some (s.named v at e).is.at

-- the forest with one VMO less, and these nodes, rows, frames and tables
abbrev pub with_less : Forest → Arena → Rows Row → Pool → NodeEntries → NodeEntries → Forest
with_less f arena rows pool nodes owners =
    record f { arena = arena; rows = rows; pool = pool; nodes = nodes; owners = owners; vmos = f.vmos - 1 }

-- a VMO that stays has its node, with as many pages
record NodeStays (f g : Forest) (w j : ℕ) (was : HasNode f w j) : Type 0 where
  now : HasNode g w j
  count : now.node.count ≡ was.node.count

-- the node of a VMO that is left was its node, and it is not v
record NodeWas (f : Forest) (v w j : ℕ) (now : Node) : Type 0 where
  was : HasNode f w j
  count : was.node.count ≡ now.count
  apart : w ≢ v

-- the sibling and the two lists, where there is a sibling
pub record AreMergedIn (f : Forest) (led : ℕ → Option NodeId) (k : ℕ) (merged : Option (NodeId × ListId × ListId)) : Type 0 where
  pub family : IfSome merged (λ it. AreMerged (nodes_of f.arena) led k it.0.0 it.1.0 it.2.0)
  pub root : IfNone merged (sibling_in (nodes_of f.arena) k ≡ None)

-- the list that the sibling may have now leads to it
led-on : (f : Forest) (led : ℕ → Option NodeId) (k : ℕ) (merged : Option (NodeId × ListId × ListId)) → AreMergedIn f led k merged → (j : ℕ) (now : Node) →
    HasListOfParent (nodes_of f.arena) k j now → led now.list.0 ≡ link_to j
led-on f led k None m j now it = absurd (let none = m.root in let some = it.beside in cc)
led-on f led k (Some three) m j now it =
    let own = m.family in
    let child : own.child.node ≡ it.child.node = some_same (sym own.child.at ∙ it.child.at) in
    let up : own.h ≡ it.h = link_same (sym own.child.parent ∙ (ap (λ (n : Node). n.parent) child ∙ it.child.parent)) in
    let parent : own.parent ≡ it.parent = some_same (sym own.parent_at ∙ (ap (nodes_of f.arena) up ∙ it.parent_at)) in
    let list : now.list.0 ≡ three.1.0 = ap (λ (l : ListId). l.0) it.list ∙ (ap (λ (n : Node). n.list.0) (sym parent) ∙ own.above_is) in
    ap led list ∙ (own.leads ∙ ap link_to (link_same (sym own.beside ∙ it.beside)))

-- and once the VMO is closed, it has one of the two
pub one-of : (f : Forest) (arena : Arena) (rows : Rows Row) (led : ℕ → Option NodeId) (k : ℕ) (merged : Option (NodeId × ListId × ListId)) →
    IsForest (nodes_of f.arena) f.arena.lists → HasGone (tree f) (tree_of arena rows) k → AreMergedIn f led k merged →
    IfSome merged (λ it. HasOneOf (nodes_of arena) it.0.0 it.1.0 it.2.0)
one-of f arena rows led k None forest c m = tt
one-of f arena rows led k (Some three) forest c m =
    let it = m.family in
    let now = some_is (nodes_of arena three.0.0) (c.beside three.0.0 it.beside) in
    let family : AreFamily (nodes_of f.arena) k it.h three.0.0 it.child.node it.parent it.sibling =
    record { at = it.child.at; parent_is = it.child.parent; parent_at = it.parent_at; sibling_is = it.beside; sibling_at = it.sibling_at } in
    record {
      node = now.0;
      at = now.1;
      list = elim (c.own_lists three.0.0 it.sibling now.0 it.sibling_at now.1) [
        | inl same ↦ inr (ap (λ (l : ListId). l.0) same ∙ it.own_is)
        | inr own ↦
            let child : it.child.node ≡ own.child.node = some_same (sym it.child.at ∙ own.child.at) in
            let up : it.h ≡ own.h = link_same (sym it.child.parent ∙ (ap (λ (n : Node). n.parent) child ∙ own.child.parent)) in
            let parent : it.parent ≡ own.parent = some_same (sym it.parent_at ∙ (ap (nodes_of f.arena) up ∙ own.parent_at)) in
            inl (ap (λ (l : ListId). l.0) own.list ∙ (ap (λ (n : Node). n.list.0) (sym parent) ∙ it.above_is))
      ];
      apart = λ same.
          s_h (nodes_of f.arena) f.arena.lists forest.rank forest.by k it.h three.0.0 it.child.node it.parent it.sibling family
          (sym (forest.by.own it.h three.0.0 it.parent it.sibling it.parent_at it.sibling_at (it.above_is ∙ (same ∙ sym it.own_is))));
      alone = λ j a at away.
          let was = c.came j a at in
          elim (c.own_lists j was.node a was.at at) [
            | inr own ↦ absurd (away (link_same (sym own.beside ∙ it.beside)))
            | inl same ↦ (
              λ above.
                  let here : j ≡ it.h = forest.by.own j it.h was.node it.parent was.at it.parent_at
                  (ap (λ (l : ListId). l.0) (sym same) ∙ (above ∙ sym it.above_is)) in
                  let gone = ap (nodes_of arena) here ∙ c.parent_gone it.h it.child in
                  absurd (cc),
              λ own. away (forest.by.own j three.0.0 was.node it.sibling was.at it.sibling_at
                  (ap (λ (l : ListId). l.0) (sym same) ∙ (own ∙ sym it.own_is))),
            )
          ];
    }

module _ (f : Forest) (arena : Arena) (rows : Rows Row) (pool : Pool) (nodes owners led : NodeEntries) (v k : ℕ)
    (s : IsStore f) (h : HasNode f v k) (c : HasGone (tree f) (tree_of arena rows) k) (kept_pages : KeepsPages f.arena arena f.rows rows f.pool pool)
    (visible : visible_count arena + 1 ≡ visible_count f.arena) (merged : Option (NodeId × ListId × ListId))
    (m : AreMergedIn f (node_in led) k merged) (d : IsDisowned (nodes_of f.arena) (node_in f.owners) (node_in led) k)
    (kept : (j : ℕ) (node : Node) → nodes_of arena j ≡ Some node → node_in owners node.list.0 ≡ node_in led node.list.0)
    (left : node_in nodes ≡ without_key (node_in f.nodes) v) where
  abbrev g : Forest
  g = with_less f arena rows pool nodes owners

  entry-gone : node_in nodes v ≡ None
  entry-gone = ap (λ m. m v) left ∙ without_key-same (node_in f.nodes) v

  entry-stays : (w : ℕ) → w ≢ v → node_in nodes w ≡ node_in f.nodes w
  entry-stays w apart = ap (λ m. m w) left ∙ without_key-other (node_in f.nodes) v w apart

  node-stays : (w j : ℕ) (its : HasNode f w j) → w ≢ v → NodeStays f g w j its
  node-stays w j its apart =
      let away : j ≢ k = λ same. apart (one-vmo f s w v k (subst (HasNode f w) same its) h) in
      let now = c.stays j its.node away (node-visible f s w j its) in
      record {
        now = record { node = now.after; is = record { at = now.at; koid = its.is.koid; has_koid = now.koid ∙ its.is.has_koid; number = its.is.number } };
        count = now.count;
      }

  node-was : (w j : ℕ) (node : Node) → IsNodeOf (nodes_of arena) w j node → NodeWas f v w j node
  node-was w j node is =
      let before = c.no_more j node (record { at = is.at; koid = ap is_some is.has_koid }) in
      let was : HasNode f w j =
      record { node = before.after; is = record { at = before.at; koid = is.koid; has_koid = before.koid ∙ is.has_koid; number = is.number } } in
      record {
        was = was;
        count = before.count;
        apart = λ same.
            let gone = ap (nodes_of arena) (one-node f s v j k (subst (λ u. HasNode f u j) same was) h) ∙ c.gone in
            let there = is.at in absurd (cc);
      }

  -- ---- the counts

  counts-now : (w : ℕ) → (forest_content g).count w ≡ (without (forest_content f) v).count w
  counts-now w = elim (cases_eq w v) [
    | inl same ↦
        ap (forest_content g).count same
        ∙ (ap (count_from (nodes_of arena)) entry-gone ∙ sym (ap (without (forest_content f) v).count same ∙ count-without_here (forest_content f) v))
    | inr apart ↦ stays apart (node_in f.nodes w) refl ∙ sym (count-without_other (forest_content f) v w apart)
  ]
    where
      stays : w ≢ v → (o : Option NodeId) → node_in f.nodes w ≡ o → (forest_content g).count w ≡ (forest_content f).count w
      stays apart None is = ap (count_from (nodes_of arena)) (entry-stays w apart ∙ is) ∙ sym (ap (count_from (nodes_of f.arena)) is)
      stays apart (Some at) is =
          let its = s.named w at is in
          let now = node-stays w at.0 its apart in
          ap (count_from (nodes_of arena)) (entry-stays w apart ∙ is)
          ∙ (ap pages_in now.now.is.at ∙ (ap (λ n. Some n) now.count ∙ sym (count-of f s w at.0 its)))

  vmos-less : f.vmos - 1 ≡ vmos_of (forest_content g)
  unfolding only
  vmos-less =
      let same = vmos_of-same (without (forest_content f) v) (forest_content g) refl (λ w. ap is_some (counts-now w)) in
      let less = vmos_of-less (forest_content f) v (vmo-below f s v k h) (ap is_some (count-of f s v k h)) in
      omega (arith, same, less, s.vmos)

  pub store-left : IsStore (with_less f arena rows pool nodes owners)
  store-left = record {
    exact = kept_pages.exact;
    linked = kept_pages.accounts.linked s.linked;
    named = λ w at is.
        let was = without_key-some (node_in f.nodes) v w at (ap (λ m. m w) (sym left) ∙ is) in (node-stays w at.0 (s.named w at was.1) was.0).now;
    nodes = λ w j node is. let it = node-was w j node is in entry-stays w it.apart ∙ node-of f s w j it.was;
    owners = λ j node at.
        let came = c.came j node at in
        let away : j ≢ k = λ same. let gone = ap (nodes_of arena) same ∙ c.gone in absurd (cc) in
        let below : IsChild (nodes_of f.arena) j k → ⊥ = λ child. let gone = c.parent_gone j child in absurd (cc) in
        kept j node at
        ∙ elim (c.own_lists j came.node node came.at at) [
          | inl same ↦ ap (λ (list : ListId). node_in led list.0) same ∙ (d.kept j came.node came.at away below ∙ s.owners j came.node came.at)
          | inr own ↦ led-on f (node_in led) k merged m j node own
        ];
    counts = λ w j node is. let it = node-was w j node is in let bound = s.counts w j it.was.node it.was.is in omega (arith, bound, it.count);
    koids = λ w j node is. let it = node-was w j node is in s.koids w j it.was.node it.was.is;
    first_koid = s.first_koid;
    lists = subst (λ n. n + 2 ≤ 2 * f.next) (sym kept_pages.lists) s.lists;
    vmos = vmos-less;
    visible = let all = s.visible in omega (arith, visible);
  }

  -- ---- the pages

  pages-now : (w q : ℕ) → (forest_content g).page w q ≡ (without (forest_content f) v).page w q
  unfolding only
  pages-now w q = elim (cases_eq w v) [
    | inl same ↦
        ap (λ o. page_showing pool (frame_from (tree g) o q)) (ap (node_in nodes) same ∙ entry-gone)
        ∙ sym (ap (λ b. cond {A = Option Page} (not b) ((forest_content f).page w q) None) (eq-eqb w v same))
    | inr apart ↦ stays apart (node_in f.nodes w) refl ∙ sym (page-only_stays (forest_content f) (λ u. not (u == v)) w q (ap not (eqb_apart w v apart)))
  ]
    where
      stays : w ≢ v → (o : Option NodeId) → node_in f.nodes w ≡ o → (forest_content g).page w q ≡ (forest_content f).page w q
      stays apart None is =
          ap (λ o. page_showing pool (frame_from (tree g) o q)) (entry-stays w apart ∙ is)
          ∙ sym (ap (λ o. page_showing f.pool (frame_from (tree f) o q)) is)
      stays apart (Some at) is =
          let its = s.named w at is in
          let now = node-stays w at.0 its apart in
          let visible = node-visible g store-left w at.0 now.now in
          page-of g store-left w at.0 q now.now
          ∙ (elim (cases_lt q now.now.node.count) [
            | inl less ↦
                let page : IsPage (tree g) at.0 q = record { node = now.now.node; visible = visible; below = less } in
                showing-given (tree g) f.pool pool kept_pages.exact kept_pages.accounts.gives at.0 q (frame_shown (tree f) at.0 q) (kept_pages.shows at.0 q page)
            | inr past ↦
                ap (page_showing pool) (frame-past g store-left at.0 q now.now.node visible past)
                ∙ sym (ap (page_showing f.pool) (frame-past f s at.0 q its.node (node-visible f s w at.0 its) (omega (arith, now.count))))
          ]
          ∙ sym (page-of f s w at.0 q its))

  pub content-left : forest_content (with_less f arena rows pool nodes owners) ≡ without (forest_content f) v
  unfolding only
  content-left = same_content _ _ kept_pages.accounts.gives.frames refl counts-now pages-now
