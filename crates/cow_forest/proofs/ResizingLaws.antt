-- A VMO of the forest gets fewer pages or more.
use Rattle.cow_forest.proofs.Words.{◌≡◌, ◌≢◌, ℕ, ◌+◌, ◌*◌, ◌<◌, ◌≤◌, ◌⊎◌, min, true, [], Option, None, Some, refl, sym, ap, subst, ◌∙◌, inl}
use Rattle.cow_forest.proofs.Words.{inr, arith, is_some, unwrap_or, cases_eq, cases_lt, nat_tests, Rows, with_key, some_same, with_key-same}
use Rattle.cow_forest.proofs.Words.{with_key-here, with_key-other, with_key-cases, pages_of, zeroed, resized, page-zeroed_in}
use Rattle.cow_forest.proofs.Words.{page-zeroed_out, Pool, frame_bytes, is_taken, ListId, Row, Node, NodeId, Arena, Nodes}
use Rattle.cow_forest.proofs.Words.{nodes_of, IsVisible, Tree, frame_shown, frame_found, IsForest, window_first, with_window}
use Rattle.cow_forest.proofs.Words.{visible_count, tree_of, IsPage, IsExact, all_in_sight, GivesBack, with_count, KeepsPages, same_content}
use Rattle.cow_forest.proofs.Words.{vmos_of-same, node_in, Forest, tree, forest_content, count_from, pages_in, frame_from, page_showing}
use Rattle.cow_forest.proofs.Words.{HasNode, IsNodeOf, IsStore}
use Rattle.vm_base.specs.declared.limits.TheConstants.{VMO_PAGES}
use Rattle.cow_arena.proofs.WalkLaws.{link_same}
use Rattle.cow_split.proofs.RowLaws.{frame-in_use}
use Rattle.cow_merge.proofs.CountLaws.{walk-grown, exact-grown}
use Rattle.cow_merge.proofs.ShrinkLaws.{tree-now}
use Rattle.cow_merge.proofs.RangeLaws.{accounts-same}
use Rattle.cow_forest.proofs.ContentLaws.{node-visible, node-of, one-vmo, page-of, pages-of, count-of, frame-past}
use Rattle.cow_forest.proofs.StoreLaws.{showing-same}

-- ---- frames that were given back

-- a frame that is taken still has its bytes
pub bytes-given : (before after : Pool) → GivesBack before after → (t : ℕ) → is_taken after t ≡ true → frame_bytes after t ≡ frame_bytes before t
bytes-given before after gives t taken = elim (gives.kept t) [
  | inl same ↦ ap (λ o. unwrap_or o []) same
  | inr gone ↦ absurd (let none = ap is_some gone in cc)
]

-- a page that shows the frame that it showed is the same page
pub showing-given : (t : Tree) (before after : Pool) → IsExact t all_in_sight (is_taken after) → GivesBack before after →
    (k q : ℕ) (was : Option ℕ) → frame_shown t k q ≡ was → page_showing after (frame_shown t k q) ≡ page_showing before was
showing-given t before after exact gives k q was same =
    showing-same before after was (frame_shown t k q) same
    (λ u e. bytes-given before after gives u (frame-in_use t all_in_sight (is_taken after) exact k q u (same ∙ e)))

-- ---- a node that grows

-- its window stays
grown-window : (nodes : Nodes) (lists : ℕ) → IsForest nodes lists → (k : ℕ) (node : Node) → nodes k ≡ Some node → (count : ℕ) → node.count ≤ count →
    with_count node count ≡ record node { count = count }
grown-window nodes lists f k node at count more =
    let seen : min node.seen count ≡ node.seen = let fits = f.by.seen k node at in omega arith in
    ap (λ n. record (with_window node node.first n) { count = count }) seen ∙ ap (λ p. record node { first = p; count = count }) first
  where
    first : window_first node.first node.seen ≡ node.first
    first = elim (cases_eq node.seen 0) [
      | inl none ↦ ap (window_first node.first) none ∙ sym (f.by.empty k node at none)
      | inr some ↦ grind (arith, nat_tests)
    ]

-- it has the same nodes as one that shrinks
pub grown-nodes : (old new : Arena) (k count : ℕ) (node : Node) → IsForest (nodes_of old) old.lists → nodes_of old k ≡ Some node → node.count ≤ count →
    ((own : Node) → nodes_of old k ≡ Some own → nodes_of new ≡ with_key (nodes_of old) k (record own { count = count })) →
    nodes_of new ≡ with_key (nodes_of old) k (with_count node count)
grown-nodes old new k count node forest at more nodes =
    nodes node at ∙ ap (with_key (nodes_of old) k) (sym (grown-window (nodes_of old) old.lists forest k node at count more))

-- and each page that it had shows what it showed
pub kept-grown : (old new : Arena) (rows : Rows Row) (pool : Pool) (k count : ℕ) (node : Node) → IsExact (tree_of old rows) all_in_sight (is_taken pool) →
    IsVisible (nodes_of old) k node → node.count ≤ count →
    ((own : Node) → nodes_of old k ≡ Some own → nodes_of new ≡ with_key (nodes_of old) k (record own { count = count })) →
    new.lists ≡ old.lists → IsForest (nodes_of new) new.lists → KeepsPages old new rows rows pool pool
kept-grown old new rows pool k count node exact visible more nodes lists forest =
    let grown : Node = record node { count = count } in
    let t : Tree = tree_of old rows in
    let is = nodes node visible.at in
    let now = tree-now old new rows (with_key (nodes_of old) k grown) is lists in
    let g : IsForest (with_key (nodes_of old) k grown) old.lists =
    subst (λ l. IsForest (with_key (nodes_of old) k grown) l) lists (subst (λ f. IsForest f new.lists) is forest) in
    record {
      exact = subst (λ (u : Tree). IsExact u all_in_sight (is_taken pool)) (sym now) (exact-grown t k count node visible more g all_in_sight (is_taken pool) exact);
      lists = lists;
      shows = subst (λ (u : Tree). (w q : ℕ) → IsPage u w q → frame_shown u w q ≡ frame_shown t w q) (sym now) (λ w q page.
          elim (with_key-cases (nodes_of old) k grown w page.node page.visible.at) [
            | inl here ↦ ap frame_found (walk-grown t k count node visible more g exact.forest w q node (ap (nodes_of old) here.0 ∙ visible.at))
            | inr apart ↦ ap frame_found (walk-grown t k count node visible more g exact.forest w q page.node apart.1)
          ]);
      accounts = accounts-same rows pool;
    }

-- ---- the forest

-- the forest with these nodes, rows and frames
abbrev pub with_tree : Forest → Arena → Rows Row → Pool → Forest
with_tree f arena rows pool = record f { arena = arena; rows = rows; pool = pool }

-- The node of the VMO w, which was this, is that of v, which had `own` pages and has `count` now, or another that has as
-- many as it had.
record NodeNow (f g : Forest) (v own count w j : ℕ) (was : HasNode f w j) : Type 0 where
  now : HasNode g w j
  list : now.node.list ≡ was.node.list
  which : ((w ≡ v) × (now.node.count ≡ count) × (was.node.count ≡ own)) ⊎ ((w ≢ v) × (now.node.count ≡ was.node.count))

-- a node of the resized forest was there
record NodeWas (f g : Forest) (count j : ℕ) (now : Node) : Type 0 where
  before : Node
  at : nodes_of f.arena j ≡ Some before
  koid : now.koid ≡ before.koid
  list : now.list ≡ before.list
  which : (now.count ≡ count) ⊎ (now.count ≡ before.count)

module _ (f : Forest) (arena : Arena) (rows : Rows Row) (pool : Pool) (v k count : ℕ) (s : IsStore f) (h : HasNode f v k)
    (c : KeepsPages f.arena arena f.rows rows f.pool pool) (nodes-now : nodes_of arena ≡ with_key (nodes_of f.arena) k (with_count h.node count))
    (visible : visible_count arena ≡ visible_count f.arena) where
  abbrev g : Forest
  g = with_tree f arena rows pool

  abbrev node_now : Node
  node_now = with_count h.node count

  vmo-here : (w j : ℕ) → HasNode f w j → j ≡ k → w ≡ v
  vmo-here w j its same = one-vmo f s w v k (subst (HasNode f w) same its) h

  node-now : (w j : ℕ) (its : HasNode f w j) → NodeNow f g v h.node.count count w j its
  node-now w j its = elim (cases_eq j k) [
    | inl same ↦
        let was : h.node ≡ its.node = some_same (sym h.is.at ∙ (ap (nodes_of f.arena) (sym same) ∙ its.is.at)) in
        record {
          now = record {
            node = node_now;
            is = record {
              at = ap (λ m. m j) nodes-now ∙ with_key-here (nodes_of f.arena) k node_now j same;
              koid = its.is.koid;
              has_koid = ap (λ (n : Node). n.koid) was ∙ its.is.has_koid;
              number = its.is.number;
            };
          };
          list = ap (λ (n : Node). n.list) was;
          which = inl (vmo-here w j its same, refl, ap (λ (n : Node). n.count) (sym was));
        }
    | inr apart ↦ record {
      now = record {
        node = its.node;
        is = record {
          at = ap (λ m. m j) nodes-now ∙ (with_key-other (nodes_of f.arena) k node_now j apart ∙ its.is.at);
          koid = its.is.koid;
          has_koid = its.is.has_koid;
          number = its.is.number;
        };
      };
      list = refl;
      which = inr (λ same. apart (link_same (sym (node-of f s w j its) ∙ (ap (node_in f.nodes) same ∙ node-of f s v k h))), refl);
    }
  ]

  node-was : (j : ℕ) (node : Node) → nodes_of arena j ≡ Some node → NodeWas f g count j node
  node-was j node e = elim (with_key-cases (nodes_of f.arena) k node_now j node (ap (λ m. m j) (sym nodes-now) ∙ e)) [
    | inl here ↦ record {
      before = h.node;
      at = ap (nodes_of f.arena) here.0 ∙ h.is.at;
      koid = ap (λ (n : Node). n.koid) (sym here.1);
      list = ap (λ (n : Node). n.list) (sym here.1);
      which = inl (ap (λ (n : Node). n.count) (sym here.1));
    }
    | inr apart ↦ record { before = node; at = apart.1; koid = refl; list = refl; which = inr refl }
  ]

  named-was : (w j : ℕ) (node : Node) (is : IsNodeOf (nodes_of arena) w j node) → IsNodeOf (nodes_of f.arena) w j (node-was j node is.at).before
  named-was w j node is =
      let was = node-was j node is.at in
      record { at = was.at; koid = is.koid; has_koid = sym was.koid ∙ is.has_koid; number = is.number }

  -- ---- the counts

  count-here : (forest_content g).count v ≡ Some count
  count-here =
      ap (count_from (nodes_of arena)) (node-of f s v k h)
      ∙ (ap (λ (m : Nodes). pages_in (m k)) nodes-now ∙ ap pages_in (with_key-same (nodes_of f.arena) k node_now))

  count-other : (w : ℕ) → w ≢ v → (forest_content g).count w ≡ (forest_content f).count w
  count-other w apart = with_node (node_in f.nodes w) refl
    where
      with_node : (o : Option NodeId) → node_in f.nodes w ≡ o → count_from (nodes_of arena) o ≡ count_from (nodes_of f.arena) o
      with_node None is = refl
      with_node (Some at) is =
          ap (λ (m : Nodes). pages_in (m at.0)) nodes-now
          ∙ ap pages_in (with_key-other (nodes_of f.arena) k node_now at.0 (λ same. apart (vmo-here w at.0 (s.named w at is) same)))

  counts-now : (w : ℕ) → (forest_content g).count w ≡ with_key (forest_content f).count v count w
  counts-now w = elim (cases_eq w v) [
    | inl same ↦ ap (forest_content g).count same ∙ (count-here ∙ sym (with_key-here (forest_content f).count v count w same))
    | inr apart ↦ count-other w apart ∙ sym (with_key-other (forest_content f).count v count w apart)
  ]

  vmo-stays : (w : ℕ) → is_some ((forest_content g).count w) ≡ is_some ((forest_content f).count w)
  vmo-stays w = elim (cases_eq w v) [
    | inl same ↦ ap (λ u. is_some ((forest_content g).count u)) same ∙ (ap is_some count-here ∙ sym (ap (λ u. is_some ((forest_content f).count u)) same ∙ ap is_some (count-of f s v k h)))
    | inr apart ↦ ap is_some (count-other w apart)
  ]

  pub store-resized : count ≤ VMO_PAGES → IsStore (with_tree f arena rows pool)
  store-resized few = record {
    exact = c.exact;
    linked = c.accounts.linked s.linked;
    named = λ w at is. (node-now w at.0 (s.named w at is)).now;
    nodes = λ w j node is. s.nodes w j (node-was j node is.at).before (named-was w j node is);
    owners = λ j node at.
        let was = node-was j node at in
        ap (λ (list : ListId). node_in f.owners list.0) was.list ∙ s.owners j was.before was.at;
    counts = λ w j node is.
        let bound = s.counts w j (node-was j node is.at).before (named-was w j node is) in
        elim ((node-was j node is.at).which) [ inl new ↦ omega arith | inr same ↦ omega arith ];
    koids = λ w j node is. s.koids w j (node-was j node is.at).before (named-was w j node is);
    first_koid = s.first_koid;
    lists = subst (λ n. n + 2 ≤ 2 * f.next) (sym c.lists) s.lists;
    vmos = s.vmos ∙ sym (vmos_of-same (forest_content f) (forest_content g) refl vmo-stays);
    visible = visible ∙ s.visible;
  }

  -- ---- the pages

  pages-now : count ≤ VMO_PAGES → (w q : ℕ) → (forest_content g).page w q ≡ (zeroed (forest_content f) v count (pages_of (forest_content f) v)).page w q
  pages-now few w q = with_node (node_in f.nodes w) refl
    where
      -- where the page is none of those that leave, it is what it was
      left : ((w ≡ v → (q < count) ⊎ (h.node.count ≤ q))) → (forest_content f).page w q ≡ (zeroed (forest_content f) v count (pages_of (forest_content f) v)).page w q
      left out = sym (page-zeroed_out (forest_content f) v count (pages_of (forest_content f) v) w q
          (λ same. subst (λ n. (q < count) ⊎ (n ≤ q)) (sym (pages-of f s v k h)) (out same)))

      -- a page past the node's count is zero
      past-count : (j : ℕ) (its : HasNode f w j) (now : NodeNow f g v h.node.count count w j its) → now.now.node.count ≤ q →
          page_showing pool (frame_shown (tree g) j q) ≡ (zeroed (forest_content f) v count (pages_of (forest_content f) v)).page w q
      past-count j its now past =
          let none = ap (page_showing pool) (frame-past g (store-resized few) j q now.now.node (node-visible g (store-resized few) w j now.now) past) in
          let was = λ (old_past : its.node.count ≤ q). sym (page-of f s w j q its ∙ ap (page_showing f.pool) (frame-past f s j q its.node (node-visible f s w j its) old_past)) in
          elim (now.which) [
            | inr other ↦ none ∙ (was (omega arith) ∙ left (λ same. absurd (other.0 same)))
            | inl new ↦ elim (cases_lt q h.node.count) [
              | inl less ↦
                  none ∙ sym (page-zeroed_in (forest_content f) v count (pages_of (forest_content f) v) w q new.0 (omega arith) (omega (arith, pages-of f s v k h)))
              | inr beyond ↦
                  none ∙ (was (omega arith) ∙ left (λ _. inr beyond))
            ]
          ]

      with_node : (o : Option NodeId) → node_in f.nodes w ≡ o →
          page_showing pool (frame_from (tree g) o q) ≡ (zeroed (forest_content f) v count (pages_of (forest_content f) v)).page w q
      with_node None is =
          ap (λ o. page_showing f.pool (frame_from (tree f) o q)) (sym is)
          ∙ left (λ same. absurd (let there = node-of f s v k h in let none = ap (node_in f.nodes) (sym same) ∙ is in cc))
      with_node (Some at) is =
          let its = s.named w at is in
          let now = node-now w at.0 its in
          elim (cases_lt q now.now.node.count) [
            | inr past ↦ past-count at.0 its now past
            | inl less ↦
                let page : IsPage (tree g) at.0 q =
                record { node = now.now.node; visible = node-visible g (store-resized few) w at.0 now.now; below = less } in
                showing-given (tree g) f.pool pool c.exact c.accounts.gives at.0 q (frame_shown (tree f) at.0 q) (c.shows at.0 q page)
                ∙ (sym (page-of f s w at.0 q its)
                ∙ left (λ same. elim (now.which) [ inl new ↦ inl (omega arith) | inr other ↦ absurd (other.0 same) ]))
          ]

  pub content-resized : count ≤ VMO_PAGES → forest_content (with_tree f arena rows pool) ≡ resized (forest_content f) v count
  unfolding resized zeroed with_key
  content-resized few = same_content _ _ c.accounts.gives.frames refl counts-now (pages-now few)
