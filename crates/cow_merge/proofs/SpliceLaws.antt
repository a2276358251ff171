-- A VMO's node goes, alone or with its parent: the tree stays exact, and the others show what they showed.
use Rattle.cow_merge.proofs.Words.{◌≡◌, ◌≢◌, ◌↔◌, ℕ, ◌<◌, Bool, None, Some, inl, inr, refl, sym, ap, subst, ◌∙◌, arith, IsSome, cases_eq}
use Rattle.cow_merge.proofs.Words.{both_ways, false_from_ne_true, without_key, some_same, with_key-same, with_key-other, with_key-cases}
use Rattle.cow_merge.proofs.Words.{without_key-same, without_key-other, without_key-some, ListId, Slot, Node, Side, Nodes, IsVisible}
use Rattle.cow_merge.proofs.Words.{AreFamily, Tree, walk, frame_found, frame_shown, IsForest, HasListedRows, lifted, spliced, IsPage}
use Rattle.cow_merge.proofs.Words.{IsSeenFrom, CameFrom, IsExact, IsOnlyOf, all_in_sight, IsAllOut, StaysVisible}
use Rattle.cow_arena.proofs.ReachLaws.{hidden-apart}
use Rattle.cow_arena.proofs.RelinkLaws.{relinked-stays, relinked-was}
use Rattle.cow_arena.proofs.SpliceForestLaws.{s_k, s_h, k_h}
use Rattle.cow_arena.proofs.SpliceWalkLaws.{walk-spliced, spliced-listed, walk-removed, removed-listed}
use Rattle.cow_split.proofs.NodeLaws.{stays-page, exact-moved}
use Rattle.cow_split.proofs.ExactLaws.{seen-moved}

-- ---- nodes that stay

-- a node is there as it was, with its koid, its list and its count
pub record IsKept (new : Nodes) (j : ℕ) (node : Node) : Type 0 where
  pub now : Node
  pub at : new j ≡ Some now
  pub koid : now.koid ≡ node.koid
  pub list : now.list ≡ node.list
  pub count : now.count ≡ node.count

-- a visible node that is kept stays visible
pub kept-visible : (old new : Nodes) (j : ℕ) (node : Node) → IsKept new j node → StaysVisible old new j node
kept-visible old new j node kept = record { after = kept.now; at = kept.at; koid = kept.koid; count = kept.count }

pub kept-page : (t u : Tree) (j p : ℕ) (page : IsPage t j p) → IsKept u.nodes j page.node → IsPage u j p
kept-page t u j p page kept = stays-page t u j p page (kept-visible t.nodes u.nodes j page.node kept)

module _ (nodes : Nodes) (lists : ℕ) (f : IsForest nodes lists) (k h s : ℕ) (leaf parent sibling : Node) (family : AreFamily nodes k h s leaf parent sibling) where
  -- node, parent and sibling are three
  pub family-apart : (k ≢ s) × (h ≢ s) × (k ≢ h)
  family-apart = (
    λ same. s_k nodes lists f.rank f.by k h s leaf parent sibling family (sym same),
    λ same. s_h nodes lists f.rank f.by k h s leaf parent sibling family (sym same),
    k_h nodes lists f.rank f.by k h s leaf parent sibling family,
  )

  -- what is left is kept
  pub spliced-kept : (j : ℕ) (node : Node) → nodes j ≡ Some node → j ≢ k → j ≢ h → IsKept (spliced nodes k h s parent sibling) j node
  unfolding spliced
  spliced-kept j node at j_k j_h = elim (cases_eq j s) [
    | inl same ↦
        let one : sibling ≡ node = some_same (sym family.sibling_at ∙ (sym (ap nodes same) ∙ at)) in
        record {
          now = lifted parent sibling;
          at = ap (spliced nodes k h s parent sibling) same ∙ with_key-same _ s _;
          koid = ap (λ (n : Node). n.koid) one;
          list = ap (λ (n : Node). n.list) one;
          count = ap (λ (n : Node). n.count) one;
        }
    | inr j_s ↦
        let b = relinked-stays nodes parent.parent h s j node at in
        record {
          now = b.0;
          at = with_key-other _ s _ j j_s ∙ (without_key-other _ k j j_k ∙ (without_key-other _ h j j_h ∙ b.1));
          koid = b.2.koid;
          list = b.2.list;
          count = b.2.count;
        }
  ]

  -- and was there
  pub spliced-was : (j : ℕ) (now : Node) → spliced nodes k h s parent sibling j ≡ Some now →
      (node : Node) × (nodes j ≡ Some node) × (j ≢ k) × (j ≢ h)
  unfolding spliced
  spliced-was j now at = elim (with_key-cases _ s _ j now at) [
    | inl here ↦ (
      sibling,
      ap nodes here.0 ∙ family.sibling_at,
      λ same. family-apart.0 (sym same ∙ here.0),
      λ same. family-apart.1 (sym same ∙ here.0),
    )
    | inr there ↦
        let apart = without_key-some _ k j now there.1 in
        let other = without_key-some _ h j now apart.1 in
        let was = relinked-was nodes parent.parent h s j now other.1 in
        (was.0, was.1, apart.0, other.0)
  ]

  pub spliced-gone : spliced nodes k h s parent sibling k ≡ None
  unfolding spliced
  spliced-gone = with_key-other _ s _ k family-apart.0 ∙ without_key-same _ k

  pub spliced-parent_gone : spliced nodes k h s parent sibling h ≡ None
  unfolding spliced
  spliced-parent_gone =
      with_key-other _ s _ h family-apart.1 ∙ (without_key-other _ k h (λ same. family-apart.2 (sym same)) ∙ without_key-same _ h)

-- where a node is kept, this one is kept the other way round
pub kept-back : (old new : Nodes) (j : ℕ) (node now : Node) → old j ≡ Some node → new j ≡ Some now → IsKept new j node → IsKept old j now
kept-back old new j node now at now_at kept =
    let one : kept.now ≡ now = some_same (sym kept.at ∙ now_at) in
    record {
      now = node;
      at = at;
      koid = sym (ap (λ (n : Node). n.koid) (sym one) ∙ kept.koid);
      list = sym (ap (λ (n : Node). n.list) (sym one) ∙ kept.list);
      count = sym (ap (λ (n : Node). n.count) (sym one) ∙ kept.count);
    }

-- ---- exactness

-- Node k is gone, and perhaps hidden nodes. Whoever is left is kept, and its walks stay.
pub record IsWithout (old new : Tree) (k : ℕ) : Type 0 where
  pub kept : (j : ℕ) (node : Node) → IsVisible old.nodes j node → j ≢ k → IsKept new.nodes j node
  pub came : (j : ℕ) (now : Node) → new.nodes j ≡ Some now → (node : Node) × (old.nodes j ≡ Some node) × (j ≢ k) × IsKept new.nodes j node
  pub walks : (j p : ℕ) (node : Node) → IsVisible old.nodes j node → j ≢ k → walk new j p ≡ walk old j p

module _ (old new : Tree) (k : ℕ) (without : IsWithout old new k) where
  -- a page that is left was there, and shows what it showed
  pub without-page : (w p : ℕ) → IsPage new w p → (w ≢ k) × IsPage old w p × (walk new w p ≡ walk old w p)
  without-page w p page =
      let was = without.came w page.node page.visible.at in
      let back = kept-back old.nodes new.nodes w was.0 page.node was.1 page.visible.at was.3 in
      let there = kept-page new old w p page back in
      (was.2, there, without.walks w p there.node there.visible was.2)

  pub without-showed : (w p : ℕ) → IsPage new w p → frame_shown new w p ≡ frame_shown old w p
  without-showed w p page = ap frame_found (without-page w p page).2

  -- whoever is left stays visible, and no other node is
  pub without-stays : (w : ℕ) (node : Node) → w ≢ k → IsVisible old.nodes w node → StaysVisible old.nodes new.nodes w node
  without-stays w node apart shown = kept-visible old.nodes new.nodes w node (without.kept w node shown apart)

  pub without-no_more : (w : ℕ) (node : Node) → IsVisible new.nodes w node → StaysVisible new.nodes old.nodes w node
  without-no_more w node shown =
      let was = without.came w node shown.at in
      kept-visible new.nodes old.nodes w node (kept-back old.nodes new.nodes w was.0 node was.1 shown.at was.3)

  -- rows are seen from each side where they were
  pub without-seen : (out : ℕ → ℕ → Bool) → IsOnlyOf out k → IsAllOut old out k → (side : Side) (h q : ℕ) →
      IsSeenFrom old out side h q ↔ IsSeenFrom new all_in_sight side h q
  without-seen out only all side h q = (
    seen-moved old new out all_in_sight side h q (λ v p sees in_sight.
        let apart = λ (same : v ≡ k). both_ways (out v p) in_sight (ap (λ i. out i p) same ∙ all p (subst (λ i. IsPage old i p) same sees.page)) in
        let page = sees.page in
        record {
          page = kept-page old new v p page (without.kept v page.node page.visible apart);
          same = without.walks v p page.node page.visible apart;
          in_sight = refl;
        }),
    seen-moved new old all_in_sight out side h q (λ v p sees in_sight.
        let was = without-page v p sees.page in
        record { page = was.1; same = sym was.2; in_sight = false_from_ne_true (out v p) (λ e. was.0 (only v p e)) }),
  )

-- the tree stays exact
pub exact-without : (t : Tree) (nodes : Nodes) (k : ℕ) → IsWithout t (record t { nodes = nodes }) k → (out : ℕ → ℕ → Bool) (in_use : ℕ → Bool) →
    IsExact t out in_use → IsForest nodes t.lists → HasListedRows (record t { nodes = nodes }) → IsOnlyOf out k → IsAllOut t out k →
    IsExact (record t { nodes = nodes }) all_in_sight in_use
exact-without t nodes k without out in_use exact g listed only all = exact-moved t nodes out all_in_sight in_use exact g listed came below
    (without-seen t (record t { nodes = nodes }) k without out only all)
  where
    was : (j : ℕ) (now : Node) → nodes j ≡ Some now → IsKept t.nodes j now
    was j now at = let it = without.came j now at in kept-back t.nodes nodes j it.0 now it.1 at it.3

    came : (j : ℕ) (now : Node) → nodes j ≡ Some now → CameFrom t.nodes j now
    came j now at = let it = was j now at in record { node = it.now; at = it.at; koid = sym it.koid; list = sym it.list }

    below : (v p : ℕ) (now : Node) (row : Slot) → IsVisible nodes v now → t.slots now.list.0 p ≡ Some row → p < now.count
    below v p now row shown e =
        let it = was v now shown.at in
        let inside = exact.below v p it.now row (record { at = it.at; koid = subst IsSome (sym it.koid) shown.koid })
        (ap (λ (l : ListId). t.slots l.0 p) it.list ∙ e) in
        omega (arith, it.count)

-- ---- a node goes with its parent

module _ (t : Tree) (f : IsForest t.nodes t.lists) (k h s : ℕ) (leaf parent sibling : Node) (family : AreFamily t.nodes k h s leaf parent sibling)
    (visible : IsVisible t.nodes k leaf) (empty : (p : ℕ) → t.slots parent.list.0 p ≡ None) (g : IsForest (spliced t.nodes k h s parent sibling) t.lists) where
  -- a visible node is not the parent
  not_parent : (j : ℕ) (node : Node) → IsVisible t.nodes j node → j ≢ h
  not_parent j node shown same =
      let below = f.by.below h k leaf family.at family.parent_is in
      hidden-apart t f h j below.above node below.at below.hidden shown (sym same)

  pub spliced-without : IsWithout t (record t { nodes = spliced t.nodes k h s parent sibling }) k
  spliced-without = record {
    kept = λ j node shown apart. spliced-kept t.nodes t.lists f k h s leaf parent sibling family j node shown.at apart (not_parent j node shown);
    came = λ j now at.
        let was = spliced-was t.nodes t.lists f k h s leaf parent sibling family j now at in
        (was.0, was.1, was.2, spliced-kept t.nodes t.lists f k h s leaf parent sibling family j was.0 was.1 was.2 was.3);
    walks = λ j p node shown apart. walk-spliced t f k h s leaf parent sibling family visible empty g j p node shown.at apart (not_parent j node shown);
  }

  -- Where only pages of the node were out of sight, and all of them, and neither it nor its parent has rows, the tree is exact
  -- without them.
  pub exact-spliced : (out : ℕ → ℕ → Bool) (in_use : ℕ → Bool) → ((p : ℕ) → t.slots leaf.list.0 p ≡ None) → IsExact t out in_use →
      IsOnlyOf out k → IsAllOut t out k → IsExact (record t { nodes = spliced t.nodes k h s parent sibling }) all_in_sight in_use
  exact-spliced out in_use bare exact only all = exact-without t (spliced t.nodes k h s parent sibling) k spliced-without out in_use exact g
      (spliced-listed t f k h s leaf parent sibling family visible empty g bare exact.listed) only all

-- ---- a root goes

module _ (t : Tree) (f : IsForest t.nodes t.lists) (k : ℕ) (leaf : Node) (visible : IsVisible t.nodes k leaf) (g : IsForest (without_key t.nodes k) t.lists) where
  root_kept : (j : ℕ) (node : Node) → t.nodes j ≡ Some node → j ≢ k → IsKept (without_key t.nodes k) j node
  root_kept j node at apart = record { now = node; at = without_key-other t.nodes k j apart ∙ at; koid = refl; list = refl; count = refl }

  pub removed_root-without : IsWithout t (record t { nodes = without_key t.nodes k }) k
  removed_root-without = record {
    kept = λ j node shown apart. root_kept j node shown.at apart;
    came = λ j now at.
        let was = without_key-some t.nodes k j now at in
        (now, was.1, was.0, root_kept j now was.1 was.0);
    walks = λ j p node shown apart. walk-removed t f k leaf visible g j p node shown.at apart;
  }

  -- Where only pages of the node were out of sight, and all of them, and it has no rows, the tree is exact without it.
  pub exact-removed_root : (out : ℕ → ℕ → Bool) (in_use : ℕ → Bool) → ((p : ℕ) → t.slots leaf.list.0 p ≡ None) → IsExact t out in_use →
      IsOnlyOf out k → IsAllOut t out k → IsExact (record t { nodes = without_key t.nodes k }) all_in_sight in_use
  exact-removed_root out in_use bare exact only all = exact-without t (without_key t.nodes k) k removed_root-without out in_use exact g
      (removed-listed t f k leaf visible g bare exact.listed) only all
