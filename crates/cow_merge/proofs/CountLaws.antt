-- A VMO's node gets another count: the tree stays exact, and each page that is left shows what it showed.
use Rattle.cow_merge.proofs.Words.{◌≡◌, ◌≢◌, ◌↔◌, ◌⊎◌, ℕ, ◌<◌, ◌≤◌, ◌==◌, min, Bool, true, false, Option, None, Some, inl, inr, refl, sym}
use Rattle.cow_merge.proofs.Words.{ap, subst, ◌∙◌, arith, IsSome, ◌&&◌, ◌||◌, nat_le, nat_lt, cases_eq, cases_lt, both_ways, and_from}
use Rattle.cow_merge.proofs.Words.{or_parts, eq-eqb, ne_eqb, le-leb, lt-ltb, lt-leb, with_key, some_same, with_key-same, with_key-other}
use Rattle.cow_merge.proofs.Words.{with_key-cases, eqb_apart, Slot, Node, Side, IsVisible, Tree, walk, frame_found, frame_shown, IsForest}
use Rattle.cow_merge.proofs.Words.{HasListedRows, IsPage, IsSeenFrom, CameFrom, IsExact, all_in_sight, leaving_range, with_count}
use Rattle.cow_arena.proofs.WalkLaws.{walk-past}
use Rattle.cow_arena.proofs.WindowWalkLaws.{put-listed, walk-leaf-changed, walk-leaf-changed-other}
use Rattle.cow_split.proofs.ExactLaws.{seen-moved}
use Rattle.cow_split.proofs.NodeLaws.{exact-moved}

-- ---- pages of a range

-- a page in sight is of another node, or lies outside the range
pub in_sight-outside : (v first end w q : ℕ) → leaving_range all_in_sight v first end w q ≡ false → w ≡ v → first ≤ q → q < end → ⊥
unfolding leaving_range
in_sight-outside v first end w q e same from to =
    let off = or_parts ((w == v) && nat_le first q && nat_lt q end) false e in
    both_ways ((w == v) && nat_le first q && nat_lt q end) off.0
    (and_from ((w == v) && nat_le first q) (nat_lt q end) (and_from (w == v) (nat_le first q) (eq-eqb w v same) (le-leb first q from)) (lt-ltb q end to))

-- pages of other nodes are in sight, and pages before the range
pub outside-other : (v first end w q : ℕ) → w ≢ v → leaving_range all_in_sight v first end w q ≡ false
unfolding leaving_range
outside-other v first end w q apart = rw (ne_eqb w v apart) refl

pub outside-before : (v first end w q : ℕ) → q < first → leaving_range all_in_sight v first end w q ≡ false
unfolding leaving_range
outside-before v first end w q before =
    let late : nat_le first q ≡ false = lt-leb first q before in
    ap (λ (b : Bool). ((w == v) && b && nat_lt q end) || false) late ∙ none (w == v) (nat_lt q end)
  where
    none : (a b : Bool) → ((a && false && b) || false) ≡ false
    none true b = refl
    none false b = refl

-- ---- a visible node changes

-- the leaf v is as it was but for its count, and for its window, where this is said
module _ (t : Tree) (v : ℕ) (leaf new : Node) (visible : IsVisible t.nodes v leaf) (koid : new.koid ≡ leaf.koid) (list : new.list ≡ leaf.list) where
  abbrev after : Tree
  after = record t { nodes = with_key t.nodes v new }

  changed_came : (j : ℕ) (now : Node) → after.nodes j ≡ Some now → CameFrom t.nodes j now
  changed_came j now at = elim (with_key-cases t.nodes v new j now at) [
    | inl here ↦ record {
      node = leaf;
      at = ap t.nodes here.0 ∙ visible.at;
      koid = ap (λ (n : Node). n.koid) (sym here.1) ∙ koid;
      list = ap (λ (n : Node). n.list) (sym here.1) ∙ list;
    }
    | inr there ↦ record { node = now; at = there.1; koid = refl; list = refl }
  ]

  changed_listed : HasListedRows t → HasListedRows after
  changed_listed = put-listed t after.nodes t.lists v new refl (λ node at. list ∙ ap (λ (n : Node). n.list) (some_same (sym visible.at ∙ at)))

  -- pages of other nodes are pages as before
  changed_page : (w p : ℕ) → IsPage t w p → (w ≡ v → p < new.count) → IsPage after w p
  changed_page w p page inside = elim (cases_eq w v) [
    | inl same ↦ record {
      node = new;
      visible = record { at = ap after.nodes same ∙ with_key-same t.nodes v new; koid = subst IsSome (sym koid) visible.koid };
      below = inside same;
    }
    | inr apart ↦ record {
      node = page.node;
      visible = record { at = with_key-other t.nodes v new w apart ∙ page.visible.at; koid = page.visible.koid };
      below = page.below;
    }
  ]

  changed_was : (w p : ℕ) → IsPage after w p → (w ≡ v → p < leaf.count) → IsPage t w p
  changed_was w p page inside = elim (cases_eq w v) [
    | inl same ↦ record { node = leaf; visible = record { at = ap t.nodes same ∙ visible.at; koid = visible.koid }; below = inside same }
    | inr apart ↦ record {
      node = page.node;
      visible = record { at = sym (with_key-other t.nodes v new w apart) ∙ page.visible.at; koid = page.visible.koid };
      below = page.below;
    }
  ]

  changed_bound : (p : ℕ) → IsPage after v p → p < new.count
  changed_bound p page =
      omega (arith, ap (λ (n : Node). n.count) (some_same (sym (with_key-same t.nodes v new) ∙ page.visible.at)), page.below)

  page_bound : (p : ℕ) → IsPage t v p → p < leaf.count
  page_bound p page =
      omega (arith, ap (λ (n : Node). n.count) (some_same (sym visible.at ∙ page.visible.at)), page.below)

  module _ (out out_now : ℕ → ℕ → Bool) (in_use : ℕ → Bool) (exact : IsExact t out in_use) (parent : new.parent ≡ leaf.parent) (g : IsForest after.nodes t.lists) where
    other_walk : (w p : ℕ) (node : Node) → t.nodes w ≡ Some node → w ≢ v → walk after w p ≡ walk t w p
    other_walk = walk-leaf-changed-other t exact.forest v leaf new visible list parent g

    -- Pages in sight are pages in sight in the other tree, with the same walks; but for pages of the leaf that see nothing.
    abbrev StaysInSight : Type 0
    StaysInSight = (p : ℕ) → IsPage t v p → out v p ≡ false → (p < new.count) × (walk after v p ≡ walk t v p) × (out_now v p ≡ false)

    abbrev WasInSight : Type 0
    WasInSight = (p : ℕ) → IsPage after v p → out_now v p ≡ false →
        (walk after v p ≡ None) ⊎ ((p < leaf.count) × (walk after v p ≡ walk t v p) × (out v p ≡ false))

    changed_seen : ((w p : ℕ) → w ≢ v → out w p ≡ out_now w p) → StaysInSight → WasInSight → (side : Side) (h q : ℕ) →
        IsSeenFrom t out side h q ↔ IsSeenFrom after out_now side h q
    changed_seen same_out stays was side h q = (
      seen-moved t after out out_now side h q (λ w p sees in_sight. elim (cases_eq w v) [
        | inl same ↦
            let it = stays p (subst (λ i. IsPage t i p) same sees.page) (sym (ap (λ i. out i p) same) ∙ in_sight) in
            record {
              page = changed_page w p sees.page (λ _. it.0);
              same = ap (λ i. walk after i p) same ∙ (it.1 ∙ sym (ap (λ i. walk t i p) same));
              in_sight = ap (λ i. out_now i p) same ∙ it.2;
            }
        | inr apart ↦ record {
          page = changed_page w p sees.page (λ same. absurd (apart same));
          same = other_walk w p sees.page.node sees.page.visible.at apart;
          in_sight = sym (same_out w p apart) ∙ in_sight;
        }
      ]),
      seen-moved after t out_now out side h q (λ w p sees in_sight. elim (cases_eq w v) [
        | inl same ↦ elim (was p (subst (λ i. IsPage after i p) same sees.page) (sym (ap (λ i. out_now i p) same) ∙ in_sight)) [
          | inl nothing ↦
              let none = sym sees.found ∙ (ap (λ i. walk after i p) same ∙ nothing) in
              absurd (cc)
          | inr it ↦ record {
            page = changed_was w p sees.page (λ _. it.0);
            same = ap (λ i. walk t i p) same ∙ (sym it.1 ∙ sym (ap (λ i. walk after i p) same));
            in_sight = ap (λ i. out i p) same ∙ it.2;
          }
        ]
        | inr apart ↦
            let page = changed_was w p sees.page (λ same. absurd (apart same)) in
            record { page = page; same = sym (other_walk w p page.node page.visible.at apart); in_sight = same_out w p apart ∙ in_sight }
      ]),
    )

    changed_exact : ((w p : ℕ) → w ≢ v → out w p ≡ out_now w p) → StaysInSight → WasInSight →
        ((p : ℕ) (row : Slot) → t.slots leaf.list.0 p ≡ Some row → p < new.count) → IsExact after out_now in_use
    changed_exact same_out stays was rows = exact-moved t after.nodes out out_now in_use exact g (changed_listed exact.listed) changed_came below
        (changed_seen same_out stays was)
      where
        below : (w p : ℕ) (now : Node) (row : Slot) → IsVisible after.nodes w now → t.slots now.list.0 p ≡ Some row → p < now.count
        below w p now row shown e = elim (with_key-cases t.nodes v new w now shown.at) [
          | inl here ↦
              let inside = rows p row (ap (λ l. t.slots l.0 p) (sym list) ∙ (ap (λ (n : Node). t.slots n.list.0 p) here.1 ∙ e)) in
              let count = ap (λ (n : Node). n.count) here.1 in
              omega arith
          | inr there ↦ exact.below w p now row (record { at = there.1; koid = shown.koid }) e
        ]

-- ---- fewer pages

module _ (t : Tree) (v count : ℕ) (leaf : Node) (visible : IsVisible t.nodes v leaf) (few : count ≤ leaf.count)
    (g : IsForest (with_key t.nodes v (with_count leaf count)) t.lists) where
  abbrev narrowed : Tree
  narrowed = record t { nodes = with_key t.nodes v (with_count leaf count) }

  -- walks stay, but for those of pages that are no more
  pub walk-narrowed : IsForest t.nodes t.lists → (w p : ℕ) → IsPage t w p → (w ≡ v → p < count) → walk narrowed w p ≡ walk t w p
  walk-narrowed f w p page left = elim (cases_eq w v) [
    | inr apart ↦ walk-leaf-changed-other t f v leaf (with_count leaf count) visible refl refl g w p page.node page.visible.at apart
    | inl same ↦
        let inside = left same in
        ap (λ i. walk narrowed i p) same
        ∙ (walk-leaf-changed t f v leaf (with_count leaf count) visible refl refl g p (λ sees. (omega arith, first p inside sees)) (λ past. omega arith)
        ∙ sym (ap (λ i. walk t i p) same))
  ]
    where
      first : (p : ℕ) → p < count → p < leaf.seen → (with_count leaf count).first ≡ leaf.first
      first p inside sees = rw (eqb_apart (min leaf.seen count) 0 (λ none. absurd (omega arith))) refl

  pub narrowed-page : (w p : ℕ) → IsPage narrowed w p → IsPage t w p × (w ≡ v → p < count)
  narrowed-page w p page =
      let left = λ (same : w ≡ v). changed_bound t v leaf (with_count leaf count) visible refl refl p (subst (λ i. IsPage narrowed i p) same page) in
      (changed_was t v leaf (with_count leaf count) visible refl refl w p page (λ same. let inside = left same in omega arith), left)

  -- each page that is left shows what it showed
  pub narrowed-shows : IsForest t.nodes t.lists → (w p : ℕ) → IsPage narrowed w p → frame_shown narrowed w p ≡ frame_shown t w p
  narrowed-shows f w p page = let was = narrowed-page w p page in ap frame_found (walk-narrowed f w p was.0 was.1)

  -- Where the pages from the count on were out of sight, and there is no row of them, the tree is exact without them.
  pub exact-narrowed : (in_use : ℕ → Bool) → IsExact t (leaving_range all_in_sight v count leaf.count) in_use →
      ((p : ℕ) → count ≤ p → t.slots leaf.list.0 p ≡ None) → IsExact narrowed all_in_sight in_use
  exact-narrowed in_use exact bare =
      changed_exact t v leaf (with_count leaf count) visible refl refl (leaving_range all_in_sight v count leaf.count) all_in_sight in_use exact refl g
      (λ w p. outside-other v count leaf.count w p) stays was rows
    where
      stays : (p : ℕ) → IsPage t v p → leaving_range all_in_sight v count leaf.count v p ≡ false → (p < count) × (walk narrowed v p ≡ walk t v p) × (all_in_sight v p ≡ false)
      stays p page in_sight =
          let bound = page_bound t v leaf (with_count leaf count) visible refl refl p page in
          let inside : p < count = elim (cases_lt p count) [
            | inl before ↦ before
            | inr past ↦ absurd (in_sight-outside v count leaf.count v p in_sight refl past bound)
          ] in
          (inside, walk-narrowed exact.forest v p page (λ _. inside), refl)

      was : (p : ℕ) → IsPage narrowed v p → all_in_sight v p ≡ false →
          (walk narrowed v p ≡ None) ⊎ ((p < leaf.count) × (walk narrowed v p ≡ walk t v p) × (leaving_range all_in_sight v count leaf.count v p ≡ false))
      was p page in_sight =
          let it = narrowed-page v p page in
          let inside = it.1 refl in
          inr (omega arith, walk-narrowed exact.forest v p it.0 it.1, outside-before v count leaf.count v p inside)

      rows : (p : ℕ) (row : Slot) → t.slots leaf.list.0 p ≡ Some row → p < count
      rows p row e = elim (cases_lt p count) [ inl inside ↦ inside | inr past ↦ absurd (let none = bare p past in cc) ]

-- ---- more pages

module _ (t : Tree) (v count : ℕ) (leaf : Node) (visible : IsVisible t.nodes v leaf) (more : leaf.count ≤ count)
    (g : IsForest (with_key t.nodes v (record leaf { count = count })) t.lists) where
  abbrev grown_node : Node
  grown_node = record leaf { count = count }

  abbrev grown : Tree
  grown = record t { nodes = with_key t.nodes v grown_node }

  -- no walk changes
  pub walk-grown : IsForest t.nodes t.lists → (w p : ℕ) (node : Node) → t.nodes w ≡ Some node → walk grown w p ≡ walk t w p
  walk-grown f w p node at = elim (cases_eq w v) [
    | inl same ↦
        ap (λ i. walk grown i p) same
        ∙ (walk-leaf-changed t f v leaf grown_node visible refl refl g p (λ sees. (sees, refl)) (λ past. past) ∙ sym (ap (λ i. walk t i p) same))
    | inr apart ↦ walk-leaf-changed-other t f v leaf grown_node visible refl refl g w p node at apart
  ]

  module _ (out : ℕ → ℕ → Bool) (in_use : ℕ → Bool) (exact : IsExact t out in_use) where
    -- a new page has nothing to be found
    pub walk-grown-new : (p : ℕ) → leaf.count ≤ p → walk grown v p ≡ None
    walk-grown-new p past = walk-grown exact.forest v p leaf visible.at ∙ none (t.slots leaf.list.0 p) refl
      where
        none : (o : Option Slot) → t.slots leaf.list.0 p ≡ o → walk t v p ≡ None
        none None e = walk-past t exact.forest v p leaf visible.at e (let window = exact.forest.by.seen v leaf visible.at in omega arith)
        none (Some row) e = absurd (let inside = exact.below v p leaf row visible e in omega arith)

    -- the tree stays exact
    pub exact-grown : IsExact grown out in_use
    exact-grown = changed_exact t v leaf grown_node visible refl refl out out in_use exact refl g (λ w p apart. refl) stays was rows
      where
        stays : (p : ℕ) → IsPage t v p → out v p ≡ false → (p < count) × (walk grown v p ≡ walk t v p) × (out v p ≡ false)
        stays p page in_sight =
            let bound = page_bound t v leaf grown_node visible refl refl p page in
            (omega arith, walk-grown exact.forest v p leaf visible.at, in_sight)

        was : (p : ℕ) → IsPage grown v p → out v p ≡ false →
            (walk grown v p ≡ None) ⊎ ((p < leaf.count) × (walk grown v p ≡ walk t v p) × (out v p ≡ false))
        was p page in_sight = elim (cases_lt p leaf.count) [
          | inl inside ↦ inr (inside, walk-grown exact.forest v p leaf visible.at, in_sight)
          | inr past ↦ inl (walk-grown-new p past)
        ]

        rows : (p : ℕ) (row : Slot) → t.slots leaf.list.0 p ≡ Some row → p < count
        rows p row e = let inside = exact.below v p leaf row visible e in omega arith
