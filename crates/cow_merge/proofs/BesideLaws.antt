-- The way down from the sibling: whoever it comes to, and what is cut off on the way.
use Rattle.cow_merge.proofs.Words.{◌≡◌, ◌≢◌, ℕ, ◌+◌, ◌-◌, ◌<◌, ◌≤◌, ◌^◌, Bool, false, Option, None, Some, inl, inr, IsSomeAnd, refl, sym}
use Rattle.cow_merge.proofs.Words.{ap, subst, ◌∙◌, arith, is_some, cases_eq, cases_lt, Rows, HasNone, IsFirst, has_row, none_is, Koid, some_same, Row, Slot, slots_of}
use Rattle.cow_merge.proofs.Words.{Pool, is_taken, Node, NodeId, Side, Arena, nodes_of, link_to, other_side, side_of, side_in, child_on}
use Rattle.cow_merge.proofs.Words.{IsForest, HasPair, Tree, walk, frame_shown, HasRow, Climbs, Reaches, Arrives, IsPartOf, Holder, tree_of}
use Rattle.cow_merge.proofs.Words.{holder_of, IsPage, IsExact, Way, IsFamilyOf, no_pages, Pages, CameTo, IsPassing, IsOnlyWay, HasCutOff}
use Rattle.cow_merge.proofs.Words.{ComesNotTo, IsExactFor, Moves, IsWayWithin, IsEntered, ComesBeside, IsBeside, SeesRowOf, ShowsOnlyOf}
use Rattle.cow_arena.proofs.ReachLaws.{reach-apart, reach-deeper, reach-once, reach-hidden, side-is, arrives-on}
use Rattle.cow_split.proofs.CutLaws.{cut-nothing}
use Rattle.cow_split.proofs.HolderLaws.{held-row, held-way, own-cut, nothing-cut}
use Rattle.cow_split.proofs.PartLaws.{part-none}
use Rattle.cow_arena.proofs.SpliceWalkLaws.{family-parent}
use Rattle.cow_merge.proofs.LiftedLaws.{family-other}
use Rattle.cow_merge.proofs.RangeLaws.{arrives-part, cut-spared, cut-was, cut-here, cut-lost, bare-cut}
use Rattle.cow_merge.proofs.PassingLaws.{spared-stays, came-on}

-- ---- the way down

-- pages of the parent that the way's pages come to, where it enters a child
pub within-entered : (first base to : ℕ) (node : Node) (child : NodeId) (shift from end : ℕ) (way : Way) → to < 2 ^ 64 →
    ((p : ℕ) → from ≤ p → p < end → first + base ≤ p + shift) → ((p : ℕ) → from ≤ p → p < end → p + shift < to) →
    IsEntered node child shift from end way → IsWayWithin first base to node way
within-entered first base to node child shift from end way fits low high entered = record {
  inside = entered.inside;
  low = λ p start less.
      let here = low (node.first + p) (entered.low p start less) (entered.high p start less) in
      let below = high (node.first + p) (entered.low p start less) (entered.high p start less) in
      let same = entered.shift_is (omega arith) in
      omega arith;
  high = λ p start less.
      let below = high (node.first + p) (entered.low p start less) (entered.high p start less) in
      let same = entered.shift_is (omega arith) in
      omega arith;
}

-- it begins at the sibling
pub beside-start : (arena : Arena) (new : Rows Row) (after : Pool) (v first : ℕ) (spared : Option NodeId) (above : Node) (base to h : ℕ)
    (sib : NodeId) → to < 2 ^ 64 → IsFamilyOf arena v h sib.0 → nodes_of arena h ≡ Some above → (end : ℕ) → end ≤ to → (way : Way) →
    ((node : Node) → nodes_of arena sib.0 ≡ Some node → IsEntered node sib 0 (first + base) end way) →
    IsPassing arena new after v first no_pages spared above base to to →
    IsBeside arena new after v first spared h above base to (other_side (side_of above v)) way way.from
beside-start arena new after v first spared above base to h sib fits of at end most way entered was =
    let f = was.bare.has.exact.forest in
    let family = of.family in
    let enters = entered of.sibling family.sibling_at in
    let same : of.parent ≡ above = some_same (sym family.parent_at ∙ at) in
    let up = family-parent (nodes_of arena) arena.lists f v h sib.0 of.node of.parent of.sibling family in
    let here : was.h ≡ h = f.by.own was.h h above above was.at at refl in
    record {
      bare = was.bare;
      parent = was.parent;
      at = at;
      place = record {
        node = of.sibling;
        node_at = ap (λ (k : NodeId). nodes_of arena k.0) enters.at ∙ family.sibling_at;
        e = h;
        up = up;
        from = None;
        side = ap (λ (k : NodeId). side_in (nodes_of arena) k.0) enters.at
            ∙ (side-is (nodes_of arena) arena.lists f h sib.0 of.parent of.sibling family.parent_at family.sibling_at up
            ∙ ap Some (family-other arena v h sib.0 f of ∙ ap (λ (n : Node). other_side (side_of n v)) same));
        within = within-entered first base to of.sibling sib 0 (first + base) end way fits (λ p low less. omega arith) (λ p low less. omega arith) enters;
      };
      came = λ q tag start below sight shown. elim (was.came q tag start below sight shown) [
        | inl held ↦ inl held
        | inr came ↦ inr (record {
          came = subst (λ i. CameTo (tree_of arena new) v q no_pages i above.list.0 base to to) here came;
          beside = λ p page low less.
              let upper = enters.high p low less in
              let shift = enters.shift_is (omega arith) in
              (refl, omega arith);
          free = λ p page low less. absurd (omega arith);
        })
      ];
    }

pub beside-bare : {arena : Arena} {new : Rows Row} {after : Pool} {v first : ℕ} {spared : Option NodeId} {h : ℕ} {above : Node} {base to : ℕ}
    {s : Side} {way : Way} {upto : ℕ} → IsBeside arena new after v first spared h above base to s way upto → (p : ℕ) → first ≤ p →
    (node : Node) → nodes_of arena v ≡ Some node → slots_of new node.list.0 p ≡ None
beside-bare {arena} {new} {after} {v} {first} {spared} {h} {above} {base} {to} {s} {way} {upto} was p from node at =
    subst (λ (n : Node). slots_of new n.list.0 p ≡ None) (some_same (sym was.bare.has.visible.at ∙ at)) (was.bare.bare p from)

-- ---- a row on the way

-- a page that sees a row of a node comes to no page of the node that has none
pub not-seen : (arena : Arena) (rows : Rows Row) (f : IsForest (nodes_of arena) arena.lists) (v own : ℕ) (skip : Pages) (h : ℕ) (above : Node) (shift to : ℕ) →
    nodes_of arena h ≡ Some above → (q : ℕ) → q ≡ own → CameTo (tree_of arena rows) v q skip h above.list.0 shift to to →
    SeesRowOf (tree_of arena rows) v own h → ⊥
not-seen arena rows f v own skip h above shift to at q is came sees =
    by_side came.side (subst (λ x. Arrives t v x came.side h came.page) is came.way)
  where
    t : Tree
    t = tree_of arena rows

    by_side : (side : Option Side) → Arrives t v own side h came.page → ⊥
    by_side None way =
        absurd (omega (arith, reach-deeper t f v own sees.side h sees.page sees.way, ap f.rank way.0))
    by_side (Some u) way =
        let apart = (reach-apart t f v own u h came.page own sees.side sees.page way sees.way).0 in
        let page : came.page ≡ sees.page = omega arith in
        let node : sees.row.node ≡ above = some_same (sym sees.row.at ∙ at) in
        let row : t.slots above.list.0 came.page ≡ Some sees.slot =
        ap (t.slots above.list.0) page ∙ (ap (λ (n : Node). t.slots n.list.0 sees.page) (sym node) ∙ sees.row.row) in
        absurd (let none = came.free came.below in cc)

module _ {arena : Arena} {mid : Rows Row} (new : Rows Row) {between : Pool} (after : Pool) {v first : ℕ} {spared : Option NodeId} {h : ℕ} {above : Node}
    {base to : ℕ} {s : Side} {way : Way} {upto page : ℕ} (was : IsBeside arena mid between v first spared h above base to s way upto)
    (from : way.from ≤ upto) (next : IsFirst (has_row (slots_of mid was.place.node.list.0)) upto way.to page) where
  abbrev own : ℕ
  own = page + way.shift - base

  low : first + base ≤ page + way.shift
  low = was.place.within.low page (omega (arith, next.order)) next.below

  -- pages of the leaf but this one belong to no row up to here
  still-free : (q tag : ℕ) → q ≢ own → ComesBeside (tree_of arena mid) v q h above.list.0 base to was.place.e was.place.node was.place.from way upto →
      (p : ℕ) → q + base ≡ p + way.shift → way.from ≤ p → p < page + 1 → slots_of mid was.place.node.list.0 p ≡ None
  still-free q tag apart came p is start less = elim (cases_lt p upto) [
    | inl before ↦ came.free p is start before
    | inr past ↦ elim (cases_eq p page) [
      | inl same ↦ absurd (apart (omega (arith, low)))
      | inr other ↦ none_is (slots_of mid was.place.node.list.0 p) (next.gap p past (omega (arith, other)))
    ]
  ]

  module _ (step : HasCutOff arena mid new between after v own (ShowsOnlyOf (tree_of arena mid) v own h) was.bare.has.out) where
    pub beside-lost : Moves arena mid new between after v first IsPartOf
    beside-lost = cut-lost step (omega (arith, low)) was.bare.has.only was.bare.within

    pub beside-cut : IsBeside arena new after v first spared h above base to s way (page + 1)
    beside-cut = record {
      bare = bare-cut was.bare step (omega (arith, low));
      parent = was.parent;
      at = was.at;
      place = was.place;
      came = λ q tag start below sight shown.
          let there : IsPage (tree_of arena mid) v q = record { node = was.bare.has.node; visible = was.bare.has.visible; below = below } in
          let showed = sym (step.shows v q there sight) ∙ shown in
          elim (was.came q tag start below (cut-was step v q sight) showed) [
            | inl held ↦ inl (spared-stays arena mid new v was.bare.has.node was.bare.has.visible was.bare.has.out (is_taken between) was.bare.has.exact step.part
                spared q tag was.parent (was.bare.bare q start) showed shown held)
            | inr it ↦
                let apart : q ≢ own = λ same.
                not-seen arena mid was.bare.has.exact.forest v own no_pages h above base to was.at q same it.came (cut-here step q sight same tag (ap (frame_shown (tree_of arena mid) v) (sym same) ∙ showed)) in
                inr (record {
                  came = came-on it.came step.part (λ less. part-none (slots_of mid) (slots_of new) step.part above.list.0 it.came.page (it.came.free less));
                  beside = λ p is start less.
                      arrives-part (tree_of arena mid) (slots_of new) step.part was.place.e (was.place.node.first + p) was.place.from h (q + base) (it.beside p is start less);
                  free = λ p is start less.
                      part-none (slots_of mid) (slots_of new) step.part was.place.node.list.0 p (still-free q tag apart it p is start less);
                })
          ];
    }

-- no row is left on this node
pub beside-end : {arena : Arena} {new : Rows Row} {after : Pool} {v first : ℕ} {spared : Option NodeId} {h : ℕ} {above : Node} {base to : ℕ}
    {s : Side} {way : Way} {upto : ℕ} (was : IsBeside arena new after v first spared h above base to s way upto) →
    HasNone (has_row (slots_of new was.place.node.list.0)) upto way.to →
    IsBeside arena new after v first spared h above base to s way way.to
beside-end {arena} {new} {after} {v} {first} {spared} {h} {above} {base} {to} {s} {way} {upto} was none = record {
  bare = was.bare;
  parent = was.parent;
  at = was.at;
  place = was.place;
  came = λ q tag start below sight shown. elim (was.came q tag start below sight shown) [
    | inl held ↦ inl held
    | inr it ↦ inr (record {
      came = it.came;
      beside = it.beside;
      free = λ p is low less. elim (cases_lt p upto) [
        | inl before ↦ it.free p is low before
        | inr past ↦ none_is (slots_of new was.place.node.list.0 p) (none p past less)
      ];
    })
  ];
}

-- ---- one page

module _ {arena : Arena} {old : Rows Row} {pool : Pool} {v : ℕ} (p h : ℕ) (has : IsExactFor arena old pool v) (bare : slots_of old has.node.list.0 p ≡ None)
    (found : Holder) (is : found ≡ holder_of (walk (tree_of arena old) v p)) where
  no-frame : (it : Holder) → it ≡ holder_of (walk (tree_of arena old) v p) →
      ((node : NodeId) (page : ℕ) (side : Side) (slot : Slot) → it ≡ Holder.Above node page side slot → ⊥) → (tag : ℕ) →
      frame_shown (tree_of arena old) v p ≡ Some tag → ⊥
  no-frame (Holder.Above node page side slot) e none tag shown = none node page side slot refl
  no-frame (Holder.Own row) e none tag shown =
      let after = own-cut (tree_of arena old) v p row e in
      let nothing = (cut-nothing (tree_of arena old) has.exact.forest v p has.node has.visible bare).0 (sym after.1) in
      absurd (cc)
  no-frame Holder.Nothing e none tag shown =
      let after = nothing-cut (tree_of arena old) v p e in
      let nothing = (cut-nothing (tree_of arena old) has.exact.forest v p has.node has.visible bare).0 (sym after.1) in
      absurd (cc)

  -- no row is seen
  pub page-nothing : ((node : NodeId) (page : ℕ) (side : Side) (slot : Slot) → found ≡ Holder.Above node page side slot → ⊥) →
      (out : ℕ → ℕ → Bool) → IsExact (tree_of arena old) out (is_taken pool) → HasCutOff arena old old pool pool v p (ShowsOnlyOf (tree_of arena old) v p h) out
  page-nothing none out exact = cut-spared exact (λ tag shown. absurd (no-frame found is none tag shown))

  module _ {node : NodeId} {page : ℕ} {side : Side} {slot : Slot} (above_is : found ≡ Holder.Above node page side slot) where
    pub page-way : Reaches (tree_of arena old) v p side node.0 page
    page-way = held-way (tree_of arena old) has.exact.forest v p node page side slot (sym above_is ∙ is)

    pub page-row : HasRow (tree_of arena old) node.0 page slot
    page-row = held-row (tree_of arena old) has.exact.forest v p node page side slot (sym above_is ∙ is)

    -- no other page comes to the row
    pub page-only : IsOnlyWay (tree_of arena old) v p side node.0 page
    page-only = record { only = λ x s way. reach-once (tree_of arena old) has.exact.forest v x p s side node.0 page way page-way }

    pub page-hidden : (above : Node) → nodes_of arena node.0 ≡ Some above → above.koid ≡ None
    page-hidden above at =
        let it = reach-hidden (tree_of arena old) has.exact.forest v p side node.0 page page-way in
        subst (λ (n : Node). n.koid ≡ None) (some_same (sym it.1 ∙ at)) it.2

    -- the parent's row is seen
    pub page-parent : node.0 ≡ h → (out : ℕ → ℕ → Bool) → IsExact (tree_of arena old) out (is_taken pool) →
        HasCutOff arena old old pool pool v p (ShowsOnlyOf (tree_of arena old) v p h) out
    page-parent same out exact = cut-spared exact (λ tag shown. record {
      side = side;
      page = page;
      slot = slot;
      way = subst (λ i. Reaches (tree_of arena old) v p side i page) same page-way;
      row = subst (λ i. HasRow (tree_of arena old) i page slot) same page-row;
    })

    -- a row further up is
    pub page-other : (new : Rows Row) (after : Pool) (out : ℕ → ℕ → Bool) → HasCutOff arena old new pool after v p (ComesNotTo (tree_of arena old) v p node.0 page) out →
        HasCutOff arena old new pool after v p (ShowsOnlyOf (tree_of arena old) v p h) out
    page-other new after out passed = record {
      now = passed.now;
      leaves = elim passed.leaves [ inl more ↦ inl more | inr kept ↦ absurd (kept.1 (Some side) page-way) ];
      exact = passed.exact;
      shows = passed.shows;
      part = passed.part;
      accounts = passed.accounts;
    }

    pub page-keeps : (new : Rows Row) → node.0 ≢ h → ((at : Node) → nodes_of arena node.0 ≡ Some at → (l : ℕ) → l ≢ at.list.0 → slots_of new l ≡ slots_of old l) →
        (above : Node) → nodes_of arena h ≡ Some above → slots_of new above.list.0 ≡ slots_of old above.list.0
    page-keeps new apart others above at =
        others page-row.node page-row.at above.list.0
        (λ same. apart (sym (has.exact.forest.by.own h node.0 above page-row.node at page-row.at same)))

-- ---- one node further down, and the end

module _ {arena : Arena} {new : Rows Row} {after : Pool} {v first : ℕ} {spared : Option NodeId} {h : ℕ} {above : Node} {base to : ℕ}
    {s : Side} {way : Way} (was : IsBeside arena new after v first spared h above base to s way way.to) where
  abbrev t : Tree
  t = tree_of arena new

  -- the way's page goes on to the parent
  pub goes-up : (q p : ℕ) → ComesBeside t v q h above.list.0 base to was.place.e was.place.node was.place.from way way.to → q + base ≡ p + way.shift → way.from ≤ p →
      p < way.to → Reaches t way.at.0 p s h (q + base)
  goes-up q p it is low less =
      let step : Climbs t way.at.0 p was.place.e (was.place.node.first + p) = record {
        node = was.place.node;
        at = was.place.node_at;
        free = it.free p is low less;
        inside = was.place.within.inside p low less;
        parent = was.place.up;
        page = refl;
      } in
      subst (λ o. Arrives t way.at.0 p o h (q + base)) was.place.side
      (arrives-on t was.bare.has.exact.forest way.at.0 p was.place.e (was.place.node.first + p) was.place.from h (q + base) step (it.beside p is low less))

  pub beside-down : to < 2 ^ 64 → (child : NodeId) (below : Node) → nodes_of arena child.0 ≡ Some below → below.parent ≡ link_to way.at.0 → (next : Way) →
      IsEntered below child way.shift way.from way.to next → IsBeside arena new after v first spared h above base to s next next.from
  beside-down fits child below at up next enters = record {
    bare = was.bare;
    parent = was.parent;
    at = was.at;
    place = record {
      node = below;
      node_at = ap (λ (k : NodeId). nodes_of arena k.0) enters.at ∙ at;
      e = way.at.0;
      up = up;
      from = Some s;
      side = refl;
      within = within-entered first base to below child way.shift way.from way.to next fits was.place.within.low was.place.within.high enters;
    };
    came = λ q tag start less sight shown. elim (was.came q tag start less sight shown) [
      | inl held ↦ inl held
      | inr it ↦ inr (record {
        came = it.came;
        beside = λ p is low less.
            let lower = enters.low p low less in
            let upper = enters.high p low less in
            let most = was.place.within.high (below.first + p) lower upper in
            let shift = enters.shift_is (omega arith) in
            goes-up q (below.first + p) it (omega arith) lower upper;
        free = λ p is low less. absurd (omega arith);
      })
    ];
  }

-- the way is given up
pub beside-none : {arena : Arena} {new : Rows Row} {after : Pool} {v first : ℕ} {spared : Option NodeId} {h : ℕ} {above : Node} {base to : ℕ}
    {s : Side} {way : Way} {upto : ℕ} → IsBeside arena new after v first spared h above base to s way upto →
    IsPassing arena new after v first no_pages spared above base to to
beside-none {arena} {new} {after} {v} {first} {spared} {h} {above} {base} {to} {s} {way} {upto} was = record {
  bare = was.bare;
  parent = was.parent;
  h = h;
  at = was.at;
  came = λ q tag start less sight shown. elim (was.came q tag start less sight shown) [ inl held ↦ inl held | inr it ↦ inr it.came ];
}

-- a hidden node has two children
module _ (arena : Arena) (f : IsForest (nodes_of arena) arena.lists) (h : ℕ)
    (hidden : IsSomeAnd (nodes_of arena h) (λ (node : Node). node.koid ≡ None)) (above : Node) (at : nodes_of arena h ≡ Some above) where
  no-koid : above.koid ≡ None
  no-koid = subst (λ (o : Option Node). IsSomeAnd o (λ (node : Node). node.koid ≡ None)) at hidden

  pair-of : HasPair (nodes_of arena) h above
  pair-of = f.by.pairs h above at no-koid

  pub both-there : (s : Side) → child_on above s ≡ None → ⊥
  both-there Side.Left none = let pair = pair-of.left_is in absurd (cc)
  both-there Side.Right none = let pair = pair-of.right_is in absurd (cc)

pub no-koid_of : (o : Option Koid) → is_some o ≡ false → o ≡ None
no-koid_of None e = refl
no-koid_of (Some koid) e = absurd (cc)

pub hidden-there : (arena : Arena) (h : ℕ) (above : Node) → nodes_of arena h ≡ Some above → above.koid ≡ None →
    IsSomeAnd (nodes_of arena h) (λ (node : Node). node.koid ≡ None)
hidden-there arena h above at none = subst (λ (o : Option Node). IsSomeAnd o (λ (node : Node). node.koid ≡ None)) (sym at) none

pub bare-there : (arena : Arena) (rows : Rows Row) (v p : ℕ) (node : Node) → nodes_of arena v ≡ Some node → slots_of rows node.list.0 p ≡ None →
    IsSomeAnd (nodes_of arena v) (λ node. slots_of rows node.list.0 p ≡ None)
bare-there arena rows v p node at none = subst (λ (o : Option Node). IsSomeAnd o (λ (node : Node). slots_of rows node.list.0 p ≡ None)) (sym at) none
