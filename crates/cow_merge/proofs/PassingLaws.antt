-- The rows above a node that is left out of sight, page by page: those of the nodes on its way upwards, one node after
-- another.
use Rattle.cow_merge.proofs.Words.{◌≡◌, ◌≢◌, ◌⊎◌, ℕ, ◌+◌, ◌-◌, ◌<◌, ◌≤◌, min, zero, suc, Bool, true, false, Option, None, Some, inl, inr}
use Rattle.cow_merge.proofs.Words.{IsSome, IsSomeAnd, refl, sym, ap, subst, ◌∙◌, arith, ◌&&◌, ◌||◌, ◌==◌, nat_le, nat_lt, is_some, IfSome}
use Rattle.cow_merge.proofs.Words.{IfNone, cases_Bool, cases_eq, cases_lt, and_from, le-leb, lt-ltb, Rows, Tag, none_is, some_same, eqb_same}
use Rattle.cow_merge.proofs.Words.{HasNone, IsFirst, IsFirstOrNone, has_row}
use Rattle.cow_merge.proofs.Words.{Row, Slot, slots_of, Pool, is_taken, Node, NodeId, Side, Arena, Nodes, nodes_of, IsVisible, link_to}
use Rattle.cow_merge.proofs.Words.{Slots, Tree, tree_with, walk, frame_in, frame_found, frame_shown, IsForest, Climbs}
use Rattle.cow_merge.proofs.Words.{Arrives, IsPartOf, tree_of, nodes_up, IsPage, Sees, IsExact, IsOnlyOf, all_in_sight, Pages}
use Rattle.cow_merge.proofs.Words.{leaving_range, HasCutOff, IsLeftBare, CameTo, IsHeldBy, IsSpared, IsParent, ComesNotTo, IsPassing}
use Rattle.cow_merge.proofs.Words.{IsSparing, IsLeftOut, IsOutside, no_pages, IsNextOutside, Moves}
use Rattle.cow_arena.proofs.WalkLaws.{walk-past}
use Rattle.cow_arena.proofs.ReachLaws.{reach-one, reach-after, climb-side, walk-from, walk-ends, found-of-reach}
use Rattle.cow_split.proofs.CostLaws.{depth-up, depth-some}
use Rattle.cow_split.proofs.ExactLaws.{exact-seen_alike, seen-carried}
use Rattle.cow_split.proofs.RowLaws.{frame-shown}
use Rattle.cow_split.proofs.PartLaws.{part-same, part-none}
use Rattle.cow_split.proofs.ZeroRowLaws.{frame-from}
use Rattle.cow_merge.proofs.CountLaws.{outside-other, outside-before}
use Rattle.cow_merge.proofs.RangeLaws.{arrives-part, cut-was, cut-here, cut-lost, bare-cut}

module _ (t : Tree) (f : IsForest t.nodes t.lists) (v q : ℕ) (skip : Pages) (h list shift to upto tag : ℕ) (shown : frame_shown t v q ≡ Some tag)
    (came : CameTo t v q skip h list shift to upto) where
  -- the page to which it comes shows the same frame
  came-shows : frame_shown t h came.page ≡ Some tag
  came-shows =
      sym (ap frame_found (walk-from t f v q came.side h came.page came.way) ∙ frame-from came.side (walk t h came.page)) ∙ shown

  -- without a row there, it is in the window
  came-inside : (above : Node) → t.nodes h ≡ Some above → t.slots above.list.0 came.page ≡ None → came.page < above.seen
  came-inside above at free = elim (cases_lt came.page above.seen) [
    | inl less ↦ less
    | inr past ↦
        let nothing = ap frame_found (walk-past t f h came.page above at free past) in
        let shows = came-shows in
        absurd (cc)
  ]

-- the same way to the same page, where rows went
pub came-on : {t : Tree} {slots : Slots} {v q : ℕ} {skip : Pages} {h list shift to upto end : ℕ} (came : CameTo t v q skip h list shift to upto) →
    IsPartOf t.slots slots → (came.page < end → slots list came.page ≡ None) → CameTo (record t { slots = slots }) v q skip h list shift to end
came-on {t} {slots} {v} {q} {skip} {h} came part free = record {
  side = came.side;
  apart = came.apart;
  page = came.page;
  is = came.is;
  way = arrives-part t slots part v q came.side h came.page came.way;
  below = came.below;
  free = free;
}

-- what is bare shows a frame through its window alone
pub bare-inside : (arena : Arena) (rows : Rows Row) (f : IsForest (nodes_of arena) arena.lists) (v p tag : ℕ) (node : Node) → nodes_of arena v ≡ Some node →
    slots_of rows node.list.0 p ≡ None → frame_shown (tree_of arena rows) v p ≡ Some tag → p < node.seen
bare-inside arena rows f v p tag node at free shown = elim (cases_lt p node.seen) [
  | inl less ↦ less
  | inr past ↦ let nothing = ap frame_found (walk-past (tree_of arena rows) f v p node at free past) in absurd (cc)
]

-- it begins at the node itself
pub passing-start : {arena : Arena} {new : Rows Row} {after : Pool} {v first : ℕ} {node : Node} →
    IsLeftBare arena new after v first → nodes_of arena v ≡ Some node →
    IsPassing arena new after v first no_pages None node 0 node.seen node.seen
passing-start {arena} {new} {after} {v} {first} {node} was at = record {
  bare = was;
  parent = λ h e. absurd (cc);
  h = v;
  at = at;
  came = λ q tag from below sight shown.
      let same : was.has.node ≡ node = some_same (sym was.has.visible.at ∙ at) in
      let free : slots_of new node.list.0 q ≡ None = subst (λ (n : Node). slots_of new n.list.0 q ≡ None) same (was.bare q from) in
      inr (record {
        side = None;
        apart = inr (omega arith);
        page = q;
        is = omega arith;
        way = (refl, refl);
        below = bare-inside arena new was.has.exact.forest v q tag node at free shown;
        free = λ less. free;
      });
}

-- it begins at the parent, which is spared
pub passing-above : {arena : Arena} {new : Rows Row} {after : Pool} {v : ℕ} {node : Node} {hidden : NodeId} {above : Node} →
    IsLeftBare arena new after v 0 → nodes_of arena v ≡ Some node → node.parent ≡ Some hidden → nodes_of arena hidden.0 ≡ Some above →
    IsPassing arena new after v 0 no_pages (Some hidden) above node.first (node.first + node.seen) (node.first + node.seen)
passing-above {arena} {new} {after} {v} {node} {hidden} {above} was at up above_at = record {
  bare = was;
  parent = λ h e. ap (λ (n : Node). n.parent) same ∙ (up ∙ e);
  h = hidden.0;
  at = above_at;
  came = λ q tag from below sight shown. subst (λ n. IsHeldBy (nodes_of arena) (slots_of new) hidden.0 n q ⊎ Comes q) (sym same)
      (comes q (bare_here q) (bare-inside arena new was.has.exact.forest v q tag node at (bare_here q) shown) (slots_of new above.list.0 (node.first + q)) refl);
}
  where
    same : was.has.node ≡ node
    same = some_same (sym was.has.visible.at ∙ at)

    bare_here : (q : ℕ) → slots_of new node.list.0 q ≡ None
    bare_here q = subst (λ (n : Node). slots_of new n.list.0 q ≡ None) same (was.bare q (omega arith))

    Comes : ℕ → Type 0
    Comes q = CameTo (tree_of arena new) v q no_pages hidden.0 above.list.0 node.first (node.first + node.seen) (node.first + node.seen)

    comes : (q : ℕ) → slots_of new node.list.0 q ≡ None → q < node.seen → (o : Option Slot) → slots_of new above.list.0 (node.first + q) ≡ o →
        IsHeldBy (nodes_of arena) (slots_of new) hidden.0 node q ⊎ Comes q
    comes q free inside (Some row) is = inl (record { above = above; at = above_at; row = ap is_some is; inside = inside })
    comes q free inside None is =
        let step : Climbs (tree_of arena new) v q hidden.0 (node.first + q) =
        record { node = node; at = at; free = free; inside = inside; parent = up; page = refl } in
        let last = climb-side (tree_of arena new) was.has.exact.forest v q hidden.0 (node.first + q) step in
        inr (record {
          side = Some last.1;
          apart = inr (omega arith);
          page = node.first + q;
          is = omega arith;
          way = reach-one (tree_of arena new) v q last.1 hidden.0 (node.first + q) step last.4;
          below = omega arith;
          free = λ less. is;
        })

module _ {arena : Arena} {new : Rows Row} {after : Pool} {v first : ℕ} {skip : Pages} {spared : Option NodeId} {above : Node} {shift to : ℕ} where
  -- it goes on at the parent
  pub passing-up : IsPassing arena new after v first skip spared above shift to to → (parent : NodeId) (up : Node) →
      above.parent ≡ Some parent → nodes_of arena parent.0 ≡ Some up → (end : ℕ) → end ≡ min to above.seen →
      IsPassing arena new after v first skip spared up (shift + above.first) (end + above.first) (first + (shift + above.first))
  passing-up was parent up parent_is up_at end end_is =
      let f = was.bare.has.exact.forest in
      record {
        bare = was.bare;
        parent = was.parent;
        h = parent.0;
        at = up_at;
        came = λ q tag from below sight shown. elim (was.came q tag from below sight shown) [
          | inl held ↦ inl held
          | inr came ↦ inr (
              let free = came.free came.below in
              let inside = came-inside (tree_of arena new) f v q skip was.h above.list.0 shift to to tag shown came above was.at free in
              let climbs : Climbs (tree_of arena new) was.h came.page parent.0 (above.first + came.page) =
              record { node = above; at = was.at; free = free; inside = inside; parent = parent_is; page = refl } in
              let last = climb-side (tree_of arena new) f was.h came.page parent.0 (above.first + came.page) climbs in
              record {
                side = Some last.1;
                apart = came.apart;
                page = above.first + came.page;
                is = omega (arith, came.is);
                way = reach-after (tree_of arena new) f v q came.side was.h came.page last.1 parent.0 (above.first + came.page) came.way climbs last.4;
                below = omega (arith, inside, came.below);
                free = λ less. absurd (omega (arith, came.is));
              })
        ];
      }

-- it goes on at the parent of the node itself
pub passing-parent : {arena : Arena} {new : Rows Row} {after : Pool} {v first : ℕ} {node : Node} {hidden : NodeId} {above : Node} →
    IsLeftBare arena new after v first → nodes_of arena v ≡ Some node → node.parent ≡ Some hidden → nodes_of arena hidden.0 ≡ Some above →
    IsPassing arena new after v first no_pages None above node.first (node.first + node.seen) (first + node.first)
passing-parent {arena} {new} {after} {v} {first} {node} {hidden} {above} was at up above_at =
    subst (λ x. IsPassing arena new after v first no_pages None above node.first x (first + node.first)) (omega arith)
    (subst (λ x. IsPassing arena new after v first no_pages None above x (node.seen + node.first) (first + x)) (omega arith)
    (passing-up (passing-start was at) hidden above up above_at node.seen (omega arith)))

-- A page that was held stays so, where rows went and it shows the frame that it showed.
module _ (arena : Arena) (old new : Rows Row) (v : ℕ) (node : Node) (visible : IsVisible (nodes_of arena) v node) (out : ℕ → ℕ → Bool)
    (in_use : ℕ → Bool) (exact : IsExact (tree_of arena old) out in_use) (part : IsPartOf (slots_of old) (slots_of new)) where
  held-stays : (h : NodeId) (p tag : ℕ) → node.parent ≡ Some h → slots_of old node.list.0 p ≡ None → frame_shown (tree_of arena old) v p ≡ Some tag →
      frame_shown (tree_of arena new) v p ≡ Some tag → IsHeldBy (nodes_of arena) (slots_of old) h.0 node p → IsHeldBy (nodes_of arena) (slots_of new) h.0 node p
  held-stays h p tag up free showed shows held = by_row (slots_of old held.above.list.0 (node.first + p)) refl
    where
      by_row : (o : Option Slot) → slots_of old held.above.list.0 (node.first + p) ≡ o → IsHeldBy (nodes_of arena) (slots_of new) h.0 node p
      by_row None is = absurd (let none = ap is_some is in let some = held.row in cc)
      by_row (Some row) is =
          let t : Tree = tree_of arena old in
          let step : Climbs t v p h.0 (node.first + p) =
          record { node = node; at = visible.at; free = free; inside = held.inside; parent = up; page = refl } in
          let last = climb-side t exact.forest v p h.0 (node.first + p) step in
          let found = found-of-reach t exact.forest v p last.1 h.0 (node.first + p) held.above row
          (reach-one t v p last.1 h.0 (node.first + p) step last.4) held.at is in
          let frame : frame_in row ≡ Some tag = sym (ap frame_found found) ∙ showed in
          let now = frame-shown (tree_of arena new) v p tag shows in
          let there = (walk-ends (tree_of arena new) exact.forest v p now.it now.found).row in
          let had = part.had there.node.list.0 now.it.page now.it.slot there.row in
          let place = exact.once held.above.list.0 (node.first + p) there.node.list.0 now.it.page tag row had.row is had.at frame (sym had.frame ∙ now.frame) in
          record {
            above = held.above;
            at = held.at;
            row = ap is_some (ap (λ l. slots_of new l (node.first + p)) place.0 ∙ (ap (λ q. slots_of new there.node.list.0 q) place.1 ∙ there.row));
            inside = held.inside;
          }

  pub spared-stays : (spared : Option NodeId) (p tag : ℕ) → IsParent spared node → slots_of old node.list.0 p ≡ None →
      frame_shown (tree_of arena old) v p ≡ Some tag → frame_shown (tree_of arena new) v p ≡ Some tag →
      IsSpared (nodes_of arena) (slots_of old) spared node p → IsSpared (nodes_of arena) (slots_of new) spared node p
  spared-stays None p tag up free showed shows held = absurd held
  spared-stays (Some h) p tag up free showed shows held = held-stays h p tag (up h refl) free showed shows held

-- the next row that does not belong to a page that is passed over
module _ (slots : ℕ → Option Slot) (from to shift : ℕ) (skip : Pages) (row : ℕ) (next : IsFirst (has_row slots) from to row) where
  pub outside-next : IsNextOutside slots from to shift skip row
  outside-next =
      record { least = next.order; below = next.below; there = next.hit; none = λ q low before apart. none_is (slots (q + shift)) (next.gap (q + shift) low before) }

  -- where the first one does, it is behind these pages
  module _ (past : shift ≤ row) (inside : (skip.from ≤ row - shift) × (row - shift < skip.to)) where
    outside-first : (q : ℕ) → from ≤ q + shift → q < skip.to → IsOutside skip q → slots (q + shift) ≡ None
    outside-first q low less apart = elim apart [
      | inl before ↦ none_is (slots (q + shift)) (next.gap (q + shift) low (omega (arith, inside.0)))
      | inr behind ↦ absurd (omega arith)
    ]

    pub outside-none : to - shift ≤ skip.to → (q : ℕ) → from ≤ q + shift → q + shift < to → IsOutside skip q → slots (q + shift) ≡ None
    outside-none ends q low less apart = outside-first q low (omega arith) apart

    pub outside-end : HasNone (has_row slots) (skip.to + shift) to → (q : ℕ) → from ≤ q + shift → q + shift < to → IsOutside skip q → slots (q + shift) ≡ None
    outside-end none q low less apart = elim (cases_lt q skip.to) [
      | inl before ↦ outside-first q low before apart
      | inr behind ↦ none_is (slots (q + shift)) (none (q + shift) (omega arith) less)
    ]

    pub outside-behind : (answer : Option ℕ) → IsFirstOrNone (has_row slots) (skip.to + shift) to answer →
        IfSome answer (λ page. IsNextOutside slots from to shift skip page)
    outside-behind None after = tt
    outside-behind (Some page) after = record {
      least = omega (arith, after.order, next.order, inside.1);
      below = after.below;
      there = after.hit;
      none = λ q low before apart. elim (cases_lt q skip.to) [
        | inl inner ↦ outside-first q low inner apart
        | inr behind ↦ none_is (slots (q + shift)) (after.gap (q + shift) (omega arith) before)
      ];
    }

    pub outside-ends : (answer : Option ℕ) → IsFirstOrNone (has_row slots) (skip.to + shift) to answer →
        IfNone answer ((q : ℕ) → from ≤ q + shift → q + shift < to → IsOutside skip q → slots (q + shift) ≡ None)
    outside-ends None none = outside-end none
    outside-ends (Some page) none = tt

module _ {arena : Arena} {mid : Rows Row} (new : Rows Row) {between : Pool} (after : Pool) {v first : ℕ} {skip : Pages} {spared : Option NodeId} {above : Node} {shift to upto row : ℕ}
    (was : IsPassing arena mid between v first skip spared above shift to upto) (from : first + shift ≤ upto)
    (next : IsNextOutside (slots_of mid above.list.0) upto to shift skip row) where
  -- no page comes to a row before
  before-next : (q page : ℕ) → page ≡ q + shift → upto ≤ page → page < row → IsOutside skip q → slots_of mid above.list.0 page ≡ None
  before-next q page is past less apart =
      subst (λ x. slots_of mid above.list.0 x ≡ None) (sym is)
      (next.none q (subst (λ x. upto ≤ x) is past) (subst (λ x. x < row) is less) apart)

  row-past : first ≤ row - shift
  row-past = omega (arith, next.least)

  -- the page that comes to the row is cut off, or none comes to it
  module _ (h : ℕ) (step : HasCutOff arena mid new between after v (row - shift) (ComesNotTo (tree_of arena mid) v (row - shift) h row) was.bare.has.out) where
    -- what went, went from the pages of v
    pub passing-lost : Moves arena mid new between after v first IsPartOf
    passing-lost = cut-lost step row-past was.bare.has.only was.bare.within

    pub passing-cut : nodes_of arena h ≡ Some above → IsPassing arena new after v first skip spared above shift to (row + 1)
    passing-cut at =
        let here : was.h ≡ h = was.bare.has.exact.forest.by.own was.h h above above was.at at refl in
        record {
          bare = bare-cut was.bare step row-past;
          parent = was.parent;
          h = was.h;
          at = was.at;
          came = λ q tag start below sight shown.
              let page : IsPage (tree_of arena mid) v q = record { node = was.bare.has.node; visible = was.bare.has.visible; below = below } in
              let showed = sym (step.shows v q page sight) ∙ shown in
              elim (was.came q tag start below (cut-was step v q sight) showed) [
                | inl held ↦ inl (spared-stays arena mid new v was.bare.has.node was.bare.has.visible was.bare.has.out (is_taken between) was.bare.has.exact step.part
                    spared q tag was.parent (was.bare.bare q start) showed shown held)
                | inr came ↦ inr (came-on came step.part (λ less. part-none (slots_of mid) (slots_of new) step.part above.list.0 came.page
                    (elim (cases_lt came.page upto) [
                      | inl before ↦ came.free before
                      | inr past ↦ elim (cases_lt came.page row) [
                        | inl earlier ↦ before-next q came.page came.is past earlier came.apart
                        | inr later ↦
                            let there : came.page ≡ row = omega arith in
                            let own : q ≡ row - shift = omega (arith, came.is) in
                            absurd (cut-here step q sight own came.side (subst (λ x. Arrives (tree_of arena mid) v x came.side h row) own
                            (subst (λ i. Arrives (tree_of arena mid) v q came.side i row) here (subst (Arrives (tree_of arena mid) v q came.side was.h) there came.way))))
                      ]
                    ])))
              ];
        }

module _ {arena : Arena} {new : Rows Row} {after : Pool} {v first : ℕ} {skip : Pages} {spared : Option NodeId} {above : Node} {shift to upto : ℕ} where
  -- no row is left that they could come to
  pub passing-end : IsPassing arena new after v first skip spared above shift to upto →
      ((q : ℕ) → upto ≤ q + shift → q + shift < to → IsOutside skip q → slots_of new above.list.0 (q + shift) ≡ None) →
      IsPassing arena new after v first skip spared above shift to to
  passing-end was none = record {
    bare = was.bare;
    parent = was.parent;
    h = was.h;
    at = was.at;
    came = λ q tag start below sight shown. elim (was.came q tag start below sight shown) [
      | inl held ↦ inl held
      | inr came ↦ inr (came-on came (part-same (slots_of new)) (λ less. elim (cases_lt came.page upto) [
        | inl before ↦ came.free before
        | inr past ↦
            subst (λ x. slots_of new above.list.0 x ≡ None) (sym came.is)
            (none q (subst (λ x. upto ≤ x) came.is past) (subst (λ x. x < to) came.is less) came.apart)
      ]))
    ];
  }

-- ---- the range

-- exact where the pages that show a frame are out of sight as before
exact-shown_alike : (t : Tree) (out now : ℕ → ℕ → Bool) (in_use : ℕ → Bool) → IsExact t out in_use →
    ((w q tag : ℕ) → IsPage t w q → frame_shown t w q ≡ Some tag → out w q ≡ now w q) → IsExact t now in_use
exact-shown_alike t out now in_use exact alike = exact-seen_alike t out now in_use exact
    (λ k r node tag left right at hidden row side. (
      seen-carried t t out now side k r refl (λ w q sees in_sight. (refl, sym (seen k r node tag left right at row w q side sees) ∙ in_sight)),
      seen-carried t t now out side k r refl (λ w q sees in_sight. (refl, seen k r node tag left right at row w q side sees ∙ in_sight)),
    ))
  where
    seen : (k r : ℕ) (node : Node) (tag : Tag) (left right : Bool) → t.nodes k ≡ Some node →
        t.slots node.list.0 r ≡ Some (Slot.Frame tag left right) → (w q : ℕ) (side : Side) → Sees t w q (Some side) k r → out w q ≡ now w q
    seen k r node tag left right at row w q side sees =
        let ends = walk-ends t exact.forest w q _ sees.found in
        let same : ends.row.node ≡ node = some_same (sym ends.row.at ∙ at) in
        let slot_is : sees.slot ≡ Slot.Frame tag left right =
        some_same (sym (subst (λ (n : Node). t.slots n.list.0 r ≡ Some sees.slot) same ends.row.row) ∙ row) in
        alike w q tag.0 sees.page (ap frame_found sees.found ∙ ap frame_in slot_is)

-- a page of the range is left out
pub inside-range : (out : ℕ → ℕ → Bool) (v first end q : ℕ) → first ≤ q → q < end → leaving_range out v first end v q ≡ true
unfolding leaving_range
inside-range out v first end q from to =
    ap (λ (b : Bool). b || out v q)
    (and_from ((v == v) && nat_le first q) (nat_lt q end)
    (and_from (v == v) (nat_le first q) (eqb_same v) (le-leb first q from))
    (lt-ltb q end to))

-- What is left out is each page of the range, where the others of it show nothing.
module _ (arena : Arena) (slots : Slots) (after : Pool) (v first : ℕ) (node : Node) (at : nodes_of arena v ≡ Some node) (out : ℕ → ℕ → Bool)
    (exact : IsExact (tree_with (nodes_of arena) arena.lists slots) out (is_taken after)) (only : IsOnlyOf out v) (within : (q : ℕ) → out v q ≡ true → first ≤ q)
    (none : (q tag : ℕ) → first ≤ q → q < node.count → out v q ≡ false →
    frame_shown (tree_with (nodes_of arena) arena.lists slots) v q ≡ Some tag → ⊥) where
  abbrev t : Tree
  t = tree_with (nodes_of arena) arena.lists slots

  below-count : (q : ℕ) → IsPage t v q → q < node.count
  below-count q page = subst (λ (n : Node). q < n.count) (some_same (sym page.visible.at ∙ at)) page.below

  out-mine : (q tag : ℕ) → IsPage t v q → frame_shown t v q ≡ Some tag → out v q ≡ leaving_range all_in_sight v first node.count v q
  out-mine q tag page shown = elim (cases_lt q first) [
    | inl before ↦ elim (cases_Bool (out v q)) [
      | inl hidden ↦ let from = within q hidden in absurd (omega arith)
      | inr seen ↦ seen ∙ sym (outside-before v first node.count v q before)
    ]
    | inr from ↦ elim (cases_Bool (out v q)) [
      | inl hidden ↦ hidden ∙ sym (inside-range all_in_sight v first node.count q from (below-count q page))
      | inr seen ↦ absurd (none q tag from (below-count q page) seen shown)
    ]
  ]

  out-same : (w q tag : ℕ) → IsPage t w q → frame_shown t w q ≡ Some tag → out w q ≡ leaving_range all_in_sight v first node.count w q
  out-same w q tag page shown = elim (cases_eq w v) [
    | inl same ↦
        subst (λ k. out k q ≡ leaving_range all_in_sight v first node.count k q) (sym same)
        (out-mine q tag (subst (λ k. IsPage t k q) same page) (ap (λ k. frame_shown t k q) (sym same) ∙ shown))
    | inr apart ↦ elim (cases_Bool (out w q)) [
      | inl hidden ↦ absurd (apart (only w q hidden))
      | inr seen ↦ seen ∙ sym (outside-other v first node.count w q apart)
    ]
  ]

  pub range-exact : IsExact t (leaving_range all_in_sight v first node.count) (is_taken after)
  range-exact = exact-shown_alike t out (leaving_range all_in_sight v first node.count) (is_taken after) exact out-same

module _ {arena : Arena} {new : Rows Row} {after : Pool} {v first : ℕ} {skip : Pages} {spared : Option NodeId} {above : Node} {shift to : ℕ}
    (was : IsPassing arena new after v first skip spared above shift to to)
    (top : (parent : NodeId) → above.parent ≡ Some parent → (q : ℕ) → first ≤ q → q + shift < to → q + shift < above.seen → IsOutside skip q → ⊥) where
  -- a page that came to the last node shows nothing
  shows-none : (q tag : ℕ) → first ≤ q → frame_shown (tree_of arena new) v q ≡ Some tag → CameTo (tree_of arena new) v q skip was.h above.list.0 shift to to → ⊥
  shows-none q tag from shown came =
      let f = was.bare.has.exact.forest in
      let inside = came-inside (tree_of arena new) f v q skip was.h above.list.0 shift to to tag shown came above was.at (came.free came.below) in
      go came.page came.is came.below inside came.apart above.parent refl
    where
      go : (page : ℕ) → page ≡ q + shift → page < to → page < above.seen → IsOutside skip q → (up : Option NodeId) → above.parent ≡ up → ⊥
      go page is less inside apart None up_is =
          let none = was.bare.has.exact.forest.by.root was.h above was.at up_is in absurd (omega arith)
      go page is less inside apart (Some parent) up_is = top parent up_is q from (omega (arith, is)) (omega (arith, is)) apart

  -- at the top, and where no page goes on, those that are held alone show a frame
  pub passing-top : IsSparing arena new after v first spared
  passing-top = record {
    bare = was.bare;
    spares = λ q tag from below sight shown. elim (was.came q tag from below sight shown) [
      | inl held ↦ held
      | inr came ↦ absurd (shows-none q tag from shown came)
    ];
  }

-- where none is spared, all pages of the range are left out
pub sparing-none : {arena : Arena} {new : Rows Row} {after : Pool} {v first : ℕ} {node : Node} → nodes_of arena v ≡ Some node →
    IsSparing arena new after v first None → IsLeftOut arena new after v node first
sparing-none {arena} {new} {after} {v} {first} {node} at was =
    let same : was.bare.has.node ≡ node = some_same (sym was.bare.has.visible.at ∙ at) in
    let none : (q tag : ℕ) → first ≤ q → q < node.count → was.bare.has.out v q ≡ false → frame_shown (tree_of arena new) v q ≡ Some tag → ⊥ =
    λ q tag from below. was.spares q tag from (subst (λ (n : Node). q < n.count) (sym same) below) in
    record {
      exact = range-exact arena (slots_of new) after v first node at was.bare.has.out was.bare.has.exact was.bare.has.only was.bare.within none;
      bare = λ p from. subst (λ (n : Node). slots_of new n.list.0 p ≡ None) same (was.bare.bare p from);
    }

-- ---- the way upwards ends

up-none : (nodes : Nodes) (n : ℕ) → nodes_up nodes n None ≡ 0
unfolding nodes_up
up-none nodes zero = refl
up-none nodes (suc n) = refl

-- there are fewer nodes from a node's parent on than from the node on
pub up-less : (nodes : Nodes) (lists : ℕ) (f : IsForest nodes lists) (k : ℕ) (above : Node) → nodes k ≡ Some above →
    nodes_up nodes lists above.parent < nodes_up nodes lists (link_to k)
up-less nodes lists f k above at = go above.parent refl
  where
    go : (up : Option NodeId) → above.parent ≡ up → nodes_up nodes lists up < nodes_up nodes lists (link_to k)
    go None is = let some = depth-some nodes lists f k above at in let none = up-none nodes lists in omega arith
    go (Some parent) is = let more = depth-up nodes lists f k parent.0 above at is in omega arith

-- a node from which fewer are further up has another list
pub up-list : (nodes : Nodes) (lists : ℕ) (f : IsForest nodes lists) (j k : ℕ) (start above : Node) → nodes j ≡ Some start → nodes k ≡ Some above →
    nodes_up nodes lists above.parent < nodes_up nodes lists start.parent → start.list.0 ≢ above.list.0
up-list nodes lists f j k start above at above_at less same =
    let one = f.by.own j k start above at above_at same in
    let up : nodes_up nodes lists start.parent ≡ nodes_up nodes lists above.parent =
    ap (λ (n : Node). nodes_up nodes lists n.parent) (some_same (sym at ∙ (ap nodes one ∙ above_at))) in
    absurd (omega arith)

-- what has no parent has none
pub no-parent : (up : Option NodeId) (parent : NodeId) → up ≡ None → up ≡ Some parent → ⊥
no-parent up parent none is = let both = sym none ∙ is in cc

-- ---- what the code asks on the way

module _ {arena : Arena} {new : Rows Row} {after : Pool} {v first : ℕ} {skip : Pages} {spared : Option NodeId} {above : Node} {shift to upto : ℕ}
    (was : IsPassing arena new after v first skip spared above shift to upto) where
  pub passing-bare : (p : ℕ) → first ≤ p → (node : Node) → nodes_of arena v ≡ Some node → slots_of new node.list.0 p ≡ None
  passing-bare p from node at =
      subst (λ (n : Node). slots_of new n.list.0 p ≡ None) (some_same (sym was.bare.has.visible.at ∙ at)) (was.bare.bare p from)

  pub passing-there : (parent : NodeId) → above.parent ≡ Some parent → IsSome (nodes_of arena parent.0)
  passing-there parent is =
      ap is_some (was.bare.has.exact.forest.by.below parent.0 was.h above was.at is).at

  -- the window ends inside the parent
  pub passing-fits : (parent : NodeId) (up : Node) → above.parent ≡ Some parent → nodes_of arena parent.0 ≡ Some up →
      above.first + above.seen ≤ up.count
  passing-fits parent up is at =
      let below = was.bare.has.exact.forest.by.below parent.0 was.h above was.at is in
      subst (λ (n : Node). above.first + above.seen ≤ n.count) (some_same (sym below.at ∙ at)) below.window

  pub passing-less : (parent : NodeId) (up : Node) → above.parent ≡ Some parent → nodes_of arena parent.0 ≡ Some up →
      nodes_up (nodes_of arena) arena.lists up.parent < nodes_up (nodes_of arena) arena.lists above.parent
  passing-less parent up is at =
      subst
      (λ o. nodes_up (nodes_of arena) arena.lists up.parent < nodes_up (nodes_of arena) arena.lists o)
      (sym is)
      (up-less (nodes_of arena) arena.lists was.bare.has.exact.forest parent.0 up at)

-- what a caller says of the node and of its parent
module _ (arena : Arena) (v : ℕ) (hidden : NodeId) where
  abbrev IsChildOf : Type 0
  IsChildOf = IsSomeAnd (nodes_of arena v) (λ (node : Node). IsSome node.koid × (node.parent ≡ Some hidden))

  both : IsChildOf → (o : Option Node) → nodes_of arena v ≡ o → IsSomeAnd o (λ (node : Node). IsSome node.koid × (node.parent ≡ Some hidden))
  both some o e = subst (λ (o : Option Node). IsSomeAnd o (λ (node : Node). IsSome node.koid × (node.parent ≡ Some hidden))) e some

  pub above-visible : IsChildOf → IsSomeAnd (nodes_of arena v) (λ (node : Node). IsSome node.koid)
  above-visible some = go (nodes_of arena v) refl
    where
      go : (o : Option Node) → nodes_of arena v ≡ o → IsSomeAnd (nodes_of arena v) (λ (node : Node). IsSome node.koid)
      go None e = absurd (both some None e)
      go (Some node) e = subst (λ (o : Option Node). IsSomeAnd o (λ (node : Node). IsSome node.koid)) (sym e) ((both some (Some node) e).0)

  pub above-parent : (node : Node) → IsChildOf → nodes_of arena v ≡ Some node → node.parent ≡ Some hidden
  above-parent node some at = (both some (Some node) at).1

  module _ (f : IsForest (nodes_of arena) arena.lists) (node : Node) where
    pub above-there : IsChildOf → nodes_of arena v ≡ Some node → IsSome (nodes_of arena hidden.0)
    above-there some at = ap is_some (f.by.below hidden.0 v node at (above-parent node some at)).at

    pub above-fits : (above : Node) → IsChildOf → nodes_of arena v ≡ Some node → nodes_of arena hidden.0 ≡ Some above → node.first + node.seen ≤ above.count
    above-fits above some at above_at =
        let below = f.by.below hidden.0 v node at (above-parent node some at) in
        subst (λ (n : Node). node.first + node.seen ≤ n.count) (some_same (sym below.at ∙ above_at)) below.window

    -- the two lists are two
    pub above-list : (above : Node) → IsChildOf → nodes_of arena v ≡ Some node → nodes_of arena hidden.0 ≡ Some above → above.list.0 ≢ node.list.0
    above-list above some at above_at same =
        let below = f.by.below hidden.0 v node at (above-parent node some at) in
        absurd (omega (arith, below.deeper, ap f.rank (f.by.own hidden.0 v above node above_at at same)))
