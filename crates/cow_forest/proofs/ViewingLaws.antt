-- Who shows a frame: those who see its row, from both sides or its own node, each of them once. So many VMOs view the frame,
-- and the least of their koids is its least viewer.
use Rattle.cow_forest.proofs.Words.{◌≡◌, ℕ, ◌+◌, ◌<◌, ◌≤◌, Bool, true, false, List, [], ◌∷◌, ◌++◌, length, Option, None, Some, refl, sym}
use Rattle.cow_forest.proofs.Words.{ap, subst, ◌∙◌, inl, inr, arith, eqb, nat_lt, is_some, IsSome, IsSomeAnd, IfSome, IfNone, MatchOption}
use Rattle.cow_forest.proofs.Words.{if◌then◌else◌, Contains, IsDistinct, cases_Bool, eqb-true, false_from_ne_true, nat_tests, common_steps}
use Rattle.cow_forest.proofs.Words.{Contains-append_left, Contains-append_right, Contains-append_cases, Koid, some_same, Page, views}
use Rattle.cow_forest.proofs.Words.{viewers, IsLeastViewer, Backlink, links_of, Slot, Node, NodeId, Side, Nodes, nodes_of, link_to}
use Rattle.cow_forest.proofs.Words.{other_side, IsVisible, Tree, Found, walk, frame_shown, frame_in, frame_found, Holder, holder_of, Sees}
use Rattle.cow_forest.proofs.Words.{IsSeenFrom, IsExact, all_in_sight, HasKoid, HasLesser, IsBelowAll, IsLeastKoid, lesser_of, IsShown}
use Rattle.cow_forest.proofs.Words.{ShowsFrame, AreViewers, IsViewerCount, IsLeastKoidOf, HasLesserOf, HasFrameRow, node_in, Forest, tree}
use Rattle.cow_forest.proofs.Words.{forest_content, page_showing, HasNode, IsStore, append-nil, length-append, viewers_from}
use Rattle.std.proofs.lemmas.Map.Steps.{length-le_from_distinct_below}
use Rattle.std.proofs.lemmas.Map.Views.{Contains-from_any}
use Rattle.cow_arena.proofs.WalkLaws.{link_same, walk-own}
use Rattle.cow_arena.proofs.ReachLaws.{walk-ends, reach-hidden, hidden-apart}
use Rattle.cow_split.proofs.FoundLaws.{koid-once}
use Rattle.cow_split.proofs.HolderLaws.{found-above, held-row}
use Rattle.cow_split.proofs.RowLaws.{frame-shown}
use Rattle.cow_split.proofs.SearchLaws.{contains-none, contains-one, contains-first}
use Rattle.cow_split.proofs.ViewersLaws.{distinct-append, distinct-one, viewer-visible, viewer-sees, viewer-side, viewers-distinct}
use Rattle.cow_fork.proofs.HolderLaws.{held-shown}
use Rattle.cow_forest.proofs.ContentLaws.{ShownBy, frame-showing, page-of, one-node, vmo-shows, shown-views, views-shown, vmo-below}
use Rattle.cow_forest.proofs.FrameLaws.{shown-taken}
use Rattle.cow_forest.proofs.CountLaws.{AreNumbered, count_below_numbered}

-- ---- the least koid

-- the lesser of the least koids of two lists is the least of both
pub least-joined : (nodes : Nodes) (xs ys : List ℕ) (one other : Option Koid) → MatchOption one (xs ≡ []) (λ koid. IsLeastKoid nodes xs koid) →
    MatchOption other (ys ≡ []) (λ koid. IsLeastKoid nodes ys koid) →
    MatchOption (lesser_of one other) (xs ++ ys ≡ []) (λ koid. IsLeastKoid nodes (xs ++ ys) koid)
least-joined nodes xs ys None other none there =
    subst (λ list. MatchOption other (list ++ ys ≡ []) (λ koid. IsLeastKoid nodes (list ++ ys) koid)) (sym none) there
least-joined nodes xs ys (Some one) None here none = subst (λ list. IsLeastKoid nodes (xs ++ list) one) (sym none)
    (subst (λ list. IsLeastKoid nodes list one) (sym (append-nil xs)) here)
least-joined nodes xs ys (Some one) (Some other) here there = with_test (nat_lt other.0 one.0) refl
  where
    below : (least : Koid) → least.0 ≤ one.0 → least.0 ≤ other.0 → (w : ℕ) (its : Koid) → Contains (xs ++ ys) w → HasKoid nodes w its → least.0 ≤ its.0
    below least first second w its inside has = elim (Contains-append_cases xs ys w inside) [
      | inl left ↦ (let above = here.least w its left has in omega arith)
      | inr right ↦ (let above = there.least w its right has in omega arith)
    ]

    with_test : (b : Bool) → nat_lt other.0 one.0 ≡ b →
        MatchOption (if b then Some other else Some one) (xs ++ ys ≡ []) (λ koid. IsLeastKoid nodes (xs ++ ys) koid)
    with_test true e =
        let less : other.0 < one.0 = grind (arith, nat_tests) in
        record { v = there.v; inside = Contains-append_right xs ys there.v there.inside; has = there.has; least = below other (omega arith) (omega arith) }
    with_test false e =
        let most : one.0 ≤ other.0 = grind (arith, nat_tests) in
        record { v = here.v; inside = Contains-append_left xs ys here.v here.inside; has = here.has; least = below one (omega arith) most }

-- ---- who sees a row

module _ (t : Tree) (exact : (in_use : ℕ → Bool) × IsExact t all_in_sight in_use) where
  -- who shows a frame sees the row where it stands
  pub sees-row : (h q tag k : ℕ) → HasFrameRow t h q tag → (shows : ShowsFrame t tag k) → (from : Option Side) × Sees t k shows.p from h q
  sees-row h q tag k has shows =
      let shown = frame-shown t k shows.p tag shows.frame in
      let row = (walk-ends t exact.1.forest k shows.p shown.it shown.found).row in
      let place = exact.1.once row.node.list.0 shown.it.page has.row.node.list.0 q tag shown.it.slot has.slot row.row has.row.row shown.frame has.frame in
      let at : shown.it.node ≡ h = exact.1.forest.by.own shown.it.node h row.node has.row.node row.at has.row.at place.0 in (
        shown.it.side,
        record {
          page = shows.page;
          slot = shown.it.slot;
          found = shown.found ∙ (λ i. Some (record { node = at i; page = place.1 i; side = shown.it.side; slot = shown.it.slot }));
        },
      )

  -- and who sees that row shows the frame
  shows-row : (h q tag k p : ℕ) (from : Option Side) → HasFrameRow t h q tag → Sees t k p from h q → ShowsFrame t tag k
  shows-row h q tag k p from has sees =
      let it : Found = record { node = h; page = q; side = from; slot = sees.slot } in
      let row = (walk-ends t exact.1.forest k p it sees.found).row in
      let same : row.node ≡ has.row.node = some_same (sym row.at ∙ has.row.at) in
      let slot_is : sees.slot ≡ has.slot = some_same (sym row.row ∙ (ap (λ (n : Node). t.slots n.list.0 q) same ∙ has.row.row)) in
      record { p = p; page = sees.page; frame = ap frame_found sees.found ∙ (ap frame_in slot_is ∙ has.frame) }

  -- ---- the row of a visible node

  module _ (h q tag : ℕ) (has : HasFrameRow t h q tag) (visible : IsVisible t.nodes h has.row.node) where
    -- it alone sees its row
    sees-own : (k p : ℕ) (from : Option Side) → Sees t k p from h q → k ≡ h
    sees-own k p None sees = (walk-ends t exact.1.forest k p (record { node = h; page = q; side = None; slot = sees.slot }) sees.found).way.0
    sees-own k p (Some from) sees =
        let ends = walk-ends t exact.1.forest k p (record { node = h; page = q; side = Some from; slot = sees.slot }) sees.found in
        let above = reach-hidden t exact.1.forest k p from h q ends.way in
        absurd (hidden-apart t exact.1.forest h h above.0 has.row.node above.1 above.2 visible refl)

    own-shows : ShowsFrame t tag h
    own-shows = record {
      p = q;
      page = record { node = has.row.node; visible = visible; below = exact.1.below h q has.row.node has.slot visible has.row.row };
      frame = ap frame_found (walk-own t exact.1.forest h q has.row.node has.slot has.row.at has.row.row) ∙ has.frame;
    }

    pub own-viewers : AreViewers t tag (h ∷ [])
    own-viewers = record {
      each = λ k. (
        λ inside. subst (ShowsFrame t tag) (contains-one h k inside) own-shows,
        λ shows.
            let sees = sees-row h q tag k has shows in
            subst (Contains (h ∷ [])) (sym (sees-own k shows.p sees.0 sees.1)) (contains-first h []),
      );
      once = distinct-one h;
    }

  -- ---- the row of a hidden node

  -- those who are found on both sides
  abbrev pub both_sides : ℕ → ℕ → List ℕ
  both_sides h q = viewers_from t None Side.Left h q ++ viewers_from t None Side.Right h q

  on-both : (h q : ℕ) (from : Side) (v : ℕ) → Contains (viewers_from t None from h q) v → Contains (both_sides h q) v
  on-both h q Side.Left v inside = Contains-append_left (viewers_from t None Side.Left h q) (viewers_from t None Side.Right h q) v inside
  on-both h q Side.Right v inside = Contains-append_right (viewers_from t None Side.Left h q) (viewers_from t None Side.Right h q) v inside

  both-distinct : (h q : ℕ) → IsDistinct eqb (both_sides h q)
  both-distinct h q = distinct-append (viewers_from t None Side.Left h q) (viewers_from t None Side.Right h q)
      (viewers-distinct t exact.1.forest None Side.Left h q) (viewers-distinct t exact.1.forest None Side.Right h q)
      (viewer-side t exact.1.forest h q)

  -- there are not more than numbers of nodes
  pub both-few : (h q room : ℕ) → ((k : ℕ) → IsSome (t.nodes k) → k < room) →
      length (viewers_from t None Side.Left h q) + length (viewers_from t None Side.Right h q) ≤ room
  both-few h q room below =
      let parts = length-append (viewers_from t None Side.Left h q) (viewers_from t None Side.Right h q) in
      let few = length-le_from_distinct_below (both_sides h q) room (both-distinct h q) (λ v any. inside v (Contains-from_any eqb-true v (both_sides h q) any)) in
      omega arith
    where
      there : (from : Side) (v : ℕ) → Contains (viewers_from t None from h q) v → v < room
      there from v in_list = let it = viewer-visible t exact.1.forest None from h q v in_list in below v (subst IsSome (sym it.1.at) refl)

      inside : (v : ℕ) → Contains (both_sides h q) v → v < room
      inside v in_both = elim (Contains-append_cases (viewers_from t None Side.Left h q) (viewers_from t None Side.Right h q) v in_both) [
        | inl left ↦ there Side.Left v left
        | inr right ↦ there Side.Right v right
      ]

  module _ (h q tag : ℕ) (has : HasFrameRow t h q tag) (hidden : has.row.node.koid ≡ None) where
    side-found : (from : Side) (k p : ℕ) → Sees t k p (Some from) h q → Contains (viewers_from t None from h q) k
    side-found from k p sees = (viewer-sees t exact.1.forest from h q has.slot has.row k).1 (p, sees)

    -- who sees the row is found on a side
    sees-above : (k p : ℕ) (from : Option Side) → Sees t k p from h q → Contains (both_sides h q) k
    sees-above k p None sees =
        let way = (walk-ends t exact.1.forest k p (record { node = h; page = q; side = None; slot = sees.slot }) sees.found).way in
        absurd (hidden-apart t exact.1.forest h k has.row.node sees.page.node has.row.at hidden sees.page.visible (sym way.0))
    sees-above k p (Some from) sees = on-both h q from k (side-found from k p sees)

    side-shows : (from : Side) (k : ℕ) → Contains (viewers_from t None from h q) k → ShowsFrame t tag k
    side-shows from k inside =
        let sees = (viewer-sees t exact.1.forest from h q has.slot has.row k).0 inside in
        shows-row h q tag k sees.0 (Some from) has sees.1

    pub above-viewers : AreViewers t tag (both_sides h q)
    above-viewers = record {
      each = λ k. (
        λ inside. elim (Contains-append_cases (viewers_from t None Side.Left h q) (viewers_from t None Side.Right h q) k inside) [
          | inl left ↦ side-shows Side.Left k left
          | inr right ↦ side-shows Side.Right k right
        ],
        λ shows. let sees = sees-row h q tag k has shows in sees-above k shows.p sees.0 sees.1,
      );
      once = both-distinct h q;
    }

    -- some node sees it
    pub above-some : both_sides h q ≡ [] → ⊥
    above-some nobody = with_slot has.slot has.row.row has.frame
      where
        sees-none : (from : Side) → IsSeenFrom t all_in_sight from h q → ⊥
        sees-none from seen = contains-none seen.v (subst (λ list. Contains list seen.v) nobody (sees-above seen.v seen.p (Some from) seen.sees))

        with_slot : (row : Slot) → t.slots has.row.node.list.0 q ≡ Some row → frame_in row ≡ Some tag → ⊥
        with_slot Slot.Zero at frame = cc
        with_slot (Slot.Frame its left right) at frame =
            let bits = exact.1.bits h q has.row.node its left right has.row.at hidden at in
            elim (cases_Bool left) [
              | inl clear_left ↦ sees-none Side.Right (bits.right_bit.is_false (let some = bits.is_seen in grind (arith, common_steps)))
              | inr not_left ↦ sees-none Side.Left (bits.left_bit.is_false not_left)
            ]

  -- ---- what is answered

  -- so many show the frame of a row of a hidden node
  pub count-above : (h q left right : ℕ) → IsSomeAnd (t.nodes h) (λ node. node.koid ≡ None) → left ≡ length (viewers_from t None Side.Left h q) →
      right ≡ length (viewers_from t None Side.Right h q) → (tag : ℕ) → HasFrameRow t h q tag → IsViewerCount t tag (left + right)
  count-above h q left right hidden left_is right_is tag has = record {
    list = both_sides h q;
    viewers = above-viewers h q tag has (subst (λ o. IsSomeAnd o (λ (node : Node). node.koid ≡ None)) has.row.at hidden);
    count_is = let parts = length-append (viewers_from t None Side.Left h q) (viewers_from t None Side.Right h q) in omega arith;
  }

  -- and one that of a row of a visible node
  pub count-own : (h q tag : ℕ) (has : HasFrameRow t h q tag) → IsVisible t.nodes h has.row.node → IsViewerCount t tag 1
  count-own h q tag has visible = record { list = h ∷ []; viewers = own-viewers h q tag has visible; count_is = refl }

  -- the row above that holds a page
  module _ (k p : ℕ) (h : NodeId) (q : ℕ) (from : Side) (row : Slot) (held : Holder.Above h q from row ≡ holder_of (walk t k p)) where
    pub held-hidden : IsSomeAnd (t.nodes h.0) (λ node. node.koid ≡ None)
    held-hidden =
        let it : Found = record { node = h.0; page = q; side = Some from; slot = row } in
        let above = reach-hidden t exact.1.forest k p from h.0 q
        (walk-ends t exact.1.forest k p it (found-above (walk t k p) h q from row held)).way in
        subst (λ o. IsSomeAnd o (λ (node : Node). node.koid ≡ None)) (sym above.1) above.2

    pub held-frame : (tag : ℕ) → frame_shown t k p ≡ Some tag → HasFrameRow t h.0 q tag
    held-frame tag shown = record {
      slot = row;
      row = held-row t exact.1.forest k p h q from row held;
      frame = held-shown t k p (Holder.Above h q from row) held ∙ shown;
    }

  -- the koid of a visible node is the least that shows the frame of its row
  pub least-own : (h q : ℕ) (node : Node) (koid : Koid) → t.nodes h ≡ Some node → node.koid ≡ Some koid → (tag : ℕ) → HasFrameRow t h q tag →
      IsLeastKoidOf t tag koid
  least-own h q node koid at named tag has =
      let same : node ≡ has.row.node = some_same (sym at ∙ has.row.at) in
      let its : has.row.node.koid ≡ Some koid = ap (λ (n : Node). n.koid) (sym same) ∙ named in
      record {
        list = h ∷ [];
        viewers = own-viewers h q tag has (record { at = has.row.at; koid = subst IsSome (sym its) refl });
        least = record {
          v = h;
          inside = contains-first h [];
          has = record { node = node; at = at; koid_is = named };
          least = λ w other inside its.
              let alone = contains-one h w inside in
              let one = koid-once t.nodes h koid other (record { node = node; at = at; koid_is = named }) (subst (λ n. HasKoid t.nodes n other) (sym alone) its) in
              omega (arith, ap (λ (name : Koid). name.0) one);
        };
      }

  -- and the lesser of both sides' least koids that of a hidden node's row
  pub least-above : (h q : ℕ) (node : Node) → t.nodes h ≡ Some node → node.koid ≡ None → (one other answer : Option Koid) →
      MatchOption one (viewers_from t None Side.Left h q ≡ []) (λ koid. IsLeastKoid t.nodes (viewers_from t None Side.Left h q) koid) →
      MatchOption other (viewers_from t None Side.Right h q ≡ []) (λ koid. IsLeastKoid t.nodes (viewers_from t None Side.Right h q) koid) →
      answer ≡ lesser_of one other → (tag : ℕ) → HasFrameRow t h q tag → MatchOption answer ⊥ (λ koid. IsLeastKoidOf t tag koid)
  least-above h q node at hidden one other answer left right is tag has =
      with_answer answer (subst (λ o. MatchOption o (both_sides h q ≡ []) (λ koid. IsLeastKoid t.nodes (both_sides h q) koid)) (sym is)
      (least-joined t.nodes (viewers_from t None Side.Left h q) (viewers_from t None Side.Right h q) one other left right))
    where
      its : has.row.node.koid ≡ None
      its = ap (λ (n : Node). n.koid) (some_same (sym has.row.at ∙ at)) ∙ hidden

      with_answer : (o : Option Koid) → MatchOption o (both_sides h q ≡ []) (λ koid. IsLeastKoid t.nodes (both_sides h q) koid) →
          MatchOption o ⊥ (λ koid. IsLeastKoidOf t tag koid)
      with_answer None nobody = above-some h q tag has its nobody
      with_answer (Some koid) least = record { list = both_sides h q; viewers = above-viewers h q tag has its; least = least }

  -- ---- a koid that is less than another

  -- the answer for a row of a visible node
  pub lesser-own : (h q : ℕ) (node : Node) (own koid : Koid) → t.nodes h ≡ Some node → node.koid ≡ Some own → (answer : Option Koid) →
      MatchOption answer (koid.0 ≤ own.0) (λ less. (less ≡ own) × (own.0 < koid.0)) → (tag : ℕ) → HasFrameRow t h q tag → HasLesserOf t tag koid answer
  lesser-own h q node own koid at named answer is tag has =
      let it = least-own h q node own at named tag has in
      record { list = it.list; viewers = it.viewers; answer_is = with_answer it answer is }
    where
      with_answer : (it : IsLeastKoidOf t tag own) (o : Option Koid) → MatchOption o (koid.0 ≤ own.0) (λ less. (less ≡ own) × (own.0 < koid.0)) →
          MatchOption o (IsBelowAll t.nodes it.list koid) (λ less. HasLesser t.nodes it.list koid less)
      with_answer it None most = λ w other inside its. let above = it.least.least w other inside its in omega (arith, most, above)
      with_answer it (Some less) found = record {
        v = it.least.v;
        inside = it.least.inside;
        has = subst (λ (k : Koid). HasKoid t.nodes it.least.v k) (sym found.0) it.least.has;
        below = subst (λ (k : Koid). k.0 < koid.0) (sym found.0) found.1;
      }

  module _ (h q : ℕ) (node : Node) (at : t.nodes h ≡ Some node) (hidden : node.koid ≡ None) (koid : Koid) (tag : ℕ) (has : HasFrameRow t h q tag) where
    its-hidden : has.row.node.koid ≡ None
    its-hidden = ap (λ (n : Node). n.koid) (some_same (sym has.row.at ∙ at)) ∙ hidden

    -- it is found on a side
    pub lesser-above : (from : Side) (less : Koid) → HasLesser t.nodes (viewers_from t None from h q) koid less → HasLesserOf t tag koid (Some less)
    lesser-above from less found = record {
      list = both_sides h q;
      viewers = above-viewers h q tag has its-hidden;
      answer_is = record { v = found.v; inside = on-both h q from found.v found.inside; has = found.has; below = found.below };
    }

    below-both : (from : Side) → IsBelowAll t.nodes (viewers_from t None from h q) koid → IsBelowAll t.nodes (viewers_from t None (other_side from) h q) koid →
        IsBelowAll t.nodes (both_sides h q) koid
    below-both Side.Left here there w other inside its = elim (Contains-append_cases (viewers_from t None Side.Left h q) (viewers_from t None Side.Right h q) w inside) [
      | inl left ↦ here w other left its
      | inr right ↦ there w other right its
    ]
    below-both Side.Right here there w other inside its = elim (Contains-append_cases (viewers_from t None Side.Left h q) (viewers_from t None Side.Right h q) w inside) [
      | inl left ↦ there w other left its
      | inr right ↦ here w other right its
    ]

    -- or on none
    pub lesser-beside : (from : Side) (answer : Option Koid) → IsBelowAll t.nodes (viewers_from t None from h q) koid →
        MatchOption answer (IsBelowAll t.nodes (viewers_from t None (other_side from) h q) koid)
        (λ less. HasLesser t.nodes (viewers_from t None (other_side from) h q) koid less) → HasLesserOf t tag koid answer
    lesser-beside from None here there = record {
      list = both_sides h q;
      viewers = above-viewers h q tag has its-hidden;
      answer_is = below-both from here there;
    }
    lesser-beside from (Some less) here found = lesser-above (other_side from) less found

-- ---- who views a frame

-- the number of the koid of a node, 0 where there is none
abbrev koid_number : Option Koid → ℕ
koid_number None = 0
koid_number (Some koid) = koid.0

abbrev number_in : Option Node → ℕ
number_in None = 0
number_in (Some node) = koid_number node.koid

module _ (f : Forest) (s : IsStore f) where
  number-of : (v k : ℕ) → HasNode f v k → number_in (nodes_of f.arena k) ≡ v
  number-of v k h = ap number_in h.is.at ∙ (ap koid_number h.is.has_koid ∙ h.is.number)

  -- a node that shows a frame is that of a VMO
  vmo-of : (tag k : ℕ) (shows : ShowsFrame (tree f) tag k) → (v : ℕ) × ShownBy f v k shows.p tag
  vmo-of tag k shows = vmo-shows f s k shows.p tag shows.page shows.frame

module _ (f : Forest) (s : IsStore f) (tag : ℕ) (list : List ℕ) (are : AreViewers (tree f) tag list) where
  -- the koids of the nodes are those that view the frame
  viewers-numbered : AreNumbered (λ k. number_in (nodes_of f.arena k)) f.next (views (forest_content f) tag) list
  viewers-numbered = record {
    once = are.once;
    apart = λ j k in_j in_k same.
        let one = vmo-of f s tag j ((are.each j).0 in_j) in
        let other = vmo-of f s tag k ((are.each k).0 in_k) in
        let vmo : one.0 ≡ other.0 = sym (number-of f s one.0 j one.1.page.node) ∙ (same ∙ number-of f s other.0 k other.1.page.node) in
        one-node f s other.0 j k (subst (λ v. HasNode f v j) vmo one.1.page.node) other.1.page.node;
    passes = λ k inside.
        let shows = (are.each k).0 inside in
        let it = vmo-of f s tag k shows in
        let number = sym (number-of f s it.0 k it.1.page.node) in (
          subst (λ v. v < f.next) number (vmo-below f s it.0 k it.1.page.node),
          subst (λ v. views (forest_content f) tag v ≡ true) number (shown-views f s it.0 k shows.p tag it.1),
        );
    found = λ v below e.
        let it = (views-shown f s v tag).0 e in
        (it.0, (are.each it.0).1 (record { p = it.1; page = it.2.page.page; frame = it.2.frame }), number-of f s v it.0 it.2.page.node);
  }

  pub viewers-listed : viewers (forest_content f) tag ≡ length list
  unfolding viewers
  viewers-listed = count_below_numbered (λ k. number_in (nodes_of f.arena k)) f.next (views (forest_content f) tag) list viewers-numbered

  -- a node of the list is that of a VMO which views the frame
  viewer-views : (v : ℕ) (koid : Koid) → Contains list v → HasKoid (nodes_of f.arena) v koid → views (forest_content f) tag koid.0 ≡ true
  viewer-views v koid inside has =
      let shows = (are.each v).0 inside in
      let it = vmo-of f s tag v shows in
      let number : it.0 ≡ koid.0 = sym (number-of f s it.0 v it.1.page.node) ∙ (ap number_in has.at ∙ ap koid_number has.koid_is) in
      subst (λ w. views (forest_content f) tag w ≡ true) number (shown-views f s it.0 v shows.p tag it.1)

  -- and each VMO that views it has a node there
  views-viewer : (w : ℕ) → views (forest_content f) tag w ≡ true →
      (v : ℕ) × (koid : Koid) × Contains list v × HasKoid (nodes_of f.arena) v koid × (koid.0 ≡ w)
  views-viewer w e =
      let it = (views-shown f s w tag).0 e in
      let its = it.2.page.node in
      let inside = (are.each it.0).1 (record { p = it.1; page = it.2.page.page; frame = it.2.frame }) in
      (it.0, its.is.koid, inside, record { node = its.node; at = its.is.at; koid_is = its.is.has_koid }, its.is.number)

  pub least-viewer : (koid : Koid) → IsLeastKoid (nodes_of f.arena) list koid → IsLeastViewer (forest_content f) tag koid.0
  least-viewer koid least = record {
    shows = viewer-views least.v koid least.inside least.has;
    least = λ w below. false_from_ne_true (views (forest_content f) tag w) (λ e.
        let it = views-viewer w e in absurd (omega (arith, least.least it.0 it.1 it.2 it.3, it.4)));
  }

  -- a koid that is less is that of a VMO which views the frame, and without one there is no such VMO
  pub lesser-viewer : (koid : Koid) (answer : Option Koid) → MatchOption answer (IsBelowAll (nodes_of f.arena) list koid) (λ less. HasLesser (nodes_of f.arena) list koid less) →
      IfSome answer (λ less. (less.0 < koid.0) × (views (forest_content f) tag less.0 ≡ true)) × IfNone answer ((w : ℕ) → w < koid.0 → views (forest_content f) tag w ≡ false)
  lesser-viewer koid None none = (
    tt,
    λ w below. false_from_ne_true (views (forest_content f) tag w) (λ e.
        let it = views-viewer w e in absurd (omega (arith, none it.0 it.1 it.2 it.3, it.4))),
  )
  lesser-viewer koid (Some less) found = ((found.below, viewer-views found.v less found.inside found.has), tt)

module _ (f : Forest) (s : IsStore f) where
  -- a frame that is shown stands in a row, to which its backlink leads: its list is that of a node
  owned-row : (tag : ℕ) (link : Backlink) → IsShown (forest_content f) tag → link ≡ links_of f.pool tag →
      (k : ℕ) × (node_in f.owners link.list ≡ link_to k) × HasFrameRow (tree f) k link.page tag
  owned-row tag link shown is =
      let it = s.exact.stands tag (shown-taken f s tag shown) in
      let owner = s.exact.listed.listed it.l it.q it.row it.at in
      let place = is ∙ s.linked.linked it.l it.q it.row tag it.at it.frame in
      let list : link.list ≡ owner.node.list.0 = ap (λ (b : Backlink). b.list) place ∙ sym owner.named in
      let page : link.page ≡ it.q = ap (λ (b : Backlink). b.page) place in (
        owner.k,
        ap (node_in f.owners) list ∙ s.owners owner.k owner.node owner.at,
        record {
          slot = it.row;
          row = record {
            node = owner.node;
            at = owner.at;
            row = ap (λ l. (tree f).slots l link.page) owner.named ∙ (ap ((tree f).slots it.l) page ∙ it.at);
          };
          frame = it.frame;
        },
      )

  pub link-owned : (tag : ℕ) (link : Backlink) → IsShown (forest_content f) tag → link ≡ links_of f.pool tag → IsSome (node_in f.owners link.list)
  link-owned tag link shown is = ap is_some (owned-row tag link shown is).1

  pub link-row : (tag : ℕ) (link : Backlink) (node : NodeId) → IsShown (forest_content f) tag → link ≡ links_of f.pool tag →
      node_in f.owners link.list ≡ Some node → HasFrameRow (tree f) node.0 link.page tag
  link-row tag link node shown is owner =
      let it = owned-row tag link shown is in subst (λ k. HasFrameRow (tree f) k link.page tag) (link_same (sym it.1 ∙ owner)) it.2

  -- so many VMOs view the frame of a page that is held
  pub viewers-counted : (v k p count : ℕ) → HasNode f v k → ((tag : ℕ) → frame_shown (tree f) k p ≡ Some tag → IsViewerCount (tree f) tag count) →
      IfSome ((forest_content f).page v p) (λ held. count ≡ viewers (forest_content f) held.tag)
  viewers-counted v k p count h counted = with_page ((forest_content f).page v p) (sym (page-of f s v k p h))
    where
      with_page : (o : Option Page) → page_showing f.pool (frame_shown (tree f) k p) ≡ o → IfSome o (λ held. count ≡ viewers (forest_content f) held.tag)
      with_page None is = tt
      with_page (Some held) is =
          let frame = frame-showing f.pool (frame_shown (tree f) k p) held is in
          let it = counted held.tag (frame.1 ∙ ap (λ (page : Page). Some page.tag) frame.2) in
          it.count_is ∙ sym (viewers-listed f s held.tag it.list it.viewers)
