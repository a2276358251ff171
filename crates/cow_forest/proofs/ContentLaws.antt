-- What the content of the forest is, in the words of the tree: which pages are held, which frames are in use, and which VMOs
-- show one.
use Rattle.cow_forest.proofs.Words.{◌≡◌, ◌↔◌, ℕ, ◌<◌, ◌≤◌, true, false, not, ◌&&◌, ◌==◌, Option, None, Some, IsSome, refl, sym, ap, subst}
use Rattle.cow_forest.proofs.Words.{◌∙◌, inl, inr, arith, is_some, unwrap_or, cases_lt, cases_eq, cases_Bool, and_from, not-true}
use Rattle.cow_forest.proofs.Words.{common_steps, Koid, some_is, some_same, any_below_found, any_below_at, count_below_same, eqb_apart}
use Rattle.cow_forest.proofs.Words.{Page, pages_of, in_use, used, views, seen_elsewhere, sole, count_from_page, views_found, views_at}
use Rattle.cow_forest.proofs.Words.{sole-at, sole_from, Pool, taken_frames, taken_count, is_taken, frame_bytes, taken_count-is, Slot, Node}
use Rattle.cow_forest.proofs.Words.{NodeId, Side, nodes_of, link_to, IsVisible, Found, frame_shown, frame_in, frame_found, IsPage}
use Rattle.cow_forest.proofs.Words.{IsSeenFrom, IsLastViewer, all_in_sight, ShowsTag, node_in, Forest, tree, forest_content, count_from}
use Rattle.cow_forest.proofs.Words.{pages_in, frame_from, page_with_frame, page_showing, HasNode, IsStore}
use Rattle.std.specs.Cmp.{both_ways}
use Rattle.cow_arena.proofs.WalkLaws.{link_same, walk-own}
use Rattle.cow_arena.proofs.ReachLaws.{walk-ends}
use Rattle.cow_split.proofs.RowLaws.{frame-in_use}
use Rattle.cow_forest.proofs.LookLaws.{page-past}

-- the VMO v has the node k, and p is one of its pages
pub record HasPage (f : Forest) (v k p : ℕ) : Type 0 where
  pub node : HasNode f v k
  pub page : IsPage (tree f) k p

-- page p of the VMO v shows the frame t, by its node k
pub record ShownBy (f : Forest) (v k p t : ℕ) : Type 0 where
  pub page : HasPage f v k p
  pub frame : frame_shown (tree f) k p ≡ Some t

-- a page that is held shows a frame
pub frame-showing : (pool : Pool) (o : Option ℕ) (held : Page) → page_showing pool o ≡ Some held → (t : ℕ) × (o ≡ Some t) × (page_with_frame pool t ≡ held)
frame-showing pool None held e = absurd cc
frame-showing pool (Some t) held e = (t, refl, cc)

module _ (f : Forest) (s : IsStore f) where
  -- the VMO's node is visible
  pub node-visible : (v k : ℕ) (h : HasNode f v k) → IsVisible (nodes_of f.arena) k h.node
  node-visible v k h = record { at = h.is.at; koid = ap is_some h.is.has_koid }

  -- a VMO has a node
  pub vmo-node : (v : ℕ) → IsSome ((forest_content f).count v) → (k : ℕ) × (node_in f.nodes v ≡ link_to k) × HasNode f v k
  vmo-node v some = with_node (node_in f.nodes v) refl some
    where
      with_node : (o : Option NodeId) → node_in f.nodes v ≡ o → IsSome (count_from (nodes_of f.arena) o) →
          (k : ℕ) × (node_in f.nodes v ≡ link_to k) × HasNode f v k
      with_node None is some = absurd cc
      with_node (Some at) is some = (at.0, is, s.named v at is)

  -- no two VMOs have one node, and no VMO two
  pub node-of : (v k : ℕ) → HasNode f v k → node_in f.nodes v ≡ link_to k
  node-of v k h = s.nodes v k h.node h.is

  pub one-node : (v j k : ℕ) → HasNode f v j → HasNode f v k → j ≡ k
  one-node v j k here there = link_same (sym (node-of v j here) ∙ node-of v k there)

  pub one-vmo : (v w k : ℕ) → HasNode f v k → HasNode f w k → v ≡ w
  one-vmo v w k here there =
      let same : here.node ≡ there.node = some_same (sym here.is.at ∙ there.is.at) in
      let koid : here.is.koid ≡ there.is.koid = some_same (sym here.is.has_koid ∙ (ap (λ (node : Node). node.koid) same ∙ there.is.has_koid)) in
      sym here.is.number ∙ (ap (λ (name : Koid). name.0) koid ∙ there.is.number)

  -- a visible node is that of a VMO
  pub visible-vmo : (k : ℕ) (node : Node) → IsVisible (nodes_of f.arena) k node → (v : ℕ) × HasNode f v k
  visible-vmo k node visible =
      let koid = some_is node.koid visible.koid in
      (koid.0.0, record { node = node; is = record { at = visible.at; koid = koid.0; has_koid = koid.1; number = refl } })

  -- the pages of a VMO are those of its node, and one past the count shows no frame
  pub page-of : (v k p : ℕ) → HasNode f v k → (forest_content f).page v p ≡ page_showing f.pool (frame_shown (tree f) k p)
  page-of v k p h = ap (λ (o : Option NodeId). page_showing f.pool (frame_from (tree f) o p)) (node-of v k h)

  pub count-of : (v k : ℕ) (h : HasNode f v k) → (forest_content f).count v ≡ Some h.node.count
  count-of v k h = ap (count_from (nodes_of f.arena)) (node-of v k h) ∙ ap pages_in h.is.at

  pub pages-of : (v k : ℕ) (h : HasNode f v k) → pages_of (forest_content f) v ≡ h.node.count
  unfolding pages_of
  pages-of v k h = ap (λ (o : Option ℕ). unwrap_or o 0) (count-of v k h)

  pub frame-past : (k p : ℕ) (node : Node) → IsVisible (nodes_of f.arena) k node → node.count ≤ p → frame_shown (tree f) k p ≡ None
  frame-past k p node visible past = page-past (tree f) (is_taken f.pool, s.exact) k node visible p past

  -- a VMO has a node, of which p is a page
  pub page-node : (v p : ℕ) → p < pages_of (forest_content f) v → (k : ℕ) × (node_in f.nodes v ≡ link_to k) × HasPage f v k p
  page-node v p less =
      let it = vmo-node v (ap is_some (count_from_page (forest_content f) v p less)) in
      let count = pages-of v it.0 it.2 in
      (it.0, it.1, record { node = it.2; page = record { node = it.2.node; visible = node-visible v it.0 it.2; below = omega arith } })

  pub shown-page : (v p : ℕ) (held : Page) → (forest_content f).page v p ≡ Some held → (k : ℕ) × ShownBy f v k p held.tag × (held.bytes ≡ frame_bytes f.pool held.tag)
  shown-page v p held e = with_node (node_in f.nodes v) refl e
    where
      with_node : (o : Option NodeId) → node_in f.nodes v ≡ o → page_showing f.pool (frame_from (tree f) o p) ≡ Some held →
          (k : ℕ) × ShownBy f v k p held.tag × (held.bytes ≡ frame_bytes f.pool held.tag)
      with_node None is e = absurd cc
      with_node (Some at) is e =
          let h = s.named v at is in
          let found = frame-showing f.pool (frame_shown (tree f) at.0 p) held e in
          let below : p < h.node.count = elim (cases_lt p h.node.count) [
            | inl less ↦ less
            | inr past ↦ absurd (let none = frame-past at.0 p h.node (node-visible v at.0 h) past in let some = found.1 in cc)
          ] in
          let tag : found.0 ≡ held.tag = ap (λ (page : Page). page.tag) found.2 in (
            at.0,
            record {
              page = record { node = h; page = record { node = h.node; visible = node-visible v at.0 h; below = below } };
              frame = found.1 ∙ ap (λ t. Some t) tag;
            },
            ap (λ (page : Page). page.bytes) (sym found.2) ∙ ap (frame_bytes f.pool) tag,
          )

  pub page-shown : (v k p t : ℕ) → ShownBy f v k p t → (held : Page) × ShowsTag (forest_content f) t v p held
  page-shown v k p t shown = (page_with_frame f.pool t, record { page = page-of v k p shown.page.node ∙ ap (page_showing f.pool) shown.frame; tag = refl })

  -- a page of a visible node that shows a frame is that of a VMO
  pub vmo-shows : (k p t : ℕ) → IsPage (tree f) k p → frame_shown (tree f) k p ≡ Some t → (v : ℕ) × ShownBy f v k p t
  vmo-shows k p t page frame =
      let vmo = visible-vmo k page.node page.visible in
      (vmo.0, record { page = record { node = vmo.1; page = page }; frame = frame })

  -- who shows a frame
  pub shown-views : (v k p t : ℕ) → ShownBy f v k p t → views (forest_content f) t v ≡ true
  shown-views v k p t shown =
      let held = page-shown v k p t shown in
      let h = shown.page.node in
      let at = shown.page.page in
      let same : at.node ≡ h.node = some_same (sym at.visible.at ∙ h.is.at) in
      let below = at.below in
      let less : p < pages_of (forest_content f) v = omega (arith, pages-of v k h, ap (λ (node : Node). node.count) same) in
      views_at (forest_content f) t v p held.0 less held.1.page held.1.tag

  pub views-shown : (v t : ℕ) → (views (forest_content f) t v ≡ true) ↔ ((k p : ℕ) × ShownBy f v k p t)
  views-shown v t = (
    λ e.
        let found = views_found (forest_content f) t v e in
        let it = shown-page v found.0 found.1 found.3 in
        (it.0, found.0, subst (λ u. ShownBy f v it.0 found.0 u) found.4 it.1),
    λ it. shown-views v it.0 it.1 t it.2,
  )

  -- a row that a visible node sees is shown by a VMO
  seen-shown : (side : Side) (h q t : ℕ) (node : Node) (row : Slot) → nodes_of f.arena h ≡ Some node → (tree f).slots node.list.0 q ≡ Some row →
      frame_in row ≡ Some t → IsSeenFrom (tree f) all_in_sight side h q → (v k p : ℕ) × ShownBy f v k p t
  seen-shown side h q t node row at is frame seen =
      let it : Found = record { node = h; page = q; side = Some side; slot = seen.sees.slot } in
      let has = (walk-ends (tree f) s.exact.forest seen.v seen.p it seen.sees.found).row in
      let same : has.node ≡ node = some_same (sym has.at ∙ at) in
      let slot_is : seen.sees.slot ≡ row = some_same (sym has.row ∙ (ap (λ (n : Node). (tree f).slots n.list.0 q) same ∙ is)) in
      let shown = vmo-shows seen.v seen.p t seen.sees.page (ap frame_found seen.sees.found ∙ (ap frame_in slot_is ∙ frame)) in
      (shown.0, seen.v, seen.p, shown.1)

  -- a frame that is taken is shown
  pub taken-shown : (t : ℕ) → is_taken f.pool t ≡ true → (v k p : ℕ) × ShownBy f v k p t
  taken-shown t taken =
      let it = s.exact.stands t taken in
      let owner = s.exact.listed.listed it.l it.q it.row it.at in
      let at : (tree f).slots owner.node.list.0 it.q ≡ Some it.row = ap (λ l. (tree f).slots l it.q) owner.named ∙ it.at in
      with_koid owner.k owner.node owner.at it.q it.row at it.frame (owner.node.koid) refl
    where
      with_bits : (h : ℕ) (node : Node) → nodes_of f.arena h ≡ Some node → node.koid ≡ None → (q : ℕ) (row : Slot) → (tree f).slots node.list.0 q ≡ Some row →
          frame_in row ≡ Some t → (v k p : ℕ) × ShownBy f v k p t
      with_bits h node at hidden q Slot.Zero is frame = absurd cc
      with_bits h node at hidden q (Slot.Frame tag left right) is frame =
          let bits = s.exact.bits h q node tag left right at hidden is in
          elim (cases_Bool left) [
            | inl yes_left ↦
                let not_right : right ≡ false = let some = bits.is_seen in grind (arith, common_steps) in
                seen-shown Side.Right h q t node (Slot.Frame tag left right) at is frame (bits.right_bit.is_false not_right)
            | inr not_left ↦ seen-shown Side.Left h q t node (Slot.Frame tag left right) at is frame (bits.left_bit.is_false not_left)
          ]

      with_koid : (h : ℕ) (node : Node) → nodes_of f.arena h ≡ Some node → (q : ℕ) (row : Slot) → (tree f).slots node.list.0 q ≡ Some row →
          frame_in row ≡ Some t → (koid : Option Koid) → node.koid ≡ koid → (v k p : ℕ) × ShownBy f v k p t
      with_koid h node at q row is frame None hidden = with_bits h node at hidden q row is frame
      with_koid h node at q row is frame (Some koid) named =
          let visible : IsVisible (nodes_of f.arena) h node = record { at = at; koid = ap is_some named } in
          let page : IsPage (tree f) h q = record { node = node; visible = visible; below = s.exact.below h q node row visible is } in
          let shown = vmo-shows h q t page (ap frame_found (walk-own (tree f) s.exact.forest h q node row at is) ∙ frame) in
          (shown.0, h, q, shown.1)

  -- the koid of a VMO is below the next
  pub vmo-below : (v k : ℕ) → HasNode f v k → v < f.next
  vmo-below v k h = (s.koids v k h.node h.is).1

  -- the frames in use are those that are taken
  pub in_use-taken : (t : ℕ) → in_use (forest_content f) t ≡ is_taken f.pool t
  unfolding in_use
  in_use-taken t = both_ways (in_use (forest_content f) t) (is_taken f.pool t)
      (λ e.
      let koid = any_below_found f.next (views (forest_content f) t) e in
      let shown = (views-shown koid.0 t).0 koid.2 in
      frame-in_use (tree f) all_in_sight (is_taken f.pool) s.exact shown.0 shown.1 t shown.2.frame)
      (λ taken.
      let shown = taken-shown t taken in
      any_below_at f.next shown.0 (views (forest_content f) t) (vmo-below shown.0 shown.1 shown.3.page.node) (shown-views shown.0 shown.1 shown.2 t shown.3))

  pub used-taken : used (forest_content f) ≡ taken_count f.pool
  unfolding used
  used-taken = count_below_same f.pool.frames (in_use (forest_content f)) (λ t. is_some (taken_frames f.pool t)) (λ t h. in_use-taken t)
      ∙ sym (taken_count-is f.pool)

  pub sole-last : (v k p t : ℕ) → ShownBy f v k p t → (sole (forest_content f) v p ≡ true) ↔ IsLastViewer (tree f) k t
  unfolding seen_elsewhere
  sole-last v k p t shown =
      let held = page-shown v k p t shown in
      let h = shown.page.node in (
        λ alone w q page frame.
            let other = vmo-shows w q t page frame in
            let unseen : seen_elsewhere (forest_content f) held.0.tag v ≡ false = not-true (seen_elsewhere (forest_content f) held.0.tag v) (sym (sole-at (forest_content f) v p held.0 held.1.page) ∙ alone) in
            elim (cases_eq other.0 v) [
              | inl same ↦ one-node v w k (subst (λ u. HasNode f u w) same other.1.page.node) h
              | inr apart ↦
                  let shows : views (forest_content f) held.0.tag other.0 ≡ true = ap (λ u. views (forest_content f) u other.0) held.1.tag ∙ shown-views other.0 w q t other.1 in
                  absurd (let seen = any_below_at f.next other.0 (λ u. not (u == v) && views (forest_content f) held.0.tag u) (vmo-below other.0 w other.1.page.node)
                  (and_from (not (other.0 == v)) (views (forest_content f) held.0.tag other.0) (ap not (eqb_apart other.0 v apart)) shows) in cc)
            ],
        λ last. sole_from (forest_content f) v p held.0 held.1.page (λ w q other apart e tag.
            let it = shown-page w q other e in
            let same : it.0 ≡ k = last it.0 q it.1.page.page (it.1.frame ∙ ap (λ u. Some u) (tag ∙ held.1.tag)) in
            apart (one-vmo w v k (subst (HasNode f w) same it.1.page.node) h)),
      )

  -- the table leads from a VMO to its node
  pub vmo-found : (v : ℕ) → IsSome ((forest_content f).count v) → IsSome (node_in f.nodes v)
  vmo-found v some = ap is_some (vmo-node v some).1

  pub page-found : (v p : ℕ) → p < pages_of (forest_content f) v → IsSome (node_in f.nodes v)
  page-found v p less = ap is_some (page-node v p less).1

  pub page-at : (v p : ℕ) (at : NodeId) → p < pages_of (forest_content f) v → node_in f.nodes v ≡ Some at → HasPage f v at.0 p
  page-at v p at less found =
      let it = page-node v p less in
      subst (λ k. HasPage f v k p) (link_same (sym it.1 ∙ found)) it.2
