-- Laws of a search below a node: what it meets at a node, and where it goes on.
use Rattle.cow_split.proofs.Words.{◌≡◌, ◌≢◌, ℕ, ◌+◌, ◌-◌, ◌<◌, ◌≤◌, ◌^◌, Bool, true, false, List, [], ◌++◌, Option, None, Some, ◌⊎◌, inl}
use Rattle.cow_split.proofs.Words.{inr, refl, sym, ap, ◌∙◌, subst, append_assoc, arith, IsSome, is_some, append-nil, Koid, some_same, Slot}
use Rattle.cow_split.proofs.Words.{if◌then◌else◌, ◌∷◌, NodeId, Node, Side, link_to, leads_to, child_on, side_of, side_in, Tree, IsForest}
use Rattle.cow_split.proofs.Words.{HasPair, viewers_from, Cursor, viewers_at, IsThrough, IsOnward, OnWay, at_start, to_left, to_right}
use Rattle.cow_split.proofs.Words.{FoundBelow, IsPassed, GoesOn, IsAhead, IsMet, viewer_met}
use Rattle.cow_arena.proofs.WalkLaws.{link_same}
use Rattle.cow_arena.proofs.ReachLaws.{hidden-of-child, child-there, side-of-child}
use Rattle.cow_split.proofs.SearchLaws.{IsOpen, viewed, further_down, enters-of-found, found-within, met-leaf, met-through, none-in}
use Rattle.cow_split.proofs.SearchLaws.{down-none, deeper-child}

module _ (t : Tree) (f : IsForest t.nodes t.lists) (except : Option NodeId) where
  -- ---- what is met at a node

  not-open : (k q : ℕ) (node : Node) → t.nodes k ≡ Some node → (IsOpen t.slots node q → ⊥) → viewers_at t except (link_to k) q ≡ []
  not-open k q node at shut = none-in (viewers_at t except (link_to k) q) (λ v holds. elim (enters-of-found t f except k q v node at holds) [
    | viewed o some counts same ↦ shut o
    | further_down o none s c child lower ↦ shut o
  ])

  pub met-before : (k q : ℕ) (node : Node) → t.nodes k ≡ Some node → q < node.first → viewers_at t except (link_to k) q ≡ []
  met-before k q node at before = not-open k q node at (λ o. let from = o.from in omega arith)

  pub met-past : (k q p : ℕ) (node : Node) → t.nodes k ≡ Some node → q ≡ p + node.first → node.seen ≤ p → viewers_at t except (link_to k) q ≡ []
  met-past k q p node at page past = not-open k q node at (λ o. let to = o.to in omega arith)

  pub met-row : (k q p : ℕ) (node : Node) (o : Option Slot) → t.nodes k ≡ Some node → q ≡ p + node.first → o ≡ t.slots node.list.0 p →
      is_some o ≡ true → viewers_at t except (link_to k) q ≡ []
  met-row k q p node o at page is some = not-open k q node at (λ open_at.
      let same : q - node.first ≡ p = omega arith in
      let free : t.slots node.list.0 p ≡ None = subst (λ p. t.slots node.list.0 p ≡ None) same open_at.free in
      let none : is_some o ≡ false = ap is_some (is ∙ free) in
      cc)

  -- a node that lacks a child is visible
  pub visible-leaf : (k : ℕ) (node : Node) (s : Side) → t.nodes k ≡ Some node → child_on node s ≡ None → IsSome node.koid
  visible-leaf k node s at leaf = with_koid node.koid refl
    where
      lacks : (s : Side) → child_on node s ≡ None → HasPair t.nodes k node → ⊥
      lacks Side.Left none pair = absurd (let left = pair.left_is in cc)
      lacks Side.Right none pair = absurd (let right = pair.right_is in cc)

      with_koid : (o : Option Koid) → node.koid ≡ o → IsSome o
      with_koid (Some koid) e = refl
      with_koid None e = absurd (lacks s leaf (f.by.pairs k node at e))

  pub met-viewer : (k q p : ℕ) (node : Node) → t.nodes k ≡ Some node → q ≡ p + node.first → p < node.seen → t.slots node.list.0 p ≡ None →
      node.left ≡ None → IsMet t except k q (viewer_met (leads_to except k))
  met-viewer k q p node at page inside free leaf = with_test (leads_to except k) refl
    where
      met : viewers_at t except (link_to k) q ≡ (if leads_to except k then [] else k ∷ [])
      met = ap (viewers_at t except (link_to k)) page
          ∙ (found-within t f except k p node at inside ∙ met-leaf t f except k p node (visible-leaf k node Side.Left at leaf) free)

      with_test : (b : Bool) → leads_to except k ≡ b → IsMet t except k q (viewer_met b)
      with_test false e = met ∙ ap (λ (b : Bool). if b then [] else k ∷ []) e
      with_test true e = met ∙ ap (λ (b : Bool). if b then [] else k ∷ []) e

  pub met-below : (k q p : ℕ) (node : Node) (left : NodeId) → t.nodes k ≡ Some node → q ≡ p + node.first → p < node.seen →
      t.slots node.list.0 p ≡ None → node.left ≡ Some left → IsOnward t k q left.0 p
  met-below k q p node left at page inside free is = record {
    node = node;
    through = record { at = at; hidden = hidden-of-child t.nodes t.lists f k left.0 node Side.Left at is; inside = inside; free = free };
    page = page;
    left = is;
  }

  -- what is found at a hidden node through which the search goes on is found below its children
  pub found-through : (k p : ℕ) (node : Node) → IsThrough t k p node →
      viewers_at t except (link_to k) (p + node.first) ≡ viewers_at t except node.left p ++ viewers_at t except node.right p
  found-through k p node o = found-within t f except k p node o.at o.inside ∙ met-through t f except k p node o.hidden o.free

  -- ---- the way

  -- a search from a node on a side begins at the child there, if there is one
  pub from-none : (side : Side) (h q : ℕ) (above : Node) → t.nodes h ≡ Some above → child_on above side ≡ None → viewers_from t except side h q ≡ []
  from-none side h q above at none = rw (at, none) (down-none t.nodes t.slots t.lists f except t.lists q)

  pub way-begins : (side : Side) (h q : ℕ) (above : Node) (c : NodeId) → q < 2 ^ 64 → t.nodes h ≡ Some above → child_on above side ≡ Some c →
      GoesOn t (viewers_at t except) c.0 c.0 q (viewers_from t except side h q)
  way-begins side h q above c fits at child =
      let it = child-there t.nodes t.lists f h c.0 above side at child in
      record {
        after = [];
        passed = record { whole = q; fits = fits; way = at_start c.0 q [] it.node it.at refl refl refl };
        ahead_is = rw (at, child) (sym (append-nil (viewers_at t except (link_to c.0) q)));
      }

module _ (t : Tree) (f : IsForest t.nodes t.lists) (below : FoundBelow) where
  module _ (start : ℕ) where
    module _ (whole : ℕ) where
      abbrev Way : ℕ → ℕ → List ℕ → Type 0
      Way k q after = OnWay t below start whole k q after

      -- the node is there, and its page fits where the first one does
      way-there : (k q : ℕ) (after : List ℕ) → Way k q after → (node : Node) × (t.nodes k ≡ Some node)
      way-there k q after (at_start k' q' after' node at is page last) = (node, at)
      way-there l p after (to_left l' p' after' k node rest way o left more) = let it = child-there t.nodes t.lists f k l node Side.Left o.at left in (it.node, it.at)
      way-there r p after (to_right r' p' after' k node way o right) = let it = child-there t.nodes t.lists f k r node Side.Right o.at right in (it.node, it.at)

      way-page : (k q : ℕ) (after : List ℕ) → Way k q after → q ≤ whole
      way-page k q after (at_start k' q' after' node at is page last) = omega arith
      way-page l p after (to_left l' p' after' k node rest way o left more) = let further = way-page k (p + node.first) rest way in omega arith
      way-page r p after (to_right r' p' after' k node way o right) = let further = way-page k (p + node.first) after way in omega arith

      -- it is not above the first one
      way-ranks : (k q : ℕ) (after : List ℕ) → Way k q after → f.rank start ≤ f.rank k
      way-ranks k q after (at_start k' q' after' node at is page last) = let same = ap f.rank is in omega arith
      way-ranks l p after (to_left l' p' after' k node rest way o left more) =
          omega (arith, deeper-child t.nodes t.slots t.lists f None k l node Side.Left o.at left, way-ranks k (p + node.first) rest way)
      way-ranks r p after (to_right r' p' after' k node way o right) =
          omega (arith, deeper-child t.nodes t.slots t.lists f None k r node Side.Right o.at right, way-ranks k (p + node.first) after way)

      -- it is the first one, after which nothing comes, or further down
      way-deeper : (k q : ℕ) (after : List ℕ) → Way k q after → (after ≡ []) ⊎ (f.rank start < f.rank k)
      way-deeper k q after (at_start k' q' after' node at is page last) = inl last
      way-deeper l p after (to_left l' p' after' k node rest way o left more) =
          let deeper = deeper-child t.nodes t.slots t.lists f None k l node Side.Left o.at left in
          inr (let above = way-ranks k (p + node.first) rest way in omega arith)
      way-deeper r p after (to_right r' p' after' k node way o right) =
          let deeper = deeper-child t.nodes t.slots t.lists f None k r node Side.Right o.at right in
          inr (let above = way-ranks k (p + node.first) after way in omega arith)

      -- a node that was passed, but for the first one, is a child of a node on the way
      data Came (k q : ℕ) (after : List ℕ) : Type 0 where
        from_left : (h : ℕ) (a : Node) (rest : List ℕ) → Way h (q + a.first) rest → IsThrough t h q a → a.left ≡ link_to k →
            after ≡ below a.right q ++ rest → Came k q after
        from_right : (h : ℕ) (a : Node) → Way h (q + a.first) after → IsThrough t h q a → a.right ≡ link_to k → Came k q after

      came : (k q : ℕ) (after : List ℕ) → Way k q after → k ≢ start → Came k q after
      came k q after (at_start k' q' after' node at is page last) apart = absurd (apart is)
      came l p after (to_left l' p' after' k node rest way o left more) apart = from_left k node rest way o left more
      came r p after (to_right r' p' after' k node way o right) apart = from_right k node way o right

    pub way-some : (k q : ℕ) (after : List ℕ) → IsPassed t below start k q after → IsSome (t.nodes k)
    way-some k q after h = subst IsSome (sym (way-there h.whole k q after h.way).1) refl

    pub page-fits : (k q : ℕ) (after : List ℕ) → IsPassed t below start k q after → q < 2 ^ 64
    page-fits k q after h = let low = way-page h.whole k q after h.way in let fits = h.fits in omega arith

    -- ---- where a search goes on

    -- into a hidden node, where those that are found there are found below its children
    pub goes-onward_by : (k q l p : ℕ) (ahead : List ℕ) → GoesOn t below start k q ahead → (on : IsOnward t k q l p) →
        below (link_to k) q ≡ below on.node.left p ++ below on.node.right p → GoesOn t below start l p ahead
    goes-onward_by k q l p ahead h on children =
        let node = on.node in
        let right = below node.right p in
        let here = subst (λ q. OnWay t below start h.passed.whole k q h.after) on.page h.passed.way in
        record {
          after = right ++ h.after;
          passed = record { whole = h.passed.whole; fits = h.passed.fits; way = to_left l p (right ++ h.after) k node h.after here on.through on.left refl };
          ahead_is = h.ahead_is ∙ (ap (λ list. list ++ h.after) children
              ∙ (append_assoc (below node.left p) right h.after ∙ ap (λ o. below o p ++ (right ++ h.after)) on.left));
        }

    pub passed-start : (k q : ℕ) (after : List ℕ) → IsPassed t below start k q after → k ≡ start → after ≡ []
    passed-start k q after h is = elim (way-deeper h.whole k q after h.way) [
      | inl last ↦ last
      | inr lower ↦ absurd (let same = ap f.rank is in omega arith)
    ]

    -- the parent of a child is the node that has it, on this side
    one-parent : (k h parent : ℕ) (node a above : Node) (s : Side) → t.nodes h ≡ Some a → child_on a s ≡ link_to k → t.nodes k ≡ Some node →
        node.parent ≡ link_to parent → t.nodes parent ≡ Some above → (h ≡ parent) × (a ≡ above) × (side_of above k ≡ s)
    one-parent k h parent node a above s a_at child at parent_is above_at =
        let it = child-there t.nodes t.lists f h k a s a_at child in
        let same : it.node ≡ node = some_same (sym it.at ∙ at) in
        let here : h ≡ parent = link_same (sym it.parent ∙ (ap (λ (n : Node). n.parent) same ∙ parent_is)) in
        let one : a ≡ above = some_same (sym a_at ∙ (ap t.nodes here ∙ above_at)) in
        let side_is : side_in t.nodes k ≡ Some (side_of above k) = rw (at, parent_is, above_at) refl in
        (here, one, some_same (sym side_is ∙ side-of-child t.nodes t.lists f h k a s a_at child))

    pub passed-parent : (k q : ℕ) (after : List ℕ) (node : Node) → IsPassed t below start k q after → k ≢ start → t.nodes k ≡ Some node → node.parent ≡ None → ⊥
    passed-parent k q after node h apart at none =
        elim (came h.whole k q after h.way apart) [
          | from_left j a rest way o left more ↦ no_parent j a Side.Left o.at left
          | from_right j a way o right ↦ no_parent j a Side.Right o.at right
        ]
      where
        no_parent : (j : ℕ) (a : Node) (s : Side) → t.nodes j ≡ Some a → child_on a s ≡ link_to k → ⊥
        no_parent j a s a_at child =
            let it = child-there t.nodes t.lists f j k a s a_at child in
            let same = ap (λ (n : Node). n.parent) (some_same (sym it.at ∙ at)) in
            let parent = it.parent in
            cc

    module _ (k q : ℕ) (after : List ℕ) (h : IsPassed t below start k q after) (apart : k ≢ start) (parent : ℕ) (node above : Node)
        (at : t.nodes k ≡ Some node) (parent_is : node.parent ≡ link_to parent) (above_at : t.nodes parent ≡ Some above) where
      -- after a left child comes the right one, which is there
      pub passed-left : (r : ℕ) → side_of above k ≡ Side.Left → above.right ≡ link_to r → GoesOn t below start r q after
      passed-left r is right =
          elim (came h.whole k q after h.way apart) [
            | from_left j a rest way o left more ↦ (
                let one = one-parent k j parent node a above Side.Left o.at left at parent_is above_at in
                let right_is : a.right ≡ link_to r = ap (λ (n : Node). n.right) one.1 ∙ right in
                record {
                  after = rest;
                  passed = record { whole = h.whole; fits = h.fits; way = to_right r q rest j a way o right_is };
                  ahead_is = more ∙ ap (λ o. below o q ++ rest) right_is;
                })
            | from_right j a way o child ↦ (
                let one = one-parent k j parent node a above Side.Right o.at child at parent_is above_at in
                let sides : Side.Left ≡ Side.Right = sym is ∙ one.2 in
                absurd (cc))
          ]

      pub passed-pair : side_of above k ≡ Side.Left → above.right ≡ None → ⊥
      passed-pair is none =
          let hidden = (f.by.below parent k node at parent_is) in
          let same : hidden.above ≡ above = some_same (sym hidden.at ∙ above_at) in
          let pair = f.by.pairs parent above above_at (ap (λ (n : Node). n.koid) (sym same) ∙ hidden.hidden) in
          let right = pair.right_is in
          cc

      -- after a right child both children were passed
      pub passed-right : side_of above k ≡ Side.Right → IsPassed t below start parent (q + above.first) after
      passed-right is =
          elim (came h.whole k q after h.way apart) [
            | from_left j a rest way o child more ↦ (
                let one = one-parent k j parent node a above Side.Left o.at child at parent_is above_at in
                let sides : Side.Left ≡ Side.Right = sym one.2 ∙ is in
                absurd (cc))
            | from_right j a way o child ↦ (
                let one = one-parent k j parent node a above Side.Right o.at child at parent_is above_at in
                let both : IsPassed t below start j (q + a.first) after = record { whole = h.whole; fits = h.fits; way = way } in
                subst (λ (n : Node). IsPassed t below start parent (q + n.first) after) one.1
                (subst (λ i. IsPassed t below start i (q + a.first) after) one.0 both))
          ]

  -- ---- what is ahead of a search

  -- where it goes on at a cursor
  pub finds-here : (o : Option Cursor) (from : Cursor) (ahead : List ℕ) → o ≡ Some from → IsAhead t below o ahead →
      GoesOn t below from.start.0 from.at.0 from.page ahead
  finds-here o from ahead is finds = subst (λ o. IsAhead t below o ahead) is finds

  -- where it goes on nowhere
  pub finds-end : (o : Option Cursor) (ahead : List ℕ) → o ≡ None → IsAhead t below o ahead → ahead ≡ []
  finds-end o ahead is finds = subst (λ o. IsAhead t below o ahead) is finds

  -- there is the node
  pub goes-some : (start k q : ℕ) (ahead : List ℕ) → GoesOn t below start k q ahead → IsSome (t.nodes k)
  goes-some start k q ahead h = way-some start k q h.after h.passed

-- a search for all visible nodes goes on with the left child of a hidden node
pub goes-onward : (t : Tree) (f : IsForest t.nodes t.lists) (except : Option NodeId) (start k q l p : ℕ) (ahead : List ℕ) →
    GoesOn t (viewers_at t except) start k q ahead → IsOnward t k q l p → GoesOn t (viewers_at t except) start l p ahead
goes-onward t f except start k q l p ahead h on =
    goes-onward_by t f (viewers_at t except) start k q l p ahead h on
    (ap (viewers_at t except (link_to k)) on.page ∙ found-through t f except k p on.node on.through)
