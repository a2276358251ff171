-- A look upwards for the first page from a page of a visible node on that comes to a row.
use Rattle.cow_forest.proofs.Words.{rules, ◌≡◌, ℕ, ◌+◌, ◌-◌, ◌^◌, ◌<◌, ◌≤◌, min, Bool, Option, None, Some, inl, inr, IsSome, refl, sym, ap}
use Rattle.cow_forest.proofs.Words.{subst, ◌∙◌, arith, IsSomeAnd, IfSome, IfNone, unwrap_or, cases_lt, some_same, Node, NodeId}
use Rattle.cow_forest.proofs.Words.{IsVisible, side_in, Tree, walk, frame_shown, frame_found, Slot, nodes_up, IsPage, IsExact, all_in_sight}
use Rattle.cow_forest.proofs.Words.{HasNone, IsFirstOrNone, has_row, shows_frame, none_is, is_some, nearer_page}
use Rattle.cow_arena.proofs.WalkLaws.{walk-past, walk-up}
use Rattle.cow_split.proofs.CostLaws.{parent-there}
use Rattle.cow_split.proofs.ZeroRowLaws.{frame-from}
use Rattle.cow_merge.proofs.PassingLaws.{up-less}
use Rattle.cow_forest.proofs.LookLaws.{page-past}

-- ---- one node

-- the next row is not before any page that is at or before the first
pub row-past : (rows : ℕ → Option Slot) (from to shift : ℕ) (answer : Option ℕ) → IsFirstOrNone (has_row rows) from to answer → shift ≤ from →
    IfSome answer (λ page. shift ≤ page)
row-past rows from to shift None next le = search rules
row-past rows from to shift (Some row) next le = omega (arith, next.order)

-- before it, or where there is none before the end, no page has a row
row-free : (rows : ℕ → Option Slot) (from to : ℕ) (answer : Option ℕ) → IsFirstOrNone (has_row rows) from to answer → HasNone (has_row rows) from (unwrap_or answer to)
row-free rows from to None next = next
row-free rows from to (Some row) next = next.gap

-- ---- from node to node

-- page p is before the best page that is known, if one is
abbrev pub IsBefore : Option ℕ → ℕ → Type 0
IsBefore best p = IfSome best (λ page. p < page)

-- A look from page `from` of v on has come to page `here` of this node. The pages of the node below `to` show what the pages
-- of v show that are as far from `from` as they are from `here`. Of the further ones none shows a frame before the best
-- page that is known.
pub record IsLookingUp (t : Tree) (v from : ℕ) (best : Option ℕ) (at : Node) (here to : ℕ) : Type 0 where
  pub leaf : Node
  pub visible : IsVisible t.nodes v leaf
  pub short : leaf.count < 2 ^ 64
  pub h : ℕ
  pub there : t.nodes h ≡ Some at
  pub risen : from ≤ here
  pub known : (page : ℕ) → best ≡ Some page → (from ≤ page) × (page < leaf.count)
  pub within : (d : ℕ) → here + d < to → from + d < leaf.count
  pub same : (d : ℕ) → here + d < to → frame_shown t v (from + d) ≡ frame_shown t h (here + d)
  pub rest : (d : ℕ) → to ≤ here + d → IsBefore best (from + d) → frame_shown t v (from + d) ≡ None

-- The look has passed the rows of this node. Its pages from `here` on go on to the parent where they are below `end`.
pub record HasPassed (t : Tree) (v from : ℕ) (best : Option ℕ) (at : Node) (here end : ℕ) : Type 0 where
  pub to : ℕ
  pub looking : IsLookingUp t v from best at here to
  pub free : HasNone (has_row (t.slots at.list.0)) here to
  pub end_is : end ≡ min to at.seen

module _ (t : Tree) (exact : (in_use : ℕ → Bool) × IsExact t all_in_sight in_use) (v from : ℕ) where
  -- it begins at the node itself
  pub look-start : IsSomeAnd (t.nodes v) (λ (node : Node). IsSome node.koid) → (node : Node) → t.nodes v ≡ Some node →
      node.count < 2 ^ 64 → IsLookingUp t v from None node from node.count
  look-start leaf node at short =
      let visible : IsVisible t.nodes v node =
      record { at = at; koid = subst (λ (o : Option Node). IsSomeAnd o (λ (node : Node). IsSome node.koid)) at leaf } in
      record {
        leaf = node;
        visible = visible;
        short = short;
        h = v;
        there = at;
        risen = omega arith;
        known = λ page e. absurd (cc);
        within = λ d less. less;
        same = λ d less. refl;
        rest = λ d past before. page-past t exact v node visible (from + d) past;
      }

  -- the node's next row leads to a better page, before which the node has none
  better : (best : Option ℕ) (at : Node) (here to : ℕ) → IsLookingUp t v from best at here to → (row : Option ℕ) →
      IsFirstOrNone (has_row (t.slots at.list.0)) here to row → IsLookingUp t v from (nearer_page best row (here - from)) at here (unwrap_or row to)
  better best at here to was None next = was
  better best at here to was (Some row) next = record {
    leaf = was.leaf;
    visible = was.visible;
    short = was.short;
    h = was.h;
    there = was.there;
    risen = was.risen;
    known = λ page e.
        let page_is : row - (here - from) ≡ page = some_same e in
        let low = next.order in
        let less = next.below in
        (omega (arith, was.risen), omega (arith, was.risen, was.within (row - here) (omega arith)));
    within = λ d less. was.within d (omega (arith, next.below));
    same = λ d less. was.same d (omega (arith, next.below));
    rest = λ d past before. absurd (omega (arith, was.risen, next.order));
  }

  -- the rows of the node are passed
  pub look-passed : (best : Option ℕ) (at : Node) (here to : ℕ) → IsLookingUp t v from best at here to → (row : Option ℕ) →
      IsFirstOrNone (has_row (t.slots at.list.0)) here to row → (now : Option ℕ) → now ≡ nearer_page best row (here - from) → (upto : ℕ) → upto ≡ unwrap_or row to →
      (end : ℕ) → end ≡ min upto at.seen → HasPassed t v from now at here end
  look-passed best at here to was row next now now_is upto upto_is end end_is = record {
    to = unwrap_or row to;
    looking = subst (λ b. IsLookingUp t v from b at here (unwrap_or row to)) (sym now_is) (better best at here to was row next);
    free = row-free (t.slots at.list.0) here to row next;
    end_is = subst (λ n. end ≡ min n at.seen) upto_is end_is;
  }

  module _ (best : Option ℕ) (at : Node) (here end : ℕ) (has : HasPassed t v from best at here end) where
    -- a page outside the node's window shows nothing
    outside : (d : ℕ) → end ≤ here + d → IsBefore best (from + d) → frame_shown t v (from + d) ≡ None
    outside d past before = elim (cases_lt (here + d) has.to) [
      | inr further ↦ has.looking.rest d further before
      | inl less ↦
          let free = none_is (t.slots at.list.0 (here + d)) (has.free (here + d) (omega arith) less) in
          let end_is = has.end_is in
          has.looking.same d less
          ∙ ap frame_found (walk-past t exact.1.forest has.looking.h (here + d) at has.looking.there free (omega arith))
    ]

    -- it goes on at the parent
    pub look-up : (parent : NodeId) (up : Node) → at.parent ≡ Some parent → t.nodes parent.0 ≡ Some up →
        IsLookingUp t v from best up (here + at.first) (end + at.first)
    look-up parent up parent_is up_at =
        let was = has.looking in
        let end_is = has.end_is in
        record {
          leaf = was.leaf;
          visible = was.visible;
          short = was.short;
          h = parent.0;
          there = up_at;
          risen = omega (arith, was.risen);
          known = was.known;
          within = λ d less. was.within d (omega arith);
          same = λ d less.
              let free = none_is (t.slots at.list.0 (here + d)) (has.free (here + d) (omega arith) (omega arith)) in
              let on = walk-up t exact.1.forest was.h (here + d) parent.0 at was.there free (omega arith) parent_is in
              let page : at.first + (here + d) ≡ (here + at.first) + d = omega arith in
              was.same d (omega arith) ∙ (ap frame_found on ∙ (frame-from (side_in t.nodes was.h) (walk t parent.0 (at.first + (here + d)))
              ∙ ap (frame_shown t parent.0) page));
          rest = λ d past before. outside d (omega arith) before;
        }

    -- it ends where no page goes on
    before-best : end ≤ here → (p : ℕ) → from ≤ p → IsBefore best p → frame_shown t v p ≡ None
    before-best stop p start before =
        let page : from + (p - from) ≡ p = omega arith in
        subst (λ p. frame_shown t v p ≡ None) page (outside (p - from) (omega arith) (subst (IsBefore best) (sym page) before))

    -- what is found then, and what not
    pub look-some : end ≤ here → IfSome best (λ page. (from ≤ page) × IsPage t v page × HasNone (shows_frame t v) from page)
    look-some stop = go best refl
      where
        go : (o : Option ℕ) → best ≡ o → IfSome o (λ page. (from ≤ page) × IsPage t v page × HasNone (shows_frame t v) from page)
        go None is = search rules
        go (Some page) is =
            let was = has.looking in
            let known = was.known page is in (
              known.0,
              record { node = was.leaf; visible = was.visible; below = known.1 },
              λ p start less. ap is_some (before-best stop p start (subst (λ o. IsBefore o p) (sym is) less)),
            )

    pub look-none : end ≤ here → IfNone best ((stop : ℕ) → HasNone (shows_frame t v) from stop)
    look-none stop = go best refl
      where
        go : (o : Option ℕ) → best ≡ o → IfNone o ((stop : ℕ) → HasNone (shows_frame t v) from stop)
        go None is = λ past p start less. ap is_some (before-best stop p start (subst (λ o. IsBefore o p) (sym is) (search rules)))
        go (Some page) is = search rules

    -- there is a page behind the best one
    pub look-fits : IfSome best (λ page. page + 1 < 2 ^ 64)
    look-fits = go best refl
      where
        go : (o : Option ℕ) → best ≡ o → IfSome o (λ page. page + 1 < 2 ^ 64)
        go None is = search rules
        go (Some page) is = omega (arith, has.looking.known page is, has.looking.short)

  -- ---- what the code asks on the way

  module _ (best : Option ℕ) (at : Node) (here to : ℕ) (was : IsLookingUp t v from best at here to) where
    -- the parent is there
    pub look-there : (parent : NodeId) → at.parent ≡ Some parent → IsSome (t.nodes parent.0)
    look-there parent is = parent-there t.nodes t.lists exact.1.forest was.h parent.0 at was.there is

    -- the window ends inside the parent
    pub look-window : (parent : NodeId) (up : Node) → at.parent ≡ Some parent → t.nodes parent.0 ≡ Some up → at.first + at.seen ≤ up.count
    look-window parent up is up_at =
        let below = exact.1.forest.by.below parent.0 was.h at was.there is in
        subst (λ (n : Node). at.first + at.seen ≤ n.count) (some_same (sym below.at ∙ up_at)) below.window

    -- there are fewer nodes above the parent
    pub look-less : (parent : NodeId) (up : Node) → at.parent ≡ Some parent → t.nodes parent.0 ≡ Some up →
        nodes_up t.nodes t.lists up.parent < nodes_up t.nodes t.lists at.parent
    look-less parent up is up_at =
        subst (λ o. nodes_up t.nodes t.lists up.parent < nodes_up t.nodes t.lists o) (sym is)
        (up-less t.nodes t.lists exact.1.forest parent.0 up up_at)
