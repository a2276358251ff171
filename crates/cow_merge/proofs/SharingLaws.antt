-- Pages of a hidden node to which VMOs come from both of its sides: the way down to such a VMO, and rows that move meanwhile.
use Rattle.cow_merge.proofs.Words.{◌≡◌, ℕ, ◌+◌, ◌-◌, ◌<◌, ◌≤◌, ◌^◌, true, Option, None, Some, IsSome, refl, sym, ap, subst, ◌∙◌, inl, inr}
use Rattle.cow_merge.proofs.Words.{arith, is_some, cases_eq, cases_lt, some_same, HasNone, IsFirst, has_row, none_is, Slot, Node, NodeId, Side, side_in, IsForest}
use Rattle.cow_merge.proofs.Words.{IsChild, Slots, Tree, Climbs, Reaches, Arrives, KeepsBelow, viewers_from, reached_from, Pages, Way}
use Rattle.cow_merge.proofs.Words.{IsEntered, IsReached, AreReached, AreShared, IsDown}
use Rattle.cow_arena.proofs.ReachLaws.{reach-one, reach-more, reach-each, reach-deeper, arrives-on, side-of-parent}
use Rattle.cow_split.proofs.SearchLaws.{some-of, found-of-reached}
use Rattle.cow_merge.proofs.LiftLaws.{no-except}

-- a page that has a row had one
pub some-left : (old new : Option Slot) → ((row : Slot) → new ≡ Some row → old ≡ Some row) → IsSome new → IsSome old
some-left old None was some = absurd (cc)
some-left old (Some row) was some = ap is_some (was row refl)

-- ---- rows of the parent went, or moved into the list of its child s

-- the way has come as far as page `end` of its node
down-with : (t : Tree) (list s seen : ℕ) (from : Side) (way : Way) (upto end : ℕ) (was : IsDown t list s seen from way upto) →
    ((p : ℕ) → way.from ≤ p → p < way.to → p < end → IsSome (t.slots list (p + way.shift)) → t.slots was.node.list.0 p ≡ None) →
    IsDown t list s seen from way end
down-with t list s seen from way upto end was free = record {
  node = was.node;
  node_at = was.node_at;
  e = was.e;
  up = was.up;
  deeper = was.deeper;
  from = was.from;
  side_is = was.side_is;
  inside = was.inside;
  high = was.high;
  comes = was.comes;
  free = free;
}

module _ (t : Tree) (f : IsForest t.nodes t.lists) (slots : Slots) (parent sibling : Node) (s : ℕ) (at : t.nodes s ≡ Some sibling)
    (keeps : KeepsBelow t.slots slots parent sibling) where
  abbrev now : Tree
  now = record { nodes = t.nodes; slots = slots; lists = t.lists }

  -- a step from a node further down stays
  climbs-below : (k p j r : ℕ) → Climbs t k p j r → f.rank s < f.rank k → Climbs now k p j r
  climbs-below k p j r c deeper = record {
    node = c.node;
    at = c.at;
    free = keeps.others c.node.list.0 p (λ list. let same = ap f.rank (f.by.own k s c.node sibling c.at at list) in absurd (omega arith)) c.free;
    inside = c.inside;
    parent = c.parent;
    page = c.page;
  }

  -- whoever comes to a page of s still does
  reach-below : (k p : ℕ) (from : Side) (q : ℕ) → Reaches t k p from s q → Reaches now k p from s q
  reach-below k p from q = reach-each t from s q (λ k p. Reaches now k p from s q)
      (λ k p c is. reach-one now k p from s q (climbs-below k p s q c (reach-deeper t f k p from s q (reach-one t k p from s q c is))) is)
      (λ k p j r c on ih. reach-more now k p j r from s q
      (climbs-below k p j r c (reach-deeper t f k p from s q (reach-more t k p j r from s q c on))) ih) k p

  arrives-below : (k p : ℕ) (from : Option Side) (q : ℕ) → Arrives t k p from s q → Arrives now k p from s q
  arrives-below k p None q way = way
  arrives-below k p (Some from) q way = reach-below k p from q way

  pub reached-below : (from : Side) (q : ℕ) → IsReached t from s q → IsReached now from s q
  reached-below from q was = record {
    v = was.v;
    p = was.p;
    page = record { node = was.page.node; visible = was.page.visible; below = was.page.below };
    way = reach-below was.v was.p from q was.way;
  }

  module _ (others : (p : ℕ) (row : Slot) → slots parent.list.0 p ≡ Some row → t.slots parent.list.0 p ≡ Some row) where
    pub some-was : (p : ℕ) → IsSome (slots parent.list.0 p) → IsSome (t.slots parent.list.0 p)
    some-was p = some-left (t.slots parent.list.0 p) (slots parent.list.0 p) (others p)

    pub reached-kept : (from : Side) (seen : ℕ) (pages : Pages) → AreReached t parent.list.0 from s seen pages → AreReached now parent.list.0 from s seen pages
    reached-kept from seen pages was = record {
      below = was.below;
      reached = λ q low less some. reached-below from q (was.reached q low less (some-was q some));
    }

    -- the way down stays
    module _ (seen : ℕ) (from : Side) (way : Way) (upto : ℕ) (was : IsDown t parent.list.0 s seen from way upto) where
      -- its node has no row where it had none
      free-kept : (p : ℕ) → t.slots was.node.list.0 p ≡ None → slots was.node.list.0 p ≡ None
      free-kept p none = keeps.others was.node.list.0 p
          (λ list.
          absurd (omega (arith, ap f.rank (f.by.own way.at.0 s was.node sibling was.node_at at list), was.deeper f)))
          none

      pub down-kept : IsDown now parent.list.0 s seen from way upto
      down-kept = record {
        node = was.node;
        node_at = was.node_at;
        e = was.e;
        up = was.up;
        deeper = was.deeper;
        from = was.from;
        side_is = was.side_is;
        inside = was.inside;
        high = was.high;
        comes = λ p low less some. arrives-below was.e (was.node.first + p) was.from (p + way.shift) (was.comes p low less (some-was (p + way.shift) some));
        free = λ p low less before some. free-kept p (was.free p low less before (some-was (p + way.shift) some));
      }

      -- the next row of the way's node was met, and no row is left where it comes to
      pub down-row : (page : ℕ) → IsFirst (has_row (t.slots was.node.list.0)) upto way.to page → slots parent.list.0 (page + way.shift) ≡ None →
          IsDown now parent.list.0 s seen from way (page + 1)
      unfolding down-kept
      down-row page next empty = down-with now parent.list.0 s seen from way upto (page + 1) down-kept (λ p low less before some. elim (cases_eq p page) [
        | inl same ↦ absurd (let none = ap is_some (ap (λ x. slots parent.list.0 (x + way.shift)) same ∙ empty) in cc)
        | inr apart ↦ elim (cases_lt p upto) [
          | inl earlier ↦ down-kept.free p low less earlier some
          | inr past ↦ free-kept p (none_is (t.slots was.node.list.0 p) (next.gap p past (omega arith)))
        ]
      ])

-- ---- the way down

-- a child is on one side
pub side-there : (t : Tree) (f : IsForest t.nodes t.lists) (h k : ℕ) → IsChild t.nodes h k → (from : Side) × (side_in t.nodes k ≡ Some from)
side-there t f h k child = let it = side-of-parent t.nodes t.lists f h k child.node child.at child.parent in (it.1, it.4)

-- no row is left on this node
pub down-end : (t : Tree) (list s seen : ℕ) (from : Side) (way : Way) (upto : ℕ) (was : IsDown t list s seen from way upto) →
    HasNone (has_row (t.slots was.node.list.0)) upto way.to → IsDown t list s seen from way way.to
down-end t list s seen from way upto was none = down-with t list s seen from way upto way.to was (λ p low less before some. elim (cases_lt p upto) [
  | inl earlier ↦ was.free p low less earlier some
  | inr past ↦ none_is (t.slots was.node.list.0 p) (none p past less)
])

module _ (t : Tree) (f : IsForest t.nodes t.lists) (list s seen : ℕ) (fits : seen < 2 ^ 64) (from : Side) where
  -- it begins at a child of s
  pub down-start : (child : NodeId) → IsChild t.nodes s child.0 → side_in t.nodes child.0 ≡ Some from → (way : Way) →
      ((node : Node) → t.nodes child.0 ≡ Some node → IsEntered node child 0 0 seen way) → IsDown t list s seen from way way.from
  down-start child below is way entered =
      let enters = entered below.node below.at in
      record {
        node = below.node;
        node_at = ap (λ (k : NodeId). t.nodes k.0) enters.at ∙ below.at;
        e = s;
        up = below.parent;
        deeper = λ g. subst (λ (k : NodeId). g.rank s < g.rank k.0) (sym enters.at) (g.by.below s child.0 below.node below.at below.parent).deeper;
        from = None;
        side_is = ap (λ (k : NodeId). side_in t.nodes k.0) enters.at ∙ is;
        inside = enters.inside;
        high = λ p low less.
            let upper = enters.high p low less in
            let shift = enters.shift_is (omega arith) in
            omega arith;
        comes = λ p low less some.
            let upper = enters.high p low less in
            let shift = enters.shift_is (omega arith) in
            (refl, omega arith);
        free = λ p low less before some. absurd (omega arith);
      }

  module _ (way : Way) (was : IsDown t list s seen from way way.to) where
    -- the way's page goes on to s
    goes-on : (p : ℕ) → way.from ≤ p → p < way.to → IsSome (t.slots list (p + way.shift)) → Reaches t way.at.0 p from s (p + way.shift)
    goes-on p low less some =
        let step : Climbs t way.at.0 p was.e (was.node.first + p) = record {
          node = was.node;
          at = was.node_at;
          free = was.free p low less less some;
          inside = was.inside p low less;
          parent = was.up;
          page = refl;
        } in
        subst (λ o. Arrives t way.at.0 p o s (p + way.shift)) was.side_is
        (arrives-on t f way.at.0 p was.e (was.node.first + p) was.from s (p + way.shift) step (was.comes p low less some))

    -- it goes one node further down
    pub down-further : (child : NodeId) → IsChild t.nodes way.at.0 child.0 → (next : Way) →
        ((node : Node) → t.nodes child.0 ≡ Some node → IsEntered node child way.shift way.from way.to next) → IsDown t list s seen from next next.from
    down-further child below next entered =
        let enters = entered below.node below.at in
        record {
          node = below.node;
          node_at = ap (λ (k : NodeId). t.nodes k.0) enters.at ∙ below.at;
          e = way.at.0;
          up = below.parent;
          deeper = λ g.
              let one = was.deeper g in
              let two = (g.by.below way.at.0 child.0 below.node below.at below.parent).deeper in
              subst (λ (k : NodeId). g.rank s < g.rank k.0) (sym enters.at) (omega arith);
          from = Some from;
          side_is = refl;
          inside = enters.inside;
          high = λ p low less.
              let most = was.high (below.node.first + p) (enters.low p low less) (enters.high p low less) in
              let shift = enters.shift_is (omega arith) in
              omega arith;
          comes = λ p low less some.
              let lower = enters.low p low less in
              let upper = enters.high p low less in
              let most = was.high (below.node.first + p) lower upper in
              let shift = enters.shift_is (omega arith) in
              let same : below.node.first + p + way.shift ≡ p + next.shift = omega arith in
              subst (λ x. Reaches t way.at.0 (below.node.first + p) from s x) same
              (goes-on (below.node.first + p) lower upper (subst (λ x. IsSome (t.slots list x)) (sym same) some));
          free = λ p low less before some. absurd (omega arith);
        }

    -- it ends at a VMO's node
    pub down-witness : (node : Node) → t.nodes way.at.0 ≡ Some node → IsSome node.koid → (pages : Pages) → pages.from + 0 ≡ way.from + way.shift →
        pages.to + 0 ≡ way.to + way.shift → AreReached t list from s seen pages
    down-witness node at koid pages from_is to_is = record {
      below = λ q low less.
          let high = was.high (q - way.shift) (omega arith) (omega arith) in
          omega arith;
      reached = λ q low less some.
          let p = q - way.shift in
          let lower : way.from ≤ p = omega arith in
          let upper : p < way.to = omega arith in
          let same : p + way.shift ≡ q = omega arith in
          record {
            v = way.at.0;
            p = p;
            page = record {
              node = was.node;
              visible = record { at = was.node_at; koid = subst (λ (n : Node). IsSome n.koid) (some_same (sym at ∙ was.node_at)) koid };
              below = let most = f.by.seen way.at.0 was.node was.node_at in let inside = was.inside p lower upper in omega arith;
            };
            way = subst (λ x. Reaches t way.at.0 p from s x) same (goes-on p lower upper (subst (λ x. IsSome (t.slots list x)) (sym same) some));
          };
    }

-- it is given up
pub down-none : (t : Tree) (list s seen : ℕ) (from : Side) → AreReached t list from s seen (record { from = 0; to = 0 })
down-none t list s seen from = record { below = λ q low less. absurd (omega arith); reached = λ q low less some. absurd (omega arith) }

-- the pages below are numbers of the machine, and so is each next one
pub down-fits : (t : Tree) (list s seen : ℕ) (from : Side) (way : Way) (upto : ℕ) → seen < 2 ^ 64 → IsDown t list s seen from way upto → (p : ℕ) → way.from ≤ p → p < way.to →
    p + way.shift + 1 < 2 ^ 64
down-fits t list s seen from way upto fits was p low less = let high = was.high p low less in omega arith

-- ---- both sides

-- of a visible child, all pages of the window
pub shared-visible : (t : Tree) (list s : ℕ) (node : Node) → IsSome node.koid → AreShared t list s node (record { from = 0; to = node.seen })
shared-visible t list s node koid = record { below = λ q low less. less; reached = λ none. absurd (let here = ap is_some none in cc) }

-- of a hidden child, the pages to which there are VMOs on both sides
pub shared-both : (t : Tree) (list s : ℕ) (node : Node) (one other pages : Pages) → AreReached t list Side.Left s node.seen one →
    AreReached t list Side.Right s node.seen other → one.from ≤ pages.from → other.from ≤ pages.from → pages.to ≤ one.to → pages.to ≤ other.to →
    AreShared t list s node pages
shared-both t list s node one other pages left right low lower high higher = record {
  below = λ q least less. left.below q (omega arith) (omega arith);
  reached = λ none q least less some. from_side q least less some;
}
  where
    from_side : (q : ℕ) → pages.from ≤ q → q < pages.to → IsSome (t.slots list q) → (from : Side) → IsReached t from s q
    from_side q least less some Side.Left = left.reached q (omega arith) (omega arith) some
    from_side q least less some Side.Right = right.reached q (omega arith) (omega arith) some

-- ---- a search finds them

pub reached-found : (t : Tree) (f : IsForest t.nodes t.lists) (from : Side) (s q : ℕ) → IsReached t from s q → reached_from t None from s q ≡ true
reached-found t f from s q it =
    some-of (viewers_from t None from s q) it.v
    (found-of-reached t f None from s q it.v (record { p = it.p; page = it.page; counts = no-except it.v; way = it.way }))
