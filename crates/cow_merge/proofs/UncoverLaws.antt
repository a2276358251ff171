-- Own rows of a VMO's node that goes, over rows of its parent: once they are gone, the node sees the rows of the parent.
use Rattle.cow_merge.proofs.Words.{◌≡◌, ◌≢◌, ℕ, ◌+◌, ◌<◌, ◌≤◌, Bool, false, Option, None, Some, IsSome, IsSomeAnd, refl, sym, ap, subst}
use Rattle.cow_merge.proofs.Words.{◌∙◌, inl, inr, arith, is_some, option_map, cases_Bool, cases_eq, cases_lt, with_pair, Rows, Tag}
use Rattle.cow_merge.proofs.Words.{some_same, slots_of, row_count, Row, Slot, Node, NodeId, Side, Arena, nodes_of, IsVisible, link_to}
use Rattle.cow_merge.proofs.Words.{child_on, other_side, side_of, Slots, Tree, Found, walk, frame_in, frame_shown, IsForest, Climbs}
use Rattle.cow_merge.proofs.Words.{SameFrames, IsPartOf, tree_of, with_row, IsPage, IsSeenFrom, AreSplitBits, IsExact, all_in_sight}
use Rattle.cow_merge.proofs.Words.{leaving_out, without_frame, Pool, is_taken, bit_on, IsHeldBy, HasGiven, Moves, without_bits}
use Rattle.cow_merge.proofs.Words.{IsUncovering}
use Rattle.cow_arena.proofs.AlikeLaws.{with_pair-same, with_pair-other, frames-back, found-alike, frame-alike}
use Rattle.cow_arena.proofs.ReachLaws.{side-is, side-of-parent, reach-one, reach-through, found-of-reach, walk-ends, hidden-apart}
use Rattle.cow_arena.proofs.WalkLaws.{walk-own}
use Rattle.cow_split.proofs.ExactLaws.{cases_place, FollowFrame, with_row-changes, frame-stays, exact-changed}
use Rattle.cow_split.proofs.PartLaws.{part-with_pair, part-then}
use Rattle.cow_split.proofs.RowLaws.{left_out-other, exact-in_use_alike, own-walks, own-shows, exact-own_gone}
use Rattle.cow_merge.proofs.RangeLaws.{accounts-part}
use Rattle.cow_merge.proofs.LiftedLaws.{one-bit, denies-on}

-- ---- one row

frame-kept : (row : Slot) → frame_in (without_bits row) ≡ frame_in row
frame-kept Slot.Zero = refl
frame-kept (Slot.Frame tag left right) = refl

-- what holds of one side and of the other one, holds of each
pub both-sides : (from : Side) (P : Side → Type 0) → P from → P (other_side from) → (s : Side) → P s
both-sides Side.Left P one other Side.Left = one
both-sides Side.Left P one other Side.Right = other
both-sides Side.Right P one other Side.Left = other
both-sides Side.Right P one other Side.Right = one

-- Page p of the leaf has an own row, and comes to a row of the parent. The own row goes, and the parent's row has no bit set then.
module _ (t : Tree) (in_use : ℕ → Bool) (exact : IsExact t all_in_sight in_use) (k h p q : ℕ) (leaf parent : Node) (visible : IsVisible t.nodes k leaf)
    (up : leaf.parent ≡ link_to h) (parent_at : t.nodes h ≡ Some parent) (inside : p < leaf.seen) (page : q ≡ leaf.first + p) (own row : Slot)
    (own_at : t.slots leaf.list.0 p ≡ Some own) (row_at : t.slots parent.list.0 q ≡ Some row) where
  abbrev f : IsForest t.nodes t.lists
  f = exact.forest

  abbrev leaf_side : Side
  leaf_side = side_of parent k

  hidden : parent.koid ≡ None
  hidden =
      let below = f.by.below h k leaf visible.at up in
      ap (λ (n : Node). n.koid) (some_same (sym parent_at ∙ below.at)) ∙ below.hidden

  apart : leaf.list.0 ≢ parent.list.0
  apart same = hidden-apart t f h k parent leaf parent_at hidden visible (sym (f.by.own k h leaf parent visible.at parent_at same))

  abbrev mid : Tree
  mid = with_row t leaf.list.0 p None

  abbrev last : Tree
  last = with_row mid parent.list.0 q (Some (without_bits row))

  row-mid : mid.slots parent.list.0 q ≡ Some row
  row-mid = with_pair-other t.slots leaf.list.0 p None parent.list.0 q (λ list _. apart (sym list)) ∙ row_at

  alike : SameFrames mid.slots last.slots
  alike = record {
    same = λ l r. elim (cases_place parent.list.0 q l r) [
      | inl here ↦ rw (here.0, here.1)
          (ap (option_map frame_in) (with_pair-same mid.slots parent.list.0 q (Some (without_bits row)))
          ∙ (ap Some (frame-kept row) ∙ sym (ap (option_map frame_in) row-mid)))
      | inr differs ↦ ap (option_map frame_in) (with_pair-other mid.slots parent.list.0 q (Some (without_bits row)) l r (λ a b. differs (a, b)))
    ];
  }

  -- the page comes to the row now
  found : walk mid k p ≡ Some (record { node = h; page = q; side = Some leaf_side; slot = row })
  found =
      let step : Climbs mid k p h q = record {
        node = leaf;
        at = visible.at;
        free = with_pair-same t.slots leaf.list.0 p None;
        inside = inside;
        parent = up;
        page = page;
      } in
      found-of-reach mid f k p leaf_side h q parent row
      (reach-one mid k p leaf_side h q step (side-is t.nodes t.lists f h k parent leaf parent_at visible.at up)) parent_at row-mid

  -- what is seen without the own row is seen with the other bits too
  to-last : (side : Side) (g r : ℕ) (out : ℕ → ℕ → Bool) → IsSeenFrom mid out side g r → IsSeenFrom last all_in_sight side g r
  to-last side g r out seen =
      let it = found-alike mid last.slots alike f seen.v seen.p _ seen.sees.found in
      let at = seen.sees.page in
      record {
        v = seen.v;
        p = seen.p;
        sees = record { page = record { node = at.node; visible = at.visible; below = at.below }; slot = it.0; found = it.1 };
        in_sight = refl;
      }

  -- and the other way round, if it is not the row of the parent
  of-last : (side : Side) (g r : ℕ) (node : Node) → t.nodes g ≡ Some node → ((node.list.0 ≡ parent.list.0) × (r ≡ q) → ⊥) →
      IsSeenFrom last all_in_sight side g r → IsSeenFrom mid (leaving_out all_in_sight k p) side g r
  of-last side g r node at differs seen =
      let it = found-alike last mid.slots (frames-back alike) f seen.v seen.p _ seen.sees.found in
      let there = seen.sees.page in
      record {
        v = seen.v;
        p = seen.p;
        sees = record { page = record { node = there.node; visible = there.visible; below = there.below }; slot = it.0; found = it.1 };
        in_sight = left_out-other all_in_sight k p seen.v seen.p (λ both.
            let here = sym it.1 ∙ (ap (λ i. walk mid i seen.p) both.0 ∙ (ap (walk mid k) both.1 ∙ found)) in
            let same = some_same here in
            let one : node ≡ parent = some_same (sym at ∙ (ap t.nodes (ap (λ (x : Found). x.node) same) ∙ parent_at)) in
            differs (ap (λ (n : Node). n.list.0) one, ap (λ (x : Found). x.page) same));
      }

  seen-here : IsSeenFrom last all_in_sight leaf_side h q
  seen-here =
      let it = found-alike mid last.slots alike f k p _ found in
      record {
        v = k;
        p = p;
        sees = record {
          page = record { node = leaf; visible = visible; below = omega (arith, inside, f.by.seen k leaf visible.at) };
          slot = it.0;
          found = it.1;
        };
        in_sight = refl;
      }

  -- nobody saw the row from the side of the leaf, since its own row covered it
  none-here : IsSeenFrom t all_in_sight leaf_side h q → ⊥
  none-here seen =
      let from = side-of-parent t.nodes t.lists f h k leaf visible.at up in
      let above_is : from.0 ≡ parent = some_same (sym from.2 ∙ parent_at) in
      let side : from.1 ≡ leaf_side = some_same (sym from.4 ∙ side-is t.nodes t.lists f h k parent leaf parent_at visible.at up) in
      let child : child_on parent leaf_side ≡ link_to k =
      subst (λ (n : Node). child_on n leaf_side ≡ link_to k) above_is (subst (λ s. child_on from.0 s ≡ link_to k) side from.3) in
      let way = (walk-ends t f seen.v seen.p _ seen.sees.found).way in
      let it = reach-through t f seen.v seen.p leaf_side h q k parent way parent_at child in
      let step = it.3 in
      let same : step.node ≡ leaf = some_same (sym step.at ∙ visible.at) in
      let first = ap (λ (n : Node). n.first) same in
      let here : it.0 ≡ p = omega (arith, step.page) in
      let none : t.slots leaf.list.0 p ≡ None =
      subst (λ x. t.slots leaf.list.0 x ≡ None) here (subst (λ (n : Node). t.slots n.list.0 it.0 ≡ None) same step.free) in
      absurd (cc)

  -- so it was seen from the other side
  seen-beside : (tag : Tag) (left right : Bool) → row ≡ Slot.Frame tag left right → IsSeenFrom last all_in_sight (other_side leaf_side) h q
  seen-beside tag left right is_row =
      let bits : AreSplitBits t all_in_sight h q left right = exact.bits h q parent tag left right parent_at hidden (row_at ∙ ap Some is_row) in
      let off : bit_on (other_side leaf_side) left right ≡ false = elim (cases_Bool (bit_on (other_side leaf_side) left right)) [
        | inr off ↦ off
        | inl on ↦ elim (cases_Bool (bit_on leaf_side left right)) [
          | inl both ↦ absurd (one-bit left right leaf_side bits.is_seen both on)
          | inr seen ↦ absurd (none-here ((denies-on t all_in_sight h q left right leaf_side bits).is_false seen))
        ]
      ] in
      carried ((denies-on t all_in_sight h q left right (other_side leaf_side) bits).is_false off)
    where
      carried : IsSeenFrom t all_in_sight (other_side leaf_side) h q → IsSeenFrom last all_in_sight (other_side leaf_side) h q
      carried seen =
          let at = seen.sees.page in
          let differs : (seen.v ≡ k) × (seen.p ≡ p) → ⊥ = λ both.
          let here = ap (λ i. walk t i seen.p) both.0 ∙ (ap (walk t k) both.1 ∙ walk-own t f k p leaf own visible.at own_at) in
          absurd (let none = ap (λ (it : Found). it.side) (some_same (sym seen.sees.found ∙ here)) in cc) in
          to-last (other_side leaf_side) h q all_in_sight (record {
            v = seen.v;
            p = seen.p;
            sees = record {
              page = record { node = at.node; visible = at.visible; below = at.below };
              slot = seen.sees.slot;
              found = own-walks t k p leaf visible f None seen.v seen.p differs ∙ seen.sees.found;
            };
            in_sight = refl;
          })

  bits-now : (r : Slot) → row ≡ r → (tag : Tag) (left right : Bool) → Some (without_bits r) ≡ Some (Slot.Frame tag left right) →
      AreSplitBits last all_in_sight h q left right
  bits-now Slot.Zero e tag left right is = absurd (let same = some_same is in cc)
  bits-now (Slot.Frame other a b) e tag left right is =
      let same : Slot.Frame other false false ≡ Slot.Frame tag left right = some_same is in
      let left_is : left ≡ false = cc in
      let right_is : right ≡ false = cc in
      let seen = both-sides leaf_side (λ s. IsSeenFrom last all_in_sight s h q) seen-here (seen-beside other a b e) in
      record {
        left_bit = record { is_true = λ on. absurd (cc); is_false = λ off. seen Side.Left };
        right_bit = record { is_true = λ on. absurd (cc); is_false = λ off. seen Side.Right };
        is_seen = rw left_is refl;
      }

  abbrev used_now : ℕ → Bool
  used_now = without_frame in_use (frame_in own)

  mid-exact : IsExact mid (leaving_out all_in_sight k p) used_now
  mid-exact = exact-own_gone t k p leaf visible all_in_sight in_use own exact own_at

  pub uncovered-exact : IsExact last all_in_sight used_now
  uncovered-exact =
      exact-changed mid last (leaving_out all_in_sight k p) all_in_sight used_now used_now h q parent (Some row) (Some (without_bits row)) mid-exact parent_at
      (with_row-changes mid parent.list.0 q (Some row) (Some (without_bits row)) row-mid)
      (subst (λ (o : Option ℕ). FollowFrame (frame_in row) o used_now used_now) (sym (frame-kept row))
      (frame-stays (frame_in row) used_now (λ tag e. mid-exact.used parent.list.0 q row tag row-mid e)))
      (λ shown. absurd (let none = ap is_some hidden in cc))
      (record {
        alike = λ g r node tag left right at none there differs from. (
          to-last from g r (leaving_out all_in_sight k p),
          of-last from g r node at differs,
        );
      })
      (λ none. bits-now row refl)

  pub uncovered-shows : (w x : ℕ) → w ≢ k → IsPage t w x → frame_shown last w x ≡ frame_shown t w x
  uncovered-shows w x differs page = frame-alike mid last.slots alike f w x ∙ own-shows t k p leaf visible f None w x page (λ both. differs both.0)

  pub uncovered-part : IsPartOf t.slots last.slots
  uncovered-part = part-then t.slots mid.slots last.slots (part-with_pair t.slots leaf.list.0 p None (λ r e. absurd (cc)))
      (part-with_pair mid.slots parent.list.0 q (Some (without_bits row))
      (λ r e. record { row = row; at = row-mid; frame = ap frame_in (sym (some_same e)) ∙ frame-kept row }))

  -- the own row is gone, and the others of the two lists are there as they were
  pub uncovered-gone : last.slots leaf.list.0 p ≡ None
  uncovered-gone =
      with_pair-other mid.slots parent.list.0 q (Some (without_bits row)) leaf.list.0 p (λ list _. apart list) ∙ with_pair-same t.slots leaf.list.0 p None

  pub uncovered-own : (r : ℕ) → r ≢ p → last.slots leaf.list.0 r ≡ t.slots leaf.list.0 r
  uncovered-own r other =
      with_pair-other mid.slots parent.list.0 q (Some (without_bits row)) leaf.list.0 r (λ list _. apart list)
      ∙ with_pair-other t.slots leaf.list.0 p None leaf.list.0 r (λ _ same. other same)

  pub uncovered-above : (r : ℕ) → r ≢ q → last.slots parent.list.0 r ≡ t.slots parent.list.0 r
  uncovered-above r other =
      with_pair-other mid.slots parent.list.0 q (Some (without_bits row)) parent.list.0 r (λ _ same. other same)
      ∙ with_pair-other t.slots leaf.list.0 p None parent.list.0 r (λ list _. apart (sym list))

-- ---- all rows

-- it begins where nothing has changed
pub uncovered-start : (arena : Arena) (rows : Rows Row) (pool : Pool) (k h : ℕ) (node : Node) → IsVisible (nodes_of arena) k node → node.parent ≡ link_to h →
    IsExact (tree_of arena rows) all_in_sight (is_taken pool) → IsUncovering arena rows pool k h 0
uncovered-start arena rows pool k h node visible up exact = record {
  node = node;
  visible = visible;
  up = up;
  exact = exact;
  free = λ p less. absurd (omega arith);
}

-- pages without own rows cover nothing
pub uncovered-more : {arena : Arena} {new : Rows Row} {after : Pool} {k h from : ℕ} (end : ℕ) (leaf : Node) → nodes_of arena k ≡ Some leaf →
    IsUncovering arena new after k h from →
    ((p : ℕ) → from ≤ p → p < end → IsHeldBy (nodes_of arena) (slots_of new) h leaf p → slots_of new leaf.list.0 p ≡ None) →
    IsUncovering arena new after k h end
uncovered-more {arena} {new} {after} {k} {h} {from} end leaf at was none =
    let one : leaf ≡ was.node = some_same (sym at ∙ was.visible.at) in
    record {
      node = was.node;
      visible = was.visible;
      up = was.up;
      exact = was.exact;
      free = λ p less held. elim (cases_lt p from) [
        | inl before ↦ was.free p before held
        | inr past ↦ subst (λ (n : Node). slots_of new n.list.0 p ≡ None) one
            (none p past less (subst (λ (n : Node). IsHeldBy (nodes_of arena) (slots_of new) h n p) (sym one) held))
      ];
    }

-- page p has an own row, and was come to
module _ {arena : Arena} {first : Rows Row} {between : Pool} {k h p : ℕ} (was : IsUncovering arena first between k h p)
    (leaf parent : Node) (leaf_at : nodes_of arena k ≡ Some leaf) (parent_at : nodes_of arena h ≡ Some parent) where
  abbrev q : ℕ
  q = leaf.first + p

  one : was.node ≡ leaf
  one = some_same (sym was.visible.at ∙ leaf_at)

  shown : IsVisible (nodes_of arena) k leaf
  shown = subst (λ (n : Node). IsVisible (nodes_of arena) k n) one was.visible

  link : leaf.parent ≡ link_to h
  link = subst (λ (n : Node). n.parent ≡ link_to h) one was.up

  -- the lists of the node and of its parent are two
  pub uncovered-lists : leaf.list.0 ≢ parent.list.0
  uncovered-lists same =
      let f = was.exact.forest in
      let below = f.by.below h k leaf leaf_at link in
      let none = ap (λ (n : Node). n.koid) (some_same (sym parent_at ∙ below.at)) ∙ below.hidden in
      hidden-apart (tree_of arena first) f h k parent leaf parent_at none shown (sym (f.by.own k h leaf parent leaf_at parent_at same))

  -- the page of the parent is a number of the machine
  pub uncovered-fits : leaf.first + leaf.seen ≤ parent.count
  uncovered-fits =
      let below = was.exact.forest.by.below h k leaf leaf_at link in
      subst (λ (n : Node). leaf.first + leaf.seen ≤ n.count) (some_same (sym below.at ∙ parent_at)) below.window

  -- it covers no row of the parent
  pub uncovered-none : slots_of first parent.list.0 q ≡ None → IsUncovering arena first between k h (p + 1)
  uncovered-none none = uncovered-more (p + 1) leaf leaf_at was (λ r past below held.
      let here : p ≡ r = omega arith in
      let above : held.above ≡ parent = some_same (sym held.at ∙ parent_at) in
      let some : IsSome (slots_of first parent.list.0 (leaf.first + r)) =
      subst (λ (n : Node). IsSome (slots_of first n.list.0 (leaf.first + r))) above held.row in
      absurd (let gone = subst (λ x. slots_of first parent.list.0 (leaf.first + x) ≡ None) here none in let nothing = ap is_some gone in cc))

  -- it goes, and the row of the parent has no bit set then
  module _ (inside : p < leaf.seen) (new : Rows Row) (after : Pool) (own row : Slot) (own_at : slots_of first leaf.list.0 p ≡ Some own)
      (row_at : slots_of first parent.list.0 q ≡ Some row)
      (slots : slots_of new ≡ with_pair (with_pair (slots_of first) leaf.list.0 p None) parent.list.0 q (Some (without_bits row)))
      (given : HasGiven between after (frame_in own)) where
    abbrev t : Tree
    t = tree_of arena first

    free-now : (r : ℕ) → r < p + 1 → IsHeldBy (nodes_of arena) (slots_of new) h leaf r → slots_of new leaf.list.0 r ≡ None
    free-now r less held = elim (cases_eq r p) [
      | inl same ↦ ap (slots_of new leaf.list.0) same ∙ (ap (λ (x : Slots). x leaf.list.0 p) slots
          ∙ uncovered-gone t (is_taken between) was.exact k h p q leaf parent shown link parent_at inside refl own row own_at row_at)
      | inr other ↦
          let above : held.above ≡ parent = some_same (sym held.at ∙ parent_at) in
          let apart : leaf.first + r ≢ q = λ e. absurd (omega arith) in
          let same : slots_of new parent.list.0 (leaf.first + r) ≡ slots_of first parent.list.0 (leaf.first + r) =
          ap (λ (x : Slots). x parent.list.0 (leaf.first + r)) slots
          ∙ uncovered-above t (is_taken between) was.exact k h p q leaf parent shown link parent_at inside refl own row own_at row_at (leaf.first + r) apart in
          let some : IsSome (slots_of new parent.list.0 (leaf.first + r)) = subst (λ (n : Node). IsSome (slots_of new n.list.0 (leaf.first + r))) above held.row in
          let there : IsHeldBy (nodes_of arena) (slots_of first) h leaf r =
          record { above = parent; at = parent_at; row = ap is_some (sym same) ∙ some; inside = held.inside } in
          ap (λ (x : Slots). x leaf.list.0 r) slots
          ∙ (uncovered-own t (is_taken between) was.exact k h p q leaf parent shown link parent_at inside refl own row own_at row_at r other
          ∙ subst (λ (n : Node). slots_of first n.list.0 r ≡ None) one
          (was.free r (omega arith) (subst (λ (n : Node). IsHeldBy (nodes_of arena) (slots_of first) h n r) (sym one) there)))
    ]

    pub uncovered-row : IsUncovering arena new after k h (p + 1)
    uncovered-row = record {
      node = leaf;
      visible = shown;
      up = link;
      exact = subst (λ (x : Slots). IsExact (record t { slots = x }) all_in_sight (is_taken after)) (sym slots)
          (exact-in_use_alike (record t { slots = with_pair (with_pair (slots_of first) leaf.list.0 p None) parent.list.0 q (Some (without_bits row)) }) all_in_sight
          (without_frame (is_taken between) (frame_in own)) (is_taken after) (λ x. sym (given.taken x))
          (uncovered-exact t (is_taken between) was.exact k h p q leaf parent shown link parent_at inside refl own row own_at row_at));
      free = free-now;
    }

    part : IsPartOf (slots_of first) (slots_of new)
    part = subst (λ (s : Slots). IsPartOf (slots_of first) s) (sym slots)
        (uncovered-part t (is_taken between) was.exact k h p q leaf parent shown link parent_at inside refl own row own_at row_at)

    pub uncovered-lost : first.spare ≤ new.spare → row_count new ≤ row_count first → Moves arena first new between after k 0 IsPartOf
    uncovered-lost spare count = record {
      accounts = accounts-part first new between after (frame_in own) part given spare count;
      shows = λ w x page before.
          ap (λ (s : Slots). frame_shown (record t { slots = s }) w x) slots
          ∙ uncovered-shows t (is_taken between) was.exact k h p q leaf parent shown link parent_at inside refl own row own_at row_at w x
          (λ same. absurd (let early = before same in omega arith)) page;
      keeps = part;
    }

-- ---- what the code asks on the way

-- the row of the other list is still there
pub above-stays : (old new : Slots) (l p above q : ℕ) (row : Slot) → new ≡ with_pair old l p None → l ≢ above → old above q ≡ Some row → IsSome (new above q)
above-stays old new l p above q row is apart at =
    ap is_some (ap (λ (x : Slots). x above q) is ∙ (with_pair-other old l p None above q (λ list _. apart (sym list)) ∙ at))

-- the node is visible, and this is its parent
pub uncover-ready : (arena : Arena) (k : ℕ) (hidden : NodeId) (node : Node) → IsSomeAnd (nodes_of arena k) (λ node. IsSome node.koid × (node.parent ≡ Some hidden)) →
    nodes_of arena k ≡ Some node → IsVisible (nodes_of arena) k node × (node.parent ≡ Some hidden)
uncover-ready arena k hidden node some at =
    let it = subst (λ (o : Option Node). IsSomeAnd o (λ node. IsSome node.koid × (node.parent ≡ Some hidden))) at some in
    (record { at = at; koid = it.0 }, it.1)
