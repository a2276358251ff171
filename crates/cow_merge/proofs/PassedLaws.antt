-- A row of a hidden node is passed on the way up: the page of v that comes to it is cut off there, or nothing changes.
use Rattle.cow_merge.proofs.Words.{◌≡◌, ℕ, ◌+◌, ◌-◌, ◌<◌, ◌≤◌, Bool, true, Option, None, Some, inl, inr, IsSome, refl, sym, ap, subst, ◌∙◌}
use Rattle.cow_merge.proofs.Words.{arith, is_some, cases_Bool, Rows, Tag, some_same, Row, Slot, slots_of, row_count, Pool, taken_frames}
use Rattle.cow_merge.proofs.Words.{is_taken, Node, NodeId, Side, Arena, nodes_of, IsVisible, side_of, Tree, frame_shown, IsForest, HasRow}
use Rattle.cow_merge.proofs.Words.{Climbs, Reaches, Arrives, IsPartOf, Cut, tree_of, ComesTo, IsPage, IsSeenFrom, AreSplitBits, IsExact}
use Rattle.cow_merge.proofs.Words.{IsOnlyOf, leaving_out, frame_left, HasCut, IsUnseenBy, bare_of, bit_on, is_split, HasGiven, IsOnlyWay}
use Rattle.cow_merge.proofs.Words.{HasCutOff, ComesNotTo, IsExactFor}
use Rattle.cow_arena.proofs.ReachLaws.{reach-cases, reach-after, reach-apart, reach-hidden, side-is, found-of-reach, arrives-or-not}
use Rattle.cow_split.proofs.ExactLaws.{cases_place}
use Rattle.cow_split.proofs.RowLaws.{left_out-here, left_out-other, exact-in_use_alike}
use Rattle.cow_split.proofs.PartLaws.{part-same}
use Rattle.cow_merge.proofs.RangeLaws.{reach-part, given-none, cut-taken, cut-left_out, cut-spared, accounts-same, accounts-part}

-- ---- the ways through the windows

module _ (arena : Arena) (f : IsForest (nodes_of arena) arena.lists) where
  -- a page comes through the windows of a node to its parent
  pub bare-up : (v first k : ℕ) (h : NodeId) (node above : Node) (x y : ℕ) → nodes_of arena k ≡ Some node → node.parent ≡ Some h →
      nodes_of arena h.0 ≡ Some above → x < node.seen → y ≡ node.first + x → ComesTo (bare_of arena) v first k x →
      Reaches (bare_of arena) v first (side_of above k) h.0 y
  bare-up v first k h node above x y at up above_at inside page came =
      let climbs : Climbs (bare_of arena) k x h.0 y =
      record { node = node; at = at; free = refl; inside = inside; parent = up; page = page } in
      reach-after (bare_of arena) f v first came.side k x (side_of above k) h.0 y came.way climbs
      (side-is (nodes_of arena) arena.lists f h.0 k above node above_at at up)

  module _ (v first shift h : ℕ) (from : Side) (way : Reaches (bare_of arena) v first from h (first + shift)) where
    -- so there is one page that can come to a row of it, and from one side
    pub bare-only : (rows : Rows Row) (row : ℕ) → shift ≤ row → IsOnlyWay (tree_of arena rows) v (row - shift) from h row
    bare-only rows row less = record {
      only = λ x s there.
          let apart = reach-apart (bare_of arena) f v x s h row first from (first + shift)
          (reach-part (tree_of arena rows) (λ l p. None) (record { had = λ l q row e. absurd (cc) }) v x s h row there) way in
          (omega (arith, apart.0), apart.1);
    }

    pub bare-hidden : (above : Node) → nodes_of arena h ≡ Some above → above.koid ≡ None
    bare-hidden above at =
        let it = reach-hidden (bare_of arena) f v first from h (first + shift) way in
        subst (λ (n : Node). n.koid ≡ None) (some_same (sym it.1 ∙ at)) it.2

-- ---- one row of a hidden node

-- where no page of v but p can come to the row, and p does not, none does
unseen-by : (t : Tree) (out : ℕ → ℕ → Bool) (v p : ℕ) (from : Side) (h q : ℕ) (above : Node) → t.nodes h ≡ Some above → above.koid ≡ None →
    IsOnlyWay t v p from h q → (Reaches t v p from h q → ⊥) → IsUnseenBy t out v from h q
unseen-by t out v p from h q above at hidden only none = record {
  above = above;
  at = at;
  hidden = hidden;
  none = λ x sight way. none (subst (λ x. Reaches t v x from h q) (only.only x from way).0 way);
}

-- what comes to the row comes from this side
from-there : (t : Tree) (v p : ℕ) (from : Side) (h q : ℕ) (node : Node) → IsVisible t.nodes v node →
    ((above : Node) → t.nodes h ≡ Some above → above.koid ≡ None) → IsOnlyWay t v p from h q → (side : Option Side) → Arrives t v p side h q → Reaches t v p from h q
from-there t v p from h q node visible hidden only None way =
    let none = ap is_some (hidden node (ap t.nodes (sym way.0) ∙ visible.at)) in
    let shown = visible.koid in
    absurd (cc)
from-there t v p from h q node visible hidden only (Some side) way = subst (λ s. Reaches t v p s h q) (only.only p side way).1 way

module _ {arena : Arena} {old new : Rows Row} {v p : ℕ} {from : Side} {h q : ℕ} {slot : Slot} {pool : Pool} {answer : Cut}
    (has : IsExactFor arena old pool v) (bare : slots_of old has.node.list.0 p ≡ None)
    (row : HasRow (tree_of arena old) h q slot) (hidden : (above : Node) → nodes_of arena h ≡ Some above → above.koid ≡ None)
    (only : IsOnlyWay (tree_of arena old) v p from h q)
    (seen : Reaches (tree_of arena old) v p from h q → HasCut arena old new v p answer)
    (unseen : IsUnseenBy (tree_of arena old) has.out v from h q → (slots_of new ≡ slots_of old) × (frame_left answer ≡ None)) where
  stayed : (Reaches (tree_of arena old) v p from h q → ⊥) → (slots_of new ≡ slots_of old) × (frame_left answer ≡ None)
  stayed none = unseen (unseen-by (tree_of arena old) has.out v p from h q row.node row.at (hidden row.node row.at) only none)

  comes : (side : Option Side) → Arrives (tree_of arena old) v p side h q → Reaches (tree_of arena old) v p from h q
  comes = from-there (tree_of arena old) v p from h q has.node has.visible hidden only

  -- the frame that is to be given back is taken
  pub row-taken : (tag : Tag) → answer ≡ Cut.LastViewer tag → IsSome (taken_frames pool tag.0)
  row-taken tag is = elim (arrives-or-not (tree_of arena old) has.exact.forest h q v p) [
    | inl way ↦ cut-taken arena old new v p has.node has.visible pool has.out answer tag has.exact has.only bare (seen (comes way.0 way.1)) is
    | inr none ↦ absurd (let stays = stayed (λ way. none (Some from) way) in let left = ap frame_left is in let nothing = stays.1 in cc)
  ]

  pub row-passed : (after : Pool) → HasGiven pool after (frame_left answer) → old.spare ≤ new.spare → row_count new ≤ row_count old →
      (out : ℕ → ℕ → Bool) → IsExact (tree_of arena old) out (is_taken pool) → IsOnlyOf out v →
      HasCutOff arena old new pool after v p (ComesNotTo (tree_of arena old) v p h q) out
  row-passed after given spare count out exact of_v = elim (arrives-or-not (tree_of arena old) has.exact.forest h q v p) [
    | inl way ↦
        cut-left_out arena old new v p has.node has.visible pool after answer has.exact.forest bare (seen (comes way.0 way.1)) given out exact of_v
    | inr none ↦
        let stays = stayed (λ way. none (Some from) way) in
        let same = subst (λ o. HasGiven pool after o) stays.1 given in
        let part = subst (λ s. IsPartOf (slots_of old) s) (sym stays.0) (part-same (slots_of old)) in
        record {
          now = out;
          leaves = inr (refl, none);
          exact = exact-in_use_alike (tree_of arena new) out (is_taken pool) (is_taken after) (λ t. (given-none pool).taken t ∙ sym (same.taken t))
              (subst (λ s. IsExact (record (tree_of arena old) { slots = s }) out (is_taken pool)) (sym stays.0) exact);
          shows = λ w r page sight. ap (λ s. frame_shown (record (tree_of arena old) { slots = s }) w r) stays.0;
          part = part;
          accounts = accounts-part old new pool after None part same spare count;
        }
  ]

-- ---- a row whose bit of the side is set

module _ (t : Tree) (out : ℕ → ℕ → Bool) (in_use : ℕ → Bool) (exact : IsExact t out in_use) (v p : ℕ) (node : Node) (visible : IsVisible t.nodes v node)
    (from : Side) (h q : ℕ) (way : Reaches t v p from h q) where
  -- the page is one of v
  way-page : IsPage t v p
  way-page = elim (reach-cases t v p from h q way) [
    | inl one ↦ page_of one.0.node one.0.at one.0.inside
    | inr on ↦ page_of on.2.node on.2.at on.2.inside
  ]
    where
      page_of : (n : Node) → t.nodes v ≡ Some n → p < n.seen → IsPage t v p
      page_of n at inside =
          let koid = subst (λ (n : Node). IsSome n.koid) (some_same (sym visible.at ∙ at)) visible.koid in
          record { node = n; visible = record { at = at; koid = koid }; below = let most = exact.forest.by.seen v n at in omega arith }

  -- the bit denies that the page is in sight
  split-out : (above : Node) (slot : Slot) → t.nodes h ≡ Some above → above.koid ≡ None → t.slots above.list.0 q ≡ Some slot → is_split from slot ≡ true →
      out v p ≡ true
  split-out above Slot.Zero at hidden row split = absurd (cc)
  split-out above (Slot.Frame tag left right) at hidden row split = elim (cases_Bool (out v p)) [
    | inl gone ↦ gone
    | inr sight ↦ absurd (denied from left right (exact.bits h q above tag left right at hidden row) split (record {
      v = v;
      p = p;
      sees = record {
        page = way-page;
        slot = Slot.Frame tag left right;
        found = found-of-reach t exact.forest v p from h q above (Slot.Frame tag left right) way at row;
      };
      in_sight = sight;
    }))
  ]
    where
      denied : (s : Side) (one other : Bool) → AreSplitBits t out h q one other → bit_on s one other ≡ true → IsSeenFrom t out s h q → ⊥
      denied Side.Left one other bits e = bits.left_bit.is_true e
      denied Side.Right one other bits e = bits.right_bit.is_true e

-- what is left out is left out
out-again : (out : ℕ → ℕ → Bool) (v p : ℕ) → out v p ≡ true → (w r : ℕ) → out w r ≡ leaving_out out v p w r
out-again out v p gone w r = elim (cases_place v p w r) [
  | inl here ↦
      let now : out w r ≡ true = (λ i. out (here.0 i) (here.1 i)) ∙ gone in
      let also : leaving_out out v p w r ≡ true = (λ i. leaving_out out v p (here.0 i) (here.1 i)) ∙ left_out-here out v p in
      now ∙ sym also
  | inr differs ↦ sym (left_out-other out v p w r differs)
]

-- so nothing has to change
pub split-passed : (arena : Arena) (rows : Rows Row) (pool : Pool) (v p : ℕ) (from : Side) (h q : ℕ) (slot : Slot) (has : IsExactFor arena rows pool v) →
    HasRow (tree_of arena rows) h q slot → ((above : Node) → nodes_of arena h ≡ Some above → above.koid ≡ None) → IsOnlyWay (tree_of arena rows) v p from h q →
    is_split from slot ≡ true → (out : ℕ → ℕ → Bool) → IsExact (tree_of arena rows) out (is_taken pool) →
    HasCutOff arena rows rows pool pool v p (ComesNotTo (tree_of arena rows) v p h q) out
split-passed arena rows pool v p from h q slot has row hidden only split out exact = elim (arrives-or-not (tree_of arena rows) has.exact.forest h q v p) [
  | inl way ↦
      let reaches = from-there (tree_of arena rows) v p from h q has.node has.visible hidden only way.0 way.1 in
      let gone = split-out (tree_of arena rows) out (is_taken pool) exact v p has.node has.visible from h q reaches row.node slot row.at
      (hidden row.node row.at) row.row split in
      record {
        now = out;
        leaves = inl (λ i w r. out-again out v p gone w r i);
        exact = exact;
        shows = λ w r page sight. refl;
        part = part-same (slots_of rows);
        accounts = accounts-same rows pool;
      }
  | inr none ↦ cut-spared exact none
]
