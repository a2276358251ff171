-- Rows of a hidden node go, or move into the list of a child, where the other child, a VMO's node, goes: the page of this node
-- that comes to a row is left out of sight first, as if it were cut off, and then the row goes or moves.
use Rattle.cow_merge.proofs.Words.{◌≡◌, ◌≢◌, ◌⊎◌, ℕ, ◌+◌, ◌-◌, ◌*◌, ◌^◌, ◌<◌, ◌≤◌, if◌then◌else◌, Bool, true, false, ◌&&◌, not, Option}
use Rattle.cow_merge.proofs.Words.{None, Some, IsSome, refl, sym, ap, subst, ◌∙◌, inl, inr, arith, ◌==◌, ◌||◌, cond, is_some, cases_Bool}
use Rattle.cow_merge.proofs.Words.{cond-true, cond-false, eq-eqb, ne_eqb, cases_lt, cases_eq, and_from, with_pair, HasNone, has_row, IsNext, Rows, passes}
use Rattle.cow_merge.proofs.Words.{Tag, some_same, eqb_is, eqb_same, slots_of, row_count, Row, Slot, Node, NodeId, Side, Arena, nodes_of}
use Rattle.cow_merge.proofs.Words.{IsVisible, AreFamily, link_to, other_side, side_of, side_in, child_on, Slots, Tree, tree_with, Found}
use Rattle.cow_merge.proofs.Words.{walk, frame_in, frame_shown, IsForest, Climbs, Reaches, IsPartOf, KeepsBelow, Cut, tree_of, with_row}
use Rattle.cow_merge.proofs.Words.{reached_from, IsPage, IsSeenFrom, ShowsSame, Denies, AreSplitBits, IsExact, IsOnlyOf, all_in_sight}
use Rattle.cow_merge.proofs.Words.{leaving_out, without_frame, split_on, answer_on, slots_from, answer_from, slots_after, answer_after}
use Rattle.cow_merge.proofs.Words.{cut_slots, cut_answer, frame_left, Backlink, Pool, taken_frames, is_taken, links_of, bit_on}
use Rattle.cow_merge.proofs.Words.{leaving_range, AreLinked, IsLeftOut, IsHeldBy, IsSparing, Accounts, Moves, HasGiven, IsInSight}
use Rattle.cow_merge.proofs.Words.{IsNotFrom, IsAside, AreLifted, IsLifting, IsBefore, IsFamilyOf, SeesRow, IsMoved, IsReachedBelow, TellsSeen}
use Rattle.cow_merge.proofs.Words.{is_row_of_frame, KeepsFamily}
use Rattle.cow_arena.proofs.RisesSplicedLaws.{below-same, below-then, below-fewer, below-gone, below-moved}
use Rattle.cow_arena.proofs.ReachLaws.{side-is, side-of-child, reach-one, reach-on, reach-through, found-of-reach, walk-ends}
use Rattle.cow_arena.proofs.AlikeLaws.{with_pair-same, with_pair-other}
use Rattle.cow_arena.proofs.SpliceWalkLaws.{family-side, family-parent}
use Rattle.cow_split.proofs.PartLaws.{part-none, part-with_pair}
use Rattle.cow_split.proofs.SearchLaws.{leaf-alone}
use Rattle.cow_split.proofs.RowLaws.{left_out-in_sight, only-more, exact-in_use_alike, with_row-twice}
use Rattle.cow_split.proofs.ExactLaws.{cases_place}
use Rattle.cow_split.proofs.CutLaws.{exact-cut, cut-shows, page-over}
use Rattle.cow_merge.proofs.PassingLaws.{range-exact}
use Rattle.cow_merge.proofs.SpliceLaws.{family-apart}
use Rattle.cow_merge.proofs.LiftLaws.{lists-apart, leaf-step, hidden, not-below, dropped-shows, dropped-exact, moved-shows, moved-exact, frame-reached}
use Rattle.cow_merge.proofs.RangeLaws.{moves-as, moves-then, moves-same, accounts-part}

-- a slot that has a frame, by the test
pub has-frame : (t : ℕ) (row : Slot) → frame_in row ≡ Some t → is_row_of_frame t row ≡ true
unfolding passes
has-frame t Slot.Zero e = absurd (cc)
has-frame t (Slot.Frame tag left right) e = eq-eqb t tag.0 (sym (some_same e))

pub of-has-frame : (t : ℕ) (row : Slot) → is_row_of_frame t row ≡ true → frame_in row ≡ Some t
unfolding passes
of-has-frame t Slot.Zero e = absurd (cc)
of-has-frame t (Slot.Frame tag left right) e = ap Some (sym (eqb_is t tag.0 e))

pub link-same : (a b x y : ℕ) → a ≡ b → x ≡ y → ◌≡◌ {A = Backlink} (record { list = a; page = x }) (record { list = b; page = y })
link-same a b x y e f i = record { list = e i; page = f i }

-- a row that is there was there, if its place is not the one that lost its row
pub was-there : (slots : Slots) (l q m r : ℕ) (row : Slot) → with_pair slots l q None m r ≡ Some row →
    ((m ≡ l) × (r ≡ q) → ⊥) × (slots m r ≡ Some row)
was-there slots l q m r row e = elim (cases_place l q m r) [
  | inl here ↦ absurd (
      let none : with_pair slots l q None m r ≡ None = rw (here.0, here.1) (with_pair-same slots l q None) in cc)
  | inr differs ↦ (differs, sym (with_pair-other slots l q None m r (λ x y. differs (x, y))) ∙ e)
]

-- the rows of a list after one went
pub rows-gone : (old new : Slots) (l q p : ℕ) → new ≡ with_pair old l q None → new l p ≡ (if p == q then None else old l p)
unfolding with_pair
rows-gone old new l q p e =
    ap (λ (x : Slots). x l p) e ∙ ap (λ (b : Bool). cond (b && (p == q)) None (old l p)) (eqb_same l)

-- the rows of a list after one came into another
pub rows-beside : (old new : Slots) (l m r p : ℕ) (row : Option Slot) → new ≡ with_pair old m r row → (l ≡ m → ⊥) → new l p ≡ old l p
rows-beside old new l m r p row e apart = ap (λ (x : Slots). x l p) e ∙ with_pair-other old m r row l p (λ list _. apart list)

-- no row is left from `start` to one that was next, and went
pub passed-more : (old new : ℕ → Option Slot) (start from page : ℕ) → HasNone (has_row old) start from → IsNext old from (Some page) →
    ((p : ℕ) → new p ≡ (if p == page then None else old p)) → HasNone (has_row new) start page
passed-more old new start from page below next gone p least less =
    ap is_some (gone p ∙ cond-false _ _ _ (ne_eqb p page (λ same. absurd (omega arith)))) ∙ elim (cases_lt p from) [
      | inl before ↦ below p least before
      | inr after ↦ ap is_some ((next.least page refl).2 p after less)
    ]

-- no row is below an end that the next one is not below
pub none-below : (rows : ℕ → Option Slot) (from page : ℕ) (to : Option ℕ) → IsNext rows from (Some page) → ((p : ℕ) → page ≤ p → IsBefore to p → ⊥) →
    (p : ℕ) → from ≤ p → IsBefore to p → rows p ≡ None
none-below rows from page to next past p least less = elim (cases_lt p page) [
  | inl before ↦ (next.least page refl).2 p least before
  | inr after ↦ absurd (past p after less)
]

-- and a row that is left was there
pub left-was : (old new : ℕ → Option Slot) (page : ℕ) → ((p : ℕ) → new p ≡ (if p == page then None else old p)) → (p : ℕ) (row : Slot) →
    new p ≡ Some row → old p ≡ Some row
left-was old new page gone p row at = elim (cases_eq p page) [
  | inl same ↦ absurd (let none = gone p ∙ cond-true _ _ _ (eq-eqb p page same) in cc)
  | inr apart ↦ sym (gone p ∙ cond-false _ _ _ (ne_eqb p page apart)) ∙ at
]

-- how far a walk over the rows has to go: twice as far as the numbers go, and one more where it stands at a row
abbrev pub still_ahead : (from : ℕ) → Option Slot → ℕ
still_ahead from row = 2 * (2 ^ 64 - from) + cond (is_some row) 1 0

-- the row that went is gone
pub gone-here : (o : Option Slot) (page : ℕ) → (if page == page then None else o) ≡ None
gone-here o page = cond-true _ _ _ (eqb_same page)

-- it is less far behind a row that went
pub ahead-less : (old new : ℕ → Option Slot) (from page : ℕ) → from ≤ page → page < 2 ^ 64 → IsSome (old page) → new page ≡ None →
    still_ahead page (new page) < still_ahead from (old from)
ahead-less old new from page least fits had gone =
    let after : ◌≡◌ {A = ℕ} (cond (is_some (new page)) 1 0) 0 = ap (λ (o : Option Slot). cond (is_some o) 1 0) gone in
    elim (cases_eq from page) [
      | inl same ↦
          let before : ◌≡◌ {A = ℕ} (cond (is_some (old from)) 1 0) 1 = ap (λ b. cond b 1 0) (ap (λ x. is_some (old x)) same ∙ had) in
          omega arith
      | inr apart ↦ omega arith
    ]

-- ---- bits

-- where the other bit is set, the row goes
split-none : (from : Side) (tag : Tag) (left right : Bool) → bit_on (other_side from) left right ≡ true →
    (split_on from tag left right ≡ None) × (answer_on from tag left right ≡ Cut.LastViewer tag)
split-none Side.Left tag left true e = (refl, refl)
split-none Side.Left tag left false e = absurd (cc)
split-none Side.Right tag true right e = (refl, refl)
split-none Side.Right tag false right e = absurd (cc)

-- and else it stays, with its frame
split-some : (from : Side) (tag : Tag) (left right : Bool) → bit_on (other_side from) left right ≡ false →
    (row : Slot) × (split_on from tag left right ≡ Some row) × (answer_on from tag left right ≡ Cut.StillSeen) × (frame_in row ≡ Some tag.0)
split-some Side.Left tag left true e = absurd (cc)
split-some Side.Left tag left false e = (Slot.Frame tag true false, refl, refl, refl)
split-some Side.Right tag true right e = absurd (cc)
split-some Side.Right tag false right e = (Slot.Frame tag false true, refl, refl, refl)

pub denies-on : (t : Tree) (out : ℕ → ℕ → Bool) (h q : ℕ) (left right : Bool) (from : Side) → AreSplitBits t out h q left right →
    Denies (bit_on from left right) (IsSeenFrom t out from h q)
denies-on t out h q left right Side.Left bits = bits.left_bit
denies-on t out h q left right Side.Right bits = bits.right_bit

-- not both bits are set
pub one-bit : (left right : Bool) (from : Side) → (left && right) ≡ false → bit_on from left right ≡ true → bit_on (other_side from) left right ≡ true → ⊥
one-bit true true from none one two = absurd (cc)
one-bit true false Side.Left none one two = absurd (cc)
one-bit true false Side.Right none one two = absurd (cc)
one-bit false right Side.Left none one two = absurd (cc)
one-bit false right Side.Right none one two = absurd (cc)

-- ---- one row

-- The rows are these, and the tree is exact over the frames but one; each page of k that comes to page q of its parent is left
-- out too, and the others show what they showed.
pub record IsCut (t : Tree) (k : ℕ) (leaf : Node) (q : ℕ) (slots : Slots) (out now : ℕ → ℕ → Bool) (in_use : ℕ → Bool) (left : Option ℕ) : Type 0 where
  pub exact : IsExact (record t { slots = slots }) now (without_frame in_use left)
  pub only : IsOnlyOf now k
  pub aside : IsAside now k leaf q
  pub more : (w p : ℕ) → now w p ≡ false → out w p ≡ false
  pub shows : ShowsSame t (record t { slots = slots }) (IsInSight now)

-- the row is still there, with its frame, and no other row has changed
pub record StillThere (t : Tree) (k : ℕ) (leaf : Node) (list q : ℕ) (row : Slot) (out : ℕ → ℕ → Bool) (in_use : ℕ → Bool) : Type 0 where
  pub now : ℕ → ℕ → Bool
  pub slots : Slots
  pub is_cut : IsCut t k leaf q slots out now in_use None
  pub there : Slot
  pub at : slots list q ≡ Some there
  pub frame : frame_in there ≡ frame_in row
  pub same : with_pair slots list q None ≡ with_pair t.slots list q None
  pub beside : (l p : ℕ) → l ≢ list → slots l p ≡ t.slots l p

left_out-here : (out : ℕ → ℕ → Bool) (v p : ℕ) → leaving_out out v p v p ≡ true
unfolding leaving_out
left_out-here out v p = ap (λ (b : Bool). b || out v p) (and_from (v == v) (p == p) (eqb_same v) (eqb_same p))

pub without-none : (in_use : ℕ → Bool) (tag : ℕ) → in_use tag ≡ without_frame in_use None tag
unfolding without_frame
without-none in_use tag = refl

module _ (t : Tree) (k h s : ℕ) (leaf parent sibling : Node) (family : AreFamily t.nodes k h s leaf parent sibling) (visible : IsVisible t.nodes k leaf)
    (q : ℕ) (row : Slot) (has : t.slots parent.list.0 q ≡ Some row) (out : ℕ → ℕ → Bool) (in_use : ℕ → Bool) (exact : IsExact t out in_use)
    (only : IsOnlyOf out k) where
  abbrev f : IsForest t.nodes t.lists
  f = exact.forest

  abbrev leaf_side : Side
  leaf_side = side_of parent k

  sides : (child_on parent leaf_side ≡ link_to k) × (child_on parent (other_side leaf_side) ≡ link_to s)
  sides = family-side t.nodes t.lists f k h s leaf parent sibling family

  -- where no row changes, this one is still there
  pub untouched : (now : ℕ → ℕ → Bool) → IsCut t k leaf q t.slots out now in_use None → StillThere t k leaf parent.list.0 q row out in_use
  untouched now is_cut = record {
    now = now;
    slots = t.slots;
    is_cut = is_cut;
    there = row;
    at = has;
    frame = refl;
    same = refl;
    beside = λ l p apart. refl;
  }

  -- where no page of the leaf comes there, nobody comes there from its side
  pub none-seen : ((p : ℕ) → Climbs t k p h q → ⊥) → IsSeenFrom t out leaf_side h q → ⊥
  none-seen none seen =
      let way = (walk-ends t f seen.v seen.p _ seen.sees.found).way in
      let it = reach-through t f seen.v seen.p leaf_side h q k parent way family.parent_at sides.0 in
      none it.0 it.3

  module _ (tag : Tag) (left right : Bool) (is_row : row ≡ Slot.Frame tag left right) where
    pub bits : AreSplitBits t out h q left right
    bits = exact.bits h q parent tag left right family.parent_at (hidden t f k h s leaf parent sibling family visible) (has ∙ ap Some is_row)

    -- a row that its bit tells of is seen by the sibling
    pub row-sees : bit_on (other_side leaf_side) left right ≡ false → SeesRow t.slots sibling q
    row-sees on =
        let seen = (denies-on t out h q left right (other_side leaf_side) bits).is_false on in
        let way = (walk-ends t f seen.v seen.p _ seen.sees.found).way in
        let it = reach-through t f seen.v seen.p (other_side leaf_side) h q s parent way family.parent_at sides.1 in
        let step = it.3 in
        let same : step.node ≡ sibling = some_same (sym step.at ∙ family.sibling_at) in
        let first = ap (λ (n : Node). n.first) same in
        let seen_is = ap (λ (n : Node). n.seen) same in
        let here : it.0 ≡ q - sibling.first = omega (arith, step.page) in
        record {
          from = omega (arith, step.page);
          inside = omega (arith, step.inside);
          free = subst (λ x. t.slots sibling.list.0 x ≡ None) here (subst (λ (n : Node). t.slots n.list.0 it.0 ≡ None) same step.free);
        }

    -- where another VMO's node comes to it from the sibling's side, its bit says so
    pub row-bit_of : (v p : ℕ) → IsPage t v p → v ≢ k → Reaches t v p (other_side leaf_side) h q → bit_on (other_side leaf_side) left right ≡ false
    row-bit_of v p page other way = elim (cases_Bool (bit_on (other_side leaf_side) left right)) [
      | inr off ↦ off
      | inl on ↦ absurd ((denies-on t out h q left right (other_side leaf_side) bits).is_true on (record {
        v = v;
        p = p;
        sees = record { page = page; slot = row; found = found-of-reach t f v p (other_side leaf_side) h q parent row way family.parent_at has };
        in_sight = elim (cases_Bool (out v p)) [
          | inr sight ↦ sight
          | inl hides ↦ absurd (other (only v p hides))
        ];
      }))
    ]

    -- the sibling's page goes on to the row
    beside-step : SeesRow t.slots sibling q → Climbs t s (q - sibling.first) h q
    beside-step sees = record {
      node = sibling;
      at = family.sibling_at;
      free = sees.free;
      inside = sees.inside;
      parent = family-parent t.nodes t.lists f k h s leaf parent sibling family;
      page = omega (arith, sees.from);
    }

    beside-side : side_in t.nodes s ≡ Some (other_side leaf_side)
    beside-side = side-of-child t.nodes t.lists f h s parent (other_side leaf_side) family.parent_at sides.1

    -- the sibling is one, if it is visible and sees the row
    pub row-bit : IsVisible t.nodes s sibling → SeesRow t.slots sibling q → bit_on (other_side leaf_side) left right ≡ false
    row-bit shown sees = row-bit_of s (q - sibling.first)
        (record { node = sibling; visible = shown; below = omega (arith, sees.inside, f.by.seen s sibling family.sibling_at) })
        (λ same. (family-apart t.nodes t.lists f k h s leaf parent sibling family).0 (sym same))
        (reach-one t s (q - sibling.first) (other_side leaf_side) h q (beside-step sees) beside-side)

    -- and so is one that comes to the sibling's page from below
    pub row-bit_below : (v p : ℕ) (from : Side) → IsPage t v p → Reaches t v p from s (q - sibling.first) → SeesRow t.slots sibling q →
        bit_on (other_side leaf_side) left right ≡ false
    row-bit_below v p from page way sees = row-bit_of v p page
        (λ same. not-below t f k h s leaf parent sibling family visible p from (q - sibling.first)
        (subst (λ i. Reaches t i p from s (q - sibling.first)) same way))
        (reach-on t v p from s (q - sibling.first) (other_side leaf_side) h q way (beside-step sees) beside-side)

  module _ (still : StillThere t k leaf parent.list.0 q row out in_use) where
    abbrev u : Tree
    u = record t { slots = still.slots }

    -- a zero row that the sibling does not see goes
    pub zero-gone : (SeesRow t.slots sibling q → ⊥) → IsCut t k leaf q (with_pair t.slots parent.list.0 q None) out still.now in_use None
    zero-gone unseen = record {
      exact = subst (λ (x : Slots). IsExact (record t { slots = x }) still.now (without_frame in_use None)) still.same
          (dropped-exact u f k h s leaf parent sibling family visible q closed still.now still.is_cut.aside (without_frame in_use None) still.is_cut.exact still.there still.at);
      only = still.is_cut.only;
      aside = still.is_cut.aside;
      more = still.is_cut.more;
      shows = λ w p page sight.
          sym (ap (λ (x : Slots). frame_shown (record t { slots = x }) w p) still.same)
          ∙ (dropped-shows u f k h s leaf parent sibling family visible q closed still.now still.is_cut.aside w p (page-over t still.slots w p page) sight
          ∙ still.is_cut.shows w p page sight);
    }
      where
        closed : (r : ℕ) → Climbs u s r h q → ⊥
        closed r step =
            let same : step.node ≡ sibling = some_same (sym step.at ∙ family.sibling_at) in
            let first = ap (λ (n : Node). n.first) same in
            let seen = ap (λ (n : Node). n.seen) same in
            let here : r ≡ q - sibling.first = omega (arith, step.page) in
            let apart = lists-apart t f k h s leaf parent sibling family visible in
            unseen (record {
              from = omega (arith, step.page);
              inside = omega (arith, step.inside);
              free = sym (still.beside sibling.list.0 (q - sibling.first) (λ list. apart (sym list)))
                  ∙ subst (λ x. still.slots sibling.list.0 x ≡ None) here (subst (λ (n : Node). still.slots n.list.0 r ≡ None) same step.free);
            })

    -- a row that the sibling sees
    module _ (sees : SeesRow t.slots sibling q) where
      to_page : q ≡ sibling.first + (q - sibling.first)
      to_page = omega (arith, sees.from)

      free : still.slots sibling.list.0 (q - sibling.first) ≡ None
      free =
          let apart = lists-apart t f k h s leaf parent sibling family visible in
          still.beside sibling.list.0 (q - sibling.first) (λ list. apart (sym list)) ∙ sees.free

      -- it is reached from some side of a hidden sibling
      pub row-reached : (tag : ℕ) → frame_in row ≡ Some tag → sibling.koid ≡ None →
          IsReachedBelow (with_row t parent.list.0 q None) s (q - sibling.first)
      row-reached tag frame none =
          subst (λ (x : Slots). IsReachedBelow (record t { slots = x }) s (q - sibling.first)) still.same
          (frame-reached u f k h s leaf parent sibling family visible q (q - sibling.first) still.there still.there still.at free sees.inside to_page refl
          still.now (without_frame in_use None) still.is_cut.exact still.is_cut.only still.is_cut.aside none tag (still.frame ∙ frame))

      -- it moves
      pub row-moved : (now : Slot) →
          IsMoved (with_row t parent.list.0 q None) s (q - sibling.first) sibling row now →
          IsCut t k leaf q (with_pair (with_pair t.slots parent.list.0 q None) sibling.list.0 (q - sibling.first) (Some now)) out still.now in_use None
      row-moved now bits = record {
        exact = subst (λ (x : Slots). IsExact (record t { slots = with_pair x sibling.list.0 (q - sibling.first) (Some now) }) still.now (without_frame in_use None)) still.same
            (moved-exact u f k h s leaf parent sibling family visible q (q - sibling.first) still.there now still.at free sees.inside to_page frames
            still.now (without_frame in_use None) still.is_cut.exact still.is_cut.only still.is_cut.aside bits_there);
        only = still.is_cut.only;
        aside = still.is_cut.aside;
        more = still.is_cut.more;
        shows = λ w p page sight.
            sym (ap (λ (x : Slots). frame_shown (record t { slots = with_pair x sibling.list.0 (q - sibling.first) (Some now) }) w p) still.same)
            ∙ (moved-shows u f k h s leaf parent sibling family visible q (q - sibling.first) still.there now still.at free sees.inside to_page frames
            still.now still.is_cut.aside w p (page-over t still.slots w p page) sight
            ∙ still.is_cut.shows w p page sight);
      }
        where
          frames : frame_in now ≡ frame_in still.there
          frames = bits.frame ∙ sym still.frame

          bits_there : IsMoved (with_row u parent.list.0 q None) s (q - sibling.first) sibling still.there now
          bits_there = record {
            frame = frames;
            plain = bits.plain;
            split = subst (λ (x : Slots). (tag : Tag) (left right : Bool) → now ≡ Slot.Frame tag left right → sibling.koid ≡ None →
                (left ≡ not (reached_from (record t { slots = x }) None Side.Left s (q - sibling.first)))
                × (right ≡ not (reached_from (record t { slots = x }) None Side.Right s (q - sibling.first))))
                (sym still.same) bits.split;
          }

  -- The leaf has no rows.
  module _ (bare : (p : ℕ) → t.slots leaf.list.0 p ≡ None) where
    -- a page of the leaf comes there, or none does
    in-window : ((p : ℕ) × (q ≡ leaf.first + p) × (p < leaf.seen)) ⊎ ((p : ℕ) → q ≡ leaf.first + p → p < leaf.seen → ⊥)
    in-window = elim (cases_lt q leaf.first) [
      | inl less ↦ inr (λ p is inside. absurd (omega arith))
      | inr from ↦ elim (cases_lt (q - leaf.first) leaf.seen) [
        | inl inside ↦ inl (q - leaf.first, omega arith, inside)
        | inr past ↦ inr (λ p is inside. absurd (omega arith))
      ]
    ]

    module _ (p : ℕ) (is : q ≡ leaf.first + p) (inside : p < leaf.seen) where
      step : Climbs t k p h q
      step = record { node = leaf; at = family.at; free = bare p; inside = inside; parent = family.parent_is; page = is }

      side_is : side_in t.nodes k ≡ Some leaf_side
      side_is = side-is t.nodes t.lists f h k parent leaf family.parent_at family.at family.parent_is

      found : walk t k p ≡ Some (record { node = h; page = q; side = Some leaf_side; slot = row })
      found = found-of-reach t f k p leaf_side h q parent row (reach-one t k p leaf_side h q step side_is) family.parent_at has

      alone : reached_from t (link_to k) leaf_side h q ≡ false
      alone = leaf-alone t f k h q leaf_side
          (record { above = parent; above_at = family.parent_at; child = sides.0; node = leaf; visible = visible })

      cut-slots : cut_slots t k p ≡ slots_from t k h q row (Some leaf_side)
      unfolding cut_slots
      cut-slots = ap (λ (it : Option Found). slots_after t k it) found

      cut-answer : cut_answer t k p ≡ answer_from t k h q row (Some leaf_side)
      unfolding cut_answer
      cut-answer = ap (λ (it : Option Found). answer_after t k it) found

      slots-frame : (tag : Tag) (left right : Bool) →
          slots_from t k h q (Slot.Frame tag left right) (Some leaf_side) ≡ with_pair t.slots parent.list.0 q (split_on leaf_side tag left right)
      slots-frame tag left right = rw (alone, family.parent_at) refl

      answer-frame : (tag : Tag) (left right : Bool) → answer_from t k h q (Slot.Frame tag left right) (Some leaf_side) ≡ answer_on leaf_side tag left right
      answer-frame tag left right = rw alone refl

      cut-off : (slots : Slots) (answer : Cut) → slots_from t k h q row (Some leaf_side) ≡ slots → answer_from t k h q row (Some leaf_side) ≡ answer →
          IsCut t k leaf q slots out (leaving_out out k p) in_use (frame_left answer)
      cut-off slots answer slots_is answer_is = record {
        exact = subst (λ (x : Slots). IsExact (record t { slots = x }) (leaving_out out k p) (without_frame in_use (frame_left answer))) (cut-slots ∙ slots_is)
            (subst (λ (a : Cut). IsExact (record t { slots = cut_slots t k p }) (leaving_out out k p) (without_frame in_use (frame_left a))) (cut-answer ∙ answer_is)
            (exact-cut t out in_use exact k p only leaf visible (bare p)));
        only = only-more out k p only;
        aside = λ r at within.
            let same : r ≡ p = omega (arith, is) in
            subst (λ x. leaving_out out k p k x ≡ true) (sym same) (left_out-here out k p);
        more = λ w r sight. (left_out-in_sight out k p w r sight).1;
        shows = λ w r page sight.
            sym (ap (λ (x : Slots). frame_shown (record t { slots = x }) w r) (cut-slots ∙ slots_is))
            ∙ cut-shows t out in_use exact k p only leaf visible (bare p) w r page sight;
      }

    -- no page of the leaf comes there, so that none has to be left out
    none-cut : ((p : ℕ) → q ≡ leaf.first + p → p < leaf.seen → ⊥) → IsCut t k leaf q t.slots out out in_use None
    none-cut none = record {
      exact = exact-in_use_alike t out in_use (without_frame in_use None) (without-none in_use) exact;
      only = only;
      aside = λ p is inside. absurd (none p is inside);
      more = λ w p sight. sight;
      shows = λ w p page sight. refl;
    }

    module _ (tag : Tag) (left right : Bool) (is_row : row ≡ Slot.Frame tag left right) where
      -- a row that is not seen through the sibling goes, with its frame
      pub row-gone : bit_on (other_side leaf_side) left right ≡ true →
          (now : ℕ → ℕ → Bool) × IsCut t k leaf q (with_pair t.slots parent.list.0 q None) out now in_use (Some tag.0)
      row-gone off = elim in-window [
        | inl it ↦
            let split = split-none leaf_side tag left right off in (
              leaving_out out k it.0,
              cut-off it.0 it.1 it.2 (with_pair t.slots parent.list.0 q None) (Cut.LastViewer tag)
                  (ap (λ (r : Slot). slots_from t k h q r (Some leaf_side)) is_row ∙ (slots-frame it.0 it.1 it.2 tag left right
                  ∙ ap (λ (r : Option Slot). with_pair t.slots parent.list.0 q r) split.0))
                  (ap (λ (r : Slot). answer_from t k h q r (Some leaf_side)) is_row ∙ (answer-frame it.0 it.1 it.2 tag left right ∙ split.1)),
            )
        | inr none ↦ elim (cases_Bool (bit_on leaf_side left right)) [
          | inl on ↦ absurd (one-bit left right leaf_side (bits tag left right is_row).is_seen on off)
          | inr seen ↦ absurd (none-seen (λ r step. let one = leaf-step t f k h s leaf parent sibling family visible r q step in none r one.0 one.1) ((denies-on t out h q left right leaf_side (bits tag left right is_row)).is_false seen))
        ]
      ]

      -- one that is seen through the sibling is still there
      row-there : bit_on (other_side leaf_side) left right ≡ false → StillThere t k leaf parent.list.0 q row out in_use
      row-there seen = elim in-window [
        | inl it ↦
            let split = split-some leaf_side tag left right seen in
            record {
              now = leaving_out out k it.0;
              slots = with_pair t.slots parent.list.0 q (Some split.0);
              is_cut = cut-off it.0 it.1 it.2 (with_pair t.slots parent.list.0 q (Some split.0)) Cut.StillSeen
                  (ap (λ (r : Slot). slots_from t k h q r (Some leaf_side)) is_row ∙ (slots-frame it.0 it.1 it.2 tag left right
                  ∙ ap (λ (r : Option Slot). with_pair t.slots parent.list.0 q r) split.1))
                  (ap (λ (r : Slot). answer_from t k h q r (Some leaf_side)) is_row ∙ (answer-frame it.0 it.1 it.2 tag left right ∙ split.2));
              there = split.0;
              at = with_pair-same t.slots parent.list.0 q (Some split.0);
              frame = split.3 ∙ sym (ap frame_in is_row);
              same = ap (λ (u : Tree). u.slots) (with_row-twice t parent.list.0 q (Some split.0) None);
              beside = λ l p apart. with_pair-other t.slots parent.list.0 q (Some split.0) l p (λ list _. apart list);
            }
        | inr none ↦ untouched out (none-cut none)
      ]

    -- a zero row is still there
    zero-there : row ≡ Slot.Zero → StillThere t k leaf parent.list.0 q row out in_use
    zero-there is_row = elim in-window [
      | inl it ↦
          untouched (leaving_out out k it.0) (cut-off it.0 it.1 it.2 t.slots Cut.NothingThere
          (ap (λ (r : Slot). slots_from t k h q r (Some leaf_side)) is_row)
          (ap (λ (r : Slot). answer_from t k h q r (Some leaf_side)) is_row))
      | inr none ↦ untouched out (none-cut none)
    ]

-- ---- the rows of an arena

-- the parent and the sibling, as they were found
abbrev pub lifting-with : {arena : Arena} {rows : Rows Row} {pool : Pool} {k h s : ℕ} → IsLifting arena rows pool k h s → (parent sibling : Node) →
    nodes_of arena h ≡ Some parent → nodes_of arena s ≡ Some sibling → IsLifting arena rows pool k h s
lifting-with {arena} {rows} {pool} {k} {h} {s} was parent sibling at sibling_at = record {
  of = record {
    node = was.of.node;
    parent = parent;
    sibling = sibling;
    family = record {
      at = was.of.family.at;
      parent_is = was.of.family.parent_is;
      parent_at = at;
      sibling_is = was.of.family.sibling_is;
      sibling_at = sibling_at;
    };
    visible = was.of.visible;
  };
  lifted = was.lifted;
}

-- it begins where the pages of the node that are not out of sight are held by its parent
pub lifting-start : {arena : Arena} {rows : Rows Row} {pool : Pool} {k s : ℕ} {hidden : NodeId} → IsSparing arena rows pool k 0 (Some hidden) →
    IsFamilyOf arena k hidden.0 s → IsLifting arena rows pool k hidden.0 s
lifting-start {arena} {rows} {pool} {k} {s} {hidden} was of =
    let has = was.bare.has in
    let same : has.node ≡ of.node = some_same (sym has.visible.at ∙ of.family.at) in
    record {
      of = of;
      lifted = record {
        out = has.out;
        exact = has.exact;
        only = has.only;
        bare = λ p. subst (λ (n : Node). slots_of rows n.list.0 p ≡ None) same (was.bare.bare p (omega arith));
        held = λ p tag below sight shown. subst (λ n. IsHeldBy (nodes_of arena) (slots_of rows) hidden.0 n p) same
            (was.spares p tag (omega arith) (subst (λ (n : Node). p < n.count) (sym same) below) sight shown);
      };
    }

-- what kept the rows below a parent and its child does so for those of this family
pub below-of : {arena : Arena} {k h s : ℕ} (of now : IsFamilyOf arena k h s) (old new : Slots) → KeepsBelow old new of.parent of.sibling →
    KeepsBelow old new now.parent now.sibling
below-of {arena} {k} {h} {s} of now old new keeps =
    subst (λ (n : Node). KeepsBelow old new now.parent n) (some_same (sym of.family.sibling_at ∙ now.family.sibling_at))
    (subst (λ (n : Node). KeepsBelow old new n of.sibling) (some_same (sym of.family.parent_at ∙ now.family.parent_at)) keeps)

-- the three lists are three
pub family-lists : (arena : Arena) (k h s : ℕ) → IsForest (nodes_of arena) arena.lists → (it : IsFamilyOf arena k h s) →
    (it.node.list.0 ≢ it.parent.list.0) × (it.node.list.0 ≢ it.sibling.list.0) × (it.parent.list.0 ≢ it.sibling.list.0)
family-lists arena k h s f it =
    let apart = family-apart (nodes_of arena) arena.lists f k h s it.node it.parent it.sibling it.family in (
      λ same. apart.2 (f.by.own k h it.node it.parent it.family.at it.family.parent_at same),
      λ same. apart.0 (f.by.own k s it.node it.sibling it.family.at it.family.sibling_at same),
      λ same. apart.1 (f.by.own h s it.parent it.sibling it.family.parent_at it.family.sibling_at same),
    )

-- no row has gone or moved
pub family-same : {arena : Arena} {rows : Rows Row} {pool : Pool} {k h s : ℕ} → Moves arena rows rows pool pool k 0 (KeepsFamily arena k h s)
family-same {arena} {rows} {pool} {k} {h} {s} =
    moves-same (record { below = λ of. below-same (slots_of rows) of.parent of.sibling; left = λ parent at p row there. there })

-- some rows have gone or moved, and then others
below-both : {arena : Arena} {k h s : ℕ} (f : IsForest (nodes_of arena) arena.lists) (of : IsFamilyOf arena k h s) (old mid new : Rows Row) →
    KeepsBelow (slots_of old) (slots_of mid) of.parent of.sibling → KeepsBelow (slots_of mid) (slots_of new) of.parent of.sibling →
    KeepsBelow (slots_of old) (slots_of new) of.parent of.sibling
below-both {arena} {k} {h} {s} f of old mid new =
    below-then (slots_of old) (slots_of mid) (slots_of new) of.parent of.sibling (family-lists arena k h s f of).2

module _ {arena : Arena} {old mid new : Rows Row} {before between after : Pool} {k h s : ℕ} (f : IsForest (nodes_of arena) arena.lists) where
  pub family-then : Moves arena old mid before between k 0 (KeepsFamily arena k h s) → Moves arena mid new between after k 0 (KeepsFamily arena k h s) →
      Moves arena old new before after k 0 (KeepsFamily arena k h s)
  family-then = moves-then (λ one two. record {
    below = λ of. below-both f of old mid new (one.below of) (two.below of);
    left = λ parent at p row there. one.left parent at p row (two.left parent at p row there);
  })

  -- rows went before
  pub lost-lifted : (of : IsFamilyOf arena k h s) → Moves arena old mid before between k 0 IsPartOf → Moves arena mid new between after k 0 (KeepsFamily arena k h s) →
      Moves arena old new before after k 0 (λ a b. KeepsBelow a b of.parent of.sibling)
  lost-lifted of one two = moves-then (below-both f of old mid new)
      (moves-as one (below-fewer (slots_of old) (slots_of mid) of.parent of.sibling (part-none (slots_of old) (slots_of mid) one.keeps)))
      (moves-as two (two.keeps.below of))

-- what is said of the parent, of the parent as it was found
pub below-found : {arena : Arena} {old new : Slots} {k h s : ℕ} → KeepsFamily arena k h s old new → (of : IsFamilyOf arena k h s) (parent : Node) →
    nodes_of arena h ≡ Some parent → KeepsBelow old new parent of.sibling
below-found {arena} {old} {new} {k} {h} {s} keeps of parent at =
    subst (λ (n : Node). KeepsBelow old new n of.sibling) (some_same (sym of.family.parent_at ∙ at)) (keeps.below of)

-- It ends where the parent has no rows: all pages of the node are left out.
module _ (arena : Arena) (slots : Slots) (after : Pool) (k h s : ℕ) (of : IsFamilyOf arena k h s)
    (was : AreLifted arena slots after k h of.node) (empty : (p : ℕ) → slots of.parent.list.0 p ≡ None) where
  abbrev left_tree : Tree
  left_tree = tree_with (nodes_of arena) arena.lists slots

  none-left : (q tag : ℕ) → 0 ≤ q → q < of.node.count → was.out k q ≡ false → frame_shown left_tree k q ≡ Some tag → ⊥
  none-left q tag from below sight shown =
      let held = was.held q tag below sight shown in
      let same : held.above ≡ of.parent = some_same (sym held.at ∙ of.family.parent_at) in
      let nothing : slots held.above.list.0 (of.node.first + q) ≡ None =
      subst (λ (n : Node). slots n.list.0 (of.node.first + q) ≡ None) (sym same) (empty (of.node.first + q)) in
      let gone = ap is_some nothing in
      let some = held.row in
      absurd (cc)

  pub lifted-exact : IsExact left_tree (leaving_range all_in_sight k 0 of.node.count) (is_taken after)
  lifted-exact = range-exact arena slots after k 0 of.node of.family.at was.out was.exact was.only (λ q e. omega arith) none-left

pub lifting-end : {arena : Arena} {new : Rows Row} {after : Pool} {k h s : ℕ} (was : IsLifting arena new after k h s) →
    ((p : ℕ) → slots_of new was.of.parent.list.0 p ≡ None) → IsLeftOut arena new after k was.of.node 0
lifting-end {arena} {new} {after} {k} {h} {s} was empty = record {
  exact = lifted-exact arena (slots_of new) after k h s was.of was.lifted empty;
  bare = λ p from. was.lifted.bare p;
}

-- the side of the sibling is the other one
pub family-other : (arena : Arena) (k h s : ℕ) → IsForest (nodes_of arena) arena.lists → (it : IsFamilyOf arena k h s) →
    side_of it.parent s ≡ other_side (side_of it.parent k)
family-other arena k h s f it =
    let up = family-parent (nodes_of arena) arena.lists f k h s it.node it.parent it.sibling it.family in
    some_same (sym (side-is (nodes_of arena) arena.lists f h s it.parent it.sibling it.family.parent_at it.family.sibling_at up)
    ∙ side-of-child (nodes_of arena) arena.lists f h s it.parent (other_side (side_of it.parent k)) it.family.parent_at
    (family-side (nodes_of arena) arena.lists f k h s it.node it.parent it.sibling it.family).1)

pub untold : (bit seen : Bool) → seen ≡ not bit → seen ≡ false → bit ≡ true
untold true seen is e = refl
untold false seen is e = absurd (cc)

pub told : (bit seen : Bool) → seen ≡ not bit → seen ≡ true → bit ≡ false
told true seen is e = absurd (cc)
told false seen is e = refl

-- what a row with a frame says of the sibling's side, and a zero row of what the sibling sees
abbrev pub IsUnseen : Slots → (parent : Node) → (k : ℕ) → (sibling : Node) → (q : ℕ) → Slot → Type 0
IsUnseen slots parent k sibling q row =
    ((tag : Tag) (left right : Bool) → row ≡ Slot.Frame tag left right → bit_on (other_side (side_of parent k)) left right ≡ true)
    × (row ≡ Slot.Zero → SeesRow slots sibling q → ⊥)

-- The rows and the pool changed: the tree of the new rows is like that of the old, and the other VMOs show what they showed.
pub record HasLiftedOn (arena : Arena) (old new : Slots) (pool : Pool) (k h s : ℕ) (of : IsFamilyOf arena k h s) : Type 0 where
  pub lifted : AreLifted arena new pool k h of.node
  pub shows : ShowsSame (tree_with (nodes_of arena) arena.lists old) (tree_with (nodes_of arena) arena.lists new) (IsNotFrom k 0)
  pub below : KeepsBelow old new of.parent of.sibling

-- One row of the parent goes, or moves.
module _ (arena : Arena) (first : Slots) (between after : Pool) (k h s : ℕ) (of : IsFamilyOf arena k h s) (q : ℕ) (row : Slot)
    (was : AreLifted arena first between k h of.node) (has : first of.parent.list.0 q ≡ Some row) where
  abbrev first_tree : Tree
  first_tree = tree_with (nodes_of arena) arena.lists first

  three-lists : (of.node.list.0 ≢ of.parent.list.0) × (of.node.list.0 ≢ of.sibling.list.0) × (of.parent.list.0 ≢ of.sibling.list.0)
  three-lists = family-lists arena k h s was.exact.forest of

  -- the rows and the pool are these now
  lifted-next : (slots : Slots) (left : Option ℕ) (now : ℕ → ℕ → Bool) → IsCut first_tree k of.node q slots was.out now (is_taken between) left →
      ((x : ℕ) → is_taken after x ≡ without_frame (is_taken between) left x) →
      ((l p : ℕ) → l ≢ of.sibling.list.0 → ((l ≡ of.parent.list.0) × (p ≡ q) → ⊥) → slots l p ≡ first l p) →
      KeepsBelow first slots of.parent of.sibling → HasLiftedOn arena first slots after k h s of
  lifted-next slots left now is_cut taken beside below = record {
    lifted = record {
      out = now;
      exact = exact-in_use_alike (record first_tree { slots = slots }) now (without_frame (is_taken between) left) (is_taken after) (λ x. sym (taken x)) is_cut.exact;
      only = is_cut.only;
      bare = λ p. beside of.node.list.0 p three-lists.1 (λ both. three-lists.0 both.0) ∙ was.bare p;
      held = λ p tag below sight shown.
          let page : IsPage first_tree k p = record { node = of.node; visible = of.visible; below = below } in
          let showed : frame_shown first_tree k p ≡ Some tag = sym (is_cut.shows k p page sight) ∙ shown in
          let held = was.held p tag below (is_cut.more k p sight) showed in
          let same : held.above ≡ of.parent = some_same (sym held.at ∙ of.family.parent_at) in
          let list = ap (λ (n : Node). n.list.0) same in
          let off : of.node.first + p ≡ q → ⊥ = λ here. let gone = is_cut.aside p (sym here) held.inside in absurd (cc) in
          record {
            above = held.above;
            at = held.at;
            row = ap is_some (beside held.above.list.0 (of.node.first + p) (λ one. three-lists.2 (sym list ∙ one)) (λ both. off both.1)) ∙ held.row;
            inside = held.inside;
          };
    };
    shows = λ w p page before. is_cut.shows w p page (elim (cases_Bool (now w p)) [
      | inl gone ↦ absurd (let early = before (is_cut.only w p gone) in omega arith)
      | inr seen ↦ seen
    ]);
    below = below;
  }

  zero-still : row ≡ Slot.Zero → StillThere first_tree k of.node of.parent.list.0 q row was.out (is_taken between)
  zero-still e = zero-there first_tree k h s of.node of.parent of.sibling of.family of.visible q row has was.out (is_taken between) was.exact was.only was.bare e

  -- a row goes that is not seen through the sibling, with its frame
  pub lifted-gone : IsUnseen first of.parent k of.sibling q row → ((x : ℕ) → is_taken after x ≡ without_frame (is_taken between) (frame_in row) x) →
      HasLiftedOn arena first (with_pair first of.parent.list.0 q None) after k h s of
  lifted-gone unseen taken = goes row refl
    where
      next : (left : Option ℕ) (now : ℕ → ℕ → Bool) → frame_in row ≡ left →
          IsCut first_tree k of.node q (with_pair first of.parent.list.0 q None) was.out now (is_taken between) left →
          HasLiftedOn arena first (with_pair first of.parent.list.0 q None) after k h s of
      next left now frame is_cut = lifted-next (with_pair first of.parent.list.0 q None) left now is_cut
          (λ x. taken x ∙ ap (λ (o : Option ℕ). without_frame (is_taken between) o x) frame)
          (λ l p _ apart. with_pair-other first of.parent.list.0 q None l p (λ a b. apart (a, b))) (below-gone first of.parent of.sibling q)

      goes : (r : Slot) → row ≡ r → HasLiftedOn arena first (with_pair first of.parent.list.0 q None) after k h s of
      goes Slot.Zero e = next None _ (ap frame_in e)
          (zero-gone first_tree k h s of.node of.parent of.sibling of.family of.visible q row has was.out (is_taken between) was.exact was.only (zero-still e)
          (unseen.1 e))
      goes (Slot.Frame tag left right) e =
          let it = row-gone first_tree k h s of.node of.parent of.sibling of.family of.visible q row has was.out (is_taken between) was.exact was.only was.bare tag left right e
          (unseen.0 tag left right e) in
          next (Some tag.0) it.0 (ap frame_in e) it.1

  -- one moves that the sibling sees
  pub lifted-moved : (now : Slot) → SeesRow first of.sibling q →
      ((tag : Tag) (left right : Bool) → row ≡ Slot.Frame tag left right → bit_on (other_side (side_of of.parent k)) left right ≡ false) →
      IsMoved (with_row first_tree of.parent.list.0 q None) s (q - of.sibling.first) of.sibling row now → ((x : ℕ) → is_taken after x ≡ is_taken between x) →
      HasLiftedOn arena first (with_pair (with_pair first of.parent.list.0 q None) of.sibling.list.0 (q - of.sibling.first) (Some now)) after k h s of
  lifted-moved now sees bit moved taken = moves row refl
    where
      next : StillThere first_tree k of.node of.parent.list.0 q row was.out (is_taken between) →
          HasLiftedOn arena first (with_pair (with_pair first of.parent.list.0 q None) of.sibling.list.0 (q - of.sibling.first) (Some now)) after k h s of
      next still = lifted-next (with_pair (with_pair first of.parent.list.0 q None) of.sibling.list.0 (q - of.sibling.first) (Some now)) None still.now
          (row-moved first_tree k h s of.node of.parent of.sibling of.family of.visible q row has was.out (is_taken between) was.exact was.only still sees now moved)
          (λ x. taken x ∙ without-none (is_taken between) x)
          (λ l p list apart.
          with_pair-other _ of.sibling.list.0 (q - of.sibling.first) (Some now) l p (λ a _. list a)
          ∙ with_pair-other first of.parent.list.0 q None l p (λ a b. apart (a, b)))
          (below-moved first (with_pair first of.parent.list.0 q None) of.parent of.sibling q row (Some now) has sees.from (below-gone first of.parent of.sibling q))

      moves : (r : Slot) → row ≡ r →
          HasLiftedOn arena first (with_pair (with_pair first of.parent.list.0 q None) of.sibling.list.0 (q - of.sibling.first) (Some now)) after k h s of
      moves Slot.Zero e = next (zero-still e)
      moves (Slot.Frame tag left right) e = next
          (row-there first_tree k h s of.node of.parent of.sibling of.family of.visible q row has was.out (is_taken between) was.exact was.only was.bare tag left right e
          (bit tag left right e))

  -- one that the sibling sees is reached from some side of the sibling, if this is hidden
  pub lifted-reached : SeesRow first of.sibling q →
      ((tag : Tag) (left right : Bool) → row ≡ Slot.Frame tag left right → bit_on (other_side (side_of of.parent k)) left right ≡ false) →
      (tag : ℕ) → frame_in row ≡ Some tag → of.sibling.koid ≡ None → IsReachedBelow (with_row first_tree of.parent.list.0 q None) s (q - of.sibling.first)
  lifted-reached sees bit tag frame none = by_row row refl
    where
      by_row : (r : Slot) → row ≡ r → IsReachedBelow (with_row first_tree of.parent.list.0 q None) s (q - of.sibling.first)
      by_row Slot.Zero e = absurd (let same = ap frame_in e in cc)
      by_row (Slot.Frame one left right) e = row-reached first_tree k h s of.node of.parent of.sibling of.family of.visible q row has was.out (is_taken between)
          was.exact was.only
          (row-there first_tree k h s of.node of.parent of.sibling of.family of.visible q row has was.out (is_taken between) was.exact was.only was.bare one left right e
          (bit one left right e)) sees tag frame none

-- A row stands at page p of list l with the frame that stood at page q of list `own`, and the frame's backlink leads there. Each other
-- row stood where it stands.
pub linked-placed : (old new : Rows Row) (before after : Pool) (l p own q : ℕ) (was now : Slot) → slots_of old own q ≡ Some was → frame_in now ≡ frame_in was →
    ((t : ℕ) → links_of after t ≡ (if is_row_of_frame t now then record { list = l; page = p } else links_of before t)) →
    ((m r : ℕ) (other : Slot) → slots_of new m r ≡ Some other →
    ((m ≡ l) × (r ≡ p) × (other ≡ now)) ⊎ (((m ≡ own) × (r ≡ q) → ⊥) × (slots_of old m r ≡ Some other))) → AreLinked old before → AreLinked new after
linked-placed old new before after l p own q was now has frame_same links each linked = record {
  linked = λ m r other tag e frame. elim (each m r other e) [
    | inl here ↦
        let on = has-frame tag now (ap frame_in (sym here.2) ∙ frame) in
        links tag ∙ (cond-true _ _ _ on ∙ link-same l m p r (sym here.0) (sym here.1))
    | inr there ↦
        let was_linked = linked.linked m r other tag there.1 frame in
        elim (cases_Bool (is_row_of_frame tag now)) [
          | inr off ↦ links tag ∙ (cond-false _ _ _ off ∙ was_linked)
          | inl on ↦
              let one = linked.linked own q was tag has (sym frame_same ∙ of-has-frame tag now on) in
              let same = sym was_linked ∙ one in
              absurd (there.0 (ap (λ (b : Backlink). b.list) same, ap (λ (b : Backlink). b.page) same))
        ]
  ];
}

-- A row of the parent was taken out.
module _ {arena : Arena} {first : Rows Row} (mid : Rows Row) {between : Pool} {k h s : ℕ} (q : ℕ) (row : Slot)
    (was : IsLifting arena first between k h s) (has : slots_of first was.of.parent.list.0 q ≡ Some row)
    (taken_out : slots_of mid ≡ with_pair (slots_of first) was.of.parent.list.0 q None) where
  abbrev t : Tree
  t = tree_of arena first

  abbrev node : Node
  node = was.of.node

  abbrev parent : Node
  parent = was.of.parent

  abbrev sibling : Node
  sibling = was.of.sibling

  lists : (node.list.0 ≢ parent.list.0) × (node.list.0 ≢ sibling.list.0) × (parent.list.0 ≢ sibling.list.0)
  lists = family-lists arena k h s was.lifted.exact.forest was.of

  -- the sibling's row there is as it was
  beside-mid : (p : ℕ) → slots_of mid sibling.list.0 p ≡ slots_of first sibling.list.0 p
  beside-mid p = ap (λ (x : Slots). x sibling.list.0 p) taken_out ∙ with_pair-other (slots_of first) parent.list.0 q None sibling.list.0 p (λ list _. lists.2 (sym list))

  sees-first : SeesRow (slots_of mid) sibling q → SeesRow (slots_of first) sibling q
  sees-first sees = record { from = sees.from; inside = sees.inside; free = sym (beside-mid (q - sibling.first)) ∙ sees.free }

  sees-mid : SeesRow (slots_of first) sibling q → SeesRow (slots_of mid) sibling q
  sees-mid sees = record { from = sees.from; inside = sees.inside; free = beside-mid (q - sibling.first) ∙ sees.free }

  -- the frame of the row is taken
  pub row-taken : (tag : ℕ) → frame_in row ≡ Some tag → IsSome (taken_frames between tag)
  row-taken tag frame = was.lifted.exact.used parent.list.0 q row tag has frame

  -- the parent's list has lost this row alone, also where it came into the sibling's list
  pub list-gone : (p : ℕ) → slots_of mid parent.list.0 p ≡ (if p == q then None else slots_of first parent.list.0 p)
  list-gone p = rows-gone (slots_of first) (slots_of mid) parent.list.0 q p taken_out

  pub list-moved : (new : Slots) (r : ℕ) (now : Option Slot) → new ≡ with_pair (slots_of mid) sibling.list.0 r now → (p : ℕ) →
      new parent.list.0 p ≡ (if p == q then None else slots_of first parent.list.0 p)
  list-moved new r now slots p = rows-beside (slots_of mid) new parent.list.0 sibling.list.0 r p now slots lists.2 ∙ list-gone p

  -- what the rows and the frames are now
  next : {new : Rows Row} {after : Pool} (slots : Slots) → slots_of new ≡ slots → HasLiftedOn arena (slots_of first) slots after k h s was.of →
      ((p : ℕ) → slots_of new parent.list.0 p ≡ (if p == q then None else slots_of first parent.list.0 p)) → Accounts first new between after →
      IsLifting arena new after k h s × Moves arena first new between after k 0 (KeepsFamily arena k h s)
  next {new} {after} slots is it gone accounts = (
    record { of = was.of; lifted = subst (λ (x : Slots). AreLifted arena x after k h node) (sym is) it.lifted },
    record {
      accounts = accounts;
      shows = subst (λ (x : Slots). ShowsSame t (record t { slots = x }) (IsNotFrom k 0)) (sym is) it.shows;
      keeps = record {
        below = λ of. below-of was.of of (slots_of first) (slots_of new) (subst (λ (x : Slots). KeepsBelow (slots_of first) x parent sibling) (sym is) it.below);
        left = λ up at p row. subst (λ (n : Node). slots_of new n.list.0 p ≡ Some row → slots_of first n.list.0 p ≡ Some row)
            (some_same (sym was.of.family.parent_at ∙ at)) (left-was (slots_of first parent.list.0) (slots_of new parent.list.0) q gone p row);
      };
    },
  )

  -- whether it is seen through the sibling, was told by its side
  module _ (side : Side) (side_is : side ≡ side_of parent s) (seen : Bool) (tells : TellsSeen (slots_of mid) side sibling q row seen) where
    other : side ≡ other_side (side_of parent k)
    other = side_is ∙ family-other arena k h s was.lifted.exact.forest was.of

    bit-off : seen ≡ true → (tag : Tag) (left right : Bool) → row ≡ Slot.Frame tag left right → bit_on (other_side (side_of parent k)) left right ≡ false
    bit-off on tag left right e = ap (λ (from : Side). bit_on from left right) (sym other) ∙ told _ _ (tells.frame tag left right e) on

    -- if so, the sibling sees it
    pub settled-sees : seen ≡ true → SeesRow (slots_of mid) sibling q
    settled-sees on = by_row row refl
      where
        by_row : (r : Slot) → row ≡ r → SeesRow (slots_of mid) sibling q
        by_row Slot.Zero e = (tells.zero e).0 on
        by_row (Slot.Frame tag left right) e = sees-mid (row-sees t k h s node parent sibling was.of.family was.of.visible q row has was.lifted.out
            (is_taken between) was.lifted.exact was.lifted.only tag left right e (bit-off on tag left right e))

    -- and it is reached from some side of the sibling, if this is hidden
    pub settled-reached : seen ≡ true → (tag : ℕ) → frame_in row ≡ Some tag → sibling.koid ≡ None → IsReachedBelow (tree_of arena mid) s (q - sibling.first)
    settled-reached on tag frame none =
        subst (λ (x : Slots). IsReachedBelow (record (tree_of arena first) { slots = x }) s (q - sibling.first)) (sym taken_out)
        (lifted-reached arena (slots_of first) between between k h s was.of q row was.lifted has (sees-first (settled-sees on)) (bit-off on) tag frame none)

    -- if not, it goes with its frame
    pub settled-gone : {after : Pool} → seen ≡ false → HasGiven between after (frame_in row) → row_count mid + 1 ≡ row_count first →
        mid.spare ≡ first.spare + 1 → IsLifting arena mid after k h s × Moves arena first mid between after k 0 (KeepsFamily arena k h s)
    settled-gone {after} off given count spare =
        next (with_pair (slots_of first) parent.list.0 q None) taken_out
        (lifted-gone arena (slots_of first) between after k h s was.of q row was.lifted has (
          (λ tag left right e. ap (λ (from : Side). bit_on from left right) (sym other) ∙ untold _ _ (tells.frame tag left right e) off),
          (λ e sees. let told = (tells.zero e).1 (sees-mid sees) in absurd (cc)),
        ) given.taken) list-gone
        (accounts-part first mid between after (frame_in row)
        (subst (λ (x : Slots). IsPartOf (slots_of first) x) (sym taken_out) (part-with_pair (slots_of first) parent.list.0 q None (λ r e. absurd (cc))))
        given (omega arith) (omega arith))

    -- a row that the sibling sees has moved
    module _ (new : Rows Row) (after : Pool) (now : Slot) (moved : IsMoved (tree_of arena mid) s (q - sibling.first) sibling row now)
        (slots : slots_of new ≡ with_pair (slots_of mid) sibling.list.0 (q - sibling.first) (Some now)) (taken : taken_frames after ≡ taken_frames between)
        (frames : after.frames ≡ between.frames)
        (links : (x : ℕ) → links_of after x ≡ (if is_row_of_frame x now then record { list = sibling.list.0; page = q - sibling.first } else links_of between x)) where
      abbrev both : Slots
      both = with_pair (with_pair (slots_of first) parent.list.0 q None) sibling.list.0 (q - sibling.first) (Some now)

      now-both : slots_of new ≡ both
      now-both = slots ∙ ap (λ (x : Slots). with_pair x sibling.list.0 (q - sibling.first) (Some now)) taken_out

      -- a row is the one that moved, or it was there
      came-or-was : (m r : ℕ) (row : Slot) → slots_of new m r ≡ Some row →
          ((m ≡ sibling.list.0) × (r ≡ q - sibling.first) × (row ≡ now)) ⊎ (((m ≡ parent.list.0) × (r ≡ q) → ⊥) × (slots_of first m r ≡ Some row))
      came-or-was m r row e =
          let there = sym (ap (λ (x : Slots). x m r) now-both) ∙ e in
          elim (cases_place sibling.list.0 (q - sibling.first) m r) [
            | inl here ↦
                let same : both m r ≡ Some now = rw (here.0, here.1) (with_pair-same _ sibling.list.0 (q - sibling.first) (Some now)) in
                inl (here.0, here.1, some_same (sym there ∙ same))
            | inr differs ↦ inr (was-there (slots_of first) parent.list.0 q m r row
                (sym (with_pair-other _ sibling.list.0 (q - sibling.first) (Some now) m r (λ x y. differs (x, y))) ∙ there))
          ]

      pub settled-moved : seen ≡ true → row_count mid + 1 ≡ row_count first → mid.spare ≡ first.spare + 1 → row_count new ≡ row_count mid + 1 →
          new.spare + 1 ≡ mid.spare → IsLifting arena new after k h s × Moves arena first new between after k 0 (KeepsFamily arena k h s)
      settled-moved on fewer room count spare =
          let bits = subst (λ (x : Slots). IsMoved (record (tree_of arena first) { slots = x }) s (q - sibling.first) sibling row now) taken_out moved in
          next both now-both
          (lifted-moved arena (slots_of first) between after k h s was.of q row was.lifted has now (sees-first (settled-sees on)) (bit-off on) bits
          (λ x. ap (λ f. is_some (f x)) taken))
          (list-moved (slots_of new) (q - sibling.first) (Some now) slots)
          (record {
            gives = record { frames = frames; kept = λ x. inl (ap (λ f. f x) taken) };
            linked = linked-placed first new between after sibling.list.0 (q - sibling.first) parent.list.0 q row now has moved.frame links came-or-was;
            spare = omega arith;
            count = omega arith;
          })
