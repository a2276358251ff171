-- A change of one row of a clone tree, and what it keeps of the tree's exactness.
use Rattle.cow_split.proofs.Words.{◌≡◌, ◌⊎◌, ◌↔◌, ℕ, ◌<◌, Bool, true, false, Option, None, Some, IsSome, refl, sym, ap, subst, ◌∙◌, inl}
use Rattle.cow_split.proofs.Words.{inr, not, ◌==◌, cases_eq, both_ways, and_parts, and_from, or_left, or_right, or_cases, not-true}
use Rattle.cow_split.proofs.Words.{not_from_false, eq-eqb, eqb_is, eqb_apart, some_same, Tag, Slot, Node, Side, IsForest, Tree, walk}
use Rattle.cow_split.proofs.Words.{frame_in, with_row, IsPage, Sees, IsSeenFrom, IsExact, AreSplitBits, Denies, StandsInRow, with_frame}
use Rattle.cow_split.proofs.Words.{without_frame}
use Rattle.cow_arena.proofs.AlikeLaws.{with_pair-same, with_pair-other}

-- the frame of a row, where there is one
abbrev pub frame_of : Option Slot → Option ℕ
frame_of None = None
frame_of (Some row) = frame_in row

-- The trees differ in the row of page q of list l alone. It is given as it was and as it is, so that a row that goes is
-- a row that comes, read the other way round.
pub record ChangesRow (old new : Tree) (l q : ℕ) (before after : Option Slot) : Type 0 where
  pub nodes : new.nodes ≡ old.nodes
  pub lists : new.lists ≡ old.lists
  pub was : old.slots l q ≡ before
  pub is : new.slots l q ≡ after
  pub others : (m r : ℕ) → ((m ≡ l) × (r ≡ q) → ⊥) → new.slots m r ≡ old.slots m r

-- The frames in use follow the frame of one row, which was this and is that one now. A frame that comes stood in no row.
pub record FollowFrame (before after : Option ℕ) (in_use in_use_now : ℕ → Bool) : Type 0 where
  pub here : (tag : ℕ) → after ≡ Some tag → in_use_now tag ≡ true
  pub fresh : (tag : ℕ) → after ≡ Some tag → (before ≡ Some tag) ⊎ (in_use tag ≡ false)
  pub kept : (tag : ℕ) → in_use tag ≡ true → (before ≡ Some tag → ⊥) → in_use_now tag ≡ true
  pub came : (tag : ℕ) → in_use_now tag ≡ true → (after ≡ Some tag) ⊎ ((in_use tag ≡ true) × (before ≡ Some tag → ⊥))

-- a row fits a visible node at this page
pub record Fits (node : Node) (q : ℕ) (row : Option Slot) : Type 0 where
  pub below : (slot : Slot) → row ≡ Some slot → q < node.count
  pub plain : (tag : Tag) (left right : Bool) → row ≡ Some (Slot.Frame tag left right) → (left ≡ false) × (right ≡ false)

-- Each frame row of a hidden node, but the row of page q of list l, is seen from each side in one tree exactly where in
-- the other.
pub record SeenAlike (old new : Tree) (out out_now : ℕ → ℕ → Bool) (l q : ℕ) : Type 0 where
  pub alike : (k r : ℕ) (node : Node) (tag : Tag) (left right : Bool) → old.nodes k ≡ Some node → node.koid ≡ None →
      old.slots node.list.0 r ≡ Some (Slot.Frame tag left right) → ((node.list.0 ≡ l) × (r ≡ q) → ⊥) → (side : Side) →
      IsSeenFrom old out side k r ↔ IsSeenFrom new out_now side k r

-- an optional row that has this frame is a row
record IsFrame (row : Option Slot) (tag : ℕ) : Type 0 where
  slot : Slot
  is : row ≡ Some slot
  frame : frame_in slot ≡ Some tag

is_frame : (row : Option Slot) (tag : ℕ) → frame_of row ≡ Some tag → IsFrame row tag
is_frame None tag e = absurd (cc)
is_frame (Some slot) tag e = record { slot = slot; is = refl; frame = e }

-- the place is this one or another
pub cases_place : (l q m r : ℕ) → ((m ≡ l) × (r ≡ q)) ⊎ ((m ≡ l) × (r ≡ q) → ⊥)
cases_place l q m r = elim (cases_eq m l) [
  | inl one ↦ elim (cases_eq r q) [ inl other ↦ inl (one, other) | inr differs ↦ inr (λ both. differs both.1) ]
  | inr differs ↦ inr (λ both. differs both.0)
]

-- what a bit denies is the same where this is alike
pub denies-alike : (bit : Bool) (P Q : Type 0) → P ↔ Q → Denies bit P → Denies bit Q
denies-alike bit P Q alike denies = record { is_true = λ e it. denies.is_true e (alike.1 it); is_false = λ e. alike.0 (denies.is_false e) }

-- the bits of a row are exact where it is seen from each side exactly where it was
pub bits-alike : {t u : Tree} {out out_now : ℕ → ℕ → Bool} {h q k r : ℕ} {left right : Bool} →
    ((s : Side) → IsSeenFrom t out s h q ↔ IsSeenFrom u out_now s k r) → AreSplitBits t out h q left right → AreSplitBits u out_now k r left right
bits-alike alike bits = record {
  left_bit = denies-alike _ _ _ (alike Side.Left) bits.left_bit;
  right_bit = denies-alike _ _ _ (alike Side.Right) bits.right_bit;
  is_seen = bits.is_seen;
}

module _ (old new : Tree) (l q : ℕ) (before after : Option Slot) (changes : ChangesRow old new l q before after) where
  -- a row that is there now came, or was there
  origin : (m r : ℕ) (row : Slot) → new.slots m r ≡ Some row →
      ((m ≡ l) × (r ≡ q) × (after ≡ Some row)) ⊎ (((m ≡ l) × (r ≡ q) → ⊥) × (old.slots m r ≡ Some row))
  origin m r row e = elim (cases_place l q m r) [
    | inl here ↦ inl (here.0, here.1, cc changes.is)
    | inr differs ↦ inr (differs, sym (changes.others m r differs) ∙ e)
  ]

  pub nodes-now : (k : ℕ) → new.nodes k ≡ old.nodes k
  nodes-now k = ap (λ nodes. nodes k) changes.nodes

  module _ (in_use in_use_now : ℕ → Bool) (follow : FollowFrame (frame_of before) (frame_of after) in_use in_use_now)
      (out : ℕ → ℕ → Bool) (exact : IsExact old out in_use) where
    -- a row that stayed does not have the frame that the changed row had
    apart : (m r tag : ℕ) (row : Slot) → ((m ≡ l) × (r ≡ q) → ⊥) → old.slots m r ≡ Some row → frame_in row ≡ Some tag →
        frame_of before ≡ Some tag → ⊥
    apart m r tag row differs e frame had =
        let was = is_frame before tag had in
        differs (exact.once m r l q tag row was.slot e (changes.was ∙ was.is) frame was.frame)

    -- nor the one that it has
    fresh : (m r tag : ℕ) (row : Slot) → ((m ≡ l) × (r ≡ q) → ⊥) → old.slots m r ≡ Some row → frame_in row ≡ Some tag →
        frame_of after ≡ Some tag → ⊥
    fresh m r tag row differs e frame has = elim (follow.fresh tag has) [
      | inl had ↦ apart m r tag row differs e frame had
      | inr unused ↦ both_ways (in_use tag) unused (exact.used m r row tag e frame)
    ]

    stands-now : (tag : ℕ) → in_use_now tag ≡ true → StandsInRow new tag
    stands-now tag e = elim (follow.came tag e) [
      | inl has ↦
          let row = is_frame after tag has in
          record { l = l; q = q; row = row.slot; at = changes.is ∙ row.is; frame = row.frame }
      | inr had ↦
          let it = exact.stands tag had.0 in
          let differs : (it.l ≡ l) × (it.q ≡ q) → ⊥ = λ both.
          let same : before ≡ Some it.row = cc (it.at, changes.was) in
          had.1 (ap frame_of same ∙ it.frame) in
          record { l = it.l; q = it.q; row = it.row; at = changes.others it.l it.q differs ∙ it.at; frame = it.frame }
    ]

    used-now : (m r : ℕ) (row : Slot) (tag : ℕ) → new.slots m r ≡ Some row → frame_in row ≡ Some tag → in_use_now tag ≡ true
    used-now m r row tag e frame = elim (origin m r row e) [
      | inl here ↦ follow.here tag (ap frame_of here.2 ∙ frame)
      | inr stayed ↦ follow.kept tag (exact.used m r row tag stayed.1 frame) (apart m r tag row stayed.0 stayed.1 frame)
    ]

    once-now : (k p m r tag : ℕ) (row other : Slot) → new.slots k p ≡ Some row → new.slots m r ≡ Some other →
        frame_in row ≡ Some tag → frame_in other ≡ Some tag → (k ≡ m) × (p ≡ r)
    once-now k p m r tag row other e f one two = elim (origin k p row e) [
      | inl here ↦ elim (origin m r other f) [
        | inl there ↦ (here.0 ∙ sym there.0, here.1 ∙ sym there.1)
        | inr there ↦ absurd (fresh m r tag other there.0 there.1 two (ap frame_of here.2 ∙ one))
      ]
      | inr here ↦ elim (origin m r other f) [
        | inl there ↦ absurd (fresh k p tag row here.0 here.1 one (ap frame_of there.2 ∙ two))
        | inr there ↦ exact.once k p m r tag row other here.1 there.1 one two
      ]
    ]

-- two nodes with one list are one
pub same_node : (t : Tree) (h k : ℕ) (a b : Node) → IsForest t.nodes t.lists → t.nodes h ≡ Some a → t.nodes k ≡ Some b →
    b.list.0 ≡ a.list.0 → (k ≡ h) × (b ≡ a)
same_node t h k a b forest at there one =
    let same = forest.by.own k h b a there at one in
    let both : Some b ≡ Some a = sym there ∙ (ap t.nodes same ∙ at) in
    (same, cc)

-- The master law: the row of page q of node h changes, the frames in use follow it, the new row fits where h is visible,
-- the other rows are seen as before, and where h is hidden the new row's own bits tell. Then the tree stays exact.
pub exact-changed : (old new : Tree) (out out_now : ℕ → ℕ → Bool) (in_use in_use_now : ℕ → Bool) (h q : ℕ) (node : Node)
    (before after : Option Slot) → IsExact old out in_use → old.nodes h ≡ Some node →
    ChangesRow old new node.list.0 q before after →
    FollowFrame (frame_of before) (frame_of after) in_use in_use_now →
    (IsSome node.koid → Fits node q after) →
    SeenAlike old new out out_now node.list.0 q →
    (node.koid ≡ None → (tag : Tag) (left right : Bool) → after ≡ Some (Slot.Frame tag left right) →
    AreSplitBits new out_now h q left right) →
    IsExact new out_now in_use_now
exact-changed old new out out_now in_use in_use_now h q node before after exact at changes follow fits alike own = record {
  forest = rw changes.nodes (rw changes.lists exact.forest);
  listed = record {
    listed = λ m r row e. elim (origin_here m r row e) [
      | inl here ↦ record { k = h; node = node; at = now h ∙ at; named = sym here.0 }
      | inr stayed ↦ rw changes.nodes (exact.listed.listed m r row stayed.1)
    ];
  };
  below = λ v p n row visible e. elim (origin_here n.list.0 p row e) [
    | inl here ↦
        let one = same v n visible.at here.0 in
        rw (here.1, one.1) ((fits (subst (λ (x : Node). IsSome x.koid) one.1 visible.koid)).below row here.2)
    | inr stayed ↦ exact.below v p n row (record { at = sym (now v) ∙ visible.at; koid = visible.koid }) stayed.1
  ];
  plain = λ v p n tag left right visible e. elim (origin_here n.list.0 p (Slot.Frame tag left right) e) [
    | inl here ↦ (fits (subst (λ (x : Node). IsSome x.koid) (same v n visible.at here.0).1 visible.koid)).plain tag left right here.2
    | inr stayed ↦ exact.plain v p n tag left right (record { at = sym (now v) ∙ visible.at; koid = visible.koid }) stayed.1
  ];
  stands = stands-now old new node.list.0 q before after changes in_use in_use_now follow out exact;
  used = used-now old new node.list.0 q before after changes in_use in_use_now follow out exact;
  once = once-now old new node.list.0 q before after changes in_use in_use_now follow out exact;
  bits = λ k r n tag left right there hidden e. elim (origin_here n.list.0 r (Slot.Frame tag left right) e) [
    | inl here ↦
        let one = same k n there here.0 in
        rw (one.0, here.1) (own (subst (λ (x : Node). x.koid ≡ None) one.1 hidden) tag left right here.2)
    | inr stayed ↦
        let was = sym (now k) ∙ there in
        bits-alike (alike.alike k r n tag left right was hidden stayed.1 stayed.0) (exact.bits k r n tag left right was hidden stayed.1)
  ];
}
  where
    now : (k : ℕ) → new.nodes k ≡ old.nodes k
    now = nodes-now old new node.list.0 q before after changes

    origin_here : (m r : ℕ) (row : Slot) → new.slots m r ≡ Some row →
        ((m ≡ node.list.0) × (r ≡ q) × (after ≡ Some row)) ⊎ (((m ≡ node.list.0) × (r ≡ q) → ⊥) × (old.slots m r ≡ Some row))
    origin_here = origin old new node.list.0 q before after changes

    same : (k : ℕ) (n : Node) → new.nodes k ≡ Some n → n.list.0 ≡ node.list.0 → (k ≡ h) × (n ≡ node)
    same k n there one = same_node old h k node n exact.forest at (sym (now k) ∙ there) one

-- a row of a list is given, or taken away
pub with_row-changes : (t : Tree) (l q : ℕ) (before after : Option Slot) → t.slots l q ≡ before →
    ChangesRow t (with_row t l q after) l q before after
with_row-changes t l q before after was = record {
  nodes = refl;
  lists = refl;
  was = was;
  is = with_pair-same t.slots l q after;
  others = λ m r differs. with_pair-other t.slots l q after m r (λ list page. differs (list, page));
}

-- Where no row changes, and each frame row of a hidden node is seen from each side exactly where it was, the tree stays
-- exact.
pub exact-seen_alike : (t : Tree) (out out_now : ℕ → ℕ → Bool) (in_use : ℕ → Bool) → IsExact t out in_use →
    ((k r : ℕ) (node : Node) (tag : Tag) (left right : Bool) → t.nodes k ≡ Some node → node.koid ≡ None →
    t.slots node.list.0 r ≡ Some (Slot.Frame tag left right) → (side : Side) →
    IsSeenFrom t out side k r ↔ IsSeenFrom t out_now side k r) →
    IsExact t out_now in_use
exact-seen_alike t out out_now in_use exact alike = record {
  forest = exact.forest;
  listed = exact.listed;
  below = exact.below;
  plain = exact.plain;
  stands = exact.stands;
  used = exact.used;
  once = exact.once;
  bits = λ k r node tag left right at hidden e.
      bits-alike (alike k r node tag left right at hidden e) (exact.bits k r node tag left right at hidden e);
}

-- what is to be said of a page that saw a row, so that it sees it in another tree
pub record IsCarried (old new : Tree) (out : ℕ → ℕ → Bool) (v p : ℕ) : Type 0 where
  pub page : IsPage new v p
  pub same : walk new v p ≡ walk old v p
  pub in_sight : out v p ≡ false

-- a row is seen from a side in another tree too, where this can be said of each page that saw it
pub seen-moved : (old new : Tree) (out out_now : ℕ → ℕ → Bool) (side : Side) (h q : ℕ) →
    ((v p : ℕ) → Sees old v p (Some side) h q → out v p ≡ false → IsCarried old new out_now v p) →
    IsSeenFrom old out side h q → IsSeenFrom new out_now side h q
seen-moved old new out out_now side h q carry seen =
    let now = carry seen.v seen.p seen.sees seen.in_sight in
    record {
      v = seen.v;
      p = seen.p;
      sees = record { page = now.page; slot = seen.sees.slot; found = now.same ∙ seen.sees.found };
      in_sight = now.in_sight;
    }

-- so it is under the same nodes, where each page that saw it is in sight there and its walk is the same
pub seen-carried : (old new : Tree) (out out_now : ℕ → ℕ → Bool) (side : Side) (h q : ℕ) → new.nodes ≡ old.nodes →
    ((v p : ℕ) → Sees old v p (Some side) h q → out v p ≡ false → (walk new v p ≡ walk old v p) × (out_now v p ≡ false)) →
    IsSeenFrom old out side h q → IsSeenFrom new out_now side h q
seen-carried old new out out_now side h q nodes carry = seen-moved old new out out_now side h q (λ v p sees in_sight.
    let now = carry v p sees in_sight in
    let page = sees.page in
    record { page = record { node = page.node; visible = rw nodes page.visible; below = page.below }; same = now.0; in_sight = now.1 })

-- ---- the frames in use

-- the frame is this one or not
is_cases : (frame : Option ℕ) (tag : ℕ) → (frame ≡ Some tag) ⊎ (frame ≡ Some tag → ⊥)
is_cases None tag = inr (λ e. absurd (cc))
is_cases (Some a) tag = elim (cases_eq a tag) [ inl same ↦ inl (ap Some same) | inr differs ↦ inr (λ e. differs (some_same e)) ]

-- a row stays, or gets other bits
pub frame-stays : (frame : Option ℕ) (in_use : ℕ → Bool) → ((tag : ℕ) → frame ≡ Some tag → in_use tag ≡ true) →
    FollowFrame frame frame in_use in_use
frame-stays frame in_use used = record {
  here = used;
  fresh = λ tag e. inl e;
  kept = λ tag e differs. e;
  came = λ tag e. elim (is_cases frame tag) [ inl same ↦ inl same | inr differs ↦ inr (e, differs) ];
}

-- a row goes
pub frame-gone : (frame : Option ℕ) (in_use : ℕ → Bool) → FollowFrame frame None in_use (without_frame in_use frame)
unfolding without_frame
frame-gone None in_use = frame-stays None in_use (λ tag e. absurd (cc))
frame-gone (Some a) in_use = record {
  here = λ tag e. absurd (cc);
  fresh = λ tag e. absurd (cc);
  kept = λ tag e differs. and_from (not (tag == a)) (in_use tag)
      (not_from_false (tag == a) (eqb_apart tag a (λ same. differs (ap Some (sym same))))) e;
  came = λ tag e.
      let both = and_parts (not (tag == a)) (in_use tag) e in
      inr (both.1, λ same. both_ways (tag == a) (not-true (tag == a) both.0) (eq-eqb tag a (sym (some_same same))));
}

-- a row comes
pub frame-comes : (frame : Option ℕ) (in_use : ℕ → Bool) → ((tag : ℕ) → frame ≡ Some tag → in_use tag ≡ false) →
    FollowFrame None frame in_use (with_frame in_use frame)
unfolding with_frame
frame-comes None in_use unused = frame-stays None in_use (λ tag e. absurd (cc))
frame-comes (Some a) in_use unused = record {
  here = λ tag e. or_left (tag == a) (in_use tag) (eq-eqb tag a (sym (some_same e)));
  fresh = λ tag e. inr (unused tag e);
  kept = λ tag e differs. or_right (tag == a) (in_use tag) e;
  came = λ tag e. elim (or_cases (tag == a) (in_use tag) e) [
    | inl same ↦ inl (ap Some (sym (eqb_is tag a same)))
    | inr used ↦ inr (used, λ none. absurd (cc))
  ];
}
