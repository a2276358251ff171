-- Own rows of a visible node come and go, and pages that see no frame are in sight or not: what stays exact, and who shows
-- what then.
use Rattle.cow_split.proofs.Words.{◌≡◌, ◌↔◌, ℕ, ◌<◌, Bool, true, false, Option, None, Some, refl, sym, ap, subst, ◌∙◌, inl, inr, ◌&&◌, ◌||◌}
use Rattle.cow_split.proofs.Words.{◌==◌, cond, is_some, cases_eq, both_ways, and_parts, and_from, or_parts, or_cases, ne_eqb, eq-eqb}
use Rattle.cow_split.proofs.Words.{and_left, and_right, some_same, eqb_same, eqb_is, with_pair, Tag, Slot, Node, Side, IsVisible, IsForest}
use Rattle.cow_split.proofs.Words.{Tree, Found, walk, frame_in, frame_found, frame_shown, with_row, IsPage, Sees, IsSeenFrom, ShowsSame}
use Rattle.cow_split.proofs.Words.{IsNotPage, IsExact, IsOnlyOf, all_in_sight, leaving_out, with_frame, without_frame}
use Rattle.cow_arena.proofs.WalkLaws.{walk-own}
use Rattle.cow_arena.proofs.ReachLaws.{walk-ends}
use Rattle.cow_arena.proofs.AlikeLaws.{with_pair-same, walk-beside}
use Rattle.cow_split.proofs.ExactLaws.{with_row-changes, exact-changed, exact-seen_alike, seen-carried, frame-gone, frame-comes}

-- ---- pages out of sight

module _ (out : ℕ → ℕ → Bool) (v p : ℕ) where
  -- a page that is in sight, where page p of v is left out, is another
  pub left_out-in_sight : (w q : ℕ) → leaving_out out v p w q ≡ false → ((w ≡ v) × (q ≡ p) → ⊥) × (out w q ≡ false)
  unfolding leaving_out
  left_out-in_sight w q e =
      let parts = or_parts ((w == v) && (q == p)) (out w q) e in
      (λ both. both_ways ((w == v) && (q == p)) parts.0 (and_from (w == v) (q == p) (eq-eqb w v both.0) (eq-eqb q p both.1)), parts.1)

  -- another page is in sight where it was
  pub left_out-other : (w q : ℕ) → ((w ≡ v) × (q ≡ p) → ⊥) → leaving_out out v p w q ≡ out w q
  unfolding leaving_out
  left_out-other w q differs =
      let off : ((w == v) && (q == p)) ≡ false = elim (cases_eq w v) [
        | inl one ↦ and_right (w == v) (q == p) (ne_eqb q p (λ other. differs (one, other)))
        | inr apart ↦ and_left (w == v) (q == p) (ne_eqb w v apart)
      ] in
      ap (λ (b : Bool). b || out w q) off

  pub left_out-here : leaving_out out v p v p ≡ true
  unfolding leaving_out
  left_out-here = ap (λ (b : Bool). b || out v p) (and_from (v == v) (p == p) (eqb_same v) (eqb_same p))

-- only pages of one node are left out, before the first and after one more
pub only-none : (v : ℕ) → IsOnlyOf all_in_sight v
only-none v w p e = absurd (cc)

pub only-more : (out : ℕ → ℕ → Bool) (v p : ℕ) → IsOnlyOf out v → IsOnlyOf (leaving_out out v p) v
unfolding leaving_out
only-more out v p only w q e = elim (or_cases ((w == v) && (q == p)) (out w q) e) [
  | inl here ↦ eqb_is w v (and_parts (w == v) (q == p) here).0
  | inr there ↦ only w q there
]

-- no frame comes or goes with a zero row
pub without_frame-none : (in_use : ℕ → Bool) → without_frame in_use None ≡ in_use
unfolding without_frame
without_frame-none in_use = refl

pub with_frame-none : (in_use : ℕ → Bool) → with_frame in_use None ≡ in_use
unfolding with_frame
with_frame-none in_use = refl

-- page p of v shows no frame, or is no page
abbrev pub ShowsNothing : Tree → (v p : ℕ) → Type 0
ShowsNothing t v p = IsPage t v p → frame_shown t v p ≡ None

pub exact-in_use_alike : (t : Tree) (out : ℕ → ℕ → Bool) (in_use in_use_now : ℕ → Bool) → ((tag : ℕ) → in_use tag ≡ in_use_now tag) →
    IsExact t out in_use → IsExact t out in_use_now
exact-in_use_alike t out in_use in_use_now same exact = subst (IsExact t out) (λ i tag. same tag i) exact

-- No frame row is seen by this page, so that it may be left out of sight, and be in sight again.
module _ (t : Tree) (out : ℕ → ℕ → Bool) (in_use : ℕ → Bool) (v p : ℕ)
    (other : (w q : ℕ) (side : Side) (k r : ℕ) (node : Node) (tag : Tag) (left right : Bool) → t.nodes k ≡ Some node →
    t.slots node.list.0 r ≡ Some (Slot.Frame tag left right) → Sees t w q (Some side) k r → (w ≡ v) × (q ≡ p) → ⊥) where
  seen-either : (k r : ℕ) (node : Node) (tag : Tag) (left right : Bool) → t.nodes k ≡ Some node → t.slots node.list.0 r ≡ Some (Slot.Frame tag left right) →
      (side : Side) → IsSeenFrom t out side k r ↔ IsSeenFrom t (leaving_out out v p) side k r
  seen-either k r node tag left right at row side = (
    seen-carried t t out (leaving_out out v p) side k r refl
        (λ w q sees in_sight. (refl, left_out-other out v p w q (other w q side k r node tag left right at row sees) ∙ in_sight)),
    seen-carried t t (leaving_out out v p) out side k r refl (λ w q sees in_sight. (refl, (left_out-in_sight out v p w q in_sight).1)),
  )

  exact-out_by : IsExact t out in_use → IsExact t (leaving_out out v p) in_use
  exact-out_by exact = exact-seen_alike t out (leaving_out out v p) in_use exact
      (λ k r node tag left right at hidden row. seen-either k r node tag left right at row)

  exact-in_by : IsExact t (leaving_out out v p) in_use → IsExact t out in_use
  exact-in_by exact = exact-seen_alike t (leaving_out out v p) out in_use exact
      (λ k r node tag left right at hidden row side. let both = seen-either k r node tag left right at row side in (both.1, both.0))

module _ (t : Tree) (out : ℕ → ℕ → Bool) (in_use : ℕ → Bool) (v p : ℕ) (nothing : ShowsNothing t v p) where
  -- whoever sees a frame row does it by another page
  pub sees-other : IsForest t.nodes t.lists → (w q : ℕ) (side : Option Side) (k r : ℕ) (node : Node) (tag : Tag) (left right : Bool) →
      t.nodes k ≡ Some node → t.slots node.list.0 r ≡ Some (Slot.Frame tag left right) → Sees t w q side k r → (w ≡ v) × (q ≡ p) → ⊥
  sees-other forest w q side k r node tag left right at row sees both =
      let ends = walk-ends t forest w q _ sees.found in
      let same : ends.row.node ≡ node = some_same (sym ends.row.at ∙ at) in
      let slot_is : sees.slot ≡ Slot.Frame tag left right = some_same (sym ends.row.row ∙ (ap (λ (n : Node). t.slots n.list.0 r) same ∙ row)) in
      let shows : frame_shown t w q ≡ Some tag.0 = ap frame_found sees.found ∙ ap frame_in slot_is in
      let none : frame_shown t w q ≡ None = subst (λ i. frame_shown t i q ≡ None) (sym both.0) (subst (λ i. frame_shown t v i ≡ None) (sym both.1)
      (nothing (subst (IsPage t v) both.1 (subst (λ i. IsPage t i q) both.0 sees.page)))) in
      absurd (cc)

  pub exact-out_of_sight : IsExact t out in_use → IsExact t (leaving_out out v p) in_use
  exact-out_of_sight exact = exact-out_by t out in_use v p (λ w q side. sees-other exact.forest w q (Some side)) exact

  pub exact-in_sight : IsExact t (leaving_out out v p) in_use → IsExact t out in_use
  exact-in_sight exact = exact-in_by t out in_use v p (λ w q side. sees-other exact.forest w q (Some side)) exact

-- ---- own rows

-- a row of a visible node says nothing of sides
abbrev pub IsPlain : Slot → Type 0
IsPlain (Slot.Frame tag left right) = (left ≡ false) × (right ≡ false)
IsPlain Slot.Zero = Unit

-- The trees differ at page p of the visible node v alone, where one of them has a row. Whoever sees a row from a side in
-- the other, but by this page, sees it in this one too, and the other way round.
seen-own : (bare full : Tree) (out : ℕ → ℕ → Bool) (v p : ℕ) (node : Node) (row : Slot) → full.nodes ≡ bare.nodes →
    IsForest full.nodes full.lists → full.nodes v ≡ Some node → full.slots node.list.0 p ≡ Some row →
    ((w q : ℕ) → ((w ≡ v) × (q ≡ p) → ⊥) → walk full w q ≡ walk bare w q) → (side : Side) (k r : ℕ) →
    IsSeenFrom bare (leaving_out out v p) side k r ↔ IsSeenFrom full out side k r
seen-own bare full out v p node row nodes forest at own beside side k r = (
  seen-carried bare full (leaving_out out v p) out side k r nodes
      (λ w q sees in_sight.
      let sight = left_out-in_sight out v p w q in_sight in
      (beside w q sight.0, sight.1)),
  seen-carried full bare out (leaving_out out v p) side k r (sym nodes)
      (λ w q sees in_sight.
      let differs = other w q sees in
      (sym (beside w q differs), left_out-other out v p w q differs ∙ in_sight)),
)
  where
    other : (w q : ℕ) → Sees full w q (Some side) k r → (w ≡ v) × (q ≡ p) → ⊥
    other w q sees both =
        let here : walk full w q ≡ Some (record { node = v; page = p; side = None; slot = row }) =
        rw (both.0, both.1) (walk-own full forest v p node row at own) in
        let same : ◌≡◌ {A = Found} (record { node = k; page = r; side = Some side; slot = sees.slot })
        (record { node = v; page = p; side = None; slot = row }) = some_same (sym sees.found ∙ here) in
        let sides : Some side ≡ None = ap (λ (it : Found). it.side) same in
        absurd (cc)

-- of two rows at one place, the second stays
with_pair-twice : (slots : ℕ → ℕ → Option Slot) (l q : ℕ) (first second : Option Slot) (m r : ℕ) →
    with_pair (with_pair slots l q first) l q second m r ≡ with_pair slots l q second m r
unfolding with_pair
with_pair-twice slots l q first second m r = twice ((m == l) && (r == q)) (slots m r)
  where
    twice : (b : Bool) (o : Option Slot) → cond b second (cond b first o) ≡ cond b second o
    twice true o = refl
    twice false o = refl

pub with_row-twice : (t : Tree) (l q : ℕ) (first second : Option Slot) →
    with_row (with_row t l q first) l q second ≡ with_row t l q second
with_row-twice t l q first second = λ i. record t { slots = λ m r. with_pair-twice t.slots l q first second m r i }

module _ (t : Tree) (v p : ℕ) (node : Node) (visible : IsVisible t.nodes v node) where
  -- walks of other pages stay, whatever row this one gets
  pub own-walks : IsForest t.nodes t.lists → (row : Option Slot) (w q : ℕ) → ((w ≡ v) × (q ≡ p) → ⊥) →
      walk (with_row t node.list.0 p row) w q ≡ walk t w q
  own-walks forest row w q differs = walk-beside t forest v p node row w q visible (λ one other. differs (one, other))

  -- and show what they showed, before and after
  pub own-shows : IsForest t.nodes t.lists → (row : Option Slot) → ShowsSame t (with_row t node.list.0 p row) (IsNotPage v p)
  own-shows forest row w q page differs = ap frame_found (own-walks forest row w q differs)

  -- the page shows its own row
  pub own_comes-shows : IsForest t.nodes t.lists → (row : Slot) → frame_shown (with_row t node.list.0 p (Some row)) v p ≡ frame_in row
  own_comes-shows forest row = ap frame_found
      (walk-own (with_row t node.list.0 p (Some row)) forest v p node row visible.at (with_pair-same t.slots node.list.0 p (Some row)))

  -- no node is visible and hidden
  not_hidden : (node.koid ≡ None) → ⊥
  not_hidden hidden =
      let shown = visible.koid in
      let none = ap is_some hidden in
      absurd (cc)

  -- An own row goes: the page is out of sight then, and its frame is free.
  pub exact-own_gone : (out : ℕ → ℕ → Bool) (in_use : ℕ → Bool) (row : Slot) → IsExact t out in_use → t.slots node.list.0 p ≡ Some row →
      IsExact (with_row t node.list.0 p None) (leaving_out out v p) (without_frame in_use (frame_in row))
  exact-own_gone out in_use row exact own =
      exact-changed t (with_row t node.list.0 p None) out (leaving_out out v p) in_use (without_frame in_use (frame_in row)) v p node
      (Some row) None exact visible.at (with_row-changes t node.list.0 p (Some row) None own) (frame-gone (frame_in row) in_use)
      (λ shown. record { below = λ slot e. absurd (cc); plain = λ tag left right e. absurd (cc) })
      (record {
        alike = λ k r at tag left right there hidden stands differs side.
            let both = seen-own (with_row t node.list.0 p None) t out v p node row refl exact.forest visible.at own
            (λ w q apart. sym (own-walks exact.forest None w q apart)) side k r in
            (both.1, both.0);
      })
      (λ hidden. absurd (not_hidden hidden))

  -- An own row comes, with a frame that no row has: the page is in sight then, and its frame in use.
  pub exact-own_comes : (out : ℕ → ℕ → Bool) (in_use : ℕ → Bool) (row : Slot) → IsExact t (leaving_out out v p) in_use →
      t.slots node.list.0 p ≡ None → p < node.count → IsPlain row → ((tag : ℕ) → frame_in row ≡ Some tag → in_use tag ≡ false) →
      IsExact (with_row t node.list.0 p (Some row)) out (with_frame in_use (frame_in row))
  exact-own_comes out in_use row exact free below plain unused =
      exact-changed t (with_row t node.list.0 p (Some row)) (leaving_out out v p) out in_use (with_frame in_use (frame_in row)) v p node
      None (Some row) exact visible.at (with_row-changes t node.list.0 p None (Some row) free) (frame-comes (frame_in row) in_use unused)
      (λ shown. record { below = λ slot e. below; plain = λ tag left right e. subst IsPlain (some_same e) plain })
      (record {
        alike = λ k r at tag left right there hidden stands differs side.
            seen-own t (with_row t node.list.0 p (Some row)) out v p node row refl exact.forest visible.at
            (with_pair-same t.slots node.list.0 p (Some row)) (own-walks exact.forest (Some row)) side k r;
      })
      (λ hidden. absurd (not_hidden hidden))

-- the page gets another row
module _ (t : Tree) (v p : ℕ) (node : Node) (visible : IsVisible t.nodes v node) where
  -- An own row gives way to one whose frame no other row has.
  pub exact-own_replaced : (out : ℕ → ℕ → Bool) (in_use : ℕ → Bool) (was row : Slot) → IsExact t out in_use →
      t.slots node.list.0 p ≡ Some was → IsPlain row →
      ((tag : ℕ) → frame_in row ≡ Some tag → without_frame in_use (frame_in was) tag ≡ false) →
      IsExact (with_row t node.list.0 p (Some row)) out (with_frame (without_frame in_use (frame_in was)) (frame_in row))
  exact-own_replaced out in_use was row exact own plain unused = subst
      (λ new. IsExact new out (with_frame (without_frame in_use (frame_in was)) (frame_in row)))
      (with_row-twice t node.list.0 p None (Some row))
      (exact-own_comes (with_row t node.list.0 p None) v p node visible out (without_frame in_use (frame_in was)) row
      (exact-own_gone t v p node visible out in_use was exact own) (with_pair-same t.slots node.list.0 p None)
      (exact.below v p node was visible own) plain unused)

  -- A zero row becomes a row of a frame that no row has.
  pub exact-own_filled : (out : ℕ → ℕ → Bool) (in_use : ℕ → Bool) (tag : Tag) → IsExact t out in_use →
      t.slots node.list.0 p ≡ Some Slot.Zero → in_use tag.0 ≡ false →
      IsExact (with_row t node.list.0 p (Some (Slot.Frame tag false false))) out (with_frame in_use (Some tag.0))
  exact-own_filled out in_use tag exact own unused = subst
      (λ used. IsExact (with_row t node.list.0 p (Some (Slot.Frame tag false false))) out (with_frame used (Some tag.0)))
      (without_frame-none in_use)
      (exact-own_replaced out in_use Slot.Zero (Slot.Frame tag false false) exact own (refl, refl)
      (λ other e. subst (λ used. used other ≡ false) (sym (without_frame-none in_use))
      (subst (λ n. in_use n ≡ false) (some_same e) unused)))

-- ---- frames that are shown

-- page p of v shows the frame of the row that its walk finds
pub record IsShown (t : Tree) (v p tag : ℕ) : Type 0 where
  pub it : Found
  pub found : walk t v p ≡ Some it
  pub frame : frame_in it.slot ≡ Some tag

pub frame-shown : (t : Tree) (v p tag : ℕ) → frame_shown t v p ≡ Some tag → IsShown t v p tag
frame-shown t v p tag = shown (walk t v p) refl
  where
    shown : (o : Option Found) → walk t v p ≡ o → frame_found o ≡ Some tag → IsShown t v p tag
    shown None found e = absurd (cc)
    shown (Some it) found e = record { it = it; found = found; frame = e }

module _ (t : Tree) (out : ℕ → ℕ → Bool) (in_use : ℕ → Bool) (exact : IsExact t out in_use) where
  -- a frame that is shown is in use
  pub frame-in_use : (v p tag : ℕ) → frame_shown t v p ≡ Some tag → in_use tag ≡ true
  frame-in_use v p tag e =
      let shown = frame-shown t v p tag e in
      let row = (walk-ends t exact.forest v p shown.it shown.found).row in
      exact.used row.node.list.0 shown.it.page shown.it.slot tag row.row shown.frame

  -- walks that find one frame end in one row
  pub frame-once : (v p w q tag : ℕ) (it other : Found) → walk t v p ≡ Some it → walk t w q ≡ Some other →
      frame_in it.slot ≡ Some tag → frame_in other.slot ≡ Some tag →
      (it.node ≡ other.node) × (it.page ≡ other.page) × (it.slot ≡ other.slot)
  frame-once v p w q tag it other e f one two =
      let a = (walk-ends t exact.forest v p it e).row in
      let b = (walk-ends t exact.forest w q other f).row in
      let place = exact.once a.node.list.0 it.page b.node.list.0 other.page tag it.slot other.slot a.row b.row one two in
      let rows : Some it.slot ≡ Some other.slot = sym a.row ∙ (ap (λ l. t.slots l it.page) place.0 ∙ (ap (t.slots b.node.list.0) place.1 ∙ b.row)) in
      (exact.forest.by.own it.node other.node a.node b.node a.at b.at place.0, place.1, some_same rows)
