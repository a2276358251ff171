-- The way down ends at a VMO's node: pages that it comes to go out of sight at once.
use Rattle.cow_merge.proofs.Words.{◌≡◌, ◌≢◌, ◌⊎◌, ℕ, ◌+◌, ◌-◌, ◌<◌, ◌≤◌, Bool, true, false, Option, None, Some, inl, inr, IsSome, refl, sym}
use Rattle.cow_merge.proofs.Words.{ap, subst, ◌∙◌, arith, ◌&&◌, ◌||◌, ◌==◌, nat_le, nat_lt, is_some, is_none, cases_Bool, cases_lt}
use Rattle.cow_merge.proofs.Words.{and_from, and_parts, or_left, or_right, or_parts, eq-eqb, eqb-true, ne_eqb, le-leb, lt-ltb, leb-true}
use Rattle.cow_merge.proofs.Words.{ltb-true, Rows, Tag, some_same, Row, Slot, slots_of, Pool, is_taken, Node, NodeId, Side, Arena, nodes_of}
use Rattle.cow_merge.proofs.Words.{link_to, other_side, side_of, IsForest, Tree, frame_shown, frame_found, frame_in, Climbs, Reaches}
use Rattle.cow_merge.proofs.Words.{tree_of, Sees, IsSeenFrom, IsExact, IsOnlyOf, Way, IsSpared, IsParent, IsPassing, IsBeside}
use Rattle.cow_arena.proofs.ReachLaws.{reach-one, reach-apart, side-is, walk-ends, found-of-reach}
use Rattle.cow_arena.proofs.WalkLaws.{link_same}
use Rattle.cow_split.proofs.SharedLaws.{beside-way, exact-shared}
use Rattle.cow_merge.proofs.PassingLaws.{bare-inside}
use Rattle.cow_merge.proofs.BesideLaws.{goes-up}

-- the pages of v that pass the test are left out too
unfoldable pub shared : (ℕ → ℕ → Bool) → (v : ℕ) → (test : ℕ → Bool) → ℕ → ℕ → Bool
shared out v test w q = ((w == v) && test q) || out w q

pub shared-more : (out : ℕ → ℕ → Bool) (v : ℕ) (test : ℕ → Bool) (w q : ℕ) → out w q ≡ true → shared out v test w q ≡ true
unfolding shared
shared-more out v test w q gone = or_right ((w == v) && test q) (out w q) gone

pub shared-here : (out : ℕ → ℕ → Bool) (v : ℕ) (test : ℕ → Bool) (q : ℕ) → test q ≡ true → shared out v test v q ≡ true
unfolding shared
shared-here out v test q passes = or_left ((v == v) && test q) (out v q) (and_from (v == v) (test q) (eq-eqb v v refl) passes)

pub shared-sight : (out : ℕ → ℕ → Bool) (v : ℕ) (test : ℕ → Bool) (w q : ℕ) → shared out v test w q ≡ false → out w q ≡ false
unfolding shared
shared-sight out v test w q sight = (or_parts ((w == v) && test q) (out w q) sight).1

pub shared-other : (out : ℕ → ℕ → Bool) (v : ℕ) (test : ℕ → Bool) (w q : ℕ) → w ≢ v → shared out v test w q ≡ out w q
unfolding shared
shared-other out v test w q apart = ap (λ b. (b && test q) || out w q) (ne_eqb w v apart)

pub shared-parts : (out : ℕ → ℕ → Bool) (v : ℕ) (test : ℕ → Bool) (w q : ℕ) → shared out v test w q ≡ true → out w q ≡ false → (w ≡ v) × (test q ≡ true)
unfolding shared
shared-parts out v test w q gone sight = elim (cases_Bool ((w == v) && test q)) [
  | inl both ↦ let parts = and_parts (w == v) (test q) both in (eqb-true w v parts.0, parts.1)
  | inr none ↦ absurd (let now : (((w == v) && test q) || out w q) ≡ out w q = ap (λ b. b || out w q) none in cc)
]

-- a page of the parent between these has no row there
abbrev is_shared : (from to : ℕ) → (page : ℕ → Option Slot) → ℕ → Bool
is_shared from to page q = nat_le from q && (nat_lt q to && is_none (page q))

shared-test : (from to : ℕ) (page : ℕ → Option Slot) (q : ℕ) → is_shared from to page q ≡ true → (from ≤ q) × (q < to) × (page q ≡ None)
shared-test from to page q on =
    let one = and_parts (nat_le from q) (nat_lt q to && is_none (page q)) on in
    let two = and_parts (nat_lt q to) (is_none (page q)) one.1 in
    (leb-true from q one.0, ltb-true q to two.0, none (page q) two.1)
  where
    none : (o : Option Slot) → is_none o ≡ true → o ≡ None
    none None e = refl
    none (Some row) e = absurd (cc)

test-shared : (from to : ℕ) (page : ℕ → Option Slot) (q : ℕ) → from ≤ q → q < to → page q ≡ None → is_shared from to page q ≡ true
test-shared from to page q low less none =
    and_from (nat_le from q) (nat_lt q to && is_none (page q)) (le-leb from q low)
    (and_from (nat_lt q to) (is_none (page q)) (lt-ltb q to less) (ap is_none none))

pub other-apart : (own s : Side) → s ≡ other_side own → s ≢ own
other-apart Side.Left s is same = absurd (let both = sym is ∙ same in cc)
other-apart Side.Right s is same = absurd (let both = sym is ∙ same in cc)

module _ {arena : Arena} {new : Rows Row} {after : Pool} {v first : ℕ} {spared : Option NodeId} {h : ℕ} {above : Node} {base to : ℕ}
    {s : Side} {way : Way} (was : IsBeside arena new after v first spared h above base to s way way.to)
    (koid : IsSome was.place.node.koid) (up : was.bare.has.node.parent ≡ link_to h)
    (base_is : base ≡ was.bare.has.node.first) (s_is : s ≡ other_side (side_of above v)) (from end : ℕ) (from_is : from + base ≡ way.from + way.shift)
    (end_is : end + base ≡ way.to + way.shift) (some : way.from < way.to) where
  abbrev t : Tree
  t = tree_of arena new

  f : IsForest (nodes_of arena) arena.lists
  f = was.bare.has.exact.forest

  abbrev page_at : ℕ → Option Slot
  page_at q = slots_of new above.list.0 (q + base)

  abbrev now : ℕ → ℕ → Bool
  now = shared was.bare.has.out v (is_shared from end page_at)

  -- a page that goes out of sight, and what comes there from the witness
  climbs-there : (x tag : ℕ) → first ≤ x → frame_shown t v x ≡ Some tag → Climbs t v x h (x + base)
  climbs-there x tag start shown = record {
    node = was.bare.has.node;
    at = was.bare.has.visible.at;
    free = was.bare.bare x start;
    inside = bare-inside arena new f v x tag was.bare.has.node was.bare.has.visible.at (was.bare.bare x start) shown;
    parent = up;
    page = omega arith;
  }

  not-spared : (o : Option NodeId) → IsParent o was.bare.has.node → (x : ℕ) → page_at x ≡ None → IsSpared (nodes_of arena) (slots_of new) o was.bare.has.node x → ⊥
  not-spared None parent x none held = held
  not-spared (Some at) parent x none held =
      let one : at.0 ≡ h = link_same (sym (parent at refl) ∙ up) in
      let same : held.above ≡ above = some_same (sym held.at ∙ (ap (nodes_of arena) one ∙ was.at)) in
      let place : was.bare.has.node.first + x ≡ x + base = omega arith in
      let row : is_some (page_at x) ≡ true =
      ap is_some (ap (slots_of new above.list.0) (sym place) ∙ ap (λ (n : Node). slots_of new n.list.0 (was.bare.has.node.first + x)) (sym same)) ∙ held.row in
      let bare = ap is_some none in
      absurd (cc)

  -- the witness is another VMO's node
  witness-apart : (x p tag : ℕ) → first ≤ x → frame_shown t v x ≡ Some tag → Reaches t way.at.0 p s h (x + base) → way.at.0 ≢ v
  witness-apart x p tag start shown there same =
      let own = side-is (nodes_of arena) arena.lists f h v above was.bare.has.node was.at was.bare.has.visible.at up in
      let mine = reach-one t v x (side_of above v) h (x + base) (climbs-there x tag start shown) own in
      other-apart (side_of above v) s s_is
      (reach-apart t f v p s h (x + base) x (side_of above v) (x + base) (subst (λ k. Reaches t k p s h (x + base)) same there) mine).1

  -- a row that it saw is seen by the witness
  seen-beside : (x : ℕ) (side : Side) (g r : ℕ) (node : Node) (tag : Tag) (left right : Bool) → was.bare.has.out v x ≡ false → is_shared from end page_at x ≡ true →
      nodes_of arena g ≡ Some node → slots_of new node.list.0 r ≡ Some (Slot.Frame tag left right) → Sees t v x (Some side) g r → IsSeenFrom t now side g r
  seen-beside x side g r node tag left right sight test at row sees =
      let parts = shared-test from end page_at x test in
      let first_is = was.place.within.low way.from (omega arith) some in
      let start : first ≤ x = omega (arith, parts.0) in
      let ends = walk-ends t f v x _ sees.found in
      let one : ends.row.node ≡ node = some_same (sym ends.row.at ∙ at) in
      let slot_is : sees.slot ≡ Slot.Frame tag left right = some_same (sym (subst (λ (n : Node). slots_of new n.list.0 r ≡ Some sees.slot) one ends.row.row) ∙ row) in
      let shown : frame_shown t v x ≡ Some tag.0 = ap frame_found sees.found ∙ ap frame_in slot_is in
      let count : x < was.bare.has.node.count = subst (λ (n : Node). x < n.count) (some_same (sym sees.page.visible.at ∙ was.bare.has.visible.at)) sees.page.below in
      elim (was.came x tag.0 start count sight shown) [
        | inl held ↦ absurd (not-spared spared was.parent x parts.2 held)
        | inr it ↦
            let p = x + base - way.shift in
            let high = was.place.within.high way.from (omega arith) some in
            let is : x + base ≡ p + way.shift = omega (arith, parts.0) in
            let low : way.from ≤ p = omega (arith, parts.0) in
            let less : p < way.to = omega (arith, parts.1) in
            let there = goes-up was x p it is low less in
            let apart = witness-apart x p tag.0 start shown there in
            let reach = beside-way t f v x h (x + base) above was.at parts.2 (climbs-there x tag.0 start shown) way.at.0 p s side g r
            (Slot.Frame tag left right) there ends.way (record { node = node; at = at; row = row }) in
            record {
              v = way.at.0;
              p = p;
              sees = record {
                page = record {
                  node = was.place.node;
                  visible = record { at = was.place.node_at; koid = koid };
                  below = let most = f.by.seen way.at.0 was.place.node was.place.node_at in let inside = was.place.within.inside p low less in omega arith;
                };
                slot = Slot.Frame tag left right;
                found = found-of-reach t f way.at.0 p side g r node (Slot.Frame tag left right) reach at row;
              };
              in_sight = shared-other was.bare.has.out v (is_shared from end page_at) way.at.0 p apart ∙ other-sight p apart;
            }
      ]
    where
      other-sight : (p : ℕ) → way.at.0 ≢ v → was.bare.has.out way.at.0 p ≡ false
      other-sight p apart = elim (cases_Bool (was.bare.has.out way.at.0 p)) [
        | inl gone ↦ absurd (apart (was.bare.has.only way.at.0 p gone))
        | inr sight ↦ sight
      ]

  now-only : IsOnlyOf now v
  now-only w q gone = elim (cases_Bool (was.bare.has.out w q)) [
    | inl out ↦ was.bare.has.only w q out
    | inr sight ↦ (shared-parts was.bare.has.out v (is_shared from end page_at) w q gone sight).0
  ]

  now-within : (q : ℕ) → now v q ≡ true → first ≤ q
  now-within q gone = elim (cases_Bool (was.bare.has.out v q)) [
    | inl out ↦ was.bare.within q out
    | inr sight ↦
        let parts = shared-test from end page_at q (shared-parts was.bare.has.out v (is_shared from end page_at) v q gone sight).1 in
        let low = was.place.within.low way.from (omega arith) some in
        omega (arith, parts.0)
  ]

  now-exact : IsExact t now (is_taken after)
  now-exact = exact-shared t was.bare.has.out now (is_taken after) was.bare.has.exact
      (λ w q gone. shared-more was.bare.has.out v (is_shared from end page_at) w q gone)
      (λ w x side g r node tag left right sight gone at row sees.
      let parts = shared-parts was.bare.has.out v (is_shared from end page_at) w x gone sight in
      seen-beside x side g r node tag left right (ap (λ k. was.bare.has.out k x) (sym parts.0) ∙ sight) parts.1 at row
      (subst (λ k. Sees t k x (Some side) g r) parts.0 sees))

  -- the pages that come to the witness are out of sight
  pub beside-witness : IsPassing arena new after v first (record { from = from; to = end }) spared above base to to
  beside-witness = record {
    bare = record {
      has = record { out = now; exact = now-exact; only = now-only; node = was.bare.has.node; visible = was.bare.has.visible };
      within = now-within;
      bare = was.bare.bare;
    };
    parent = was.parent;
    h = h;
    at = was.at;
    came = λ q tag start less sight shown. elim (was.came q tag start less (shared-sight was.bare.has.out v (is_shared from end page_at) v q sight) shown) [
      | inl held ↦ inl held
      | inr it ↦ inr (record {
        side = it.came.side;
        apart = outside q sight (subst (λ x. slots_of new above.list.0 x ≡ None) it.came.is (it.came.free it.came.below));
        page = it.came.page;
        is = it.came.is;
        way = it.came.way;
        below = it.came.below;
        free = it.came.free;
      })
    ];
  }
    where
      outside : (q : ℕ) → now v q ≡ false → slots_of new above.list.0 (q + base) ≡ None → (q < from) ⊎ (end ≤ q)
      outside q sight bare = elim (cases_lt q from) [
        | inl before ↦ inl before
        | inr past ↦ elim (cases_lt q end) [
          | inl inside ↦ absurd (let gone = shared-here was.bare.has.out v (is_shared from end page_at) q (test-shared from end page_at q past inside bare) in cc)
          | inr behind ↦ inr behind
        ]
      ]
