-- A witness further up: the other child of a node on the way, if it is a VMO's node. Pages that it shows too go out of sight at once.
use Rattle.cow_merge.proofs.Words.{◌≡◌, ◌≢◌, ◌⊎◌, ℕ, ◌+◌, ◌-◌, ◌<◌, ◌≤◌, Bool, true, false, Option, None, Some, inl, inr, IsSome, refl, sym}
use Rattle.cow_merge.proofs.Words.{ap, subst, ◌∙◌, arith, ◌&&◌, nat_le, nat_lt, is_some, cases_Bool, cases_lt, some_same}
use Rattle.cow_merge.proofs.Words.{and_from, and_parts, le-leb, lt-ltb, leb-true, ltb-true, Rows, Tag, Row, Slot, slots_of, Pool, is_taken}
use Rattle.cow_merge.proofs.Words.{Node, NodeId, Side, Arena, Nodes, nodes_of, link_to, side_in, other_side, IsForest, Slots, Tree, Found, walk, from_side}
use Rattle.cow_merge.proofs.Words.{frame_shown, frame_found, frame_in, Climbs, Reaches, Arrives, tree_of, Sees, IsSeenFrom, IsExact, IsOnlyOf}
use Rattle.cow_merge.proofs.Words.{Pages, bare_of, IsHeldBy, IsSpared, IsParent, IsPassing, IsOutside}
use Rattle.std.specs.Option.{option_or}
use Rattle.cow_arena.specs.Forest.{HasAsChild}
use Rattle.cow_arena.proofs.ReachLaws.{reach-one, reach-once, walk-from, walk-ends, hidden-apart}
use Rattle.cow_split.proofs.SharedLaws.{exact-shared}
use Rattle.cow_merge.proofs.PassedLaws.{bare-only, bare-hidden}
use Rattle.cow_merge.proofs.WitnessLaws.{shared, shared-more, shared-here, shared-sight, shared-other, shared-parts, other-apart}

-- what a test says of a page that is not held
abbrev pick : {A : Type 0} → A ⊎ (A → ⊥) → Bool → Bool
pick (inl held) b = false
pick (inr none) b = b

pick-parts : {A : Type 0} (d : A ⊎ (A → ⊥)) (b : Bool) → pick d b ≡ true → (A → ⊥) × (b ≡ true)
pick-parts (inl held) b is = absurd (cc)
pick-parts (inr none) b is = (none, is)

pick-there : {A : Type 0} (d : A ⊎ (A → ⊥)) (b : Bool) → (A → ⊥) → b ≡ true → pick d b ≡ true
pick-there (inl held) b none is = absurd (none held)
pick-there (inr out) b none is = is

-- whether the spared node holds a page
holds : (nodes : Nodes) (lists : ℕ) → IsForest nodes lists → (slots : Slots) (v : ℕ) (node : Node) → nodes v ≡ Some node → (o : Option NodeId) →
    IsParent o node → (q : ℕ) → IsSpared nodes slots o node q ⊎ (IsSpared nodes slots o node q → ⊥)
holds nodes lists f slots v node at None parent q = inr (λ e. e)
holds nodes lists f slots v node at (Some h) parent q = elim (cases_Bool (is_some (slots up.above.list.0 (node.first + q)))) [
  | inl row ↦ elim (cases_lt q node.seen) [
    | inl inside ↦ inl (record { above = up.above; at = up.at; row = row; inside = inside })
    | inr past ↦ inr (λ (it : IsHeldBy nodes slots h.0 node q). absurd (omega (arith, it.inside)))
  ]
  | inr none ↦ inr (λ (it : IsHeldBy nodes slots h.0 node q).
      let same : it.above ≡ up.above = some_same (sym it.at ∙ up.at) in
      absurd (let row = subst (λ (n : Node). IsSome (slots n.list.0 (node.first + q))) same it.row in cc))
]
  where
    up : HasAsChild nodes f.rank h.0 v node
    up = f.by.below h.0 v node at (parent h refl)

-- what is found from a page without a row of its own comes from some side
passed-on : (t : Tree) → IsForest t.nodes t.lists → (h q : ℕ) (above : Node) → t.nodes h ≡ Some above → t.slots above.list.0 q ≡ None → (u : Side) →
    (o : Option Found) → walk t h q ≡ o → from_side (Some u) o ≡ o
passed-on t f h q above at free u None is = refl
passed-on t f h q above at free u (Some it) is = by_side it.side refl
  where
    by_side : (d : Option Side) → it.side ≡ d → from_side (Some u) (Some it) ≡ Some it
    by_side (Some d) e = ap (λ s. Some (record it { side = s })) (ap (λ s. option_or s (Some u)) e ∙ sym e)
    by_side None e =
        let ends = walk-ends t f h q it is in
        let way = subst (λ d. Arrives t h q d it.node it.page) e ends.way in
        let node : ends.row.node ≡ above = some_same (sym ends.row.at ∙ (ap t.nodes (sym way.0) ∙ at)) in
        let row : t.slots above.list.0 q ≡ Some it.slot =
        ap (t.slots above.list.0) way.1 ∙ (ap (λ (n : Node). t.slots n.list.0 it.page) (sym node) ∙ ends.row.row) in
        absurd (cc)

module _ {arena : Arena} {rows : Rows Row} {pool : Pool} {v first : ℕ} {skip : Pages} {spared : Option NodeId} {above : Node} {shift to : ℕ}
    (was : IsPassing arena rows pool v first skip spared above shift to to) (side : Side) (h : ℕ) (at : nodes_of arena h ≡ Some above)
    (way : Reaches (bare_of arena) v first side h (first + shift)) (w : ℕ) (beside : Node) (beside_at : nodes_of arena w ≡ Some beside)
    (koid : IsSome beside.koid) (up : beside.parent ≡ link_to h) (side_is : side_in (nodes_of arena) w ≡ Some (other_side side)) (low high : ℕ)
    (some : low < high) (inside : high ≤ beside.seen) (start : first + shift ≤ low + beside.first)
    (bare : (p : ℕ) → low ≤ p → p < high → slots_of rows beside.list.0 p ≡ None) (pages more : Pages)
    (from_is : pages.from + shift ≡ low + beside.first) (to_is : pages.to + shift ≡ high + beside.first)
    (outside : (q : ℕ) → IsOutside skip q → IsOutside pages q → IsOutside more q) where
  abbrev t : Tree
  t = tree_of arena rows

  f : IsForest (nodes_of arena) arena.lists
  f = was.bare.has.exact.forest

  here : was.h ≡ h
  here = f.by.own was.h h above above was.at at refl

  held : (q : ℕ) → IsSpared (nodes_of arena) (slots_of rows) spared was.bare.has.node q ⊎ (IsSpared (nodes_of arena) (slots_of rows) spared was.bare.has.node q → ⊥)
  held q = holds (nodes_of arena) arena.lists f (slots_of rows) v was.bare.has.node was.bare.has.visible.at spared was.parent q

  -- a page that goes out of sight
  abbrev test : ℕ → Bool
  test q = pick (held q) (nat_le pages.from q && nat_lt q pages.to)

  test-parts : (q : ℕ) → test q ≡ true → (IsSpared (nodes_of arena) (slots_of rows) spared was.bare.has.node q → ⊥) × (pages.from ≤ q) × (q < pages.to)
  test-parts q on =
      let one = pick-parts (held q) _ on in
      let two = and_parts (nat_le pages.from q) (nat_lt q pages.to) one.1 in
      (one.0, leb-true pages.from q two.0, ltb-true q pages.to two.1)

  abbrev now : ℕ → ℕ → Bool
  now = shared was.bare.has.out v test

  climbs-inside : (q : ℕ) → pages.from ≤ q → q < pages.to → q + shift - beside.first < beside.seen
  climbs-inside q from less = omega (arith, start, from_is, to_is, inside)

  -- a page of the witness comes to the node
  climbs-there : (q : ℕ) → pages.from ≤ q → q < pages.to → Climbs t w (q + shift - beside.first) h (q + shift)
  climbs-there q from less = record {
    node = beside;
    at = beside_at;
    free = bare (q + shift - beside.first) (omega (arith, start, from_is)) (omega (arith, start, from_is, to_is));
    inside = climbs-inside q from less;
    parent = up;
    page = omega (arith, start, from_is);
  }

  witness-sight : (p : ℕ) → w ≢ v → was.bare.has.out w p ≡ false
  witness-sight p apart = elim (cases_Bool (was.bare.has.out w p)) [
    | inl gone ↦ absurd (apart (was.bare.has.only w p gone))
    | inr sight ↦ sight
  ]

  -- where the leaf's page goes on from the node, the witness does
  goes-on : (x : ℕ) (from : Side) (g r : ℕ) → pages.from ≤ x → x < pages.to → slots_of rows above.list.0 (x + shift) ≡ None → Sees t v x (Some from) g r →
      (s : Option Side) → Arrives t v x s h (x + shift) → IsSeenFrom t now from g r
  goes-on x from g r low_is less free sees None there =
      absurd (hidden-apart t f h v above was.bare.has.node at (bare-hidden arena f v first shift h side way above at) was.bare.has.visible (sym there.0))
  goes-on x from g r low_is less free sees (Some u) there =
      let p = x + shift - beside.first in
      let own : u ≡ side = ((bare-only arena f v first shift h side way rows (x + shift) (omega arith)).only x u there).1 in
      let step = climbs-there x low_is less in
      let reach = reach-one t w p (other_side side) h (x + shift) step side_is in
      let apart : w ≢ v = λ same.
      other-apart side (other_side side) refl
      ((reach-once t f v p x (other_side side) u h (x + shift) (subst (λ k. Reaches t k p (other_side side) h (x + shift)) same reach) there).1 ∙ own) in
      record {
        v = w;
        p = p;
        sees = record {
          page = record {
            node = beside;
            visible = record { at = beside_at; koid = koid };
            below = omega (arith, f.by.seen w beside beside_at, climbs-inside x low_is less);
          };
          slot = sees.slot;
          found = walk-from t f w p (Some (other_side side)) h (x + shift) reach
              ∙ (passed-on t f h (x + shift) above at free (other_side side) _ refl
              ∙ (sym (passed-on t f h (x + shift) above at free u _ refl) ∙ (sym (walk-from t f v x (Some u) h (x + shift) there) ∙ sees.found)));
        };
        in_sight = shared-other was.bare.has.out v test w p apart ∙ witness-sight p apart;
      }

  -- a row that a page saw which goes out of sight, the witness sees
  seen-beside : (x : ℕ) (from : Side) (g r : ℕ) (node : Node) (tag : Tag) (left right : Bool) → was.bare.has.out v x ≡ false → test x ≡ true →
      nodes_of arena g ≡ Some node → slots_of rows node.list.0 r ≡ Some (Slot.Frame tag left right) → Sees t v x (Some from) g r → IsSeenFrom t now from g r
  seen-beside x from g r node tag left right sight on node_at row sees =
      let parts = test-parts x on in
      let ends = walk-ends t f v x _ sees.found in
      let one : ends.row.node ≡ node = some_same (sym ends.row.at ∙ node_at) in
      let slot_is : sees.slot ≡ Slot.Frame tag left right = some_same (sym (subst (λ (n : Node). slots_of rows n.list.0 r ≡ Some sees.slot) one ends.row.row) ∙ row) in
      let shown : frame_shown t v x ≡ Some tag.0 = ap frame_found sees.found ∙ ap frame_in slot_is in
      let count : x < was.bare.has.node.count = subst (λ (n : Node). x < n.count) (some_same (sym sees.page.visible.at ∙ was.bare.has.visible.at)) sees.page.below in
      elim (was.came x tag.0 (omega (arith, start, from_is, parts.1)) count sight shown) [
        | inl spare ↦ absurd (parts.0 spare)
        | inr it ↦
            goes-on x from g r parts.1 parts.2 (subst (λ y. slots_of rows above.list.0 y ≡ None) it.is (it.free it.below)) sees it.side
            (subst (λ y. Arrives t v x it.side h y) it.is (subst (λ i. Arrives t v x it.side i it.page) here it.way))
      ]

  now-only : IsOnlyOf now v
  now-only k q gone = elim (cases_Bool (was.bare.has.out k q)) [
    | inl out ↦ was.bare.has.only k q out
    | inr sight ↦ (shared-parts was.bare.has.out v test k q gone sight).0
  ]

  now-within : (q : ℕ) → now v q ≡ true → first ≤ q
  now-within q gone = elim (cases_Bool (was.bare.has.out v q)) [
    | inl out ↦ was.bare.within q out
    | inr sight ↦ let parts = test-parts q (shared-parts was.bare.has.out v test v q gone sight).1 in omega (arith, start, from_is, parts.1)
  ]

  now-exact : IsExact t now (is_taken pool)
  now-exact = exact-shared t was.bare.has.out now (is_taken pool) was.bare.has.exact (λ k q gone. shared-more was.bare.has.out v test k q gone)
      (λ k x from g r node tag left right sight gone node_at row sees.
      let parts = shared-parts was.bare.has.out v test k x gone sight in
      seen-beside x from g r node tag left right (ap (λ i. was.bare.has.out i x) (sym parts.0) ∙ sight) parts.1 node_at row
      (subst (λ i. Sees t i x (Some from) g r) parts.0 sees))

  -- a page that is in sight, and that no spared node holds, is none of the witness
  still-outside : (q : ℕ) → now v q ≡ false → (IsSpared (nodes_of arena) (slots_of rows) spared was.bare.has.node q → ⊥) → IsOutside pages q
  still-outside q sight none = elim (cases_lt q pages.from) [
    | inl before ↦ inl before
    | inr past ↦ elim (cases_lt q pages.to) [
      | inl less ↦
          let on = pick-there (held q) _ none (and_from (nat_le pages.from q) (nat_lt q pages.to) (le-leb pages.from q past) (lt-ltb q pages.to less)) in
          absurd (let gone = shared-here was.bare.has.out v test q on in cc)
      | inr behind ↦ inr behind
    ]
  ]

  pub upward-witness : IsPassing arena rows pool v first more spared above shift to to
  upward-witness = record {
    bare = record {
      has = record { out = now; exact = now-exact; only = now-only; node = was.bare.has.node; visible = was.bare.has.visible };
      within = now-within;
      bare = was.bare.bare;
    };
    parent = was.parent;
    h = was.h;
    at = was.at;
    came = λ q tag begin less sight shown. elim (was.came q tag begin less (shared-sight was.bare.has.out v test v q sight) shown) [
      | inl spare ↦ inl spare
      | inr it ↦ elim (held q) [
        | inl spare ↦ inl spare
        | inr none ↦ inr (record {
          side = it.side;
          apart = outside q it.apart (still-outside q sight none);
          page = it.page;
          is = it.is;
          way = it.way;
          below = it.below;
          free = it.free;
        })
      ]
    ];
  }
