-- A snapshot of a VMO's node: with the split bits of its rows set, the tree stays exact, and both nodes show what is wanted.
use Rattle.cow_fork.proofs.Words.{◌≡◌, ◌≢◌, ◌⊎◌, ◌↔◌, ℕ, ◌+◌, ◌-◌, ◌<◌, ◌≤◌, Bool, true, false, Option, None, Some, IsSome, inl, inr, refl}
use Rattle.cow_fork.proofs.Words.{sym, ap, subst, ◌∙◌, arith, not, nat_le, nat_lt, is_some, option_map, cases_eq, cases_lt, both_ways}
use Rattle.cow_fork.proofs.Words.{and_parts, and_from, le-leb, lt-ltb, leb-true, ltb-true, not-true, not-false, cond-true, cond-false, Koid}
use Rattle.cow_fork.proofs.Words.{Tag, some_same, with_key-cases, eqb_same, eqb_apart, Slot, Node, Side, IsVisible, Slots, Tree, Found}
use Rattle.cow_fork.proofs.Words.{walk, frame_in, frame_found, frame_shown, IsForest, hidden_over, below_hidden, snapshot_node, paired}
use Rattle.cow_fork.proofs.Words.{Reaches, SameFrames, IsPage, Sees, IsSeenFrom, StaysVisible, IsExact, AreSplitBits, all_in_sight}
use Rattle.cow_fork.proofs.Words.{is_taken_in, split_row, split_slots}
use Rattle.page_list.specs.declared.row.ListId.{ListId}
use Rattle.cow_arena.proofs.WalkLaws.{walk-own}
use Rattle.cow_arena.proofs.ReachLaws.{walk-ends, reach-hidden}
use Rattle.cow_arena.proofs.RelinkLaws.{relinked-stays, relinked-was}
use Rattle.cow_arena.proofs.AlikeLaws.{some-alike, frames-back, found-alike, frame-alike}
use Rattle.cow_arena.proofs.PairWalkLaws.{Views, paired_tree, rows-fresh, child-at, leaf-at, other-at, pair-walk-other}
use Rattle.cow_arena.proofs.PairWalkLaws.{pair-reach-other-back, pair-views-leaf, pair-views-child, pair-walk-own, pair-walk-free}
use Rattle.cow_arena.proofs.PairWalkLaws.{pair-frame, pair-reach-cases, pair-walk-past, pair-listed}
use Rattle.cow_split.proofs.ExactLaws.{denies-alike, seen-moved}
use Rattle.cow_split.proofs.NodeLaws.{stays-page}

-- ---- the rows

split_frame : (b : Bool) (row : Slot) → frame_in (split_row b row) ≡ frame_in row
split_frame b (Slot.Frame tag left right) = refl
split_frame b Slot.Zero = refl

module _ (slots : Slots) (l first seen : ℕ) where
  -- other rows stay
  pub split-other : (m q : ℕ) → m ≢ l → split_slots slots l first seen m q ≡ slots m q
  unfolding split_slots
  split-other m q apart = cond-false _ _ _ (eqb_apart m l apart)

  pub split-here : (q : ℕ) → split_slots slots l first seen l q ≡ option_map (split_row (is_taken_in first seen q)) (slots l q)
  unfolding split_slots
  split-here q = cond-true _ _ _ (eqb_same l)

  -- rows show the frames that they showed
  pub split-frames : SameFrames slots (split_slots slots l first seen)
  split-frames = record {
    same = λ m q. elim (cases_eq m l) [
      | inl same ↦
          ap (λ i. option_map frame_in (split_slots slots l first seen i q)) same
          ∙ (ap (option_map frame_in) (split-here q) ∙ (framed (is_taken_in first seen q) (slots l q) ∙ sym (ap (λ i. option_map frame_in (slots i q)) same)))
      | inr apart ↦ ap (option_map frame_in) (split-other m q apart)
    ];
  }
    where
      framed : (b : Bool) (o : Option Slot) → option_map frame_in (option_map (split_row b) o) ≡ option_map frame_in o
      framed b None = refl
      framed b (Some row) = ap Some (split_frame b row)

  -- what the bits of a row are then
  pub split-bits : (q : ℕ) (tag : Tag) (left right : Bool) → split_slots slots l first seen l q ≡ Some (Slot.Frame tag left right) →
      (row : Slot) × (slots l q ≡ Some row) × (left ≡ false) × (right ≡ not (is_taken_in first seen q))
  split-bits q tag left right e = bits (is_taken_in first seen q) (slots l q) refl (sym (split-here q) ∙ e)
    where
      left_of : Slot → Bool
      left_of (Slot.Frame tag left right) = left
      left_of Slot.Zero = false

      right_of : Slot → Bool
      right_of (Slot.Frame tag left right) = right
      right_of Slot.Zero = false

      is_frame : Slot → Bool
      is_frame (Slot.Frame tag left right) = true
      is_frame Slot.Zero = false

      bits : (b : Bool) (o : Option Slot) → slots l q ≡ o → option_map (split_row b) o ≡ Some (Slot.Frame tag left right) →
          (row : Slot) × (slots l q ≡ Some row) × (left ≡ false) × (right ≡ not b)
      bits b None is e = absurd (cc)
      bits b (Some Slot.Zero) is e = absurd (let frame = ap is_frame (some_same e) in cc)
      bits b (Some (Slot.Frame t a c)) is e = (Slot.Frame t a c, is, sym (ap left_of (some_same e)), sym (ap right_of (some_same e)))

-- a row is seen from a side whatever the rows say of sides
pub seen-alike : (u : Tree) (slots : Slots) → SameFrames u.slots slots → IsForest u.nodes u.lists → (out : ℕ → ℕ → Bool) (side : Side) (h q : ℕ) →
    IsSeenFrom u out side h q → IsSeenFrom (record u { slots = slots }) out side h q
seen-alike u slots alike g out side h q seen =
    let found = found-alike u slots alike g seen.v seen.p (record { node = h; page = q; side = Some side; slot = seen.sees.slot }) seen.sees.found in
    let page = seen.sees.page in
    record {
      v = seen.v;
      p = seen.p;
      sees = record { page = record { node = page.node; visible = page.visible; below = page.below }; slot = found.0; found = found.1 };
      in_sight = seen.in_sight;
    }

-- ---- the nodes

-- what node j is after a snapshot
pub data Origin (t : Tree) (k : ℕ) (leaf : Node) (h c : ℕ) (koid : Koid) (first seen count j : ℕ) (now : Node) : Type 0 where
  from_hidden : j ≡ h → now ≡ hidden_over leaf k c → Origin t k leaf h c koid first seen count j now
  from_leaf : j ≡ k → now ≡ below_hidden leaf h t.lists → Origin t k leaf h c koid first seen count j now
  from_child : j ≡ c → now ≡ snapshot_node koid h (t.lists + 1) first seen count → Origin t k leaf h c koid first seen count j now
  from_other : (node : Node) → t.nodes j ≡ Some node → j ≢ k → now.koid ≡ node.koid → now.list ≡ node.list → now.count ≡ node.count →
      Origin t k leaf h c koid first seen count j now

module _ (t : Tree) (k : ℕ) (leaf : Node) (h c : ℕ) (koid : Koid) (first seen count : ℕ) where
  pub origin-of : (j : ℕ) (now : Node) → paired t.nodes k leaf h c t.lists koid first seen count j ≡ Some now → Origin t k leaf h c koid first seen count j now
  unfolding paired
  origin-of j now at = elim (with_key-cases _ c _ j now at) [
    | inl e ↦ from_child e.0 (sym e.1)
    | inr not_c ↦ elim (with_key-cases _ k _ j now not_c.1) [
      | inl e ↦ from_leaf e.0 (sym e.1)
      | inr not_k ↦ elim (with_key-cases _ h _ j now not_k.1) [
        | inl e ↦ from_hidden e.0 (sym e.1)
        | inr not_h ↦
            let was = relinked-was t.nodes leaf.parent k h j now not_h.1 in
            from_other was.0 was.1 not_k.0 was.2.koid was.2.list was.2.count
      ]
    ]
  ]

module _ (t : Tree) (in_use : ℕ → Bool) (exact : IsExact t all_in_sight in_use) (k : ℕ) (leaf : Node) (visible : IsVisible t.nodes k leaf) (h c : ℕ)
    (koid : Koid) (first seen count : ℕ) (no_h : t.nodes h ≡ None) (no_c : t.nodes c ≡ None) (apart : h ≢ c) (inside : seen ≤ count)
    (window : first + seen ≤ leaf.count) (g : IsForest (paired t.nodes k leaf h c t.lists koid first seen count) (t.lists + 2)) where
  abbrev middle : Tree
  middle = paired_tree t k leaf h c koid first seen count

  -- the tree after the snapshot
  abbrev pub after : Tree
  after = record {
    nodes = paired t.nodes k leaf h c t.lists koid first seen count;
    slots = split_slots t.slots leaf.list.0 first seen;
    lists = t.lists + 2;
  }

  alike : SameFrames t.slots after.slots
  alike = split-frames t.slots leaf.list.0 first seen

  leaf_views : Views middle h k Side.Left 0 leaf.count
  leaf_views = pair-views-leaf t exact.forest k leaf visible h c koid first seen count no_h no_c apart g exact.listed

  child_views : Views middle h c Side.Right first seen
  child_views = pair-views-child t exact.forest k leaf visible h c koid first seen count no_h no_c apart g exact.listed

  -- the rows that either sees
  own_walk : (i : ℕ) (s : Side) (from pages : ℕ) → Views middle h i s from pages → (p q : ℕ) → q ≡ from + p → (row : Slot) → p < pages →
      t.slots leaf.list.0 q ≡ Some row → walk middle i p ≡ Some (record { node = h; page = q; side = Some s; slot = row })
  own_walk i s from pages v p q page = pair-walk-own t exact.forest k leaf visible h c koid first seen count no_h no_c apart g i s from pages v p q page

  free_walk : (i : ℕ) (s : Side) (from pages : ℕ) → Views middle h i s from pages → (p q : ℕ) → q ≡ from + p → p < pages →
      t.slots leaf.list.0 q ≡ None → walk middle i p ≡ walk t k q
  free_walk i s from pages v p q page = pair-walk-free t exact.forest k leaf visible h c koid first seen count no_h no_c apart g i s from pages v p q page

  past_walk : (i : ℕ) (s : Side) (from pages : ℕ) → Views middle h i s from pages → (p : ℕ) → pages ≤ p → walk middle i p ≡ None
  past_walk = pair-walk-past t exact.forest k leaf visible h c koid first seen count no_h no_c apart g

  other_walk : (j p : ℕ) (node : Node) → t.nodes j ≡ Some node → j ≢ k → walk middle j p ≡ walk t j p
  other_walk j p node at other = pair-walk-other t exact.forest k leaf visible h c koid first seen count no_h no_c apart g j p (node, at, other)

  -- ---- who is visible

  no_node : (n : Node) → t.nodes h ≡ Some n → ⊥
  no_node n there = absurd (cc)

  no_koid : (n : Node) → n.koid ≡ None → IsSome n.koid → ⊥
  no_koid n hidden shown = let none = ap is_some hidden in absurd (cc)

  -- each visible node stays visible
  pub snapshot-stays : (w : ℕ) (node : Node) → IsVisible t.nodes w node → StaysVisible t.nodes after.nodes w node
  snapshot-stays w node shown = elim (cases_eq w k) [
    | inl same ↦
        let one : leaf ≡ node = some_same (sym visible.at ∙ (sym (ap t.nodes same) ∙ shown.at)) in
        record {
          after = below_hidden leaf h t.lists;
          at = ap after.nodes same ∙ leaf-at t exact.forest k leaf visible h c koid first seen count no_h no_c apart g;
          koid = ap (λ (n : Node). n.koid) one;
          count = ap (λ (n : Node). n.count) one;
        }
    | inr other ↦
        let b = relinked-stays t.nodes leaf.parent k h w node shown.at in
        record {
          after = b.0;
          at = other-at t exact.forest k leaf visible h c koid first seen count no_h no_c apart g w node shown.at other ∙ b.1;
          koid = b.2.koid;
          count = b.2.count;
        }
  ]

  -- the snapshot comes
  pub snapshot-comes : after.nodes c ≡ Some (snapshot_node koid h (t.lists + 1) first seen count)
  snapshot-comes = child-at t exact.forest k leaf visible h c koid first seen count no_h no_c apart g

  -- and no other visible node
  pub snapshot-no_more : (w : ℕ) (now : Node) → IsVisible after.nodes w now → w ≢ c → StaysVisible after.nodes t.nodes w now
  snapshot-no_more w now shown not_c = from_origin (origin-of t k leaf h c koid first seen count w now shown.at)
    where
      from_origin : Origin t k leaf h c koid first seen count w now → StaysVisible after.nodes t.nodes w now
      from_origin (from_hidden same is) = absurd (no_koid now (ap (λ (n : Node). n.koid) is) shown.koid)
      from_origin (from_leaf same is) = record {
        after = leaf;
        at = ap t.nodes same ∙ visible.at;
        koid = sym (ap (λ (n : Node). n.koid) is);
        count = sym (ap (λ (n : Node). n.count) is);
      }
      from_origin (from_child same is) = absurd (not_c same)
      from_origin (from_other node at other koid_is list_is count_is) = record { after = node; at = at; koid = sym koid_is; count = sym count_is }

  -- ---- rows above

  -- a walk that comes to a row from a side stays
  above_walk : (v p : ℕ) (from : Side) (x q : ℕ) (sees : Sees t v p (Some from) x q) → walk middle v p ≡ walk t v p
  above_walk v p from x q sees = elim (cases_eq v k) [
    | inr other ↦ other_walk v p sees.page.node sees.page.visible.at other
    | inl same ↦ with_row same (t.slots leaf.list.0 p) refl
  ]
    where
      with_row : v ≡ k → (o : Option Slot) → t.slots leaf.list.0 p ≡ o → walk middle v p ≡ walk t v p
      with_row same (Some row) e =
          let here : walk t v p ≡ Some (record { node = k; page = p; side = None; slot = row }) =
          ap (λ i. walk t i p) same ∙ walk-own t exact.forest k p leaf row visible.at e in
          let sides : Some from ≡ None = ap (λ (f : Found). f.side) (some_same (sym sees.found ∙ here)) in
          absurd (cc)
      with_row same None e =
          let count_is = ap (λ (n : Node). n.count) (some_same (sym sees.page.visible.at ∙ (ap t.nodes same ∙ visible.at))) in
          let below = sees.page.below in
          ap (λ i. walk middle i p) same
          ∙ (free_walk k Side.Left 0 leaf.count leaf_views p p (omega arith) (omega arith) e ∙ sym (ap (λ i. walk t i p) same))

  -- a row of a node that was there is seen from each side where it was
  above_forth : (from : Side) (x q : ℕ) → IsSeenFrom t all_in_sight from x q → IsSeenFrom middle all_in_sight from x q
  above_forth from x q = seen-moved t middle all_in_sight all_in_sight from x q (λ v p sees in_sight. record {
    page = stays-page t middle v p sees.page (snapshot-stays v sees.page.node sees.page.visible);
    same = above_walk v p from x q sees;
    in_sight = refl;
  })

  -- what the leaf or the snapshot sees above the hidden node, the leaf saw before
  view_back : (i : ℕ) (s : Side) (from pages : ℕ) → Views middle h i s from pages → from + pages ≤ leaf.count → (p : ℕ) (side : Side) (x r : ℕ) (slot : Slot) → x ≢ h →
      walk middle i p ≡ Some (record { node = x; page = r; side = Some side; slot = slot }) → IsSeenFrom t all_in_sight side x r
  view_back i s from pages views fits p side x r slot not_h found = elim (cases_lt p pages) [
    | inr past ↦ absurd (let none = past_walk i s from pages views p past in cc)
    | inl below ↦ with_row below (t.slots leaf.list.0 (from + p)) refl
  ]
    where
      with_row : p < pages → (o : Option Slot) → t.slots leaf.list.0 (from + p) ≡ o → IsSeenFrom t all_in_sight side x r
      with_row below (Some row) e =
          let there = own_walk i s from pages views p (from + p) refl row below e in
          absurd (not_h (ap (λ (f : Found). f.node) (some_same (sym found ∙ there))))
      with_row below None e = record {
        v = k;
        p = from + p;
        sees = record {
          page = record { node = leaf; visible = visible; below = omega arith };
          slot = slot;
          found = sym (free_walk i s from pages views p (from + p) refl below e) ∙ found;
        };
        in_sight = refl;
      }

  -- and nobody sees such a row who didn't before
  above_back : (from : Side) (x q : ℕ) → x ≢ h → IsSeenFrom middle all_in_sight from x q → IsSeenFrom t all_in_sight from x q
  above_back from x q not_h it = from_origin (origin-of t k leaf h c koid first seen count it.v it.sees.page.node it.sees.page.visible.at)
    where
      walked : (i : ℕ) → it.v ≡ i → walk middle i it.p ≡ Some (record { node = x; page = q; side = Some from; slot = it.sees.slot })
      walked i same = sym (ap (λ j. walk middle j it.p) same) ∙ it.sees.found

      from_origin : Origin t k leaf h c koid first seen count it.v it.sees.page.node → IsSeenFrom t all_in_sight from x q
      from_origin (from_hidden same is) = absurd (no_koid it.sees.page.node (ap (λ (n : Node). n.koid) is) it.sees.page.visible.koid)
      from_origin (from_leaf same is) = view_back k Side.Left 0 leaf.count leaf_views (omega arith) it.p from x q it.sees.slot not_h (walked k same)
      from_origin (from_child same is) = view_back c Side.Right first seen child_views window it.p from x q it.sees.slot not_h (walked c same)
      from_origin (from_other node at other koid_is list_is count_is) = record {
        v = it.v;
        p = it.p;
        sees = record {
          page = record {
            node = node;
            visible = record { at = at; koid = subst IsSome koid_is it.sees.page.visible.koid };
            below = let below = it.sees.page.below in omega arith;
          };
          slot = it.sees.slot;
          found = sym (other_walk it.v it.p node at other) ∙ it.sees.found;
        };
        in_sight = refl;
      }

  -- ---- rows of the hidden node

  -- nothing led to the hidden node before
  no_way : (j p : ℕ) (side : Side) (q : ℕ) → Reaches t j p side h q → ⊥
  no_way j p side q w = let above = reach-hidden t exact.forest j p side h q w in let there = above.1 in absurd (cc)

  -- who sees one from the right is the snapshot, in its window
  right_seen : (q : ℕ) → IsSeenFrom middle all_in_sight Side.Right h q → (first ≤ q) × (q < first + seen)
  right_seen q it = from_origin (origin-of t k leaf h c koid first seen count it.v it.sees.page.node it.sees.page.visible.at)
    where
      way : Reaches middle it.v it.p Side.Right h q
      way = (walk-ends middle g it.v it.p _ it.sees.found).way

      way_from : (i : ℕ) → it.v ≡ i → Reaches middle i it.p Side.Right h q
      way_from i same = subst (λ j. Reaches middle j it.p Side.Right h q) same way

      no_left : Side.Right ≡ Side.Left → ⊥
      no_left e = absurd (cc)

      from_leaf_way : ((h ≡ h) × (q ≡ it.p) × (Side.Right ≡ Side.Left)) ⊎ Reaches t k it.p Side.Right h q → (first ≤ q) × (q < first + seen)
      from_leaf_way (inl one) = absurd (no_left one.2)
      from_leaf_way (inr on) = absurd (no_way k it.p Side.Right q on)

      from_child_way : it.p < seen → ((h ≡ h) × (q ≡ first + it.p) × (Side.Right ≡ Side.Right)) ⊎ Reaches t k (first + it.p) Side.Right h q → (first ≤ q) × (q < first + seen)
      from_child_way below (inl one) = (omega (arith, one.1), omega (arith, one.1))
      from_child_way below (inr on) = absurd (no_way k (first + it.p) Side.Right q on)

      from_origin : Origin t k leaf h c koid first seen count it.v it.sees.page.node → (first ≤ q) × (q < first + seen)
      from_origin (from_hidden same is) = absurd (no_koid it.sees.page.node (ap (λ (n : Node). n.koid) is) it.sees.page.visible.koid)
      from_origin (from_leaf same is) = from_leaf_way (pair-reach-cases t exact.forest k leaf visible h c koid first seen count no_h no_c apart g
          k Side.Left 0 leaf.count leaf_views it.p it.p (omega arith) Side.Right h q (way_from k same)).1
      from_origin (from_child same is) =
          let cases = pair-reach-cases t exact.forest k leaf visible h c koid first seen count no_h no_c apart g
          c Side.Right first seen child_views it.p (first + it.p) refl Side.Right h q (way_from c same) in
          from_child_way cases.0 cases.1
      from_origin (from_other node at other koid_is list_is count_is) = absurd (no_way it.v it.p Side.Right q
          (pair-reach-other-back t exact.forest k leaf visible h c koid first seen count no_h no_c apart g it.v it.p Side.Right h q (node, at, other) way))

  -- the leaf sees each from the left
  left_sees : (q : ℕ) (row : Slot) → t.slots leaf.list.0 q ≡ Some row → IsSeenFrom middle all_in_sight Side.Left h q
  left_sees q row e =
      let below = exact.below k q leaf row visible e in
      record {
        v = k;
        p = q;
        sees = record {
          page = stays-page t middle k q (record { node = leaf; visible = visible; below = below }) (snapshot-stays k leaf visible);
          slot = row;
          found = own_walk k Side.Left 0 leaf.count leaf_views q q (omega arith) row below e;
        };
        in_sight = refl;
      }

  -- and the snapshot those in its window from the right
  right_sees : (q : ℕ) (row : Slot) → t.slots leaf.list.0 q ≡ Some row → first ≤ q → q < first + seen → IsSeenFrom middle all_in_sight Side.Right h q
  right_sees q row e from to = record {
    v = c;
    p = q - first;
    sees = record {
      page = record {
        node = snapshot_node koid h (t.lists + 1) first seen count;
        visible = record { at = snapshot-comes; koid = refl };
        below = omega arith;
      };
      slot = row;
      found = own_walk c Side.Right first seen child_views (q - first) q (omega arith) row (omega arith) e;
    };
    in_sight = refl;
  }

  -- ---- exactness

  -- the two trees after the snapshot differ in bits alone
  bits_forth : (side : Side) (x q : ℕ) → IsSeenFrom middle all_in_sight side x q → IsSeenFrom after all_in_sight side x q
  bits_forth = seen-alike middle after.slots alike g all_in_sight

  bits_back : (side : Side) (x q : ℕ) → IsSeenFrom after all_in_sight side x q → IsSeenFrom middle all_in_sight side x q
  bits_back = seen-alike after t.slots (frames-back alike) g all_in_sight

  -- rows of nodes that were there are seen from each side where they were
  seen_same : (side : Side) (x q : ℕ) → x ≢ h → IsSeenFrom t all_in_sight side x q ↔ IsSeenFrom after all_in_sight side x q
  seen_same side x q not_h = (
    λ it. bits_forth side x q (above_forth side x q it),
    λ it. above_back side x q not_h (bits_back side x q it),
  )

  -- the bits of a row of the hidden node
  own_bits : (q : ℕ) (left right : Bool) (row : Slot) → t.slots leaf.list.0 q ≡ Some row → left ≡ false → right ≡ not (is_taken_in first seen q) →
      AreSplitBits after all_in_sight h q left right
  own_bits q left right row e left_is right_is = record {
    left_bit = record { is_true = λ on. absurd (cc); is_false = λ off. bits_forth Side.Left h q (left_sees q row e) };
    right_bit = record {
      is_true = λ on it.
          let range = right_seen q (bits_back Side.Right h q it) in
          let none = not-true (is_taken_in first seen q) (sym right_is ∙ on) in
          both_ways (is_taken_in first seen q) none (and_from (nat_le first q) (nat_lt q (first + seen)) (le-leb first q range.0) (lt-ltb q (first + seen) range.1));
      is_false = λ off.
          let range = and_parts (nat_le first q) (nat_lt q (first + seen)) (not-false (is_taken_in first seen q) (sym right_is ∙ off)) in
          bits_forth Side.Right h q (right_sees q row e (leb-true first q range.0) (ltb-true q (first + seen) range.1));
    };
    is_seen = rw left_is refl;
  }

  -- a node that was there, other than the leaf, has the rows that it had
  other_rows : (j q : ℕ) (node now : Node) → t.nodes j ≡ Some node → j ≢ k → now.list ≡ node.list → after.slots now.list.0 q ≡ t.slots node.list.0 q
  other_rows j q node now at other list_is =
      ap (λ (l : ListId). after.slots l.0 q) list_is
      ∙ split-other t.slots leaf.list.0 first seen node.list.0 q (λ same. other (exact.forest.by.own j k node leaf at visible.at same))

  -- a list that was not given yet has no rows
  fresh : (l q : ℕ) (row : Slot) → t.lists ≤ l → after.slots l q ≡ Some row → ⊥
  fresh l q row new e =
      let was = some-alike (frames-back alike) l q row e in
      let none = rows-fresh t exact.forest exact.listed l q new in
      let there = was.1 in
      absurd (cc)

  -- With the bits of the hidden node's rows set by the window of the snapshot, the tree stays exact.
  pub exact-snapshot : IsExact after all_in_sight in_use
  exact-snapshot = record {
    forest = g;
    listed = record {
      listed = λ l p row e.
          let was = some-alike (frames-back alike) l p row e in
          (pair-listed t exact.forest k leaf visible h c koid first seen count no_h no_c apart g exact.listed).listed l p was.0 was.1;
    };
    below = λ v p now row shown e. below v p now row shown e (origin-of t k leaf h c koid first seen count v now shown.at);
    plain = λ v p now tag left right shown e. plain v p now tag left right shown e (origin-of t k leaf h c koid first seen count v now shown.at);
    stands = λ tag e.
        let it = exact.stands tag e in
        let now = some-alike alike it.l it.q it.row it.at in
        record { l = it.l; q = it.q; row = now.0; at = now.1; frame = now.2 ∙ it.frame };
    used = λ l q row tag e frame.
        let was = some-alike (frames-back alike) l q row e in
        exact.used l q was.0 tag was.1 (was.2 ∙ frame);
    once = λ l q m r tag row other e f one two.
        let was = some-alike (frames-back alike) l q row e in
        let had = some-alike (frames-back alike) m r other f in
        exact.once l q m r tag was.0 had.0 was.1 had.1 (was.2 ∙ one) (had.2 ∙ two);
    bits = λ x q now tag left right at hidden e. bits x q now tag left right at hidden e (origin-of t k leaf h c koid first seen count x now at);
  }
    where
      below : (v p : ℕ) (now : Node) (row : Slot) → IsVisible after.nodes v now → after.slots now.list.0 p ≡ Some row →
          Origin t k leaf h c koid first seen count v now → p < now.count
      below v p now row shown e (from_hidden same is) = absurd (no_koid now (ap (λ (n : Node). n.koid) is) shown.koid)
      below v p now row shown e (from_leaf same is) = absurd (fresh now.list.0 p row (let list = ap (λ (n : Node). n.list.0) is in omega arith) e)
      below v p now row shown e (from_child same is) = absurd (fresh now.list.0 p row (let list = ap (λ (n : Node). n.list.0) is in omega arith) e)
      below v p now row shown e (from_other node at other koid_is list_is count_is) =
          let bound = exact.below v p node row (record { at = at; koid = subst IsSome koid_is shown.koid }) (sym (other_rows v p node now at other list_is) ∙ e) in
          omega arith

      plain : (v p : ℕ) (now : Node) (tag : Tag) (left right : Bool) → IsVisible after.nodes v now → after.slots now.list.0 p ≡ Some (Slot.Frame tag left right) →
          Origin t k leaf h c koid first seen count v now → (left ≡ false) × (right ≡ false)
      plain v p now tag left right shown e (from_hidden same is) = absurd (no_koid now (ap (λ (n : Node). n.koid) is) shown.koid)
      plain v p now tag left right shown e (from_leaf same is) =
          absurd (fresh now.list.0 p (Slot.Frame tag left right) (let list = ap (λ (n : Node). n.list.0) is in omega arith) e)
      plain v p now tag left right shown e (from_child same is) =
          absurd (fresh now.list.0 p (Slot.Frame tag left right) (let list = ap (λ (n : Node). n.list.0) is in omega arith) e)
      plain v p now tag left right shown e (from_other node at other koid_is list_is count_is) =
          exact.plain v p node tag left right (record { at = at; koid = subst IsSome koid_is shown.koid }) (sym (other_rows v p node now at other list_is) ∙ e)

      no_visible : (n : Node) (a : Koid) → n.koid ≡ Some a → n.koid ≡ None → ⊥
      no_visible n a shown hidden = absurd (cc)

      bits : (x q : ℕ) (now : Node) (tag : Tag) (left right : Bool) → after.nodes x ≡ Some now → now.koid ≡ None →
          after.slots now.list.0 q ≡ Some (Slot.Frame tag left right) → Origin t k leaf h c koid first seen count x now → AreSplitBits after all_in_sight x q left right
      bits x q now tag left right at hidden e (from_hidden same is) =
          let own = split-bits t.slots leaf.list.0 first seen q tag left right (sym (ap (λ (n : Node). after.slots n.list.0 q) is) ∙ e) in
          subst (λ i. AreSplitBits after all_in_sight i q left right) (sym same) (own_bits q left right own.0 own.1 own.2 own.3)
      bits x q now tag left right at hidden e (from_leaf same is) =
          absurd (no_koid leaf (sym (ap (λ (n : Node). n.koid) is) ∙ hidden) visible.koid)
      bits x q now tag left right at hidden e (from_child same is) = absurd (no_visible now koid (ap (λ (n : Node). n.koid) is) hidden)
      bits x q now tag left right at hidden e (from_other node was_at other koid_is list_is count_is) =
          let was = exact.bits x q node tag left right was_at (sym koid_is ∙ hidden) (sym (other_rows x q node now was_at other list_is) ∙ e) in
          let not_h = λ (same : x ≡ h). no_node node (sym (ap t.nodes same) ∙ was_at) in
          record {
            left_bit = denies-alike left _ _ (seen_same Side.Left x q not_h) was.left_bit;
            right_bit = denies-alike right _ _ (seen_same Side.Right x q not_h) was.right_bit;
            is_seen = was.is_seen;
          }

  -- ---- what is shown

  -- each VMO shows what it showed
  pub snapshot-shows : (w p : ℕ) → IsPage t w p → frame_shown after w p ≡ frame_shown t w p
  snapshot-shows w p page = frame-alike middle after.slots alike g w p ∙ elim (cases_eq w k) [
    | inr other ↦ ap frame_found (other_walk w p page.node page.visible.at other)
    | inl same ↦
        let one : page.node ≡ leaf = some_same (sym page.visible.at ∙ (ap t.nodes same ∙ visible.at)) in
        let count_is = ap (λ (n : Node). n.count) one in
        let page_below = page.below in
        ap (λ i. frame_shown middle i p) same
        ∙ (pair-frame t exact.forest k leaf visible h c koid first seen count no_h no_c apart g k Side.Left 0 leaf.count leaf_views p p (omega arith) (omega arith)
        ∙ sym (ap (λ i. frame_shown t i p) same))
  ]

  -- and the snapshot what the VMO showed in the window
  pub snapshot-child : (p : ℕ) → p < seen → frame_shown after c p ≡ frame_shown t k (first + p)
  snapshot-child p below =
      frame-alike middle after.slots alike g c p
      ∙ pair-frame t exact.forest k leaf visible h c koid first seen count no_h no_c apart g c Side.Right first seen child_views p (first + p) refl below

  -- its other pages are zero
  pub snapshot-child_past : (p : ℕ) → seen ≤ p → frame_shown after c p ≡ None
  snapshot-child_past p past = frame-alike middle after.slots alike g c p ∙ ap frame_found (past_walk c Side.Right first seen child_views p past)
