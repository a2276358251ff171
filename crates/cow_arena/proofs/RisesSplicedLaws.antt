-- The ways upwards after a leaf went with its parent, whose rows may have moved into the other child.
use Rattle.cow_arena.proofs.Words.{◌≡◌, ◌≢◌, ℕ, ◌+◌, ◌-◌, ◌<◌, ◌≤◌, ◌⊎◌, Option, None, Some, inl, inr, refl, sym, ap, ◌∙◌, subst, arith}
use Rattle.cow_arena.proofs.Words.{cases_eq, some_same, Slot, Node, Side, IsVisible, link_to, side_in, AreFamily, Tree, Slots, IsForest}
use Rattle.cow_arena.proofs.Words.{spliced, renamed, renamed_node, Climbs, Reaches, IsPageAbove, Rises, KeepsBelow, with_pair}
use Rattle.cow_arena.proofs.WalkLaws.{link_same, climbs-bare}
use Rattle.cow_arena.proofs.ReachLaws.{reach-one, reach-more, reach-each, reach-cases}
use Rattle.cow_arena.proofs.MovedLaws.{page-moved, climbs-moved}
use Rattle.cow_arena.proofs.AlikeLaws.{with_pair-same, with_pair-other}
use Rattle.cow_arena.proofs.RenamedLaws.{renamed-at, side-renamed}
use Rattle.cow_arena.proofs.RisesLaws.{rises-moved}
use Rattle.cow_arena.proofs.SpliceWalkLaws.{family-parent, above_parent, above_other, splice-same, lifted_side, lifted-page, lifted-climbs}

-- Node k, a leaf, and its parent h are gone, and s, the other child, is in the parent's place. The rows were those of t, and are these.
module _ (t : Tree) (f : IsForest t.nodes t.lists) (k h s : ℕ) (leaf parent sibling : Node) (family : AreFamily t.nodes k h s leaf parent sibling)
    (visible : IsVisible t.nodes k leaf) (slots : Slots) (keeps : KeepsBelow t.slots slots parent sibling) (empty : (p : ℕ) → slots parent.list.0 p ≡ None)
    (g : IsForest (spliced t.nodes k h s parent sibling) t.lists) where
  -- the old nodes with the new rows
  abbrev mid : Tree
  mid = record { nodes = t.nodes; slots = slots; lists = t.lists }

  abbrev last : Tree
  last = record { nodes = spliced t.nodes k h s parent sibling; slots = slots; lists = t.lists }

  -- a step with the new rows
  step-mid : (j p x q : ℕ) (node : Node) → t.nodes j ≡ Some node → slots node.list.0 p ≡ None → Climbs t j p x q → Climbs mid j p x q
  step-mid j p x q node at free c = climbs-bare slots c (ap (λ (n : Node). slots n.list.0 p) (some_same (sym c.at ∙ at)) ∙ free)

  up : sibling.parent ≡ link_to h
  up = family-parent t.nodes t.lists f k h s leaf parent sibling family

  -- a step from the sibling leads to the parent
  from-sibling : (p x q : ℕ) → Climbs t s p x q → (x ≡ h) × (q ≡ sibling.first + p) × (p < sibling.seen)
  from-sibling p x q c =
      let one : c.node ≡ sibling = some_same (sym c.at ∙ family.sibling_at) in
      let first = ap (λ (n : Node). n.first) one in
      let seen = ap (λ (n : Node). n.seen) one in
      let page = c.page in
      let inside = c.inside in
      (link_same (sym c.parent ∙ (ap (λ (n : Node). n.parent) one ∙ up)), omega arith, omega arith)

  -- where a way goes on past the parent, no row is met
  free-there : (j p : ℕ) (side : Side) (x q : ℕ) (node : Node) → Reaches t j p side x q → t.nodes j ≡ Some node → t.slots node.list.0 p ≡ None
  free-there j p side x q node way at = elim (reach-cases t j p side x q way) [
    | inl one ↦ ap (λ (n : Node). t.slots n.list.0 p) (some_same (sym at ∙ one.0.at)) ∙ one.0.free
    | inr on ↦ ap (λ (n : Node). t.slots n.list.0 p) (some_same (sym at ∙ on.2.at)) ∙ on.2.free
  ]

  -- a page from which a way went on has no row now
  bare-now : (j p : ℕ) (side : Side) (x q : ℕ) (node : Node) → Reaches t j p side x q → x ≢ h → t.nodes j ≡ Some node → slots node.list.0 p ≡ None
  bare-now j p side x q node way x_h at = elim (cases_eq j s) [
    | inl same ↦
        let one : node ≡ sibling = some_same (sym at ∙ (ap t.nodes same ∙ family.sibling_at)) in
        let from : Reaches t s p side x q = subst (λ i. Reaches t i p side x q) same way in
        subst (λ (n : Node). slots n.list.0 p ≡ None) (sym one) (keeps.child p (free-there s p side x q sibling from family.sibling_at) (parent-free from))
    | inr apart ↦
        keeps.others node.list.0 p (λ list. apart (f.by.own j s node sibling at family.sibling_at list)) (free-there j p side x q node way at)
  ]
    where
      parent-free : Reaches t s p side x q → t.slots parent.list.0 (sibling.first + p) ≡ None
      parent-free from = elim (reach-cases t s p side x q from) [
        | inl one ↦ absurd (x_h (from-sibling p x q one.0).0)
        | inr on ↦
            let here = from-sibling p on.0 on.1 on.2 in
            subst (λ r. t.slots parent.list.0 r ≡ None) here.1
            (free-there h on.1 side x q parent (subst (λ i. Reaches t i on.1 side x q) here.0 on.3) family.parent_at)
      ]

  -- a step from the parent, whose list has no rows, is one with the new rows too
  up-mid : (p x q : ℕ) → Climbs t h p x q → Climbs mid h p x q
  up-mid p x q c = step-mid h p x q parent family.parent_at (empty p) c

  side-up : side_in last.nodes s ≡ side_in t.nodes h
  side-up = lifted_side mid f k h s leaf parent sibling family visible empty g

  module _ (side : Side) (x q : ℕ) (x_h : x ≢ h) where
    -- what a way says after the change: of a node that stays, and of the parent, in whose place the sibling is
    abbrev Stays : ℕ → ℕ → Type 0
    Stays j p = ((node : Node) → t.nodes j ≡ Some node → j ≢ k → j ≢ h → slots node.list.0 p ≡ None → Reaches last j p side x q)
        × (j ≡ h → (r : ℕ) → p ≡ sibling.first + r → r < sibling.seen → slots sibling.list.0 r ≡ None → Reaches last s r side x q)

    -- the node above one that stays, and is no sibling, stays
    on-other : (j p i r : ℕ) (node : Node) → t.nodes j ≡ Some node → j ≢ k → j ≢ s → Climbs t j p i r →
        (above : Node) × (t.nodes i ≡ Some above) × (i ≢ k) × (i ≢ h)
    on-other j p i r node at j_k j_s c = above_other mid f k h s leaf parent sibling family visible empty g j i c.node c.at c.parent j_k j_s

    on-parent : (p i r : ℕ) → Climbs t h p i r → (above : Node) × (t.nodes i ≡ Some above) × (i ≢ k) × (i ≢ h)
    on-parent p i r c =
        (above_parent mid f k h s leaf parent sibling family visible empty g i
        (sym (ap (λ (n : Node). n.parent) (some_same (sym c.at ∙ family.parent_at))) ∙ c.parent)).0

    step-last : (j p i r : ℕ) (node : Node) → t.nodes j ≡ Some node → j ≢ k → j ≢ h → j ≢ s → slots node.list.0 p ≡ None → Climbs t j p i r → Climbs last j p i r
    step-last j p i r node at j_k j_h j_s free c =
        climbs-moved mid last j j (splice-same mid f k h s leaf parent sibling family visible empty g j (node, at, j_k, j_h) j_s) p i r (step-mid j p i r node at free c)

    one-step : (j p : ℕ) → Climbs t j p x q → side_in t.nodes j ≡ Some side → Stays j p
    one-step j p c is = (
      λ node at j_k j_h free. elim (cases_eq j s) [
        | inl same ↦ absurd (x_h (from-sibling p x q (subst (λ i. Climbs t i p x q) same c)).0)
        | inr j_s ↦
            let moved = splice-same mid f k h s leaf parent sibling family visible empty g j (node, at, j_k, j_h) j_s in
            reach-one last j p side x q (step-last j p x q node at j_k j_h j_s free c) (moved.side ∙ is)
      ],
      λ same r page inside free.
          let from : Climbs t h (sibling.first + r) x q = subst (λ y. Climbs t h y x q) page (subst (λ i. Climbs t i p x q) same c) in
          reach-one last s r side x q (lifted-climbs mid f k h s leaf parent sibling family visible empty g r x q free inside (up-mid (sibling.first + r) x q from))
          (side-up ∙ (ap (side_in t.nodes) (sym same) ∙ is)),
    )

    more-steps : (j p i r : ℕ) → Climbs t j p i r → Reaches t i r side x q → Stays i r → Stays j p
    more-steps j p i r c way ih = (
      λ node at j_k j_h free. elim (cases_eq j s) [
        | inl same ↦
            let here = from-sibling p i r (subst (λ y. Climbs t y p i r) same c) in
            let one : node ≡ sibling = some_same (sym at ∙ (ap t.nodes same ∙ family.sibling_at)) in
            subst (λ y. Reaches last y p side x q) (sym same)
            (ih.1 here.0 p here.1 here.2 (subst (λ (n : Node). slots n.list.0 p ≡ None) one free))
        | inr j_s ↦
            let above = on-other j p i r node at j_k j_s c in
            reach-more last j p i r side x q (step-last j p i r node at j_k j_h j_s free c)
            (ih.0 above.0 above.1 above.2 above.3 (bare-now i r side x q above.0 way x_h above.1))
      ],
      λ same r0 page inside free.
          let from : Climbs t h (sibling.first + r0) i r = subst (λ y. Climbs t h y i r) page (subst (λ y. Climbs t y p i r) same c) in
          let above = on-parent (sibling.first + r0) i r from in
          reach-more last s r0 i r side x q
          (lifted-climbs mid f k h s leaf parent sibling family visible empty g r0 i r free inside (up-mid (sibling.first + r0) i r from))
          (ih.0 above.0 above.1 above.2 above.3 (bare-now i r side x q above.0 way x_h above.1)),
    )

    reach-spliced : (j p : ℕ) → Reaches t j p side x q → Stays j p
    reach-spliced = reach-each t side x q Stays one-step more-steps

    reach-on : (i r : ℕ) (above : Node) → t.nodes i ≡ Some above → i ≢ k → i ≢ h → Reaches t i r side x q → Reaches last i r side x q
    reach-on i r above at i_k i_h way = (reach-spliced i r way).0 above at i_k i_h (bare-now i r side x q above way x_h at)

    -- a page that rose past the parent rises there still, from the sibling too
    pub rises-spliced : (j p : ℕ) → j ≢ k → j ≢ h → Rises t j p side x q → Rises last j p side x q
    rises-spliced j p j_k j_h rises = elim (cases_eq j s) [
      | inl same ↦
          let step : IsPageAbove t s p rises.j rises.r = subst (λ i. IsPageAbove t i p rises.j rises.r) same rises.step in
          let one : step.node ≡ sibling = some_same (sym step.at ∙ family.sibling_at) in
          let first = ap (λ (n : Node). n.first) one in
          let seen = ap (λ (n : Node). n.seen) one in
          let inside = step.inside in
          let page = step.page in
          subst (λ i. Rises last i p side x q) (sym same)
          (past (link_same (sym step.parent ∙ (ap (λ (n : Node). n.parent) one ∙ up))) (omega arith) (omega arith) rises.further)
      | inr j_s ↦
          let moved = splice-same mid f k h s leaf parent sibling family visible empty g j (rises.step.node, rises.step.at, j_k, j_h) j_s in
          let above = above_other mid f k h s leaf parent sibling family visible empty g j rises.j rises.step.node rises.step.at rises.step.parent j_k j_s in
          record {
            j = rises.j;
            r = rises.r;
            step = page-moved mid last j j p rises.j rises.r moved (record {
              node = rises.step.node;
              at = rises.step.at;
              inside = rises.step.inside;
              parent = rises.step.parent;
              page = rises.step.page;
            });
            further = elim rises.further [
              | inl here ↦ inl (here.0, here.1, moved.side ∙ here.2)
              | inr way ↦ inr (reach-on rises.j rises.r above.0 above.1 above.2 above.3 way)
            ];
          }
    ]
      where
        past : rises.j ≡ h → rises.r ≡ sibling.first + p → p < sibling.seen →
            ((rises.j ≡ x) × (rises.r ≡ q) × (side_in t.nodes j ≡ Some side)) ⊎ Reaches t rises.j rises.r side x q → Rises last s p side x q
        past at page inside (inl here) = absurd (x_h (sym here.0 ∙ at))
        past at page inside (inr way) =
            let from : Reaches t h (sibling.first + p) side x q = subst (λ y. Reaches t h y side x q) page (subst (λ i. Reaches t i rises.r side x q) at way) in
            elim (reach-cases t h (sibling.first + p) side x q from) [
              | inl one ↦ record {
                j = x;
                r = q;
                step = lifted-page mid f k h s leaf parent sibling family visible empty g p x q inside (up-mid (sibling.first + p) x q one.0);
                further = inl (refl, refl, side-up ∙ one.1);
              }
              | inr on ↦
                  let above = on-parent (sibling.first + p) on.0 on.1 on.2 in
                  record {
                    j = on.0;
                    r = on.1;
                    step = lifted-page mid f k h s leaf parent sibling family visible empty g p on.0 on.1 inside (up-mid (sibling.first + p) on.0 on.1 on.2);
                    further = inr (reach-on on.0 on.1 above.0 above.1 above.2 above.3 on.3);
                  }
            ]

-- ---- other list numbers

module _ (name : ℕ → ℕ) (twice : (l : ℕ) → name (name l) ≡ l) (t : Tree) where
  climbs-renamed : (k p h q : ℕ) → Climbs t k p h q → Climbs (renamed name t) k p h q
  climbs-renamed k p h q c = record {
    node = renamed_node name c.node;
    at = renamed-at name t.nodes k c.node c.at;
    free = ap (λ l. t.slots l p) (twice c.node.list.0) ∙ c.free;
    inside = c.inside;
    parent = c.parent;
    page = c.page;
  }

  reach-renamed : (k p : ℕ) (side : Side) (h q : ℕ) → Reaches t k p side h q → Reaches (renamed name t) k p side h q
  reach-renamed k p side h q = reach-each t side h q (λ k p. Reaches (renamed name t) k p side h q)
      (λ k p c is. reach-one (renamed name t) k p side h q (climbs-renamed k p h q c) (side-renamed name t.nodes k ∙ is))
      (λ k p j r c _ ih. reach-more (renamed name t) k p j r side h q (climbs-renamed k p j r c) ih) k p

  -- a page rises as before
  pub rises-renamed : (k p : ℕ) (side : Side) (h q : ℕ) → Rises t k p side h q → Rises (renamed name t) k p side h q
  rises-renamed k p side h q = rises-moved t (renamed name t) k k p side h q
      (λ j r step. record {
        node = renamed_node name step.node;
        at = renamed-at name t.nodes k step.node step.at;
        inside = step.inside;
        parent = step.parent;
        page = step.page;
      })
      (side-renamed name t.nodes k) (λ j r step way. reach-renamed j r side h q way)

-- ---- rows that move below

-- nothing changes
pub below-same : (slots : Slots) (parent sibling : Node) → KeepsBelow slots slots parent sibling
below-same slots parent sibling = record { others = λ l q apart none. none; child = λ p none above. none }

pub below-then : (old between new : Slots) (parent sibling : Node) → parent.list.0 ≢ sibling.list.0 → KeepsBelow old between parent sibling →
    KeepsBelow between new parent sibling → KeepsBelow old new parent sibling
below-then old between new parent sibling apart first second = record {
  others = λ l q other none. second.others l q other (first.others l q other none);
  child = λ p none above. second.child p (first.child p none above) (first.others parent.list.0 (sibling.first + p) apart above);
}

-- no page without a row gets one
pub below-fewer : (old new : Slots) (parent sibling : Node) → ((l q : ℕ) → old l q ≡ None → new l q ≡ None) → KeepsBelow old new parent sibling
below-fewer old new parent sibling bare = record { others = λ l q apart none. bare l q none; child = λ p none above. bare sibling.list.0 p none }

-- a row of the parent goes
pub below-gone : (slots : Slots) (parent sibling : Node) (q : ℕ) → KeepsBelow slots (with_pair slots parent.list.0 q None) parent sibling
below-gone slots parent sibling q = below-fewer slots (with_pair slots parent.list.0 q None) parent sibling (λ l p none. elim (cases_eq l parent.list.0) [
  | inr list ↦ with_pair-other slots parent.list.0 q None l p (λ same page. list same) ∙ none
  | inl list ↦ elim (cases_eq p q) [
    | inr page ↦ with_pair-other slots parent.list.0 q None l p (λ same there. page there) ∙ none
    | inl page ↦
        ap (λ i. with_pair slots parent.list.0 q None i p) list
        ∙ (ap (with_pair slots parent.list.0 q None parent.list.0) page ∙ with_pair-same slots parent.list.0 q None)
  ]
])

-- a row moves that the parent had
pub below-moved : (old mid : Slots) (parent sibling : Node) (q : ℕ) (row : Slot) (now : Option Slot) → old parent.list.0 q ≡ Some row → sibling.first ≤ q →
    KeepsBelow old mid parent sibling → KeepsBelow old (with_pair mid sibling.list.0 (q - sibling.first) now) parent sibling
below-moved old mid parent sibling q row now has from keeps = record {
  others = λ l p other none.
      with_pair-other mid sibling.list.0 (q - sibling.first) now l p (λ list page. other list) ∙ keeps.others l p other none;
  child = λ p none above. elim (cases_eq p (q - sibling.first)) [
    | inl here ↦
        let page : sibling.first + p ≡ q = omega arith in
        absurd (let nothing = ap (old parent.list.0) (sym page) ∙ above in cc)
    | inr apart ↦ with_pair-other mid sibling.list.0 (q - sibling.first) now sibling.list.0 p (λ list page. apart page) ∙ keeps.child p none above
  ];
}
