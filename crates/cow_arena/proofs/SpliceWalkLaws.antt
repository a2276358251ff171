-- Walks after a node went: a leaf with its parent, whose other child takes the parent's place, or a root.
use Rattle.cow_arena.proofs.Words.{◌≡◌, ◌≢◌, ℕ, ◌+◌, ◌-◌, min, ◌<◌, Option, None, Some, ◌⊎◌, inl, inr, refl, sym, ap, ◌∙◌, subst, arith}
use Rattle.cow_arena.proofs.Words.{IsSome, cases_eq, without_key, eqb_apart, some_same, with_key-same, with_key-other, without_key-other}
use Rattle.cow_arena.proofs.Words.{ListId, Slot, NodeId, Node, Side, Nodes, IsVisible, link_to, child_on, other_side, side_of, side_in}
use Rattle.cow_arena.proofs.Words.{AreFamily, Tree, Slots, from_side, walk, IsForest, IsListed, HasListedRows, relinked, lifted, spliced}
use Rattle.cow_arena.proofs.Words.{Climbs, IsPageAbove, absent_node, own_row, past_window, on_upwards}
use Rattle.cow_arena.proofs.WalkLaws.{link_same, climb_below, rank-each, begins, walk-row, walk-past, walk-climbs}
use Rattle.cow_arena.proofs.ReachLaws.{side-is, side-of-parent, child-there, climb-side, from_side-twice, hidden-apart}
use Rattle.cow_arena.proofs.MovedLaws.{SameStep, IsChangeOf, walk-stays, same-side, step-same}
use Rattle.cow_arena.proofs.RelinkLaws.{relinked-stays, relinked-here}

-- ---- a family

module _ (nodes : Nodes) (lists : ℕ) (f : IsForest nodes lists) (k h s : ℕ) (leaf parent sibling : Node) (family : AreFamily nodes k h s leaf parent sibling) where
  -- the side of the node, and of its sibling
  pub family-side : (child_on parent (side_of parent k) ≡ link_to k) × (child_on parent (other_side (side_of parent k)) ≡ link_to s)
  family-side =
      let is = side-of-parent nodes lists f h k leaf family.at family.parent_is in
      let above : is.0 ≡ parent = some_same (sym is.2 ∙ family.parent_at) in
      let side = some_same (sym is.4 ∙ side-is nodes lists f h k parent leaf family.parent_at family.at family.parent_is) in
      (ap (child_on parent) (sym side) ∙ (ap (λ (n : Node). child_on n is.1) (sym above) ∙ is.3), rw (family.at, family.parent_is, family.parent_at) at family.sibling_is)

  -- the children of the parent are these two alone
  pub family-both : (j : ℕ) (node : Node) → nodes j ≡ Some node → node.parent ≡ link_to h → (j ≡ k) ⊎ (j ≡ s)
  family-both j node at up =
      let is = side-of-parent nodes lists f h j node at up in
      let above : is.0 ≡ parent = some_same (sym is.2 ∙ family.parent_at) in
      which is.1 (side_of parent k) (ap (λ (n : Node). child_on n is.1) (sym above) ∙ is.3) family-side
    where
      which : (a b : Side) → child_on parent a ≡ link_to j → (child_on parent b ≡ link_to k) × (child_on parent (other_side b) ≡ link_to s) → (j ≡ k) ⊎ (j ≡ s)
      which Side.Left Side.Left e both = inl (link_same (sym e ∙ both.0))
      which Side.Left Side.Right e both = inr (link_same (sym e ∙ both.1))
      which Side.Right Side.Left e both = inr (link_same (sym e ∙ both.1))
      which Side.Right Side.Right e both = inl (link_same (sym e ∙ both.0))

  -- the sibling has the same parent
  pub family-parent : sibling.parent ≡ link_to h
  family-parent =
      let is = child-there nodes lists f h s parent (other_side (side_of parent k)) family.parent_at family-side.1 in
      ap (λ (n : Node). n.parent) (some_same (sym family.sibling_at ∙ is.at)) ∙ is.parent

-- a row stands in no list without rows
pub rowless : (nodes : Nodes) (slots : Slots) (n i l p : ℕ) (a b : Node) (slot : Slot) → i ≡ n → nodes i ≡ Some a → nodes n ≡ Some b →
    ((p : ℕ) → slots b.list.0 p ≡ None) → a.list.0 ≡ l → slots l p ≡ Some slot → ⊥
rowless nodes slots n i l p a b slot same at there none named e =
    let list = sym (ap (λ (x : Node). x.list.0) (some_same (sym at ∙ (ap nodes same ∙ there)))) ∙ named in
    absurd (let free = sym (ap (λ m. slots m p) list) ∙ none p in cc)

-- ---- a leaf goes with its parent

module _ (t : Tree) (f : IsForest t.nodes t.lists) (k h s : ℕ) (leaf parent sibling : Node) (family : AreFamily t.nodes k h s leaf parent sibling)
    (visible : IsVisible t.nodes k leaf) (empty : (p : ℕ) → t.slots parent.list.0 p ≡ None) (g : IsForest (spliced t.nodes k h s parent sibling) t.lists) where
  abbrev pub after : Tree
  after = record t { nodes = spliced t.nodes k h s parent sibling }

  -- a node that stays
  abbrev pub IsOther : ℕ → Type 0
  IsOther j = (node : Node) × (t.nodes j ≡ Some node) × (j ≢ k) × (j ≢ h)

  pub sibling_at : after.nodes s ≡ Some (lifted parent sibling)
  unfolding spliced
  sibling_at = with_key-same _ s _

  other_at : (j : ℕ) → j ≢ k → j ≢ h → j ≢ s → after.nodes j ≡ relinked t.nodes parent.parent h s j
  unfolding spliced
  other_at j j_k j_h j_s = with_key-other _ s _ j j_s ∙ (without_key-other _ k j j_k ∙ without_key-other _ h j j_h)

  -- what is further up than the parent stays, and is no sibling
  pub above_parent : (x : ℕ) → parent.parent ≡ link_to x → IsOther x × (x ≢ s)
  above_parent x up =
      let below = f.by.below x h parent family.parent_at up in
      let deeper = below.deeper in
      let sibling_deeper = (f.by.below h s sibling family.sibling_at (family-parent t.nodes t.lists f k h s leaf parent sibling family)).deeper in (
        (below.above, below.at, hidden-apart t f x k below.above leaf below.at below.hidden visible, λ same. let r = ap f.rank same in absurd (omega arith)),
        λ same. let r = ap f.rank same in absurd (omega arith),
      )

  -- so is the parent of a node that stays and is no sibling
  pub above_other : (j x : ℕ) (node : Node) → t.nodes j ≡ Some node → node.parent ≡ link_to x → j ≢ k → j ≢ s → IsOther x
  above_other j x node at up j_k j_s =
      let below = f.by.below x j node at up in (
        below.above,
        below.at,
        hidden-apart t f x k below.above leaf below.at below.hidden visible,
        λ same. no (family-both t.nodes t.lists f k h s leaf parent sibling family j node at (up ∙ ap link_to same)),
      )
    where
      no : (j ≡ k) ⊎ (j ≡ s) → ⊥
      no (inl e) = j_k e
      no (inr e) = j_s e

  -- a node keeps its other children than the parent
  child_stays : (j x : ℕ) (above : Node) (a : Side) → j ≢ h → x ≢ k → x ≢ h → t.nodes x ≡ Some above → child_on above a ≡ link_to j →
      (up : Node) × (after.nodes x ≡ Some up) × (child_on up a ≡ link_to j)
  child_stays j x above a j_h x_k x_h at child = elim (cases_eq x s) [
    | inl same ↦
        let one : above ≡ sibling = some_same (sym at ∙ (ap t.nodes same ∙ family.sibling_at)) in
        (lifted parent sibling, ap after.nodes same ∙ sibling_at, lifted_child a ∙ (ap (λ (n : Node). child_on n a) (sym one) ∙ child))
    | inr apart ↦
        let b = relinked-stays t.nodes parent.parent h s x above at in
        (b.0, other_at x x_k x_h apart ∙ b.1, b.2.child a j j_h child)
  ]
    where
      lifted_child : (a : Side) → child_on (lifted parent sibling) a ≡ child_on sibling a
      lifted_child Side.Left = refl
      lifted_child Side.Right = refl

  pub splice-same : (j : ℕ) → IsOther j → j ≢ s → SameStep t after j j
  splice-same j other j_s =
      let b = relinked-stays t.nodes parent.parent h s j other.0 other.1 in
      let now_at = other_at j other.2 other.3 j_s ∙ b.1 in
      record {
        node = other.0;
        at = other.1;
        now = b.0;
        now_at = now_at;
        rows = λ p. ap (λ (l : ListId). t.slots l.0 p) b.2.list;
        parent = b.2.parent;
        first = b.2.first;
        seen = b.2.seen;
        side = same-side t.nodes after.nodes t.lists t.lists f g j j other.0 b.0 other.1 now_at b.2.parent (λ x above a up at child.
            let x_other = above_other j x other.0 other.1 up other.2 j_s in
            child_stays j x above a other.3 x_other.2 x_other.3 at child);
      }

  -- the sibling is on the side of the parent
  pub lifted_side : side_in after.nodes s ≡ side_in t.nodes h
  lifted_side = same-side t.nodes after.nodes t.lists t.lists f g h s parent (lifted parent sibling) family.parent_at sibling_at refl (λ x above a up at child.
      let x_other = above_parent x up in
      let b = relinked-here t.nodes h s x above a at child in
      (b.0, other_at x x_other.0.2 x_other.0.3 x_other.1 ∙ (ap (λ (o : Option NodeId). relinked t.nodes o h s x) up ∙ b.1), b.2))

  -- the window of the sibling over what was above the parent
  pub lifted-first : (p : ℕ) → p < (lifted parent sibling).seen → (lifted parent sibling).first ≡ sibling.first + parent.first
  lifted-first p inside = rw (eqb_apart (min sibling.seen (parent.seen - sibling.first)) 0 (λ none. absurd (omega arith))) refl

  pub lifted-page : (p x q : ℕ) → p < sibling.seen → Climbs t h (sibling.first + p) x q → IsPageAbove after s p x q
  lifted-page p x q inside up =
      let one : up.node ≡ parent = some_same (sym up.at ∙ family.parent_at) in
      let first_is = ap (λ (n : Node). n.first) one in
      let seen_is = ap (λ (n : Node). n.seen) one in
      let page = up.page in
      let sees = up.inside in
      let now_inside : p < (lifted parent sibling).seen = omega arith in
      let now_first = lifted-first p now_inside in
      record {
        node = lifted parent sibling;
        at = sibling_at;
        inside = now_inside;
        parent = sym (ap (λ (n : Node). n.parent) one) ∙ up.parent;
        page = omega arith;
      }

  pub lifted-climbs : (p x q : ℕ) → t.slots sibling.list.0 p ≡ None → p < sibling.seen → Climbs t h (sibling.first + p) x q → Climbs after s p x q
  unfolding lifted-page
  lifted-climbs p x q free inside up =
      let it = lifted-page p x q inside up in
      record { node = it.node; at = it.at; free = free; inside = it.inside; parent = it.parent; page = it.page }

  -- the walk from the sibling
  module _ (p : ℕ) (further : (x q : ℕ) → IsOther x → f.rank x < f.rank s → walk after x q ≡ walk t x q) where
    -- which passed the parent, and doesn't now
    sibling_up : (q : ℕ) → t.slots sibling.list.0 p ≡ None → p < sibling.seen → q ≡ sibling.first + p → Climbs t s p h q → walk after s p ≡ walk t s p
    sibling_up q free inside page c = elim (begins t f h q) [
      | absent_node e ↦ absurd (let there = family.parent_at in cc)
      | own_row slot r ↦
          let none = ap (λ (n : Node). t.slots n.list.0 q) (some_same (sym r.at ∙ family.parent_at)) ∙ empty q in
          absurd (let row = r.row in cc)
      | past_window node at none outside ↦
          let seen_is = ap (λ (n : Node). n.seen) (some_same (sym at ∙ family.parent_at)) in
          walk-past after g s p (lifted parent sibling) sibling_at free (omega arith)
          ∙ sym (walk-climbs t f s p h q c ∙ ap (from_side (side_in t.nodes s)) (walk-past t f h q node at none outside))
      | on_upwards x r up ↦
          let above = above_parent x (sym (ap (λ (n : Node). n.parent) (some_same (sym up.at ∙ family.parent_at))) ∙ up.parent) in
          let deeper = (climb_below t f.rank f.by h q x r up).deeper in
          let sibling_deeper = (climb_below t f.rank f.by s p h q c).deeper in
          let from = climb-side t f h q x r up in
          walk-climbs after g s p x r (lifted-climbs p x r free inside (subst (λ y. Climbs t h y x r) page up))
          ∙ (ap (λ a. from_side a (walk after x r)) (lifted_side ∙ from.4)
          ∙ (ap (from_side (Some from.1)) (further x r above.0 (omega arith))
          ∙ sym (walk-climbs t f s p h q c
          ∙ (ap (from_side (side_in t.nodes s)) (walk-climbs t f h q x r up ∙ ap (λ a. from_side a (walk t x r)) from.4)
          ∙ from_side-twice t f (side_in t.nodes s) from.1 (walk t x r)))))
    ]

    sibling_walk : walk after s p ≡ walk t s p
    sibling_walk = elim (begins t f s p) [
      | absent_node e ↦ absurd (let there = family.sibling_at in cc)
      | own_row slot r ↦
          let row = ap (λ (n : Node). t.slots n.list.0 p) (some_same (sym family.sibling_at ∙ r.at)) ∙ r.row in
          walk-row after g s p slot (record { node = lifted parent sibling; at = sibling_at; row = row }) ∙ sym (walk-row t f s p slot r)
      | past_window node at free outside ↦
          let one : sibling ≡ node = some_same (sym family.sibling_at ∙ at) in
          let seen_is = ap (λ (n : Node). n.seen) one in
          walk-past after g s p (lifted parent sibling) sibling_at (ap (λ (n : Node). t.slots n.list.0 p) one ∙ free) (omega arith)
          ∙ sym (walk-past t f s p node at free outside)
      | on_upwards x q c ↦
          let one : c.node ≡ sibling = some_same (sym c.at ∙ family.sibling_at) in
          let up = link_same (sym c.parent ∙ (ap (λ (n : Node). n.parent) one ∙ family-parent t.nodes t.lists f k h s leaf parent sibling family)) in
          let seen_is = ap (λ (n : Node). n.seen) one in
          let first_is = ap (λ (n : Node). n.first) one in
          let inside = c.inside in
          let page = c.page in
          sibling_up q (ap (λ (n : Node). t.slots n.list.0 p) (sym one) ∙ c.free) (omega arith) (omega arith) (subst (λ y. Climbs t s p y q) up c)
    ]

  -- the walks of all others stay
  splice-walk : (j p : ℕ) → IsOther j → walk after j p ≡ walk t j p
  splice-walk j p other = rank-each f.rank (λ j. (p : ℕ) → IsOther j → walk after j p ≡ walk t j p) each j p other
    where
      each : (j : ℕ) → ((x : ℕ) → f.rank x < f.rank j → (q : ℕ) → IsOther x → walk after x q ≡ walk t x q) → (p : ℕ) → IsOther j → walk after j p ≡ walk t j p
      each j ih p other = elim (cases_eq j s) [
        | inl same ↦
            let here = ap f.rank same in
            ap (λ i. walk after i p) same ∙ (sibling_walk p (λ x q x_other deeper. ih x (omega arith) q x_other) ∙ sym (ap (λ i. walk t i p) same))
        | inr apart ↦ step-same t after f g j p (splice-same j other apart) (λ x q c.
            ih x (climb_below t f.rank f.by j p x q c).deeper q (above_other j x c.node c.at c.parent other.2 apart))
      ]

  pub walk-spliced : (j p : ℕ) (node : Node) → t.nodes j ≡ Some node → j ≢ k → j ≢ h → walk after j p ≡ walk t j p
  walk-spliced j p node at j_k j_h = splice-walk j p (node, at, j_k, j_h)

  -- rows still stand in lists of nodes alone
  pub spliced-listed : ((p : ℕ) → t.slots leaf.list.0 p ≡ None) → HasListedRows t → HasListedRows after
  spliced-listed bare rows = record { listed = λ l p slot e. here l p slot e (rows.listed l p slot e) }
    where
      here : (l p : ℕ) (slot : Slot) → t.slots l p ≡ Some slot → IsListed t.nodes l → IsListed after.nodes l
      here l p slot e of = elim (cases_eq of.k k) [
        | inl same ↦ absurd (rowless t.nodes t.slots k of.k l p of.node leaf slot same of.at family.at bare of.named e)
        | inr j_k ↦ elim (cases_eq of.k h) [
          | inl same ↦ absurd (rowless t.nodes t.slots h of.k l p of.node parent slot same of.at family.parent_at empty of.named e)
          | inr j_h ↦ elim (cases_eq of.k s) [
            | inl same ↦
                let one : sibling ≡ of.node = some_same (sym family.sibling_at ∙ (sym (ap t.nodes same) ∙ of.at)) in
                record { k = s; node = lifted parent sibling; at = sibling_at; named = ap (λ (n : Node). n.list.0) one ∙ of.named }
            | inr j_s ↦
                let b = relinked-stays t.nodes parent.parent h s of.k of.node of.at in
                record { k = of.k; node = b.0; at = other_at of.k j_k j_h j_s ∙ b.1; named = ap (λ (l : ListId). l.0) b.2.list ∙ of.named }
          ]
        ]
      ]

-- ---- a root goes

module _ (t : Tree) (f : IsForest t.nodes t.lists) (k : ℕ) (leaf : Node) (visible : IsVisible t.nodes k leaf) (g : IsForest (without_key t.nodes k) t.lists) where
  root_change : IsChangeOf t.nodes (without_key t.nodes k) k
  root_change = record {
    leaf = λ node at. subst (λ (n : Node). IsSome n.koid) (some_same (sym visible.at ∙ at)) visible.koid;
    stay = λ j node at apart. without_key-other t.nodes k j apart ∙ at;
  }

  pub walk-removed : (j p : ℕ) (node : Node) → t.nodes j ≡ Some node → j ≢ k → walk (record t { nodes = without_key t.nodes k }) j p ≡ walk t j p
  walk-removed = walk-stays t (without_key t.nodes k) t.lists k f g root_change

  pub removed-listed : ((p : ℕ) → t.slots leaf.list.0 p ≡ None) → HasListedRows t → HasListedRows (record t { nodes = without_key t.nodes k })
  removed-listed bare rows = record { listed = λ l p slot e. here l p slot e (rows.listed l p slot e) }
    where
      here : (l p : ℕ) (slot : Slot) → t.slots l p ≡ Some slot → IsListed t.nodes l → IsListed (without_key t.nodes k) l
      here l p slot e of = elim (cases_eq of.k k) [
        | inl same ↦ absurd (rowless t.nodes t.slots k of.k l p of.node leaf slot same of.at visible.at bare of.named e)
        | inr apart ↦ record { k = of.k; node = of.node; at = without_key-other t.nodes k of.k apart ∙ of.at; named = of.named }
      ]
