-- Laws of the ways upwards in a forest: which child a step comes from, what a way ends at, and that it is the only one.
use Rattle.cow_arena.proofs.Words.{◌≡◌, ◌≢◌, ℕ, zero, suc, ◌+◌, ◌<◌, ◌==◌, Bool, false, Option, None, Some, ◌⊎◌, inl, inr, refl, sym, ap}
use Rattle.cow_arena.proofs.Words.{◌∙◌, subst, arith, IsSome, is_some, option_or, cases_eq, passes, eqb_same, eqb_apart, some_same, Slot}
use Rattle.cow_arena.proofs.Words.{Node, Side, Nodes, IsVisible, link_to, child_on, side_of, side_in, Tree, Found, from_side, walk}
use Rattle.cow_arena.proofs.Words.{IsForest, IsChild, HasPair, HasRow, Climbs, ReachesIn, Reaches, Arrives, Ends, absent_node, own_row}
use Rattle.cow_arena.proofs.Words.{past_window, on_upwards}
use Rattle.cow_arena.proofs.WalkLaws.{link_same, climb_below, up-each, begins, walk-absent, walk-row, walk-past, walk-climbs}

-- ---- ways, step by step

module _ (t : Tree) where
  pub reach-one : (k p : ℕ) (side : Side) (h q : ℕ) → Climbs t k p h q → side_in t.nodes k ≡ Some side → Reaches t k p side h q
  reach-one k p side h q c is = record { between = zero; way = (c, is) }

  pub reach-more : (k p j r : ℕ) (side : Side) (h q : ℕ) → Climbs t k p j r → Reaches t j r side h q → Reaches t k p side h q
  reach-more k p j r side h q c w = record { between = suc w.between; way = (j, r, c, w.way) }

  -- a way is one step, or a step and a way
  pub reach-cases : (k p : ℕ) (side : Side) (h q : ℕ) → Reaches t k p side h q →
      (Climbs t k p h q × (side_in t.nodes k ≡ Some side)) ⊎ ((j : ℕ) × (r : ℕ) × Climbs t k p j r × Reaches t j r side h q)
  reach-cases k p side h q w = go w.between w.way
    where
      go : (n : ℕ) → ReachesIn n t k p side h q →
          (Climbs t k p h q × (side_in t.nodes k ≡ Some side)) ⊎ ((j : ℕ) × (r : ℕ) × Climbs t k p j r × Reaches t j r side h q)
      go zero way = inl way
      go (suc n) way = inr (way.0, way.1, way.2, record { between = n; way = way.3 })

  -- what holds of the last step, and of a step and a way if it holds of the way, holds of a way
  pub reach-each : (side : Side) (h q : ℕ) (P : ℕ → ℕ → Type 0) →
      ((k p : ℕ) → Climbs t k p h q → side_in t.nodes k ≡ Some side → P k p) →
      ((k p j r : ℕ) → Climbs t k p j r → Reaches t j r side h q → P j r → P k p) →
      (k p : ℕ) → Reaches t k p side h q → P k p
  reach-each side h q P last more k p w = go w.between k p w.way
    where
      go : (n k p : ℕ) → ReachesIn n t k p side h q → P k p
      go zero k p way = last k p way.0 way.1
      go (suc n) k p way = more k p way.0 way.1 way.2 (record { between = n; way = way.3 }) (go n way.0 way.1 way.3)

  -- a way and one more step
  pub reach-on : (k p : ℕ) (side : Side) (j r : ℕ) (last : Side) (h q : ℕ) → Reaches t k p side j r → Climbs t j r h q → side_in t.nodes j ≡ Some last →
      Reaches t k p last h q
  reach-on k p side j r last h q w c is =
      reach-each side j r (λ k p. Reaches t k p last h q)
      (λ k p c' _. reach-more k p j r last h q c' (reach-one j r last h q c is))
      (λ k p i x c' _ ih. reach-more k p i x last h q c' ih) k p w

-- ---- children and sides

module _ (nodes : Nodes) (lists : ℕ) (f : IsForest nodes lists) where
  -- a node with a child is hidden
  pub hidden-of-child : (h k : ℕ) (above : Node) (side : Side) → nodes h ≡ Some above → child_on above side ≡ link_to k → above.koid ≡ None
  hidden-of-child h k above s at child = with_koid above.koid refl
    where
      no_child : (side : Side) → (above.left ≡ None) × (above.right ≡ None) → child_on above side ≡ link_to k → IsVisible nodes h above → above.koid ≡ None
      no_child Side.Left none e v = absurd (let left = none.0 in cc)
      no_child Side.Right none e v = absurd (let right = none.1 in cc)

      with_koid : (o : Option _) → above.koid ≡ o → above.koid ≡ None
      with_koid None e = e
      with_koid (Some koid) e =
          let v : IsVisible nodes h above = record { at = at; koid = subst IsSome (sym e) refl } in
          no_child s (f.by.leaves h above v) child v

  -- a child is there, and this is its parent
  pub child-there : (h k : ℕ) (above : Node) (side : Side) → nodes h ≡ Some above → child_on above side ≡ link_to k → IsChild nodes h k
  child-there h k above s at child =
      on_side s child (f.by.pairs h above at (hidden-of-child h k above s at child))
    where
      on_side : (side : Side) → child_on above side ≡ link_to k → HasPair nodes h above → IsChild nodes h k
      on_side Side.Left e pair = subst (IsChild nodes h) (link_same (sym pair.left_is ∙ e)) pair.left_child
      on_side Side.Right e pair = subst (IsChild nodes h) (link_same (sym pair.right_is ∙ e)) pair.right_child

  pub side-is : (h k : ℕ) (above node : Node) → nodes h ≡ Some above → nodes k ≡ Some node → node.parent ≡ link_to h → side_in nodes k ≡ Some (side_of above k)
  side-is h k above node above_at at parent = rw (at, parent, above_at) refl

  -- the side of a child
  pub side-of-child : (h k : ℕ) (above : Node) (side : Side) → nodes h ≡ Some above → child_on above side ≡ link_to k → side_in nodes k ≡ Some side
  unfolding passes
  side-of-child h k above s at child =
      let it = child-there h k above s at child in
      side-is h k above it.node at it.at it.parent ∙ ap Some (on_side s child (f.by.pairs h above at (hidden-of-child h k above s at child)))
    where
      on_side : (side : Side) → child_on above side ≡ link_to k → HasPair nodes h above → side_of above k ≡ side
      on_side Side.Left e pair = rw (e, eqb_same k) refl
      on_side Side.Right e pair =
          let other : ◌≡◌ {A = Bool} (pair.left == k) false = eqb_apart pair.left k (λ same. pair.apart (same ∙ sym (link_same (sym pair.right_is ∙ e)))) in
          rw (pair.left_is, other) refl

  -- a node with a parent is one of its children
  pub side-of-parent : (h k : ℕ) (node : Node) → nodes k ≡ Some node → node.parent ≡ link_to h →
      (above : Node) × (side : Side) × (nodes h ≡ Some above) × (child_on above side ≡ link_to k) × (side_in nodes k ≡ Some side)
  side-of-parent h k node at parent =
      let below = f.by.below h k node at parent in
      elim below.side [
        | inl e ↦ (below.above, Side.Left, below.at, e, side-of-child h k below.above Side.Left below.at e)
        | inr e ↦ (below.above, Side.Right, below.at, e, side-of-child h k below.above Side.Right below.at e)
      ]

module _ (t : Tree) (f : IsForest t.nodes t.lists) where
  -- a step upwards comes from one of the two children
  pub climb-side : (k p h q : ℕ) → Climbs t k p h q →
      (above : Node) × (side : Side) × (t.nodes h ≡ Some above) × (child_on above side ≡ link_to k) × (side_in t.nodes k ≡ Some side)
  climb-side k p h q c = side-of-parent t.nodes t.lists f h k c.node c.at c.parent

  -- from a child, a page without a row in its window leads to the parent
  pub climb-from-child : (h k p : ℕ) (above node : Node) (side : Side) → t.nodes h ≡ Some above → child_on above side ≡ link_to k → t.nodes k ≡ Some node →
      t.slots node.list.0 p ≡ None → p < node.seen → Climbs t k p h (node.first + p)
  climb-from-child h k p above node side above_at child at free inside =
      let it = child-there t.nodes t.lists f h k above side above_at child in
      let same : it.node ≡ node = some_same (sym it.at ∙ at) in
      record { node = node; at = at; free = free; inside = inside; parent = ap (λ (n : Node). n.parent) (sym same) ∙ it.parent; page = refl }

  -- ---- one way alone

  -- a way goes to lesser ranks
  pub reach-deeper : (k p : ℕ) (side : Side) (h q : ℕ) → Reaches t k p side h q → f.rank h < f.rank k
  reach-deeper k p side h q = reach-each t side h q (λ k p. f.rank h < f.rank k)
      (λ k p c _. (climb_below t f.rank f.by k p h q c).deeper)
      (λ k p j r c _ ih. let deeper = (climb_below t f.rank f.by k p j r c).deeper in omega arith) k p

  -- two steps from one node go to one parent, as far as the pages are apart
  pub climbs-same : (k p h q r j x : ℕ) → Climbs t k p h q → Climbs t k r j x → (h ≡ j) × (q + r ≡ x + p)
  climbs-same k p h q r j x a b =
      let same : a.node ≡ b.node = some_same (sym a.at ∙ b.at) in
      let first = ap (λ (n : Node). n.first) same in
      (link_same (sym a.parent ∙ (ap (λ (n : Node). n.parent) same ∙ b.parent)), let here = a.page in let there = b.page in omega arith)

  -- two ways from one node to another come from one side, and their pages are as far apart at the end as at the start
  pub reach-apart : (k p : ℕ) (s : Side) (h q r : ℕ) (u : Side) (x : ℕ) → Reaches t k p s h q → Reaches t k r u h x → (q + r ≡ x + p) × (s ≡ u)
  reach-apart k p s h q r u x a b = reach-each t s h q (λ k p. (r : ℕ) → Reaches t k r u h x → (q + r ≡ x + p) × (s ≡ u)) last more k p a r b
    where
      last : (k p : ℕ) → Climbs t k p h q → side_in t.nodes k ≡ Some s → (r : ℕ) → Reaches t k r u h x → (q + r ≡ x + p) × (s ≡ u)
      last k p c is r w = elim (reach-cases t k r u h x w) [
        | inl one ↦ ((climbs-same k p h q r h x c one.0).1, some_same (sym is ∙ one.1))
        | inr on ↦
            absurd (omega (arith, reach-deeper on.0 on.1 u h x on.3, ap f.rank (climbs-same k p h q r on.0 on.1 c on.2).0))
      ]

      more : (k p j y : ℕ) → Climbs t k p j y → Reaches t j y s h q → ((r : ℕ) → Reaches t j r u h x → (q + r ≡ x + y) × (s ≡ u)) →
          (r : ℕ) → Reaches t k r u h x → (q + r ≡ x + p) × (s ≡ u)
      more k p j y c way ih r w = elim (reach-cases t k r u h x w) [
        | inl one ↦
            absurd (omega (arith, reach-deeper j y s h q way, ap f.rank (climbs-same k p j y r h x c one.0).0))
        | inr on ↦
            let steps = climbs-same k p j y r on.0 on.1 c on.2 in
            let further = ih on.1 (subst (λ i. Reaches t i on.1 u h x) (sym steps.0) on.3) in
            (omega (arith, further.0, steps.1), further.1)
      ]

  -- from one node one page of another is reached by one page, and from one side
  pub reach-once : (k p r : ℕ) (s u : Side) (h q : ℕ) → Reaches t k p s h q → Reaches t k r u h q → (p ≡ r) × (s ≡ u)
  reach-once k p r s u h q a b = let apart = reach-apart k p s h q r u q a b in (omega (arith, apart.0), apart.1)

  -- ---- where walks end

  pub from_side-twice : (side : Option Side) (last : Side) (o : Option Found) → from_side side (from_side (Some last) o) ≡ from_side (Some last) o
  from_side-twice side last None = refl
  from_side-twice side last (Some it) = ap (λ s. Some (record it { side = s })) (twice it.side)
    where
      twice : (s : Option Side) → option_or (option_or s (Some last)) side ≡ option_or s (Some last)
      twice None = refl
      twice (Some s) = refl

  -- a walk finds what is found from where it comes to
  pub walk-reach : (k p : ℕ) (side : Side) (h q : ℕ) → Reaches t k p side h q → walk t k p ≡ from_side (Some side) (walk t h q)
  walk-reach k p side h q = reach-each t side h q (λ k p. walk t k p ≡ from_side (Some side) (walk t h q))
      (λ k p c is. walk-climbs t f k p h q c ∙ ap (λ s. from_side s (walk t h q)) is)
      (λ k p j r c _ ih. walk-climbs t f k p j r c ∙ (ap (from_side (side_in t.nodes k)) ih ∙ from_side-twice (side_in t.nodes k) side (walk t h q))) k p

  pub walk-arrives : (k p : ℕ) (side : Option Side) (h q : ℕ) (slot : Slot) → Arrives t k p side h q → HasRow t h q slot →
      walk t k p ≡ Some (record { node = h; page = q; side = side; slot = slot })
  walk-arrives k p None h q slot w r =
      ap (λ k. walk t k p) w.0 ∙ (ap (walk t h) w.1 ∙ walk-row t f h q slot r)
  walk-arrives k p (Some side) h q slot w r = walk-reach k p side h q w ∙ ap (from_side (Some side)) (walk-row t f h q slot r)

  pub found-of-reach : (k p : ℕ) (side : Side) (h q : ℕ) (node : Node) (slot : Slot) → Reaches t k p side h q → t.nodes h ≡ Some node → t.slots node.list.0 q ≡ Some slot →
      walk t k p ≡ Some (record { node = h; page = q; side = Some side; slot = slot })
  found-of-reach k p side h q node slot w at row = walk-arrives k p (Some side) h q slot w (record { node = node; at = at; row = row })

  -- a step, and what comes after it
  pub arrives-on : (k p j r : ℕ) (side : Option Side) (h q : ℕ) → Climbs t k p j r → Arrives t j r side h q →
      Arrives t k p (option_or side (side_in t.nodes k)) h q
  arrives-on k p j r (Some side) h q c w = reach-more t k p j r side h q c w
  arrives-on k p j r None h q c w =
      let from = climb-side k p j r c in
      subst (λ o. Arrives t k p o h q) (sym from.4)
      (subst (λ i. Reaches t k p from.1 i q) w.0 (subst (Reaches t k p from.1 j) w.1 (reach-one t k p from.1 j r c from.4)))

  -- what a walk finds stands in the row of a page to which it comes
  pub walk-ends : (k p : ℕ) (it : Found) → walk t k p ≡ Some it → Ends t k p it
  walk-ends = up-each t f (λ k p. (it : Found) → walk t k p ≡ Some it → Ends t k p it) each
    where
      after : (k p h q : ℕ) → Climbs t k p h q → (o : Option Found) → ((it : Found) → o ≡ Some it → Ends t h q it) →
          (it : Found) → from_side (side_in t.nodes k) o ≡ Some it → Ends t k p it
      after k p h q c None ih it e = absurd (cc)
      after k p h q c (Some found) ih it e =
          let end = ih found refl in
          subst (Ends t k p) (some_same e) (record { way = arrives-on k p h q found.side found.node found.page c end.way; row = end.row })

      each : (k p : ℕ) → ((h q : ℕ) → Climbs t k p h q → (it : Found) → walk t h q ≡ Some it → Ends t h q it) →
          (it : Found) → walk t k p ≡ Some it → Ends t k p it
      each k p ih it e = elim (begins t f k p) [
        | absent_node none ↦ absurd (let nothing = walk-absent t f k p none in cc)
        | own_row slot r ↦ subst (Ends t k p) (some_same (sym (walk-row t f k p slot r) ∙ e)) (record { way = (refl, refl); row = r })
        | past_window node at free outside ↦ absurd (let nothing = walk-past t f k p node at free outside in cc)
        | on_upwards h q c ↦ after k p h q c (walk t h q) (ih h q c) it (sym (walk-climbs t f k p h q c) ∙ e)
      ]

  -- ---- how a way comes to the node at its end

  -- a way ends with a step from one of the two children
  pub reach-last : (k p : ℕ) (side : Side) (h q : ℕ) → Reaches t k p side h q →
      (c : ℕ) × (r : ℕ) × (from : Option Side) × Arrives t k p from c r × Climbs t c r h q × (side_in t.nodes c ≡ Some side)
  reach-last k p side h q = reach-each t side h q (λ k p. Last k p)
      (λ k p c is. (k, p, None, (refl, refl), c, is))
      (λ k p j r c _ ih. (ih.0, ih.1, option_or ih.2 (side_in t.nodes k), arrives-on k p j r ih.2 ih.0 ih.1 c ih.3, ih.4, ih.5)) k p
    where
      Last : ℕ → ℕ → Type 0
      Last k p = (c : ℕ) × (r : ℕ) × (from : Option Side) × Arrives t k p from c r × Climbs t c r h q × (side_in t.nodes c ≡ Some side)

  -- whatever comes to a child goes on by a step from there
  pub reach-after : (k p : ℕ) (from : Option Side) (c r : ℕ) (side : Side) (h q : ℕ) → Arrives t k p from c r → Climbs t c r h q → side_in t.nodes c ≡ Some side →
      Reaches t k p side h q
  reach-after k p None c r side h q w step is =
      subst (λ i. Reaches t i p side h q) (sym w.0) (subst (λ x. Reaches t c x side h q) (sym w.1) (reach-one t c r side h q step is))
  reach-after k p (Some s) c r side h q w step is = reach-on t k p s c r side h q w step is

  -- the child on the side of a way is where its last step comes from
  pub reach-through : (k p : ℕ) (side : Side) (h q c : ℕ) (above : Node) → Reaches t k p side h q → t.nodes h ≡ Some above → child_on above side ≡ link_to c →
      (r : ℕ) × (from : Option Side) × Arrives t k p from c r × Climbs t c r h q
  reach-through k p side h q c above w at child =
      let last = reach-last k p side h q w in
      let from = climb-side last.0 last.1 h q last.4 in
      let above_is : from.0 ≡ above = some_same (sym from.2 ∙ at) in
      let side_is : from.1 ≡ side = some_same (sym from.4 ∙ last.5) in
      let same : last.0 ≡ c = link_same (sym from.3 ∙ (ap (λ (n : Node). child_on n from.1) above_is ∙ (ap (child_on above) side_is ∙ child))) in
      (last.1, last.2, subst (λ i. Arrives t k p last.2 i last.1) same last.3, subst (λ i. Climbs t i last.1 h q) same last.4)

  -- a way ends at a hidden node
  pub reach-hidden : (k p : ℕ) (side : Side) (h q : ℕ) → Reaches t k p side h q → (above : Node) × (t.nodes h ≡ Some above) × (above.koid ≡ None)
  reach-hidden k p side h q w =
      let last = reach-last k p side h q w in
      let below = climb_below t f.rank f.by last.0 last.1 h q last.4 in
      (below.above, below.at, below.hidden)

  -- a walk finds what is found from where it comes to, from the side it came from
  pub walk-from : (k p : ℕ) (side : Option Side) (h q : ℕ) → Arrives t k p side h q → walk t k p ≡ from_side side (walk t h q)
  walk-from k p None h q w = ap (λ k. walk t k p) w.0 ∙ (ap (walk t h) w.1 ∙ sym (from_none (walk t h q)))
    where
      from_none : (o : Option Found) → from_side None o ≡ o
      from_none None = refl
      from_none (Some it) = ap (λ s. Some (record it { side = s })) (or_none it.side)
        where
          or_none : (s : Option Side) → option_or s None ≡ s
          or_none None = refl
          or_none (Some s) = refl
  walk-from k p (Some side) h q w = walk-reach k p side h q w

  -- a walk that doesn't end at once has the side on which it came last, and no later one
  pub side-kept : (k p : ℕ) (node : Node) (side : Option Side) → t.nodes k ≡ Some node → t.slots node.list.0 p ≡ None → from_side side (walk t k p) ≡ walk t k p
  side-kept k p node side at free = elim (begins t f k p) [
    | absent_node e ↦ absurd (cc)
    | own_row slot r ↦ absurd (let row = sym (ap (λ (n : Node). t.slots n.list.0 p) (some_same (sym r.at ∙ at))) ∙ r.row in cc)
    | past_window n n_at none outside ↦ let nothing = walk-past t f k p n n_at none outside in ap (from_side side) nothing ∙ sym nothing
    | on_upwards h q c ↦
        let from = climb-side k p h q c in
        let up = walk-climbs t f k p h q c ∙ ap (λ s. from_side s (walk t h q)) from.4 in
        ap (from_side side) up ∙ (from_side-twice side from.1 (walk t h q) ∙ sym up)
  ]

  -- a hidden node is no visible one
  pub hidden-apart : (h k : ℕ) (above leaf : Node) → t.nodes h ≡ Some above → above.koid ≡ None → IsVisible t.nodes k leaf → h ≢ k
  hidden-apart h k above leaf at hidden visible same =
      let one = ap (λ (n : Node). is_some n.koid) (some_same (sym at ∙ (ap t.nodes same ∙ visible.at))) in
      absurd (let none = ap is_some hidden in let shown = visible.koid in cc)

  -- a walk comes to a page of a node, or it does not
  pub arrives-or-not : (h q k p : ℕ) → ((side : Option Side) × Arrives t k p side h q) ⊎ ((side : Option Side) → Arrives t k p side h q → ⊥)
  arrives-or-not h q = up-each t f (λ k p. Known k p) (λ k p ih. elim (here k p) [
    | inl same ↦ inl (None, same)
    | inr apart ↦ elim (begins t f k p) [
      | absent_node e ↦ inr (none k p apart (λ j r c. absurd (let at = c.at in cc)))
      | own_row slot r ↦ inr (none k p apart (λ j x c. absurd (let free = ap (λ (n : Node). t.slots n.list.0 p) (some_same (sym r.at ∙ c.at)) ∙ c.free in let row = r.row in cc)))
      | past_window node at free outside ↦ inr (none k p apart (λ j x c.
          absurd (omega (arith, ap (λ (n : Node). n.seen) (some_same (sym at ∙ c.at)), c.inside))))
      | on_upwards j r c ↦ after k p j r c apart (ih j r c)
    ]
  ])
    where
      Known : ℕ → ℕ → Type 0
      Known k p = ((side : Option Side) × Arrives t k p side h q) ⊎ ((side : Option Side) → Arrives t k p side h q → ⊥)

      here : (k p : ℕ) → ((k ≡ h) × (p ≡ q)) ⊎ ((k ≡ h) × (p ≡ q) → ⊥)
      here k p = elim (cases_eq k h) [
        | inr apart ↦ inr (λ same. apart same.0)
        | inl one ↦ elim (cases_eq p q) [ inl two ↦ inl (one, two) | inr apart ↦ inr (λ same. apart same.1) ]
      ]

      none : (k p : ℕ) → ((k ≡ h) × (p ≡ q) → ⊥) → ((j r : ℕ) → Climbs t k p j r → ⊥) → (side : Option Side) → Arrives t k p side h q → ⊥
      none k p apart ends None w = apart w
      none k p apart ends (Some side) w = elim (reach-cases t k p side h q w) [ inl one ↦ ends h q one.0 | inr on ↦ ends on.0 on.1 on.2 ]

      after : (k p j r : ℕ) → Climbs t k p j r → ((k ≡ h) × (p ≡ q) → ⊥) → Known j r → Known k p
      after k p j r c apart (inl known) = inl (option_or known.0 (side_in t.nodes k), arrives-on k p j r known.0 h q c known.1)
      after k p j r c apart (inr known) = inr (not_on known)
        where
          not_on : ((side : Option Side) → Arrives t j r side h q → ⊥) → (side : Option Side) → Arrives t k p side h q → ⊥
          not_on known None w = apart w
          not_on known (Some side) w = elim (reach-cases t k p side h q w) [
            | inl one ↦ let same = climbs-same k p j r p h q c one.0 in known None (same.0, omega (arith, same.1))
            | inr on ↦
                let same = climbs-same k p j r p on.0 on.1 c on.2 in
                let page : on.1 ≡ r = omega (arith, same.1) in
                known (Some side) (subst (λ i. Reaches t i r side h q) (sym same.0) (subst (λ x. Reaches t on.0 x side h q) page on.3))
          ]
