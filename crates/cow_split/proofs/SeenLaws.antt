-- Laws of who sees a row, as the two questions ask it.
use Rattle.cow_split.proofs.Words.{◌≡◌, ◌≢◌, ℕ, ◌+◌, ◌<◌, ◌≤◌, ◌==◌, ◌&&◌, true, Option, None, Some, refl, sym, ap, ◌∙◌, subst, inl, inr}
use Rattle.cow_split.proofs.Words.{arith, nat_tests, is_some, passes, some_same, Slot, Node, Side, Tree, Found, walk, IsForest, HasRow}
use Rattle.cow_split.proofs.Words.{Climbs, Reaches, Arrives, link_to, reached_from, all_in_sight, IsPage, IsSeenBy, IsSeenFrom, holder_of}
use Rattle.cow_split.proofs.Words.{ComesTo, is_row_of}
use Rattle.cow_arena.proofs.ReachLaws.{reach-cases, reach-each, reach-deeper, walk-ends}
use Rattle.cow_arena.proofs.WalkLaws.{link_same}
use Rattle.cow_split.proofs.SearchLaws.{reached-seen, seen-reached}

module _ (t : Tree) (f : IsForest t.nodes t.lists) (side : Side) (h q : ℕ) where
  pub side-of-reached : (node : Node) (o : Option Slot) → t.nodes h ≡ Some node → o ≡ t.slots node.list.0 q → is_some o ≡ true →
      reached_from t None side h q ≡ true → IsSeenFrom t all_in_sight side h q
  side-of-reached node None at is some holds = absurd (cc)
  side-of-reached node (Some row) at is some holds =
      let it = reached-seen t f None side h q node row at (sym is) holds in
      record { v = it.v; p = it.p; sees = it.sees; in_sight = refl }

  row-of-side : IsSeenFrom t all_in_sight side h q → (slot : Slot) × HasRow t h q slot
  row-of-side s =
      let end = walk-ends t f s.v s.p (record { node = h; page = q; side = Some side; slot = s.sees.slot }) s.sees.found in
      (s.sees.slot, end.row)

  pub no-side : (node : Node) → t.nodes h ≡ Some node → t.slots node.list.0 q ≡ None → IsSeenFrom t all_in_sight side h q → ⊥
  no-side node at free s =
      let has = row-of-side s in
      let same : has.1.node ≡ node = some_same (sym has.1.at ∙ at) in
      let row = subst (λ (n : Node). t.slots n.list.0 q ≡ Some has.0) same has.1.row in
      cc

  pub reached-of-side : IsSeenFrom t all_in_sight side h q → reached_from t None side h q ≡ true
  unfolding passes
  reached-of-side s = seen-reached t f None s.v s.p side h q s.sees refl

-- ---- the one page from which a walk comes to another

module _ (t : Tree) (f : IsForest t.nodes t.lists) where
  reach-rises : (k p : ℕ) (side : Side) (h q : ℕ) → Reaches t k p side h q → p ≤ q
  reach-rises k p side h q = reach-each t side h q (λ k p. p ≤ q)
      (λ k p c is. let page = c.page in omega arith)
      (λ k p j r c way further. let page = c.page in omega arith) k p

  pub comes-rises : (k p h q : ℕ) → ComesTo t k p h q → p ≤ q
  comes-rises k p h q c = with_side c.side c.way
    where
      with_side : (side : Option Side) → Arrives t k p side h q → p ≤ q
      with_side None way = let same = way.1 in omega arith
      with_side (Some side) way = reach-rises k p side h q way

  pub comes-here : (h p q : ℕ) → ComesTo t h p h q → p ≡ q
  comes-here h p q c = with_side c.side c.way
    where
      with_side : (side : Option Side) → Arrives t h p side h q → p ≡ q
      with_side None way = way.1
      with_side (Some side) way = absurd (let deeper = reach-deeper t f h p side h q way in omega arith)

  -- it goes on at the parent, or is there
  comes-further : (k p h q : ℕ) → ComesTo t k p h q → k ≢ h → (j : ℕ) × (r : ℕ) × Climbs t k p j r × ComesTo t j r h q
  comes-further k p h q c apart = with_side c.side c.way
    where
      with_side : (side : Option Side) → Arrives t k p side h q → (j : ℕ) × (r : ℕ) × Climbs t k p j r × ComesTo t j r h q
      with_side None way = absurd (apart way.0)
      with_side (Some side) way = elim (reach-cases t k p side h q way) [
        | inl one ↦ (h, q, one.0, record { side = None; way = (refl, refl) })
        | inr on ↦ (on.0, on.1, on.2, record { side = Some side; way = on.3 })
      ]

  pub comes-on : (k p h q parent : ℕ) (node : Node) → ComesTo t k p h q → k ≢ h → t.nodes k ≡ Some node → node.parent ≡ link_to parent →
      ComesTo t parent (p + node.first) h q
  comes-on k p h q parent node c apart at parent_is =
      let on = comes-further k p h q c apart in
      let same : on.2.node ≡ node = some_same (sym on.2.at ∙ at) in
      let first = ap (λ (n : Node). n.first) same in
      let here : on.0 ≡ parent = link_same (sym on.2.parent ∙ (ap (λ (n : Node). n.parent) same ∙ parent_is)) in
      let there : on.1 ≡ p + node.first = let page = on.2.page in omega arith in
      subst (λ j. ComesTo t j (p + node.first) h q) here (subst (λ r. ComesTo t on.0 r h q) there on.3)

  pub comes-no_parent : (k p h q : ℕ) (node : Node) → ComesTo t k p h q → k ≢ h → t.nodes k ≡ Some node → node.parent ≡ None → ⊥
  comes-no_parent k p h q node c apart at none =
      let on = comes-further k p h q c apart in
      let same = ap (λ (n : Node). n.parent) (some_same (sym on.2.at ∙ at)) in
      let parent = on.2.parent in
      cc

  pub comes-of-seen : (v h q : ℕ) (s : IsSeenBy t v h q) → ComesTo t v s.p h q
  comes-of-seen v h q s =
      let end = walk-ends t f v s.p (record { node = h; page = q; side = s.side; slot = s.sees.slot }) s.sees.found in
      record { side = s.side; way = end.way }

  -- ---- whether what is found is the row

  row-test : (a b c d : ℕ) → a ≡ b → c ≡ d → ((a == b) && (c == d)) ≡ true
  row-test a b c d e g = grind (arith, nat_tests)

  row-same : (a b c d : ℕ) → ((a == b) && (c == d)) ≡ true → (a ≡ b) × (c ≡ d)
  row-same a b c d e = grind (arith, nat_tests)

  -- the walk from page p of node k ends at the row of page q of node h
  abbrev Row : (k p h q : ℕ) → Type 0
  Row k p h q = (side : Option Side) × (slot : Slot) × (walk t k p ≡ Some (record { node = h; page = q; side = side; slot = slot }))

  moved : (k p h q n r : ℕ) (side : Option Side) (slot : Slot) → walk t k p ≡ Some (record { node = n; page = r; side = side; slot = slot }) →
      (n ≡ h) × (r ≡ q) → Row k p h q
  moved k p h q n r side slot e same =
      let there = subst (λ n. walk t k p ≡ Some (record { node = n; page = r; side = side; slot = slot })) same.0 e in
      (side, slot, subst (λ r. walk t k p ≡ Some (record { node = h; page = r; side = side; slot = slot })) same.1 there)

  row-found : (k p h q n r : ℕ) (side : Option Side) (slot : Slot) → walk t k p ≡ Some (record { node = n; page = r; side = side; slot = slot }) →
      is_row_of k p (holder_of (Some (record { node = n; page = r; side = side; slot = slot }))) h q ≡ true → Row k p h q
  row-found k p h q n r None slot e holds =
      let here = (walk-ends t f k p (record { node = n; page = r; side = None; slot = slot }) e).way in
      let same = row-same k h p q holds in
      moved k p h q n r None slot e (sym here.0 ∙ same.0, sym here.1 ∙ same.1)
  row-found k p h q n r (Some side) slot e holds = moved k p h q n r (Some side) slot e (row-same n h r q holds)

  row-of-answer : (k p h q : ℕ) (o : Option Found) → walk t k p ≡ o → is_row_of k p (holder_of o) h q ≡ true → Row k p h q
  row-of-answer k p h q None e holds = absurd (cc)
  row-of-answer k p h q (Some it) e holds = row-found k p h q it.node it.page it.side it.slot e holds

  answer-of-row : (k p h q : ℕ) (side : Option Side) (slot : Slot) → walk t k p ≡ Some (record { node = h; page = q; side = side; slot = slot }) →
      is_row_of k p (holder_of (Some (record { node = h; page = q; side = side; slot = slot }))) h q ≡ true
  answer-of-row k p h q None slot e =
      let here = (walk-ends t f k p (record { node = h; page = q; side = None; slot = slot }) e).way in row-test k h p q here.0 here.1
  answer-of-row k p h q (Some side) slot e = row-test h h q q refl refl

  -- the answer for the one page tells
  pub seen-of-answer : (v p h q : ℕ) → IsPage t v p → is_row_of v p (holder_of (walk t v p)) h q ≡ true → IsSeenBy t v h q
  seen-of-answer v p h q page holds =
      let row = row-of-answer v p h q (walk t v p) refl holds in
      record { p = p; side = row.0; sees = record { page = page; slot = row.1; found = row.2 } }

  pub answer-of-seen : (v p h q : ℕ) (s : IsSeenBy t v h q) → s.p ≡ p → is_row_of v p (holder_of (walk t v p)) h q ≡ true
  answer-of-seen v p h q s same =
      let found = subst (λ p. walk t v p ≡ Some (record { node = h; page = q; side = s.side; slot = s.sees.slot })) same s.sees.found in
      rw found (answer-of-row v p h q s.side s.sees.slot found)

  pub seen-below : (v h q : ℕ) (s : IsSeenBy t v h q) (node : Node) → t.nodes v ≡ Some node → s.p < node.count
  seen-below v h q s node at =
      let page = s.sees.page in subst (λ (n : Node). s.p < n.count) (some_same (sym page.visible.at ∙ at)) page.below
