-- Laws of jumps: a step is one, two in a row are one, and a walk that takes them comes to the rows to which its steps lead.
use Rattle.cow_jump.proofs.Words.{◌≡◌, ◌≢◌, inl, inr, ℕ, ◌+◌, ◌-◌, ◌*◌, ◌^◌, ◌%◌, ◌<◌, ◌≤◌, Option, None, Some, IsSome, IsSomeAnd, refl}
use Rattle.cow_jump.proofs.Words.{sym, ap, subst, ◌∙◌, arith, ◌/◌, w64, zero, suc, List, [], ◌∷◌, ◌++◌, slice_index_or, is_some, bit_or}
use Rattle.cow_jump.proofs.Words.{IfSome, bit_at, rotate_right, bit_at_or, bit_at_cat_low, bit_at_cat_high, side_of, Tree, walk, Reaches}
use Rattle.cow_jump.proofs.Words.{Arrives, Rises, IsMostOfLookUp, depth, jump_in, serial_in, IsCurrentJump, IsJump, AreJumps, IsNewJump}
use Rattle.cow_jump.proofs.Words.{IsServedByJump, IsGiven, cases_eq, cases_lt, div-add-mod, mod-lt, Node, IsForest, Jump, JumpTable}
use Rattle.std.proofs.lemmas.Nat.{pow_pos}
use Rattle.vm_base.proofs.EntryLaws.{some_same}
use Rattle.page_list.specs.declared.row.Slot.{Slot}
use Rattle.cow_arena.specs.declared.node.NodeId.{NodeId}
use Rattle.cow_arena.specs.declared.node.Side.{Side}
use Rattle.cow_arena.proofs.ReachLaws.{reach-each, reach-hidden, walk-arrives}
use Rattle.cow_arena.proofs.RisesLaws.{rises-parent, rises-reach, rises-on, reach-then, above-hidden}
use Rattle.cow_split.proofs.CostLaws.{depth-up, depth-some}
use Rattle.cow_split.proofs.ClimbLaws.{IsClimbing, climb-start, climb-past}
use Rattle.cow_jump.specs.declared.jumps.Place.{Place}

-- what is not clear of two words is not clear of either
either-clear : (a b i : ℕ) → bit_at (bit_or a b) i ≡ 0 → (bit_at a i ≡ 0) × (bit_at b i ≡ 0)
either-clear a b i clear = let both = bit_at_or a b i in (omega (arith, both, clear), omega (arith, both, clear))

-- ---- turned words

by-parts : (n m : ℕ) → n ≡ n / m * m + n % m
by-parts n m = let parts = div-add-mod n m in omega (arith, parts)

-- the bits of a word without its low ones, and of its low ones alone
bit-high : (n s i : ℕ) → bit_at n (i + s) ≡ bit_at (n / 2 ^ s) i
bit-high n s i =
    ap (λ x. bit_at x (i + s)) (by-parts n (2 ^ s))
    ∙ (bit_at_cat_high (n / 2 ^ s) s (n % 2 ^ s) (i + s) (mod-lt n (pow_pos s)) (omega arith) ∙ ap (bit_at (n / 2 ^ s)) (omega arith))

bit-low : (n s i : ℕ) → i < s → bit_at n i ≡ bit_at (n % 2 ^ s) i
bit-low n s i less = ap (λ x. bit_at x i) (by-parts n (2 ^ s)) ∙ bit_at_cat_low (n / 2 ^ s) s (n % 2 ^ s) i less

bit-raised : (n s i : ℕ) → s ≤ i → bit_at (n * 2 ^ s) i ≡ bit_at n (i - s)
bit-raised n s i more = ap (λ x. bit_at x i) (omega arith) ∙ bit_at_cat_high n s 0 i (pow_pos s) more

turned-parts : (n s i : ℕ) → s < 64 → i < 64 → bit_at (bit_or (n / 2 ^ s) (n * 2 ^ ((64 - s) % 64) % 2 ^ 64)) i ≡ 0 → bit_at n ((i + s) % 64) ≡ 0
turned-parts n s i few less clear =
    let parts = either-clear (n / 2 ^ s) (n * 2 ^ ((64 - s) % 64) % 2 ^ 64) i clear in
    elim (cases_lt (i + s) 64) [
      | inl inside ↦
          let at : (i + s) % 64 ≡ i + s = omega arith in
          ap (bit_at n) at ∙ (bit-high n s i ∙ parts.0)
      | inr past ↦
          let by : (64 - s) % 64 ≡ 64 - s = omega arith in
          let at : (i + s) % 64 ≡ i - (64 - s) = omega arith in
          let raised : bit_at (n * 2 ^ (64 - s) % 2 ^ 64) i ≡ 0 = ap (λ k. bit_at (n * 2 ^ k % 2 ^ 64) i) (sym by) ∙ parts.1 in
          ap (bit_at n) at ∙ (sym (bit-raised n (64 - s) i (omega arith)) ∙ (bit-low (n * 2 ^ (64 - s)) 64 i less ∙ raised))
    ]

-- a word that is turned by a shift has the bits of the pages that are so many further on
pub turned-clear : (pages shift by : ℕ) → by ≡ shift % 64 → (p : ℕ) → bit_at (rotate_right w64 pages by) (p % 64) ≡ 0 → bit_at pages ((p + shift) % 64) ≡ 0
turned-clear pages shift by is p clear =
    let small : by % 64 ≡ by = omega arith in
    let at : (p + shift) % 64 ≡ (p % 64 + by) % 64 = omega arith in
    ap (bit_at pages) at ∙ turned-parts pages by (p % 64) (omega arith) (omega arith)
    (ap (λ s. bit_at (bit_or (pages / 2 ^ s) (pages * 2 ^ ((64 - s) % 64) % 2 ^ 64)) (p % 64)) (sym small) ∙ clear)

-- ---- jumps

-- Node i has the jump of node k: it sees no more pages than k did, and from each the jump leads to where it led, to a node that is there.
pub jump-carried : (t u : Tree) (k i : ℕ) (jump : Jump) →
    ((now : Node) → u.nodes i ≡ Some now → (node : Node) × (t.nodes k ≡ Some node) × (now.seen ≤ node.seen)) → (IsSome (t.nodes jump.to.0) → IsSome (u.nodes jump.to.0)) →
    ((p : ℕ) (now : Node) → u.nodes i ≡ Some now → p < now.seen → Rises t k p jump.side jump.to.0 (p + jump.shift) →
    Rises u i p jump.side jump.to.0 (p + jump.shift)) → IsJump t k jump → IsJump u i jump
jump-carried t u k i jump was stays rises is = record {
  there = λ now at some. let it = was now at in stays (is.there it.0 it.1 (omega (arith, it.2)));
  rises = λ p now at inside below clear. let it = was now at in rises p now at inside (is.rises p it.0 it.1 (omega (arith, it.2)) below clear);
}

module _ (t : Tree) where
  -- the step to the parent
  pub step-rises : (k p : ℕ) (parent : NodeId) (node above : Node) (side : Side) → t.nodes k ≡ Some node → node.parent ≡ Some parent → t.nodes parent.0 ≡ Some above →
      side ≡ side_of above k → p < node.seen → (q : ℕ) → q ≡ node.first + p → Rises t k p side parent.0 q
  step-rises k p parent node above side at up above_at side_is inside q page =
      rises-parent t k p side parent.0 q (record { node = node; at = at; inside = inside; parent = up; page = page })
      (rw (at, up, above_at) (ap Some (sym side_is)))

  pub step-jump : (k : ℕ) (parent : NodeId) (node above : Node) (side : Side) (jump : Jump) → t.nodes k ≡ Some node → node.parent ≡ Some parent →
      t.nodes parent.0 ≡ Some above → side ≡ side_of above k → jump.to ≡ parent → jump.side ≡ side → jump.shift ≡ node.first → IsJump t k jump
  step-jump k parent node above side jump at up above_at side_is to side_same shift = record {
    there = λ n n_at some. ap (λ (x : NodeId). is_some (t.nodes x.0)) to ∙ ap is_some above_at;
    rises = λ p n n_at inside below clear.
        let seen = ap (λ (x : Node). x.seen) (some_same (sym n_at ∙ at)) in
        subst (λ (x : NodeId). Rises t k p jump.side x.0 (p + jump.shift)) (sym to)
        (subst (λ s. Rises t k p s parent.0 (p + jump.shift)) (sym side_same)
        (step-rises k p parent node above side at up above_at side_is (omega arith) (p + jump.shift) (omega (arith, shift))));
  }

  -- two in a row
  pub joined-jump : (k : ℕ) (one next both : Jump) (node : Node) (pages turned : ℕ) → IsJump t k one → IsJump t one.to.0 next → t.nodes one.to.0 ≡ Some node →
      IsSome (t.nodes next.to.0) → ((q : ℕ) → bit_at pages (q % 64) ≡ 0 → t.slots node.list.0 q ≡ None) →
      ((p : ℕ) → bit_at turned (p % 64) ≡ 0 → bit_at (bit_or pages next.barred) ((p + one.shift) % 64) ≡ 0) →
      both.to ≡ next.to → both.side ≡ next.side → both.shift ≡ one.shift + next.shift → both.barred ≡ bit_or one.barred turned →
      both.end + one.shift ≤ next.end → both.end + one.shift ≤ node.seen → both.end ≤ one.end → IsJump t k both
  joined-jump k one next both node pages turned first second at there bare turns to side shift barred next_end seen end = record {
    there = λ n n_at some. ap (λ (x : NodeId). is_some (t.nodes x.0)) to ∙ there;
    rises = λ p n n_at inside below clear.
        let parts = either-clear one.barred turned (p % 64) (ap (λ w. bit_at w (p % 64)) (sym barred) ∙ clear) in
        let inner = either-clear pages next.barred ((p + one.shift) % 64) (turns p parts.1) in
        let low = first.rises p n n_at inside (omega arith) parts.0 in
        let high = second.rises (p + one.shift) node at (omega arith) (omega arith) inner.1 in
        let way = rises-reach t one.to.0 (p + one.shift) next.side next.to.0 ((p + one.shift) + next.shift) node at (bare (p + one.shift) inner.0) high in
        let whole = rises-on t k p one.side one.to.0 (p + one.shift) next.side next.to.0 ((p + one.shift) + next.shift) low way in
        let page : (p + one.shift) + next.shift ≡ p + both.shift = omega (arith, shift) in
        subst (λ (x : NodeId). Rises t k p both.side x.0 (p + both.shift)) (sym to)
        (subst (λ s. Rises t k p s next.to.0 (p + both.shift)) (sym side)
        (subst (λ q. Rises t k p next.side next.to.0 q) page whole));
  }

  -- what the table has of a node serves it
  pub served-rises : (next : ℕ) (table : JumpTable) → AreJumps t next table → (k p : ℕ) (place : Place) (node : Node) → IsServedByJump table k p place → t.nodes k ≡ Some node →
      p < node.seen → Rises t k p place.side place.node.0 place.page
  served-rises next table are k p place node served at inside =
      let jump = served.jump in
      let rises = (are.jumps k jump served.has served.taken).rises p node at inside served.below served.open_page in
      subst (λ s. Rises t k p s place.node.0 place.page) (sym served.side)
      (subst (λ (x : NodeId). Rises t k p jump.side x.0 place.page) (sym served.node)
      (subst (λ q. Rises t k p jump.side jump.to.0 q) (sym served.page) rises))

-- A walk from page p of node k, that began at so many steps, has come to page q of node h, whose list has no row there. The
-- steps that it has taken and may yet take are not more than those for each node above k.
pub record IsRising (t : Tree) (rows k p start steps h q : ℕ) : Type 0 where
  pub node : Node
  pub climbing : IsClimbing t k p h q node
  pub cost : (most : ℕ) → IsMostOfLookUp rows most →
      steps + depth t.nodes t.lists h * most ≤ start + depth t.nodes t.lists k * most

pub rising-start : (t : Tree) (rows k p start : ℕ) → IsSomeAnd (t.nodes k) (λ n. t.slots n.list.0 p ≡ None) → IsRising t rows k p start start k p
rising-start t rows k p start bare = at (t.nodes k) refl
  where
    at : (o : Option Node) → t.nodes k ≡ o → IsRising t rows k p start start k p
    at None is = absurd (rw is at bare)
    at (Some node) is = record { node = node; climbing = climb-start t k p node is bare; cost = λ most m. omega arith }

module _ (t : Tree) (f : IsForest t.nodes t.lists) where
  -- the parent has every page of the window
  pub window-fits : (k : ℕ) (parent : NodeId) (node above : Node) → t.nodes k ≡ Some node → node.parent ≡ Some parent → t.nodes parent.0 ≡ Some above →
      node.first + node.seen ≤ above.count
  window-fits k parent node above at up above_at =
      let below = f.by.below parent.0 k node at up in
      subst (λ (n : Node). node.first + node.seen ≤ n.count) (some_same (sym below.at ∙ above_at)) below.window

  -- a node to which a walk rises is there
  pub rises-there : (k p : ℕ) (side : Side) (h q : ℕ) → Rises t k p side h q → IsSome (t.nodes h)
  rises-there k p side h q rises = elim rises.further [
    | inl here ↦
        let above = above-hidden t f k p rises.j rises.r rises.step in
        subst (λ j. IsSome (t.nodes j)) here.0 (ap is_some above.1)
    | inr way ↦ ap is_some (reach-hidden t f rises.j rises.r side h q way).1
  ]

  -- ---- walks by jumps

  -- the node to which a way leads is nearer to the root
  depth-reach : (k p : ℕ) (side : Side) (h q : ℕ) → Reaches t k p side h q → depth t.nodes t.lists h + 1 ≤ depth t.nodes t.lists k
  depth-reach k p side h q = reach-each t side h q (λ k p. depth t.nodes t.lists h + 1 ≤ depth t.nodes t.lists k)
      (λ k p c is. let up = depth-up t.nodes t.lists f k h c.node c.at c.parent in omega arith)
      (λ k p j r c _ ih. let up = depth-up t.nodes t.lists f k j c.node c.at c.parent in omega arith) k p

  way-joined : (k p : ℕ) (from : Option Side) (h q : ℕ) (side : Side) (g r : ℕ) → Arrives t k p from h q → Reaches t h q side g r → Reaches t k p side g r
  way-joined k p None h q side g r way on =
      subst (λ i. Reaches t i p side g r) (sym way.0) (subst (λ x. Reaches t h x side g r) (sym way.1) on)
  way-joined k p (Some s) h q side g r way on = reach-then t k p s h q side g r way on

  -- one look-up more, and a node less at least
  look_cost : (rows most steps now up down total : ℕ) → IsMostOfLookUp rows most → 2 ^ (now - steps) ≤ (rows + 1) ^ 2 → up + 1 ≤ down →
      steps + down * most ≤ total → now + up * most ≤ total
  look_cost rows most steps now up down total h looked less room =
      let few = h.most_is (now - steps) looked in
      let more = down - (up + 1) in
      let all : down ≡ up + 1 + more = omega arith in
      let wide : down * most ≡ up * most + most + more * most = ap (λ d. d * most) all ∙ omega arith in
      omega arith

  -- a look-up in the list of one node costs no more than one for each node up to the root
  pub cost_of_one : (rows k start now : ℕ) (node : Node) → t.nodes k ≡ Some node → 2 ^ (now - start) ≤ (rows + 1) ^ 2 →
      (most : ℕ) → IsMostOfLookUp rows most → now ≤ start + depth t.nodes t.lists k * most
  cost_of_one rows k start now node at looked most m =
      let few = m.most_is (now - start) looked in
      let some = depth-some t.nodes t.lists f k node at in
      let up = depth t.nodes t.lists k - 1 in
      let all : depth t.nodes t.lists k ≡ up + 1 = omega arith in
      omega (arith, ap (λ d. d * most) all)

  module _ (rows k p start steps h q : ℕ) (c : IsRising t rows k p start steps h q) where
    -- what it cost to come here, where no look-up was done since
    pub rise-ended : (most : ℕ) → IsMostOfLookUp rows most → steps + most ≤ start + depth t.nodes t.lists k * most
    rise-ended most m =
        let some = depth-some t.nodes t.lists f h c.node c.climbing.there in
        let up = depth t.nodes t.lists h - 1 in
        let all : depth t.nodes t.lists h ≡ up + 1 = omega arith in
        let before = c.cost most m in
        omega (arith, ap (λ d. d * most) all)

    -- the walk ends with nothing at a page outside the node's window
    pub rise-past : ((node : Node) → t.nodes h ≡ Some node → node.seen ≤ q) → walk t k p ≡ None
    rise-past outside = climb-past t f k p h q c.node c.climbing (outside c.node c.climbing.there)

    module _ (side : Side) (g r : ℕ) (above : Node) (now : ℕ) (rises : Rises t h q side g r) (above_at : t.nodes g ≡ Some above)
        (looked : 2 ^ (now - steps) ≤ (rows + 1) ^ 2) where
      on : Reaches t h q side g r
      on = rises-reach t h q side g r c.node c.climbing.there c.climbing.free rises

      way : Reaches t k p side g r
      way = way-joined k p c.climbing.from h q side g r c.climbing.way on

      cost_on : (most : ℕ) → IsMostOfLookUp rows most → now + depth t.nodes t.lists g * most ≤ start + depth t.nodes t.lists k * most
      cost_on most m = look_cost rows most steps now (depth t.nodes t.lists g) (depth t.nodes t.lists h) (start + depth t.nodes t.lists k * most) m looked
          (depth-reach h q side g r on) (c.cost most m)

      -- the node has a row there, at which the walk ends
      pub rise-found : (slot : Slot) → t.slots above.list.0 r ≡ Some slot → walk t k p ≡ Some (record { node = g; page = r; side = Some side; slot = slot })
      rise-found slot row = walk-arrives t f k p (Some side) g r slot way (record { node = above; at = above_at; row = row })

      pub rise-cost : (most : ℕ) → IsMostOfLookUp rows most → now + most ≤ start + depth t.nodes t.lists k * most
      rise-cost most m =
          let some = depth-some t.nodes t.lists f g above above_at in
          let up = depth t.nodes t.lists g - 1 in
          let all : depth t.nodes t.lists g ≡ up + 1 = omega arith in
          let after = cost_on most m in
          omega (arith, ap (λ d. d * most) all)

      -- it has none
      pub rise-on : t.slots above.list.0 r ≡ None → IsRising t rows k p start now g r
      rise-on free = record {
        node = above;
        climbing = record { from = Some side; there = above_at; way = way; free = free };
        cost = cost_on;
      }

      pub rise-less : depth t.nodes t.lists g < depth t.nodes t.lists h
      rise-less = let less = depth-reach h q side g r on in omega arith

-- ---- the table

-- a jump that is to be taken was, where the serial numbers are the same
taken-same : (old new : JumpTable) (jump : Jump) → ((k : ℕ) → serial_in new k ≡ serial_in old k) → IsCurrentJump new jump → IsCurrentJump old jump
taken-same old new jump serials taken = record { some = taken.some; same = sym (serials jump.to.0) ∙ taken.same }

-- a node gets a jump that is one of its own
pub given-jumps : (t : Tree) (next k : ℕ) (jump : Option Jump) (old new : JumpTable) → AreJumps t next old → IsGiven new k jump →
    ((j : ℕ) → j ≢ k → jump_in new j ≡ jump_in old j) → ((j : ℕ) → serial_in new j ≡ serial_in old j) →
    ((one : Jump) → jump ≡ Some one → IsNewJump t old k one) → AreJumps t next new
given-jumps t next k jump old new are given others serials right = record {
  jumps = λ j one has taken. elim (cases_eq j k) [
    | inl here ↦ subst (λ i. IsJump t i one) (sym here) (right one (mine j one here has)).is
    | inr apart ↦ are.jumps j one (sym (others j apart) ∙ has) (taken-same old new one serials taken)
  ];
  made = λ j one has. elim (cases_eq j k) [
    | inl here ↦ (let same = (right one (mine j one here has)).serial in let was = are.serials one.to.0 in omega arith)
    | inr apart ↦ are.made j one (sym (others j apart) ∙ has)
  ];
  serials = λ j. let was = are.serials j in let same = serials j in omega arith;
}
  where
    mine : (j : ℕ) (one : Jump) → j ≡ k → jump_in new j ≡ Some one → jump ≡ Some one
    mine j one here has = elim given [
      | inl is ↦ sym is ∙ (ap (jump_in new) (sym here) ∙ has)
      | inr none ↦ absurd (let nothing = sym (ap (jump_in new) here ∙ none) ∙ has in cc)
    ]

-- what two jumps are as one could stand in the table, where the second could
pub joined-new : (t : Tree) (table : JumpTable) (k : ℕ) (next : Jump) (both : Option Jump) →
    IfSome both (λ it. IsJump t k it × (it.serial ≡ next.serial) × (it.to ≡ next.to)) → serial_in table next.to.0 ≡ next.serial → IsSome (t.nodes next.to.0) →
    IfSome both (λ it. IsNewJump t table k it × IsSome (t.nodes it.to.0))
joined-new t table k next None is same there = tt
joined-new t table k next (Some it) is same there = (
  record { is = is.0; serial = ap (λ (x : NodeId). serial_in table x.0) is.2 ∙ (same ∙ sym is.1) },
  ap (λ (x : NodeId). is_some (t.nodes x.0)) is.2 ∙ there,
)

pub some-jump : (t : Tree) (table : JumpTable) (k : ℕ) (jump : Option Jump) → IfSome jump (λ one. IsNewJump t table k one × IsSome (t.nodes one.to.0)) →
    (one : Jump) → jump ≡ Some one → IsNewJump t table k one
some-jump t table k None right one is = absurd (cc)
some-jump t table k (Some has) right one is = subst (IsNewJump t table k) (some_same is) right.0

-- a table with the same jumps and serial numbers
pub same-jumps : (t : Tree) (next : ℕ) (old new : JumpTable) → ((k : ℕ) → jump_in new k ≡ jump_in old k) → ((k : ℕ) → serial_in new k ≡ serial_in old k) →
    AreJumps t next old → AreJumps t next new
same-jumps t next old new same serials are = record {
  jumps = λ k jump has taken. are.jumps k jump (sym (same k) ∙ has) (taken-same old new jump serials taken);
  made = λ k jump has. are.made k jump (sym (same k) ∙ has);
  serials = λ k. let was = are.serials k in let now = serials k in omega arith;
}

-- there are none
pub empty-jumps : (t : Tree) (next : ℕ) (table : JumpTable) → 1 ≤ next → ((k : ℕ) → jump_in table k ≡ None) → ((k : ℕ) → serial_in table k ≡ 0) → AreJumps t next table
empty-jumps t next table some none numbers = record {
  jumps = λ k jump has taken. absurd (let nothing = none k in cc);
  made = λ k jump has. absurd (let nothing = none k in cc);
  serials = λ k. let is = numbers k in omega arith;
}

-- ---- the list of jumps

-- a place more, with what a place without anything reads as
pub place-pushed : {A : Type 0} (none : A) (xs ys : List A) (k : ℕ) → ys ≡ xs ++ none ∷ [] → slice_index_or ys k none ≡ slice_index_or xs k none
place-pushed {A} none xs ys k is = ap (λ zs. slice_index_or zs k none) is ∙ more xs k
  where
    more : (xs : List A) (k : ℕ) → slice_index_or (xs ++ none ∷ []) k none ≡ slice_index_or xs k none
    more [] zero = refl
    more [] (suc k) = refl
    more (x ∷ xs) zero = refl
    more (x ∷ xs) (suc k) = more xs k
