-- Laws of what a search has still to enter: it gets less with each step.
use Rattle.cow_split.proofs.Words.{◌≡◌, ℕ, zero, suc, ◌+◌, ◌-◌, ◌*◌, ◌^◌, ◌<◌, ◌≤◌, Option, Some, refl, sym, ap, ◌∙◌, arith, Node, Side}
use Rattle.cow_split.proofs.Words.{Nodes, link_to, side_of, side_in, IsForest, Cursor, depth, weight_from, weight, weight_beside}
use Rattle.cow_split.proofs.Words.{weight_after, weight_ahead, pow-zero, pow-suc}
use Rattle.cow_arena.proofs.ReachLaws.{child-there, side-of-child}
use Rattle.cow_split.proofs.CostLaws.{sum-step, depth-up, depth-few}

third : (n up down : ℕ) → down ≡ up + 1 → down ≤ n → 3 ^ (n - up) ≡ 3 * 3 ^ (n - down)
third n up down e few =
    let more : n - up ≡ suc (n - down) = omega arith in
    ap (λ d. 3 ^ d) more ∙ (pow-suc 3 (n - down) ∙ omega arith)

some_weight : (n : ℕ) → 1 ≤ 3 ^ n
some_weight zero = rw (pow-zero 3) (omega arith)
some_weight (suc n) = let before = some_weight n in omega (arith, pow-suc 3 n)

module _ (nodes : Nodes) (lists : ℕ) (f : IsForest nodes lists) where
  weight-some : (k : ℕ) → 1 ≤ weight nodes lists k
  weight-some k = some_weight (lists - depth nodes lists k)

  weight-child : (k h : ℕ) (node : Node) → nodes k ≡ Some node → node.parent ≡ link_to h → weight nodes lists h ≡ 3 * weight nodes lists k
  weight-child k h node at parent =
      third lists (depth nodes lists h) (depth nodes lists k) (depth-up nodes lists f k h node at parent) (depth-few nodes lists f k)

  after-left : (k h : ℕ) (node : Node) → nodes k ≡ Some node → node.parent ≡ link_to h → side_in nodes k ≡ Some Side.Left →
      weight_after nodes lists k ≡ weight nodes lists k + weight_after nodes lists h
  after-left k h node at parent is =
      let beside : weight_beside nodes lists k ≡ weight nodes lists k = rw is refl in
      let step = sum-step nodes lists f (weight_beside nodes lists) k h node at parent in
      step ∙ ap (λ w. w + weight_after nodes lists h) beside

  after-right : (k h : ℕ) (node : Node) → nodes k ≡ Some node → node.parent ≡ link_to h → side_in nodes k ≡ Some Side.Right →
      weight_after nodes lists k ≡ weight_after nodes lists h
  after-right k h node at parent is =
      let beside : weight_beside nodes lists k ≡ 0 = rw is refl in
      let step = sum-step nodes lists f (weight_beside nodes lists) k h node at parent in
      step ∙ (ap (λ w. w + weight_after nodes lists h) beside ∙ omega arith)

  -- from a node on to its left child
  pub less-onward : (k l : ℕ) (node : Node) → nodes k ≡ Some node → node.left ≡ link_to l → weight_ahead nodes lists l < weight_ahead nodes lists k
  less-onward k l node at left =
      let it = child-there nodes lists f k l node Side.Left at left in
      let is = side-of-child nodes lists f k l node Side.Left at left in
      omega (arith, after-left l k it.node it.at it.parent is, weight-child l k it.node it.at it.parent, weight-some l)

  module _ (k h : ℕ) (node above : Node) (at : nodes k ≡ Some node) (parent : node.parent ≡ link_to h) (above_at : nodes h ≡ Some above) where
    side-is : (s : Side) → side_of above k ≡ s → side_in nodes k ≡ Some s
    side-is s is = rw (at, parent, above_at) (ap Some is)

    -- from a left child on to the right one
    pub less-left : (r : ℕ) → side_of above k ≡ Side.Left → above.right ≡ link_to r → weight_ahead nodes lists r ≤ weight_after nodes lists k
    less-left r is right =
        let it = child-there nodes lists f h r above Side.Right above_at right in
        let on = side-of-child nodes lists f h r above Side.Right above_at right in
        let there = after-right r h it.node it.at it.parent on in
        let here = after-left k h node at parent (side-is Side.Left is) in
        let one = weight-child k h node at parent in
        let two = weight-child r h it.node it.at it.parent in
        omega arith

    -- from a right child on up to its parent
    pub same-right : side_of above k ≡ Side.Right → weight_after nodes lists h ≡ weight_after nodes lists k
    same-right is = sym (after-right k h node at parent (side-is Side.Right is))

  -- where a search goes on at a cursor
  pub weight-here : (o : Option Cursor) (from : Cursor) → o ≡ Some from → weight_from nodes lists o ≡ weight_ahead nodes lists from.at.0
  weight-here o from is = ap (weight_from nodes lists) is

  pub less-after : (k n : ℕ) → n ≤ weight_after nodes lists k → n < weight_ahead nodes lists k
  less-after k n h = let some = weight-some k in omega arith
