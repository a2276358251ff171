-- Laws of a climb from a page of a node, which has no row of its own there, to the row that shows it.
use Rattle.cow_split.proofs.Words.{◌≡◌, ℕ, ◌+◌, ◌<◌, ◌≤◌, Option, None, Some, refl, sym, ap, ◌∙◌, subst, arith, IsSomeAnd, some_same, Slot}
use Rattle.cow_split.proofs.Words.{NodeId, Node, Side, side_of, side_in, Tree, from_side, walk, IsForest, Climbs, Arrives, Reaches, depth}
use Rattle.cow_arena.proofs.WalkLaws.{walk-past}
use Rattle.cow_arena.proofs.ReachLaws.{walk-arrives, walk-from, reach-after}
use Rattle.cow_split.proofs.CostLaws.{depth-up}

-- A climb from page p of node k has come to page q of this node h, whose list has no row there.
pub record IsClimbing (t : Tree) (k p h q : ℕ) (node : Node) : Type 0 where
  pub from : Option Side
  pub there : t.nodes h ≡ Some node
  pub way : Arrives t k p from h q
  pub free : t.slots node.list.0 q ≡ None

pub climb-start : (t : Tree) (k p : ℕ) (node : Node) → t.nodes k ≡ Some node → IsSomeAnd (t.nodes k) (λ n. t.slots n.list.0 p ≡ None) →
    IsClimbing t k p k p node
climb-start t k p node at bare = record { from = None; there = at; way = (refl, refl); free = rw at at bare }

module _ (t : Tree) (f : IsForest t.nodes t.lists) (k p h q : ℕ) (node : Node) (c : IsClimbing t k p h q node) where
  -- the walk ends with nothing at this node
  pub climb-past : node.seen ≤ q → walk t k p ≡ None
  climb-past outside = walk-from t f k p c.from h q c.way ∙ ap (from_side c.from) (walk-past t f h q node c.there c.free outside)

  pub climb-root : node.parent ≡ None → walk t k p ≡ None
  climb-root root = climb-past (let none = f.by.root h node c.there root in omega arith)

  -- the parent has every page of the window, and is nearer to the root
  pub climb-fits : (parent : NodeId) (above : Node) → node.parent ≡ Some parent → t.nodes parent.0 ≡ Some above → node.first + node.seen ≤ above.count
  climb-fits parent above e at =
      let below = f.by.below parent.0 h node c.there e in
      subst (λ (n : Node). node.first + node.seen ≤ n.count) (some_same (sym below.at ∙ at)) below.window

  pub climb-less : (parent : NodeId) → node.parent ≡ Some parent → depth t.nodes t.lists parent.0 < depth t.nodes t.lists h
  climb-less parent e = let up = depth-up t.nodes t.lists f h parent.0 node c.there e in omega arith

  -- on to the parent
  module _ (parent : NodeId) (above : Node) (side : Side) (inside : q < node.seen) (parent_is : node.parent ≡ Some parent)
      (at : t.nodes parent.0 ≡ Some above) (side_of_is : side ≡ side_of above h) where
    way_on : Reaches t k p side parent.0 (q + node.first)
    way_on =
        let step : Climbs t h q parent.0 (q + node.first) = record {
          node = node;
          at = c.there;
          free = c.free;
          inside = inside;
          parent = parent_is;
          page = omega arith;
        } in
        let side_is : side_in t.nodes h ≡ Some side = rw (c.there, parent_is, at) (ap Some (sym side_of_is)) in
        reach-after t f k p c.from h q side parent.0 (q + node.first) c.way step side_is

    -- it has a row there, at which the walk ends
    pub climb-found : (slot : Slot) → t.slots above.list.0 (q + node.first) ≡ Some slot →
        walk t k p ≡ Some (record { node = parent.0; page = q + node.first; side = Some side; slot = slot })
    climb-found slot row = walk-arrives t f k p (Some side) parent.0 (q + node.first) slot way_on (record { node = above; at = at; row = row })

    -- it has none
    pub climb-on : t.slots above.list.0 (q + node.first) ≡ None → IsClimbing t k p parent.0 (q + node.first) above
    climb-on free = record { from = Some side; there = at; way = way_on; free = free }
