use Rattle.cow_forest.proofs.Words.{◌+◌, ◌≤◌, refl, sym, subst, ◌∙◌, arith, nodes_of, depth, forest_of, rows_reached, tree}
use Rattle.cow_arena.proofs.WalkLaws.{link_same}
use Rattle.cow_forest.proofs.ContentLaws.{vmo-found}
use Rattle.cow_forest.proofs.ZeroedLaws.{range-fits, range-ready, are-ranged, content-ranged, spare-ranged}
use Rattle.cow_forest.proofs.forest.CowForest.zero_range.Goals as goal

pub get-node-requires : goal.get-node-requires
get-node-requires g c = vmo-found (forest_of c.self.inside) c.self.invariant.store c.args.v.0 (rw (← c.self.view_is) at c.requires.vmo)

pub overflow_add-end : goal.overflow_add-end
overflow_add-end g c =
    omega (arith, range-fits _ c.self.invariant.store c.args.v.0 _ c.get-node.ensures c.args.first c.args.count (rw (← c.self.view_is) at c.requires.range))

pub zero_pages-requires-clause-ready : goal.zero_pages-requires-clause-ready
zero_pages-requires-clause-ready g c =
    range-ready _ c.self.invariant.store c.args.v.0 _ c.get-node.ensures c.args.first c.args.count
    (rw (← c.self.view_is) at c.requires.range) (rw (← c.self.view_is) at c.requires.room)

pub invariant_of-self : goal.invariant_of-self
invariant_of-self g c = are-ranged c.self.inside c.self.invariant c.args.v.0 _ c.get-node.ensures _ _ _ _ c.zero_pages.ensures.some

pub returns : goal.returns
returns g c = record {
  content =
      rw (← c.self.view_is) (content-ranged _ c.self.invariant.store c.args.v.0 _ c.get-node.ensures _ _ _ _ c.zero_pages.ensures.some c.zero_pages.ensures.zero);
  spare =
      rw (← c.self.view_is) (spare-ranged _ c.self.invariant.store c.args.v.0 _ c.get-node.ensures _ _ _ _ c.zero_pages.ensures.some c.args.count refl (rw (← c.self.view_is) at c.requires.range));
  cost = rw (← c.self.view_is) (λ k is.
      let same = link_same (sym c.get-node.ensures ∙ is) in
      subst (λ j. c.zero_pages.new.steps ≤ c.args.steps.now + rows_reached (tree (forest_of c.self.inside)) j c.args.first (c.args.first + c.args.count)
      + depth (nodes_of c.self.inside.arena) c.self.inside.arena.lists j) same c.zero_pages.ensures.cost);
}
