use Rattle.cow_forest.proofs.Words.{◌≡◌, ◌+◌, ◌-◌, subst, arith, forest_of, IsReadyToZero}
use Rattle.cow_forest.proofs.ContentLaws.{vmo-found}
use Rattle.cow_forest.proofs.ZeroedLaws.{range-ready, are-ranged, content-ranged, spare-ranged}
use Rattle.cow_forest.proofs.forest.CowForestPageStore.zero_pages.Goals as goal

pub get-node-requires : goal.get-node-requires
get-node-requires c = vmo-found (forest_of c.self.inside) c.self.invariant.store c.args.v.0 (rw (← c.self.view_is) at c.requires.vmo)

pub zero_in_turn-requires-clause-ready : goal.zero_in_turn-requires-clause-ready
zero_in_turn-requires-clause-ready c =
    let place : c.args.first + (c.args.end - c.args.first) ≡ c.args.end = omega (arith, c.requires.range) in
    let range = rw (← c.self.view_is) at c.requires.range in
    subst (λ n. IsReadyToZero c.self.inside.arena c.self.inside.lists c.self.inside.frames c.get-node.result.0 c.args.first n) place
    (range-ready _ c.self.invariant.store c.args.v.0 _ c.get-node.ensures c.args.first (c.args.end - c.args.first) (omega (arith, range)) (rw (← c.self.view_is) at c.requires.room))

pub invariant_of-self : goal.invariant_of-self
invariant_of-self c = are-ranged c.self.inside c.self.invariant c.args.v.0 _ c.get-node.ensures _ _ _ _ c.zero_in_turn.ensures.some

pub returns-clause-zero : goal.returns-clause-zero
returns-clause-zero c =
    rw (← c.self.view_is) (content-ranged _ c.self.invariant.store c.args.v.0 _ c.get-node.ensures _ _ _ _ c.zero_in_turn.ensures.some c.zero_in_turn.ensures.zero)

pub returns-clause-spare : goal.returns-clause-spare
returns-clause-spare c =
    let range = rw (← c.self.view_is) at c.requires.range in
    rw (← c.self.view_is) (spare-ranged _ c.self.invariant.store c.args.v.0 _ c.get-node.ensures _ _ _ _ c.zero_in_turn.ensures.some
    (c.args.end - c.args.first) (omega (arith, range)) (omega (arith, range)))
