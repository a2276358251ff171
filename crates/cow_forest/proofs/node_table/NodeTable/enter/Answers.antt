use Rattle.cow_forest.proofs.Words.{arith, entries_of}
use Rattle.cow_forest.proofs.PlaceLaws.{entered-placed, entered-in}
use Rattle.cow_forest.proofs.node_table.NodeTable.enter.Goals as goal

pub invariant_of-self : goal.invariant_of-self
invariant_of-self c =
    let place = c.place_of-place.ensures in
    record { placed = entered-placed (entries_of c.self.inside) c.self.invariant.placed c.args.number _ place (omega (arith, place, c.self.ranges)) c.args.node }

pub returns-clause-nodes : goal.returns-clause-nodes
returns-clause-nodes c =
    let place = c.place_of-place.ensures in
    rw (← c.self.view_is)
    (entered-in (entries_of c.self.inside) c.self.invariant.placed c.args.number _ place (omega (arith, place, c.self.ranges)) c.args.node _ _ c.displace.ensures.nodes)
