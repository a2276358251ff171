use Rattle.cow_forest.proofs.Words.{arith, entries_of}
use Rattle.cow_forest.proofs.PlaceLaws.{left-placed, left-in}
use Rattle.cow_forest.proofs.node_table.NodeTable.leave.Goals as goal

pub invariant_of-self : goal.invariant_of-self
invariant_of-self c =
    let place = c.place_of-place.ensures in
    rw c.unless_own.ensures
    (record { placed = left-placed (entries_of c.self.inside) c.self.invariant.placed c.args.number _ place (omega (arith, place, c.self.ranges)) _ })

pub returns : goal.returns
returns c =
    let place = c.place_of-place.ensures in
    rw (← c.self.view_is) (rw c.unless_own.ensures
    (left-in (entries_of c.self.inside) c.self.invariant.placed c.args.number _ place (omega (arith, place, c.self.ranges)) _ _ c.forget.ensures))
