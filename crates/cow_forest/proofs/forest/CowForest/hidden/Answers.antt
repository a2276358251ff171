use Rattle.cow_forest.proofs.Words.{arith, forest_of}
use Rattle.cow_forest.proofs.DepthLaws.{depth-vmos}
use Rattle.cow_forest.proofs.forest.CowForest.hidden.Goals as goal

pub returns-clause-deep : goal.returns-clause-deep
returns-clause-deep c = rw (← c.self.view_is)
    (depth-vmos (forest_of c.self.inside) c.self.invariant.store c.hidden.ensures.fewer
    (λ k there. omega (arith, c.capacity-room.ensures.below k there, c.capacity-room.ensures.capacity)))
