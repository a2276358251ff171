use Rattle.cow_forest.proofs.Words.{forest_of}
use Rattle.cow_forest.proofs.LeavingLaws.{node-found}
use Rattle.cow_forest.proofs.forest.CowForest.node_of.Goals as goal

pub returns-clause-there : goal.returns-clause-there
returns-clause-there c = rw (← c.self.view_is) (node-found (forest_of c.self.inside) c.self.invariant.store c.args.v.0 c.look.result c.look.ensures)
