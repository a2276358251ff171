use Rattle.cow_forest.proofs.Words.{arith, forest_of}
use Rattle.cow_forest.proofs.ContentLaws.{used-taken}
use Rattle.cow_forest.proofs.forest.CowForestPageStore.free.Goals as goal

pub returns : goal.returns
returns c = rw (← c.self.view_is) (omega (arith, c.free.ensures, used-taken (forest_of c.self.inside) c.self.invariant.store))
