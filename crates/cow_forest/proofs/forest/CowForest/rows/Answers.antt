use Rattle.cow_forest.proofs.Words.{forest_of}
use Rattle.cow_forest.proofs.ReachedLaws.{reached-few}
use Rattle.cow_forest.proofs.forest.CowForest.rows.Goals as goal

pub returns-clause-reached : goal.returns-clause-reached
returns-clause-reached c =
    rw (← c.self.view_is) (reached-few (forest_of c.self.inside).arena (forest_of c.self.inside).rows c.self.invariant.store.exact.forest)
