use Rattle.cow_forest.proofs.forest.CowForest.arena.Goals as goal

pub returns-clause-store : goal.returns-clause-store
returns-clause-store c = rw (← c.self.view_is) c.self.invariant.store
