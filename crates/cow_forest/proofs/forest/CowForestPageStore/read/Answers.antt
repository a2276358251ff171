use Rattle.cow_forest.proofs.Words.{forest_of}
use Rattle.cow_forest.proofs.FrameLaws.{shown-taken}
use Rattle.cow_forest.proofs.forest.CowForestPageStore.read.Goals as goal

pub read-requires-clause-taken : goal.read-requires-clause-taken
read-requires-clause-taken c = shown-taken (forest_of c.self.inside) c.self.invariant.store c.args.tag.0 (rw (← c.self.view_is) at c.requires.shown)
