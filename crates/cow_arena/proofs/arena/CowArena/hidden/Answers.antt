use Rattle.cow_arena.proofs.CountLaws.{fewer_hidden}
use Rattle.cow_arena.proofs.arena.CowArena.hidden.Goals as goal

pub returns-clause-fewer : goal.returns-clause-fewer
returns-clause-fewer c = rw (← c.self.view_is) (fewer_hidden c.self.inside c.self.invariant)
