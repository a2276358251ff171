use Rattle.cow_arena.proofs.ArenaLaws.{new_arena}
use Rattle.cow_arena.proofs.arena.CowArena.new.Goals as goal

pub invariant_of-result : goal.invariant_of-result
invariant_of-result c = (new_arena c.new.result c.new.ensures.empty).0

pub returns-clause-forest : goal.returns-clause-forest
returns-clause-forest c = (new_arena c.new.result c.new.ensures.empty).0.forest

pub returns-clause-visible : goal.returns-clause-visible
returns-clause-visible c = (new_arena c.new.result c.new.ensures.empty).1
