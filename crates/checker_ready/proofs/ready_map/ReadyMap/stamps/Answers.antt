use Rattle.checker_ready.specs.Notes.{notes_of}
use Rattle.checker_ready.proofs.RowLaws.{IsReadySomewhere-of}
use Rattle.checker_ready.proofs.ready_map.ReadyMap.stamps.Goals as goal

pub returns-clause-shown : goal.returns-clause-shown
returns-clause-shown c = rw (← c.self.view_is) (IsReadySomewhere-of (notes_of c.self.inside) c.self.invariant)
