use Rattle.checker_machine.specs.Machine.{checker_machine_of}
use Rattle.checker_machine.specs.inside.Fields.{checker_parts_of}
use Rattle.checker_machine.proofs.StartLaws.{start_nothing, filled}
use Rattle.checker_machine.proofs.checker_machine.CheckerMachine.fill.Goals as goal

pub fill-requires-clause-empty : goal.fill-requires-clause-empty
fill-requires-clause-empty c = start_nothing (checker_parts_of c.self.inside) (rw (← c.self.view_is) at c.requires.empty)

pub invariant_of-self : goal.invariant_of-self
invariant_of-self c =
    (filled (checker_parts_of c.self.inside) c.fill.new.self c.args.frames (rw (← c.self.view_is) at c.requires.empty) c.fill.result c.fill.ensures.ok c.fill.ensures.err).1

pub returns-clause-filled : goal.returns-clause-filled
returns-clause-filled c =
    rw (← c.self.view_is)
    (filled (checker_parts_of c.self.inside) c.fill.new.self c.args.frames (rw (← c.self.view_is) at c.requires.empty) c.fill.result c.fill.ensures.ok c.fill.ensures.err).0

pub returns-clause-good : goal.returns-clause-good
unfolding checker_machine_of
returns-clause-good c =
    (filled (checker_parts_of c.self.inside) c.fill.new.self c.args.frames (rw (← c.self.view_is) at c.requires.empty) c.fill.result c.fill.ensures.ok c.fill.ensures.err).1.good
