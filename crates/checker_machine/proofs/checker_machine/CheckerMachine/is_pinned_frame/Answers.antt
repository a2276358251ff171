use Rattle.checker_machine.specs.Machine.{checker_machine_of}
use Rattle.checker_machine.specs.inside.Fields.{checker_parts_of}
use Rattle.checker_machine.proofs.PinnedLaws.{pinned_found, pinned_nowhere}
use Rattle.checker_machine.proofs.checker_machine.CheckerMachine.is_pinned_frame.Goals as goal

pub returns-in-Some : goal.returns-in-Some
unfolding checker_machine_of
returns-in-Some c =
    rw (← c.self.view_is) (pinned_found (checker_machine_of (checker_parts_of c.self.inside)) c.args.tag.0 c.in-Some.koid.0 c.in-Some.page c.pinned.result c.self.invariant.good c.in-Some.ensures.some
    (rw c.pins.ensures at c.pinned.ensures))

pub returns-in-None : goal.returns-in-None
unfolding checker_machine_of
returns-in-None c = rw (← c.self.view_is) (pinned_nowhere (checker_machine_of (checker_parts_of c.self.inside)) c.args.tag.0 c.in-None.ensures.none)
