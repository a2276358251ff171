use Rattle.std.proofs.Common.{arith}
use Rattle.pin_table.specs.Table.{pin_of}
use Rattle.checker_machine.specs.Machine.{checker_machine_of}
use Rattle.checker_machine.specs.inside.Fields.{checker_parts_of}
use Rattle.checker_machine.proofs.PinnedLaws.{frame_none, frame_past, frame_there, pin_fits}
use Rattle.checker_machine.proofs.checker_machine.CheckerMachine.pinned_frame.Goals as goal

pub returns-in_default : goal.returns-in_default
unfolding checker_machine_of
returns-in_default c =
    let s = (checker_machine_of (checker_parts_of c.self.inside)).state in
    rw (← c.self.view_is) (frame_none s (s.pins c.args.pin.0) c.args.at (rw c.pins.ensures at c.in_default.ensures))

pub returns-then-at-count : goal.returns-then-at-count
unfolding checker_machine_of
returns-then-at-count c =
    let s = (checker_machine_of (checker_parts_of c.self.inside)).state in
    rw (← c.self.view_is) (frame_past s (s.pins c.args.pin.0) (pin_of (c.in-Some.koid, c.in-Some.first, c.in-Some.count)) c.args.at (rw c.pins.ensures at c.in-Some.ensures) c.if-at-count.true)

pub overflow_add-first : goal.overflow_add-first
unfolding checker_machine_of
overflow_add-first c =
    let s = (checker_machine_of (checker_parts_of c.self.inside)).state in
    let fits = pin_fits s c.args.pin.0 (pin_of (c.in-Some.koid, c.in-Some.first, c.in-Some.count)) c.args.at c.self.invariant.good.state (rw c.pins.ensures at c.in-Some.ensures) c.if-at-count.false in
    omega (arith, fits)

pub returns : goal.returns
unfolding checker_machine_of
returns c =
    let s = (checker_machine_of (checker_parts_of c.self.inside)).state in
    rw (← c.self.view_is) (frame_there s (s.pins c.args.pin.0) (pin_of (c.in-Some.koid, c.in-Some.first, c.in-Some.count)) c.args.at _ (rw c.pins.ensures at c.in-Some.ensures) c.if-at-count.false c.frame_at.ensures)
