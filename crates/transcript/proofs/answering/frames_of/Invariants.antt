use Rattle.std.proofs.Common.{◌≤◌, length}
use Rattle.checker_machine.specs.Machine.{checker_machine_of}
use Rattle.transcript.proofs.SeenLaws.{HasFirst}
use Rattle.transcript.proofs.answering.frames_of.Given as goal

abbrev pub invariant-loop-at : goal.invariant-loop-at
invariant-loop-at l = record {
  few : length l.frames.items ≤ l.at;
  first : HasFirst (checker_machine_of l.machine) l.pin.0 l.at l.frames.items;
}
