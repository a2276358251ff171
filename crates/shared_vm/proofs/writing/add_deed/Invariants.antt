use Rattle.std.proofs.Common.{◌≤◌, take}
use Rattle.std.specs.List.{concat}
use Rattle.shared_vm.specs.Texts.{deed_lines}
use Rattle.shared_vm.specs.inside.Noting.{deed_of}
use Rattle.shared_vm.specs.inside.Pending.{PassesOn}
use Rattle.shared_vm.proofs.writing.add_deed.Given as goal

abbrev pub invariant-loop-index : goal.invariant-loop-index
invariant-loop-index g l = record {
  passed : PassesOn (g.K.Sink.contents l.fn.sink) l.fn.pending (concat (take l.index (deed_lines (deed_of l.actor l.answer)))) (g.K.Sink.contents l.sink) l.pending;
  later : g.K.Sink.faults l.fn.sink ≤ g.K.Sink.faults l.sink;
}
