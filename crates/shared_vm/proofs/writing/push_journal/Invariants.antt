use Rattle.std.proofs.Common.{◌≤◌, [], map, take}
use Rattle.std.specs.List.{concat}
use Rattle.shared_vm.specs.Texts.{deed_text}
use Rattle.shared_vm.specs.inside.Pending.{PassesOn}
use Rattle.shared_vm.proofs.writing.push_journal.Given as goal

abbrev pub invariant-loop-index : goal.invariant-loop-index
invariant-loop-index g l = record {
  passed : PassesOn (g.K.Sink.contents l.fn.sink) [] (concat (take l.index (map deed_text l.notes.deeds))) (g.K.Sink.contents l.sink) l.pending;
  later : g.K.Sink.faults l.fn.sink ≤ g.K.Sink.faults l.sink;
}
