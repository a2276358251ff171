use Rattle.source_vm.specs.Table.{IsIndexed, source_state_of}
use Rattle.source_vm.proofs.ClosingLaws.{IsLeaving}
use Rattle.source_vm.proofs.closing.leave_upwards.Given as goal

abbrev pub invariant-loop-top : goal.invariant-loop-top
invariant-loop-top g l = record {
  leaving : IsLeaving (source_state_of (g.P.PageStore.content l.initial.store) l.initial.table) (source_state_of (g.P.PageStore.content l.store) l.table) l.top.0;
  indexed : IsIndexed l.table;
}

abbrev pub decreases-loop-top : goal.decreases-loop-top
decreases-loop-top g l = l.top.0
