use Rattle.std.proofs.Common.{◌+◌, ◌≤◌}
use Rattle.vm_core.specs.Vm.{Agrees}
use Rattle.checks.proofs.scripts.job_steps.step_through.Given as goal

abbrev pub invariant-loop-line : goal.invariant-loop-line
invariant-loop-line g l = record {
  agrees : Agrees (g.P.PageStore.content l.store) l.batch.vm;
  next : (g.P.PageStore.content l.store).next + l.left ≤ 1000001;
}
