use Rattle.std.proofs.Common.{◌+◌, ◌*◌, ◌≤◌}
use Rattle.source_vm.specs.Table.{SourcesAgree}
use Rattle.checks.proofs.scripts.source_steps.step_through.Given as goal

abbrev pub invariant-loop-line : goal.invariant-loop-line
invariant-loop-line g l = record {
  agrees : SourcesAgree (g.P.PageStore.content l.store) l.vm.table;
  next : (g.P.PageStore.content l.store).next + 2 * l.left ≤ 2000001;
}
