use Rattle.std.proofs.Common.{◌-◌, ◌≤◌}
use Rattle.vm_base.specs.Search.{HasNone}
use Rattle.source_vm.specs.Pages.{is_clean_at}
use Rattle.source_vm.proofs.ranges.first_clean.Given as goal

abbrev pub invariant-loop-page : goal.invariant-loop-page
invariant-loop-page g l = record {
  order : l.first ≤ l.from;
  inside : l.from ≤ l.end;
  none : HasNone (is_clean_at l.backing (g.P.PageStore.content l.store) l.v.0) l.first l.from;
}

abbrev pub decreases-loop-page : goal.decreases-loop-page
decreases-loop-page g l = l.end - l.from
