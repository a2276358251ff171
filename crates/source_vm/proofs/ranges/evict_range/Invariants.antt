use Rattle.std.proofs.Common.{◌≡◌, ◌-◌, ◌≤◌}
use Rattle.source_vm.specs.Pages.{cleared}
use Rattle.source_vm.proofs.ranges.evict_range.Given as goal

abbrev pub invariant-loop-page : goal.invariant-loop-page
invariant-loop-page g l = record {
  order : l.first ≤ l.from;
  inside : l.from ≤ l.end;
  cleared : g.P.PageStore.content l.store ≡ cleared l.backing (g.P.PageStore.content l.initial.store) l.v.0 l.first l.from;
  room : l.end - l.from ≤ g.P.PageStore.spare l.store;
}

abbrev pub decreases-loop-page : goal.decreases-loop-page
decreases-loop-page g l = l.end - l.from
