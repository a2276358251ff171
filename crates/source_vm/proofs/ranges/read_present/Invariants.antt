use Rattle.std.proofs.Common.{◌≡◌, ◌-◌, ◌≤◌, length}
use Rattle.source_vm.specs.Pages.{absent_ends}
use Rattle.source_vm.specs.Table.{backings_of, loose_links_of, source_state_of}
use Rattle.source_vm.proofs.ReadLaws.{IsReadTo}
use Rattle.source_vm.proofs.ranges.read_present.Given as goal

abbrev pub invariant-loop-page : goal.invariant-loop-page
invariant-loop-page g l = record {
  counted : l.absent ≡ length (absent_ends (backings_of l.table) (loose_links_of l.table) (g.P.PageStore.content l.store) l.v.0 l.first l.page);
  few : l.absent ≤ l.page - l.first;
  order : l.first ≤ l.page;
  read : l.absent ≡ 0 → IsReadTo (source_state_of (g.P.PageStore.content l.store) l.table) l.v.0 l.offset l.len l.page l.out;
}
