use Rattle.source_vm.specs.Table.{backings_of, loose_links_of}
use Rattle.source_vm.proofs.SupplyLaws.{IsSupplying}
use Rattle.source_vm.proofs.ranges.supply_range.Given as goal

abbrev pub invariant-loop-page : goal.invariant-loop-page
invariant-loop-page g l =
    IsSupplying (backings_of l.table) (loose_links_of l.table) l.fn.pages.koid.0 (g.P.PageStore.content l.initial.store) (g.P.PageStore.content l.store) l.fn.pages.first l.page l.page-end
    (g.P.PageStore.spare l.store)
