use Rattle.std.proofs.Common.{length}
use Rattle.vm_model.specs.Contents.Writing.{touched}
use Rattle.vmo_ops.proofs.OwningLaws.{IsOwning}
use Rattle.source_vm.specs.Pages.{IsReadable}
use Rattle.source_vm.specs.Table.{backings_of, loose_links_of}
use Rattle.source_vm.proofs.WriteLaws.{filling}
use Rattle.source_vm.proofs.ranges.write_range.Given as goal

abbrev pub invariant-loop-page : goal.invariant-loop-page
invariant-loop-page g l = record {
  owning : IsOwning (filling (backings_of l.table) (loose_links_of l.table) l.v.0 l.offset l.bytes) l.v.0 (g.P.PageStore.content l.initial.store)
      (touched l.offset (length l.bytes)) (g.P.PageStore.content l.store) l.page l.end (g.P.PageStore.spare l.store);
  readable : IsReadable (g.P.PageStore.content l.store) (backings_of l.table) (loose_links_of l.table);
}
