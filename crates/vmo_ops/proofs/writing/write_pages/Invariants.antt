use Rattle.std.proofs.Common.{length}
use Rattle.vm_model.specs.Contents.Writing.{touched}
use Rattle.vmo_ops.proofs.OwningLaws.{IsOwning}
use Rattle.vmo_ops.proofs.WriteLaws.{writing}
use Rattle.vmo_ops.proofs.writing.write_pages.Given as goal

abbrev pub invariant-loop-page : goal.invariant-loop-page
invariant-loop-page g l =
    IsOwning (writing l.v.0 l.offset l.bytes) l.v.0 (g.P.PageStore.content l.initial.store)
    (touched l.offset (length l.bytes)) (g.P.PageStore.content l.store) l.page l.end (g.P.PageStore.spare l.store)
