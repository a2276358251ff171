use Rattle.std.proofs.Common.{◌-◌}
use Rattle.vm_model.specs.Naming.Pins.{is_pinned}
use Rattle.pin_table.specs.Table.{pins_of}
use Rattle.vmo_ops.proofs.CopyRows.{IsOwningCopies}
use Rattle.vmo_ops.proofs.copies.own_copies.Given as goal

abbrev pub invariant-loop-page : goal.invariant-loop-page
invariant-loop-page g l =
    IsOwningCopies (is_pinned (pins_of l.pins) l.of.0) l.first l.seen l.snapshot.0 (g.P.PageStore.content l.initial.store)
    (g.P.PageStore.content l.store) l.from (g.P.PageStore.spare l.store)

abbrev pub decreases-loop-page : goal.decreases-loop-page
decreases-loop-page g l = l.seen - l.from
