use Rattle.std.proofs.Common.{◌-◌}
use Rattle.vm_model.specs.Naming.Pins.{is_pinned}
use Rattle.pin_table.specs.Table.{pins_of}
use Rattle.vmo_ops.proofs.ZeroLaws.{IsZeroing}
use Rattle.vmo_ops.proofs.zeroing.zero_pages.Given as goal

abbrev pub invariant-loop-v : goal.invariant-loop-v
invariant-loop-v g l =
    IsZeroing l.v.0 (is_pinned (pins_of l.pins) l.v.0) l.offset l.len (g.P.PageStore.content l.fn.store)
    (g.P.PageStore.content l.store) l.from l.end (g.P.PageStore.spare l.store)

abbrev pub decreases-loop-v : goal.decreases-loop-v
decreases-loop-v g l = l.end - l.from
