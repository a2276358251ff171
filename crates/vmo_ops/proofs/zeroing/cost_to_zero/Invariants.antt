use Rattle.std.proofs.Common.{◌-◌}
use Rattle.vm_model.specs.Contents.Content.{is_held}
use Rattle.vm_model.specs.Naming.Pins.{is_pinned}
use Rattle.pin_table.specs.Table.{pins_of}
use Rattle.vmo_ops.proofs.CountLaws.{AreCounted}
use Rattle.vmo_ops.proofs.ZeroLaws.{takes_frame}
use Rattle.vmo_ops.proofs.zeroing.cost_to_zero.Given as goal

abbrev pub invariant-loop-page : goal.invariant-loop-page
invariant-loop-page g l =
    let c = g.P.PageStore.content l.store in
    record {
      held : AreCounted (is_held c l.v.0) l.first l.from l.end l.cost.held;
      owned : AreCounted (takes_frame l.v.0 (is_pinned (pins_of l.pins) l.v.0) l.offset l.len c) l.first l.from l.end
          l.cost.owned;
    }

abbrev pub decreases-loop-page : goal.decreases-loop-page
decreases-loop-page g l = l.end - l.from
