use Rattle.std.proofs.Common.{arith}
use Rattle.vm_model.specs.Naming.Pins.{is_pinned}
use Rattle.pin_table.specs.Table.{pins_of}
use Rattle.vmo_ops.proofs.ZeroLaws.{asks_for_all, asks_for_held, need-zero-most}
use Rattle.vmo_ops.proofs.zeroing.rows_to_zero.Goals as goal

pub returns-then-are_ample-clause-some : goal.returns-then-are_ample-clause-some
returns-then-are_ample-clause-some g c = (
  asks_for_all (g.P.PageStore.content c.args.store.now) c.args.v.0 c.args.offset c.args.len _ _ c.requires.touched.row (c.are_ample.ensures.few c.if-are_ample.true),
  omega (
    arith,
    c.are_ample.ensures.free c.if-are_ample.true,
    need-zero-most (g.P.PageStore.content c.args.store.now) c.args.v.0 (is_pinned (pins_of c.args.pins.now) c.args.v.0)
        c.args.offset c.args.len _ _ c.requires.touched.row,
  ),
)

pub returns-clause-some : goal.returns-clause-some
returns-clause-some g c = (
  rw c.cost_to_zero-cost.ensures.held (asks_for_held (g.P.PageStore.content c.args.store.now) c.args.v.0 c.args.offset c.args.len),
  omega (arith, c.cost_to_zero-cost.ensures.owned, c.free.ensures, c.from.ensures, c.if-cost-from.false),
)
