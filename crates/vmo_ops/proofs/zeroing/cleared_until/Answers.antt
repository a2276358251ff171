use Rattle.std.proofs.Common.{◌+◌, arith}
use Rattle.vm_model.specs.Naming.Pins.{is_pinned}
use Rattle.pin_table.specs.Table.{pins_of}
use Rattle.vmo_ops.proofs.ZeroLaws.{is_cleared-whole}
use Rattle.vmo_ops.proofs.zeroing.cleared_until.Goals as goal

pub returns-in-Some-clause-cleared : goal.returns-in-Some-clause-cleared
returns-in-Some-clause-cleared c = λ p low less.
    is_cleared-whole (is_pinned (pins_of c.args.pins.now) c.args.v.0) c.args.offset c.args.len p (omega arith) (omega arith) (c.in-Some.ensures.some.gap p low (omega arith))

pub returns-in-None-clause-cleared : goal.returns-in-None-clause-cleared
returns-in-None-clause-cleared c = λ p low less.
    is_cleared-whole (is_pinned (pins_of c.args.pins.now) c.args.v.0) c.args.offset c.args.len p (omega arith) (omega arith) (c.in-None.ensures.none (p + 1) p low (omega arith))
