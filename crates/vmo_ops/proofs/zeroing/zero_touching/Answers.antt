use Rattle.std.proofs.Common.{sym}
use Rattle.vm_model.proofs.StepLaws.{Step-lacks}
use Rattle.pin_table.specs.Table.{pins_of}
use Rattle.vmo_ops.specs.Targets.{with_pins}
use Rattle.vmo_ops.proofs.AskLaws.{Step-refused}
use Rattle.vmo_ops.proofs.ZeroLaws.{wants_held}
use Rattle.vmo_ops.proofs.zeroing.zero_touching.Goals as goal

pub returns-in-Err-clause-step : goal.returns-in-Err-clause-step
returns-in-Err-clause-step g c = λ s name named. Step-refused (with_pins (g.P.PageStore.content c.args.store.now) (pins_of c.args.pins.now) s) _ _ (c.in-Err.ensures s name named)

pub returns-in_default-clause-step : goal.returns-in_default-clause-step
returns-in_default-clause-step g c = λ rest name named.
    let s = with_pins (g.P.PageStore.content c.args.store.now) (pins_of c.args.pins.now) rest in
    rw c.room_to_zero.ensures.same (Step-lacks s _ (sym (c.in-Ok.ensures.0 rest name named))
    (wants_held s name.0 c.args.offset c.args.len c.args.t.now _ named c.in-Ok.ensures.1.place c.in_default.ensures.err))
