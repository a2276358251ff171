use Rattle.pin_table.specs.Table.{pins_of}
use Rattle.vmo_ops.specs.Targets.{with_pins}
use Rattle.vmo_ops.proofs.AskLaws.{Step-refused}
use Rattle.vmo_ops.proofs.sizes.resize.Goals as goal

pub returns-in-Err : goal.returns-in-Err
returns-in-Err g c = λ s name named. Step-refused (with_pins (g.P.PageStore.content c.args.store.now) (pins_of c.args.pins.now) s) _ _ (c.in-Err.ensures s name named)
