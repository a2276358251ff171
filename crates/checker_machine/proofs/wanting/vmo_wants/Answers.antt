use Rattle.std.proofs.Common.{true}
use Rattle.vmo_ops.specs.Targets.{with_tables}
use Rattle.page_store.specs.Flat.{flat_content}
use Rattle.checker_machine.proofs.wanting.vmo_wants.Goals as goal

pub returns-in-VmoCreate : goal.returns-in-VmoCreate
returns-in-VmoCreate c = rw c.in-VmoCreate.is (λ s.
    let d = flat_content c.args.pages.now in c.create_wants.ensures (with_tables s d c.args.vmos.now c.args.pins.now) d true)
