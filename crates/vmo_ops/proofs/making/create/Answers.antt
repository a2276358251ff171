use Rattle.std.proofs.Common.{rules}
use Rattle.vm_model.specs.Machine.Step.{with_vmo}
use Rattle.vmo_table.specs.Table.{with_vmos}
use Rattle.vmo_ops.proofs.AskLaws.{Step-refused}
use Rattle.vmo_ops.proofs.making.create.Goals as goal

pub returns-in-Err-clause-step : goal.returns-in-Err-clause-step
returns-in-Err-clause-step g c = λ s. Step-refused (with_vmos s (g.P.PageStore.content c.args.store.now) c.args.vmos.now) _ _
    (c.in-Err.ensures (with_vmos s (g.P.PageStore.content c.args.store.now) c.args.vmos.now) c.args.name c.args.resizable c.requires.closed)

pub returns-in_default-clause-step : goal.returns-in_default-clause-step
unfolding with_vmo
returns-in_default-clause-step g c = search rules

pub returns-in_default-create-clause-step : goal.returns-in_default-create-clause-step
unfolding with_vmo
returns-in_default-create-clause-step g c = search rules

pub returns-clause-step : goal.returns-clause-step
unfolding with_vmo
returns-clause-step g c = search rules
