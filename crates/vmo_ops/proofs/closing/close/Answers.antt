use Rattle.std.proofs.Common.{rules, ◌∙◌}
use Rattle.vm_base.proofs.EntryLaws.{some_is}
use Rattle.vm_model.proofs.LeavingLaws.{unnamed, LoosensAt-unnamed, name_vmo}
use Rattle.vmo_table.specs.Table.{lineage_in, with_vmos}
use Rattle.vmo_table.proofs.SettleLaws.{leaving_vmo, settled_pruned}
use Rattle.vmo_ops.proofs.closing.close.Goals as goal

pub drop_gone-requires : goal.drop_gone-requires
drop_gone-requires g c =
    let found = some_is _ c.requires.named in
    leaving_vmo _ _ _ _ _ (g.P.PageStore.content c.args.store.now) _ (name_vmo _ _ found.0 c.requires.parts.1.good found.1)
    (c.close.ensures.vmo found.0 found.1)

pub returns-clause-step : goal.returns-clause-step
returns-clause-step g c = λ rest counted.
    let s = with_vmos rest (g.P.PageStore.content c.args.store.now) c.args.vmos.now in
    let d = g.P.PageStore.content c.drop_gone.new.store in
    let found = some_is _ c.requires.named in
    let gone = settled_pruned s (unnamed s c.args.name.0) _ counted.good
    (LoosensAt-unnamed s c.args.name.0 found.0 counted.good found.1) _ c.close.ensures.names _ (counted.counted _) _ _
    (c.close.ensures.vmo found.0 found.1) d c.drop_gone.ensures in
    let new = (λ i. record s { content = d; names = c.close.ensures.names i; lineage = lineage_in c.close.new.self })
    ∙ gone in
    search rules
