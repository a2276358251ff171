use Rattle.std.proofs.Common.{sym}
use Rattle.std.specs.Prelude.{not}
use Rattle.vm_model.specs.Contents.Content.{sole}
use Rattle.vm_model.specs.declared.command.Command.TheVariants.{VmoCommit}
use Rattle.vmo_ops.proofs.NameLaws.{parts_inside}
use Rattle.vmo_table.specs.Table.{with_vmos}
use Rattle.page_store.specs.Flat.{flat_content}
use Rattle.checker_machine.proofs.WantLaws.{lack_free, lack_refused, touches_named}
use Rattle.checker_machine.proofs.wanting.own_wants.Goals as goal

pub ask_to_own-requires-clause-inside : goal.ask_to_own-requires-clause-inside
ask_to_own-requires-clause-inside c = parts_inside _ _ _ c.requires (c.args.range.name.0, sym c.in-Some.ensures)

pub returns-in-Ok : goal.returns-in-Ok
returns-in-Ok c = λ s.
    let t = with_vmos s (flat_content c.args.pages.now) c.args.vmos.now in
    lack_free t (VmoCommit c.args.range.name c.args.range.offset c.args.range.len) (c.in-Ok.ensures.refusal t c.args.range.name (sym c.in-Some.ensures))
    (touches_named t c.args.range.name.0 c.args.range.offset c.args.range.len c.in-Ok.asked.at c.in-Ok.asked.pages (λ v p. not (sole (flat_content c.args.pages.now) v p))
    c.in-Some.ensures c.in-Ok.ensures.ok.1.place c.in-Ok.ensures.touched.row c.has_shared.ensures)

pub returns-in-Err : goal.returns-in-Err
returns-in-Err c = λ s.
    let t = with_vmos s (flat_content c.args.pages.now) c.args.vmos.now in
    lack_refused t (VmoCommit c.args.range.name c.args.range.offset c.args.range.len) (c.in-Err.ensures.refusal t c.args.range.name (sym c.in-Some.ensures))

pub has_shared-requires : goal.has_shared-requires
has_shared-requires c = c.in-Ok.ensures.touched.order
