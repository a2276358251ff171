use Rattle.std.proofs.Common.{sym}
use Rattle.vm_model.specs.Contents.Content.{is_held}
use Rattle.vm_model.specs.declared.command.Command.TheVariants.{VmoZero}
use Rattle.vmo_ops.proofs.NameLaws.{parts_inside}
use Rattle.vmo_ops.specs.Targets.{with_tables}
use Rattle.page_store.specs.Flat.{flat_content}
use Rattle.checker_machine.proofs.WantLaws.{lack_free, lack_refused, parts_of, touches_named}
use Rattle.checker_machine.proofs.wanting.zero_wants.Goals as goal

pub ask_to_zero-requires-clause-inside : goal.ask_to_zero-requires-clause-inside
ask_to_zero-requires-clause-inside c = parts_inside _ _ _ (parts_of c.requires) (c.args.range.name.0, sym c.in-Some.ensures)

pub returns-in-Ok : goal.returns-in-Ok
returns-in-Ok c = λ s.
    let t = with_tables s (flat_content c.args.pages.now) c.args.vmos.now c.args.pins.now in
    lack_free t (VmoZero c.args.range.name c.args.range.offset c.args.range.len) (c.in-Ok.ensures.0 t c.args.range.name (sym c.in-Some.ensures))
    (touches_named t c.args.range.name.0 c.args.range.offset c.args.range.len c.in-Ok.asked.at c.in-Ok.asked.pages (is_held (flat_content c.args.pages.now))
    c.in-Some.ensures c.in-Ok.ensures.1.place c.in-Ok.ensures.4.row c.has_held.ensures)

pub returns-in-Err : goal.returns-in-Err
returns-in-Err c = λ s.
    let t = with_tables s (flat_content c.args.pages.now) c.args.vmos.now c.args.pins.now in
    lack_refused t (VmoZero c.args.range.name c.args.range.offset c.args.range.len) (c.in-Err.ensures t c.args.range.name (sym c.in-Some.ensures))

pub has_held-requires-clause-vmo : goal.has_held-requires-clause-vmo
has_held-requires-clause-vmo c =
    let inside = parts_inside _ _ _ (parts_of c.requires) (c.args.range.name.0, sym c.in-Some.ensures) in inside.vmo

pub has_held-requires-clause-order : goal.has_held-requires-clause-order
has_held-requires-clause-order c = c.in-Ok.ensures.4.order
