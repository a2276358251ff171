use Rattle.std.proofs.Common.{sym, arith}
use Rattle.vm_model.specs.Contents.Content.{is_held}
use Rattle.vm_model.proofs.ContentLaws.{pages_of_le}
use Rattle.vm_model.specs.declared.command.Command.TheVariants.{VmoDecommit}
use Rattle.vmo_ops.proofs.NameLaws.{parts_inside}
use Rattle.vmo_ops.specs.Targets.{with_tables}
use Rattle.page_store.specs.Flat.{flat_content}
use Rattle.checker_machine.proofs.WantLaws.{lack_free, lack_refused, parts_of, touches_named}
use Rattle.checker_machine.proofs.wanting.decommit_wants.Goals as goal

pub returns-in-Ok : goal.returns-in-Ok
returns-in-Ok c = λ s.
    let t = with_tables s (flat_content c.args.pages.now) c.args.vmos.now c.args.pins.now in
    lack_free t (VmoDecommit c.args.range.name c.args.range.offset c.args.range.len) (c.in-Ok.ensures.0 t c.args.range.name (sym c.in-Some.ensures))
    (touches_named t c.args.range.name.0 c.args.range.offset c.args.range.len c.in-Ok.at c.touched_by.result (is_held (flat_content c.args.pages.now))
    c.in-Some.ensures c.in-Ok.ensures.1.place c.touched_by.ensures.row c.has_held.ensures)

pub returns-in-Err : goal.returns-in-Err
returns-in-Err c = λ s.
    let t = with_tables s (flat_content c.args.pages.now) c.args.vmos.now c.args.pins.now in
    lack_refused t (VmoDecommit c.args.range.name c.args.range.offset c.args.range.len) (c.in-Err.ensures t c.args.range.name (sym c.in-Some.ensures))

pub touched_by-requires : goal.touched_by-requires
touched_by-requires c = omega (arith, c.in-Ok.ensures.1.inside, pages_of_le (flat_content c.args.pages.now) c.in-Some.target.koid.0 c.requires.good.content)

pub has_held-requires-clause-vmo : goal.has_held-requires-clause-vmo
has_held-requires-clause-vmo c =
    let inside = parts_inside _ _ _ (parts_of c.requires) (c.args.range.name.0, sym c.in-Some.ensures) in inside.vmo
