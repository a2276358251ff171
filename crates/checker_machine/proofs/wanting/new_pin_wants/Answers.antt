use Rattle.std.proofs.Common.{◌≡◌, None, refl, sym, ◌∙◌}
use Rattle.vm_model.specs.declared.command.Command.TheVariants.{VmoPin}
use Rattle.pin_table.specs.Table.{pins_of}
use Rattle.vmo_ops.proofs.NameLaws.{parts_inside}
use Rattle.vmo_ops.specs.Targets.{with_tables}
use Rattle.page_store.specs.Flat.{flat_content}
use Rattle.checker_machine.proofs.WantLaws.{lack_asked, parts_of, pin_free}
use Rattle.checker_machine.proofs.wanting.new_pin_wants.Goals as goal

pub ask_to_pin-requires-clause-inside : goal.ask_to_pin-requires-clause-inside
ask_to_pin-requires-clause-inside c = parts_inside _ _ _ (parts_of c.requires) (c.args.request.range.name.0, sym c.in-Some.ensures)

pub returns : goal.returns
returns c = λ s.
    let r = c.args.request in
    let t = with_tables s (flat_content c.args.pages.now) c.args.vmos.now c.args.pins.now in
    let free : pins_of c.args.pins.now r.pin.0 ≡ None = pin_free c.args.pins.now r.pin.0 c.get.result c.get.ensures (sym c.is_some.ensures ∙ c.if-is_some.false) in
    lack_asked t (VmoPin r.pin r.range.name r.range.offset r.range.len) c.ask_to_pin.result c.is_ok.ensures.value refl
    (λ range e. (rw e at c.ask_to_pin.ensures.refusal) r.pin (pins_of c.args.pins.now) free t r.range.name (sym c.in-Some.ensures))
    (λ refusal e. (rw e at c.ask_to_pin.ensures.refusal) r.pin (pins_of c.args.pins.now) free t r.range.name (sym c.in-Some.ensures))
