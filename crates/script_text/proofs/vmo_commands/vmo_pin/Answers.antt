use Rattle.std.proofs.Common.{Some, None, refl, sym, ◌∙◌}
use Rattle.script_text.proofs.GroupLaws.{pin_of_two}
use Rattle.script_text.proofs.vmo_commands.vmo_pin.Goals as goal

pub returns-in_err-pin : goal.returns-in_err-pin
returns-in_err-pin c =
    c.from_residual.ensures
    ∙ pin_of_two c.args.arguments.now _ c.in-len4.len_at_least c.in-len4.len_below None _
    (sym c.in_err-pin.was ∙ c.pin.ensures) refl

pub returns-in_err-name : goal.returns-in_err-name
returns-in_err-name c =
    c.from_residual-in_err-name.ensures
    ∙ pin_of_two c.args.arguments.now _ c.in-len4.len_at_least c.in-len4.len_below (Some _) None
    (sym c.in_ok-pin.was ∙ c.pin.ensures) (sym c.in_err-name.was ∙ c.range_of_vmo.ensures)

pub returns : goal.returns
returns c =
    pin_of_two c.args.arguments.now _ c.in-len4.len_at_least c.in-len4.len_below (Some _) (Some _)
    (sym c.in_ok-pin.was ∙ c.pin.ensures) (sym c.in_ok-name.was ∙ c.range_of_vmo.ensures)
