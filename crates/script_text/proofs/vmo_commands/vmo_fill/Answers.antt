use Rattle.std.proofs.Common.{Some, None, refl, sym, ◌∙◌}
use Rattle.script_text.proofs.GroupLaws.{fill_of_two}
use Rattle.script_text.proofs.vmo_commands.vmo_fill.Goals as goal

pub returns-in_err-name : goal.returns-in_err-name
returns-in_err-name c =
    c.from_residual.ensures
    ∙ fill_of_two c.args.arguments.now _ c.in-len4.len_at_least c.in-len4.len_below None _
    (sym c.in_err-name.was ∙ c.range_of_vmo.ensures) refl

pub returns-in_err-byte : goal.returns-in_err-byte
returns-in_err-byte c =
    c.from_residual-in_err-byte.ensures
    ∙ fill_of_two c.args.arguments.now _ c.in-len4.len_at_least c.in-len4.len_below (Some _) None
    (sym c.in_ok-name.was ∙ c.range_of_vmo.ensures) (sym c.in_err-byte.was ∙ c.byte.ensures)

pub returns : goal.returns
returns c =
    fill_of_two c.args.arguments.now _ c.in-len4.len_at_least c.in-len4.len_below (Some _) (Some _)
    (sym c.in_ok-name.was ∙ c.range_of_vmo.ensures) (sym c.in_ok-byte.was ∙ c.byte.ensures)
