use Rattle.std.proofs.Common.{Some, None, refl, sym, ◌∙◌}
use Rattle.script_text.proofs.GroupLaws.{vmo_write_of_two}
use Rattle.script_text.proofs.vmo_commands.vmo_write.Goals as goal

pub returns-in_err-name : goal.returns-in_err-name
returns-in_err-name c =
    c.from_residual.ensures
    ∙ vmo_write_of_two c.args.arguments.now _ c.in-len3.len_at_least c.in-len3.len_below None _
    (sym c.in_err-name.was ∙ c.vmo_and_number.ensures) refl

pub returns-in_err-bytes : goal.returns-in_err-bytes
returns-in_err-bytes c =
    c.from_residual-in_err-bytes.ensures
    ∙ vmo_write_of_two c.args.arguments.now _ c.in-len3.len_at_least c.in-len3.len_below (Some _) None
    (sym c.in_ok-name.was ∙ c.vmo_and_number.ensures) (sym c.in_err-bytes.was ∙ c.byte_data_into.ensures)

pub returns : goal.returns
returns c =
    vmo_write_of_two c.args.arguments.now _ c.in-len3.len_at_least c.in-len3.len_below (Some _) (Some _)
    (sym c.in_ok-name.was ∙ c.vmo_and_number.ensures) (sym c.in_ok-bytes.was ∙ c.byte_data_into.ensures)
