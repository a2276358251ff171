use Rattle.std.proofs.Common.{Some, None, sym, ◌∙◌}
use Rattle.script_text.proofs.GroupLaws.{set_size_of_one}
use Rattle.script_text.proofs.vmo_commands.vmo_set_size.Goals as goal

pub returns-in_err-name : goal.returns-in_err-name
returns-in_err-name c =
    c.from_residual.ensures
    ∙ set_size_of_one c.args.arguments.now _ c.in-len2.len_at_least c.in-len2.len_below None
    (sym c.in_err-name.was ∙ c.vmo_and_number.ensures)

pub returns : goal.returns
returns c =
    set_size_of_one c.args.arguments.now _ c.in-len2.len_at_least c.in-len2.len_below (Some _)
    (sym c.in_ok-name.was ∙ c.vmo_and_number.ensures)
