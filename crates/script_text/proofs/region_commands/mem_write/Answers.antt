use Rattle.std.proofs.Common.{Some, None, refl, sym, ◌∙◌}
use Rattle.script_text.proofs.GroupLaws.{mem_write_of_two}
use Rattle.script_text.proofs.region_commands.mem_write.Goals as goal

pub returns-in_err-region : goal.returns-in_err-region
returns-in_err-region c =
    c.from_residual.ensures
    ∙ mem_write_of_two c.args.arguments.now _ c.in-len3.len_at_least c.in-len3.len_below None _
    (sym c.in_err-region.was ∙ c.region_and_number.ensures) refl

pub returns-in_err-bytes : goal.returns-in_err-bytes
returns-in_err-bytes c =
    c.from_residual-in_err-bytes.ensures
    ∙ mem_write_of_two c.args.arguments.now _ c.in-len3.len_at_least c.in-len3.len_below (Some _) None
    (sym c.in_ok-region.was ∙ c.region_and_number.ensures) (sym c.in_err-bytes.was ∙ c.byte_data_into.ensures)

pub returns : goal.returns
returns c =
    mem_write_of_two c.args.arguments.now _ c.in-len3.len_at_least c.in-len3.len_below (Some _) (Some _)
    (sym c.in_ok-region.was ∙ c.region_and_number.ensures) (sym c.in_ok-bytes.was ∙ c.byte_data_into.ensures)
