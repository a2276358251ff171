use Rattle.std.proofs.Common.{Some, None, refl, sym, ◌∙◌}
use Rattle.script_text.proofs.GroupLaws.{protect_of_two}
use Rattle.script_text.proofs.region_commands.vmar_protect.Goals as goal

pub returns-in_err-region : goal.returns-in_err-region
returns-in_err-region c =
    c.from_residual.ensures
    ∙ protect_of_two c.args.arguments.now _ c.in-len4.len_at_least c.in-len4.len_below None _
    (sym c.in_err-region.was ∙ c.range_of_region.ensures) refl

pub returns-in_err-perm : goal.returns-in_err-perm
returns-in_err-perm c =
    c.from_residual-in_err-perm.ensures
    ∙ protect_of_two c.args.arguments.now _ c.in-len4.len_at_least c.in-len4.len_below (Some _) None
    (sym c.in_ok-region.was ∙ c.range_of_region.ensures) (sym c.in_err-perm.was ∙ c.perm.ensures)

pub returns : goal.returns
returns c =
    protect_of_two c.args.arguments.now _ c.in-len4.len_at_least c.in-len4.len_below (Some _) (Some _)
    (sym c.in_ok-region.was ∙ c.range_of_region.ensures) (sym c.in_ok-perm.was ∙ c.perm.ensures)
