use Rattle.std.proofs.Common.{true, false, Some, None, refl, sym, ◌∙◌}
use Rattle.script_text.proofs.GroupLaws.{allocate_of_flags}
use Rattle.script_text.proofs.region_commands.vmar_allocate.Goals as goal

pub returns-in_err-name : goal.returns-in_err-name
returns-in_err-name c =
    c.from_residual.ensures
    ∙ allocate_of_flags c.args.arguments.now _ c.in-len4-up.len_at_least None _ _ _ _
    (sym c.in_err-name.was ∙ c.region.ensures) refl refl refl refl

pub returns-in_err-parent : goal.returns-in_err-parent
returns-in_err-parent c =
    c.from_residual-in_err-parent.ensures
    ∙ allocate_of_flags c.args.arguments.now _ c.in-len4-up.len_at_least (Some _) None _ _ _
    (sym c.in_ok-name.was ∙ c.region.ensures) (sym c.in_err-parent.was ∙ c.range_of_region.ensures) refl refl refl

pub returns-then-not-are_region_flags : goal.returns-then-not-are_region_flags
returns-then-not-are_region_flags c =
    allocate_of_flags c.args.arguments.now _ c.in-len4-up.len_at_least (Some _) (Some _) false _ _
    (sym c.in_ok-name.was ∙ c.region.ensures) (sym c.in_ok-parent.was ∙ c.range_of_region.ensures) (sym c.if-not-are_region_flags.true ∙ c.are_region_flags.ensures) refl refl

pub returns : goal.returns
returns c =
    allocate_of_flags c.args.arguments.now _ c.in-len4-up.len_at_least (Some _) (Some _) true _ _
    (sym c.in_ok-name.was ∙ c.region.ensures) (sym c.in_ok-parent.was ∙ c.range_of_region.ensures) (sym c.if-not-are_region_flags.false ∙ c.are_region_flags.ensures) c.region_flags.ensures c.region_caps.ensures
