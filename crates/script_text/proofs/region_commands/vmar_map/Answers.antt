use Rattle.std.proofs.Common.{true, false, Some, None, refl, sym, ◌∙◌}
use Rattle.script_text.proofs.GroupLaws.{map_of_flags}
use Rattle.script_text.proofs.region_commands.vmar_map.Goals as goal

pub returns-in_err-name : goal.returns-in_err-name
returns-in_err-name c =
    c.from_residual.ensures
    ∙ map_of_flags c.args.arguments.now _ c.in-len6-up.len_at_least None _ _ _ _
    (sym c.in_err-name.was ∙ c.region_and_number.ensures) refl refl refl refl

pub returns-in_err-source : goal.returns-in_err-source
returns-in_err-source c =
    c.from_residual-in_err-source.ensures
    ∙ map_of_flags c.args.arguments.now _ c.in-len6-up.len_at_least (Some _) None _ _ _
    (sym c.in_ok-name.was ∙ c.region_and_number.ensures) (sym c.in_err-source.was ∙ c.range_of_vmo.ensures) refl refl refl

pub returns-in_err-allowed : goal.returns-in_err-allowed
returns-in_err-allowed c =
    c.from_residual-in_err-allowed.ensures
    ∙ map_of_flags c.args.arguments.now _ c.in-len6-up.len_at_least (Some _) (Some _) None _ _
    (sym c.in_ok-name.was ∙ c.region_and_number.ensures) (sym c.in_ok-source.was ∙ c.range_of_vmo.ensures) (sym c.in_err-allowed.was ∙ c.perm.ensures) refl refl

pub returns-then-not-are_map_flags : goal.returns-then-not-are_map_flags
returns-then-not-are_map_flags c =
    map_of_flags c.args.arguments.now _ c.in-len6-up.len_at_least (Some _) (Some _) (Some _) false _
    (sym c.in_ok-name.was ∙ c.region_and_number.ensures) (sym c.in_ok-source.was ∙ c.range_of_vmo.ensures) (sym c.in_ok-allowed.was ∙ c.perm.ensures) (sym c.if-not-are_map_flags.true ∙ c.are_map_flags.ensures) refl

pub returns : goal.returns
returns c =
    map_of_flags c.args.arguments.now _ c.in-len6-up.len_at_least (Some _) (Some _) (Some _) true _
    (sym c.in_ok-name.was ∙ c.region_and_number.ensures) (sym c.in_ok-source.was ∙ c.range_of_vmo.ensures) (sym c.in_ok-allowed.was ∙ c.perm.ensures) (sym c.if-not-are_map_flags.false ∙ c.are_map_flags.ensures) c.map_flags.ensures
