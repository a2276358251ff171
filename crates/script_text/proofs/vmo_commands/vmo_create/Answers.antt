use Rattle.std.proofs.Common.{[], ◌∷◌, true, false, Some, None, refl, sym, ◌∙◌, ap}
use Rattle.vm_model.specs.Language.Reading.{are_flags}
use Rattle.script_text.proofs.GroupLaws.{behind, create_of_flags}
use Rattle.script_text.proofs.vmo_commands.vmo_create.Goals as goal

pub returns-in_err-name : goal.returns-in_err-name
returns-in_err-name c =
    c.from_residual.ensures
    ∙ create_of_flags c.args.arguments.now _ c.in-len2-up.len_at_least None _ _
    (sym c.in_err-name.was ∙ c.vmo_and_number.ensures) refl refl

pub returns-then-not-are_flags : goal.returns-then-not-are_flags
returns-then-not-are_flags c =
    create_of_flags c.args.arguments.now _ c.in-len2-up.len_at_least (Some _) false _
    (sym c.in_ok-name.was ∙ c.vmo_and_number.ensures) (sym c.if-not-are_flags.true ∙ c.are_flags.ensures
    ∙ ap (λ w. are_flags (w ∷ []) (behind c.args.arguments.now 2)) c.as_slice.ensures) refl

pub returns : goal.returns
returns c =
    create_of_flags c.args.arguments.now _ c.in-len2-up.len_at_least (Some _) true _
    (sym c.in_ok-name.was ∙ c.vmo_and_number.ensures) (sym c.if-not-are_flags.false ∙ c.are_flags.ensures
    ∙ ap (λ w. are_flags (w ∷ []) (behind c.args.arguments.now 2)) c.as_slice.ensures) c.stands.ensures
