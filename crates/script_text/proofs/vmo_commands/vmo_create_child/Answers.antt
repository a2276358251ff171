use Rattle.std.proofs.Common.{[], ◌∷◌, codes, true, false, Some, None, refl, sym, ◌∙◌, ap}
use Rattle.vm_model.specs.Language.Reading.{are_flags}
use Rattle.script_text.proofs.GroupLaws.{behind, child_of_flags}
use Rattle.script_text.proofs.vmo_commands.vmo_create_child.Goals as goal

pub returns-in_err-name : goal.returns-in_err-name
returns-in_err-name c =
    c.from_residual.ensures
    ∙ child_of_flags c.args.arguments.now _ c.in-len5-up.len_at_least None _ _ _ _
    (sym c.in_err-name.was ∙ c.child.ensures) refl refl refl refl

pub returns-in_err-offset : goal.returns-in_err-offset
returns-in_err-offset c =
    c.from_residual-in_err-offset.ensures
    ∙ child_of_flags c.args.arguments.now _ c.in-len5-up.len_at_least (Some _) None _ _ _
    (sym c.in_ok-name.was ∙ c.child.ensures) (sym c.in_err-offset.was ∙ c.range.ensures) refl refl refl

pub returns-then-not-are_flags : goal.returns-then-not-are_flags
returns-then-not-are_flags c =
    child_of_flags c.args.arguments.now _ c.in-len5-up.len_at_least (Some _) (Some _) false _ _
    (sym c.in_ok-name.was ∙ c.child.ensures) (sym c.in_ok-offset.was ∙ c.range.ensures) (sym c.if-not-are_flags.true ∙ c.are_flags.ensures
    ∙ ap (λ w. are_flags (w ∷ c.as_slice-2.result.now ∷ []) (behind c.args.arguments.now 5)) c.as_slice.ensures
    ∙ ap (λ w. are_flags (codes "resizable" ∷ w ∷ []) (behind c.args.arguments.now 5)) c.as_slice-2.ensures) refl refl

pub returns : goal.returns
returns c =
    child_of_flags c.args.arguments.now _ c.in-len5-up.len_at_least (Some _) (Some _) true _ _
    (sym c.in_ok-name.was ∙ c.child.ensures) (sym c.in_ok-offset.was ∙ c.range.ensures) (sym c.if-not-are_flags.false ∙ c.are_flags.ensures
    ∙ ap (λ w. are_flags (w ∷ c.as_slice-2.result.now ∷ []) (behind c.args.arguments.now 5)) c.as_slice.ensures
    ∙ ap (λ w. are_flags (codes "resizable" ∷ w ∷ []) (behind c.args.arguments.now 5)) c.as_slice-2.ensures) c.stands.ensures c.stands-2.ensures
