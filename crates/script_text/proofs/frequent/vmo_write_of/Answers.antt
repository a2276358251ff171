use Rattle.std.proofs.Common.{Some, None, refl, sym, ◌∙◌}
use Rattle.script_text.proofs.FrequentLaws.{vmo_write_of_words}
use Rattle.script_text.proofs.frequent.vmo_write_of.Goals as goal

pub returns-in_err-name-2 : goal.returns-in_err-name-2
returns-in_err-name-2 c =
    c.from_residual-in_err-name-2.ensures
    ∙ vmo_write_of_words c.args.arguments.now _ _ _ _ c.in_ok-name.ensures.words c.in_ok-offset.ensures.words None _
    (sym c.in_err-name-2.was ∙ c.vmo_and_number.ensures) refl

pub returns-in_err-bytes : goal.returns-in_err-bytes
returns-in_err-bytes c =
    c.from_residual-in_err-bytes.ensures
    ∙ vmo_write_of_words c.args.arguments.now _ _ _ _ c.in_ok-name.ensures.words c.in_ok-offset.ensures.words (Some _) None
    (sym c.in_ok-name-2.was ∙ c.vmo_and_number.ensures) (sym c.in_err-bytes.was ∙ c.only_data.ensures)

pub returns : goal.returns
returns c =
    vmo_write_of_words c.args.arguments.now _ _ _ _ c.in_ok-name.ensures.words c.in_ok-offset.ensures.words (Some _) (Some _)
    (sym c.in_ok-name-2.was ∙ c.vmo_and_number.ensures) (sym c.in_ok-bytes.was ∙ c.only_data.ensures)
