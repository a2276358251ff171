use Rattle.std.proofs.Common.{Some, None, refl, sym, ◌∙◌}
use Rattle.script_text.proofs.FrequentLaws.{mem_write_of_words}
use Rattle.script_text.proofs.frequent.mem_write_of.Goals as goal

pub returns-in_err-region-2 : goal.returns-in_err-region-2
returns-in_err-region-2 c =
    c.from_residual-in_err-region-2.ensures
    ∙ mem_write_of_words c.args.arguments.now _ _ _ _ c.in_ok-region.ensures.words c.in_ok-addr.ensures.words None _
    (sym c.in_err-region-2.was ∙ c.region_and_number.ensures) refl

pub returns-in_err-bytes : goal.returns-in_err-bytes
returns-in_err-bytes c =
    c.from_residual-in_err-bytes.ensures
    ∙ mem_write_of_words c.args.arguments.now _ _ _ _ c.in_ok-region.ensures.words c.in_ok-addr.ensures.words (Some _) None
    (sym c.in_ok-region-2.was ∙ c.region_and_number.ensures) (sym c.in_err-bytes.was ∙ c.only_data.ensures)

pub returns : goal.returns
returns c =
    mem_write_of_words c.args.arguments.now _ _ _ _ c.in_ok-region.ensures.words c.in_ok-addr.ensures.words (Some _) (Some _)
    (sym c.in_ok-region-2.was ∙ c.region_and_number.ensures) (sym c.in_ok-bytes.was ∙ c.only_data.ensures)
