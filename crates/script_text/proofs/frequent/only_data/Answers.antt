use Rattle.std.proofs.Common.{sym, ◌∙◌, ap}
use Rattle.script_text.specs.inside.Shapes.{only_data}
use Rattle.script_text.proofs.FrequentLaws.{data_of_whole}
use Rattle.script_text.proofs.frequent.only_data.Goals as goal

pub returns : goal.returns
returns c =
    let text = c.behind_blanks-text in
    c.byte_data_into-2.ensures
    ∙ data_of_whole text.result.now text.ensures.begun (sym c.ends_blank.ensures ∙ c.if-ends_blank.false)
    ∙ ap only_data text.ensures.words
