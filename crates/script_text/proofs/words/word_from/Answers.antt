use Rattle.std.proofs.Common.{sym, ◌∙◌, ap}
use Rattle.vm_model.specs.Language.Reading.{words}
use Rattle.script_text.proofs.Cutting.{words-none}
use Rattle.script_text.proofs.Places.{IsWordFrom-by_positions}
use Rattle.script_text.proofs.words.word_from.Goals as goal

pub returns-in_err-before : goal.returns-in_err-before
returns-in_err-before c =
    rw c.from_residual.ensures
    (ap words (sym c.split_at.ensures.back)
    ∙ words-none c.split_at.result.1.now (sym c.word_start.ensures ∙ c.in_err-before.was))

pub returns : goal.returns
returns c =
    IsWordFrom-by_positions c.args.line.now c.args.place c.in_ok-before.before c.word_len.result
    c.split_at.result.1.now c.split_at-2.result.1.now c.requires c.split_at.ensures.back
    (sym c.word_start.ensures ∙ c.in_ok-before.was) c.split_at-2.ensures.back c.word_len.ensures.len
