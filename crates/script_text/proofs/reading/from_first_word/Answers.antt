use Rattle.script_text.proofs.Cutting.{reading-begun}
use Rattle.script_text.proofs.reading.from_first_word.Goals as goal

pub returns : goal.returns
returns c =
    reading-begun c.args.line.now c.behind_blanks.result.now c.behind_blanks.ensures.words c.behind_blanks.ensures.begun
