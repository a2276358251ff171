use Rattle.std.proofs.Common.{◌∙◌}
use Rattle.transcript.proofs.HearLaws.{lines_some, one_line, first_told, runs_some, no_runs}
use Rattle.transcript.proofs.answering.hear_answer.Goals as goal

pub is_line-requires-clause-index : goal.is_line-requires-clause-index
is_line-requires-clause-index c = lines_some _

pub returns-then-answer_line_count-eq1 : goal.returns-then-answer_line_count-eq1
returns-then-answer_line_count-eq1 c =
    one_line c.args.answer _ c.answer_line_count.result (c.is_line.ensures.0 c.if-not-is_line.false) c.answer_line_count.ensures c.if-answer_line_count-eq1.true

pub returns-in-Runs : goal.returns-in-Runs
returns-in-Runs c =
    let is = c.in-Runs.is in
    (is, first_told c.args.answer _ (c.is_line.ensures.0 c.if-not-is_line.false), runs_some c.args.answer c.in-Runs.runs c.answer_line_count.result is c.answer_line_count.ensures c.if-answer_line_count-eq1.false)

pub returns-in_default : goal.returns-in_default
returns-in_default c = absurd (c.if-answer_line_count-eq1.false (c.answer_line_count.ensures ∙ no_runs c.args.answer c.in_default.not-Runs))
