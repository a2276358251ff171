use Rattle.source_vm.proofs.LineLaws.{AnswersLine-order, AnswersLine-outside}
use Rattle.source_vm.proofs.interpreter.answer_line.Goals as goal

pub returns-in-Ok-Some-clause-answer : goal.returns-in-Ok-Some-clause-answer
returns-in-Ok-Some-clause-answer g c =
    AnswersLine-order c.args.line.now c.in-Ok-Some.call _ _ c.answer-answer.result _ _
    c.push_answer.result (rw c.in-Ok-Some.field-0-is at c.in-Ok-Some.ensures) c.answer-answer.ensures.step
    c.push_answer.ensures.ok c.push_answer.ensures.err

pub returns-in-Err-clause-answer : goal.returns-in-Err-clause-answer
returns-in-Err-clause-answer g c =
    AnswersLine-outside c.args.line.now _ _ _ c.push_syntax.result c.in-Err.ensures c.push_syntax.ensures.ok c.push_syntax.ensures.err
