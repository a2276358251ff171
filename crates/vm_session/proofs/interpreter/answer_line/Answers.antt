use Rattle.std.proofs.Math.Nat.{le-add_right}
use Rattle.vm_core.proofs.AgreeLaws.{agrees_good}
use Rattle.vm_session.proofs.PlainLaws.{AnswersLine-order, AnswersLine-outside}
use Rattle.vm_session.proofs.interpreter.answer_line.Goals as goal

pub returns-in-Ok-Some : goal.returns-in-Ok-Some
returns-in-Ok-Some g c =
    let answer = c.answer-answer.ensures in
    record {
      answer = AnswersLine-order c.args.line.now c.in-Ok-Some.call _ _ c.answer-answer.result _ _
          c.push_answer.result (rw c.in-Ok-Some.field-0-is at c.in-Ok-Some.ensures) answer.step
          c.push_answer.ensures.ok c.push_answer.ensures.err;
      agrees = answer.agrees;
      good = answer.good;
      next = answer.next;
      cause = c.push_answer.ensures.cause;
    }

pub returns-in-Err : goal.returns-in-Err
returns-in-Err g c = record {
  answer = AnswersLine-outside c.args.line.now _ _ _ c.push_syntax.result c.in-Err.ensures
      c.push_syntax.ensures.ok c.push_syntax.ensures.err;
  agrees = c.requires.agrees;
  good = agrees_good _ _ c.requires.agrees;
  next = le-add_right (g.P.PageStore.content c.args.store.now).next 1;
  cause = c.push_syntax.ensures.cause;
}
