use Rattle.batch_vm.proofs.LineLaws.{AnswersLine-order, AnswersLine-outside, AgreesBatch-good}
use Rattle.std.proofs.Math.Nat.{le-add_right}
use Rattle.batch_vm.proofs.interpreter.answer_line.Goals as goal

pub returns-in-Ok-None-clause-good : goal.returns-in-Ok-None-clause-good
returns-in-Ok-None-clause-good g c = AgreesBatch-good _ _ c.requires.agrees

pub returns-in-Ok-Some : goal.returns-in-Ok-Some
returns-in-Ok-Some g c =
    let answer = c.answer-answer.ensures in
    record {
      answer = AnswersLine-order c.args.line.now c.in-Ok-Some.call _ _ c.answer-answer.result _ _
          c.push_batch_answer.result (rw c.in-Ok-Some.field-0-is at c.in-Ok-Some.ensures) answer.step
          c.push_batch_answer.ensures.ok c.push_batch_answer.ensures.err;
      agrees = record { vm = answer.agrees; jobs = answer.good.jobs };
      good = answer.good;
      next = answer.next;
      cause = c.push_batch_answer.ensures.cause;
    }

pub returns-in-Err : goal.returns-in-Err
returns-in-Err g c = record {
  answer = AnswersLine-outside c.args.line.now _ _ _ c.push_syntax.result c.in-Err.ensures
      c.push_syntax.ensures.ok c.push_syntax.ensures.err;
  agrees = c.requires.agrees;
  good = AgreesBatch-good _ _ c.requires.agrees;
  next = le-add_right (g.P.PageStore.content c.args.store.now).next 1;
  cause = c.push_syntax.ensures.cause;
}
