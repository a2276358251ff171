use Rattle.std.proofs.Common.{take, arith}
use Rattle.std.proofs.KnownBytes.{Appends-nil}
use Rattle.line_server.proofs.Writing.{line_written, reply_written, reply_cut, some_line}
use Rattle.line_server.proofs.replies.push_answer.Goals as goal
use Rattle.script_io.proofs.Moving.{on_err}

pub write_answer_line-first-requires-clause-index : goal.write_answer_line-first-requires-clause-index
write_answer_line-first-requires-clause-index g c = some_line c.args.answer.now

pub returns-in_err-push_all-clause-err : goal.returns-in_err-push_all-clause-err
returns-in_err-push_all-clause-err g c =
    on_err c.from_residual.result (reply_cut c.args.answer.now 0
    (take c.write_answer_line-first.result c.write_answer_line-first.new.out) _ _ _
    c.write_answer_line-first.ensures.line (Appends-nil _) c.in_err-push_all.ensures.err)

pub loop-index-init : goal.loop-index-init
loop-index-init g c = record {
  written = line_written c.args.answer.now 0
      (take c.write_answer_line-first.result c.write_answer_line-first.new.out) _ _ _
      c.write_answer_line-first.ensures.line (Appends-nil _) c.in_ok-push_all.ensures.ok;
  later = c.push_all.ensures.cause.later;
}

pub returns-in_err-push_all-2-clause-err : goal.returns-in_err-push_all-2-clause-err
returns-in_err-push_all-2-clause-err g c =
    on_err c.from_residual-in_err-push_all-2.result (reply_cut c.args.answer.now c.loop-index.index
    (take c.write_answer_line-len.result c.write_answer_line-len.new.out) _ _ _ c.write_answer_line-len.ensures.line
    c.loop-index.invariant.written c.in_err-push_all-2.ensures.err)

pub loop-index-preserved : goal.loop-index-preserved
loop-index-preserved g c = record {
  written = line_written c.args.answer.now c.loop-index.index
      (take c.write_answer_line-len.result c.write_answer_line-len.new.out) _ _ _ c.write_answer_line-len.ensures.line
      c.loop-index.invariant.written c.in_ok-push_all-2.ensures.ok;
  later = omega (arith, c.loop-index.invariant.later, c.push_all-in-loop-index.ensures.cause.later);
}

pub returns-clause-ok : goal.returns-clause-ok
returns-clause-ok g c =
    reply_written c.args.answer.now c.loop-index.index _ _
    (omega (arith, c.loop-index-test.false, c.answer_line_count-index-end.ensures)) c.loop-index.invariant.written
