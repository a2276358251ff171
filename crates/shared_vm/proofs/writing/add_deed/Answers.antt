use Rattle.std.proofs.Common.{take, refl, arith}
use Rattle.script_io.proofs.Moving.{on_err}
use Rattle.shared_vm.specs.Texts.{deed_lines}
use Rattle.shared_vm.specs.inside.Noting.{deed_of}
use Rattle.shared_vm.proofs.PendingLaws.{PassesOn-none, piece_passed, piece_lost, pieces_passed}
use Rattle.shared_vm.proofs.TextLaws.{deed_line, deed_line-count}
use Rattle.shared_vm.proofs.writing.add_deed.Goals as goal

pub loop-index-init : goal.loop-index-init
loop-index-init g c = record { passed = PassesOn-none _ _; later = omega arith }

pub loop-index-preserved : goal.loop-index-preserved
loop-index-preserved g c = record {
  passed = piece_passed (deed_lines (deed_of c.args.actor c.args.answer.now)) c.loop-index.index _
      (deed_line (deed_of c.args.actor c.args.answer.now) c.loop-index.index (take c.write_answer_line-len.result c.write_answer_line-len.new.out) _ c.write_answer_line-len.ensures.line refl)
      _ _ _ _ _ c.loop-index.invariant.passed _ c.in_ok-add_line.ensures.ok;
  later = omega (arith, c.loop-index.invariant.later, c.add_line.ensures.cause.later);
}

pub returns-in_err-add_line-clause-err : goal.returns-in_err-add_line-clause-err
returns-in_err-add_line-clause-err g c =
    on_err c.from_residual.result (piece_lost (deed_lines (deed_of c.args.actor c.args.answer.now)) c.loop-index.index _
    (deed_line (deed_of c.args.actor c.args.answer.now) c.loop-index.index (take c.write_answer_line-len.result c.write_answer_line-len.new.out) _ c.write_answer_line-len.ensures.line refl)
    _ _ _ _ _ c.loop-index.invariant.passed c.in_err-add_line.ensures.err)

pub returns-clause-ok : goal.returns-clause-ok
returns-clause-ok g c =
    pieces_passed (deed_lines (deed_of c.args.actor c.args.answer.now)) c.loop-index.index _ _ _ _
    (omega (arith, deed_line-count (deed_of c.args.actor c.args.answer.now), c.loop-index-test.false, c.answer_line_count-index-end.ensures)) c.loop-index.invariant.passed
