use Rattle.std.proofs.Common.{map, arith}
use Rattle.script_io.proofs.Moving.{on_err}
use Rattle.shared_vm.specs.Texts.{deed_text}
use Rattle.shared_vm.proofs.PendingLaws.{PassesOn-none, piece_passed, piece_lost, ok_flushed, err_flushed}
use Rattle.shared_vm.proofs.TextLaws.{deed_there, deed_piece, deeds_cut, deeds_passed}
use Rattle.shared_vm.proofs.writing.push_journal.Goals as goal

pub loop-index-init : goal.loop-index-init
loop-index-init g c = record { passed = rw c.new-pending.ensures (PassesOn-none _ _); later = omega arith }

pub loop-index-preserved : goal.loop-index-preserved
loop-index-preserved g c =
    let deeds = c.args.notes.now.deeds in
    let there = deed_there deeds c.loop-index.index (omega (arith, c.loop-index-test.true, c.len-index-end.ensures)) in
    record {
      passed = piece_passed (map deed_text deeds) c.loop-index.index (deed_text there.0) (deed_piece deeds c.loop-index.index there.0 there.1)
          _ _ _ _ _ c.loop-index.invariant.passed _ (c.in_ok-add_text.ensures.ok there.0 there.1);
      later = omega (arith, c.loop-index.invariant.later, c.add_text.ensures.cause.later);
    }

pub returns-in_err-add_text-clause-err : goal.returns-in_err-add_text-clause-err
returns-in_err-add_text-clause-err g c =
    let deeds = c.args.notes.now.deeds in
    let there = deed_there deeds c.loop-index.index (omega (arith, c.loop-index-test.true, c.len-index-end.ensures)) in
    on_err c.from_residual.result (deeds_cut deeds _ _
    (piece_lost (map deed_text deeds) c.loop-index.index (deed_text there.0) (deed_piece deeds c.loop-index.index there.0 there.1)
    _ _ _ _ _ c.loop-index.invariant.passed (c.in_err-add_text.ensures.err there.0 there.1)))

pub returns-clause-ok : goal.returns-clause-ok
returns-clause-ok g c =
    ok_flushed c.flush.result _ _ _ _ _
    (deeds_passed c.args.notes.now.deeds c.loop-index.index _ _ _ _ (omega (arith, c.loop-index-test.false, c.len-index-end.ensures)) c.loop-index.invariant.passed)
    c.flush.ensures.ok

pub returns-clause-err : goal.returns-clause-err
returns-clause-err g c =
    err_flushed c.flush.result _ _ _ _ _
    (deeds_passed c.args.notes.now.deeds c.loop-index.index _ _ _ _ (omega (arith, c.loop-index-test.false, c.len-index-end.ensures)) c.loop-index.invariant.passed)
    c.flush.ensures.err
