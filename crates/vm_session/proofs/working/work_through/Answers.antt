use Rattle.std.proofs.Common.{arith}
use Rattle.vm_session.proofs.WorkLaws.{more_most, IsUnderWay-start, IsUnderWay-more, StepsOn-end}
use Rattle.vm_session.proofs.working.work_through.Goals as goal

pub loop-init : goal.loop-init
loop-init g c = record {
  under_way = IsUnderWay-start _ _ _ _ (omega arith);
  agrees = c.requires.agrees;
  next = omega arith;
  ok = omega arith;
  refused = omega arith;
  host = omega arith;
}

pub loop-preserved : goal.loop-preserved
loop-preserved g c = record {
  under_way = IsUnderWay-more _ _ _ _ _ _ _ _ _ _ _ _ _ c.loop.invariant.under_way (omega (arith, c.loop-test.true))
      c.number_after-x.ensures c.call_for.ensures c.add.ensures c.answer-answer.ensures.step;
  agrees = c.answer-answer.ensures.agrees;
  next = omega (arith, c.loop.invariant.next, c.answer-answer.ensures.next);
  ok = rw c.add.ensures (more_most _ _ _ c.loop.invariant.ok);
  refused = rw c.add.ensures (more_most _ _ _ c.loop.invariant.refused);
  host = rw c.add.ensures (more_most _ _ _ c.loop.invariant.host);
}

pub returns-clause-steps : goal.returns-clause-steps
returns-clause-steps g c =
    StepsOn-end _ _ _ _ _ _ _ c.loop.invariant.under_way (omega (arith, c.loop-test.false))
