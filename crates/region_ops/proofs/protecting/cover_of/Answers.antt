use Rattle.std.proofs.Common.{sym, ap, not, arith}
use Rattle.region_ops.proofs.CoverLaws.{covered-none, covered-join, covered-end, hole-part}
use Rattle.region_ops.proofs.protecting.cover_of.Goals as goal

pub loop-at-init : goal.loop-at-init
loop-at-init c = record {
  low = omega arith;
  high = c.requires.order;
  covered = covered-none _ _ _ c.args.first;
}

pub returns-in_default-clause-whole : goal.returns-in_default-clause-whole
returns-in_default-clause-whole c =
    sym (ap not (hole-part _ _ c.args.perm.0 c.args.first c.loop-at.at c.args.end c.loop-at.invariant.low c.loop-at.invariant.high c.in_default.ensures))

pub returns-in_default-clause-allowed : goal.returns-in_default-clause-allowed
returns-in_default-clause-allowed c = λ whole.
    let hole = hole-part _ _ c.args.perm.0 c.args.first c.loop-at.at c.args.end c.loop-at.invariant.low c.loop-at.invariant.high c.in_default.ensures in absurd cc

pub loop-at-preserved : goal.loop-at-preserved
loop-at-preserved c = record {
  low = omega (arith, c.loop-at.invariant.low, c.in-Some.ensures.0);
  high = c.in-Some.ensures.1;
  covered = covered-join _ _ _ c.args.first c.loop-at.at c.in-Some.stretch.end _ _ c.loop-at.invariant.low (omega (arith, c.in-Some.ensures.0)) c.loop-at.invariant.covered
      c.in-Some.ensures.2;
}

pub returns-clause-whole : goal.returns-clause-whole
returns-clause-whole c =
    sym (ap not (covered-end _ _ _ _ _ c.args.end _ c.loop-at.invariant.high c.loop-at-test.false c.loop-at.invariant.covered).whole)

pub returns-clause-allowed : goal.returns-clause-allowed
returns-clause-allowed c = λ whole. (covered-end _ _ _ _ _ c.args.end _ c.loop-at.invariant.high c.loop-at-test.false c.loop-at.invariant.covered).free
