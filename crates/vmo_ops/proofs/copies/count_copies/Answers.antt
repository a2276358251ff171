use Rattle.std.proofs.Common.{arith}
use Rattle.vmo_ops.proofs.CopyRows.{copies-counted, copies-counted_none}
use Rattle.vmo_ops.proofs.copies.count_copies.Goals as goal

pub loop-page-preserved : goal.loop-page-preserved
loop-page-preserved c =
    let inv = c.loop-page.invariant in
    record {
      bound = omega (arith, c.in-Some.ensures.below);
      few = omega (arith, inv.few, c.in-Some.ensures.order);
      counted = omega (arith, inv.counted, copies-counted _ _ _ _ _ c.in-Some.ensures);
    }

pub returns : goal.returns
returns c = omega (arith, c.loop-page.invariant.counted, copies-counted_none _ _ _ _ c.loop-page.invariant.bound c.in_default.ensures)
