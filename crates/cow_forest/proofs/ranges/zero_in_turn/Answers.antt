use Rattle.cow_forest.proofs.Words.{refl, ◌∙◌, arith}
use Rattle.cow_fork.proofs.ZeroLaws.{zeroed-none}
use Rattle.cow_forest.proofs.RangeLaws.{zeroed-then, ready-page, ready-on, ready-room, zero-on}
use Rattle.cow_forest.proofs.JumpKeptLaws.{jumps-zeroed}
use Rattle.cow_forest.proofs.ranges.zero_in_turn.Goals as goal

pub loop-run-init : goal.loop-run-init
loop-run-init c =
    let first = c.first_to_zero-run.ensures in record { range = first.range; some = zeroed-none _ _ _ _ _ _ _ c.requires.ready.exact refl refl; zero = first.none }

pub zero_next-run-requires-clause-page : goal.zero_next-run-requires-clause-page
zero_next-run-requires-clause-page c =
    ready-page _ _ _ _ _ _ (ready-on _ _ _ _ _ _ c.requires.ready _ _ c.loop-run.invariant.some) _ (omega (arith, c.loop-run-test.true, c.loop-run.invariant.range))

pub zero_next-run-requires-clause-room : goal.zero_next-run-requires-clause-room
zero_next-run-requires-clause-room c =
    let inv = c.loop-run.invariant in ready-room _ _ _ _ _ _ (ready-on _ _ _ _ _ _ c.requires.ready _ _ inv.some) _ inv.range.0 (omega (arith, c.loop-run-test.true, inv.range))

pub zero_next-run-requires-clause-jumps : goal.zero_next-run-requires-clause-jumps
zero_next-run-requires-clause-jumps c =
    (c.requires.jumps.0, jumps-zeroed _ _ _ _ _ _ _ _ c.requires.ready.exact.forest _ c.requires.ready.visible c.loop-run.invariant.some _ _ c.requires.jumps.1)

pub loop-run-preserved : goal.loop-run-preserved
loop-run-preserved c =
    let inv = c.loop-run.invariant in
    let next = c.zero_next-run.ensures in
    record {
      range = (omega (arith, inv.range, next.range), omega (arith, inv.range, next.range), next.range.2 ∙ inv.range.2);
      some = zeroed-then _ _ _ _ _ _ _ _ _ _ _ _ _ _ inv.some next.some (omega arith) (omega arith) inv.range.0 (omega (arith, c.loop-run-test.true, inv.range));
      zero = zero-on _ _ _ _ _ _ _ _ _ _ _ (ready-page _ _ _ _ _ _ (ready-on _ _ _ _ _ _ c.requires.ready _ _ inv.some) _
          (omega (arith, c.loop-run-test.true, inv.range))) next.some inv.zero next.zero;
    }

pub returns-clause-zero : goal.returns-clause-zero
returns-clause-zero c = λ p low less. c.loop-run.invariant.zero p low (omega (arith, c.loop-run-test.false, c.loop-run.invariant.range))
