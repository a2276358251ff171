use Rattle.cow_fork.proofs.Words.{◌<◌, ◌-◌, ◌^◌}
use Rattle.cow_fork.proofs.SweepLaws.{AreSwept}
use Rattle.cow_fork.proofs.sweeping.sweep_rows.Given as goal

abbrev pub invariant-loop-page : goal.invariant-loop-page
invariant-loop-page l = AreSwept l.arena l.fn.lists l.lists l.at.0 l.from × (l.from < 2 ^ 64)

abbrev pub decreases-loop-page : goal.decreases-loop-page
decreases-loop-page l = 2 ^ 64 - l.from
