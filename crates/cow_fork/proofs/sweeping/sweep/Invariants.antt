use Rattle.cow_fork.proofs.Words.{◌-◌}
use Rattle.cow_fork.proofs.SweepLaws.{AreNodesSwept}
use Rattle.cow_fork.proofs.sweeping.sweep.Given as goal

abbrev pub invariant-loop-at : goal.invariant-loop-at
invariant-loop-at l = AreNodesSwept l.arena l.fn.lists l.lists l.at

abbrev pub decreases-loop-at : goal.decreases-loop-at
decreases-loop-at l = l.end - l.at
