use Rattle.cow_forest.proofs.Words.{◌-◌}
use Rattle.cow_forest.proofs.RangeLaws.{IsSweeping}
use Rattle.cow_forest.proofs.ranges.zero_rows.Given as goal

abbrev pub invariant-loop-row : goal.invariant-loop-row
invariant-loop-row g l =
    IsSweeping l.arena l.fn.lists l.lists l.fn.frames l.frames l.leaf.0 l.first l.list.0 l.here l.to l.fn.steps l.steps l.from

abbrev pub decreases-loop-row : goal.decreases-loop-row
decreases-loop-row g l = l.to - l.from
