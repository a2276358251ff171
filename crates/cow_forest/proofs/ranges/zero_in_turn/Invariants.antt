use Rattle.cow_forest.proofs.Words.{◌≡◌, ◌-◌, ◌≤◌, HasNone, shows_frame, tree_of, HasZeroed}
use Rattle.cow_forest.proofs.ranges.zero_in_turn.Given as goal

abbrev pub invariant-loop-run : goal.invariant-loop-run
invariant-loop-run l = record {
  range : (l.fn.pages.from ≤ l.run.from) × (l.run.from ≤ l.fn.pages.end) × (l.run.end ≡ l.fn.pages.end);
  some : HasZeroed l.arena l.fn.lists l.lists l.fn.frames l.frames l.leaf.0 l.fn.pages.from l.fn.pages.end;
  zero : HasNone (shows_frame (tree_of l.arena l.lists) l.leaf.0) l.fn.pages.from l.run.from;
}

abbrev pub decreases-loop-run : goal.decreases-loop-run
decreases-loop-run l = l.run.end - l.run.from
