use Rattle.cow_forest.proofs.Words.{◌-◌, ◌≤◌, HasNone, shows_frame, tree_of}
use Rattle.cow_forest.proofs.looking.first_shown.Given as goal

abbrev pub invariant-loop-page : goal.invariant-loop-page
invariant-loop-page l = record {
  from : l.from ≤ l.page;
  none : HasNone (shows_frame (tree_of l.arena l.lists) l.leaf.0) l.from l.page;
}

abbrev pub decreases-loop-page : goal.decreases-loop-page
decreases-loop-page l = l.end - l.page
