use Rattle.cow_forest.proofs.Words.{◌-◌, ◌^◌, ◌≤◌, HasNone, shows_frame, tree_of}
use Rattle.cow_forest.proofs.looking.next_shown_by_rows.Given as goal

abbrev pub invariant-loop-page : goal.invariant-loop-page
invariant-loop-page l = record {
  from : l.from ≤ l.at;
  none : HasNone (shows_frame (tree_of l.arena l.lists) l.leaf.0) l.from l.at;
}

abbrev pub decreases-loop-page : goal.decreases-loop-page
decreases-loop-page l = 2 ^ 64 - l.at
