use Rattle.cow_merge.proofs.Words.{HasNone, has_row, slots_of, Moves, IsLifting, KeepsFamily}
use Rattle.cow_merge.proofs.LiftedLaws.{still_ahead}
use Rattle.cow_merge.proofs.lifting.lift_rows.Given as goal

abbrev pub invariant-loop-page : goal.invariant-loop-page
invariant-loop-page l = record {
  lifting : IsLifting l.arena l.lists l.frames l.fn.family.leaf.0 l.fn.family.hidden.0 l.fn.family.sibling.0;
  moves : Moves l.arena l.fn.lists l.lists l.fn.frames l.frames l.fn.family.leaf.0 0 (KeepsFamily l.arena l.fn.family.leaf.0 l.fn.family.hidden.0 l.fn.family.sibling.0);
  below : HasNone (has_row (slots_of l.lists l.above.list.0)) l.from l.at;
}

abbrev pub decreases-loop-page : goal.decreases-loop-page
decreases-loop-page l = still_ahead l.at (slots_of l.lists l.above.list.0 l.at)
