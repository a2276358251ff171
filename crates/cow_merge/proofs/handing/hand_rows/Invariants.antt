use Rattle.cow_merge.proofs.Words.{ℕ, ◌≤◌, Some, HasNone, has_row, slots_of, IsHandingOver}
use Rattle.cow_merge.proofs.LiftedLaws.{still_ahead}
use Rattle.cow_merge.proofs.handing.hand_rows.Given as goal

-- the pages below some page at or past `from` have gone over, and no row of the child is left there
abbrev pub invariant-loop-page : goal.invariant-loop-page
invariant-loop-page l = record {
  handing : (at : ℕ) × (l.from ≤ at)
      × IsHandingOver l.arena l.fn.lists l.lists l.fn.frames l.frames l.fn.family.leaf.0 l.fn.family.hidden.0 l.fn.family.sibling.0 (Some at)
      × HasNone (has_row (slots_of l.lists l.list.0)) l.from at;
}

abbrev pub decreases-loop-page : goal.decreases-loop-page
decreases-loop-page l = still_ahead l.from (slots_of l.lists l.list.0 l.from)
