use Rattle.cow_merge.proofs.Words.{◌-◌, ◌^◌, IsPartOf, IsUncovering, Moves}
use Rattle.cow_merge.proofs.uncovering.uncover.Given as goal

abbrev pub invariant-loop-page : goal.invariant-loop-page
invariant-loop-page l = record {
  uncovering : IsUncovering l.arena l.lists l.frames l.fn.leaf.0 l.fn.hidden.0 l.from;
  lost : Moves l.arena l.fn.lists l.lists l.fn.frames l.frames l.fn.leaf.0 0 IsPartOf;
}

abbrev pub decreases-loop-page : goal.decreases-loop-page
decreases-loop-page l = 2 ^ 64 - l.from
