use Rattle.std.proofs.Common.{◌≤◌, ◌-◌}
use Rattle.vm_model.specs.Contents.Content.{pages_of}
use Rattle.attribution.specs.inside.Counts.{AreCounts}
use Rattle.attribution.proofs.counts.count_held.Given as goal

abbrev pub invariant-loop-page : goal.invariant-loop-page
invariant-loop-page g l = record {
  bound : l.from ≤ pages_of (g.P.PageStore.content l.store) l.koid.0;
  counts : AreCounts (g.P.PageStore.content l.store) l.koid.0 l.from l.counts;
}

abbrev pub decreases-loop-page : goal.decreases-loop-page
decreases-loop-page g l = pages_of (g.P.PageStore.content l.store) l.koid.0 - l.from
