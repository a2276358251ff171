use Rattle.std.proofs.Common.{◌-◌, ◌≤◌}
use Rattle.mapping_set.specs.Tables.{table_of}
use Rattle.region_ops.specs.inside.Covers.{IsCovered}
use Rattle.region_ops.proofs.protecting.cover_of.Given as goal

-- the pages up to here are covered
abbrev pub invariant-loop-at : goal.invariant-loop-at
invariant-loop-at l = record {
  low : l.first ≤ l.at;
  high : l.at ≤ l.end;
  covered : IsCovered (table_of l.maps l.root.0) l.region.0 l.perm.0 l.first l.at l.allowed;
}

abbrev pub decreases-loop-at : goal.decreases-loop-at
decreases-loop-at l = l.end - l.at
