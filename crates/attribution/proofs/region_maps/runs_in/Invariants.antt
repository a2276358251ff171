use Rattle.std.proofs.Common.{◌-◌}
use Rattle.mapping_set.specs.Tables.{table_of}
use Rattle.attribution.proofs.RunLaws.{AreBegun}
use Rattle.attribution.proofs.region_maps.runs_in.Given as goal

abbrev pub invariant-loop-piece : goal.invariant-loop-piece
invariant-loop-piece l = AreBegun (table_of l.maps l.root.0) l.first l.count l.at l.runs l.begun

abbrev pub decreases-loop-piece : goal.decreases-loop-piece
decreases-loop-piece l = l.end - l.at
