use Rattle.std.proofs.Common.{◌≡◌}
use Rattle.pair_map.specs.Maps.{count_of}
use Rattle.checker_ready.specs.Notes.{rows_of, without_range}
use Rattle.checker_ready.proofs.ready_map.ReadyMap.drop_range.Given as goal

-- what is left to be dropped
abbrev pub invariant-loop-page : goal.invariant-loop-page
invariant-loop-page l = record {
  rest : without_range (rows_of l.self) l.root.0 l.first l.end ≡ without_range (rows_of l.initial.self) l.root.0 l.first l.end;
  spare : l.self.room ≡ l.initial.self.room;
}

abbrev pub decreases-loop-page : goal.decreases-loop-page
decreases-loop-page l = count_of l.self.places
