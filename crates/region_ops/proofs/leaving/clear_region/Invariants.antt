use Rattle.std.proofs.Common.{◌≡◌}
use Rattle.mapping_set.specs.Tables.{table_of, places_of, entries_in}
use Rattle.region_ops.specs.Spaces.{without_entries}
use Rattle.region_ops.proofs.ClearLaws.{IsOnTheWay}
use Rattle.region_ops.proofs.leaving.clear_region.Given as goal

abbrev pub invariant-loop-piece : goal.invariant-loop-piece
invariant-loop-piece g l = record {
  way : IsOnTheWay (g.P.PageStore.content l.initial.store) l.initial.vmos (table_of l.initial.maps) (g.P.PageStore.content l.store) l.vmos (table_of l.maps);
  left : without_entries (table_of l.maps) l.root.0 l.region.0 ≡ without_entries (table_of l.initial.maps) l.root.0 l.region.0;
  places : places_of l.maps ≡ places_of l.initial.maps;
}

abbrev pub decreases-loop-piece : goal.decreases-loop-piece
decreases-loop-piece g l = entries_in (table_of l.maps) l.root.0 l.region.0
