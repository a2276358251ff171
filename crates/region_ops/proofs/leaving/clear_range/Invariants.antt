use Rattle.std.proofs.Common.{◌≡◌, ◌+◌, None}
use Rattle.vm_model.specs.Space.Table.{with_pages}
use Rattle.mapping_set.specs.Tables.{table_of, mapping_spare, places_of}
use Rattle.region_ops.proofs.ClearLaws.{IsOnTheWay, HasRoomLeft, entries_under}
use Rattle.region_ops.proofs.leaving.clear_range.Given as goal

abbrev pub invariant-loop-piece : goal.invariant-loop-piece
invariant-loop-piece g l = record {
  way : IsOnTheWay (g.P.PageStore.content l.initial.store) l.initial.vmos (table_of l.initial.maps) (g.P.PageStore.content l.store) l.vmos (table_of l.maps);
  cleared : with_pages (table_of l.maps) l.root.0 l.first (l.first + l.count) (λ p. None)
      ≡ with_pages (table_of l.initial.maps) l.root.0 l.first (l.first + l.count) (λ p. None);
  room : HasRoomLeft (mapping_spare l.initial.maps) (mapping_spare l.maps) (table_of l.maps l.root.0) l.first (l.first + l.count);
  places : places_of l.maps ≡ places_of l.initial.maps;
}

abbrev pub decreases-loop-piece : goal.decreases-loop-piece
decreases-loop-piece g l = entries_under (table_of l.maps) l.root.0
