use Rattle.std.proofs.Common.{◌≡◌, ◌-◌, ◌≤◌}
use Rattle.pair_map.specs.Maps.{values_of}
use Rattle.vm_model.specs.Space.Table.{with_pages, with_perm}
use Rattle.mapping_set.specs.Pieces.{IsBorder}
use Rattle.mapping_set.specs.Tables.{table_of, mapping_spare, places_of}
use Rattle.mapping_set.proofs.mapping_set.MappingSet.restrict_pieces.Given as goal

-- the entries up to here have their new permissions, and no piece is cut here
abbrev pub invariant-loop-at : goal.invariant-loop-at
invariant-loop-at l = record {
  low : l.first ≤ l.at;
  high : l.at ≤ l.end;
  table : table_of l.self ≡ with_pages (table_of l.initial.self) l.root.0 l.first l.at (with_perm l.perm (table_of l.initial.self l.root.0));
  begins : IsBorder (values_of l.self.pieces l.root.0) l.at;
  ends : IsBorder (values_of l.self.pieces l.root.0) l.end;
  spare : mapping_spare l.initial.self ≤ mapping_spare l.self;
  places : places_of l.self ≡ places_of l.initial.self;
}

abbrev pub decreases-loop-at : goal.decreases-loop-at
decreases-loop-at l = l.end - l.at
