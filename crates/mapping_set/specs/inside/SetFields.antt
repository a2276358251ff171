-- How the fields of the set are seen, and what holds of them.
use Rattle.std.specs.Prelude.{min}
use Rattle.pair_map.specs.Maps.{values_of, extents_of}
use Rattle.mapping_set.specs.declared.mapping_set.MappingSet.TheInside.{Inside}
use Rattle.mapping_set.specs.Pieces.{ArePieces, AreListed}
use Rattle.mapping_set.specs.Tables.{Mappings}
use Rattle.mapping_set.specs.inside.Taken.{pieces_in}

abbrev pub mappings_of : Inside → Mappings
mappings_of a = record { pieces = a.pieces; spare = min a.pieces.spare a.taken.spare; taken = a.taken }

pub record AreMappings (a : Inside) : Type 0 where
  pub pieces : ArePieces (values_of a.pieces)
  pub taken : AreListed (values_of a.pieces) (pieces_in (extents_of a.taken))
