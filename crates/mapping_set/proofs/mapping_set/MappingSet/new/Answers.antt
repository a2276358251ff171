use Rattle.mapping_set.proofs.TableLaws.{table_in-empty}
use Rattle.mapping_set.proofs.PieceLaws.{ArePieces-none, AreListed-none}
use Rattle.mapping_set.proofs.TakenLaws.{pieces_in-none, places_in-none}
use Rattle.mapping_set.proofs.mapping_set.MappingSet.new.Goals as goal

pub invariant_of-result : goal.invariant_of-result
invariant_of-result c = record {
  pieces = ArePieces-none _ c.new.ensures.values;
  taken = AreListed-none _ _ c.new.ensures.values (pieces_in-none _ c.new-2.ensures.extents);
}

pub returns-clause-table : goal.returns-clause-table
returns-clause-table c = table_in-empty _ c.new.ensures.values

pub returns-clause-places : goal.returns-clause-places
returns-clause-places c = places_in-none _ c.new-2.ensures.extents
