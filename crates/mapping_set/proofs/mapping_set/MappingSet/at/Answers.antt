use Rattle.pair_map.specs.Maps.{values_of}
use Rattle.mapping_set.proofs.TableLaws.{table_in-below}
use Rattle.mapping_set.proofs.mapping_set.MappingSet.at.Goals as goal

pub returns-in_err-_last-clause-below : goal.returns-in_err-_last-clause-below
returns-in_err-_last-clause-below c = table_in-below (values_of c.args.self.now.pieces)

pub returns-then-piece-page-clause-below : goal.returns-then-piece-page-clause-below
returns-then-piece-page-clause-below c = table_in-below (values_of c.args.self.now.pieces)

pub returns-else-piece-page-clause-below : goal.returns-else-piece-page-clause-below
returns-else-piece-page-clause-below c = table_in-below (values_of c.args.self.now.pieces)
