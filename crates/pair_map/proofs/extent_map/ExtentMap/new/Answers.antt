use Rattle.balanced_tree.proofs.PairLaws.{values-none}
use Rattle.pair_map.specs.StretchRows.{stretch_rows}
use Rattle.pair_map.proofs.extent_map.ExtentMap.new.Goals as goal

pub returns-clause-extents : goal.returns-clause-extents
returns-clause-extents g c = values-none stretch_rows c.new.result.rows c.new.ensures.rows
