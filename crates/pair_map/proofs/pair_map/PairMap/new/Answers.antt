use Rattle.balanced_tree.proofs.PairLaws.{values-none}
use Rattle.pair_map.specs.PairRows.{pair_rows}
use Rattle.pair_map.proofs.pair_map.PairMap.new.Goals as goal

pub returns-clause-values : goal.returns-clause-values
returns-clause-values g c = values-none pair_rows c.new.result.rows c.new.ensures.rows
