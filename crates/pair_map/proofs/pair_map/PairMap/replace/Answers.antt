use Rattle.std.proofs.Common.{ap}
use Rattle.pair_map.specs.PairRows.{pair_functions, value_of, pair_rows}
use Rattle.pair_map.proofs.MapLaws.{some-row, values-with, count-same}
use Rattle.pair_map.proofs.pair_map.PairMap.replace.Goals as goal

pub replace-requires : goal.replace-requires
replace-requires g c = some-row pair_rows c.self.view_is c.args.first c.args.second c.ranges.second.fits c.new.result (ap pair_functions.rank c.new.ensures) c.requires

pub returns-clause-values : goal.returns-clause-values
returns-clause-values g c =
    values-with pair_rows c.self.view_is c.args.first c.args.second c.ranges.second.fits c.new.result (ap pair_functions.rank c.new.ensures) (ap value_of c.new.ensures)
    c.replace.new.self c.replace.ensures.rows

pub returns-clause-count : goal.returns-clause-count
returns-clause-count g c =
    count-same pair_rows c.self.view_is c.args.first c.args.second c.ranges.second.fits c.new.result (ap pair_functions.rank c.new.ensures)
    c.len-rising.ensures.rising c.replace.new.self c.replace.ensures.rows c.requires
