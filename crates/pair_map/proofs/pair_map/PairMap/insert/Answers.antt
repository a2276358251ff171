use Rattle.std.proofs.Common.{ap}
use Rattle.pair_map.specs.PairRows.{pair_functions, value_of, pair_rows}
use Rattle.pair_map.proofs.MapLaws.{no-row, values-with, count-more}
use Rattle.pair_map.proofs.pair_map.PairMap.insert.Goals as goal

pub insert-requires-clause-absent : goal.insert-requires-clause-absent
insert-requires-clause-absent g c =
    no-row pair_rows c.self.view_is c.args.first c.args.second c.ranges.second.fits c.new.result (ap pair_functions.rank c.new.ensures) c.requires.absent

pub returns-clause-values : goal.returns-clause-values
returns-clause-values g c =
    values-with pair_rows c.self.view_is c.args.first c.args.second c.ranges.second.fits c.new.result (ap pair_functions.rank c.new.ensures) (ap value_of c.new.ensures)
    c.insert.new.self c.insert.ensures.rows

pub returns-clause-count : goal.returns-clause-count
returns-clause-count g c =
    count-more pair_rows c.self.view_is c.args.first c.args.second c.ranges.second.fits c.new.result (ap pair_functions.rank c.new.ensures)
    c.len-rising.ensures.rising c.insert.new.self c.insert.ensures.rows c.requires.absent
