use Rattle.balanced_tree.proofs.PairLaws.{row-there, value-found, values-taken, length-taken}
use Rattle.pair_map.specs.PairRows.{pair_rows}
use Rattle.pair_map.proofs.MapLaws.{seen_rows}
use Rattle.pair_map.proofs.pair_map.PairMap.remove.Goals as goal

pub remove-requires : goal.remove-requires
remove-requires g c =
    row-there pair_rows _ _ (seen_rows c.self.view_is) c.args.first c.args.second _ c.ranges.second.fits c.pair_rank.ensures c.requires

pub returns-clause-value : goal.returns-clause-value
returns-clause-value g c =
    value-found pair_rows _ _ (seen_rows c.self.view_is) c.args.first c.args.second _ c.ranges.second.fits c.pair_rank.ensures
    c.remove.result c.remove.ensures.row

pub returns-clause-values : goal.returns-clause-values
returns-clause-values g c =
    values-taken pair_rows _ _ (seen_rows c.self.view_is) c.args.first c.args.second _ c.ranges.second.fits c.pair_rank.ensures
    c.remove.new.self.rows c.remove.ensures.rows

pub returns-clause-count : goal.returns-clause-count
returns-clause-count g c =
    length-taken pair_rows _ _ (seen_rows c.self.view_is) c.args.first c.args.second _ c.ranges.second.fits c.pair_rank.ensures
    c.remove.new.self.rows c.len-rising.ensures.rising c.remove.ensures.rows c.requires
