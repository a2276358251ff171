use Rattle.std.proofs.Common.{sym, ap, subst}
use Rattle.balanced_tree.specs.Rows.{AreAllBeside}
use Rattle.balanced_tree.proofs.PairLaws.{row-there}
use Rattle.pair_map.specs.PairRows.{pair_functions, value_of, pair_rows}
use Rattle.pair_map.proofs.MapLaws.{seen_rows, beside-pair, values-moved, count-moved}
use Rattle.pair_map.proofs.pair_map.PairMap.replace_at.Goals as goal

pub replace_at-requires-clause-there : goal.replace_at-requires-clause-there
replace_at-requires-clause-there g c =
    row-there pair_rows _ _ (seen_rows c.self.view_is) c.args.first c.args.second _ c.ranges.second.fits c.pair_rank.ensures c.requires.there

pub replace_at-requires-clause-beside : goal.replace_at-requires-clause-beside
replace_at-requires-clause-beside g c =
    subst (λ m. AreAllBeside pair_functions c.pair_rank.result m c.self.inside.tree.rows) (sym (ap pair_functions.rank c.new.ensures))
    (beside-pair pair_rows c.self.view_is c.len-rising.ensures.rising c.args.first c.args.second c.args.to c.pair_rank.result c.pair_rank.ensures c.ranges.second.fits c.ranges.to.fits c.requires.between)

pub returns-clause-values : goal.returns-clause-values
returns-clause-values g c =
    values-moved pair_rows c.self.view_is c.len-rising.ensures.rising c.args.first c.args.second c.args.to c.pair_rank.result c.pair_rank.ensures c.ranges.second.fits c.ranges.to.fits c.requires.between
    c.new.result (ap pair_functions.rank c.new.ensures) (ap value_of c.new.ensures) c.replace_at.new.self c.replace_at.ensures.rows

pub returns-clause-count : goal.returns-clause-count
returns-clause-count g c =
    count-moved pair_rows c.self.view_is c.len-rising.ensures.rising c.args.first c.args.second c.args.to c.pair_rank.result c.pair_rank.ensures c.ranges.second.fits c.ranges.to.fits c.requires.between
    c.new.result (ap pair_functions.rank c.new.ensures) (ap value_of c.new.ensures) c.replace_at.new.self c.replace_at.ensures.rows c.requires.there
