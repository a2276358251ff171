use Rattle.pair_map.specs.PairRows.{pair_rows}
use Rattle.pair_map.proofs.MapLaws.{next-pair, next-value}
use Rattle.pair_map.proofs.pair_map.PairMap.next.Goals as goal

pub returns-clause-next : goal.returns-clause-next
returns-clause-next g c =
    next-pair pair_rows c.self.view_is c.len-rising.ensures.rising c.args.first c.args.from c.pair_rank.ensures c.pair_in.ensures.fits
    c.next.ensures c.pair_in.ensures.pair

pub returns-clause-value : goal.returns-clause-value
returns-clause-value g c =
    next-value pair_rows c.self.view_is c.len-rising.ensures.rising c.args.first c.args.from c.pair_rank.ensures c.pair_in.ensures.fits
    c.next.ensures c.pair_in.ensures.pair
