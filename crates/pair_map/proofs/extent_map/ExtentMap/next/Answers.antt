use Rattle.pair_map.specs.StretchRows.{stretch_rows}
use Rattle.pair_map.proofs.MapLaws.{next-pair, next-value}
use Rattle.pair_map.proofs.extent_map.ExtentMap.next.Goals as goal

pub returns-clause-next : goal.returns-clause-next
returns-clause-next g c =
    next-pair stretch_rows c.self.view_is c.len-rising.ensures.rising c.args.list c.args.from c.pair_rank.ensures c.stretch_in.ensures.fits
    c.next.ensures c.stretch_in.ensures.extent

pub returns-clause-extent : goal.returns-clause-extent
returns-clause-extent g c =
    next-value stretch_rows c.self.view_is c.len-rising.ensures.rising c.args.list c.args.from c.pair_rank.ensures c.stretch_in.ensures.fits
    c.next.ensures c.stretch_in.ensures.extent
