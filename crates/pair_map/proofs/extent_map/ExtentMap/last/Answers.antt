use Rattle.pair_map.specs.StretchRows.{stretch_rows}
use Rattle.pair_map.proofs.MapLaws.{last-is}
use Rattle.pair_map.proofs.extent_map.ExtentMap.last.Goals as goal

pub returns : goal.returns
returns g c =
    last-is stretch_rows c.self.view_is c.len-rising.ensures.rising c.args.list c.args.to c.ranges.to.fits c.pair_rank.ensures
    c.stretch_in.ensures.fits c.last.ensures c.stretch_in.ensures.extent
