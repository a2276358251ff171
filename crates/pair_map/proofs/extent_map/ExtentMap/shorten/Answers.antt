use Rattle.std.proofs.Common.{ap, is_some}
use Rattle.pair_map.specs.StretchRows.{stretch_functions, extent_of, stretch_rows}
use Rattle.pair_map.proofs.MapLaws.{some-row, values-with, count-same}
use Rattle.pair_map.proofs.PartLaws.{AreExtents-shorter}
use Rattle.pair_map.proofs.extent_map.ExtentMap.shorten.Goals as goal

pub replace-requires : goal.replace-requires
replace-requires g c =
    some-row stretch_rows c.self.view_is c.args.list c.args.first c.ranges.first.fits c.new.result (ap stretch_functions.rank c.new.ensures)
    (ap is_some c.requires.head.is)

pub invariant_of-self : goal.invariant_of-self
invariant_of-self g c =
    AreExtents-shorter c.self.view_is c.self.invariant c.len-rising.ensures.rising c.args.list c.args.first c.args.count c.args.value c.ranges.list.fits
    c.ranges.first.fits c.requires.some c.requires.head c.new.result c.new.ensures c.replace.new.self.rows c.replace.ensures.rows

pub returns-clause-extents : goal.returns-clause-extents
returns-clause-extents g c =
    values-with stretch_rows c.self.view_is c.args.list c.args.first c.ranges.first.fits c.new.result (ap stretch_functions.rank c.new.ensures)
    (ap extent_of c.new.ensures) c.replace.new.self c.replace.ensures.rows

pub returns-clause-count : goal.returns-clause-count
returns-clause-count g c =
    count-same stretch_rows c.self.view_is c.args.list c.args.first c.ranges.first.fits c.new.result (ap stretch_functions.rank c.new.ensures)
    c.len-rising.ensures.rising c.replace.new.self c.replace.ensures.rows (ap is_some c.requires.head.is)
