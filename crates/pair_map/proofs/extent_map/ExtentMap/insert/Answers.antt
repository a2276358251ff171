use Rattle.std.proofs.Common.{ap}
use Rattle.pair_map.specs.StretchRows.{stretch_functions, extent_of, stretch_rows}
use Rattle.pair_map.proofs.MapLaws.{no-row, values-with, count-more}
use Rattle.pair_map.proofs.ExtentLaws.{none-seen, AreExtents-more}
use Rattle.pair_map.proofs.extent_map.ExtentMap.insert.Goals as goal

pub insert-requires-clause-absent : goal.insert-requires-clause-absent
insert-requires-clause-absent g c =
    no-row stretch_rows c.self.view_is c.args.list c.args.first c.ranges.first.fits c.new.result (ap stretch_functions.rank c.new.ensures)
    (none-seen c.self.view_is c.self.invariant c.len-rising.ensures.rising c.args.list c.args.first c.args.count c.requires.some c.requires.free)

pub invariant_of-self : goal.invariant_of-self
invariant_of-self g c =
    AreExtents-more c.self.view_is c.self.invariant c.len-rising.ensures.rising c.args.list c.args.first _ c.ranges.list.fits c.requires.some
    c.requires.end c.requires.free c.new.result c.new.ensures c.insert.new.self.rows c.insert.ensures.rows

pub returns-clause-extents : goal.returns-clause-extents
returns-clause-extents g c =
    values-with stretch_rows c.self.view_is c.args.list c.args.first c.ranges.first.fits c.new.result (ap stretch_functions.rank c.new.ensures)
    (ap extent_of c.new.ensures) c.insert.new.self c.insert.ensures.rows

pub returns-clause-count : goal.returns-clause-count
returns-clause-count g c =
    count-more stretch_rows c.self.view_is c.args.list c.args.first c.ranges.first.fits c.new.result (ap stretch_functions.rank c.new.ensures)
    c.len-rising.ensures.rising c.insert.new.self c.insert.ensures.rows
    (none-seen c.self.view_is c.self.invariant c.len-rising.ensures.rising c.args.list c.args.first c.args.count c.requires.some c.requires.free)
