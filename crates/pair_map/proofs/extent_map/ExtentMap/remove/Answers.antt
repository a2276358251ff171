use Rattle.balanced_tree.proofs.PairLaws.{row-there, value-found, values-taken, length-taken}
use Rattle.pair_map.specs.StretchRows.{stretch_rows}
use Rattle.pair_map.proofs.MapLaws.{seen_rows}
use Rattle.pair_map.proofs.ExtentLaws.{AreExtents-less}
use Rattle.pair_map.proofs.extent_map.ExtentMap.remove.Goals as goal

pub remove-requires : goal.remove-requires
remove-requires g c =
    row-there stretch_rows _ _ (seen_rows c.self.view_is) c.args.list c.args.first _ c.ranges.first.fits c.pair_rank.ensures c.requires

pub invariant_of-self : goal.invariant_of-self
invariant_of-self g c = AreExtents-less c.self.inside.tree.rows c.self.invariant _ c.remove.new.self.rows c.remove.ensures.rows

pub returns-clause-extent : goal.returns-clause-extent
returns-clause-extent g c =
    value-found stretch_rows _ _ (seen_rows c.self.view_is) c.args.list c.args.first _ c.ranges.first.fits c.pair_rank.ensures
    c.remove.result c.remove.ensures.row

pub returns-clause-extents : goal.returns-clause-extents
returns-clause-extents g c =
    values-taken stretch_rows _ _ (seen_rows c.self.view_is) c.args.list c.args.first _ c.ranges.first.fits c.pair_rank.ensures
    c.remove.new.self.rows c.remove.ensures.rows

pub returns-clause-count : goal.returns-clause-count
returns-clause-count g c =
    length-taken stretch_rows _ _ (seen_rows c.self.view_is) c.args.list c.args.first _ c.ranges.first.fits c.pair_rank.ensures
    c.remove.new.self.rows c.len-rising.ensures.rising c.remove.ensures.rows c.requires
