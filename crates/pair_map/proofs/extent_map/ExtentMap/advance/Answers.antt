use Rattle.std.proofs.Common.{is_some, sym, ap, subst}
use Rattle.balanced_tree.specs.Rows.{AreAllBeside}
use Rattle.balanced_tree.proofs.PairLaws.{row-there}
use Rattle.pair_map.specs.StretchRows.{stretch_functions, stretch_rows}
use Rattle.pair_map.proofs.MapLaws.{seen_rows}
use Rattle.pair_map.proofs.PartLaws.{beside-extent, AreExtents-advanced, values-advanced, count-advanced}
use Rattle.pair_map.proofs.extent_map.ExtentMap.advance.Goals as goal

pub replace_at-requires-clause-there : goal.replace_at-requires-clause-there
replace_at-requires-clause-there g c =
    row-there stretch_rows _ _ (seen_rows c.self.view_is) c.args.list c.args.first _ c.ranges.first.fits c.pair_rank.ensures (ap is_some c.requires.extent.is)

pub replace_at-requires-clause-beside : goal.replace_at-requires-clause-beside
replace_at-requires-clause-beside g c =
    subst (λ m. AreAllBeside stretch_functions c.pair_rank.result m c.self.inside.tree.rows) (sym (ap stretch_functions.rank c.new.ensures))
    (beside-extent c.self.view_is c.self.invariant c.len-rising.ensures.rising c.args.list c.args.first c.args.end c.args.to c.pair_rank.result c.pair_rank.ensures
    c.ranges.first.fits c.ranges.to.fits c.requires.extent c.requires.order.0 c.requires.order.1)

pub invariant_of-self : goal.invariant_of-self
invariant_of-self g c =
    AreExtents-advanced c.self.view_is c.self.invariant c.len-rising.ensures.rising c.args.list c.args.first c.args.end c.args.to c.pair_rank.result c.pair_rank.ensures
    c.ranges.first.fits c.ranges.to.fits c.requires.extent c.requires.order.0 c.requires.order.1 c.args.value c.ranges.list.fits c.new.result c.new.ensures c.replace_at.new.self c.replace_at.ensures.rows

pub returns-clause-extents : goal.returns-clause-extents
returns-clause-extents g c =
    values-advanced c.self.view_is c.self.invariant c.len-rising.ensures.rising c.args.list c.args.first c.args.end c.args.to c.pair_rank.result c.pair_rank.ensures
    c.ranges.first.fits c.ranges.to.fits c.requires.extent c.requires.order.0 c.requires.order.1 c.args.value c.ranges.list.fits c.new.result c.new.ensures c.replace_at.new.self c.replace_at.ensures.rows

pub returns-clause-count : goal.returns-clause-count
returns-clause-count g c =
    count-advanced c.self.view_is c.self.invariant c.len-rising.ensures.rising c.args.list c.args.first c.args.end c.args.to c.pair_rank.result c.pair_rank.ensures
    c.ranges.first.fits c.ranges.to.fits c.requires.extent c.requires.order.0 c.requires.order.1 c.args.value c.ranges.list.fits c.new.result c.new.ensures c.replace_at.new.self c.replace_at.ensures.rows
