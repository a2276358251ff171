use Rattle.std.proofs.Common.{sym, ◌∙◌, arith}
use Rattle.region_tree.proofs.PlaceLaws.{seen, free-not_over}
use Rattle.region_tree.proofs.TreeLaws.{region-end}
use Rattle.region_tree.proofs.NotedLaws.{clear-is}
use Rattle.region_tree.proofs.tree.Regions.is_free_noted.Goals as goal

pub reaches_over-requires-clause-region : goal.reaches_over-requires-clause-region
reaches_over-requires-clause-region c = omega (arith, region-end _ _ (seen c.self.view_is c.self.invariant) c.args.region.0 c.args.above c.requires.above c.requires.live)

pub returns-then-not-reaches_over : goal.returns-then-not-reaches_over
returns-then-not-reaches_over c =
    free-not_over _ _ (seen c.self.view_is c.self.invariant) _ c.args.region.0 c.args.above c.requires.above c.args.first _
    (sym c.reaches_over.ensures ∙ c.if-not-reaches_over.true)

pub returns : goal.returns
returns c =
    clear-is _ _ (seen c.self.view_is c.self.invariant) _ c.requires.noted c.args.region.0 c.args.above c.requires.above c.requires.live _ c.args.first c.args.count
    (sym c.reaches_over.ensures ∙ c.if-not-reaches_over.false) _ c.is_clear.ensures
