use Rattle.std.proofs.Common.{sym, ◌∙◌, arith}
use Rattle.region_tree.proofs.PlaceLaws.{seen, free-not_over, free-meets, free-gap}
use Rattle.region_tree.proofs.TreeLaws.{given-seen, region-end}
use Rattle.region_tree.proofs.tree.Regions.is_free.Goals as goal

pub reaches_over-requires-clause-region : goal.reaches_over-requires-clause-region
reaches_over-requires-clause-region c =
    omega (arith, region-end _ _ c.self.invariant c.args.region.0 c.held-above.result c.held-above.ensures.region c.held-above.ensures.live)

pub returns-then-not-reaches_over : goal.returns-then-not-reaches_over
returns-then-not-reaches_over c =
    free-not_over _ _ (seen c.self.view_is c.self.invariant) _ c.args.region.0 c.held-above.result (given-seen c.self.view_is c.args.region.0 c.held-above.result c.held-above.ensures.region) c.args.first _
    (sym c.reaches_over.ensures ∙ c.if-not-reaches_over.true)

pub returns-then-meets : goal.returns-then-meets
returns-then-meets c =
    free-meets _ _ (seen c.self.view_is c.self.invariant) _ c.args.region.0 c.held-above.result (given-seen c.self.view_is c.args.region.0 c.held-above.result c.held-above.ensures.region) c.args.first _
    (sym c.reaches_over.ensures ∙ c.if-not-reaches_over.false) (sym c.meets.ensures ∙ c.if-meets.true)

pub returns : goal.returns
returns c =
    c.is_some.ensures
    ∙ free-gap _ _ (seen c.self.view_is c.self.invariant) _ c.args.region.0 c.held-above.result (given-seen c.self.view_is c.args.region.0 c.held-above.result c.held-above.ensures.region) c.args.first c.args.count
    (sym c.reaches_over.ensures ∙ c.if-not-reaches_over.false) (sym c.meets.ensures ∙ c.if-meets.false) _ c.first_gap.ensures
