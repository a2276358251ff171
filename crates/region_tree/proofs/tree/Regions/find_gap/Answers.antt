use Rattle.std.proofs.Common.{arith}
use Rattle.region_tree.proofs.PlaceLaws.{seen, place-is, place-lowest}
use Rattle.region_tree.proofs.TreeLaws.{given-seen, region-end}
use Rattle.region_tree.proofs.tree.Regions.find_gap.Goals as goal

pub end_within-end-requires : goal.end_within-end-requires
end_within-end-requires c =
    omega (arith, region-end _ _ c.self.invariant c.args.region.0 c.held-above.result c.held-above.ensures.region c.held-above.ensures.live)

pub gap_in-requires-clause-limit : goal.gap_in-requires-clause-limit
gap_in-requires-clause-limit c =
    omega (arith, c.end_within-end.ensures, region-end _ _ c.self.invariant c.args.region.0 c.held-above.result c.held-above.ensures.region c.held-above.ensures.live)

pub returns-clause-place : goal.returns-clause-place
returns-clause-place c =
    place-is _ _ (seen c.self.view_is c.self.invariant) _ c.args.region.0 c.held-above.result (given-seen c.self.view_is c.args.region.0 c.held-above.result c.held-above.ensures.region) c.args.count c.args.limit c.end_within-end.result
    c.requires.some (omega (arith, region-end _ _ c.self.invariant c.args.region.0 c.held-above.result c.held-above.ensures.region c.held-above.ensures.live))
    c.end_within-end.ensures _ c.gap_in.ensures

pub returns-clause-lowest : goal.returns-clause-lowest
returns-clause-lowest c =
    place-lowest _ _ (seen c.self.view_is c.self.invariant) _ c.args.region.0 c.held-above.result (given-seen c.self.view_is c.args.region.0 c.held-above.result c.held-above.ensures.region) c.args.count c.end_within-end.result
    _ c.gap_in.ensures
