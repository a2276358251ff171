use Rattle.std.proofs.Common.{arith}
use Rattle.region_tree.proofs.PlaceLaws.{seen, place-is, place-lowest}
use Rattle.region_tree.proofs.TreeLaws.{region-end}
use Rattle.region_tree.proofs.NotedLaws.{clear-place}
use Rattle.region_tree.proofs.tree.Regions.find_gap_noted.Goals as goal

pub end_within-end-requires : goal.end_within-end-requires
end_within-end-requires c = omega (arith, region-end _ _ (seen c.self.view_is c.self.invariant) c.args.region.0 c.args.above c.requires.above c.requires.live)

pub first_clear-requires-clause-limit : goal.first_clear-requires-clause-limit
first_clear-requires-clause-limit c =
    omega (arith, c.end_within-end.ensures, region-end _ _ (seen c.self.view_is c.self.invariant) c.args.region.0 c.args.above c.requires.above c.requires.live)

pub returns-clause-place : goal.returns-clause-place
returns-clause-place c =
    place-is _ _ (seen c.self.view_is c.self.invariant) _ c.args.region.0 c.args.above c.requires.above c.args.count c.args.limit c.end_within-end.result
    c.requires.some (omega (arith, region-end _ _ (seen c.self.view_is c.self.invariant) c.args.region.0 c.args.above c.requires.above c.requires.live))
    c.end_within-end.ensures _
    (clear-place _ _ (seen c.self.view_is c.self.invariant) _ c.requires.noted c.args.region.0 c.args.above c.requires.above c.requires.live _ _ _ _ _ c.first_clear.ensures)

pub returns-clause-lowest : goal.returns-clause-lowest
returns-clause-lowest c =
    place-lowest _ _ (seen c.self.view_is c.self.invariant) _ c.args.region.0 c.args.above c.requires.above c.args.count c.end_within-end.result _
    (clear-place _ _ (seen c.self.view_is c.self.invariant) _ c.requires.noted c.args.region.0 c.args.above c.requires.above c.requires.live _ _ _ _ _ c.first_clear.ensures)
