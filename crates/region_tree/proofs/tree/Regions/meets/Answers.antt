use Rattle.region_tree.proofs.PlaceLaws.{seen, meets-is}
use Rattle.region_tree.proofs.tree.Regions.meets.Goals as goal

pub returns : goal.returns
returns c = meets-is _ _ (seen c.self.view_is c.self.invariant) c.args.region.0 c.args.first c.args.count _ c.is_open.ensures
