use Rattle.region_tree.proofs.TreeLaws.{given-seen}
use Rattle.region_tree.proofs.tree.Regions.live.Goals as goal

pub returns-clause-region : goal.returns-clause-region
returns-clause-region c = given-seen c.self.view_is c.args.name.0 c.held.result c.held.ensures.region
