use Rattle.std.proofs.Common.{sym}
use Rattle.region_ops.proofs.PlaceLaws.{live_end}
use Rattle.region_ops.proofs.placing.live_region.Goals as goal

pub returns-clause-end : goal.returns-clause-end
returns-clause-end c = live_end _ _ _ c.in-Some.ensures.good (sym c.in-Some.ensures.region) c.requires
