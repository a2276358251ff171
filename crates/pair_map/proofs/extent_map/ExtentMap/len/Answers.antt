use Rattle.pair_map.proofs.ExtentLaws.{StandApart-seen}
use Rattle.pair_map.proofs.extent_map.ExtentMap.len.Goals as goal

pub returns-clause-apart : goal.returns-clause-apart
returns-clause-apart g c = StandApart-seen c.self.view_is c.self.invariant c.len.ensures.rising
