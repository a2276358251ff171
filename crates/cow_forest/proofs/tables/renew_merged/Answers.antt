-- The node is there.
use Rattle.cow_forest.proofs.Words.{ap, is_some}
use Rattle.cow_forest.proofs.tables.renew_merged.Goals as goal

pub renew_jump-requires-clause-node : goal.renew_jump-requires-clause-node
renew_jump-requires-clause-node c = let has = rw c.in-Some.is at c.requires.merged in ap is_some has.at
