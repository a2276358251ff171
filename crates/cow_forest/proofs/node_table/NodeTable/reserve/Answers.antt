use Rattle.cow_forest.proofs.Words.{refl}
use Rattle.cow_forest.proofs.PlaceLaws.{still-in}
use Rattle.cow_forest.proofs.TableLaws.{displaced-same}
use Rattle.cow_forest.proofs.node_table.NodeTable.reserve.Goals as goal

pub returns-in_default-clause-nodes : goal.returns-in_default-clause-nodes
returns-in_default-clause-nodes c = rw (← c.self.view_is) (still-in _ _ refl (displaced-same _ _ c.reserve.ensures.entries.2))

pub returns-clause-nodes : goal.returns-clause-nodes
returns-clause-nodes c = rw (← c.self.view_is) (still-in _ _ refl (displaced-same _ _ c.reserve.ensures.entries.2))
