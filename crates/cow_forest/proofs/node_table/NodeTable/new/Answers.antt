use Rattle.cow_forest.proofs.PlaceLaws.{none-placed, none-in}
use Rattle.cow_forest.proofs.node_table.NodeTable.new.Goals as goal

pub invariant_of-result : goal.invariant_of-result
invariant_of-result c = rw c.none_recent.ensures (record { placed = none-placed })

pub returns : goal.returns
returns c = none-in _ c.none_recent.ensures c.new.ensures.empty
