use Rattle.cow_forest.proofs.Words.{arith}
use Rattle.cow_forest.proofs.TableLaws.{from_ok, displaced-put}
use Rattle.cow_forest.proofs.node_table.put.Goals as goal

pub returns-clause-nodes : goal.returns-clause-nodes
returns-clause-nodes c =
    let done = c.insert-entered.ensures in
    displaced-put _ _ c.args.number c.args.node (from_ok c.insert-entered.result (done.succeeds (omega (arith, c.requires))) done.updates).0
