use Rattle.cow_forest.proofs.Words.{displaced_in}
use Rattle.cow_forest.proofs.TableLaws.{from_ok, ok-there, displaced-put}
use Rattle.cow_forest.proofs.node_table.change.Goals as goal

pub returns : goal.returns
unfolding displaced_in
returns c =
    let done = c.insert-entered.ensures in
    displaced-put _ _ c.args.number c.args.node (from_ok c.insert-entered.result (ok-there c.insert-entered.result _ c.requires done.absent) done.updates).0
