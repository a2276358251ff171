use Rattle.cow_forest.proofs.TableLaws.{displaced-removed}
use Rattle.cow_forest.proofs.node_table.take_out.Goals as goal

pub returns : goal.returns
returns c = displaced-removed _ _ c.args.number c.remove-left.ensures.updates.0
