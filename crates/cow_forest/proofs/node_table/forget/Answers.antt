use Rattle.cow_forest.proofs.TableLaws.{none-removed}
use Rattle.cow_forest.proofs.node_table.forget.Goals as goal

pub returns-else-not-is_empty : goal.returns-else-not-is_empty
returns-else-not-is_empty c = none-removed c.args.displaced.now.entries c.args.number (c.is_empty.ensures.0 c.if-not-is_empty.false)
