use Rattle.cow_forest.proofs.Words.{sym, ◌∙◌}
use Rattle.cow_forest.proofs.PlaceLaws.{displaced-other, displaced-none}
use Rattle.cow_forest.proofs.node_table.displace.Goals as goal

pub returns-in-Some-clause-nodes : goal.returns-in-Some-clause-nodes
returns-in-Some-clause-nodes c = displaced-other c.args.entry c.args.number _ _ _ _ (sym c.unless_own.ensures ∙ c.in-Some.is) c.put.ensures.nodes

pub returns-in_default-clause-nodes : goal.returns-in_default-clause-nodes
returns-in_default-clause-nodes c = displaced-none c.args.entry c.args.number _ (sym c.unless_own.ensures ∙ c.in_default.is)
