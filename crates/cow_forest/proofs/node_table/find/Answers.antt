use Rattle.cow_forest.proofs.Words.{sym, displaced_in}
use Rattle.cow_forest.proofs.node_table.find.Goals as goal

pub returns-in-Some : goal.returns-in-Some
unfolding displaced_in
returns-in-Some c = sym c.in-Some.ensures.value

pub returns-in-None : goal.returns-in-None
unfolding displaced_in
returns-in-None c = sym c.in-None.ensures.value
