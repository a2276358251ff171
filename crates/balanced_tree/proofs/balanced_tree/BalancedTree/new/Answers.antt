use Rattle.balanced_tree.proofs.Views.{rows-empty, IsTree-empty}
use Rattle.balanced_tree.proofs.balanced_tree.BalancedTree.new.Goals as goal

pub returns-clause-rows : goal.returns-clause-rows
returns-clause-rows g c = rows-empty g.R.TreeRow.functions g.met.R.TreeRow.lawful c.new.result

pub invariant_of-result : goal.invariant_of-result
invariant_of-result g c = IsTree-empty g.R.TreeRow.functions g.met.R.TreeRow.lawful c.new.result c.new.ensures.empty c.new.ensures.capacity
