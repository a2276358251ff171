use Rattle.std.proofs.Common.{arith}
use Rattle.caller_laws.proofs.trees.pages_without_rows_are_made_zero_in_one_step.Goals as goal

pub returns : goal.returns
returns g c = λ k at. omega (arith, c.zero_range.ensures.cost k at, c.requires.root k at, c.requires.bare k)
