use Rattle.std.proofs.Common.{arith}
use Rattle.caller_laws.proofs.trees.a_page_without_a_parent_takes_one_look_up.Goals as goal

pub returns : goal.returns
returns g c = λ most k is at.
    let cost = rw (c.requires.root k at) at (c.look_counted.ensures.cost most k is at) in
    omega (arith, cost)
