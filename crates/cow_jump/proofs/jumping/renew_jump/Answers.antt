-- The parent is there.
use Rattle.cow_jump.proofs.Words.{ap, is_some}
use Rattle.cow_jump.proofs.jumping.renew_jump.Goals as goal

pub way_of-requires-clause-node : goal.way_of-requires-clause-node
way_of-requires-clause-node c =
    let below = c.requires.forest.by.below c.in-Some.parent.0 c.args.at.0 c.look.result.now c.look.ensures c.in-Some.is in
    ap is_some below.at
