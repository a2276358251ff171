use Rattle.cow_jump.proofs.Words.{tree_of}
use Rattle.cow_jump.proofs.JumpLaws.{joined-new}
use Rattle.cow_jump.proofs.jumping.two_jumps.Goals as goal

pub returns : goal.returns
returns c =
    joined-new (tree_of c.args.arena.now c.args.lists.now) c.args.jumps.now c.args.at.0 c.in_ok-far.far c.joined.result c.joined.ensures
    c.in_ok-far.ensures.0.serial c.in_ok-far.ensures.1
