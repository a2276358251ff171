use Rattle.cow_jump.proofs.Words.{arith}
use Rattle.cow_jump.proofs.jumping.jump_of.Goals as goal

pub returns-in-Some : goal.returns-in-Some
returns-in-Some c =
    let has = c.in-Some.ensures in
    let is = c.requires.jumps.1.jumps c.args.at.0 c.in-Some.jump has.0 has.1 in (
      record { is = is; serial = has.1.same },
      is.there c.look.result.now c.look.ensures (let some = c.if-look-eq0.false in omega arith),
    )
