use Rattle.cow_fork.proofs.Words.{arith}
use Rattle.cow_fork.proofs.SweepLaws.{swept-less, needed-less}
use Rattle.cow_fork.proofs.sweeping.sweep_row.Goals as goal

pub returns-then-is_idle-clause-swept : goal.returns-then-is_idle-clause-swept
returns-then-is_idle-clause-swept c =
    let idle = c.is_idle.ensures.idle c.if-is_idle.true c.look.result.now c.look.ensures in
    swept-less c.args.arena.now c.args.lists.now c.remove-zero.new.self c.args.at.0 c.args.page c.look.result.now c.requires.forest c.look.ensures
    idle.0 idle.1 c.remove-zero.ensures.slots (omega (arith, c.remove-zero.ensures.count)) (omega (arith, c.remove-zero.ensures.spare))

pub returns-then-is_idle-clause-needed : goal.returns-then-is_idle-clause-needed
returns-then-is_idle-clause-needed c =
    let idle = c.is_idle.ensures.idle c.if-is_idle.true c.look.result.now c.look.ensures in
    needed-less c.args.arena.now c.args.lists.now c.remove-zero.new.self c.args.at.0 c.args.page c.look.result.now c.requires.forest c.look.ensures
    idle.0 idle.1 c.remove-zero.ensures.slots
