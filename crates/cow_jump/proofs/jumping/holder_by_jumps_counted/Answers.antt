use Rattle.cow_jump.proofs.Words.{sym, ap, tree_of, holder_of}
use Rattle.cow_arena.proofs.WalkLaws.{walk-row}
use Rattle.cow_jump.proofs.JumpLaws.{cost_of_one}
use Rattle.cow_jump.proofs.jumping.holder_by_jumps_counted.Goals as goal

pub returns-in-Some-clause-holder : goal.returns-in-Some-clause-holder
returns-in-Some-clause-holder g c =
    ap holder_of (sym (walk-row _ c.requires.forest _ _ _ (record { node = c.look.result.now; at = c.look.ensures; row = sym c.in-Some.ensures.slot })))

pub returns-in-Some-clause-cost : goal.returns-in-Some-clause-cost
returns-in-Some-clause-cost g c = cost_of_one (tree_of c.args.arena.now c.args.lists.now) c.requires.forest _ _ _ _ c.look.result.now c.look.ensures c.find_counted.ensures.cost
