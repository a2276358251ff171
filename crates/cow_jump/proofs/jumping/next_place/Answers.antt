use Rattle.cow_jump.proofs.Words.{arith, tree_of}
use Rattle.cow_split.proofs.CostLaws.{parent-there}
use Rattle.cow_jump.proofs.JumpLaws.{served-rises, step-rises, window-fits}
use Rattle.cow_jump.proofs.jumping.next_place.Goals as goal

pub returns-in-Some-clause-some : goal.returns-in-Some-clause-some
returns-in-Some-clause-some c =
    served-rises (tree_of c.args.arena.now c.args.lists.now) c.requires.jumps.0 c.args.jumps.now c.requires.jumps.1 c.args.at.0 c.args.page
    c.in-Some.place c.look-node.result.now c.in-Some.ensures c.look-node.ensures c.if-node-page.false

pub overflow_add-result : goal.overflow_add-result
overflow_add-result c =
    let above = window-fits (tree_of c.args.arena.now c.args.lists.now) c.requires.forest c.args.at.0 c.in_ok-parent.parent c.look-node.result.now
    c.look-above.result.now c.look-node.ensures c.in_ok-parent.was c.look-above.ensures in
    omega (arith, above, c.if-node-page.false)

pub look-above-requires : goal.look-above-requires
look-above-requires c = parent-there _ _ c.requires.forest _ _ _ c.look-node.ensures c.in_ok-parent.was

pub returns-clause-some : goal.returns-clause-some
returns-clause-some c =
    step-rises (tree_of c.args.arena.now c.args.lists.now) c.args.at.0 c.args.page c.in_ok-parent.parent c.look-node.result.now c.look-above.result.now
    c.side_of.result c.look-node.ensures c.in_ok-parent.was c.look-above.ensures c.side_of.ensures c.if-node-page.false _ (omega arith)
