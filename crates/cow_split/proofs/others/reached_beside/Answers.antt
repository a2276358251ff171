use Rattle.cow_split.proofs.Words.{sym, arith, tree_of}
use Rattle.cow_split.proofs.OthersLaws.{sibling-some, beside-reached}
use Rattle.cow_split.proofs.others.reached_beside.Goals as goal

pub reached_near-requires-clause-node : goal.reached_near-requires-clause-node
reached_near-requires-clause-node c =
    sibling-some (tree_of c.args.arena.now c.args.lists.now) c.requires.forest c.args.leaf.0 c.node-at.result c.in-Some-Some.parent c.in-Some-Some.sibling
    c.node-at.ensures c.in-Some-Some.is-0 (sym c.in-Some-Some.ensures.sibling)

pub returns : goal.returns
returns c = λ e side page way.
    beside-reached (tree_of c.args.arena.now c.args.lists.now) c.requires.forest c.args.leaf.0 c.node-at.result c.in-Some-Some.parent c.in-Some-Some.sibling
    c.node-at.ensures c.in-Some-Some.is-0 (sym c.in-Some-Some.ensures.sibling) c.args.own c.in-Some.page side c.args.node.0 page c.if-parent-node.false
    (omega (arith, c.in-Some.ensures)) (c.reached_near.ensures e) way
