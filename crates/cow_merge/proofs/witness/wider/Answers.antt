-- A hidden node has two children.
use Rattle.cow_merge.proofs.Words.{ap, is_some, Side, nodes_of}
use Rattle.cow_arena.proofs.ReachLaws.{child-there}
use Rattle.cow_merge.proofs.BesideLaws.{both-there}
use Rattle.cow_merge.proofs.witness.wider.Goals as goal

pub unreachable-requires : goal.unreachable-requires
unreachable-requires c =
    both-there c.args.arena.now c.requires.forest c.args.way.at.0 c.requires.hidden c.node-node.result c.node-node.ensures Side.Left c.in_default.is

pub unreachable-requires-in_default-right : goal.unreachable-requires-in_default-right
unreachable-requires-in_default-right c =
    both-there c.args.arena.now c.requires.forest c.args.way.at.0 c.requires.hidden c.node-node.result c.node-node.ensures Side.Right c.in_default-right.is

pub is_wider-requires-clause-child : goal.is_wider-requires-clause-child
is_wider-requires-clause-child c =
    let child = child-there (nodes_of c.args.arena.now) c.args.arena.now.lists c.requires.forest c.args.way.at.0 c.in-Some-right.other.0 c.node-node.result Side.Right c.node-node.ensures c.in-Some-right.is in
    ap is_some child.at

pub is_wider-requires-clause-other : goal.is_wider-requires-clause-other
is_wider-requires-clause-other c =
    let child = child-there (nodes_of c.args.arena.now) c.args.arena.now.lists c.requires.forest c.args.way.at.0 c.in-Some.one.0 c.node-node.result Side.Left c.node-node.ensures c.in-Some.is in
    ap is_some child.at

pub returns-then-is_wider : goal.returns-then-is_wider
returns-then-is_wider c =
    child-there (nodes_of c.args.arena.now) c.args.arena.now.lists c.requires.forest c.args.way.at.0 c.in-Some-right.other.0 c.node-node.result Side.Right c.node-node.ensures c.in-Some-right.is

pub returns-else-is_wider : goal.returns-else-is_wider
returns-else-is_wider c =
    child-there (nodes_of c.args.arena.now) c.args.arena.now.lists c.requires.forest c.args.way.at.0 c.in-Some.one.0 c.node-node.result Side.Left c.node-node.ensures c.in-Some.is
