-- A child of a node is there.
use Rattle.cow_merge.proofs.Words.{ap, is_some, Side, nodes_of}
use Rattle.cow_arena.proofs.ReachLaws.{child-there}
use Rattle.cow_merge.proofs.lifting.has_leaf_left.Goals as goal

pub node-requires : goal.node-requires
node-requires c =
    let child = child-there (nodes_of c.args.arena.now) c.args.arena.now.lists c.requires.forest c.args.at.0 c.in-Some.child.0 c.args.node Side.Left c.requires.node c.in-Some.is in
    ap is_some child.at
