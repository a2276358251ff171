use Rattle.cow_split.proofs.Words.{is_some, ap, sym, nodes_of}
use Rattle.cow_arena.proofs.ReachLaws.{child-there}
use Rattle.cow_split.proofs.others.is_child_on.Goals as goal

pub node-requires-then-child-leaf : goal.node-requires-then-child-leaf
node-requires-then-child-leaf c =
    let it = child-there (nodes_of c.args.arena.now) c.args.arena.now.lists c.requires.forest c.args.node.0 c.in-Some.child.0 c.node.result c.args.side
    c.node.ensures (sym c.in-Some.ensures) in
    ap is_some it.at
