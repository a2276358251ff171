use Rattle.cow_forest.proofs.Words.{is_some, ap, sym, nodes_of, Side}
use Rattle.cow_arena.proofs.ReachLaws.{child-there}
use Rattle.cow_forest.proofs.viewing.first_side.Goals as goal

pub look-requires : goal.look-requires
look-requires c =
    let it = child-there (nodes_of c.args.arena.now) c.args.arena.now.lists c.requires.forest c.args.node.0 c.in-Some.child.0 c.node.result Side.Right
    c.node.ensures (sym c.in-Some.ensures) in
    ap is_some it.at
