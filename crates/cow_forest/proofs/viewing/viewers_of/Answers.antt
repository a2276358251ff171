use Rattle.cow_forest.proofs.Words.{arith, tree_of}
use Rattle.cow_forest.proofs.ViewingLaws.{both-few, count-above}
use Rattle.cow_forest.proofs.viewing.viewers_of.Goals as goal

pub overflow_add-result : goal.overflow_add-result
overflow_add-result c =
    let few = both-few (tree_of c.args.arena.now c.args.lists.now) c.requires.exact c.args.node.0 c.args.page c.capacity-room.result c.capacity-room.ensures.below in
    omega arith

pub returns : goal.returns
returns c = count-above (tree_of c.args.arena.now c.args.lists.now) c.requires.exact c.args.node.0 c.args.page _ _ c.requires.hidden
    c.viewer_count.ensures c.viewer_count-2.ensures
