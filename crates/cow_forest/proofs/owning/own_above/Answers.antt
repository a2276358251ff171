use Rattle.cow_fork.proofs.LeafLaws.{leaf-is}
use Rattle.cow_forest.proofs.OwningLaws.{found-bare}
use Rattle.cow_forest.proofs.owning.own_above.Goals as goal

pub own_found-requires-clause-bare : goal.own_found-requires-clause-bare
own_found-requires-clause-bare c =
    let page = c.requires.page in
    let leaf = leaf-is c.args.arena.now c.args.lists.now c.args.leaf.0 c.args.page page.node c.requires.exact.forest page page.visible.at in
    found-bare leaf c.args.frames.now c.requires.exact c.requires.linked c.above_by_jumps-found.result c.above_by_jumps-found.ensures
    (rw page.visible.at at c.requires.bare)
