use Rattle.cow_forest.proofs.Words.{ap, frame_found, tree_of}
use Rattle.cow_arena.proofs.WalkLaws.{walk-past}
use Rattle.cow_fork.proofs.HolderLaws.{held-shown}
use Rattle.cow_forest.proofs.LookLaws.{shows-frame}
use Rattle.cow_forest.proofs.looking.frame_upwards.Goals as goal

pub returns-then-look-page : goal.returns-then-look-page
returns-then-look-page c =
    ap frame_found (walk-past (tree_of c.args.arena.now c.args.lists.now) c.requires.forest c.args.leaf.0 c.args.page c.look.result.now
    c.look.ensures (rw c.look.ensures at c.requires.bare) c.if-look-page.true)

pub returns : goal.returns
returns c =
    shows-frame (tree_of c.args.arena.now c.args.lists.now) c.args.leaf.0 c.args.page c.above_by_jumps.result c.frame.result
    (held-shown (tree_of c.args.arena.now c.args.lists.now) c.args.leaf.0 c.args.page c.above_by_jumps.result c.above_by_jumps.ensures)
    c.frame.ensures.some c.frame.ensures.none
