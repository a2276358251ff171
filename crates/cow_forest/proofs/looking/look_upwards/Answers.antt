use Rattle.cow_forest.proofs.Words.{ap, frame_found, tree_of}
use Rattle.cow_arena.proofs.WalkLaws.{walk-past}
use Rattle.cow_forest.proofs.looking.look_upwards.Goals as goal

pub returns-then-look-page : goal.returns-then-look-page
returns-then-look-page c =
    ap frame_found (walk-past (tree_of c.args.arena.now c.args.lists.now) c.requires.exact.1.forest c.args.leaf.0 c.args.page c.look.result.now
    c.look.ensures (rw c.look.ensures at c.requires.bare) c.if-look-page.true)
