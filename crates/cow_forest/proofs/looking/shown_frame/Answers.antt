use Rattle.cow_forest.proofs.Words.{sym, subst, ◌∙◌, tree_of, ShowsFrameOrNone}
use Rattle.cow_forest.proofs.LookLaws.{row-frame}
use Rattle.cow_forest.proofs.looking.shown_frame.Goals as goal

pub returns-in-Some : goal.returns-in-Some
returns-in-Some c =
    subst (ShowsFrameOrNone (tree_of c.args.arena.now c.args.lists.now) c.args.leaf.0 c.args.page) (sym c.frame_in.ensures)
    (row-frame (tree_of c.args.arena.now c.args.lists.now) c.requires.forest c.args.leaf.0 c.args.page c.look.result.now c.in-Some.slot
    c.look.ensures (sym c.find.ensures ∙ c.in-Some.is))
