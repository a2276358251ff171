use Rattle.cow_forest.proofs.Words.{sym, subst, ◌∙◌, tree_of, IsLook}
use Rattle.cow_forest.proofs.LookLaws.{row-look}
use Rattle.cow_forest.proofs.looking.look_at.Goals as goal

pub returns-in-Some : goal.returns-in-Some
returns-in-Some c =
    subst (IsLook (tree_of c.args.arena.now c.args.lists.now) c.args.leaf.0 c.args.page) (sym c.look_in.ensures)
    (row-look c.args.arena.now c.args.lists.now c.args.leaf.0 c.args.page c.requires.exact c.requires.page c.look.result.now c.in-Some.slot
    c.look.ensures (sym c.find.ensures ∙ c.in-Some.is))
