use Rattle.cow_split.proofs.Words.{sym, ◌∙◌, arith, nodes_of, tree_with}
use Rattle.cow_split.proofs.WayLaws.{from-none, way-begins}
use Rattle.cow_split.proofs.viewers.search_below.Goals as goal

pub returns-in_default : goal.returns-in_default
returns-in_default c slots except =
    from-none (tree_with (nodes_of c.args.arena.now) c.args.arena.now.lists slots) c.requires.forest except _ _ _ _ c.node.ensures
    (sym c.child_on.ensures ∙ c.in_default.is)

pub returns : goal.returns
returns c slots except =
    way-begins (tree_with (nodes_of c.args.arena.now) c.args.arena.now.lists slots) c.requires.forest except _ _ _ _ _ (omega (arith, c.ranges.page)) c.node.ensures
    (sym c.child_on.ensures ∙ c.in-Some.is)
