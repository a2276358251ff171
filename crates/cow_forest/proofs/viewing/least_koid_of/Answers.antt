use Rattle.cow_forest.proofs.Words.{sym, ◌∙◌, tree_of}
use Rattle.cow_forest.proofs.ViewingLaws.{least-own, least-above}
use Rattle.cow_forest.proofs.viewing.least_koid_of.Goals as goal

pub returns-in-Some : goal.returns-in-Some
returns-in-Some c = least-own (tree_of c.args.arena.now c.args.lists.now) c.requires.exact c.args.node.0 c.args.page c.node.result c.in-Some.koid
    c.node.ensures c.in-Some.is

pub unreachable-requires : goal.unreachable-requires
unreachable-requires c = least-above (tree_of c.args.arena.now c.args.lists.now) c.requires.exact c.args.node.0 c.args.page c.node.result c.node.ensures
    c.in_default.is _ _ _ c.least_koid-left.ensures c.least_koid-right.ensures (sym c.in_default-lesser.is ∙ c.lesser.ensures) c.requires.row.0 c.requires.row.1

pub returns : goal.returns
returns c = least-above (tree_of c.args.arena.now c.args.lists.now) c.requires.exact c.args.node.0 c.args.page c.node.result c.node.ensures
    c.in_default.is _ _ _ c.least_koid-left.ensures c.least_koid-right.ensures (sym c.in-Some-lesser.is ∙ c.lesser.ensures)
