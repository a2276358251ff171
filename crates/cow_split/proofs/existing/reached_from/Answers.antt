use Rattle.cow_split.proofs.Words.{sym, ap, ◌∙◌, tree_of, has_some}
use Rattle.cow_split.proofs.WayLaws.{from-none}
use Rattle.cow_split.proofs.ExistingLaws.{child-some, from-child}
use Rattle.cow_split.proofs.existing.reached_from.Goals as goal

pub returns-in_default : goal.returns-in_default
returns-in_default c =
    sym (ap has_some (from-none (tree_of c.args.arena.now c.args.lists.now) c.requires.forest c.args.except c.args.side c.args.node.0 c.args.page c.node.result
    c.node.ensures (sym c.child_on.ensures ∙ c.in_default.is)))

pub is_viewer-requires-clause-node : goal.is_viewer-requires-clause-node
is_viewer-requires-clause-node c =
    child-some (tree_of c.args.arena.now c.args.lists.now) c.requires.forest c.args.except c.args.node.0 c.in-Some.start.0 c.node.result c.args.side
    c.node.ensures (sym c.child_on.ensures ∙ c.in-Some.is)

pub any_below-requires-clause-node : goal.any_below-requires-clause-node
any_below-requires-clause-node c =
    child-some (tree_of c.args.arena.now c.args.lists.now) c.requires.forest c.args.except c.args.node.0 c.in-Some.start.0 c.node.result c.args.side
    c.node.ensures (sym c.child_on.ensures ∙ c.in-Some.is)

pub returns-then-is_viewer : goal.returns-then-is_viewer
returns-then-is_viewer c =
    sym (ap has_some (from-child (tree_of c.args.arena.now c.args.lists.now) c.requires.forest c.args.except c.args.side c.args.node.0 c.args.page c.node.result
    c.in-Some.start c.node.ensures (sym c.child_on.ensures ∙ c.in-Some.is) ∙ c.is_viewer.ensures.found c.if-is_viewer.true))

pub returns : goal.returns
returns c =
    c.any_below.ensures
    ∙ sym (ap has_some (from-child (tree_of c.args.arena.now c.args.lists.now) c.requires.forest c.args.except c.args.side c.args.node.0 c.args.page c.node.result
    c.in-Some.start c.node.ensures (sym c.child_on.ensures ∙ c.in-Some.is) ∙ c.is_viewer.ensures.hidden c.if-is_viewer.false))
