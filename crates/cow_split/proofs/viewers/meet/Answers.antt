use Rattle.cow_split.proofs.Words.{sym, ◌∙◌, subst, arith, tree_of, IsMet, none_is}
use Rattle.cow_split.proofs.WayLaws.{met-before, met-past, met-row, met-viewer, met-below}
use Rattle.cow_split.proofs.viewers.meet.Goals as goal

pub returns-in_default : goal.returns-in_default
returns-in_default c = met-before _ c.requires.forest _ _ _ _ c.node-node.ensures (omega (arith, c.in_default.ensures))

pub returns-then-node-here : goal.returns-then-node-here
returns-then-node-here c =
    met-past _ c.requires.forest _ _ _ c.in-Some.here _ c.node-node.ensures (omega (arith, c.in-Some.ensures)) c.if-node-here.true

pub returns-then-is_some : goal.returns-then-is_some
returns-then-is_some c =
    met-row _ c.requires.forest _ _ _ c.in-Some.here _ _ c.node-node.ensures (omega (arith, c.in-Some.ensures)) c.find.ensures (sym c.if-is_some.ensures)

pub returns-in_default-left : goal.returns-in_default-left
returns-in_default-left c =
    subst (IsMet (tree_of c.args.arena.now c.args.lists.now) c.args.except c.args.at.0 c.args.page) (sym c.viewer.ensures)
    (met-viewer _ c.requires.forest _ _ _ c.in-Some.here _ c.node-node.ensures (omega (arith, c.in-Some.ensures)) (omega arith)
    (sym c.find.ensures ∙ none_is _ (sym c.if-is_some.ensures)) c.in_default-left.is)

pub returns : goal.returns
returns c =
    met-below _ c.requires.forest c.args.except _ _ c.in-Some.here _ _ c.node-node.ensures (omega (arith, c.in-Some.ensures)) (omega arith)
    (sym c.find.ensures ∙ none_is _ (sym c.if-is_some.ensures)) c.in-Some-left.is
