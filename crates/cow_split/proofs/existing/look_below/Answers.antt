use Rattle.cow_split.proofs.Words.{tree_of, Side}
use Rattle.cow_split.proofs.WayLaws.{visible-leaf}
use Rattle.cow_split.proofs.ExistingLaws.{visible-none, left-some, child-some, children-found, children-left}
use Rattle.cow_split.proofs.existing.look_below.Goals as goal

pub returns-in_default : goal.returns-in_default
returns-in_default c =
    visible-none (tree_of c.args.arena.now c.args.lists.now) c.args.except c.args.at.0 c.args.page c.node.result c.node.ensures
    (visible-leaf (tree_of c.args.arena.now c.args.lists.now) c.requires.forest c.args.except c.args.at.0 c.node.result Side.Right c.node.ensures c.in_default.is)

pub either_views-requires-clause-left : goal.either_views-requires-clause-left
either_views-requires-clause-left c =
    left-some (tree_of c.args.arena.now c.args.lists.now) c.requires.forest c.args.except c.args.at.0 c.args.page c.in-Below.left c.in-Some.right c.in-Below.here
    c.node.result c.node.ensures c.in-Some.is c.in-Below.ensures

pub either_views-requires-clause-right : goal.either_views-requires-clause-right
either_views-requires-clause-right c =
    child-some (tree_of c.args.arena.now c.args.lists.now) c.requires.forest c.args.except c.args.at.0 c.in-Some.right.0 c.node.result Side.Right
    c.node.ensures c.in-Some.is

pub returns-then-either_views : goal.returns-then-either_views
returns-then-either_views c =
    children-found (tree_of c.args.arena.now c.args.lists.now) c.requires.forest c.args.except c.args.at.0 c.args.page c.in-Below.left c.in-Some.right c.in-Below.here
    c.node.result c.node.ensures c.in-Some.is c.in-Below.ensures (c.either_views.ensures.found c.if-either_views.true)

pub returns-else-either_views : goal.returns-else-either_views
returns-else-either_views c =
    children-left (tree_of c.args.arena.now c.args.lists.now) c.requires.forest c.args.except c.args.at.0 c.args.page c.in-Below.left c.in-Some.right c.in-Below.here
    c.node.result c.node.ensures c.in-Some.is c.in-Below.ensures (c.either_views.ensures.hidden c.if-either_views.false)
