-- Both sides are gone down, if the child is hidden.
use Rattle.cow_merge.proofs.Words.{◌≡◌, sym, ap, subst, ◌∙◌, arith, is_some, some_same, slots_of, Node, Side, nodes_of, tree_of, AreShared}
use Rattle.cow_arena.proofs.ReachLaws.{child-there, side-of-child}
use Rattle.cow_merge.proofs.BesideLaws.{both-there, hidden-there, no-koid_of}
use Rattle.cow_merge.proofs.SharingLaws.{reached-kept, shared-visible, shared-both}
use Rattle.cow_merge.proofs.sharing.share_rows.Goals as goal
use Rattle.cow_merge.proofs.LiftedLaws.{below-found, family-same, family-then}

pub node-node-requires : goal.node-node-requires
node-node-requires c = ap is_some c.requires.lifting.of.family.sibling_at

pub returns-then-is_some-clause-shared : goal.returns-then-is_some-clause-shared
returns-then-is_some-clause-shared c = λ parent node at there.
    let one : c.node-node.result ≡ node = some_same (sym c.node-node.ensures ∙ there) in
    subst (λ (n : Node). AreShared (tree_of c.args.arena.now c.args.lists.now) parent.list.0 c.args.family.sibling.0 n (record { from = 0; to = c.node-node.result.seen })) one
    (shared-visible (tree_of c.args.arena.now c.args.lists.now) parent.list.0 c.args.family.sibling.0 c.node-node.result (sym c.is_some.ensures ∙ c.if-is_some.true))

pub unreachable-requires : goal.unreachable-requires
unreachable-requires c =
    both-there c.args.arena.now c.requires.lifting.lifted.exact.forest c.args.family.sibling.0
    (hidden-there c.args.arena.now c.args.family.sibling.0 c.node-node.result c.node-node.ensures (no-koid_of c.node-node.result.koid (sym c.is_some.ensures ∙ c.if-is_some.false)))
    c.node-node.result c.node-node.ensures Side.Left c.in_default.is

pub unreachable-requires-in_default-right : goal.unreachable-requires-in_default-right
unreachable-requires-in_default-right c =
    both-there c.args.arena.now c.requires.lifting.lifted.exact.forest c.args.family.sibling.0
    (hidden-there c.args.arena.now c.args.family.sibling.0 c.node-node.result c.node-node.ensures (no-koid_of c.node-node.result.koid (sym c.is_some.ensures ∙ c.if-is_some.false)))
    c.node-node.result c.node-node.ensures Side.Right c.in_default-right.is

pub share_side-one-requires-clause-below : goal.share_side-one-requires-clause-below
share_side-one-requires-clause-below c =
    child-there (nodes_of c.args.arena.now) c.args.arena.now.lists c.requires.lifting.lifted.exact.forest c.args.family.sibling.0 c.in-Some.left.0 c.node-node.result Side.Left
    c.node-node.ensures c.in-Some.is

pub share_side-other-requires-clause-below : goal.share_side-other-requires-clause-below
share_side-other-requires-clause-below c =
    child-there (nodes_of c.args.arena.now) c.args.arena.now.lists c.requires.lifting.lifted.exact.forest c.args.family.sibling.0 c.in-Some-right.right.0 c.node-node.result Side.Right
    c.node-node.ensures c.in-Some-right.is

pub returns-then-is_some-clause-moves : goal.returns-then-is_some-clause-moves
returns-then-is_some-clause-moves c = family-same

pub returns-clause-moves : goal.returns-clause-moves
returns-clause-moves c = family-then c.requires.lifting.lifted.exact.forest c.share_side-one.ensures.moves c.share_side-other.ensures.moves

pub returns-clause-shared : goal.returns-clause-shared
returns-clause-shared c = λ parent node at there.
    let f = c.requires.lifting.lifted.exact.forest in
    let same : c.node-node.result ≡ node = some_same (sym c.node-node.ensures ∙ there) in
    let now = c.share_side-other.ensures.lifting in
    subst (λ (n : Node). AreShared (tree_of c.args.arena.now c.share_side-other.new.lists) parent.list.0 c.args.family.sibling.0 n
    (record { from = c.max.result; to = c.min.result })) same
    (shared-both (tree_of c.args.arena.now c.share_side-other.new.lists) parent.list.0 c.args.family.sibling.0 c.node-node.result c.share_side-one.result c.share_side-other.result
    (record { from = c.max.result; to = c.min.result })
    (reached-kept (tree_of c.args.arena.now c.share_side-one.new.lists) f (slots_of c.share_side-other.new.lists) parent now.of.sibling c.args.family.sibling.0
    now.of.family.sibling_at
    (below-found c.share_side-other.ensures.moves.keeps now.of parent at) (c.share_side-other.ensures.moves.keeps.left parent at) Side.Left c.node-node.result.seen c.share_side-one.result
    (c.share_side-one.ensures.reached parent Side.Left at
    (side-of-child (nodes_of c.args.arena.now) c.args.arena.now.lists f c.args.family.sibling.0 c.in-Some.left.0 c.node-node.result Side.Left c.node-node.ensures c.in-Some.is)))
    (c.share_side-other.ensures.reached parent Side.Right at
    (side-of-child (nodes_of c.args.arena.now) c.args.arena.now.lists f c.args.family.sibling.0 c.in-Some-right.right.0 c.node-node.result Side.Right c.node-node.ensures
    c.in-Some-right.is)) (omega (arith, c.max.ensures)) (omega (arith, c.max.ensures)) (omega (arith, c.min.ensures)) (omega (arith, c.min.ensures)))
