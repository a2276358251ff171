-- The way goes down while it has pages, to a VMO's node.
use Rattle.cow_merge.proofs.Words.{◌-◌, sym, ap, ◌∙◌, arith, is_some, some_same, Node, tree_of}
use Rattle.cow_merge.proofs.BesideLaws.{hidden-there, no-koid_of}
use Rattle.cow_merge.proofs.SharingLaws.{side-there, down-start, down-further, down-witness, down-none, down-fits}
use Rattle.cow_merge.proofs.sharing.share_side.Goals as goal
use Rattle.cow_merge.proofs.LiftedLaws.{family-same, family-then}

pub enter-way-requires : goal.enter-way-requires
enter-way-requires c = record { child = ap is_some c.requires.below.at }

pub loop-left-init : goal.loop-left-init
loop-left-init c = record {
  lifting = c.requires.lifting;
  moves = family-same;
  down = λ parent side at is.
      down-start (tree_of c.args.arena.now c.args.lists.now) c.requires.lifting.lifted.exact.forest parent.list.0 c.args.family.sibling.0 c.args.seen (omega arith) side
      c.args.below c.requires.below is c.enter-way.result c.enter-way.ensures;
}

pub node-node-requires : goal.node-node-requires
node-node-requires c =
    let of = c.requires.lifting.of in
    let side = side-there (tree_of c.args.arena.now c.args.lists.now) c.requires.lifting.lifted.exact.forest c.args.family.sibling.0 c.args.below.0 c.requires.below in
    ap is_some (c.loop-left.invariant.down of.parent side.0 of.family.parent_at side.1).node_at

pub settle_under-requires-clause-list : goal.settle_under-requires-clause-list
settle_under-requires-clause-list c = λ node at. ap (λ (n : Node). n.list) (some_same (sym c.node-node.ensures ∙ at))

pub settle_under-requires-clause-fits : goal.settle_under-requires-clause-fits
settle_under-requires-clause-fits c = λ p low less.
    let of = c.requires.lifting.of in
    let side = side-there (tree_of c.args.arena.now c.args.lists.now) c.requires.lifting.lifted.exact.forest c.args.family.sibling.0 c.args.below.0 c.requires.below in
    down-fits (tree_of c.args.arena.now c.loop-left.lists) of.parent.list.0 c.args.family.sibling.0 c.args.seen side.0 c.loop-left.way c.loop-left.way.from (omega arith)
    (c.loop-left.invariant.down of.parent side.0 of.family.parent_at side.1) p low less

pub pages_of-requires-clause-from : goal.pages_of-requires-clause-from
pages_of-requires-clause-from c = omega arith

pub pages_of-requires-clause-to : goal.pages_of-requires-clause-to
pages_of-requires-clause-to c =
    let of = c.requires.lifting.of in
    let side = side-there (tree_of c.args.arena.now c.args.lists.now) c.requires.lifting.lifted.exact.forest c.args.family.sibling.0 c.args.below.0 c.requires.below in
    let fits = down-fits (tree_of c.args.arena.now c.loop-left.lists) of.parent.list.0 c.args.family.sibling.0 c.args.seen side.0 c.loop-left.way c.loop-left.way.from (omega arith)
    (c.loop-left.invariant.down of.parent side.0 of.family.parent_at side.1) (c.loop-left.way.to - 1) (omega arith) (omega arith) in
    omega arith

pub wider-next-requires-clause-forest : goal.wider-next-requires-clause-forest
wider-next-requires-clause-forest c = c.requires.lifting.lifted.exact.forest

pub wider-next-requires-clause-hidden : goal.wider-next-requires-clause-hidden
wider-next-requires-clause-hidden c =
    hidden-there c.args.arena.now c.loop-left.way.at.0 c.node-node.result c.node-node.ensures (no-koid_of c.node-node.result.koid (sym c.is_some.ensures ∙ c.if-is_some.false))

pub enter-way-requires-in-loop-left : goal.enter-way-requires-in-loop-left
enter-way-requires-in-loop-left c = record { child = ap is_some c.wider-next.ensures.at }

pub loop-left-preserved : goal.loop-left-preserved
loop-left-preserved c = record {
  lifting = c.settle_under.ensures.lifting;
  moves = family-then c.requires.lifting.lifted.exact.forest c.loop-left.invariant.moves c.settle_under.ensures.moves;
  down = λ parent side at is.
      down-further (tree_of c.args.arena.now c.settle_under.new.lists) c.requires.lifting.lifted.exact.forest parent.list.0 c.args.family.sibling.0 c.args.seen (omega arith) side
      c.loop-left.way (c.settle_under.ensures.down parent side c.args.seen at (c.loop-left.invariant.down parent side at is)) c.wider-next.result c.wider-next.ensures
      c.enter-way-in-loop-left.result c.enter-way-in-loop-left.ensures;
}

pub returns-else-way-clause-reached : goal.returns-else-way-clause-reached
returns-else-way-clause-reached c = λ parent side at is. down-none (tree_of c.args.arena.now c.loop-left.lists) parent.list.0 c.args.family.sibling.0 c.args.seen side

pub returns-after-loop-left-clause-reached : goal.returns-after-loop-left-clause-reached
returns-after-loop-left-clause-reached c = λ parent side at is. down-none (tree_of c.args.arena.now c.loop-left.lists) parent.list.0 c.args.family.sibling.0 c.args.seen side

pub returns-then-is_some-clause-moves : goal.returns-then-is_some-clause-moves
returns-then-is_some-clause-moves c = family-then c.requires.lifting.lifted.exact.forest c.loop-left.invariant.moves c.settle_under.ensures.moves

pub returns-then-is_some-clause-reached : goal.returns-then-is_some-clause-reached
returns-then-is_some-clause-reached c = λ parent side at is.
    down-witness (tree_of c.args.arena.now c.settle_under.new.lists) c.requires.lifting.lifted.exact.forest parent.list.0 c.args.family.sibling.0 c.args.seen (omega arith) side
    c.loop-left.way (c.settle_under.ensures.down parent side c.args.seen at (c.loop-left.invariant.down parent side at is)) c.node-node.result c.node-node.ensures
    (sym c.is_some.ensures ∙ c.if-is_some.true) c.pages_of.result c.pages_of.ensures.from c.pages_of.ensures.to
