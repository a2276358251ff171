-- The other child shows the pages too, up to its first row.
use Rattle.cow_merge.proofs.Words.{◌-◌, sym, ap, ◌∙◌, arith, not, is_some, some_same, Node, nodes_of, other_side}
use Rattle.cow_arena.proofs.ReachLaws.{child-there, side-of-child}
use Rattle.cow_merge.proofs.UpwardLaws.{upward-witness}
use Rattle.cow_merge.proofs.witness.skip_beside.Goals as goal

pub node-beside-requires : goal.node-beside-requires
node-beside-requires c =
    let child = child-there (nodes_of c.args.arena.now) c.args.arena.now.lists c.requires.forest c.args.arrival.at.0 c.in-Some.child.0 c.args.arrival.node
    (other_side c.args.arrival.side) c.requires.node (sym c.other_child.ensures ∙ c.in-Some.is) in
    ap is_some child.at

pub pages_of-shared-requires-clause-to : goal.pages_of-shared-requires-clause-to
pages_of-shared-requires-clause-to c =
    let enters = c.enter-way.ensures c.node-beside.result c.node-beside.ensures in
    let high = enters.high (c.bare_until-to.result - 1) (omega arith) (omega (arith, c.bare_until-to.ensures.most)) in
    let shift = enters.shift_is (omega arith) in
    omega arith

pub returns : goal.returns
returns c = λ pool spared was.
    let link = sym c.other_child.ensures ∙ c.in-Some.is in
    let child = child-there (nodes_of c.args.arena.now) c.args.arena.now.lists c.requires.forest c.args.arrival.at.0 c.in-Some.child.0 c.args.arrival.node
    (other_side c.args.arrival.side) c.requires.node link in
    let enters = c.enter-way.ensures c.node-beside.result c.node-beside.ensures in
    let inside = enters.inside (c.bare_until-to.result - 1) (omega arith) (omega (arith, c.bare_until-to.ensures.most)) in
    let low = enters.low c.enter-way.result.from (omega arith) (omega (arith, c.bare_until-to.ensures.most)) in
    let shift = enters.shift_is (omega arith) in
    upward-witness was c.args.arrival.side c.args.arrival.at.0 c.requires.node c.requires.way c.in-Some.child.0 c.node-beside.result c.node-beside.ensures
    (c.is_none.ensures ∙ ap not c.if-is_none.false)
    (ap (λ (n : Node). n.parent) (some_same (sym c.node-beside.ensures ∙ child.at)) ∙ child.parent)
    (side-of-child (nodes_of c.args.arena.now) c.args.arena.now.lists c.requires.forest c.args.arrival.at.0 c.in-Some.child.0 c.args.arrival.node
    (other_side c.args.arrival.side) c.requires.node link)
    c.enter-way.result.from c.bare_until-to.result (omega arith) (omega arith) (omega arith) c.bare_until-to.ensures.bare
    c.pages_of-shared.result c.joined.result (omega (arith, c.pages_of-shared.ensures.from)) (omega (arith, c.pages_of-shared.ensures.to)) c.joined.ensures
