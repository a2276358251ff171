-- The list of the node leaves, and that of its parent leads to its sibling.
use Rattle.cow_forest.proofs.Words.{refl, ap, arith, is_some, nodes_of}
use Rattle.cow_arena.proofs.RenamedOverLaws.{family-found}
use Rattle.cow_forest.proofs.TableLaws.{disowned-root, disowned-led, merged-led, owner-stays}
use Rattle.cow_forest.proofs.tables.disown.Goals as goal

pub node-requires : goal.node-requires
node-requires c =
    let below = c.requires.forest.by.below c.in-Some-Some.parent.0 c.args.leaf.0 c.node-node.result c.node-node.ensures c.in-Some-Some.is-0 in
    rw below.at refl

pub redirect-requires : goal.redirect-requires
redirect-requires c =
    let f = c.requires.forest in
    let below = f.by.below c.in-Some-Some.parent.0 c.args.leaf.0 c.node-node.result c.node-node.ensures c.in-Some-Some.is-0 in
    let deeper = below.deeper in
    ap is_some (owner-stays (nodes_of c.args.arena.now) _ f _ _ c.args.leaf.0 c.in-Some-Some.parent.0 c.node-node.result c.node.result c.node-node.ensures
    c.node.ensures (λ same. let one = ap f.rank same in absurd (omega arith)) c.leave.ensures (c.requires.owners c.in-Some-Some.parent.0 c.node.result c.node.ensures))

pub node-requires-2 : goal.node-requires-2
node-requires-2 c =
    ap is_some (family-found (nodes_of c.args.arena.now) _ c.requires.forest c.args.leaf.0 c.in-Some-Some.parent c.in-Some-Some.sibling c.node-node.result
    c.node.result c.node-node.ensures c.in-Some-Some.is-0 c.node.ensures c.in-Some-Some.ensures.sibling).1.sibling_at

pub returns-in_default-clause-disowned : goal.returns-in_default-clause-disowned
returns-in_default-clause-disowned c =
    disowned-root (nodes_of c.args.arena.now) _ c.requires.forest _ _ c.args.leaf.0 c.node-node.result c.node-node.ensures c.leave.ensures

pub returns-in_default-2-clause-disowned : goal.returns-in_default-2-clause-disowned
returns-in_default-2-clause-disowned c =
    disowned-root (nodes_of c.args.arena.now) _ c.requires.forest _ _ c.args.leaf.0 c.node-node.result c.node-node.ensures c.leave.ensures

pub returns-clause-disowned : goal.returns-clause-disowned
returns-clause-disowned c =
    disowned-led (nodes_of c.args.arena.now) _ c.requires.forest _ _ _ c.args.leaf.0 c.in-Some-Some.parent.0 c.node-node.result c.node.result
    _ c.node-node.ensures c.leave.ensures c.in-Some-Some.is-0 c.node.ensures c.redirect.ensures

pub returns-clause-family : goal.returns-clause-family
returns-clause-family c =
    merged-led (nodes_of c.args.arena.now) _ _ c.args.leaf.0 c.in-Some-Some.parent.0 c.node-node.result c.node.result c.node-2.result c.in-Some-Some.sibling
    c.node-node.ensures c.in-Some-Some.is-0 c.node.ensures c.in-Some-Some.ensures.sibling c.node-2.ensures c.redirect.ensures
