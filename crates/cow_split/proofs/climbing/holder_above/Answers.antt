use Rattle.cow_split.proofs.Words.{sym, ap, ◌∙◌, arith, holder_of}
use Rattle.cow_split.proofs.CostLaws.{parent-there}
use Rattle.cow_split.proofs.ClimbLaws.{climb-start, climb-found, climb-past, climb-root, climb-fits, climb-less, climb-on}
use Rattle.cow_split.proofs.climbing.holder_above.Goals as goal

pub loop-node-init : goal.loop-node-init
loop-node-init c = climb-start _ _ _ _ c.node-node.ensures c.requires.bare

pub returns-in_default : goal.returns-in_default
returns-in_default c = ap holder_of (sym (climb-root _ c.requires.forest _ _ _ _ _ c.loop-node.invariant c.in_default.is))

pub returns-then-node-here : goal.returns-then-node-here
returns-then-node-here c = ap holder_of (sym (climb-past _ c.requires.forest _ _ _ _ _ c.loop-node.invariant (omega arith)))

pub node-above-requires : goal.node-above-requires
node-above-requires c = parent-there _ _ c.requires.forest _ _ _ c.loop-node.invariant.there c.in-Some.is

pub overflow_add-here : goal.overflow_add-here
overflow_add-here c =
    let fits = climb-fits _ c.requires.forest _ _ _ _ _ c.loop-node.invariant _ _ c.in-Some.is c.node-above.ensures in omega arith

pub returns-in-Some-find : goal.returns-in-Some-find
returns-in-Some-find c =
    ap holder_of (sym (climb-found _ c.requires.forest _ _ _ _ _ c.loop-node.invariant _ _ _ (omega arith) c.in-Some.is c.node-above.ensures
    c.side_of-side.ensures c.in-Some-find.slot (sym c.find.ensures ∙ c.in-Some-find.is)))

pub loop-node-smaller : goal.loop-node-smaller
loop-node-smaller c = climb-less _ c.requires.forest _ _ _ _ _ c.loop-node.invariant _ c.in-Some.is

pub loop-node-preserved : goal.loop-node-preserved
loop-node-preserved c =
    climb-on _ c.requires.forest _ _ _ _ _ c.loop-node.invariant _ _ _ (omega arith) c.in-Some.is c.node-above.ensures
    c.side_of-side.ensures (sym c.find.ensures ∙ c.in_default-find.is)
