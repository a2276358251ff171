use Rattle.cow_split.proofs.Words.{None, refl, sym, subst, IsSome}
use Rattle.cow_split.proofs.FoundLaws.{none_less-has, none_less-next, none_less-found, none_less-end}
use Rattle.cow_split.proofs.ViewersLaws.{viewer-visible, viewer-koid}
use Rattle.cow_split.proofs.viewers.koid_below.Goals as goal

pub node-requires : goal.node-requires
node-requires c =
    let has = none_less-has _ None _ _ _ _ _ c.loop-viewer.invariant c.in-Some.ensures.next in
    let it = viewer-visible _ c.requires.forest None c.args.side c.args.node.0 c.args.page _ has in
    subst IsSome (sym it.1.at) refl

pub returns-in-Some-if_below : goal.returns-in-Some-if_below
returns-in-Some-if_below c =
    none_less-found _ None _ _ _ _ _ _ _ c.loop-viewer.invariant c.in-Some.ensures.next c.node.ensures c.in-Some-if_below.ensures.0 c.in-Some-if_below.ensures.1

pub loop-viewer-preserved : goal.loop-viewer-preserved
loop-viewer-preserved c =
    let has = none_less-has _ None _ _ _ _ _ c.loop-viewer.invariant c.in-Some.ensures.next in
    let koid = viewer-koid _ c.requires.forest None c.args.side c.args.node.0 c.args.page _ _ has c.node.ensures in
    none_less-next _ None _ _ _ _ _ _ c.loop-viewer.invariant c.in-Some.ensures.next c.node.ensures koid c.in_default-if_below.ensures

pub returns : goal.returns
returns c = none_less-end _ None _ _ _ c.loop-viewer.invariant c.in_default.ensures.next
