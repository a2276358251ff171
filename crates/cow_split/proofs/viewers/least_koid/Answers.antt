use Rattle.cow_split.proofs.Words.{None, refl, sym, subst, IsSome}
use Rattle.cow_split.proofs.FoundLaws.{least-has, least-next}
use Rattle.cow_split.proofs.ViewersLaws.{viewer-visible, viewer-koid}
use Rattle.cow_split.proofs.viewers.least_koid.Goals as goal

pub node-requires : goal.node-requires
node-requires c =
    let has = least-has _ None _ _ _ _ _ c.loop-viewer.invariant c.in-Some.ensures.next in
    let it = viewer-visible _ c.requires.forest None c.args.side c.args.node.0 c.args.page _ has in
    subst IsSome (sym it.1.at) refl

pub loop-viewer-preserved : goal.loop-viewer-preserved
loop-viewer-preserved c =
    let has = least-has _ None _ _ _ _ _ c.loop-viewer.invariant c.in-Some.ensures.next in
    let koid = viewer-koid _ c.requires.forest None c.args.side c.args.node.0 c.args.page _ _ has c.node.ensures in
    rw c.lesser-least.ensures (least-next _ None _ _ _ _ _ _ c.loop-viewer.invariant c.in-Some.ensures.next c.node.ensures koid)
