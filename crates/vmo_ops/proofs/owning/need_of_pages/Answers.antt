use Rattle.std.proofs.Common.{arith}
use Rattle.vmo_ops.proofs.CountLaws.{AreCounted-step, AreCounted-end}
use Rattle.vmo_ops.proofs.NeedLaws.{IsOfHeld-sole, need-sole}
use Rattle.vmo_ops.proofs.owning.need_of_pages.Goals as goal

pub loop-held-preserved : goal.loop-held-preserved
loop-held-preserved g c =
    AreCounted-step (IsOfHeld-sole _ _) c.loop-held.invariant c.in-Some.ensures.some (grind (arith, c.in-Some.ensures.sole))

pub returns : goal.returns
returns g c =
    let all = AreCounted-end (IsOfHeld-sole _ _) c.loop-held.invariant c.in_default.ensures.none in
    need-sole _ _ _ _ _ all
