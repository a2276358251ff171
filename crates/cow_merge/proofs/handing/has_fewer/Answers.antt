use Rattle.cow_merge.proofs.Words.{refl, arith}
use Rattle.cow_merge.proofs.handing.has_fewer.Goals as goal

pub loop-page-smaller : goal.loop-page-smaller
loop-page-smaller c =
    let least = c.in-Some.ensures.least c.in-Some.page refl in
    let next = c.in-Some-Some.ensures in
    omega (arith, least.0)
