use Rattle.std.proofs.Common.{arith}
use Rattle.attribution.proofs.CountLaws.{AreCounts-none, AreCounts-gap, page_room}
use Rattle.attribution.proofs.counts.count_held.Goals as goal

pub loop-page-init : goal.loop-page-init
loop-page-init g c = record { bound = omega arith; counts = AreCounts-none _ _ }

pub count_page-requires-clause-before : goal.count_page-requires-clause-before
count_page-requires-clause-before g c =
    AreCounts-gap _ _ _ _ _ c.in-Some.ensures.some.0 c.in-Some.ensures.some.2 c.loop-page.invariant.counts

pub overflow_add-from : goal.overflow_add-from
overflow_add-from g c =
    let room = page_room _ _ _ c.requires.good c.in-Some.ensures.some.1 in
    omega (arith, room.1)

pub returns : goal.returns
returns g c =
    AreCounts-gap _ _ _ _ _ c.loop-page.invariant.bound (λ p low h. c.in_default.ensures.none p low)
    c.loop-page.invariant.counts
