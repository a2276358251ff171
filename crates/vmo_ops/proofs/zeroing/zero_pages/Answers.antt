use Rattle.std.proofs.Common.{rules, arith}
use Rattle.vmo_ops.proofs.ZeroLaws.{IsZeroing-start, IsZeroing-rows, IsZeroing-turn, IsZeroing-row, IsZeroing-frame, IsZeroing-step, IsZeroing-end}
use Rattle.vmo_ops.proofs.zeroing.zero_pages.Goals as goal

pub loop-v-init : goal.loop-v-init
loop-v-init g c = search (rules, IsZeroing-start)

pub zero_row-requires-clause-room : goal.zero_row-requires-clause-room
zero_row-requires-clause-room g c =
    let touched = c.requires.touched in
    let stop = c.cleared_until-stop.ensures in
    IsZeroing-rows _ _ _ _ _ _ _ _ _ _ _ touched.first touched.order touched.all c.loop-v.invariant stop.order stop.end

pub zero_part-requires-clause-good : goal.zero_part-requires-clause-good
zero_part-requires-clause-good g c =
    let touched = c.requires.touched in
    let stop = c.cleared_until-stop.ensures in
    let way = IsZeroing-turn _ _ _ _ _ _ _ _ _ _ _ touched.first touched.order touched.all c.loop-v.invariant stop.order stop.end _ _ stop.cleared
    c.zero_row.ensures.zero c.zero_row.ensures.spare in
    way.way.good

pub zero_part-requires-clause-range : goal.zero_part-requires-clause-range
zero_part-requires-clause-range g c =
    let touched = c.requires.touched in
    let stop = c.cleared_until-stop.ensures in
    let way = IsZeroing-turn _ _ _ _ _ _ _ _ _ _ _ touched.first touched.order touched.all c.loop-v.invariant stop.order stop.end _ _ stop.cleared
    c.zero_row.ensures.zero c.zero_row.ensures.spare in
    way.inside

pub zero_part-requires-clause-room : goal.zero_part-requires-clause-room
zero_part-requires-clause-room g c =
    let touched = c.requires.touched in
    let stop = c.cleared_until-stop.ensures in
    let way = IsZeroing-turn _ _ _ _ _ _ _ _ _ _ _ touched.first touched.order touched.all c.loop-v.invariant stop.order stop.end _ _ stop.cleared
    c.zero_row.ensures.zero c.zero_row.ensures.spare in
    IsZeroing-row _ _ _ _ _ _ _ _ _ way (omega (arith, c.if-stop-end.false))

pub zero_part-requires-clause-free : goal.zero_part-requires-clause-free
zero_part-requires-clause-free g c =
    let touched = c.requires.touched in
    let stop = c.cleared_until-stop.ensures in
    let way = IsZeroing-turn _ _ _ _ _ _ _ _ _ _ _ touched.first touched.order touched.all c.loop-v.invariant stop.order stop.end _ _ stop.cleared
    c.zero_row.ensures.zero c.zero_row.ensures.spare in
    IsZeroing-frame _ _ _ _ _ _ _ _ _ way (omega (arith, c.if-stop-end.false)) stop.stop

pub loop-v-preserved : goal.loop-v-preserved
loop-v-preserved g c =
    let touched = c.requires.touched in
    let stop = c.cleared_until-stop.ensures in
    let way = IsZeroing-turn _ _ _ _ _ _ _ _ _ _ _ touched.first touched.order touched.all c.loop-v.invariant stop.order stop.end _ _ stop.cleared
    c.zero_row.ensures.zero c.zero_row.ensures.spare in
    IsZeroing-step _ _ _ _ _ _ _ _ _ way _ _ (omega (arith, c.if-stop-end.false)) (c.zero_part.ensures.zeroes _ stop.stop) c.zero_part.ensures.spare

pub returns-then-stop-end : goal.returns-then-stop-end
returns-then-stop-end g c =
    let touched = c.requires.touched in
    let stop = c.cleared_until-stop.ensures in
    let way = IsZeroing-turn _ _ _ _ _ _ _ _ _ _ _ touched.first touched.order touched.all c.loop-v.invariant stop.order stop.end _ _ stop.cleared
    c.zero_row.ensures.zero c.zero_row.ensures.spare in
    IsZeroing-end _ _ _ _ _ _ _ _ _ way (λ p low less. absurd (omega (arith, c.if-stop-end.true)))
