use Rattle.std.proofs.Common.{refl, arith}
use Rattle.vm_model.proofs.ContentLaws.{pages_of_le}
use Rattle.vmo_ops.proofs.ranges.place_in_vmo.Goals as goal

pub overflow_mul-result : goal.overflow_mul-result
overflow_mul-result g c = omega (arith, c.requires.inside.pages, pages_of_le _ c.args.t.now.koid.0 c.requires.good)

pub overflow_add-result : goal.overflow_add-result
overflow_add-result g c =
    omega (arith, c.is_in_range.ensures.0 c.if-not-is_in_range.false, c.requires.inside.pages, pages_of_le _ c.args.t.now.koid.0 c.requires.good)

pub returns-clause-some : goal.returns-clause-some
returns-clause-some g c =
    let range = c.is_in_range.ensures.0 c.if-not-is_in_range.false in
    record { range = range; place = refl; inside = omega (arith, range, c.requires.inside.pages) }
