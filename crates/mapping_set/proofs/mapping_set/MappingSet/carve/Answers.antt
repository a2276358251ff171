use Rattle.std.proofs.Common.{◌+◌, ap, arith}
use Rattle.mapping_set.specs.declared.piece.Piece.{Piece}
use Rattle.mapping_set.proofs.CutLaws.{bare-until}
use Rattle.mapping_set.proofs.mapping_set.MappingSet.carve.Goals as goal

pub returns-clause-rest : goal.returns-clause-rest
returns-clause-rest c falls =
    let held = c.in_ok-last.ensures in
    let begins = ap (λ (x : Piece). x.first) c.from-rest.ensures in
    bare-until _ _ c.args.root.0 c.from-rest.result.first c.saturating_add-end.result c.take_middle.ensures.table c.args.first (c.args.first + c.args.count)
    (omega (arith, c.saturating_add-end.ensures, held.sound.last_is, held.sound.end, c.if-last-end.false))
    (λ p low high. held.free p low (omega (arith, begins, c.max.ensures)))
