use Rattle.std.proofs.Common.{◌+◌, sym, ap, ◌∙◌, arith}
use Rattle.vm_base.proofs.EntryLaws.{some_same}
use Rattle.mapping_set.specs.declared.piece.Piece.{Piece}
use Rattle.mapping_set.proofs.CutLaws.{whole-range}
use Rattle.mapping_set.proofs.mapping_set.MappingSet.take_rest.Goals as goal

pub returns-else-piece-from-clause-table : goal.returns-else-piece-from-clause-table
returns-else-piece-from-clause-table c =
    let page = c.requires.page in
    let size = ap (λ (x : Piece). x.first + x.count) (some_same (sym c.take.ensures.piece ∙ c.requires.piece)) in
    c.take.ensures.table _ c.requires.piece
    ∙ whole-range _ c.args.root.0 c.args.piece c.args.from c.args.last (omega (arith, page.0, c.if-piece-from.false)) (sym size ∙ c.take.ensures.last)
