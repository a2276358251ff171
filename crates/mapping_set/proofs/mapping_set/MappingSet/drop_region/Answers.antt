use Rattle.std.proofs.Common.{◌≡◌, Option, Some, refl, sym, ap, ◌∙◌}
use Rattle.mapping_set.specs.declared.piece.Piece.{Piece}
use Rattle.mapping_set.specs.Tables.{table_of, pieces_of, IsPieceIn}
use Rattle.mapping_set.proofs.CutLaws.{fewer_entries}
use Rattle.mapping_set.proofs.RestLaws.{one-of}
use Rattle.mapping_set.proofs.mapping_set.MappingSet.drop_region.Goals as goal

pub returns-in_err-last-clause-table : goal.returns-in_err-last-clause-table
returns-in_err-last-clause-table c = rw c.from_residual.ensures refl

-- what was taken out is of the region
of_region : (c : goal.After-take) → IsPieceIn (table_of c.args.self.now c.args.root.0) c.args.region.0 c.take.result
of_region c = record {
  is = c.take.ensures.shown;
  region_is = ap (λ (x : Piece). x.entry.region.0) (same (sym c.take.ensures.piece ∙ c.in_ok-last.ensures.is)) ∙ c.in_ok-last.ensures.region_is;
}
  where
    same : {x y : Piece} → ◌≡◌ {A = Option Piece} (Some x) (Some y) → x ≡ y
    same e = cc

pub returns-clause-piece : goal.returns-clause-piece
returns-clause-piece c = of_region c

pub returns-clause-table : goal.returns-clause-table
returns-clause-table c = c.take.ensures.table _ c.take.ensures.piece

pub returns-clause-fewer : goal.returns-clause-fewer
returns-clause-fewer c =
    fewer_entries _ _ c.args.root.0 c.args.region.0 c.take.result (of_region c) (c.take.ensures.table _ c.take.ensures.piece)

pub returns-clause-whole : goal.returns-clause-whole
returns-clause-whole c = one-of (pieces_of c.args.self.now c.args.root.0) c.in_ok-last.last c.take.result c.take.ensures.piece c.take.ensures.last
