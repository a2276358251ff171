-- What holds of a piece that is taken out of an address space.
use Rattle.std.specs.Prelude.{ℕ, Option}
use Rattle.vm_model.specs.declared.space.Entry.{Entry}
use Rattle.vm_model.specs.Contents.Content.{Content}
use Rattle.vmo_table.specs.Table.{Vmos}
use Rattle.mapping_set.specs.declared.piece.Piece.{Piece}
use Rattle.mapping_set.specs.Tables.{IsPieceOf}
use Rattle.region_ops.specs.Spaces.{AreWell}

-- A piece of the entries was taken out: some address space of a good state had it.
pub record IsTaken (c : Content) (vmos : Vmos) (piece : Piece) : Type 0 where
  pub table : ℕ → ℕ → Option Entry
  pub root : ℕ
  pub well : AreWell c vmos table
  pub is : IsPieceOf (table root) piece
