use Rattle.std.proofs.Common.{Some, refl}
use Rattle.vmo_table.specs.Vmos.{vmos_in}
use Rattle.vmo_table.proofs.EntryLaws.{vmo_there}
use Rattle.vmo_table.proofs.VmosLaws.{lineage-at}
use Rattle.vmo_table.proofs.vmo_table.VmoTable.resizable.Goals as goal

pub index-requires : goal.index-requires
index-requires c = vmo_there _ c.args.koid.0 (rw (← c.self.view_is) at c.requires)

pub returns : goal.returns
unfolding vmos_in
returns c = rw (← c.self.view_is, lineage-at (vmos_in c.self.inside.vmos.entries) c.args.koid.0 (Some c.index.result.now) c.index.ensures) refl
