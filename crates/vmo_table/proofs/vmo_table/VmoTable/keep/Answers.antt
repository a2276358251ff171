use Rattle.std.proofs.Common.{◌+◌, Some, refl, ap, ◌∙◌, arith}
use Rattle.std.proofs.lemmas.Grind.{common_steps}
use Rattle.vmo_table.specs.declared.vmos.Vmo.{Vmo}
use Rattle.vmo_table.specs.Vmos.{vmos_in, lineages}
use Rattle.vmo_table.proofs.EntryLaws.{vmo_there}
use Rattle.vmo_table.proofs.CountLaws.{keepers-at, keepers-with_key}
use Rattle.vmo_table.proofs.SettledLaws.{lineages-got, AreChildren-got}
use Rattle.vmo_table.proofs.TableLaws.{IsVmoTable-is, keeping}
use Rattle.vmo_table.proofs.vmo_table.VmoTable.keep.Goals as goal

pub index-vmo-requires : goal.index-vmo-requires
index-vmo-requires c = vmo_there _ c.args.koid.0 (rw (← c.self.view_is) at c.requires.koid)

pub overflow_add-kept : goal.overflow_add-kept
unfolding vmos_in
overflow_add-kept c =
    let few = rw (← c.self.view_is) at c.requires.few in
    omega (arith, few, keepers-at (vmos_in c.self.inside.vmos.entries) c.args.koid.0 (Some c.index-vmo.result.now) c.index-vmo.ensures)

pub write_back-requires : goal.write_back-requires
unfolding vmos_in
write_back-requires c = (c.index-vmo.result.now, c.index-vmo.ensures)

pub invariant_of-self : goal.invariant_of-self
invariant_of-self c =
    let written = keeping c.self.inside c.args.koid.0 _ (c.index-vmo.result.now.keepers + c.from.result) c.self.invariant c.index-vmo.ensures in
    IsVmoTable-is _ _ _ refl c.write_back.ensures written.1 written.0.forest (AreChildren-got _ _ _ written.0 _ c.self.invariant.rows)

pub returns-clause-lineage : goal.returns-clause-lineage
returns-clause-lineage c =
    let written = keeping c.self.inside c.args.koid.0 _ (c.index-vmo.result.now.keepers + c.from.result) c.self.invariant c.index-vmo.ensures in
    rw (← c.self.view_is) (ap lineages c.write_back.ensures ∙ lineages-got _ _ _ written.0)

pub returns-clause-keepers : goal.returns-clause-keepers
unfolding vmos_in
returns-clause-keepers c = λ v.
    let vmo = c.index-vmo.result.now in
    let kept : Vmo = record vmo { keepers = vmo.keepers + c.from.result } in
    let was = keepers-at (vmos_in c.self.inside.vmos.entries) c.args.koid.0 (Some vmo) c.index-vmo.ensures in
    rw (← c.self.view_is, c.write_back.ensures)
    (grind (arith, common_steps, keepers-with_key (vmos_in c.self.inside.vmos.entries) c.args.koid.0 kept v, c.from.ensures))
