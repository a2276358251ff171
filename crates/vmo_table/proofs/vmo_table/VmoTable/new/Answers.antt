use Rattle.std.proofs.Common.{None}
use Rattle.vmo_table.proofs.EntryLaws.{names_in-empty, vmos_in-empty}
use Rattle.vmo_table.proofs.CountLaws.{keepers-at}
use Rattle.vmo_table.proofs.VmosLaws.{lineage-at}
use Rattle.vmo_table.proofs.ForestLaws.{IsVmoForest-empty}
use Rattle.vmo_table.proofs.NamedLaws.{AreNamed-empty}
use Rattle.vmo_table.proofs.TableLaws.{AreChildren-empty}
use Rattle.vmo_table.proofs.vmo_table.VmoTable.new.Goals as goal

pub invariant_of-result : goal.invariant_of-result
invariant_of-result c =
    let no_name = names_in-empty c.new.result.entries c.new.ensures.empty in
    let no_vmo = vmos_in-empty c.new-2.result.entries c.new-2.ensures.empty in
    record { named = AreNamed-empty _ _ no_name no_vmo; forest = IsVmoForest-empty _ no_vmo; rows = AreChildren-empty c.new-3.result _ c.new-3.ensures.rows no_vmo }

pub returns-clause-names : goal.returns-clause-names
returns-clause-names c = names_in-empty _ c.new.ensures.empty

pub returns-clause-lineage : goal.returns-clause-lineage
returns-clause-lineage c = λ v. lineage-at _ v None (vmos_in-empty _ c.new-2.ensures.empty v)

pub returns-clause-keepers : goal.returns-clause-keepers
returns-clause-keepers c = λ v. keepers-at _ v None (vmos_in-empty _ c.new-2.ensures.empty v)
