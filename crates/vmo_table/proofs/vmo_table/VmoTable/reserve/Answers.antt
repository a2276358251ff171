use Rattle.std.proofs.Common.{refl, ap, ◌∙◌}
use Rattle.vmo_table.specs.Vmos.{lineages, keepers_in}
use Rattle.vmo_table.specs.Table.{names_of, lineage_in, keepers_of}
use Rattle.vmo_table.proofs.EntryLaws.{names_in-same, vmos_in-same}
use Rattle.vmo_table.proofs.TableLaws.{IsVmoTable-same}
use Rattle.vmo_table.proofs.vmo_table.VmoTable.reserve.Goals as goal

pub invariant_of-self-in_default-reserve : goal.invariant_of-self-in_default-reserve
invariant_of-self-in_default-reserve c =
    IsVmoTable-same c.self.inside _ c.self.invariant (names_in-same _ _ c.reserve.ensures.entries.2)
    (vmos_in-same _ _ c.reserve-2.ensures.entries.2) refl

pub returns-in_default-reserve-clause-names : goal.returns-in_default-reserve-clause-names
returns-in_default-reserve-clause-names c = names_in-same _ _ c.reserve.ensures.entries.2 ∙ ap names_of c.self.view_is

pub invariant_of-self-in_default-reserve-2 : goal.invariant_of-self-in_default-reserve-2
invariant_of-self-in_default-reserve-2 c =
    IsVmoTable-same c.self.inside _ c.self.invariant (names_in-same _ _ c.reserve.ensures.entries.2)
    (vmos_in-same _ _ c.reserve-2.ensures.entries.2) c.reserve-3.ensures.rows

pub returns-in_default-reserve-2-clause-names : goal.returns-in_default-reserve-2-clause-names
returns-in_default-reserve-2-clause-names c = names_in-same _ _ c.reserve.ensures.entries.2 ∙ ap names_of c.self.view_is

pub returns-in_default-reserve-2-clause-lineage : goal.returns-in_default-reserve-2-clause-lineage
returns-in_default-reserve-2-clause-lineage c =
    ap lineages (vmos_in-same _ _ c.reserve-2.ensures.entries.2) ∙ ap lineage_in c.self.view_is

pub returns-in_default-reserve-2-clause-keepers : goal.returns-in_default-reserve-2-clause-keepers
returns-in_default-reserve-2-clause-keepers c =
    ap keepers_in (vmos_in-same _ _ c.reserve-2.ensures.entries.2) ∙ ap keepers_of c.self.view_is

pub invariant_of-self-2 : goal.invariant_of-self-2
invariant_of-self-2 c =
    IsVmoTable-same c.self.inside _ c.self.invariant (names_in-same _ _ c.reserve.ensures.entries.2)
    (vmos_in-same _ _ c.reserve-2.ensures.entries.2) c.reserve-3.ensures.rows

pub returns-clause-names : goal.returns-clause-names
returns-clause-names c = names_in-same _ _ c.reserve.ensures.entries.2 ∙ ap names_of c.self.view_is

pub returns-clause-lineage : goal.returns-clause-lineage
returns-clause-lineage c =
    ap lineages (vmos_in-same _ _ c.reserve-2.ensures.entries.2) ∙ ap lineage_in c.self.view_is

pub returns-clause-keepers : goal.returns-clause-keepers
returns-clause-keepers c =
    ap keepers_in (vmos_in-same _ _ c.reserve-2.ensures.entries.2) ∙ ap keepers_of c.self.view_is
