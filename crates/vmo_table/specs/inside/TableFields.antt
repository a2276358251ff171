-- How the fields of the table are seen, and what holds of them.
use Rattle.std.specs.Prelude.{◌≡◌, ℕ, ◌<◌, min, Option, IsSome}
use Rattle.std.specs.HashMap.{spare}
use Rattle.vm_base.specs.Entries.{entry_count}
use Rattle.vm_base.specs.declared.limits.TheConstants.{NAMES}
use Rattle.vm_model.specs.declared.names.NameKind.TheVariants.{Slice, Reference}
use Rattle.vm_model.specs.declared.names.Target.{Target}
use Rattle.vm_model.specs.Naming.Names.{is_of, names_as}
use Rattle.vmo_table.specs.declared.vmos.Vmo.{Vmo}
use Rattle.vmo_table.specs.declared.vmo_table.VmoTable.TheInside.{Inside}
use Rattle.vmo_table.specs.Vmos.{vmos_in, counted_for, lineages, IsVmoForest}
use Rattle.vmo_table.specs.inside.ChildRows.{AreChildren}
use Rattle.vmo_table.specs.Table.{Vmos, names_in}

abbrev pub vmo_table_of : Inside → Vmos
vmo_table_of a = record {
  names = a.names.entries;
  vmos = a.vmos.entries;
  room = min (min (spare a.names) (spare a.vmos)) a.child_rows.spare;
}

-- how many names stand for the VMO v
abbrev pub name_count : (ℕ → Option Target) → ℕ → ℕ
name_count names v = entry_count NAMES (is_of v) names

-- Each VMO has as many names, and slices and references among them, as are counted, and no name stands for a koid that
-- no VMO has. Names have the range of their type.
pub record AreNamed (names : ℕ → Option Target) (vmos : ℕ → Option Vmo) : Type 0 where
  pub below : (n : ℕ) → IsSome (names n) → n < NAMES
  pub named : (v : ℕ) → counted_for (λ (vmo : Vmo). vmo.names) vmos v ≡ name_count names v
  pub sliced : (v : ℕ) → counted_for (λ (vmo : Vmo). vmo.slices) vmos v ≡ names_as Slice names v
  pub referred : (v : ℕ) → counted_for (λ (vmo : Vmo). vmo.references) vmos v ≡ names_as Reference names v

pub record IsVmoTable (a : Inside) : Type 0 where
  pub named : AreNamed (names_in a.names.entries) (vmos_in a.vmos.entries)
  pub forest : IsVmoForest (vmos_in a.vmos.entries)
  pub rows : AreChildren a.child_rows (lineages (vmos_in a.vmos.entries))
