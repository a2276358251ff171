-- Fields that stand side by side in several commands.
use Rattle.std.specs.Prelude.{ℕ, List, Option, Some}
use Rattle.std.specs.Option.{option_zip}
use Rattle.vm_base.specs.declared.names.VmoName.{VmoName}
use Rattle.vm_base.specs.declared.names.RegionName.{RegionName}
use Rattle.vm_model.specs.declared.command.ChildKind.{ChildKind}
use Rattle.vm_model.specs.Language.Reading.{◌>>=◌, vmo, region, number, child_kind}

abbrev pub vmo_and_number : List ℕ → List ℕ → Option (VmoName × ℕ)
vmo_and_number a b = option_zip (vmo a) (number b)

abbrev pub range_of_vmo : List ℕ → List ℕ → List ℕ → Option (VmoName × ℕ × ℕ)
range_of_vmo a b c = do
  name ← vmo a
  offset ← number b
  len ← number c
  Some (name, offset, len)

abbrev pub region_and_number : List ℕ → List ℕ → Option (RegionName × ℕ)
region_and_number a b = option_zip (region a) (number b)

abbrev pub range_of_region : List ℕ → List ℕ → List ℕ → Option (RegionName × ℕ × ℕ)
range_of_region a b c = do
  name ← region a
  addr ← number b
  len ← number c
  Some (name, addr, len)

abbrev pub range : List ℕ → List ℕ → Option (ℕ × ℕ)
range a b = option_zip (number a) (number b)

abbrev pub child : List ℕ → List ℕ → List ℕ → Option (VmoName × VmoName × ChildKind)
child a b c = do
  name ← vmo a
  parent ← vmo b
  kind ← child_kind c
  Some (name, parent, kind)
