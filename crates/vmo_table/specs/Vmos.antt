-- The VMOs of the table as a map from koids, and what becomes of it.
use Rattle.std.specs.Prelude.{◌≡◌, ℕ, ◌+◌, ◌-◌, ◌<◌, ◌^◌, ◌==◌, nat_lt, Bool, true, ◌||◌, if◌then◌else◌, Option, None, Some, IsSome, unwrap_or, List}
use Rattle.std.specs.Option.{option_map}
use Rattle.std.specs.Map.{lookup}
use Rattle.vm_base.specs.declared.names.Koid.{Koid}
use Rattle.vm_base.specs.Entries.{with_key, passes, entry_count}
use Rattle.vm_model.specs.declared.names.NameKind.{NameKind}
use Rattle.vm_model.specs.declared.names.NameKind.TheVariants.{Slice, Reference}
use Rattle.vm_model.specs.Naming.Names.{Lineage, is_kind, is_parent, has_parent, child_count}
use Rattle.vmo_table.specs.declared.vmos.Vmo.{Vmo}

-- the number of a koid
abbrev pub koid_number : Koid → ℕ
koid_number koid = koid.0

-- entries of VMOs, as a map from the numbers of koids
unfoldable pub vmos_in : List (Koid × Vmo) → ℕ → Option Vmo
vmos_in entries v = lookup (λ (koid : Koid). v == koid.0) entries

-- what is kept of a VMO, but for the counts
abbrev pub lineage_of_vmo : Vmo → Lineage
lineage_of_vmo vmo =
    record { resizable = vmo.resizable; origin = vmo.origin; parent = option_map koid_number vmo.parent }

unfoldable pub lineages : (ℕ → Option Vmo) → ℕ → Option Lineage
lineages vmos v = option_map lineage_of_vmo (vmos v)

-- how many VMOs there are. Koids are numbers of 64 bits
abbrev pub vmo_count : (ℕ → Option Vmo) → ℕ
vmo_count vmos = entry_count (2 ^ 64) (λ (vmo : Vmo). true) vmos

-- what is counted of the VMO v, or 0 if there is no such VMO
unfoldable pub counted_for : (Vmo → ℕ) → (ℕ → Option Vmo) → ℕ → ℕ
counted_for count vmos v = unwrap_or (option_map count (vmos v)) 0

-- how many pins and mapped pages keep a VMO. If there is no such VMO, none do
unfoldable pub keepers_in : (ℕ → Option Vmo) → ℕ → ℕ
keepers_in = counted_for (λ (vmo : Vmo). vmo.keepers)

-- a number for each VMO, smaller for its parent, so that no chain of parents is a ring
pub record Ranking (lineage : ℕ → Option Lineage) : Type 0 where
  pub rank : ℕ → ℕ
  pub falls : (p v : ℕ) → passes (has_parent p) (lineage v) ≡ true → rank p < rank v

-- Each VMO has as many children as are counted, and a koid that no VMO has has none. No chain of parents is a ring.
-- Koids have the range of their type.
pub record IsVmoForest (vmos : ℕ → Option Vmo) : Type 0 where
  pub below : (v : ℕ) → IsSome (vmos v) → v < 2 ^ 64
  pub children : (v : ℕ) → counted_for (λ (vmo : Vmo). vmo.children) vmos v ≡ child_count (lineages vmos) v
  pub ranked : ∥ Ranking (lineages vmos) ∥₁

-- 1 if two kinds are the same, else 0
abbrev pub kind_bit : NameKind → NameKind → ℕ
kind_bit kind other = if is_kind kind other then 1 else 0

-- a VMO with one name more of this kind
abbrev pub more_names : NameKind → Vmo → Vmo
more_names kind vmo = record vmo {
  names = vmo.names + 1;
  slices = vmo.slices + kind_bit Slice kind;
  references = vmo.references + kind_bit Reference kind;
}

-- a VMO with one name less of this kind
abbrev pub fewer_names : NameKind → Vmo → Vmo
fewer_names kind vmo = record vmo {
  names = vmo.names - 1;
  slices = vmo.slices - kind_bit Slice kind;
  references = vmo.references - kind_bit Reference kind;
}

-- a VMO with another count of children
abbrev pub with_children : ℕ → ℕ → Vmo → Vmo
with_children gone come vmo = record vmo { children = vmo.children - gone + come }

-- the VMOs, after so many children of this parent left it, and so many came
unfoldable pub adopted : (ℕ → Option Vmo) → Option ℕ → ℕ → ℕ → ℕ → Option Vmo
adopted vmos parent gone come v =
    if is_parent v parent then option_map (with_children gone come) (vmos v) else vmos v

-- a parent, once the VMO v with its own parent has left: the children of v get the parent of v
unfoldable pub koid_after : ℕ → Option Koid → Option Koid → Option Koid
koid_after v parent None = None
koid_after v parent (Some p) = if p.0 == v then parent else Some p

-- the VMOs, once the VMO v with this parent has left
unfoldable pub vmos_without : (ℕ → Option Vmo) → ℕ → Option Koid → ℕ → Option Vmo
vmos_without vmos v parent w =
    if w == v then None
    else option_map (λ (vmo : Vmo). record vmo { parent = koid_after v parent vmo.parent }) (vmos w)

-- a name or a keeper keeps a VMO
abbrev pub is_kept : Vmo → Bool
is_kept vmo = nat_lt 0 vmo.names || nat_lt 0 vmo.keepers

-- the VMOs, once the VMO v has got this value. If nothing keeps v, v leaves, and its parent gets its children
unfoldable pub vmos_settled : (ℕ → Option Vmo) → ℕ → Vmo → ℕ → Option Vmo
vmos_settled vmos v vmo =
    if is_kept vmo then with_key vmos v vmo
    else adopted (vmos_without vmos v vmo.parent) (option_map koid_number vmo.parent) 1 vmo.children

-- The VMO k may get this value: the table has it with this lineage, and the VMOs are a forest with it.
pub record MayGet (vmos : ℕ → Option Vmo) (k : ℕ) (new : Vmo) : Type 0 where
  pub old : Vmo
  pub found : vmos k ≡ Some old
  pub lineage : lineage_of_vmo new ≡ lineage_of_vmo old
  pub forest : IsVmoForest (with_key vmos k new)
