-- The table of names and VMOs as plain lists, and what it is to its callers: a map from names, a map from koids,
-- and room.
use Rattle.std.specs.Prelude.{◌≡◌, ℕ, ◌<◌, true, false, ◌==◌, ◌⊎◌, List, Option, None, Some}
use Rattle.std.specs.Map.{lookup}
use Rattle.vm_base.specs.declared.names.Koid.{Koid}
use Rattle.vm_base.specs.declared.names.VmoName.{VmoName}
use Rattle.vm_model.specs.Contents.Content.{Content}
use Rattle.vm_model.specs.declared.names.Target.{Target}
use Rattle.vm_model.specs.Naming.Names.{Lineage, is_named, lineage_without}
use Rattle.vm_model.specs.Machine.State.{State, keeper_count, IsGoodState}
use Rattle.vmo_table.specs.declared.vmos.Vmo.{Vmo}
use Rattle.vmo_table.specs.Vmos.{vmos_in, lineages, keepers_in}

-- the entries of the two maps, and how many names and VMOs may be entered without asking the host for memory
pub record Vmos : Type 0 where
  pub names : List (VmoName × Target)
  pub vmos : List (Koid × Vmo)
  pub room : ℕ

-- entries of names, as a map from numbers
unfoldable pub names_in : List (VmoName × Target) → ℕ → Option Target
names_in entries n = lookup (λ (name : VmoName). n == name.0) entries

-- what the names that are open stand for
abbrev pub names_of : Vmos → ℕ → Option Target
names_of t = names_in t.names

-- what is kept of each VMO
abbrev pub lineage_in : Vmos → ℕ → Option Lineage
lineage_in t = lineages (vmos_in t.vmos)

-- how many pins and mapped pages keep a VMO
abbrev pub keepers_of : Vmos → ℕ → ℕ
keepers_of t = keepers_in (vmos_in t.vmos)

-- how many names and VMOs may be entered without asking the host for memory
abbrev pub vmo_room : Vmos → ℕ
vmo_room t = t.room

-- the state s, but with this content of a store, and the names and the lineage of this table
abbrev pub with_vmos : State → Content → Vmos → State
with_vmos s c t = record s { content = c; names = names_of t; lineage = lineage_in t }

-- the content of a store and a table are parts of one good state
pub record AreParts (c : Content) (t : Vmos) : Type 0 where
  pub rest : State
  pub good : IsGoodState (with_vmos rest c t)

-- some name stands for this
abbrev pub IsNamed : (ℕ → Option Target) → Target → Type 0
IsNamed names target = (n : ℕ) × (names n ≡ Some target)

-- the table counts what keeps each VMO of a state beside its names: the pins that are of it, and the pages of address
-- spaces that show it
abbrev pub CountsKeepers : Vmos → State → Type 0
CountsKeepers t s = (v : ℕ) → keepers_of t v ≡ keeper_count s v

-- a state is good, and the table counts right what keeps each VMO of it
pub record IsWellCounted (t : Vmos) (s : State) : Type 0 where
  pub good : IsGoodState s
  pub counted : CountsKeepers t s

-- the parent of a VMO, if it has one
abbrev pub parent_in_lineage : Option Lineage → Option ℕ
parent_in_lineage None = None
parent_in_lineage (Some l) = l.parent

-- What becomes of the VMO v once something that kept it is gone. It has these names, and so many keepers left. If
-- something still keeps it, nothing changes. Otherwise it leaves with its koid as the answer, and its children get its
-- parent.
pub record Settles (names : ℕ → Option Target) (keepers v : ℕ) (old new : ℕ → Option Lineage)
    (answer : Option Koid) : Type 0 where
  pub stays : (is_named names v ≡ true) ⊎ (0 < keepers) → (answer ≡ None) × (new ≡ old)
  pub leaves : is_named names v ≡ false → keepers ≡ 0 →
      (answer ≡ Some (record { 0 = v })) × (new ≡ lineage_without old v (parent_in_lineage (old v)))

-- Closing the name n settles what becomes of its VMO
abbrev pub Closes : (ℕ → Option Target) → (ℕ → Option Target) → (ℕ → ℕ) → (ℕ → Option Lineage) →
    (ℕ → Option Lineage) → ℕ → Option Koid → Type 0
Closes names after keepers old new n answer =
    (t : Target) → names n ≡ Some t → Settles after (keepers t.koid.0) t.koid.0 old new answer
