-- The names of VMOs, and what the machine keeps of a VMO beside its pages. From the kernel's handles and VMO children.
use Rattle.std.specs.Prelude.{ℕ, Bool, false, ◌&&◌, ◌==◌, if◌then◌else◌, Option, None, Some, ◌+◌, ◌^◌, true}
use Rattle.std.specs.Option.{option_map}
use Rattle.vm_model.specs.declared.names.NameKind.{NameKind}
use Rattle.vm_model.specs.declared.names.NameKind.TheVariants.{Owner, Slice, Reference}
use Rattle.vm_model.specs.declared.names.Target.{Target}
use Rattle.vm_model.specs.declared.names.Origin.{Origin}
use Rattle.vm_model.specs.declared.names.Origin.TheVariants.{Created, Snapshot}
use Rattle.vm_base.specs.Entries.{passes, any_entry, entry_count}
use Rattle.vm_base.specs.declared.limits.TheConstants.{NAMES}

-- a VMO may change its size or not, it was created or is a snapshot, and it may have a parent
pub record Lineage : Type 0 where
  pub resizable : Bool
  pub origin : Origin
  pub parent : Option ℕ

-- the name of a VMO that has just been made
abbrev pub owner : ℕ → Bool → Bool → Target
owner koid may_write may_resize = record { koid = record { 0 = koid }; first = 0; limit = None; kind = Owner; may_write = may_write; may_resize = may_resize }

-- a name stands for the VMO v
abbrev pub is_of : ℕ → Target → Bool
is_of v target = target.koid.0 == v

-- some name stands for the VMO v
abbrev pub is_named : (ℕ → Option Target) → ℕ → Bool
is_named names v = any_entry NAMES (is_of v) names

-- two kinds are the same
abbrev pub is_kind : NameKind → NameKind → Bool
is_kind Owner Owner = true
is_kind Slice Slice = true
is_kind Reference Reference = true
is_kind _ _ = false

-- a VMO was created with zero pages
abbrev pub is_created : Origin → Bool
is_created Created = true
is_created Snapshot = false

-- a parent is v
abbrev pub is_parent : ℕ → Option ℕ → Bool
is_parent v parent = passes (λ (p : ℕ). p == v) parent

-- a name of this kind stands for the VMO v
abbrev pub is_of_as : NameKind → ℕ → Target → Bool
is_of_as kind v target = (target.koid.0 == v) && is_kind kind target.kind

-- how many names of this kind stand for the VMO v
abbrev pub names_as : NameKind → (ℕ → Option Target) → ℕ → ℕ
names_as kind names v = entry_count NAMES (is_of_as kind v) names

-- the VMO with this lineage has the parent v
abbrev pub has_parent : ℕ → Lineage → Bool
has_parent v l = is_parent v l.parent

-- how many VMOs have the parent v. Koids are numbers of 64 bits
abbrev pub child_count : (ℕ → Option Lineage) → ℕ → ℕ
child_count lineage v = entry_count (2 ^ 64) (has_parent v) lineage

-- The children of the VMO v: the VMOs whose parent it is, and the slices and references that stand for it.
abbrev pub children : (ℕ → Option Target) → (ℕ → Option Lineage) → ℕ → ℕ
children names lineage v = child_count lineage v + names_as Slice names v + names_as Reference names v

-- The frames of the VMO v with this lineage may be given back by a decommit: the VMO is no snapshot, no VMO is its
-- child, and no reference stands for it.
abbrev pub may_decommit : (ℕ → Option Target) → (ℕ → Option Lineage) → ℕ → Lineage → Bool
may_decommit names lineage v l = is_created l.origin && ((child_count lineage v == 0) && (names_as Reference names v == 0))

-- a parent, once the VMO v with its own parent has left: the children of v get the parent of v
unfoldable pub parent_without : ℕ → Option ℕ → Option ℕ → Option ℕ
parent_without v parent None = None
parent_without v parent (Some p) = if p == v then parent else Some p

-- the lineage of all VMOs, once the VMO v with this parent has left
unfoldable pub lineage_without : (ℕ → Option Lineage) → ℕ → Option ℕ → ℕ → Option Lineage
lineage_without lineage v parent w =
    if w == v then None
    else option_map (λ (l : Lineage). record l { parent = parent_without v parent l.parent }) (lineage w)
