-- The address spaces of a state as the regions and the set of mappings have them, and what the calls promise in these
-- words.
use Rattle.std.specs.Prelude.{◌≡◌, ℕ, ◌+◌, ◌/◌, Bool, true, false, ◌&&◌, ◌==◌, if◌then◌else◌, Option, None, Some}
use Rattle.vm_base.specs.Entries.{passes}
use Rattle.vm_base.specs.declared.limits.TheConstants.{PAGE}
use Rattle.vm_base.specs.declared.names.RegionName.{RegionName}
use Rattle.vm_base.specs.declared.names.VmoName.{VmoName}
use Rattle.vm_base.specs.declared.refusal.Refusal.{Refusal}
use Rattle.vm_base.specs.declared.refusal.Refusal.TheVariants.{AlreadyExists, NoResources}
use Rattle.vm_model.specs.Machine.Words.{Command, Reply}
use Rattle.vm_model.specs.declared.space.Entry.{Entry}
use Rattle.vm_model.specs.Contents.Content.{Content}
use Rattle.vm_model.specs.Space.AddressSpaces.{Spaces}
use Rattle.vm_model.specs.Space.Table.{is_in}
use Rattle.vm_model.specs.declared.names.Target.{Target}
use Rattle.vm_model.specs.Space.Regions.{region_of}
use Rattle.vm_model.specs.Space.Places.{is_free, has_place, limit_of}
use Rattle.vm_model.specs.Machine.State.{State}
use Rattle.vm_model.specs.Machine.Leaving.{pruned}
use Rattle.vm_model.specs.Machine.Refusals.{refusals, first_of}
use Rattle.vm_model.specs.Machine.Step.{Step}
use Rattle.vmo_table.specs.Table.{Vmos, with_vmos, CountsKeepers, IsWellCounted}

-- the table, without the entries of one address space that belong to the region
abbrev pub without_entries : (ℕ → ℕ → Option Entry) → (root region : ℕ) → ℕ → ℕ → Option Entry
without_entries table root region r p = if (r == root) && passes (is_in region) (table r p) then None else table r p

-- the state s, but with this content of a store, the names and the lineage of this table, and these entries
abbrev pub with_entries : State → Content → Vmos → (ℕ → ℕ → Option Entry) → State
with_entries s c vmos table = record (with_vmos s c vmos) { spaces = record s.spaces { table = table } }

-- the state s, but with this content of a store, the names and the lineage of this table, and these address spaces
abbrev pub with_all : State → Content → Vmos → Spaces → State
with_all s c vmos spaces = record (with_vmos s c vmos) { spaces = spaces }

-- A store, a table of VMOs and entries are parts of one good state, and the table counts right what keeps each VMO of
-- it.
pub record AreWell (c : Content) (vmos : Vmos) (table : ℕ → ℕ → Option Entry) : Type 0 where
  pub rest : State
  pub well : IsWellCounted vmos (with_entries rest c vmos table)

-- the same, and these regions are those of the state
pub record AreAllWell (c : Content) (vmos : Vmos) (spaces : Spaces) : Type 0 where
  pub rest : State
  pub well : IsWellCounted vmos (with_all rest c vmos spaces)

-- Entries went from the table, and with them the VMOs that nothing keeps any more. The table of VMOs counts right what
-- keeps the others.
pub record LetsGo (c : Content) (vmos : Vmos) (table : ℕ → ℕ → Option Entry) (d : Content) (vmos_new : Vmos) (table_new : ℕ → ℕ → Option Entry) : Type 0 where
  pub gone : (s : State) → IsWellCounted vmos (with_entries s c vmos table) → with_entries s d vmos_new table_new ≡ pruned (with_entries s c vmos table_new)
  pub well : (s : State) → IsWellCounted vmos (with_entries s c vmos table) → IsWellCounted vmos_new (with_entries s d vmos_new table_new)

-- In a good state with its keepers counted right, a store, a table of VMOs and address spaces do a step of the machine
-- with this reply, whatever else the state has. The keepers are counted right afterwards.
pub record Does (c : Content) (vmos : Vmos) (spaces : Spaces) (command : Command) (reply : Reply)
    (d : Content) (vmos_new : Vmos) (spaces_new : Spaces) : Type 0 where
  pub step : (s : State) → IsWellCounted vmos (with_all s c vmos spaces) → Step (with_all s c vmos spaces) command reply (with_all s d vmos_new spaces_new)
  pub counted : (s : State) → IsWellCounted vmos (with_all s c vmos spaces) → CountsKeepers vmos_new (with_all s d vmos_new spaces_new)

-- the state s, but with these address spaces
abbrev pub with_spaces : State → Spaces → State
with_spaces s spaces = record s { spaces = spaces }

-- Why there is no place in a region: the one that was asked for is not free, or no free place fits.
pub record HasNoPlace (spaces : Spaces) (name : ℕ) (fixed limited : Bool) (offset count : ℕ) (refusal : Refusal) : Type 0 where
  pub taken : fixed ≡ true → (refusal ≡ AlreadyExists)
      × (is_free spaces name ((region_of spaces.regions name).first + offset / PAGE) ((region_of spaces.regions name).first + offset / PAGE + count) ≡ false)
  pub full : fixed ≡ false → (refusal ≡ NoResources)
      × (has_place spaces name count (limit_of (region_of spaces.regions name) limited offset) ≡ false)

-- the answer is what refuses the command where these are the address spaces, whatever else the state has
abbrev pub IsRefusalOf : Spaces → Command → Option Refusal → Type 0
IsRefusalOf spaces command answer = (s : State) → answer ≡ first_of (refusals (with_spaces s spaces) command)

-- the same of a command that gives a name which no region has yet
abbrev pub IsRefusalOfNew : Spaces → (RegionName → Command) → Option Refusal → Type 0
IsRefusalOfNew spaces command answer = (name : RegionName) → spaces.regions name.0 ≡ None → IsRefusalOf spaces (command name) answer

-- the same of a command by a name that stands for the target, where this is the content of the store
abbrev pub IsRefusalBy : Content → Spaces → Target → (VmoName → Command) → Option Refusal → Type 0
IsRefusalBy c spaces target command answer =
    (s : State) (name : VmoName) → s.names name.0 ≡ Some target
    → answer ≡ first_of (refusals (record s { content = c; spaces = spaces }) (command name))
