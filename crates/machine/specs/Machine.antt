-- What a machine of the commands is to its callers, whatever keeps its pages and what they are ready for.
use Rattle.std.specs.Prelude.{◌≡◌, ℕ, true, Option, None, Some, IsSome}
use Rattle.vm_model.specs.Machine.Words.{Command, Reply}
use Rattle.vm_model.specs.declared.reply.Reply.TheVariants.{Address}
use Rattle.vm_model.specs.Contents.Content.{Content}
use Rattle.vm_model.specs.Space.Readiness.{Ready}
use Rattle.vm_model.specs.Machine.State.{State, empty_state}
use Rattle.vm_model.specs.Machine.Refusals.{refusals, first_of}
use Rattle.vm_model.specs.Machine.Step.{Effect}
use Rattle.vm_model.specs.Machine.Machine.{Machine, IsGoodMachine}
use Rattle.moving_model.specs.Moving.{tells_place}
use Rattle.vmo_table.specs.Table.{Vmos, names_of, lineage_in}
use Rattle.pin_table.specs.Table.{Pins, pins_of}
use Rattle.mapping_set.specs.Tables.{Mappings, table_of}
use Rattle.region_tree.specs.Tree.{RegionRows as Regions, regions_of, spaces_of}
use Rattle.ready_pages.specs.Changes.{Entries}

-- the table of names and VMOs, the table of pins, the regions, the mappings, and what keeps which pages are ready
pub record MachineParts (R : Type 0) : Type 0 where
  pub vmos : Vmos
  pub pins : Pins
  pub regions : Regions
  pub maps : Mappings
  pub ready : R

-- the state of the machine. The content and the parts keep all of it
abbrev pub state_of : {R : Type 0} → Content → MachineParts R → State
state_of c m = record {
  content = c;
  names = names_of m.vmos;
  lineage = lineage_in m.vmos;
  pins = pins_of m.pins;
  spaces = spaces_of (regions_of m.regions) (table_of m.maps);
}

-- the machine: its state, and what its pages are ready for
abbrev pub machine_of_parts : {R : Type 0} → (R → Ready) → Content → MachineParts R → Machine
machine_of_parts ready c m = record { state = state_of c m; ready = ready m.ready }

-- a machine with this content, and without names, lineage, pins and regions
abbrev pub bare_state : Content → State
bare_state c = record (empty_state 0) { content = c }

-- a machine with this content, and without names, lineage, pins, regions and ready pages
abbrev pub bare_machine : Content → Machine
bare_machine c = record { state = bare_state c; ready = λ root p. None }

-- The content and the parts stand for a good machine, and what is noted of its ready pages is true.
pub record IsSoundMachine {R : Type 0} (ready : R → Ready) (AreTrue : Content → Entries → R → Type 0) (c : Content) (m : MachineParts R) : Type 0 where
  pub good : IsGoodMachine (machine_of_parts ready c m)
  pub notes : AreTrue c (table_of m.maps) m.ready

-- Nothing refuses the command, which asks for a place, but it can't be at the address that is told.
pub record MissesPlace (s : State) (command : Command) (told : Option ℕ) : Type 0 where
  pub none : first_of (refusals s command) ≡ None
  pub asks : tells_place command ≡ true
  pub is_told : IsSome told
  pub never : (address : ℕ) → told ≡ Some address → (new : State) → Effect s command (Address address) new → ⊥

-- The same of a machine, of which nothing changes.
pub record LacksPlace (old : Machine) (command : Command) (told : Option ℕ) (new : Machine) : Type 0 where
  pub misses : MissesPlace old.state command told
  pub kept : new ≡ old

-- the address of a place in the reply is the one that is told, if one is
abbrev pub IsAtPlace : Command → (told : Option ℕ) → Reply → Type 0
IsAtPlace command told reply = tells_place command ≡ true → (address place : ℕ) → told ≡ Some place → reply ≡ Address address → address ≡ place
