-- What a name stands for, and what a command does by it.
use Rattle.std.specs.Prelude.{◌≡◌, ℕ, ◌+◌, ◌*◌, ◌<◌, ◌≤◌, ◌⊎◌, true, false, Option, None, Some}
use Rattle.vm_base.specs.declared.names.Koid.{Koid}
use Rattle.vm_base.specs.declared.names.VmoName.{VmoName}
use Rattle.vm_base.specs.declared.limits.TheConstants.{PAGE}
use Rattle.vm_base.specs.declared.refusal.Refusal.{Refusal}
use Rattle.vm_base.specs.declared.refusal.Refusal.TheVariants.{AccessDenied, OutOfRange}
use Rattle.vm_model.specs.declared.command.ChildKind.{ChildKind}
use Rattle.vm_model.specs.declared.command.ChildKind.TheVariants.{Snapshot, Slice, Reference}
use Rattle.vm_model.specs.Machine.Words.{Command, Reply}
use Rattle.vm_model.specs.Contents.Content.{Content, pages_of}
use Rattle.vm_model.specs.declared.names.Target.{Target}
use Rattle.vm_model.specs.Naming.Pins.{Pin}
use Rattle.vm_model.specs.Machine.State.{State, name_pages, IsGoodState}
use Rattle.vm_model.specs.Machine.Refusals.{refusals, first_of}
use Rattle.vm_model.specs.Machine.Step.{Step}
use Rattle.vmo_table.specs.Table.{Vmos, with_vmos}
use Rattle.pin_table.specs.Table.{Pins, pins_of}

-- a range of a name lies inside it, at this place in the VMO
pub record IsPlaced (c : Content) (target : Target) (offset len at : ℕ) : Type 0 where
  pub range : offset + len ≤ name_pages c target * PAGE
  pub place : at ≡ target.first * PAGE + offset
  pub inside : at + len ≤ pages_of c target.koid.0 * PAGE

-- a change to a range of a name is refused by the name, which may not write, or by the range, which passes its end
abbrev pub IsBarred : Content → Target → ℕ → ℕ → Refusal → Type 0
IsBarred c target offset len refusal =
    ((refusal ≡ AccessDenied) × (target.may_write ≡ false))
    ⊎ ((refusal ≡ OutOfRange) × (target.may_write ≡ true) × (name_pages c target * PAGE < offset + len))

-- the state s, but with this content
abbrev pub with_content : Content → State → State
with_content c s = record s { content = c }

-- the same with these pins
abbrev pub with_pins : Content → (ℕ → Option Pin) → State → State
with_pins c pins s = record s { content = c; pins = pins }

-- The answer is what refuses the command, given by a name that stands for the target, in each state that has these parts,
-- whatever else it has.
abbrev pub IsRefusalIn : (State → State) → Target → (VmoName → Command) → Option Refusal → Type 0
IsRefusalIn parts target command answer =
    (s : State) (name : VmoName) → (parts s).names name.0 ≡ Some target
    → answer ≡ first_of (refusals (parts s) (command name))

-- The same of a command that makes a child of what the target stands for, under a name that is not open.
abbrev pub IsRefusalOfChild : (State → State) → Target → (VmoName → VmoName → Command) → Option Refusal → Type 0
IsRefusalOfChild parts target command answer =
    (s : State) (name parent : VmoName) → (parts s).names parent.0 ≡ Some target → (parts s).names name.0 ≡ None
    → answer ≡ first_of (refusals (parts s) (command name parent))

-- From the old content to the new, the command is a step of the machine with this reply. It is given by a name that
-- stands for the target, whichever name this is, and whatever else the state has.
abbrev pub DoesByName : (VmoName → Command) → Target → Content → Reply → Content → Type 0
DoesByName command target old reply new =
    (s : State) (name : VmoName) → s.names name.0 ≡ Some target
    → Step (record s { content = old }) (command name) reply (record s { content = new })

-- the same with these pins in the state
abbrev pub DoesWith : (ℕ → Option Pin) → (VmoName → Command) → Target → Content → Reply → Content → Type 0
DoesWith pins command target old reply new =
    (s : State) (name : VmoName) → s.names name.0 ≡ Some target
    → Step (record s { content = old; pins = pins }) (command name) reply (record s { content = new; pins = pins })

-- the state s, but with this content of a store, and what these two tables have
abbrev pub with_tables : State → Content → Vmos → Pins → State
with_tables s c vmos pins = record (with_vmos s c vmos) { pins = pins_of pins }

-- the content of a store and the two tables are parts of one good state
pub record AreTogether (c : Content) (vmos : Vmos) (pins : Pins) : Type 0 where
  pub rest : State
  pub good : IsGoodState (with_tables rest c vmos pins)

-- the koid that a child of this kind is given, if this is the next koid: a snapshot is a VMO of its own
abbrev pub koid_given : ChildKind → ℕ → Option Koid
koid_given Snapshot next = Some (record { 0 = next })
koid_given Slice next = None
koid_given Reference next = None
