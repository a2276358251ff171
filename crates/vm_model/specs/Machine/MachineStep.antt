-- One step of the whole machine: what a command does to the state, and to which pages are ready. An access through
-- mappings is a step of the whole machine alone, since its page faults go by what is ready.
use Rattle.std.specs.Prelude.{◌≡◌, ℕ, ◌+◌, ◌/◌, Bool, not, length, Option, None, Some, is_some, ◌⊎◌, true}
use Rattle.std.specs.List.{list_any}
use Rattle.vm_base.specs.Pages.{rounded}
use Rattle.vm_base.specs.declared.limits.TheConstants.{PAGE}
use Rattle.vm_base.specs.declared.refusal.Refusal.{Refusal}
use Rattle.vm_base.specs.declared.refusal.Refusal.TheVariants.{HostMemory}
use Rattle.vm_model.specs.Machine.Words.{Command, Reply}
use Rattle.vm_model.specs.declared.command.Command.TheVariants.{VmoChild, VmarMap, VmarProtect, MemRead, MemWrite}
use Rattle.vm_model.specs.declared.command.ChildKind.TheVariants.{Snapshot}
use Rattle.vm_model.specs.declared.reply.Reply.TheVariants.{Address, Access, Faults}
use Rattle.vm_model.specs.Contents.Writing.{touched}
use Rattle.vm_model.specs.Naming.Pins.{is_pinned}
use Rattle.vm_model.specs.Space.Regions.{region_of}
use Rattle.vm_model.specs.Space.Readiness.{Ready, is_writable, settled, unready, read_only_but}
use Rattle.vm_model.specs.Machine.State.{State, target_of}
use Rattle.vm_model.specs.Machine.Access.{bytes_through, read_faults, after_reading, WritesThrough}
use Rattle.vm_model.specs.Machine.Machine.{Machine, memory_of}
use Rattle.vm_model.specs.Machine.Refusals.{refusals, first_of}
use Rattle.vm_model.specs.Machine.Step.{seen_pages, ChangesContent, Effect, may_lack_memory, IsRefused}

-- What a command takes of what is ready, beside the pages whose frames changed. A page of which a snapshot was made is
-- ready for reading at most, unless a pin covers it. A page that was mapped or protected is ready for nothing.
abbrev pub withdrawn : State → Command → Reply → Ready → Ready
withdrawn old (VmoChild name parent Snapshot offset size resizable no_write) reply ready =
    let target = target_of old parent.0 in
    let first = target.first + offset / PAGE in
    read_only_but (is_pinned old.pins target.koid.0) old.spaces.table target.koid.0 first (first + seen_pages old.content target (offset / PAGE) (rounded size / PAGE)) ready
withdrawn old (VmarMap region offset name vmo_offset len perm flags) (Address addr) ready =
    unready ready (region_of old.spaces.regions region.0).root.0 (addr / PAGE) (addr / PAGE + rounded len / PAGE)
withdrawn old (VmarProtect region addr len perm) reply ready =
    unready ready (region_of old.spaces.regions region.0).root.0 (addr / PAGE) (addr / PAGE + rounded len / PAGE)
withdrawn old command reply ready = ready

-- what is ready after a command that led from old to new
abbrev pub ready_after : Machine → Command → Reply → State → Ready
ready_after old command reply new =
    withdrawn old.state command reply (settled old.state.content new.content new.spaces.table old.ready)

-- what a command does if nothing refuses it
abbrev pub MachineEffect : Machine → Command → Reply → Machine → Type 0
MachineEffect old (MemRead region addr len) reply new =
    (reply ≡ Access (read_faults (old.ready region.0) (touched addr len)) (bytes_through old.state.content (old.state.spaces.table region.0) addr len))
    × (new ≡ record old { ready = after_reading region.0 (touched addr len) old.ready })
MachineEffect old (MemWrite region addr bytes) reply new =
    (faults : ℕ) × (reply ≡ Faults faults) × ChangesContent old.state new.state
    × WritesThrough old.state.spaces.table region.0 addr bytes (touched addr (length bytes)) (memory_of old) faults (memory_of new)
MachineEffect old command reply new =
    Effect old.state command reply new.state × (new.ready ≡ ready_after old command reply new.state)

-- The command may want memory of the host. For an access it is wanted only if a touched page is not ready for it.
abbrev pub may_want_memory : Machine → Command → Bool
may_want_memory m (MemRead region addr len) = list_any (λ p. not (is_some (m.ready region.0 p))) (touched addr len)
may_want_memory m (MemWrite region addr bytes) = list_any (λ p. not (is_writable (m.ready region.0 p))) (touched addr (length bytes))
may_want_memory m command = may_lack_memory m.state command

abbrev pub MachineStepAfter : Option Refusal → Machine → Command → Reply → Machine → Type 0
MachineStepAfter (Some refusal) old command reply new = IsRefused old refusal reply new
MachineStepAfter None old command reply new =
    MachineEffect old command reply new ⊎ (IsRefused old HostMemory reply new × (may_want_memory old command ≡ true))

-- From old, the machine may give this reply to the command and go on to new.
pub record MachineStep (old : Machine) (command : Command) (reply : Reply) (new : Machine) : Type 0 where
  pub outcome : MachineStepAfter (first_of (refusals old.state command)) old command reply new
