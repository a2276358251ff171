-- What a command is about, by which its arguments are written.
use Rattle.vm_model.specs.Machine.Words.{Command}
use Rattle.vm_model.specs.declared.command.Command.TheVariants.{VmoCreate, VmoChild, VmoClose, VmoSize, VmoSetSize}
use Rattle.vm_model.specs.declared.command.Command.TheVariants.{VmoInfo, RootCreate, VmarAllocate, VmarMap}
use Rattle.vm_model.specs.declared.command.Command.TheVariants.{VmarUnmap, VmarProtect, VmarDestroy, Maps, MemRead}
use Rattle.vm_model.specs.declared.command.Command.TheVariants.{MemWrite, Stat}

pub data Subject : Type 0 where
  -- a VMO as a whole
  OfVmo : Subject
  -- pages of a VMO
  OfPages : Subject
  -- a region as a whole
  OfRegion : Subject
  -- the mappings in a region
  OfMappings : Subject
  -- the machine
  OfMachine : Subject

abbrev pub subject_of : Command → Subject
subject_of (VmoCreate name size resizable) = OfVmo
subject_of (VmoChild name parent kind offset size resizable no_write) = OfVmo
subject_of (VmoClose name) = OfVmo
subject_of (VmoSize name) = OfVmo
subject_of (VmoSetSize name size) = OfVmo
subject_of (VmoInfo name) = OfVmo
subject_of (RootCreate region) = OfRegion
subject_of (VmarAllocate region parent offset len flags caps) = OfRegion
subject_of (VmarDestroy region) = OfRegion
subject_of (Maps region) = OfRegion
subject_of (VmarMap region offset name vmo_offset len perm flags) = OfMappings
subject_of (VmarUnmap region addr len) = OfMappings
subject_of (VmarProtect region addr len perm) = OfMappings
subject_of (MemRead region addr len) = OfMappings
subject_of (MemWrite region addr bytes) = OfMappings
subject_of Stat = OfMachine
subject_of _ = OfPages
