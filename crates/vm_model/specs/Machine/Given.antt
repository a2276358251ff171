-- The name, pin or region that a command gives.
use Rattle.std.specs.Prelude.{◌<◌}
use Rattle.vm_base.specs.declared.limits.TheConstants.{NAMES}
use Rattle.vm_model.specs.Machine.Words.{Command}
use Rattle.vm_model.specs.declared.command.Command.TheVariants.{VmoCreate, VmoChild, VmoPin, RootCreate, VmarAllocate}

-- the name, the pin or the region that a command gives, if any, is one that there is
abbrev pub GivesName : Command → Type 0
GivesName (VmoCreate name size resizable) = name.0 < NAMES
GivesName (VmoChild name parent kind offset size resizable no_write) = name.0 < NAMES
GivesName (VmoPin pin name offset len) = pin.0 < NAMES
GivesName (RootCreate region) = region.0 < NAMES
GivesName (VmarAllocate region parent offset len flags caps) = region.0 < NAMES
GivesName _ = Unit {0}
