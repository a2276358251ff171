-- The command that a request stands for.
use Rattle.vm_model.specs.Machine.Words.{Command}
use Rattle.vm_model.specs.declared.command.Command.TheVariants as Command
use Rattle.machine.specs.declared.requests.RegionCommand.{RegionCommand}

abbrev pub command_by : RegionCommand → Command
command_by (RegionCommand.Create region) = Command.RootCreate region
command_by (RegionCommand.Allocate region r) = Command.VmarAllocate region r.parent r.offset r.len r.flags r.caps
command_by (RegionCommand.Map r) = Command.VmarMap r.region r.offset r.mapped r.vmo_offset r.len r.perm r.flags
command_by (RegionCommand.Unmap range) = Command.VmarUnmap range.region range.addr range.len
command_by (RegionCommand.Protect range perm) = Command.VmarProtect range.region range.addr range.len perm
command_by (RegionCommand.Destroy region) = Command.VmarDestroy region
command_by (RegionCommand.List region) = Command.Maps region
