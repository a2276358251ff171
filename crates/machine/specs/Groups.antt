-- The group of a call, by which it is handled.
use Rattle.vm_model.specs.Machine.Words.{Command}
use Rattle.vm_model.specs.declared.command.Command.TheVariants as Command
use Rattle.machine.specs.declared.groups.Group.{Group}

abbrev pub group_of : Command → Group
group_of (Command.VmoCreate name size resizable) = Group.Vmo
group_of (Command.VmoChild name parent kind offset size resizable no_write) = Group.Vmo
group_of (Command.VmoClose name) = Group.Vmo
group_of (Command.VmoSize name) = Group.Vmo
group_of (Command.VmoSetSize name size) = Group.Vmo
group_of (Command.VmoInfo name) = Group.Vmo
group_of (Command.VmoRead name offset len) = Group.Pages
group_of (Command.VmoWrite name offset bytes) = Group.Pages
group_of (Command.VmoFill name offset len byte) = Group.Pages
group_of (Command.VmoCommit name offset len) = Group.Pages
group_of (Command.VmoDecommit name offset len) = Group.Pages
group_of (Command.VmoZero name offset len) = Group.Pages
group_of (Command.VmoPin pin name offset len) = Group.Pin
group_of (Command.VmoUnpin pin) = Group.Pin
group_of (Command.RootCreate region) = Group.Region
group_of (Command.VmarAllocate region parent offset len flags caps) = Group.Region
group_of (Command.VmarMap region offset name vmo_offset len perm flags) = Group.Region
group_of (Command.VmarUnmap region addr len) = Group.Region
group_of (Command.VmarProtect region addr len perm) = Group.Region
group_of (Command.VmarDestroy region) = Group.Region
group_of (Command.Maps region) = Group.Region
group_of (Command.MemRead region addr len) = Group.Memory
group_of (Command.MemWrite region addr bytes) = Group.Memory
group_of Command.Stat = Group.Machine
