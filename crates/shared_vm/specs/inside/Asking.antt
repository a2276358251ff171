-- How much data the replies to tasks have at most.
use Rattle.std.specs.Prelude.{ℕ, ◌+◌, ◌/◌, min, drop}
use Rattle.std.specs.List.{sum_by}
use Rattle.vm_base.specs.declared.limits.TheConstants.{DATA_BYTES, PAGE, PIN_PAGES}
use Rattle.vm_model.specs.Machine.Words.{Command}
use Rattle.vm_model.specs.declared.command.Command.TheVariants.{VmoRead, MemRead, VmoPin}
use Rattle.shared_vm.specs.declared.counts.Counts.{Counts}
use Rattle.shared_vm.specs.declared.task.Task.{Task}
use Rattle.shared_vm.specs.Tasks.{Lists}

-- the bytes that a command asks for. A read of more is refused
abbrev pub bytes_wanted : Command → ℕ
bytes_wanted (VmoRead name offset len) = min len DATA_BYTES
bytes_wanted (MemRead region addr len) = min len DATA_BYTES
bytes_wanted command = 0

-- the frames that a command asks for. A pin of more pages is refused
abbrev pub numbers_wanted : Command → ℕ
numbers_wanted (VmoPin pin name offset len) = min (len / PAGE) PIN_PAGES
numbers_wanted command = 0

abbrev pub bytes_asked : Task → ℕ
bytes_asked (Task.Order command) = bytes_wanted command
bytes_asked Task.Outside = 0

abbrev pub numbers_asked : Task → ℕ
numbers_asked (Task.Order command) = numbers_wanted command
numbers_asked Task.Outside = 0

-- what all tasks ask for together
abbrev pub all_asked : (Task → ℕ) → Lists → ℕ
all_asked asked lists = sum_by asked lists.a0 + sum_by asked lists.a1 + sum_by asked lists.a2 + sum_by asked lists.a3

-- what the tasks ask for together that are not done
abbrev pub left_asked : (Task → ℕ) → Lists → Counts → ℕ
left_asked asked lists done =
    sum_by asked (drop done.a0 lists.a0) + sum_by asked (drop done.a1 lists.a1) + sum_by asked (drop done.a2 lists.a2)
    + sum_by asked (drop done.a3 lists.a3)
