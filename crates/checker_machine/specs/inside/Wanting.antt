-- Whether a command may want memory of the host: nothing refuses it, and it may lack memory.
use Rattle.std.specs.Prelude.{Bool, not, ◌&&◌, is_some}
use Rattle.vm_model.specs.Machine.Words.{Command}
use Rattle.vm_model.specs.Machine.State.{State}
use Rattle.vm_model.specs.Machine.Refusals.{refusals, first_of}
use Rattle.vm_model.specs.Machine.Step.{may_lack_memory}
use Rattle.vm_model.specs.Machine.Machine.{Machine}
use Rattle.vm_model.specs.Machine.MachineStep.{may_want_memory}

-- in this state
abbrev pub may_lack : State → Command → Bool
may_lack s command = not (is_some (first_of (refusals s command))) && may_lack_memory s command

-- in this machine
abbrev pub may_want : Machine → Command → Bool
may_want m command = not (is_some (first_of (refusals m.state command))) && may_want_memory m command
