-- What refuses an access through mappings, to those who have a part of the machine.
use Rattle.std.specs.Prelude.{◌≡◌, Option}
use Rattle.vm_base.specs.declared.refusal.Refusal.{Refusal}
use Rattle.vm_model.specs.Machine.Words.{Command}
use Rattle.vm_model.specs.Contents.Content.{Content}
use Rattle.vm_model.specs.Space.AddressSpaces.{Spaces}
use Rattle.vm_model.specs.Machine.State.{State}
use Rattle.vm_model.specs.Machine.Refusals.{refusals, first_of}

-- this is what refuses the command in a state with this content and these address spaces, whatever else it has
abbrev pub IsAccessRefusal : Content → Spaces → Command → Option Refusal → Type 0
IsAccessRefusal c spaces command answer = (s : State) → answer ≡ first_of (refusals (record s { content = c; spaces = spaces }) command)
