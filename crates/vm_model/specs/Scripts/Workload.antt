-- The workload that is generated from a number: its commands, one after another, and the line that tells what became of
-- them.
use Rattle.std.specs.Prelude.{◌≡◌, ℕ, zero, suc, ◌+◌, ◌*◌, ◌/◌, ◌%◌, ◌^◌, Bool, true, false, ◌||◌, ◌==◌, List, [], ◌∷◌, ◌++◌, length, codes, if◌then◌else◌}
use Rattle.std.specs.List.{filter}
use Rattle.vm_base.specs.declared.limits.TheConstants.{PAGE}
use Rattle.vm_base.specs.declared.names.VmoName.{VmoName}
use Rattle.vm_base.specs.declared.refusal.Refusal.TheVariants.{HostMemory}
use Rattle.vm_model.specs.Machine.Words.{Command, Reply}
use Rattle.vm_model.specs.declared.command.Command.TheVariants.{VmoCreate, VmoChild, VmoClose, VmoFill, VmoZero, VmoRead}
use Rattle.vm_model.specs.declared.command.ChildKind.TheVariants.{Snapshot}
use Rattle.vm_model.specs.declared.reply.Reply.TheVariants.{Refused}
use Rattle.vm_model.specs.Contents.Content.{Content, used, vmos_of}
use Rattle.vm_model.specs.Language.Text.{field, ok_line}
use Rattle.vm_model.specs.Machine.Machine.{Machine, empty_machine}
use Rattle.vm_model.specs.Machine.MachineStep.{MachineStep}

-- ---- the commands

-- the number that comes after x: one step of a linear congruential generator of 64 bits
unfoldable pub number_after : ℕ → ℕ
number_after x = (x * 6364136223846793005 + 1442695040888963407) % 2 ^ 64

-- the bytes of a VMO of 64 pages
abbrev pub workload_bytes : ℕ
workload_bytes = 64 * PAGE

-- A command of one of eight kinds on the VMO `vmo`, from its page `page` on. A snapshot is one of the VMO `parent`, and
-- a fill is with the byte `byte`.
abbrev pub generated : (kind : ℕ) → (vmo parent : VmoName) → (page byte : ℕ) → Command
generated kind vmo parent page byte =
    if kind == 0 then VmoCreate vmo workload_bytes true
    else if kind == 1 then VmoChild vmo parent Snapshot 0 workload_bytes false false
    else if kind == 2 then VmoClose vmo
    else if (kind == 3) || (kind == 4) then VmoFill vmo (page * PAGE) 100 byte
    else if kind == 5 then VmoFill vmo (page * PAGE) (2 * PAGE) byte
    else if kind == 6 then VmoZero vmo (page * PAGE) PAGE
    else VmoRead vmo (page * PAGE) 16

-- The command that a number gives. Of the number's upper bits it takes the lowest 25, in fields of 3, 4, 4, 6 and 8
-- bits.
unfoldable pub command_for : ℕ → Command
command_for x =
    let h = x / 2 ^ 33 in
    generated (h % 8) (record { 0 = h / 8 % 16 }) (record { 0 = h / 128 % 16 }) (h / 2048 % 64) (h / 131072 % 256)

-- `count` commands, from a number
unfoldable pub workload : (number count : ℕ) → List Command
workload number zero = []
workload number (suc count) = command_for (number_after number) ∷ workload (number_after number) count

-- ---- what becomes of them

-- from old, the commands may give these replies, one each, and lead to new
abbrev pub StepsThrough : Machine → List Command → List Reply → Machine → Type 0
StepsThrough old [] replies new = (replies ≡ []) × (new ≡ old)
StepsThrough old (command ∷ commands) replies new =
    (mid : Machine) × (reply : Reply) × (later : List Reply) × MachineStep old command reply mid × StepsThrough mid commands later new
    × (replies ≡ reply ∷ later)

-- the reply is that the host lacks memory
abbrev pub is_lack : Reply → Bool
is_lack (Refused HostMemory) = true
is_lack reply = false

-- the reply is another refusal
abbrev pub is_refusal : Reply → Bool
is_refusal (Refused HostMemory) = false
is_refusal (Refused refusal) = true
is_refusal reply = false

-- the reply is no refusal
abbrev pub is_success : Reply → Bool
is_success (Refused refusal) = false
is_success reply = true

-- how many replies pass
abbrev pub reply_count : (Reply → Bool) → List Reply → ℕ
reply_count test replies = length (filter test replies)

-- the line that tells how many replies there were of each sort, and how many frames and VMOs are in use at the end
unfoldable pub workload_line : List Reply → Content → List ℕ
workload_line replies c =
    ok_line (field (codes "ok") (reply_count is_success replies) ++ field (codes "refused") (reply_count is_refusal replies)
    ++ field (codes "host") (reply_count is_lack replies) ++ field (codes "used") (used c) ++ field (codes "vmos") (vmos_of c))

-- On a machine with this many frames and nothing else, the workload may lead to last, and is told by this line.
pub record IsWorked (frames number count : ℕ) (line : List ℕ) (last : Machine) : Type 0 where
  pub replies : List Reply
  pub steps : StepsThrough (empty_machine frames) (workload number count) replies last
  pub text : line ≡ workload_line replies last.state.content
