-- What each command may change of what pages are ready for.
use Rattle.std.specs.Prelude.{ℕ, ◌+◌, ◌*◌, ◌/◌, length}
use Rattle.vm_base.specs.Pages.{rounded}
use Rattle.vm_base.specs.declared.limits.TheConstants.{PAGE}
use Rattle.vm_model.specs.Machine.Words.{Command, Reply}
use Rattle.vm_model.specs.declared.command.Command.TheVariants.{VmoChild, VmoSetSize, VmoWrite, VmoFill, VmoCommit, VmoDecommit, VmoZero, VmoPin, VmarMap, VmarUnmap, VmarProtect, VmarDestroy}
use Rattle.vm_model.specs.declared.command.ChildKind.{ChildKind}
use Rattle.vm_model.specs.declared.command.ChildKind.TheVariants.{Snapshot}
use Rattle.vm_model.specs.declared.names.Target.{Target}
use Rattle.vm_model.specs.declared.reply.Reply.TheVariants.{Address, Refused}
use Rattle.vm_model.specs.declared.space.Region.{Region}
use Rattle.vm_model.specs.Contents.Content.{Content}
use Rattle.vm_model.specs.Contents.Writing.{touched}
use Rattle.vm_model.specs.Space.Regions.{region_of, end_of}
use Rattle.vm_model.specs.Machine.State.{State, target_of, seen_pages}
use Rattle.ready_pages.specs.declared.change.Change.{Change}

-- the pages that a range of `len` bytes of a name touches
abbrev pub range_part : Target → (offset len : ℕ) → Change
range_part target offset len =
    let at = target.first * PAGE + offset in Change.Frames target.koid (at / PAGE) (at / PAGE + length (touched at len))

-- the pages that a snapshot of a part of a name shares with it
abbrev pub shared_part : Content → Target → (offset size : ℕ) → Change
shared_part c target offset size =
    let first = target.first + offset / PAGE in
    Change.Shared target.koid first (first + seen_pages c target (offset / PAGE) (rounded size / PAGE))

-- what a child of this kind changes
abbrev pub change_of_child : ChildKind → Content → Target → (offset size : ℕ) → Change
change_of_child Snapshot c target offset size = shared_part c target offset size
change_of_child kind c target offset size = Change.None

-- the pages of a range of a region
abbrev pub region_part : Region → (addr len : ℕ) → Change
region_part region addr len = Change.Mapped region.root (addr / PAGE) (addr / PAGE + rounded len / PAGE)

-- what a command may change, if nothing refuses it in this state, and this is the reply
abbrev pub change_made : State → Command → Reply → Change
change_made s (VmoChild name parent kind offset size resizable no_write) reply = change_of_child kind s.content (target_of s parent.0) offset size
change_made s (VmoSetSize name size) reply = Change.Past (target_of s name.0).koid (rounded size / PAGE)
change_made s (VmoWrite name offset bytes) reply = range_part (target_of s name.0) offset (length bytes)
change_made s (VmoFill name offset len byte) reply = range_part (target_of s name.0) offset len
change_made s (VmoCommit name offset len) reply = range_part (target_of s name.0) offset len
change_made s (VmoDecommit name offset len) reply = range_part (target_of s name.0) offset len
change_made s (VmoZero name offset len) reply = range_part (target_of s name.0) offset len
change_made s (VmoPin pin name offset len) reply = range_part (target_of s name.0) offset len
change_made s (VmarMap region offset name vmo_offset len perm flags) (Address addr) = region_part (region_of s.spaces.regions region.0) addr len
change_made s (VmarUnmap region addr len) reply = region_part (region_of s.spaces.regions region.0) addr len
change_made s (VmarProtect region addr len perm) reply = region_part (region_of s.spaces.regions region.0) addr len
change_made s (VmarDestroy region) reply = let dying = region_of s.spaces.regions region.0 in Change.Mapped dying.root dying.first (end_of dying)
change_made s command reply = Change.None

-- what a command with this reply may change. A refused command changes nothing
abbrev pub change_after : State → Command → Reply → Change
change_after s command (Refused refusal) = Change.None
change_after s command reply = change_made s command reply
