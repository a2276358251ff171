-- When each command is refused: conditions in the order of the ranks, each with its refusal.
use Rattle.std.specs.Prelude.{ℕ, ◌+◌, ◌*◌, ◌/◌, ◌%◌, Bool, not, ◌&&◌, ◌||◌, ◌==◌, nat_lt, List, [], ◌∷◌, length, if◌then◌else◌, Option, None, Some, is_some, unwrap_or}
use Rattle.vm_base.specs.Pages.{rounded}
use Rattle.vm_base.specs.declared.limits.TheConstants.{PAGE, VMO_PAGES, PIN_PAGES, DATA_BYTES}
use Rattle.vm_base.specs.declared.refusal.Refusal.{Refusal}
use Rattle.vm_base.specs.declared.refusal.Refusal.TheVariants.{BadHandle, NameInUse, BadState, AccessDenied, InvalidArgs, NotSupported, Unavailable, OutOfRange, BufferTooSmall, NotFound, AlreadyExists, NoResources, NoMemory}
use Rattle.vm_model.specs.Machine.Words.{Command}
use Rattle.vm_model.specs.declared.command.Command.TheVariants.{VmoCreate, VmoChild, VmoClose, VmoSize, VmoSetSize, VmoRead, VmoWrite, VmoFill, VmoCommit, VmoDecommit, VmoZero, VmoPin, VmoUnpin, VmoInfo, RootCreate, VmarAllocate, VmarMap, VmarUnmap, VmarProtect, VmarDestroy, Maps, MemRead, MemWrite, Stat}
use Rattle.vm_model.specs.declared.command.ChildKind.TheVariants.{Snapshot, Slice, Reference}
use Rattle.vm_model.specs.declared.names.NameKind.TheVariants.{Slice as SliceName}
use Rattle.vm_model.specs.declared.space.Entry.{Entry}
use Rattle.vm_model.specs.Contents.Content.{Content, used, pages_of}
use Rattle.vm_model.specs.Contents.Owning.{need, need_each}
use Rattle.vm_model.specs.Contents.Writing.{touched}
use Rattle.vm_model.specs.Contents.Zeroing.{owned_by_zero}
use Rattle.vm_model.specs.Naming.Names.{is_kind, may_decommit}
use Rattle.vm_model.specs.Naming.Pins.{is_pinned, any_pinned}
use Rattle.vm_model.specs.Space.Rights.{has, reading, writing, specific, overwrite, upper_limit, allow_faults}
use Rattle.vm_model.specs.Space.Regions.{region_of, meets_child, cuts_child}
use Rattle.vm_model.specs.Space.Places.{is_free, has_place, is_misplaced, limit_of}
use Rattle.vm_model.specs.Space.Mappings.{lacks_reading, is_mismapped, is_outside, has_hole, forbids}
use Rattle.vm_model.specs.Machine.Access.{pages_shown, access_refusal}
use Rattle.vm_model.specs.declared.names.Target.{Target}
use Rattle.vm_model.specs.Machine.State.{State, is_open, is_given, target_of, koid_of, size_of, place_of, lineage_of, pinned_copies}

-- to own these pages of the VMO of this name takes more frames than are free
abbrev pub lacks_frames : State → ℕ → List ℕ → Bool
lacks_frames s name ps = nat_lt s.content.frames (used s.content + need s.content (koid_of s name) ps)

-- a snapshot of what a name stands for has more copies of pinned pages than there are free frames
abbrev pub lacks_copies : State → Target → ℕ → ℕ → Bool
lacks_copies s target start pages = nat_lt s.content.frames (used s.content + length (pinned_copies s target start pages))

-- the refusals of a change to a range of a name. The change owns these pages of the VMO
abbrev pub change_refusals : State → ℕ → ℕ → ℕ → List ℕ → List (Bool × Refusal)
change_refusals s name offset len owned =
    (not (is_open s name), BadHandle)
    ∷ (not (target_of s name).may_write, AccessDenied)
    ∷ (nat_lt (size_of s name) (offset + len), OutOfRange)
    ∷ (lacks_frames s name owned, NoMemory)
    ∷ []

-- the refusals of a read through mappings that touches these pages of an address space
abbrev pub read_refusals : Content → (ℕ → Option Entry) → List ℕ → List (Bool × Refusal)
read_refusals c entries ps =
    let page_refusal = access_refusal c reading entries ps in
    (is_some page_refusal, unwrap_or page_refusal NotFound)
    ∷ []

-- the refusals of a write through mappings that touches these pages
abbrev pub write_refusals : Content → (ℕ → Option Entry) → List ℕ → List (Bool × Refusal)
write_refusals c entries ps =
    let page_refusal = access_refusal c writing entries ps in
    (is_some page_refusal, unwrap_or page_refusal NotFound)
    ∷ (nat_lt c.frames (used c + need_each c (pages_shown entries ps)), NoMemory)
    ∷ []

-- The refusals of a command. A row may rest on those before it: if a name is not open, the rows behind mean nothing.
abbrev pub refusals : State → Command → List (Bool × Refusal)
refusals s (VmoCreate name size resizable) =
    (is_open s name.0, NameInUse)
    ∷ (nat_lt (VMO_PAGES * PAGE) (rounded size), OutOfRange)
    ∷ []
refusals s (VmoChild name parent Snapshot offset size resizable no_write) =
    (not (is_open s parent.0), BadHandle)
    ∷ (is_open s name.0, NameInUse)
    ∷ (not (offset % PAGE == 0) || (resizable && no_write), InvalidArgs)
    ∷ (nat_lt (VMO_PAGES * PAGE) (offset + rounded size), OutOfRange)
    ∷ (lacks_copies s (target_of s parent.0) (offset / PAGE) (rounded size / PAGE), NoMemory)
    ∷ []
refusals s (VmoChild name parent Slice offset size resizable no_write) =
    (not (is_open s parent.0), BadHandle)
    ∷ (is_open s name.0, NameInUse)
    ∷ (not (offset % PAGE == 0) || (resizable || nat_lt (size_of s parent.0) (offset + rounded size)), InvalidArgs)
    ∷ ((lineage_of s (koid_of s parent.0)).resizable, NotSupported)
    ∷ []
refusals s (VmoChild name parent Reference offset size resizable no_write) =
    (not (is_open s parent.0), BadHandle)
    ∷ (is_open s name.0, NameInUse)
    ∷ (not (offset == 0 && size == 0) || (resizable && (no_write || not (target_of s parent.0).may_resize)), InvalidArgs)
    ∷ (is_kind SliceName (target_of s parent.0).kind, NotSupported)
    ∷ []
refusals s (VmoClose name) = (not (is_open s name.0), BadHandle) ∷ []
refusals s (VmoRead name offset len) =
    (not (is_open s name.0), BadHandle)
    ∷ (nat_lt DATA_BYTES len, InvalidArgs)
    ∷ (nat_lt (size_of s name.0) (offset + len), OutOfRange)
    ∷ []
refusals s (VmoWrite name offset bytes) = change_refusals s name.0 offset (length bytes) (touched (place_of s name.0 offset) (length bytes))
refusals s (VmoFill name offset len byte) = change_refusals s name.0 offset len (touched (place_of s name.0 offset) len)
refusals s (VmoCommit name offset len) = change_refusals s name.0 offset len (touched (place_of s name.0 offset) len)
refusals s (VmoZero name offset len) = change_refusals s name.0 offset len (owned_by_zero s.content (koid_of s name.0) (is_pinned s.pins (koid_of s name.0)) (place_of s name.0 offset) len)
refusals s (VmoDecommit name offset len) =
    (not (is_open s name.0), BadHandle)
    ∷ (not (target_of s name.0).may_write, AccessDenied)
    ∷ (not (offset % PAGE == 0 && len % PAGE == 0), InvalidArgs)
    ∷ (not (may_decommit s.names s.lineage (koid_of s name.0) (lineage_of s (koid_of s name.0))), NotSupported)
    ∷ (nat_lt (size_of s name.0) (offset + len), OutOfRange)
    ∷ (any_pinned s.pins (koid_of s name.0) (place_of s name.0 offset / PAGE) (place_of s name.0 (offset + len) / PAGE), BadState)
    ∷ []
refusals s (VmoSetSize name size) =
    (not (is_open s name.0), BadHandle)
    ∷ (not (target_of s name.0).may_write, AccessDenied)
    ∷ (not (target_of s name.0).may_resize, Unavailable)
    ∷ (nat_lt (VMO_PAGES * PAGE) (rounded size), OutOfRange)
    ∷ (any_pinned s.pins (koid_of s name.0) (rounded size / PAGE) (pages_of s.content (koid_of s name.0)), BadState)
    ∷ []
refusals s (VmoPin pin name offset len) =
    (not (is_open s name.0), BadHandle)
    ∷ (is_some (s.pins pin.0), NameInUse)
    ∷ (not (offset % PAGE == 0 && len % PAGE == 0) || (len == 0 || nat_lt (PIN_PAGES * PAGE) len), InvalidArgs)
    ∷ (nat_lt (size_of s name.0) (offset + len), OutOfRange)
    ∷ (lacks_frames s name.0 (touched (place_of s name.0 offset) len), NoMemory)
    ∷ []
refusals s (VmoUnpin pin) = (not (is_some (s.pins pin.0)), BadHandle) ∷ []
refusals s (VmoSize name) = (not (is_open s name.0), BadHandle) ∷ []
refusals s (VmoInfo name) = (not (is_open s name.0), BadHandle) ∷ []
refusals s (RootCreate region) = (is_given s region.0, NameInUse) ∷ []
refusals s (VmarAllocate region parent offset len flags caps) =
    let above = region_of s.spaces.regions parent.0 in
    let fixed = has flags.0 specific in
    let limited = has flags.0 upper_limit in
    let first = above.first + offset / PAGE in
    let count = rounded len / PAGE in
    (not (is_given s parent.0), BadHandle)
    ∷ (is_given s region.0, NameInUse)
    ∷ (not above.live, BadState)
    ∷ (not (has above.caps.0 caps.0), AccessDenied)
    ∷ (is_misplaced above fixed limited offset len, InvalidArgs)
    ∷ (fixed && not (is_free s.spaces parent.0 first (first + count)), AlreadyExists)
    ∷ (not fixed && not (has_place s.spaces parent.0 count (limit_of above limited offset)), NoResources)
    ∷ []
refusals s (VmarMap region offset name vmo_offset len perm flags) =
    let above = region_of s.spaces.regions region.0 in
    let target = target_of s name.0 in
    let over = has flags.0 overwrite in
    let fixed = has flags.0 specific in
    let limited = has flags.0 upper_limit in
    let first = above.first + offset / PAGE in
    let count = rounded len / PAGE in
    (not (is_given s region.0 && is_open s name.0), BadHandle)
    ∷ (not above.live, BadState)
    ∷ (not (has above.caps.0 perm.0) || (has perm.0 writing && not target.may_write), AccessDenied)
    ∷ (is_mismapped s.spaces region.0 over fixed limited offset vmo_offset len perm.0, InvalidArgs)
    ∷ (nat_lt (VMO_PAGES * PAGE) (vmo_offset + rounded len), OutOfRange)
    ∷ (nat_lt (size_of s name.0) (vmo_offset + rounded len) && (not (has flags.0 allow_faults) || is_kind SliceName target.kind), BufferTooSmall)
    ∷ (fixed && not (is_free s.spaces region.0 first (first + count)), AlreadyExists)
    ∷ (not fixed && (not over && not (has_place s.spaces region.0 count (limit_of above limited offset))), NoResources)
    ∷ []
refusals s (VmarUnmap region addr len) =
    let above = region_of s.spaces.regions region.0 in
    let first = addr / PAGE in
    let count = rounded len / PAGE in
    (not (is_given s region.0), BadHandle)
    ∷ (not above.live, BadState)
    ∷ (is_outside above addr len count || cuts_child s.spaces.regions region.0 first (first + count), InvalidArgs)
    ∷ []
refusals s (VmarProtect region addr len perm) =
    let above = region_of s.spaces.regions region.0 in
    let entries = s.spaces.table above.root.0 in
    let first = addr / PAGE in
    let count = rounded len / PAGE in
    (not (is_given s region.0), BadHandle)
    ∷ (not above.live, BadState)
    ∷ (not (has above.caps.0 perm.0), AccessDenied)
    ∷ (is_outside above addr len count || (meets_child s.spaces.regions region.0 first (first + count) || lacks_reading perm.0), InvalidArgs)
    ∷ (has_hole entries region.0 first (first + count), NotFound)
    ∷ (forbids entries perm.0 first (first + count), AccessDenied)
    ∷ []
refusals s (VmarDestroy region) =
    (not (is_given s region.0), BadHandle)
    ∷ (not (region_of s.spaces.regions region.0).live, BadState)
    ∷ []
refusals s (Maps region) =
    (not (is_given s region.0), BadHandle)
    ∷ (not (region_of s.spaces.regions region.0).live, BadState)
    ∷ []
refusals s (MemRead region addr len) =
    (not (is_given s region.0), BadHandle)
    ∷ (not (region_of s.spaces.regions region.0).live, BadState)
    ∷ (is_some (region_of s.spaces.regions region.0).parent || nat_lt DATA_BYTES len, InvalidArgs)
    ∷ read_refusals s.content (s.spaces.table region.0) (touched addr len)
refusals s (MemWrite region addr bytes) =
    (not (is_given s region.0), BadHandle)
    ∷ (not (region_of s.spaces.regions region.0).live, BadState)
    ∷ (is_some (region_of s.spaces.regions region.0).parent, InvalidArgs)
    ∷ write_refusals s.content (s.spaces.table region.0) (touched addr (length bytes))
refusals s Stat = []

-- the first refusal whose condition holds
abbrev pub first_of : List (Bool × Refusal) → Option Refusal
first_of [] = None
first_of (row ∷ rows) = if row.0 then Some row.1 else first_of rows
