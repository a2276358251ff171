-- One step of the machine's state: a command is refused, or it has its effect, or the host lacks memory for it.
use Rattle.std.specs.Prelude.{◌≡◌, ℕ, ◌+◌, ◌*◌, ◌/◌, Bool, true, false, not, List, length, map, replicate, Option, None, Some, Result, ◌⊎◌, ◌&&◌}
use Rattle.std.specs.declared.result.Result.TheVariants.{Ok, Err}
use Rattle.std.specs.List.{list_any, range_with_len}
use Rattle.vm_base.specs.Pages.{rounded}
use Rattle.vm_base.specs.declared.limits.TheConstants.{PAGE}
use Rattle.vm_base.specs.declared.refusal.Refusal.{Refusal}
use Rattle.vm_base.specs.declared.refusal.Refusal.TheVariants.{HostMemory}
use Rattle.vm_model.specs.Machine.Words.{Command, Reply}
use Rattle.vm_model.specs.declared.command.Command.TheVariants.{VmoCreate, VmoChild, VmoClose, VmoSize, VmoSetSize, VmoRead, VmoWrite, VmoFill, VmoCommit, VmoDecommit, VmoZero, VmoPin, VmoUnpin, VmoInfo, RootCreate, VmarAllocate, VmarMap, VmarUnmap, VmarProtect, VmarDestroy, Maps, MemRead, MemWrite, Stat}
use Rattle.vm_model.specs.declared.command.ChildKind.TheVariants.{Snapshot as SnapshotChild, Slice as SliceChild, Reference as ReferenceChild}
use Rattle.vm_model.specs.declared.names.NameKind.TheVariants.{Slice, Reference}
use Rattle.vm_model.specs.declared.names.Origin.TheVariants.{Created, Snapshot}
use Rattle.vm_model.specs.declared.reply.Reply.TheVariants.{Done, Number, Bytes, Pins, Address, Info as InfoReply, Runs as RunsReply, Stat as StatReply, Refused}
use Rattle.vm_model.specs.Contents.Content.{Content, Page, created, is_held, sole}
use Rattle.vm_model.specs.Contents.Owning.{OwnsAll}
use Rattle.vm_model.specs.Contents.Sharing.{snapshotted}
use Rattle.vm_model.specs.Contents.Writing.{touched, bytes_in, pieces, Writes}
use Rattle.vm_model.specs.Contents.Zeroing.{zeroed, resized, Zeroes}
use Rattle.vm_base.specs.Entries.{with_key, without_key}
use Rattle.vm_model.specs.declared.names.Target.{Target}
use Rattle.vm_model.specs.Naming.Names.{owner}
use Rattle.vm_model.specs.Naming.Pins.{Pin, is_pinned}
use Rattle.vm_model.specs.Space.Rights.{has, specific, overwrite, upper_limit}
use Rattle.vm_model.specs.Space.Regions.{root_region, region_of, end_of, region_below}
use Rattle.vm_model.specs.Space.AddressSpaces.{with_region, without_region}
use Rattle.vm_model.specs.Space.Places.{IsPlace}
use Rattle.vm_model.specs.Space.Mappings.{entry_of, with_mapping, IsMapPlace, unmapped, protected, is_mapped_in, runs_of}
use Rattle.vm_model.specs.Machine.State.{State, target_of, koid_of, size_of, place_of, pinned_copies}
pub use Rattle.vm_model.specs.Machine.State.{seen_pages}
use Rattle.vm_model.specs.Machine.Leaving.{pruned}
use Rattle.vm_model.specs.Machine.Attribution.{info_at, stat_of}
use Rattle.vm_model.specs.Machine.Refusals.{refusals, first_of}

-- a new VMO of zero pages, and its name
unfoldable pub with_vmo : State → ℕ → ℕ → Bool → State
with_vmo s name pages resizable = record s {
  content = created s.content pages;
  names = with_key s.names name (owner s.content.next true resizable);
  lineage = with_key s.lineage s.content.next (record { resizable = resizable; origin = Created; parent = None });
}

-- A snapshot of what a name stands for, from the name's page `start` on, and the snapshot's name. Pages past the end of
-- the name are zero, also if the name's VMO grows later.
unfoldable pub with_snapshot : State → ℕ → Target → ℕ → ℕ → Bool → Bool → State
with_snapshot s name target start pages resizable no_write = record s {
  content = snapshotted s.content target.koid.0 (target.first + start) (seen_pages s.content target start pages) pages;
  names = with_key s.names name (owner s.content.next (not no_write) resizable);
  lineage = with_key s.lineage s.content.next (record { resizable = resizable; origin = Snapshot; parent = Some target.koid.0 });
}

-- a part of what a name stands for, from the name's page `start` on. The part keeps its size
abbrev pub slice_of : Target → ℕ → ℕ → Bool → Target
slice_of target start pages no_write = record {
  koid = target.koid;
  first = target.first + start;
  limit = Some pages;
  kind = Slice;
  may_write = target.may_write && not no_write;
  may_resize = false;
}

-- all of the VMO that a name stands for, under another name
abbrev pub reference_of : Target → Bool → Bool → Target
reference_of target resizable no_write = record {
  koid = target.koid;
  first = 0;
  limit = None;
  kind = Reference;
  may_write = target.may_write && not no_write;
  may_resize = resizable;
}

-- one name more for a VMO that is there
unfoldable pub with_alias : State → ℕ → Target → State
with_alias s name target = record s { names = with_key s.names name target }

-- the pages of a range of a name, as those of a pin
abbrev pub pin_at : State → ℕ → ℕ → ℕ → Pin
pin_at s name offset len = record { koid = koid_of s name; first = place_of s name offset / PAGE; count = len / PAGE }

-- the frame of a page. If the page has none, this means nothing
unfoldable pub frame_of : Option Page → ℕ
frame_of None = 0
frame_of (Some held) = held.tag

-- the frames of the pages of a pin, in ascending order of the pages
abbrev pub frames_of : Content → Pin → List ℕ
frames_of c pin = map (λ p. frame_of (c.page pin.koid p)) (range_with_len pin.first pin.count)

-- nothing but the content changes
abbrev pub ChangesContent : State → State → Type 0
ChangesContent old new = new ≡ record old { content = new.content }

-- What a command does if nothing refuses it. If it makes a snapshot, the snapshot then owns its copies of pinned pages,
-- so that the pinned pages keep their frames for themselves.
abbrev pub Effect : State → Command → Reply → State → Type 0
Effect old (VmoCreate name size resizable) reply new =
    (reply ≡ Done) × (new ≡ with_vmo old name.0 (rounded size / PAGE) resizable)
Effect old (VmoChild name parent SnapshotChild offset size resizable no_write) reply new =
    let snapshot = with_snapshot old name.0 (target_of old parent.0) (offset / PAGE) (rounded size / PAGE) resizable no_write in
    (reply ≡ Done) × ChangesContent snapshot new
    × OwnsAll snapshot.content old.content.next (pinned_copies old (target_of old parent.0) (offset / PAGE) (rounded size / PAGE)) new.content
Effect old (VmoChild name parent SliceChild offset size resizable no_write) reply new =
    (reply ≡ Done) × (new ≡ with_alias old name.0 (slice_of (target_of old parent.0) (offset / PAGE) (rounded size / PAGE) no_write))
Effect old (VmoChild name parent ReferenceChild offset size resizable no_write) reply new =
    (reply ≡ Done) × (new ≡ with_alias old name.0 (reference_of (target_of old parent.0) resizable no_write))
Effect old (VmoClose name) reply new =
    (reply ≡ Done) × (new ≡ pruned (record old { names = without_key old.names name.0 }))
Effect old (VmoRead name offset len) reply new =
    (reply ≡ Bytes (bytes_in old.content (koid_of old name.0) (place_of old name.0 offset) len)) × (new ≡ old)
Effect old (VmoWrite name offset bytes) reply new =
    (reply ≡ Done) × ChangesContent old new × Writes old.content (pieces (koid_of old name.0) (place_of old name.0 offset) bytes) new.content
Effect old (VmoFill name offset len byte) reply new =
    (reply ≡ Done) × ChangesContent old new × Writes old.content (pieces (koid_of old name.0) (place_of old name.0 offset) (replicate len byte)) new.content
Effect old (VmoCommit name offset len) reply new =
    (reply ≡ Done) × ChangesContent old new × OwnsAll old.content (koid_of old name.0) (touched (place_of old name.0 offset) len) new.content
Effect old (VmoDecommit name offset len) reply new =
    (reply ≡ Done) × (new ≡ record old { content = zeroed old.content (koid_of old name.0) (place_of old name.0 offset / PAGE) (place_of old name.0 (offset + len) / PAGE) })
Effect old (VmoZero name offset len) reply new =
    (reply ≡ Done) × ChangesContent old new
    × Zeroes old.content (koid_of old name.0) (is_pinned old.pins (koid_of old name.0)) (place_of old name.0 offset) len (touched (place_of old name.0 offset) len) new.content
Effect old (VmoSetSize name size) reply new =
    (reply ≡ Done) × (new ≡ record old { content = resized old.content (koid_of old name.0) (rounded size / PAGE) })
Effect old (VmoPin pin name offset len) reply new =
    (reply ≡ Pins (frames_of new.content (pin_at old name.0 offset len)))
    × (new ≡ record old { content = new.content; pins = with_key old.pins pin.0 (pin_at old name.0 offset len) })
    × OwnsAll old.content (koid_of old name.0) (touched (place_of old name.0 offset) len) new.content
Effect old (VmoUnpin pin) reply new =
    (reply ≡ Done) × (new ≡ pruned (record old { pins = without_key old.pins pin.0 }))
Effect old (VmoSize name) reply new = (reply ≡ Number (size_of old name.0)) × (new ≡ old)
Effect old (VmoInfo name) reply new = (reply ≡ InfoReply (info_at old (target_of old name.0))) × (new ≡ old)
Effect old (RootCreate region) reply new =
    (reply ≡ Done) × (new ≡ record old { spaces = with_region old.spaces region.0 (root_region region.0) })
Effect old (VmarAllocate region parent offset len flags caps) reply new =
    (first : ℕ) × (reply ≡ Address (first * PAGE))
    × IsPlace old.spaces parent.0 (has flags.0 specific) (has flags.0 upper_limit) offset (rounded len / PAGE) first
    × (new ≡ record old { spaces = with_region old.spaces region.0 (region_below parent.0 (region_of old.spaces.regions parent.0) first (rounded len / PAGE) caps.0) })
Effect old (VmarMap region offset name vmo_offset len perm flags) reply new =
    let above = region_of old.spaces.regions region.0 in
    let count = rounded len / PAGE in
    (first : ℕ) × (reply ≡ Address (first * PAGE))
    × IsMapPlace old.spaces region.0 (has flags.0 overwrite) (has flags.0 specific) (has flags.0 upper_limit) offset count first
    × (new ≡ pruned (record old { spaces = with_mapping old.spaces above.root.0 first count (entry_of above region.0 (target_of old name.0) (vmo_offset / PAGE) perm) }))
Effect old (VmarUnmap region addr len) reply new =
    (reply ≡ Done) × (new ≡ pruned (record old { spaces = unmapped old.spaces region.0 (addr / PAGE) (addr / PAGE + rounded len / PAGE) }))
Effect old (VmarProtect region addr len perm) reply new =
    (reply ≡ Done)
    × (new ≡ record old { spaces = protected old.spaces (region_of old.spaces.regions region.0).root.0 (addr / PAGE) (addr / PAGE + rounded len / PAGE) perm })
Effect old (Maps region) reply new =
    let above = region_of old.spaces.regions region.0 in
    (reply ≡ RunsReply (runs_of (old.spaces.table above.root.0) above.count above.first)) × (new ≡ old)
Effect old (VmarDestroy region) reply new =
    (reply ≡ Done) × (new ≡ pruned (record old { spaces = without_region old.spaces region.0 }))
Effect old Stat reply new = (reply ≡ StatReply (stat_of old.content)) × (new ≡ old)
-- an access through mappings is a step of the whole machine, and none of the state alone
Effect old (MemRead region addr len) reply new = ⊥
Effect old (MemWrite region addr bytes) reply new = ⊥

-- some page that the range of a name touches in its VMO passes
abbrev pub touches_any : State → ℕ → ℕ → ℕ → (ℕ → Bool) → Bool
touches_any s name offset len test = list_any test (touched (place_of s name offset) len)

-- some page of the address space of this region, from `first` to below `end`, is mapped
abbrev pub maps_any : State → ℕ → ℕ → ℕ → Bool
maps_any s region first end = is_mapped_in (s.spaces.table (region_of s.spaces.regions region).root.0) first end

-- The command may want memory of the host in this state. It wants memory to own pages only if a touched page is not
-- sole, to make pages zero only if a touched page is held, and to unmap or list mappings only if a page of the range is
-- mapped.
abbrev pub may_lack_memory : State → Command → Bool
may_lack_memory s (VmoCreate name size resizable) = true
may_lack_memory s (VmoChild name parent kind offset size resizable no_write) = true
may_lack_memory s (VmoPin pin name offset len) = true
may_lack_memory s (RootCreate region) = true
may_lack_memory s (VmarAllocate region parent offset len flags caps) = true
may_lack_memory s (VmarMap region offset name vmo_offset len perm flags) = true
may_lack_memory s (VmarUnmap region addr len) = maps_any s region.0 (addr / PAGE) (addr / PAGE + rounded len / PAGE)
may_lack_memory s (VmarProtect region addr len perm) = true
may_lack_memory s (Maps region) = maps_any s region.0 (region_of s.spaces.regions region.0).first (end_of (region_of s.spaces.regions region.0))
may_lack_memory s (VmoWrite name offset bytes) = touches_any s name.0 offset (length bytes) (λ p. not (sole s.content (koid_of s name.0) p))
may_lack_memory s (VmoFill name offset len byte) = touches_any s name.0 offset len (λ p. not (sole s.content (koid_of s name.0) p))
may_lack_memory s (VmoCommit name offset len) = touches_any s name.0 offset len (λ p. not (sole s.content (koid_of s name.0) p))
may_lack_memory s (VmoZero name offset len) = touches_any s name.0 offset len (is_held s.content (koid_of s name.0))
may_lack_memory s (VmoDecommit name offset len) = touches_any s name.0 offset len (is_held s.content (koid_of s name.0))
may_lack_memory s _ = false

-- what a call answers, as a reply of the machine
abbrev pub reply_of : {A : Type 0} → (A → Reply) → Result A Refusal → Reply
reply_of done (Ok a) = done a
reply_of done (Err refusal) = Refused refusal

-- nothing changes, and the reply is this refusal
pub record IsRefused {S : Type 0} (old : S) (refusal : Refusal) (reply : Reply) (new : S) : Type 0 where
  pub answer : reply ≡ Refused refusal
  pub same : new ≡ old

abbrev pub StepAfter : Option Refusal → State → Command → Reply → State → Type 0
StepAfter (Some refusal) old command reply new = IsRefused old refusal reply new
StepAfter None old command reply new =
    Effect old command reply new ⊎ (IsRefused old HostMemory reply new × (may_lack_memory old command ≡ true))

-- From old, the state of the machine may go on to new with this reply to the command.
pub record Step (old : State) (command : Command) (reply : Reply) (new : State) : Type 0 where
  pub outcome : StepAfter (first_of (refusals old command)) old command reply new
