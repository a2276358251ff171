-- What each command that nothing refuses may change of what is ready, and what it leaves.
use Rattle.std.proofs.Common.{◌≡◌, ℕ, ◌+◌, ◌*◌, ◌/◌, Bool, true, List, length, replicate, Option, None, Some, refl, sym, ap, subst, ◌∙◌, arith}
use Rattle.std.proofs.lemmas.Bool.{not-false}
use Rattle.std.proofs.lemmas.List.{length-replicate}
use Rattle.vm_base.specs.Pages.{rounded}
use Rattle.vm_base.specs.declared.limits.TheConstants.{PAGE}
use Rattle.vm_base.specs.declared.names.Koid.{Koid}
use Rattle.vm_base.proofs.EntryLaws.{some_is}
use Rattle.vm_model.specs.Machine.Words.{Command, Reply}
use Rattle.vm_model.specs.declared.command.Command.TheVariants.{VmoCreate, VmoChild, VmoClose, VmoSetSize, VmoWrite, VmoFill, VmoCommit, VmoDecommit, VmoZero, VmoPin, VmoUnpin, RootCreate, VmarAllocate, VmarMap, VmarUnmap, VmarProtect, VmarDestroy, MemRead, MemWrite}
use Rattle.vm_model.specs.declared.command.ChildKind.TheVariants.{Snapshot, Slice, Reference}
use Rattle.vm_model.specs.declared.reply.Reply.TheVariants.{Done}
use Rattle.vm_model.specs.declared.space.Region.{Region}
use Rattle.vm_model.specs.Contents.Content.{Content, IsGood}
use Rattle.vm_model.specs.Contents.Owning.{OwnsAll}
use Rattle.vm_model.specs.Contents.Sharing.{snapshotted}
use Rattle.vm_model.specs.Contents.Writing.{touched}
use Rattle.vm_model.specs.Contents.Zeroing.{zeroed}
use Rattle.vm_model.specs.declared.space.Entry.{Entry}
use Rattle.vm_model.specs.Space.Readiness.{Ready, settled, unready}
use Rattle.vm_model.specs.Space.Regions.{region_of}
use Rattle.vm_model.specs.Space.AddressSpaces.{Spaces, without_region}
use Rattle.vm_model.specs.Space.Mappings.{entry_of, with_mapping, unmapped}
use Rattle.vm_model.specs.declared.names.Target.{Target}
use Rattle.vm_model.specs.Naming.Pins.{Pin, is_pinned}
use Rattle.vm_model.specs.Machine.State.{State, is_given, target_of, koid_of, place_of, pinned_copies, IsGoodState}
use Rattle.vm_model.specs.Machine.Leaving.{pruned}
use Rattle.vm_model.specs.Machine.Refusals.{refusals, first_of}
use Rattle.vm_model.specs.Machine.Step.{with_vmo, seen_pages, with_snapshot, with_alias, ChangesContent, Effect}
use Rattle.vm_model.specs.Machine.MachineStep.{withdrawn}
use Rattle.vm_model.proofs.RegionLaws.{region_of-at}
use Rattle.vm_model.proofs.StepLaws.{AllOff-from_none}
use Rattle.vmo_ops.proofs.OutsideLaws.{LeavesOthers-owns, ChangesWithin, ChangesWithin-wider, ChangesWithin-zeroed, touched_reaches, ChangesWithin-writes, ChangesWithin-owns, ChangesWithin-zeroes}
use Rattle.region_ops.proofs.CountLaws.{entry_bounds}
use Rattle.ready_pages.specs.declared.change.Change.{Change}
use Rattle.ready_pages.specs.Changes.{Covers, left_ready}
use Rattle.machine.specs.inside.Changes.{change_after}
use Rattle.machine.proofs.StaysLaws.{EntryStays-same, EntryStays-created, EntryStays-copied, EntryStays-pruned, Covers-none, Covers-frames, Covers-resized}
use Rattle.machine.proofs.SpacesLaws.{Covers-mapped, Covers-unmapped, unready-unmapped, Covers-destroyed, unready-destroyed, Covers-protected}

-- The change covers what the command does, and leaves of what is ready what the command does.
pub record Settles (old : State) (command : Command) (reply : Reply) (new : State) (change : Change) : Type 0 where
  pub covers : Covers change old.content new.content old.spaces.table new.spaces.table
  pub leaves : (ready : Ready) → withdrawn old command reply (settled old.content new.content new.spaces.table ready)
      ≡ left_ready change new.pins old.spaces.table (settled old.content new.content new.spaces.table ready)

module _ (old : State) (good : IsGoodState old) where
  -- the reply and the new state are told by equations
  told : (command : Command) {reply answer : Reply} {new after : State} → reply ≡ answer → new ≡ after → Settles old command answer after (change_after old command answer)
      → Settles old command reply new (change_after old command reply)
  told command {reply} {answer} {new} is same settles =
      subst (λ (r : Reply). Settles old command r new (change_after old command r)) (sym is) (subst (λ (s : State). Settles old command answer s (change_after old command answer)) (sym same) settles)

  -- ---- where no entry and no page changes

  pub covers_same : Covers Change.None old.content old.content old.spaces.table old.spaces.table
  covers_same = Covers-none old.content old.content old.spaces.table (λ root p entry e h. EntryStays-same old.content old.content old.spaces.table root p entry e h refl refl)

  -- a name more
  covers_alias : (name : ℕ) (target : Target) → let new = with_alias old name target in Covers Change.None old.content new.content old.spaces.table new.spaces.table
  unfolding with_alias
  covers_alias name target = covers_same

  -- a new VMO
  covers_created : (name pages : ℕ) (resizable : Bool) → let new = with_vmo old name pages resizable in Covers Change.None old.content new.content old.spaces.table new.spaces.table
  unfolding with_vmo
  covers_created name pages resizable = Covers-none old.content _ old.spaces.table (λ root p entry e h. EntryStays-created old.content old.spaces.table root p entry good.content e h pages)

  -- a name or a pin less
  covers_pruned : (s : State) → s.content ≡ old.content → s.spaces ≡ old.spaces → let new = pruned s in Covers Change.None old.content new.content old.spaces.table new.spaces.table
  unfolding pruned
  covers_pruned s content spaces =
      subst (λ (f : Spaces). Covers Change.None old.content (pruned s).content f.table s.spaces.table) spaces
      (subst (λ (c : Content). Covers Change.None c (pruned s).content s.spaces.table s.spaces.table) content
      (Covers-none s.content (pruned s).content s.spaces.table (λ root p entry e h.
      let place = entry_bounds old.content old.spaces good.spaces root p entry (subst (λ (f : Spaces). f.table root p ≡ Some entry) spaces e) in
      EntryStays-pruned s root p entry (subst IsGood (sym content) good.content) place.0 place.1 e h)))

  -- ---- where pages of a VMO change

  -- some pages in a row
  covers_changed : (new : State) (v : Koid) (first end : ℕ) → new.spaces ≡ old.spaces → ChangesWithin v.0 first end old.content new.content
      → Covers (Change.Frames v first end) old.content new.content old.spaces.table new.spaces.table
  covers_changed new v first end same changes =
      subst (λ (spaces : Spaces). Covers (Change.Frames v first end) old.content new.content old.spaces.table spaces.table) (sym same)
      (Covers-frames old.content new.content old.spaces.table v first end changes)

  -- a snapshot, of which some pages are owned
  covers_snapshot : (name : ℕ) (target : Target) (start pages : ℕ) (resizable no_write : Bool) (new : State) (ps : List ℕ) (v : Koid) (first end : ℕ)
      → ChangesContent (with_snapshot old name target start pages resizable no_write) new
      → OwnsAll (with_snapshot old name target start pages resizable no_write).content old.content.next ps new.content
      → Covers (Change.Shared v first end) old.content new.content old.spaces.table new.spaces.table
  unfolding with_snapshot
  covers_snapshot name target start pages resizable no_write new ps v first end change owns =
      let seen = seen_pages old.content target start pages in
      let leaves = LeavesOthers-owns old.content.next ps (snapshotted old.content target.koid.0 (target.first + start) seen pages) new.content owns in
      let spaces : new.spaces ≡ old.spaces = ap (λ (s : State). s.spaces) change in
      subst (λ (f : Spaces). Covers (Change.Shared v first end) old.content new.content old.spaces.table f.table) (sym spaces)
      (record {
        stays = λ root p entry e h out. EntryStays-copied old.content old.spaces.table root p entry good.content e h target.koid.0 (target.first + start) seen pages new.content leaves;
        table = refl;
      })

  pins_snapshot : (name : ℕ) (target : Target) (start pages : ℕ) (resizable no_write : Bool) (new : State)
      → ChangesContent (with_snapshot old name target start pages resizable no_write) new → new.pins ≡ old.pins
  unfolding with_snapshot
  pins_snapshot name target start pages resizable no_write new change = ap (λ (s : State). s.pins) change

  -- a range of a name that changed
  settles_changed : (command : Command) (reply : Reply) (new : State) (v : Koid) (first end : ℕ) → new.spaces ≡ old.spaces → ChangesWithin v.0 first end old.content new.content
      → ((ready : Ready) → withdrawn old command reply ready ≡ ready) → Settles old command reply new (Change.Frames v first end)
  settles_changed command reply new v first end same changes keeps = record { covers = covers_changed new v first end same changes; leaves = λ ready. keeps _ }

  -- ---- where address spaces change

  -- a mapping
  covers_mapped : (above : Region) (first at count : ℕ) (entry : Entry) → first ≡ at → let new = pruned (record old { spaces = with_mapping old.spaces above.root.0 first count entry }) in
      Covers (Change.Mapped above.root at (at + count)) old.content new.content old.spaces.table new.spaces.table
  unfolding pruned
  covers_mapped above first at count entry is =
      subst (λ (n : ℕ). let new = pruned (record old { spaces = with_mapping old.spaces above.root.0 first count entry }) in
      Covers (Change.Mapped above.root n (n + count)) old.content new.content old.spaces.table new.spaces.table) is
      (Covers-mapped old good above.root first count entry)

  -- pages that are unmapped
  covers_unmapped : (name first end : ℕ) → let new = pruned (record old { spaces = unmapped old.spaces name first end }) in
      Covers (Change.Mapped (region_of old.spaces.regions name).root first end) old.content new.content old.spaces.table new.spaces.table
  unfolding pruned
  covers_unmapped name first end = Covers-unmapped old good name first end

  leaves_unmapped : (name first end : ℕ) (ready : Ready) → let new = pruned (record old { spaces = unmapped old.spaces name first end }) in
      let left = settled old.content new.content new.spaces.table ready in left ≡ unready left (region_of old.spaces.regions name).root.0 first end
  unfolding pruned
  leaves_unmapped name first end ready = unready-unmapped old good name first end ready

  -- a region that is destroyed
  covers_destroyed : (name : ℕ) → let dying = region_of old.spaces.regions name in let new = pruned (record old { spaces = without_region old.spaces name }) in
      old.spaces.regions name ≡ Some dying → dying.live ≡ true → Covers (Change.Mapped dying.root dying.first (dying.first + dying.count)) old.content new.content old.spaces.table new.spaces.table
  unfolding pruned
  covers_destroyed name given live = Covers-destroyed old good name given live

  leaves_destroyed : (name : ℕ) → let dying = region_of old.spaces.regions name in let new = pruned (record old { spaces = without_region old.spaces name }) in
      old.spaces.regions name ≡ Some dying → dying.live ≡ true → (ready : Ready)
      → let left = settled old.content new.content new.spaces.table ready in left ≡ unready left dying.root.0 dying.first (dying.first + dying.count)
  unfolding pruned
  leaves_destroyed name given live ready = unready-destroyed old good name given live ready

  -- ---- each command

  -- what changes, and what is left, after each command
  pub effect_settles : (command : Command) (reply : Reply) (new : State) → first_of (refusals old command) ≡ None → Effect old command reply new
      → Settles old command reply new (change_after old command reply)
  effect_settles (VmoCreate name size resizable) reply new none effect =
      told (VmoCreate name size resizable) effect.0 effect.1 (record { covers = covers_created name.0 (rounded size / PAGE) resizable; leaves = λ ready. refl })
  effect_settles (VmoChild name parent Snapshot offset size resizable no_write) reply new none effect =
      told (VmoChild name parent Snapshot offset size resizable no_write) effect.0 refl (record {
        covers = covers_snapshot name.0 (target_of old parent.0) (offset / PAGE) (rounded size / PAGE) resizable no_write new
            (pinned_copies old (target_of old parent.0) (offset / PAGE) (rounded size / PAGE)) _ _ _ effect.1 effect.2;
        leaves = λ ready.
            ap (λ (pins : ℕ → Option Pin). left_ready (change_after old (VmoChild name parent Snapshot offset size resizable no_write) Done) pins old.spaces.table
            (settled old.content new.content new.spaces.table ready)) (sym (pins_snapshot name.0 (target_of old parent.0) (offset / PAGE) (rounded size / PAGE) resizable no_write new effect.1));
      })
  effect_settles (VmoChild name parent Slice offset size resizable no_write) reply new none effect =
      told (VmoChild name parent Slice offset size resizable no_write) effect.0 effect.1 (record { covers = covers_alias name.0 _; leaves = λ ready. refl })
  effect_settles (VmoChild name parent Reference offset size resizable no_write) reply new none effect =
      told (VmoChild name parent Reference offset size resizable no_write) effect.0 effect.1 (record { covers = covers_alias name.0 _; leaves = λ ready. refl })
  effect_settles (VmoClose name) reply new none effect = told (VmoClose name) effect.0 effect.1 (record { covers = covers_pruned _ refl refl; leaves = λ ready. refl })
  effect_settles (VmoWrite name offset bytes) reply new none effect =
      told (VmoWrite name offset bytes) effect.0 refl (settles_changed (VmoWrite name offset bytes) _ new _ _ _ (ap (λ (s : State). s.spaces) effect.1)
      (ChangesWithin-writes (koid_of old name.0) (place_of old name.0 offset) bytes old.content new.content effect.2) (λ ready. refl))
  effect_settles (VmoFill name offset len byte) reply new none effect =
      told (VmoFill name offset len byte) effect.0 refl (settles_changed (VmoFill name offset len byte) _ new _ _ _ (ap (λ (s : State). s.spaces) effect.1)
      (subst (λ (n : ℕ). ChangesWithin (koid_of old name.0) (place_of old name.0 offset / PAGE) (place_of old name.0 offset / PAGE + length (touched (place_of old name.0 offset) n)) old.content new.content)
      (length-replicate len byte) (ChangesWithin-writes (koid_of old name.0) (place_of old name.0 offset) (replicate len byte) old.content new.content effect.2)) (λ ready. refl))
  effect_settles (VmoCommit name offset len) reply new none effect =
      told (VmoCommit name offset len) effect.0 refl (settles_changed (VmoCommit name offset len) _ new _ _ _ (ap (λ (s : State). s.spaces) effect.1)
      (ChangesWithin-owns (koid_of old name.0) (place_of old name.0 offset) len old.content new.content effect.2) (λ ready. refl))
  effect_settles (VmoDecommit name offset len) reply new none effect =
      let v = koid_of old name.0 in
      let place = place_of old name.0 offset in
      let end = place_of old name.0 (offset + len) / PAGE in
      told (VmoDecommit name offset len) effect.0 effect.1
      (settles_changed (VmoDecommit name offset len) _ (record old { content = zeroed old.content v (place / PAGE) end }) _ _ _ refl
      (ChangesWithin-wider v (place / PAGE) (place / PAGE + length (touched place len)) (place / PAGE) end old.content (zeroed old.content v (place / PAGE) end) (omega arith)
      (omega (arith, touched_reaches place len)) (ChangesWithin-zeroed v (place / PAGE) end old.content)) (λ ready. refl))
  effect_settles (VmoZero name offset len) reply new none effect =
      told (VmoZero name offset len) effect.0 refl (settles_changed (VmoZero name offset len) _ new _ _ _ (ap (λ (s : State). s.spaces) effect.1)
      (ChangesWithin-zeroes (koid_of old name.0) (is_pinned old.pins (koid_of old name.0)) (place_of old name.0 offset) len old.content new.content effect.2) (λ ready. refl))
  effect_settles (VmoSetSize name size) reply new none effect =
      told (VmoSetSize name size) effect.0 effect.1
      (record { covers = Covers-resized old.content old.spaces.table (target_of old name.0).koid (rounded size / PAGE) good.content; leaves = λ ready. refl })
  effect_settles (VmoPin pin name offset len) reply new none effect =
      told (VmoPin pin name offset len) effect.0 refl (settles_changed (VmoPin pin name offset len) _ new _ _ _ (ap (λ (s : State). s.spaces) effect.1)
      (ChangesWithin-owns (koid_of old name.0) (place_of old name.0 offset) len old.content new.content effect.2) (λ ready. refl))
  effect_settles (VmoUnpin pin) reply new none effect = told (VmoUnpin pin) effect.0 effect.1 (record { covers = covers_pruned _ refl refl; leaves = λ ready. refl })
  effect_settles (RootCreate region) reply new none effect = told (RootCreate region) effect.0 effect.1 (record { covers = covers_same; leaves = λ ready. refl })
  effect_settles (VmarAllocate region parent offset len flags caps) reply new none effect =
      told (VmarAllocate region parent offset len flags caps) effect.1 effect.3 (record { covers = covers_same; leaves = λ ready. refl })
  effect_settles (VmarMap region offset name vmo_offset len perm flags) reply new none effect =
      let above = region_of old.spaces.regions region.0 in
      let first = effect.0 in
      let place : first ≡ first * PAGE / PAGE = omega arith in
      told (VmarMap region offset name vmo_offset len perm flags) effect.1 effect.3 (record {
        covers = covers_mapped above first (first * PAGE / PAGE) (rounded len / PAGE) (entry_of above region.0 (target_of old name.0) (vmo_offset / PAGE) perm) place;
        leaves = λ ready. refl;
      })
  effect_settles (VmarUnmap region addr len) reply new none effect =
      told (VmarUnmap region addr len) effect.0 effect.1 (record {
        covers = covers_unmapped region.0 (addr / PAGE) (addr / PAGE + rounded len / PAGE);
        leaves = leaves_unmapped region.0 (addr / PAGE) (addr / PAGE + rounded len / PAGE);
      })
  effect_settles (VmarProtect region addr len perm) reply new none effect =
      told (VmarProtect region addr len perm) effect.0 effect.1
      (record { covers = Covers-protected old good (region_of old.spaces.regions region.0).root (addr / PAGE) (addr / PAGE + rounded len / PAGE) perm; leaves = λ ready. refl })
  effect_settles (VmarDestroy region) reply new none effect =
      let off = AllOff-from_none (refusals old (VmarDestroy region)) none in
      let there = some_is (old.spaces.regions region.0) (not-false (is_given old region.0) off.0) in
      let given : old.spaces.regions region.0 ≡ Some (region_of old.spaces.regions region.0) =
      there.1 ∙ ap (λ (r : Region). Some r) (sym (region_of-at old.spaces.regions region.0 there.0 there.1)) in
      let live = not-false (region_of old.spaces.regions region.0).live off.1.0 in
      told (VmarDestroy region) effect.0 effect.1 (record { covers = covers_destroyed region.0 given live; leaves = leaves_destroyed region.0 given live })
  effect_settles (MemRead region addr len) reply new none effect = absurd effect
  effect_settles (MemWrite region addr bytes) reply new none effect = absurd effect
  -- a command that only asks
  effect_settles command reply new none effect = told command effect.0 effect.1 (record { covers = covers_same; leaves = λ ready. refl })
