-- Laws of the step: a good state stays good.
use Rattle.std.proofs.Common.{◌≡◌, ℕ, ◌+◌, ◌*◌, ◌/◌, ◌%◌, ◌<◌, ◌≤◌, ◌==◌, Bool, true, false, not, cond, ◌&&◌, ◌||◌, List, [], ◌∷◌, length, replicate, Option, None, Some, refl, sym, ap, subst, ◌∙◌, inl, inr, arith}
use Rattle.std.specs.Prelude.{nat_lt, unwrap_or, IsSome, is_some}
use Rattle.std.specs.List.{AllByRecursion}
use Rattle.std.proofs.lemmas.Bool.{ltb-false, eqb-true, eqb-false, not-false, and_cases, and_parts, or_parts, both_ways}
use Rattle.std.proofs.lemmas.List.{length-replicate}
use Rattle.vm_base.specs.Pages.{rounded}
use Rattle.vm_base.specs.declared.limits.TheConstants.{PAGE, VMO_PAGES, PIN_PAGES}
use Rattle.vm_base.specs.declared.refusal.Refusal.{Refusal}
use Rattle.vm_model.specs.Machine.Words.{Command, Reply}
use Rattle.vm_model.specs.declared.command.Command.TheVariants.{VmoCreate, VmoChild, VmoClose, VmoSetSize, VmoWrite, VmoFill, VmoCommit, VmoDecommit, VmoZero, VmoPin, VmoUnpin, RootCreate, VmarAllocate, VmarMap, VmarUnmap, VmarProtect, VmarDestroy, MemRead, MemWrite}
use Rattle.vm_model.specs.declared.command.ChildKind.TheVariants.{Snapshot as SnapshotChild, Slice as SliceChild, Reference as ReferenceChild}
use Rattle.vm_model.specs.Contents.Content.{nothing, pages_of}
use Rattle.vm_model.specs.Contents.Writing.{touched}
use Rattle.vm_model.specs.Contents.Zeroing.{owned_by_zero}
use Rattle.vm_model.specs.declared.names.Target.{Target}
use Rattle.vm_model.specs.Naming.Pins.{is_pinned}
use Rattle.vm_model.specs.declared.space.Region.{Region}
use Rattle.vm_model.specs.Space.Rights.{has, specific, overwrite, upper_limit}
use Rattle.vm_model.specs.Space.Regions.{root_region, region_of, region_below}
use Rattle.vm_model.specs.Space.AddressSpaces.{without_region}
use Rattle.vm_model.specs.Space.Mappings.{entry_of, with_mapping, unmapped, protected}
use Rattle.vm_model.specs.Machine.State.{State, empty_state, is_open, is_given, target_of, koid_of, name_pages, size_of, place_of, IsGoodName, IsGoodState}
use Rattle.vm_model.specs.Machine.Refusals.{lacks_frames, change_refusals, refusals, first_of}
use Rattle.vm_model.specs.Language.Spelling.{HasRanges}
use Rattle.vm_model.specs.Machine.Given.{GivesName}
use Rattle.vm_model.specs.Machine.Step.{slice_of, reference_of, Effect, may_lack_memory, StepAfter, Step}
use Rattle.vm_model.specs.declared.reply.Reply.TheVariants.{Refused}
use Rattle.vm_base.specs.declared.refusal.Refusal.TheVariants.{HostMemory}
use Rattle.vm_model.proofs.ContentLaws.{IsGood-nothing}
use Rattle.vm_base.proofs.EntryLaws.{some_is, none_is}
use Rattle.vm_model.proofs.NamesLaws.{names-open}
use Rattle.vm_model.proofs.LeavingLaws.{name_vmo}
use Rattle.vm_model.proofs.SpaceLaws.{AreGoodSpaces-none, AreGoodSpaces-root, AreGoodSpaces-child, AreGoodSpaces-without}
use Rattle.vm_model.proofs.RegionLaws.{region_of-at}
use Rattle.vm_model.proofs.LeavingLaws.{Loosens-spaces}
use Rattle.vm_model.proofs.MappingLaws.{cap_of-has, mismapped_parts, map_place, AreGoodSpaces-mapping, AreGoodSpaces-unmapped, AreGoodSpaces-protected, is_mapped-protected}
use Rattle.vm_model.proofs.KeepLaws.{loose_keeps, spaces_keeps, region_keeps, Keeps-same, slice_good, reference_good, snapshot_keeps, alias_keeps, close_keeps, unpin_keeps, write_keeps, commit_keeps, zero_range_keeps, zero_keeps, pin_keeps, resize_keeps}
pub use Rattle.vm_model.proofs.KeepLaws.{Keeps, lineage_below, create_keeps, kept_keeps}

-- the name that a command gives is one that there is, where the fields of the command are within their types
pub GivesName-from : (command : Command) → HasRanges command → GivesName command
GivesName-from (VmoCreate name size resizable) h = h.0
GivesName-from (VmoChild name parent kind offset size resizable no_write) h = h.0
GivesName-from (VmoPin pin name offset len) h = h.0
GivesName-from (RootCreate region) h = h
GivesName-from (VmarAllocate region parent offset len flags caps) h = h.0
GivesName-from _ h = tt

-- ---- rows that do not refuse

-- no row's condition holds
abbrev pub AllOff : List (Bool × Refusal) → Type 0
AllOff rows = AllByRecursion (λ row. row.0 ≡ false) rows

-- where nothing refuses, no condition holds
pub AllOff-from_none : (rows : List (Bool × Refusal)) → first_of rows ≡ None → AllOff rows
AllOff-from_none [] e = tt
AllOff-from_none (row ∷ rows) e = let parts = split row.0 (first_of rows) e in (parts.0, AllOff-from_none rows parts.1) where
  split : (condition : Bool) (rest : Option Refusal) → cond condition (Some row.1) rest ≡ None → (condition ≡ false) × (rest ≡ None)
  split true rest f = absurd cc
  split false rest f = (refl, f)

-- ---- steps

-- where nothing refuses, the effect is a step
pub Step-done : (old : State) (command : Command) (reply : Reply) (new : State) → first_of (refusals old command) ≡ None → Effect old command reply new → Step old command reply new
Step-done old command reply new none effect = record { outcome = subst (λ (o : Option Refusal). StepAfter o old command reply new) (sym none) (inl effect) }

-- and so is want of memory, where the command may want it
pub Step-lacks : (old : State) (command : Command) → first_of (refusals old command) ≡ None → may_lack_memory old command ≡ true → Step old command (Refused HostMemory) old
Step-lacks old command none may =
    record { outcome = subst (λ (o : Option Refusal). StepAfter o old command (Refused HostMemory) old) (sym none) (inr (record { answer = refl; same = refl }, may)) }

-- ---- places

-- what lies inside a good name lies inside its VMO
pub part_inside : (s : State) (target : Target) (offset len : ℕ) → IsGoodName s target → offset + len ≤ name_pages s.content target * PAGE → target.first * PAGE + offset + len ≤ pages_of s.content target.koid.0 * PAGE
part_inside s target offset len good h = go target.limit refl h where
  go : (o : Option ℕ) → target.limit ≡ o → offset + len ≤ unwrap_or o (pages_of s.content target.koid.0) * PAGE → target.first * PAGE + offset + len ≤ pages_of s.content target.koid.0 * PAGE
  go None e l = omega (arith, good.whole e)
  go (Some n) e l = omega (arith, (good.part n e).2)

-- a range inside a name that is open, at its place inside the VMO
pub place_inside : (s : State) (n : ℕ) (target : Target) (offset len : ℕ) → IsGoodState s → s.names n ≡ Some target → offset + len ≤ size_of s n → place_of s n offset + len ≤ pages_of s.content (koid_of s n) * PAGE
place_inside s n target offset len good e h =
    part_inside s (target_of s n) offset len (good.names n (target_of s n) (names-open s n (ap is_some e))).1 h

-- ---- a change of a range

-- what holds where nothing refuses a change to a range of a name
pub change_parts : (s : State) (name offset len : ℕ) (owned : List ℕ) → first_of (change_refusals s name offset len owned) ≡ None
    → IsSome (s.names name) × ((target_of s name).may_write ≡ true) × (offset + len ≤ size_of s name) × (lacks_frames s name owned ≡ false)
change_parts s name offset len owned none =
    let off = AllOff-from_none (change_refusals s name offset len owned) none in
    (not-false (is_open s name) off.0, not-false (target_of s name).may_write off.1.0, ltb-false (size_of s name) (offset + len) off.1.1.0, off.1.1.1.0)

-- the range lies inside the VMO then
pub change_inside : (s : State) (name offset len : ℕ) (owned : List ℕ) → IsGoodState s → first_of (change_refusals s name offset len owned) ≡ None → place_of s name offset + len ≤ pages_of s.content (koid_of s name) * PAGE
change_inside s name offset len owned good none =
    let parts = change_parts s name offset len owned none in
    place_inside s name (target_of s name) offset len good (names-open s name parts.0) parts.2

-- ---- arguments

-- where a change of size is asked for and not refused, the parent's name may change it
may_resize_too : (resizable no_write may : Bool) → (resizable && (no_write || not may)) ≡ false → resizable ≡ true → may ≡ true
may_resize_too resizable no_write may off e = elim (and_cases resizable (no_write || not may) off) [
  | inl none ↦ absurd (both_ways resizable none e)
  | inr rest ↦ not-false may (or_parts no_write (not may) rest).1
]

-- what holds of a range that may be pinned: it is some whole pages, and not too many
pin_range : (offset len : ℕ) → (not (offset % PAGE == 0 && len % PAGE == 0) || (len == 0 || nat_lt (PIN_PAGES * PAGE) len)) ≡ false
    → (offset % PAGE ≡ 0) × (len % PAGE ≡ 0) × (0 < len) × (len ≤ PIN_PAGES * PAGE)
pin_range offset len off =
    let begins = offset % PAGE == 0 in
    let whole = len % PAGE == 0 in
    let empty = len == 0 in
    let large = nat_lt (PIN_PAGES * PAGE) len in
    let parts = or_parts (not (begins && whole)) (empty || large) off in
    let aligned = and_parts begins whole (not-false (begins && whole) parts.0) in
    let sizes = or_parts empty large parts.1 in
    let apart = eqb-false len 0 sizes.0 in
    (eqb-true (offset % PAGE) 0 aligned.0, eqb-true (len % PAGE) 0 aligned.1, omega arith, ltb-false (PIN_PAGES * PAGE) len sizes.1)

-- ---- effects

-- the region of a name that was given
region_given : (s : State) (name : ℕ) → is_given s name ≡ true → s.spaces.regions name ≡ Some (region_of s.spaces.regions name)
region_given s name given =
    let there = some_is (s.spaces.regions name) given in there.1 ∙ ap (λ (r : Region). Some r) (sym (region_of-at s.spaces.regions name there.0 there.1))

-- the effect of a command that nothing refuses
pub effect_keeps : (old : State) (command : Command) (reply : Reply) (new : State) → IsGoodState old → GivesName command → first_of (refusals old command) ≡ None → Effect old command reply new → Keeps old new
effect_keeps old (VmoCreate name size resizable) reply new good h none effect =
    let off = AllOff-from_none (refusals old (VmoCreate name size resizable)) none in
    let few : rounded size ≤ VMO_PAGES * PAGE = ltb-false (VMO_PAGES * PAGE) (rounded size) off.1.0 in
    subst (Keeps old) (sym effect.1) (create_keeps old name.0 (rounded size / PAGE) resizable good h off.0 (omega arith))
effect_keeps old (VmoChild name parent SnapshotChild offset size resizable no_write) reply new good h none effect =
    let target = target_of old parent.0 in
    let off = AllOff-from_none (refusals old (VmoChild name parent SnapshotChild offset size resizable no_write)) none in
    let few : offset + rounded size ≤ VMO_PAGES * PAGE = ltb-false (VMO_PAGES * PAGE) (offset + rounded size) off.1.1.1.0 in
    let vmo = name_vmo old parent.0 target good (names-open old parent.0 (not-false (is_open old parent.0) off.0)) in
    snapshot_keeps old new name.0 target (offset / PAGE) (rounded size / PAGE) resizable no_write good h off.1.0 vmo (omega arith) effect.1 effect.2
effect_keeps old (VmoChild name parent SliceChild offset size resizable no_write) reply new good h none effect =
    let target = target_of old parent.0 in
    let off = AllOff-from_none (refusals old (VmoChild name parent SliceChild offset size resizable no_write)) none in
    let past = nat_lt (size_of old parent.0) (offset + rounded size) in
    let inside : offset + rounded size ≤ size_of old parent.0 =
    ltb-false (size_of old parent.0) (offset + rounded size) (or_parts resizable past (or_parts (not (offset % PAGE == 0)) (resizable || past) off.1.1.0).1).1 in
    let fine = (good.names parent.0 target (names-open old parent.0 (not-false (is_open old parent.0) off.0))).1 in
    subst (Keeps old) (sym effect.1)
    (alias_keeps old name.0 (slice_of target (offset / PAGE) (rounded size / PAGE) no_write) good h off.1.0
    (slice_good old target (offset / PAGE) (rounded size / PAGE) no_write fine off.1.1.1.0 (omega (arith, inside))))
effect_keeps old (VmoChild name parent ReferenceChild offset size resizable no_write) reply new good h none effect =
    let target = target_of old parent.0 in
    let off = AllOff-from_none (refusals old (VmoChild name parent ReferenceChild offset size resizable no_write)) none in
    let may = (or_parts (not (offset == 0 && size == 0)) (resizable && (no_write || not target.may_resize)) off.1.1.0).1 in
    let fine = (good.names parent.0 target (names-open old parent.0 (not-false (is_open old parent.0) off.0))).1 in
    subst (Keeps old) (sym effect.1)
    (alias_keeps old name.0 (reference_of target resizable no_write) good h off.1.0
    (reference_good old target resizable no_write fine (λ e. may_resize_too resizable no_write target.may_resize may e)))
effect_keeps old (VmoClose name) reply new good h none effect =
    let off = AllOff-from_none (refusals old (VmoClose name)) none in
    subst (Keeps old) (sym effect.1) (close_keeps old name.0 good (not-false (is_open old name.0) off.0))
effect_keeps old (VmoWrite name offset bytes) reply new good h none effect =
    let owned = touched (place_of old name.0 offset) (length bytes) in
    write_keeps old new (koid_of old name.0) (place_of old name.0 offset) bytes good (change_inside old name.0 offset (length bytes) owned good none) effect.1 effect.2
effect_keeps old (VmoFill name offset len byte) reply new good h none effect =
    let inside = change_inside old name.0 offset len (touched (place_of old name.0 offset) len) good none in
    write_keeps old new (koid_of old name.0) (place_of old name.0 offset) (replicate len byte) good (omega (arith, inside, length-replicate len byte)) effect.1 effect.2
effect_keeps old (VmoCommit name offset len) reply new good h none effect =
    let owned = touched (place_of old name.0 offset) len in
    commit_keeps old new (koid_of old name.0) (place_of old name.0 offset) len good (change_inside old name.0 offset len owned good none) effect.1 effect.2
effect_keeps old (VmoZero name offset len) reply new good h none effect =
    let owned = owned_by_zero old.content (koid_of old name.0) (is_pinned old.pins (koid_of old name.0)) (place_of old name.0 offset) len in
    zero_range_keeps old new (koid_of old name.0) (place_of old name.0 offset) len good (change_inside old name.0 offset len owned good none) effect.1 effect.2
effect_keeps old (VmoDecommit name offset len) reply new good h none effect =
    let off = AllOff-from_none (refusals old (VmoDecommit name offset len)) none in
    subst (Keeps old) (sym effect.1) (zero_keeps old (koid_of old name.0) (place_of old name.0 offset / PAGE) (place_of old name.0 (offset + len) / PAGE) good off.1.1.1.1.1.0)
effect_keeps old (VmoSetSize name size) reply new good h none effect =
    let target = target_of old name.0 in
    let off = AllOff-from_none (refusals old (VmoSetSize name size)) none in
    let few : rounded size ≤ VMO_PAGES * PAGE = ltb-false (VMO_PAGES * PAGE) (rounded size) off.1.1.1.0 in
    let is = names-open old name.0 (not-false (is_open old name.0) off.0) in
    subst (Keeps old) (sym effect.1) (resize_keeps old name.0 target (rounded size / PAGE) good is (not-false target.may_resize off.1.1.0) (omega arith) off.1.1.1.1.0)
effect_keeps old (VmoPin pin name offset len) reply new good h none effect =
    let target = target_of old name.0 in
    let off = AllOff-from_none (refusals old (VmoPin pin name offset len)) none in
    let is = names-open old name.0 (not-false (is_open old name.0) off.0) in
    let range = pin_range offset len off.1.1.0 in
    let inside = place_inside old name.0 target offset len good is (ltb-false (size_of old name.0) (offset + len) off.1.1.1.0) in
    pin_keeps old new pin.0 target.koid.0 (place_of old name.0 offset) len good h (none_is (old.pins pin.0) off.1.0) (name_vmo old name.0 target good is)
    (omega (arith, range.0)) range.1 range.2 range.3 inside effect.1 effect.2
effect_keeps old (VmoUnpin pin) reply new good h none effect =
    let off = AllOff-from_none (refusals old (VmoUnpin pin)) none in
    let found = some_is (old.pins pin.0) (not-false (is_some (old.pins pin.0)) off.0) in
    subst (Keeps old) (sym effect.1) (unpin_keeps old pin.0 found.0 good found.1)
effect_keeps old (RootCreate region) reply new good h none effect =
    let off = AllOff-from_none (refusals old (RootCreate region)) none in
    subst (Keeps old) (sym effect.1)
    (region_keeps old region.0 (root_region region.0) good (AreGoodSpaces-root old.content old.spaces good.spaces region.0 h (none_is (old.spaces.regions region.0) off.0)))
effect_keeps old (VmarAllocate region parent offset len flags caps) reply new good h none effect =
    let off = AllOff-from_none (refusals old (VmarAllocate region parent offset len flags caps)) none in
    let above = region_of old.spaces.regions parent.0 in
    let given = region_given old parent.0 (not-false (is_given old parent.0) off.0) in
    subst (Keeps old) (sym effect.3)
    (region_keeps old region.0 (region_below parent.0 above effect.0 (rounded len / PAGE) caps.0) good
    (AreGoodSpaces-child old.content old.spaces good.spaces region.0 parent.0 effect.0 (rounded len / PAGE) caps.0 above h (none_is (old.spaces.regions region.0) off.1.0) given
    (not-false above.live off.1.1.0) (not-false (has above.caps.0 caps.0) off.1.1.1.0) effect.2.free))
effect_keeps old (VmarMap region offset name vmo_offset len perm flags) reply new good h none effect =
    let off = AllOff-from_none (refusals old (VmarMap region offset name vmo_offset len perm flags)) none in
    let above = region_of old.spaces.regions region.0 in
    let target = target_of old name.0 in
    let there = and_parts (is_given old region.0) (is_open old name.0) (not-false (is_given old region.0 && is_open old name.0) off.0) in
    let given = region_given old region.0 there.0 in
    let right = mismapped_parts old.spaces region.0 (has flags.0 overwrite) (has flags.0 specific) (has flags.0 upper_limit) offset vmo_offset len perm.0 off.1.1.1.0 in
    let place = map_place old.spaces region.0 (has flags.0 overwrite) (has flags.0 specific) (has flags.0 upper_limit) offset vmo_offset len perm.0 effect.0 right effect.2 in
    let spaces = with_mapping old.spaces above.root.0 effect.0 (rounded len / PAGE) (entry_of above region.0 target (vmo_offset / PAGE) perm) in
    subst (Keeps old) (sym effect.3) (loose_keeps old (record old { spaces = spaces }) good (Loosens-spaces old spaces
    (AreGoodSpaces-mapping old.content old.spaces good.spaces region.0 effect.0 (rounded len / PAGE) above (entry_of above region.0 target (vmo_offset / PAGE) perm) given
    (not-false above.live off.1.0) place.0 place.1 refl (cap_of-has above target perm.0 (good.spaces.caps region.0 above given) off.1.1.0)
    (name_vmo old name.0 target good (names-open old name.0 there.1)))))
effect_keeps old (VmarUnmap region addr len) reply new good h none effect =
    let off = AllOff-from_none (refusals old (VmarUnmap region addr len)) none in
    let spaces = unmapped old.spaces region.0 (addr / PAGE) (addr / PAGE + rounded len / PAGE) in
    subst (Keeps old) (sym effect.1) (loose_keeps old (record old { spaces = spaces }) good (Loosens-spaces old spaces
    (AreGoodSpaces-unmapped old.content old.spaces good.spaces region.0 (addr / PAGE) (addr / PAGE + rounded len / PAGE))))
effect_keeps old (VmarProtect region addr len perm) reply new good h none effect =
    let off = AllOff-from_none (refusals old (VmarProtect region addr len perm)) none in
    let root = (region_of old.spaces.regions region.0).root.0 in
    let first = addr / PAGE in
    let end = first + rounded len / PAGE in
    subst (Keeps old) (sym effect.1) (spaces_keeps old (protected old.spaces root first end perm) good
    (AreGoodSpaces-protected old.content old.spaces good.spaces root first end perm off.1.1.1.1.1.0) (is_mapped-protected old.spaces root first end perm))
effect_keeps old (VmarDestroy region) reply new good h none effect =
    subst (Keeps old) (sym effect.1) (loose_keeps old (record old { spaces = without_region old.spaces region.0 }) good
    (Loosens-spaces old (without_region old.spaces region.0) (AreGoodSpaces-without old.content old.spaces good.spaces region.0)))
effect_keeps old (MemRead region addr len) reply new good h none effect = absurd effect
effect_keeps old (MemWrite region addr bytes) reply new good h none effect = absurd effect
effect_keeps old command reply new good h none effect = Keeps-same old new good effect.1

-- ---- the beginning

-- a machine with frames and nothing else is good
pub IsGoodState-empty : (frames : ℕ) → IsGoodState (empty_state frames)
unfolding empty_state nothing
IsGoodState-empty frames = record {
  content = IsGood-nothing frames;
  names = λ n target e. absurd cc;
  known = λ v. refl;
  live = λ v h. absurd cc;
  parents = λ v p l e f. absurd cc;
  pins = λ n pin e. absurd cc;
  spaces = AreGoodSpaces-none (record nothing { frames = frames });
}

-- its first koid is 1
pub next-empty : (frames : ℕ) → (empty_state frames).content.next ≡ 1
unfolding empty_state nothing
next-empty frames = refl
