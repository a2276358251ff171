-- What a command that was done may have changed lies within bounds: pages that there are.
use Rattle.std.proofs.Common.{◌≡◌, ◌==◌, ◌%◌, ℕ, zero, suc, ◌+◌, ◌*◌, ◌/◌, ◌≤◌, true, false, not, ◌&&◌, ◌||◌, length, replicate, Option, None, Some, refl, sym, ap, subst, ◌∙◌, inl, inr, arith}
use Rattle.std.specs.Prelude.{IsSome, is_some}
use Rattle.std.proofs.lemmas.Bool.{ltb-false, not-false, and_parts, or_parts}
use Rattle.std.proofs.lemmas.List.{length-replicate}
use Rattle.std.proofs.lemmas.List.FromFn.{length-range_with_len}
use Rattle.vm_base.specs.Pages.{rounded}
use Rattle.vm_base.specs.declared.limits.TheConstants.{PAGE, VMO_PAGES, PAGES_END}
use Rattle.vm_base.specs.declared.refusal.Refusal.{Refusal}
use Rattle.vm_base.proofs.EntryLaws.{some_is}
use Rattle.vm_model.specs.Machine.Words.{Command, Reply}
use Rattle.vm_model.specs.declared.command.Command.TheVariants.{VmoChild, VmoSetSize, VmoWrite, VmoFill, VmoCommit, VmoDecommit, VmoZero, VmoPin, VmarMap, VmarUnmap, VmarProtect, VmarDestroy}
use Rattle.vm_model.specs.declared.command.ChildKind.TheVariants.{Snapshot}
use Rattle.vm_model.specs.declared.reply.Reply.TheVariants.{Refused}
use Rattle.vm_model.specs.declared.names.Target.{Target}
use Rattle.vm_model.specs.declared.space.Region.{Region}
use Rattle.vm_model.specs.Contents.Content.{Content, pages_of}
use Rattle.vm_model.specs.Contents.Writing.{touched}
use Rattle.vm_model.specs.Contents.Zeroing.{owned_by_zero, resized}
use Rattle.vm_model.specs.Naming.Pins.{is_pinned}
use Rattle.vm_model.specs.Space.Rights.{has, specific, overwrite, upper_limit}
use Rattle.vm_model.specs.Space.Regions.{region_of, end_of, reaches_over, cuts_child, meets_child}
use Rattle.vm_model.specs.Space.Mappings.{lacks_reading, is_outside}
use Rattle.vm_model.specs.Machine.State.{State, is_open, is_given, target_of, koid_of, size_of, place_of, IsGoodState}
use Rattle.vm_model.specs.Machine.Refusals.{refusals, first_of}
use Rattle.vm_model.specs.Machine.Step.{Effect, StepAfter, Step}
use Rattle.vm_model.proofs.ContentLaws.{pages_of-at}
use Rattle.vm_model.proofs.ZeroingLaws.{count-resized_here}
use Rattle.vm_model.proofs.CommitLaws.{OwnsAll-keeps}
use Rattle.vm_model.proofs.LeavingLaws.{name_vmo}
use Rattle.vm_model.proofs.MappingLaws.{mismapped_parts, map_place}
use Rattle.vm_model.proofs.NamesLaws.{names-open}
use Rattle.vm_model.proofs.RangeLaws.{touched-row, touched-nil, touched_end-is}
use Rattle.vm_model.proofs.RegionLaws.{region_of-at, region_bounds, reaches_over_parts}
use Rattle.vm_model.proofs.StepLaws.{AllOff-from_none, change_parts, place_inside}
use Rattle.vm_model.proofs.WritingLaws.{IsKept, Writes-keeps}
use Rattle.vm_model.proofs.ZeroesLaws.{zeroed-keeps, Zeroes-keeps}
use Rattle.page_store.specs.Names.{IsInside}
use Rattle.page_store.proofs.NameLaws.{name_few, IsInside-good}
use Rattle.ready_pages.specs.Changes.{IsBounded}
use Rattle.machine.specs.inside.Changes.{range_part, shared_part, change_made, change_after}

-- ---- ranges of a VMO

-- the pages that a range touches end where the range does, or before the next page
touched_below : (at len pages : ℕ) → at + len ≤ pages * PAGE → at / PAGE + length (touched at len) ≤ pages
touched_below at zero pages h = omega (arith, h, ap length (touched-nil at))
touched_below at (suc len) pages h =
    let row = ap length (touched-row at (suc len) (omega arith)) ∙ length-range_with_len (at / PAGE) _ in omega (arith, h, row, touched_end-is at (suc len))

-- a range inside a name that is open, where the content keeps its VMOs
range_bounded : (s : State) (c : Content) (name offset len : ℕ) → IsGoodState s → IsKept s.content c → IsSome (s.names name) → offset + len ≤ size_of s name
    → IsBounded c (range_part (target_of s name) offset len)
range_bounded s c name offset len good kept opened range =
    let target = target_of s name in
    let named = names-open s name opened in
    let inside = place_inside s name target offset len good named range in
    let most = touched_below (target.first * PAGE + offset) len (pages_of c target.koid.0) (omega (arith, inside, kept.pages target.koid.0)) in
    (ap (λ (count : ℕ → Option ℕ). is_some (count target.koid.0)) kept.count ∙ name_vmo s name target good named, omega arith, most)

-- the pages that a snapshot shares
shared_bounded : (s : State) (d : Content) (target : Target) (offset size : ℕ) → IsGoodState s → IsInside s.content target → offset + rounded size ≤ VMO_PAGES * PAGE
    → IsBounded d (shared_part s.content target offset size)
shared_bounded s d target offset size good inside range =
    let few = name_few s.content target good.content inside in
    (omega arith, omega (arith, few, range))

-- ---- ranges of a region

-- a live region that was given ends where the address space does, or before
given_bounds : (s : State) (name : ℕ) → IsGoodState s → is_given s name ≡ true → (region_of s.spaces.regions name).live ≡ true → end_of (region_of s.spaces.regions name) ≤ PAGES_END
given_bounds s name good given live =
    let there = some_is (s.spaces.regions name) given in
    let same = region_of-at s.spaces.regions name there.0 there.1 in
    let bounds = region_bounds s.spaces.regions good.spaces.regions name (region_of s.spaces.regions name) (there.1 ∙ ap (λ (r : Region). Some r) (sym same)) live in
    omega (arith, bounds.0)

-- a range that is not outside it ends there too
range_below : (above : Region) (addr len count : ℕ) → is_outside above addr len count ≡ false → addr / PAGE + count ≤ end_of above
range_below above addr len count off =
    let reaches = reaches_over (addr / PAGE) (addr / PAGE + count) above in
    let rest = or_parts (not (addr % PAGE == 0)) (len == 0 || not reaches) off in
    let inside = or_parts (len == 0) (not reaches) rest.1 in
    (reaches_over_parts (addr / PAGE) (addr / PAGE + count) above (not-false reaches inside.1)).1

-- ---- commands

-- what the effect of a command may change, where nothing refuses it
effect_bounded : (old : State) (command : Command) (reply : Reply) (new : State) → IsGoodState old → first_of (refusals old command) ≡ None
    → Effect old command reply new → IsBounded new.content (change_made old command reply)
effect_bounded old (VmoChild name parent Snapshot offset size resizable no_write) reply new good none effect =
    let target = target_of old parent.0 in
    let off = AllOff-from_none (refusals old (VmoChild name parent Snapshot offset size resizable no_write)) none in
    let few = ltb-false (VMO_PAGES * PAGE) (offset + rounded size) off.1.1.1.0 in
    let inside = IsInside-good old parent.0 target good (names-open old parent.0 (not-false (is_open old parent.0) off.0)) in
    shared_bounded old new.content target offset size good inside few
effect_bounded old (VmoSetSize name size) reply new good none effect =
    let off = AllOff-from_none (refusals old (VmoSetSize name size)) none in
    let few = ltb-false (VMO_PAGES * PAGE) (rounded size) off.1.1.1.0 in
    let v = koid_of old name.0 in
    let c = resized old.content v (rounded size / PAGE) in
    let here = count-resized_here old.content v (rounded size / PAGE) in
    subst (λ (s : State). IsBounded s.content (change_made old (VmoSetSize name size) reply)) (sym effect.1)
    (ap is_some here, omega (arith, few), omega (arith, pages_of-at c v (rounded size / PAGE) here))
effect_bounded old (VmoWrite name offset bytes) reply new good none effect =
    let parts = change_parts old name.0 offset (length bytes) (touched (place_of old name.0 offset) (length bytes)) none in
    let inside = place_inside old name.0 (target_of old name.0) offset (length bytes) good (names-open old name.0 parts.0) parts.2 in
    let kept = (Writes-keeps (is_pinned old.pins) (koid_of old name.0) (place_of old name.0 offset) bytes old.content new.content good.content inside effect.2).kept in
    range_bounded old new.content name.0 offset (length bytes) good kept parts.0 parts.2
effect_bounded old (VmoFill name offset len byte) reply new good none effect =
    let parts = change_parts old name.0 offset len (touched (place_of old name.0 offset) len) none in
    let inside = place_inside old name.0 (target_of old name.0) offset len good (names-open old name.0 parts.0) parts.2 in
    let kept = (Writes-keeps (is_pinned old.pins) (koid_of old name.0) (place_of old name.0 offset) (replicate len byte) old.content new.content good.content (omega (arith, inside, length-replicate len byte)) effect.2).kept in
    range_bounded old new.content name.0 offset len good kept parts.0 parts.2
effect_bounded old (VmoCommit name offset len) reply new good none effect =
    let parts = change_parts old name.0 offset len (touched (place_of old name.0 offset) len) none in
    let inside = place_inside old name.0 (target_of old name.0) offset len good (names-open old name.0 parts.0) parts.2 in
    let kept = (OwnsAll-keeps (is_pinned old.pins) (koid_of old name.0) (place_of old name.0 offset) len old.content new.content good.content inside effect.2).kept in
    range_bounded old new.content name.0 offset len good kept parts.0 parts.2
effect_bounded old (VmoZero name offset len) reply new good none effect =
    let owned = owned_by_zero old.content (koid_of old name.0) (is_pinned old.pins (koid_of old name.0)) (place_of old name.0 offset) len in
    let parts = change_parts old name.0 offset len owned none in
    let inside = place_inside old name.0 (target_of old name.0) offset len good (names-open old name.0 parts.0) parts.2 in
    let kept = (Zeroes-keeps (is_pinned old.pins) (koid_of old name.0) (place_of old name.0 offset) len old.content new.content good.content inside effect.2).kept in
    range_bounded old new.content name.0 offset len good kept parts.0 parts.2
effect_bounded old (VmoDecommit name offset len) reply new good none effect =
    let off = AllOff-from_none (refusals old (VmoDecommit name offset len)) none in
    let kept = subst (λ (s : State). IsKept old.content s.content) (sym effect.1)
    (zeroed-keeps old.content (koid_of old name.0) (place_of old name.0 offset / PAGE) (place_of old name.0 (offset + len) / PAGE) good.content) in
    range_bounded old new.content name.0 offset len good kept (not-false (is_open old name.0) off.0) (ltb-false (size_of old name.0) (offset + len) off.1.1.1.1.0)
effect_bounded old (VmoPin pin name offset len) reply new good none effect =
    let off = AllOff-from_none (refusals old (VmoPin pin name offset len)) none in
    let opened = not-false (is_open old name.0) off.0 in
    let range = ltb-false (size_of old name.0) (offset + len) off.1.1.1.0 in
    let inside = place_inside old name.0 (target_of old name.0) offset len good (names-open old name.0 opened) range in
    let kept = (OwnsAll-keeps (is_pinned old.pins) (koid_of old name.0) (place_of old name.0 offset) len old.content new.content good.content inside effect.2).kept in
    range_bounded old new.content name.0 offset len good kept opened range
effect_bounded old (VmarMap region offset name vmo_offset len perm flags) reply new good none effect =
    let off = AllOff-from_none (refusals old (VmarMap region offset name vmo_offset len perm flags)) none in
    let above = region_of old.spaces.regions region.0 in
    let there = and_parts (is_given old region.0) (is_open old name.0) (not-false (is_given old region.0 && is_open old name.0) off.0) in
    let right = mismapped_parts old.spaces region.0 (has flags.0 overwrite) (has flags.0 specific) (has flags.0 upper_limit) offset vmo_offset len perm.0 off.1.1.1.0 in
    let place = map_place old.spaces region.0 (has flags.0 overwrite) (has flags.0 specific) (has flags.0 upper_limit) offset vmo_offset len perm.0 effect.0 right effect.2 in
    let inside = reaches_over_parts effect.0 (effect.0 + rounded len / PAGE) above place.0 in
    let below = given_bounds old region.0 good there.0 (not-false above.live off.1.0) in
    subst (λ (r : Reply). IsBounded new.content (change_made old (VmarMap region offset name vmo_offset len perm flags) r)) (sym effect.1)
    (omega arith, omega (arith, inside.1, below))
effect_bounded old (VmarUnmap region addr len) reply new good none effect =
    let off = AllOff-from_none (refusals old (VmarUnmap region addr len)) none in
    let above = region_of old.spaces.regions region.0 in
    let first = addr / PAGE in
    let count = rounded len / PAGE in
    let range = or_parts (is_outside above addr len count) (cuts_child old.spaces.regions region.0 first (first + count)) off.1.1.0 in
    let below = given_bounds old region.0 good (not-false (is_given old region.0) off.0) (not-false above.live off.1.0) in
    (omega arith, omega (arith, range_below above addr len count range.0, below))
effect_bounded old (VmarProtect region addr len perm) reply new good none effect =
    let off = AllOff-from_none (refusals old (VmarProtect region addr len perm)) none in
    let above = region_of old.spaces.regions region.0 in
    let first = addr / PAGE in
    let count = rounded len / PAGE in
    let range = or_parts (is_outside above addr len count) (meets_child old.spaces.regions region.0 first (first + count) || lacks_reading perm.0) off.1.1.1.0 in
    let below = given_bounds old region.0 good (not-false (is_given old region.0) off.0) (not-false above.live off.1.0) in
    (omega arith, omega (arith, range_below above addr len count range.0, below))
effect_bounded old (VmarDestroy region) reply new good none effect =
    let off = AllOff-from_none (refusals old (VmarDestroy region)) none in
    (omega arith, given_bounds old region.0 good (not-false (is_given old region.0) off.0) (not-false (region_of old.spaces.regions region.0).live off.1.0))
effect_bounded old _ reply new good none effect = tt

-- what a command that was done may have changed
pub done_bounded : (old : State) (command : Command) (reply : Reply) (new : State) → IsGoodState old → Step old command reply new → IsBounded new.content (change_after old command reply)
done_bounded old command reply new good step = go (first_of (refusals old command)) refl step.outcome where
  -- a refused command changes nothing
  refused : (refusal : Refusal) → reply ≡ Refused refusal → IsBounded new.content (change_after old command reply)
  refused refusal e = subst (λ (r : Reply). IsBounded new.content (change_after old command r)) (sym e) tt

  unless : (r : Reply) → IsBounded new.content (change_made old command r) → IsBounded new.content (change_after old command r)
  unless (Refused refusal) bounded = tt
  unless r bounded = bounded

  go : (o : Option Refusal) → first_of (refusals old command) ≡ o → StepAfter o old command reply new → IsBounded new.content (change_after old command reply)
  go (Some refusal) e r = refused refusal r.answer
  go None e (inr lacked) = refused _ lacked.0.answer
  go None e (inl effect) = unless reply (effect_bounded old command reply new good e effect)
