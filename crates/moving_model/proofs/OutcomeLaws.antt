-- Laws of two steps with one reply: the machines that they lead to differ by a renaming that keeps pinned pages in their frames.
use Rattle.std.proofs.Common.{◌≡◌, ℕ, ◌+◌, ◌*◌, ◌/◌, ◌<◌, ◌≤◌, true, false, List, [], ◌∷◌, length, replicate, Option, None, Some, ◌⊎◌, refl, sym, ap, subst, ◌∙◌, inl, inr, arith}
use Rattle.std.specs.List.{All}
use Rattle.std.proofs.lemmas.Bool.{ltb-false, not-false}
use Rattle.std.proofs.lemmas.List.{length-replicate}
use Rattle.std.proofs.lemmas.List.Elements.{All-head, All-tail}
use Rattle.vm_base.specs.Pages.{rounded}
use Rattle.vm_base.specs.Entries.{with_key}
use Rattle.vm_base.specs.declared.limits.TheConstants.{PAGE, VMO_PAGES}
use Rattle.vm_base.specs.declared.refusal.Refusal.{Refusal}
use Rattle.vm_base.specs.declared.refusal.Refusal.TheVariants.{HostMemory}
use Rattle.vm_base.proofs.EntryLaws.{some_same, none_is}
use Rattle.vm_base.specs.declared.names.PinName.{PinName}
use Rattle.vm_base.specs.declared.names.VmoName.{VmoName}
use Rattle.vm_model.specs.Machine.Words.{Command, Reply}
use Rattle.vm_model.specs.declared.command.Command.TheVariants.{VmoChild, VmoWrite, VmoFill, VmoCommit, VmoZero, VmoPin, VmarAllocate, VmarMap, MemRead, MemWrite}
use Rattle.vm_model.specs.declared.command.ChildKind.TheVariants.{Snapshot}
use Rattle.vm_model.specs.declared.reply.Reply.TheVariants.{Done, Address, Faults, Refused}
use Rattle.vm_model.specs.declared.space.Entry.{Entry}
use Rattle.vm_model.specs.declared.space.Readiness.TheVariants.{Write}
use Rattle.vm_model.specs.Contents.Content.{Page, Content, pages_of, sole, IsGood}
use Rattle.vm_model.specs.Contents.Owning.{pages_at}
use Rattle.vm_model.specs.Contents.Sharing.{snapshotted}
use Rattle.vm_model.specs.Contents.Writing.{touched, WritesPiece}
use Rattle.vm_model.specs.Contents.Zeroing.{owned_by_zero}
use Rattle.vm_model.specs.Space.Regions.{region_of, region_below}
use Rattle.vm_model.specs.Space.AddressSpaces.{with_region}
use Rattle.vm_model.specs.Space.Mappings.{entry_of, with_mapping}
use Rattle.vm_model.specs.Machine.Leaving.{pruned}
use Rattle.vm_model.specs.Naming.Pins.{is_pinned}
use Rattle.vm_model.specs.Space.Rights.{writing}
use Rattle.vm_model.specs.Space.Readiness.{settled, with_ready}
use Rattle.vm_model.specs.Machine.State.{State, is_open, target_of, koid_of, size_of, place_of, seen_pages, IsGoodState}
use Rattle.vm_model.specs.Machine.Access.{Memory, piece_through, refusal_at, access_refusal, write_fault, WritesThrough}
use Rattle.vm_model.specs.Machine.Refusals.{refusals, first_of}
use Rattle.vm_model.specs.Machine.Step.{with_snapshot, pin_at}
use Rattle.vm_model.specs.Machine.Machine.{Machine, memory_of, IsGoodMachine}
use Rattle.vm_model.specs.Machine.MachineStep.{withdrawn, ready_after, MachineEffect, MachineStepAfter, MachineStep}
use Rattle.vm_model.proofs.SharingLaws.{koid_held, koid_some, page-snapshotted_old}
use Rattle.vm_model.proofs.RangeLaws.{touched-from, part_fits}
use Rattle.vm_model.proofs.WritingLaws.{Written-from_WritesPiece}
use Rattle.vm_model.proofs.AccessLaws.{refusal_at-parts, access_refusal-same, access_refusal-parts, frame_at-other}
use Rattle.vm_model.proofs.NamesLaws.{names-open}
use Rattle.vm_model.proofs.StepLaws.{AllOff-from_none, place_inside, change_inside}
use Rattle.moving_model.specs.Renaming.{Renaming, KeepsFrom, KeepsPinned, content_renamed, state_renamed, machine_renamed, memory_renamed}
use Rattle.moving_model.specs.Moving.{tells_choice}
use Rattle.moving_model.proofs.NumberLaws.{no_renaming}
use Rattle.moving_model.proofs.RunLaws.{machine-same, and_then}
use Rattle.moving_model.proofs.StepLaws.{WritesThrough-renamed}
use Rattle.moving_model.proofs.ExchangeLaws.{content-same, AreTwo-WritesPiece}
use Rattle.moving_model.proofs.FrameLaws.{KeepsFrames-WritesPiece}
use Rattle.moving_model.proofs.PinnedLaws.{pinned_alone}
use Rattle.moving_model.proofs.CopyLaws.{snap, copies, frames-snap, snap_good, copies_fit, no_copy, copies_frames}
use Rattle.moving_model.proofs.TwinLaws.{AreTwins, AreTwins-one, content-then, settled-twins, settled_shown}
use Rattle.moving_model.proofs.RowLaws.{owns_twins, owns_twins_beside, touched_fit, write_twins, zero_twins}

-- Two machines that come of one: they differ by a renaming that keeps the pinned pages of that one in their frames.
pub record AreOutcomes (old one other : Machine) : Type 0 where
  pub by : Renaming
  pub within : KeepsFrom by old.state.content.frames
  pub pinned : KeepsPinned by old.state
  pub is : other ≡ machine_renamed by one

AreOutcomes-same : (old one other : Machine) → one ≡ other → AreOutcomes old one other
AreOutcomes-same old one other e = record { by = no_renaming; within = λ t h. refl; pinned = λ v p held pinned f. refl; is = sym e ∙ sym (machine-same one) }

-- where the state is the same, so is what is ready
state_outcome : (old one other : Machine) (command : Command) (reply : Reply) → one.state ≡ other.state → one.ready ≡ ready_after old command reply one.state
    → other.ready ≡ ready_after old command reply other.state → AreOutcomes old one other
state_outcome old one other command reply e first second =
    AreOutcomes-same old one other (λ i. record { state = e i; ready = (first ∙ (ap (ready_after old command reply) e ∙ sym second)) i })

-- the states are alike but for their contents, and the contents differ by a renaming
content_outcome : (old one other : Machine) (command : Command) (reply : Reply) (rest : State) (r : Renaming) → KeepsFrom r old.state.content.frames → KeepsPinned r old.state
    → one.state ≡ record rest { content = one.state.content } → other.state ≡ record rest { content = other.state.content }
    → other.state.content ≡ content_renamed r one.state.content
    → settled old.state.content one.state.content rest.spaces.table old.ready ≡ settled old.state.content other.state.content rest.spaces.table old.ready
    → one.ready ≡ ready_after old command reply one.state → other.ready ≡ ready_after old command reply other.state → AreOutcomes old one other
content_outcome old one other command reply rest r within pinned first second is ready now then =
    let state : other.state ≡ state_renamed r one.state = second ∙ ((λ i. record rest { content = is i }) ∙ sym (ap (state_renamed r) first)) in
    let table : one.state.spaces.table ≡ rest.spaces.table = ap (λ (s : State). s.spaces.table) first in
    let too : other.state.spaces.table ≡ rest.spaces.table = ap (λ (s : State). s.spaces.table) second in
    let leaves : ready_after old command reply other.state ≡ ready_after old command reply one.state =
    ap (withdrawn old.state command reply) ((λ i. settled old.state.content other.state.content (too i) old.ready) ∙ (sym ready ∙ (λ i. settled old.state.content one.state.content (sym table i) old.ready))) in
    record { by = r; within = within; pinned = pinned; is = λ i. record { state = state i; ready = (then ∙ (leaves ∙ sym now)) i } }

-- the contents are twins
twin_outcome : (old one other : Machine) (command : Command) (reply : Reply) (rest : State) → IsGoodState old.state → AreTwins (is_pinned old.state.pins) old.state.content one.state.content other.state.content
    → one.state ≡ record rest { content = one.state.content } → other.state ≡ record rest { content = other.state.content }
    → one.ready ≡ ready_after old command reply one.state → other.ready ≡ ready_after old command reply other.state → AreOutcomes old one other
twin_outcome old one other command reply rest good twin first second now then =
    content_outcome old one other command reply rest twin.by twin.within (λ v p held pinned e. twin.stays v p held pinned (pinned_alone old.state v p good pinned) e)
    first second twin.is (settled-twins (is_pinned old.state.pins) old.state.content one.state.content other.state.content rest.spaces.table old.ready twin) now then

address_same : {a b : ℕ} → ◌≡◌ {A = Reply} (Address a) (Address b) → a ≡ b
address_same e = cc

-- the address tells the page
first_same : (a b : ℕ) → ◌≡◌ {A = Reply} (Address (a * PAGE)) (Address (b * PAGE)) → a ≡ b
first_same a b e = let same = address_same e in omega (arith, same)

-- ---- writes through mappings

-- two outcomes of such a write: they differ by a renaming, and took as many page faults
record ThroughOutcomes (old one other : Memory) (faults again : ℕ) : Type 0 where
  pub by : Renaming
  pub within : KeepsFrom by old.content.frames
  pub stays : (v p : ℕ) (held : Page) → sole old.content v p ≡ true → old.content.page v p ≡ Some held → by.to held.tag ≡ held.tag
  pub is : other ≡ memory_renamed by one
  pub faults_are : faults ≡ again

memory-then : (a b : Renaming) (m : Memory) → memory_renamed b (memory_renamed a m) ≡ memory_renamed (and_then a b) m
memory-then a b m = λ i. record m { content = content-then a b m.content i }

memory-same : (m : Memory) → m ≡ memory_renamed no_renaming m
memory-same m = λ i. record m { content = sym (content-same m.content) i }

through_outcomes : (table : ℕ → ℕ → Option Entry) (root addr : ℕ) (bytes ps : List ℕ) (old one other : Memory) (faults again : ℕ) → IsGood old.content
    → All (λ p. addr / PAGE ≤ p) ps → access_refusal old.content writing (table root) ps ≡ None
    → WritesThrough table root addr bytes ps old faults one → WritesThrough table root addr bytes ps old again other → ThroughOutcomes old one other faults again
through_outcomes table root addr bytes [] old one other faults again good from free first second = record {
  by = no_renaming;
  within = λ t h. refl;
  stays = λ v p held alone e. refl;
  is = second.0 ∙ (sym first.0 ∙ memory-same one);
  faults_are = first.1 ∙ sym second.1;
}
through_outcomes table root addr bytes (p ∷ ps) old one other faults again good from free first second =
    let m = first.0 in
    let n = second.0 in
    let a = first.2 in
    let b = second.2 in
    let parts = access_refusal-parts old.content writing (table root) p ps free in
    let low = All-head (λ q. addr / PAGE ≤ q) p ps from in
    let part = piece_through a.entry addr bytes p in
    let below : part.page < pages_of old.content part.koid = (refusal_at-parts old.content writing a.entry (ap (refusal_at old.content writing) (sym a.is) ∙ parts.0)).1 in
    let fits = part_fits addr bytes p low in
    let entry : b.entry ≡ a.entry = some_same (sym b.is ∙ a.is) in
    let writes : WritesPiece old.content part n.content = subst (λ (shows : Entry). WritesPiece old.content (piece_through shows addr bytes p) n.content) entry b.writes in
    let two = AreTwo-WritesPiece old.content m.content n.content part good a.writes writes in
    let written = Written-from_WritesPiece old.content part m.content good below fits a.writes in
    let too = Written-from_WritesPiece old.content part n.content good below fits writes in
    let twin = AreTwins-one (λ w q. true) old.content m.content n.content part.koid part.page two (frame_at-other old.content m.content part.koid part.page written) (frame_at-other old.content n.content part.koid part.page too) in
    let ready : n.ready ≡ m.ready = b.ready ∙ ((λ i. with_ready (sym (settled-twins (λ w q. true) old.content m.content n.content table old.ready twin) i) root p Write) ∙ sym a.ready) in
    let is : n ≡ memory_renamed two.by m = λ i. record { content = two.is i; ready = ready i } in
    let kept = KeepsFrames-WritesPiece (λ w q. true) old.content part n.content good below fits writes in
    let keeps : KeepsFrom two.by m.content.frames = λ t h. two.within t (subst (λ (k : ℕ). k ≤ t) written.kept.frames h) in
    let moved : WritesThrough table root addr bytes ps n first.1 (memory_renamed two.by one) =
    subst (λ (d : Memory). WritesThrough table root addr bytes ps d first.1 (memory_renamed two.by one)) (sym is) (WritesThrough-renamed two.by table root addr bytes ps m first.1 one keeps first.3) in
    let rest = through_outcomes table root addr bytes ps n (memory_renamed two.by one) other first.1 second.1 kept.kept.good (All-tail (λ q. addr / PAGE ≤ q) p ps from)
    (access_refusal-same old.content n.content writing (table root) ps kept.kept.pages ∙ parts.1) moved second.3 in
    record {
      by = and_then two.by rest.by;
      within = λ t h. ap rest.by.to (two.within t h) ∙ rest.within t (subst (λ (k : ℕ). k ≤ t) (sym kept.kept.frames) h);
      stays = λ v q held alone e.
          let there = kept.stays v q held refl alone e in
          ap rest.by.to (two.stays v q held e) ∙ (ap rest.by.to (sym there.tag_is) ∙ (rest.stays v q there.held there.alone there.is ∙ there.tag_is));
      is = rest.is ∙ memory-then two.by rest.by one;
      faults_are = first.4 ∙ (ap (λ (k : ℕ). write_fault (old.ready root p) + k) rest.faults_are ∙ sym second.4);
    }

-- ---- all commands

-- two pins, whatever frames they tell
pub pin_outcomes : (old one other : Machine) (pin : PinName) (name : VmoName) (offset len : ℕ) (reply again : Reply) → IsGoodMachine old
    → first_of (refusals old.state (VmoPin pin name offset len)) ≡ None → MachineEffect old (VmoPin pin name offset len) reply one → MachineEffect old (VmoPin pin name offset len) again other → AreOutcomes old one other
pin_outcomes old one other pin name offset len reply again good none e f =
    let v = koid_of old.state name.0 in
    let at = place_of old.state name.0 offset in
    let off = AllOff-from_none (refusals old.state (VmoPin pin name offset len)) none in
    let is = names-open old.state name.0 (not-false (is_open old.state name.0) off.0) in
    let inside = place_inside old.state name.0 (target_of old.state name.0) offset len good.state is (ltb-false (size_of old.state name.0) (offset + len) off.1.1.1.0) in
    twin_outcome old one other (VmoPin pin name offset len) reply (record (old.state) { pins = with_key old.state.pins pin.0 (pin_at old.state name.0 offset len) }) good.state
    (owns_twins (is_pinned old.state.pins) (pages_at v (touched at len)) old.state.content one.state.content other.state.content good.state.content (touched_fit old.state.content v at len good.state.content inside) e.0.2 f.0.2)
    e.0.1 f.0.1 e.1 f.1

effect_outcomes : (old one other : Machine) (command : Command) (reply : Reply) → IsGoodMachine old → first_of (refusals old.state command) ≡ None → MachineEffect old command reply one
    → MachineEffect old command reply other → AreOutcomes old one other
unfolding snapshotted with_snapshot pages_of
effect_outcomes old one other (VmoChild name parent Snapshot offset size resizable no_write) reply good none e f =
    let s = old.state in
    let target = target_of s parent.0 in
    let start = offset / PAGE in
    let pages = rounded size / PAGE in
    let off = AllOff-from_none (refusals s (VmoChild name parent Snapshot offset size resizable no_write)) none in
    let end : offset + rounded size ≤ VMO_PAGES * PAGE = ltb-false (VMO_PAGES * PAGE) (offset + rounded size) off.1.1.1.0 in
    let few : pages ≤ VMO_PAGES = omega (arith, end) in
    let c = s.content in
    let owned = copies s target start pages in
    let both = owns_twins_beside (λ w q. true) owned (snap s target start pages) one.state.content other.state.content (snap_good s target start pages good.state.content few) (copies_fit s target start pages good.state.content few) e.0.2 f.0.2 in
    let twin = both.0 in
    content_outcome old one other (VmoChild name parent Snapshot offset size resizable no_write) reply (with_snapshot s name.0 target start pages resizable no_write) twin.by
    (λ t h. twin.within t (subst (λ (n : ℕ). n ≤ t) (sym (frames-snap s target start pages)) h))
    (λ v p held pinned at.
    both.1 v p held (no_copy s target start pages v p (koid_held c v p held good.state.content at))
    (page-snapshotted_old c target.koid.0 (target.first + start) (seen_pages c target start pages) pages v p held good.state.content at))
    e.0.1 f.0.1 twin.is
    (settled_shown c one.state.content other.state.content s.spaces.table old.ready (λ v. sym (ap (λ (d : Content). pages_of d v) twin.is))
    (λ root p entry is.
    let low = koid_some c entry.koid.0 good.state.content (good.state.spaces.vmos root p entry is) in
    copies_frames s target start pages good.state.content few one.state.content e.0.2 entry.koid.0 entry.page low
    ∙ sym (copies_frames s target start pages good.state.content few other.state.content f.0.2 entry.koid.0 entry.page low)))
    e.1 f.1
effect_outcomes old one other (VmoWrite name offset bytes) reply good none e f =
    let v = koid_of old.state name.0 in
    let at = place_of old.state name.0 offset in
    let inside = change_inside old.state name.0 offset (length bytes) (touched at (length bytes)) good.state none in
    twin_outcome old one other (VmoWrite name offset bytes) reply old.state good.state
    (write_twins (is_pinned old.state.pins) v at bytes old.state.content one.state.content good.state.content inside e.0.2 other.state.content f.0.2) e.0.1 f.0.1 e.1 f.1
effect_outcomes old one other (VmoFill name offset len byte) reply good none e f =
    let v = koid_of old.state name.0 in
    let at = place_of old.state name.0 offset in
    let inside = change_inside old.state name.0 offset len (touched at len) good.state none in
    twin_outcome old one other (VmoFill name offset len byte) reply old.state good.state
    (write_twins (is_pinned old.state.pins) v at (replicate len byte) old.state.content one.state.content good.state.content (omega (arith, inside, length-replicate len byte)) e.0.2 other.state.content f.0.2) e.0.1 f.0.1 e.1 f.1
effect_outcomes old one other (VmoCommit name offset len) reply good none e f =
    let v = koid_of old.state name.0 in
    let at = place_of old.state name.0 offset in
    let inside = change_inside old.state name.0 offset len (touched at len) good.state none in
    twin_outcome old one other (VmoCommit name offset len) reply old.state good.state
    (owns_twins (is_pinned old.state.pins) (pages_at v (touched at len)) old.state.content one.state.content other.state.content good.state.content (touched_fit old.state.content v at len good.state.content inside) e.0.2 f.0.2)
    e.0.1 f.0.1 e.1 f.1
effect_outcomes old one other (VmoZero name offset len) reply good none e f =
    let v = koid_of old.state name.0 in
    let at = place_of old.state name.0 offset in
    let owned = owned_by_zero old.state.content v (is_pinned old.state.pins v) at len in
    let inside = change_inside old.state name.0 offset len owned good.state none in
    twin_outcome old one other (VmoZero name offset len) reply old.state good.state
    (zero_twins (is_pinned old.state.pins) v at len old.state.content one.state.content other.state.content good.state.content inside e.0.2 f.0.2) e.0.1 f.0.1 e.1 f.1
effect_outcomes old one other (VmoPin pin name offset len) reply good none e f = pin_outcomes old one other pin name offset len reply reply good none e f
effect_outcomes old one other (VmarAllocate region parent offset len flags caps) reply good none e f =
    let same : e.0.0 ≡ f.0.0 = first_same e.0.0 f.0.0 (sym e.0.1 ∙ f.0.1) in
    let above = region_of old.state.spaces.regions parent.0 in
    let made : ℕ → State = λ first. record (old.state) { spaces = with_region old.state.spaces region.0 (region_below parent.0 above first (rounded len / PAGE) caps.0) } in
    state_outcome old one other (VmarAllocate region parent offset len flags caps) reply (e.0.3 ∙ (ap made same ∙ sym f.0.3)) e.1 f.1
effect_outcomes old one other (VmarMap region offset name vmo_offset len perm flags) reply good none e f =
    let same : e.0.0 ≡ f.0.0 = first_same e.0.0 f.0.0 (sym e.0.1 ∙ f.0.1) in
    let above = region_of old.state.spaces.regions region.0 in
    let made : ℕ → State = λ first. pruned (record (old.state) { spaces = with_mapping old.state.spaces above.root.0 first (rounded len / PAGE) (entry_of above region.0 (target_of old.state name.0) (vmo_offset / PAGE) perm) }) in
    state_outcome old one other (VmarMap region offset name vmo_offset len perm flags) reply (e.0.3 ∙ (ap made same ∙ sym f.0.3)) e.1 f.1
effect_outcomes old one other (MemRead region addr len) reply good none e f = AreOutcomes-same old one other (e.1 ∙ sym f.1)
effect_outcomes old one other (MemWrite region addr bytes) reply good none e f =
    let s = old.state in
    let ps = touched addr (length bytes) in
    let off = AllOff-from_none (refusals s (MemWrite region addr bytes)) none in
    let free = none_is (access_refusal s.content writing (s.spaces.table region.0) ps) off.1.1.1.0 in
    let through = through_outcomes s.spaces.table region.0 addr bytes ps (memory_of old) (memory_of one) (memory_of other) e.0 f.0 good.state.content (touched-from addr (length bytes)) free e.3 f.3 in
    let content : other.state.content ≡ content_renamed through.by one.state.content = ap (λ (m : Memory). m.content) through.is in
    let state : other.state ≡ state_renamed through.by one.state = f.2 ∙ ((λ i. record s { content = content i }) ∙ sym (ap (state_renamed through.by) e.2)) in
    record {
      by = through.by;
      within = through.within;
      pinned = λ v p held pinned at. through.stays v p held (pinned_alone s v p good.state pinned) at;
      is = λ i. record { state = state i; ready = ap (λ (m : Memory). m.ready) through.is i };
    }
effect_outcomes old one other command reply good none e f = state_outcome old one other command reply (e.0.1 ∙ sym f.0.1) e.1 f.1

-- what a command does is answered by no refusal
pub not_refused : (old new : Machine) (command : Command) (reply : Reply) (refusal : Refusal) → MachineEffect old command reply new → reply ≡ Refused refusal → ⊥
not_refused old new (VmoChild name parent Snapshot offset size resizable no_write) reply refusal e f = apart e.0.0 f where
  apart : reply ≡ Done → reply ≡ Refused refusal → ⊥
  apart a b = absurd (let both = sym a ∙ b in cc)
not_refused old new (VmarAllocate region parent offset len flags caps) reply refusal e f = absurd (let both = sym e.0.1 ∙ f in cc)
not_refused old new (VmarMap region offset name vmo_offset len perm flags) reply refusal e f = absurd (let both = sym e.0.1 ∙ f in cc)
not_refused old new (MemRead region addr len) reply refusal e f = absurd (let both = sym e.0 ∙ f in cc)
not_refused old new (MemWrite region addr bytes) reply refusal e f = absurd (let both = sym e.1 ∙ f in cc)
not_refused old new command reply refusal e f = absurd (let both = sym e.0.0 ∙ f in cc)

after_outcomes : (o : Option Refusal) (old one other : Machine) (command : Command) (reply : Reply) → first_of (refusals old.state command) ≡ o → IsGoodMachine old
    → MachineStepAfter o old command reply one → MachineStepAfter o old command reply other → AreOutcomes old one other
after_outcomes (Some refusal) old one other command reply none good e f = AreOutcomes-same old one other (e.same ∙ sym f.same)
after_outcomes None old one other command reply none good (inl e) (inl f) = effect_outcomes old one other command reply good none e f
after_outcomes None old one other command reply none good (inr e) (inr f) = AreOutcomes-same old one other (e.0.same ∙ sym f.0.same)
after_outcomes None old one other command reply none good (inl e) (inr f) = absurd (not_refused old one command reply HostMemory e f.0.answer)
after_outcomes None old one other command reply none good (inr e) (inl f) = absurd (not_refused old other command reply HostMemory f e.0.answer)

-- Two steps with one reply.
pub two_outcomes : (old one other : Machine) (command : Command) (reply : Reply) → IsGoodMachine old → MachineStep old command reply one → MachineStep old command reply other → AreOutcomes old one other
two_outcomes old one other command reply good e f = after_outcomes (first_of (refusals old.state command)) old one other command reply refl good e.outcome f.outcome

-- ---- which replies there may be

effect_replies : (old one other : Machine) (command : Command) (reply again : Reply) → IsGoodMachine old → first_of (refusals old.state command) ≡ None → tells_choice command ≡ false
    → MachineEffect old command reply one → MachineEffect old command again other → reply ≡ again
effect_replies old one other (VmoChild name parent Snapshot offset size resizable no_write) reply again good none told e f = e.0.0 ∙ sym f.0.0
effect_replies old one other (VmoPin pin name offset len) reply again good none told e f = absurd cc
effect_replies old one other (VmarAllocate region parent offset len flags caps) reply again good none told e f = absurd cc
effect_replies old one other (VmarMap region offset name vmo_offset len perm flags) reply again good none told e f = absurd cc
effect_replies old one other (MemRead region addr len) reply again good none told e f = e.0 ∙ sym f.0
effect_replies old one other (MemWrite region addr bytes) reply again good none told e f =
    let s = old.state in
    let ps = touched addr (length bytes) in
    let off = AllOff-from_none (refusals s (MemWrite region addr bytes)) none in
    let free = none_is (access_refusal s.content writing (s.spaces.table region.0) ps) off.1.1.1.0 in
    let through = through_outcomes s.spaces.table region.0 addr bytes ps (memory_of old) (memory_of one) (memory_of other) e.0 f.0 good.state.content (touched-from addr (length bytes)) free e.3 f.3 in
    e.1 ∙ (ap (λ (n : ℕ). Faults n) through.faults_are ∙ sym f.1)
effect_replies old one other command reply again good none told e f = e.0.0 ∙ sym f.0.0

-- Two replies to a command that tells no choice are one, unless one of them is want of memory.
pub one_reply : (old one other : Machine) (command : Command) (reply again : Reply) → IsGoodMachine old → tells_choice command ≡ false → MachineStep old command reply one
    → MachineStep old command again other → (reply ≡ again) ⊎ (reply ≡ Refused HostMemory) ⊎ (again ≡ Refused HostMemory)
one_reply old one other command reply again good told first second = go (first_of (refusals old.state command)) refl first.outcome second.outcome where
  go : (o : Option Refusal) → first_of (refusals old.state command) ≡ o → MachineStepAfter o old command reply one → MachineStepAfter o old command again other
      → (reply ≡ again) ⊎ (reply ≡ Refused HostMemory) ⊎ (again ≡ Refused HostMemory)
  go (Some refusal) none e f = inl (e.answer ∙ sym f.answer)
  go None none (inl e) (inl f) = inl (effect_replies old one other command reply again good none told e f)
  go None none (inr e) f = inr (inl e.0.answer)
  go None none (inl e) (inr f) = inr (inr f.0.answer)
