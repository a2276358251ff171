-- Laws of pinned pages: a page that is pinned before and after a step keeps its frame.
use Rattle.std.proofs.Common.{◌≡◌, ℕ, ◌+◌, ◌*◌, ◌/◌, ◌<◌, ◌≤◌, Bool, true, false, ◌==◌, List, [], ◌∷◌, length, replicate, Option, None, Some, ◌⊎◌, refl, sym, ap, subst, ◌∙◌, inl, inr, arith}
use Rattle.std.specs.List.{All}
use Rattle.std.proofs.lemmas.Bool.{both_ways, ltb-false, not-false, and_parts}
use Rattle.std.proofs.lemmas.List.{length-replicate}
use Rattle.std.proofs.lemmas.List.Elements.{All-head, All-tail}
use Rattle.vm_base.specs.Pages.{rounded}
use Rattle.vm_base.specs.declared.limits.TheConstants.{PAGE, VMO_PAGES, NAMES}
use Rattle.vm_base.specs.declared.refusal.Refusal.{Refusal}
use Rattle.vm_base.proofs.EntryLaws.{none_is, any_entry_at, any_entry_found}
use Rattle.vm_model.specs.Machine.Words.{Command, Reply}
use Rattle.vm_model.specs.declared.command.Command.TheVariants.{VmoCreate, VmoChild, VmoClose, VmoSetSize, VmoWrite, VmoFill, VmoCommit, VmoDecommit, VmoZero, VmoPin, VmoUnpin, VmarAllocate, VmarMap, VmarUnmap, VmarDestroy, MemRead, MemWrite}
use Rattle.vm_model.specs.declared.command.ChildKind.TheVariants.{Snapshot, Slice, Reference}
use Rattle.vm_model.specs.declared.space.Entry.{Entry}
use Rattle.vm_model.specs.Contents.Content.{Page, Content, pages_of, created, sole, IsGood}
use Rattle.vm_model.specs.Contents.Owning.{pages_at}
use Rattle.vm_model.specs.Contents.Writing.{touched}
use Rattle.vm_model.specs.Contents.Zeroing.{owned_by_zero}
use Rattle.vm_model.specs.Naming.Pins.{Pin, covers, is_pinned, any_pinned}
use Rattle.vm_model.specs.Space.Rights.{writing}
use Rattle.vm_model.specs.Space.Readiness.{frame_at}
use Rattle.vm_model.specs.Machine.State.{State, is_open, target_of, koid_of, size_of, place_of, is_live, IsGoodState}
use Rattle.vm_model.specs.Machine.Leaving.{pruned}
use Rattle.vm_model.specs.Machine.Access.{Memory, piece_through, refusal_at, access_refusal, WritesThrough}
use Rattle.vm_model.specs.Machine.Refusals.{refusals, first_of}
use Rattle.vm_model.specs.Machine.Step.{with_vmo, with_snapshot, with_alias}
use Rattle.vm_model.specs.Machine.Machine.{Machine, memory_of, IsGoodMachine}
use Rattle.vm_model.specs.Machine.MachineStep.{MachineEffect, MachineStepAfter, MachineStep}
use Rattle.vm_model.proofs.PinLaws.{covers_parts, any_pinned_at}
use Rattle.vm_model.proofs.NamesLaws.{names-open}
use Rattle.vm_model.proofs.LiveLaws.{is_live-pinned}
use Rattle.vm_model.proofs.RangeLaws.{touched-from, part_fits}
use Rattle.vm_model.proofs.SharingLaws.{koid_held, page-only_stays}
use Rattle.vm_model.proofs.ZeroingLaws.{cases_within, page-zeroed_out, page-resized_stays}
use Rattle.vm_model.proofs.AccessLaws.{refusal_at-parts, access_refusal-same, access_refusal-parts}
use Rattle.vm_model.proofs.StepLaws.{AllOff-from_none, place_inside, change_inside}
use Rattle.moving_model.proofs.FrameLaws.{KeepsFrames, KeepsFrames-same, KeepsFrames-both, KeepsFrames-WritesPiece}
use Rattle.moving_model.proofs.TwinLaws.{frame_held}
use Rattle.moving_model.proofs.RowLaws.{owns_frames, touched_fit, write_frames, zero_frames}
use Rattle.moving_model.proofs.CopyLaws.{copies_frames}

-- a page that is pinned is sole
pub pinned_alone : (s : State) (v p : ℕ) → IsGoodState s → is_pinned s.pins v p ≡ true → sole s.content v p ≡ true
pinned_alone s v p good e =
    let found = any_entry_found NAMES (covers v p) s.pins e in
    let parts = covers_parts v p found.1 found.4 in
    subst (λ (w : ℕ). sole s.content w p ≡ true) parts.0 ((good.pins found.0 found.1 found.3).1.alone p parts.1 parts.2)

-- In new the page is held in this frame.
abbrev pub Stays : Content → (v p tag : ℕ) → Type 0
Stays new v p tag = (page : Page) × (new.page v p ≡ Some page) × (page.tag ≡ tag)

module _ (v p : ℕ) (held : Page) where
  -- where the page is as it was
  stays_same : (new : Content) (o : Option Page) → new.page v p ≡ o → o ≡ Some held → Stays new v p held.tag
  stays_same new o same e = (held, same ∙ e, refl)

  stays_frame : (old new : Content) → frame_at new v p ≡ frame_at old v p → old.page v p ≡ Some held → Stays new v p held.tag
  stays_frame old new same e = frame_held (old.page v p) (new.page v p) held e same

  -- where sole pages that are pinned keep their frames
  stays_kept : (s : State) (new : Content) → IsGoodState s → is_pinned s.pins v p ≡ true → s.content.page v p ≡ Some held → KeepsFrames (is_pinned s.pins) s.content new → Stays new v p held.tag
  stays_kept s new good pinned e keeps = let there = keeps.stays v p held pinned (pinned_alone s v p good pinned) e in (there.held, there.is, there.tag_is)

  -- a VMO of which a page is pinned stays
  pruned_page : (t : State) → is_pinned (pruned t).pins v p ≡ true → (pruned t).content.page v p ≡ t.content.page v p
  unfolding pruned
  pruned_page t pinned =
      let found = any_entry_found NAMES (covers v p) t.pins pinned in
      let mine = (and_parts (found.1.koid == v) _ found.4).0 in
      page-only_stays t.content (is_live t) v p (is_live-pinned t v (any_entry_at NAMES (λ (pin : Pin). pin.koid == v) t.pins found.0 found.1 found.2 found.3 mine))

  stays_pruned : (s : State) (t new : State) → new ≡ pruned t → t.content.page v p ≡ Some held → is_pinned new.pins v p ≡ true → Stays new.content v p held.tag
  stays_pruned s t new is e pinned =
      (held, ap (λ (u : State). u.content.page v p) is ∙ (pruned_page t (subst (λ (u : State). is_pinned u.pins v p ≡ true) is pinned) ∙ e), refl)

  -- where no page of a range is pinned, a pinned page lies outside of it
  outside : (s : State) (w first end : ℕ) → is_pinned s.pins v p ≡ true → any_pinned s.pins w first end ≡ false → v ≡ w → (p < first) ⊎ (end ≤ p)
  outside s w first end pinned none same = elim (cases_within first end p) [
    | inr out ↦ out
    | inl inside ↦ absurd (both_ways (any_pinned s.pins w first end) none (any_pinned_at s.pins w first end p inside.0 inside.1 (subst (λ (u : ℕ). is_pinned s.pins u p ≡ true) same pinned)))
  ]

  -- so it lies below an end past which no page is pinned
  below_end : (s : State) (w pages : ℕ) → IsGoodState s → s.content.page v p ≡ Some held → is_pinned s.pins v p ≡ true → any_pinned s.pins w pages (pages_of s.content w) ≡ false → v ≡ w → p < pages
  below_end s w pages good e pinned none same = elim (outside s w pages (pages_of s.content w) pinned none same) [
    | inl low ↦ low
    | inr past ↦ absurd (omega (arith, past, good.content.below v p held e, ap (pages_of s.content) same))
  ]

-- sole pages keep their frames where bytes are written through mappings
pub through_frames : (table : ℕ → ℕ → Option Entry) (root addr : ℕ) (bytes ps : List ℕ) (old : Memory) (faults : ℕ) (new : Memory) (test : ℕ → ℕ → Bool) → IsGood old.content
    → All (λ p. addr / PAGE ≤ p) ps → access_refusal old.content writing (table root) ps ≡ None → WritesThrough table root addr bytes ps old faults new → KeepsFrames test old.content new.content
through_frames table root addr bytes [] old faults new test good from free writes = KeepsFrames-same test old.content new.content good (ap (λ (m : Memory). m.content) writes.0)
through_frames table root addr bytes (p ∷ ps) old faults new test good from free writes =
    let mid = writes.0 in
    let w = writes.2 in
    let parts = access_refusal-parts old.content writing (table root) p ps free in
    let low = All-head (λ q. addr / PAGE ≤ q) p ps from in
    let below = (refusal_at-parts old.content writing w.entry (ap (refusal_at old.content writing) (sym w.is) ∙ parts.0)).1 in
    let keeps = KeepsFrames-WritesPiece test old.content (piece_through w.entry addr bytes p) mid.content good below (part_fits addr bytes p low) w.writes in
    KeepsFrames-both test old.content mid.content new.content keeps
    (through_frames table root addr bytes ps mid writes.1 new test keeps.kept.good (All-tail (λ q. addr / PAGE ≤ q) p ps from)
    (access_refusal-same old.content mid.content writing (table root) ps keeps.kept.pages ∙ parts.1) writes.3)

-- ---- all commands

module _ (v p : ℕ) (held : Page) where
  effect_stays : (old new : Machine) (command : Command) (reply : Reply) → IsGoodMachine old → first_of (refusals old.state command) ≡ None → MachineEffect old command reply new
      → old.state.content.page v p ≡ Some held → is_pinned old.state.pins v p ≡ true → is_pinned new.state.pins v p ≡ true → Stays new.state.content v p held.tag
  unfolding with_vmo created with_alias with_snapshot
  effect_stays old new (VmoCreate name size resizable) reply good none e at before after = stays_same v p held new.state.content (old.state.content.page v p) (ap (λ (s : State). s.content.page v p) e.0.1) at
  effect_stays old new (VmoChild name parent Snapshot offset size resizable no_write) reply good none e at before after =
      let s = old.state in
      let off = AllOff-from_none (refusals s (VmoChild name parent Snapshot offset size resizable no_write)) none in
      let end : offset + rounded size ≤ VMO_PAGES * PAGE = ltb-false (VMO_PAGES * PAGE) (offset + rounded size) off.1.1.1.0 in
      let same = copies_frames s (target_of s parent.0) (offset / PAGE) (rounded size / PAGE) good.state.content (omega (arith, end)) new.state.content e.0.2 v p (koid_held s.content v p held good.state.content at) in
      stays_frame v p held s.content new.state.content same at
  effect_stays old new (VmoChild name parent Slice offset size resizable no_write) reply good none e at before after = stays_same v p held new.state.content (old.state.content.page v p) (ap (λ (s : State). s.content.page v p) e.0.1) at
  effect_stays old new (VmoChild name parent Reference offset size resizable no_write) reply good none e at before after = stays_same v p held new.state.content (old.state.content.page v p) (ap (λ (s : State). s.content.page v p) e.0.1) at
  effect_stays old new (VmoClose name) reply good none e at before after = stays_pruned v p held old.state _ new.state e.0.1 at after
  effect_stays old new (VmoUnpin pin) reply good none e at before after = stays_pruned v p held old.state _ new.state e.0.1 at after
  effect_stays old new (VmarMap region offset name vmo_offset len perm flags) reply good none e at before after = stays_pruned v p held old.state _ new.state e.0.3 at after
  effect_stays old new (VmarUnmap region addr len) reply good none e at before after = stays_pruned v p held old.state _ new.state e.0.1 at after
  effect_stays old new (VmarDestroy region) reply good none e at before after = stays_pruned v p held old.state _ new.state e.0.1 at after
  effect_stays old new (VmoWrite name offset bytes) reply good none e at before after =
      let w = koid_of old.state name.0 in
      let place = place_of old.state name.0 offset in
      let inside = change_inside old.state name.0 offset (length bytes) (touched place (length bytes)) good.state none in
      stays_kept v p held old.state new.state.content good.state before at (write_frames (is_pinned old.state.pins) w place bytes old.state.content new.state.content good.state.content inside e.0.2)
  effect_stays old new (VmoFill name offset len byte) reply good none e at before after =
      let w = koid_of old.state name.0 in
      let place = place_of old.state name.0 offset in
      let inside = change_inside old.state name.0 offset len (touched place len) good.state none in
      stays_kept v p held old.state new.state.content good.state before at
      (write_frames (is_pinned old.state.pins) w place (replicate len byte) old.state.content new.state.content good.state.content (omega (arith, inside, length-replicate len byte)) e.0.2)
  effect_stays old new (VmoCommit name offset len) reply good none e at before after =
      let w = koid_of old.state name.0 in
      let place = place_of old.state name.0 offset in
      let inside = change_inside old.state name.0 offset len (touched place len) good.state none in
      stays_kept v p held old.state new.state.content good.state before at
      (owns_frames (is_pinned old.state.pins) (pages_at w (touched place len)) old.state.content new.state.content good.state.content (touched_fit old.state.content w place len good.state.content inside) e.0.2)
  effect_stays old new (VmoZero name offset len) reply good none e at before after =
      let w = koid_of old.state name.0 in
      let place = place_of old.state name.0 offset in
      let owned = owned_by_zero old.state.content w (is_pinned old.state.pins w) place len in
      let inside = change_inside old.state name.0 offset len owned good.state none in
      stays_kept v p held old.state new.state.content good.state before at (zero_frames (is_pinned old.state.pins) w place len old.state.content new.state.content good.state.content inside e.0.2)
  effect_stays old new (VmoPin pin name offset len) reply good none e at before after =
      let w = koid_of old.state name.0 in
      let place = place_of old.state name.0 offset in
      let off = AllOff-from_none (refusals old.state (VmoPin pin name offset len)) none in
      let is = names-open old.state name.0 (not-false (is_open old.state name.0) off.0) in
      let inside = place_inside old.state name.0 (target_of old.state name.0) offset len good.state is (ltb-false (size_of old.state name.0) (offset + len) off.1.1.1.0) in
      stays_kept v p held old.state new.state.content good.state before at
      (owns_frames (is_pinned old.state.pins) (pages_at w (touched place len)) old.state.content new.state.content good.state.content (touched_fit old.state.content w place len good.state.content inside) e.0.2)
  effect_stays old new (VmoDecommit name offset len) reply good none e at before after =
      let w = koid_of old.state name.0 in
      let off = AllOff-from_none (refusals old.state (VmoDecommit name offset len)) none in
      let first = place_of old.state name.0 offset / PAGE in
      let end = place_of old.state name.0 (offset + len) / PAGE in
      stays_same v p held new.state.content (old.state.content.page v p)
      (ap (λ (s : State). s.content.page v p) e.0.1 ∙ page-zeroed_out old.state.content w first end v p (outside v p held old.state w first end before off.1.1.1.1.1.0)) at
  effect_stays old new (VmoSetSize name size) reply good none e at before after =
      let w = koid_of old.state name.0 in
      let off = AllOff-from_none (refusals old.state (VmoSetSize name size)) none in
      stays_same v p held new.state.content (old.state.content.page v p)
      (ap (λ (s : State). s.content.page v p) e.0.1 ∙ page-resized_stays old.state.content w (rounded size / PAGE) v p (below_end v p held old.state w (rounded size / PAGE) good.state at before off.1.1.1.1.0)) at
  effect_stays old new (VmarAllocate region parent offset len flags caps) reply good none e at before after = stays_same v p held new.state.content (old.state.content.page v p) (ap (λ (s : State). s.content.page v p) e.0.3) at
  effect_stays old new (MemRead region addr len) reply good none e at before after = stays_same v p held new.state.content (old.state.content.page v p) (ap (λ (m : Machine). m.state.content.page v p) e.1) at
  effect_stays old new (MemWrite region addr bytes) reply good none e at before after =
      let s = old.state in
      let ps = touched addr (length bytes) in
      let off = AllOff-from_none (refusals s (MemWrite region addr bytes)) none in
      let free = none_is (access_refusal s.content writing (s.spaces.table region.0) ps) off.1.1.1.0 in
      stays_kept v p held s new.state.content good.state before at
      (through_frames s.spaces.table region.0 addr bytes ps (memory_of old) e.0 (memory_of new) (is_pinned s.pins) good.state.content (touched-from addr (length bytes)) free e.3)
  effect_stays old new command reply good none e at before after = stays_same v p held new.state.content (old.state.content.page v p) (ap (λ (s : State). s.content.page v p) e.0.1) at

  after_stays : (o : Option Refusal) (old new : Machine) (command : Command) (reply : Reply) → first_of (refusals old.state command) ≡ o → IsGoodMachine old → MachineStepAfter o old command reply new
      → old.state.content.page v p ≡ Some held → is_pinned old.state.pins v p ≡ true → is_pinned new.state.pins v p ≡ true → Stays new.state.content v p held.tag
  after_stays (Some refusal) old new command reply none good e at before after = (held, ap (λ (m : Machine). m.state.content.page v p) e.same ∙ at, refl)
  after_stays None old new command reply none good (inl e) at before after = effect_stays old new command reply good none e at before after
  after_stays None old new command reply none good (inr e) at before after = (held, ap (λ (m : Machine). m.state.content.page v p) e.0.same ∙ at, refl)

-- A page that is pinned before and after a step keeps its frame.
pub pinned_stays : (old new : Machine) (command : Command) (reply : Reply) → IsGoodMachine old → MachineStep old command reply new → (v p : ℕ) (held : Page)
    → old.state.content.page v p ≡ Some held → is_pinned old.state.pins v p ≡ true → is_pinned new.state.pins v p ≡ true → Stays new.state.content v p held.tag
pinned_stays old new command reply good step v p held at before after =
    after_stays v p held (first_of (refusals old.state command)) old new command reply refl good step.outcome at before after
