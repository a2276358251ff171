-- Laws of what is ready after a command: every page that is ready then is good.
use Rattle.std.proofs.Common.{◌≡◌, ℕ, ◌+◌, ◌*◌, ◌/◌, ◌<◌, ◌≤◌, ◌==◌, Bool, true, false, not, cond, ◌&&◌, List, length, replicate, Option, None, Some, ◌⊎◌, refl, sym, ap, subst, ◌∙◌, inl, inr, arith}
use Rattle.std.specs.Option.{option_map}
use Rattle.std.proofs.lemmas.Bool.{and_cases, and_from, both_ways, ltb-false, eq-eqb, not-false}
use Rattle.std.proofs.lemmas.List.{length-replicate}
use Rattle.vm_base.specs.Entries.{passes, without_key}
use Rattle.vm_base.specs.Pages.{rounded}
use Rattle.vm_base.specs.declared.flags.Perm.{Perm}
use Rattle.vm_base.specs.declared.limits.TheConstants.{PAGE, VMO_PAGES}
use Rattle.vm_base.proofs.EntryLaws.{some_same, passes-some}
use Rattle.vm_model.specs.Machine.Words.{Command, Reply}
use Rattle.vm_model.specs.declared.command.Command.TheVariants.{VmoCreate, VmoChild, VmoClose, VmoSetSize, VmoWrite, VmoFill, VmoCommit, VmoDecommit, VmoZero, VmoPin, VmoUnpin, RootCreate, VmarAllocate, VmarMap, VmarUnmap, VmarProtect, VmarDestroy, MemRead, MemWrite}
use Rattle.vm_model.specs.declared.command.ChildKind.TheVariants.{Snapshot as SnapshotChild, Slice as SliceChild, Reference as ReferenceChild}
use Rattle.vm_model.specs.declared.reply.Reply.TheVariants.{Address}
use Rattle.vm_model.specs.declared.space.Entry.{Entry}
use Rattle.vm_model.specs.declared.space.Readiness.{Readiness}
use Rattle.vm_model.specs.declared.space.Readiness.TheVariants.{Read}
use Rattle.vm_model.specs.declared.names.Target.{Target}
use Rattle.vm_model.specs.Contents.Content.{Content, sole, pages_of, IsGood}
use Rattle.vm_model.specs.Contents.Owning.{OwnsAll}
use Rattle.vm_model.specs.Contents.Sharing.{only}
use Rattle.vm_model.specs.Contents.Writing.{touched, pieces, Writes}
use Rattle.vm_model.specs.Contents.Zeroing.{is_within, zeroed, resized, Zeroes, owned_by_zero}
use Rattle.vm_model.specs.Naming.Pins.{is_pinned}
use Rattle.vm_model.specs.Space.Regions.{region_of, is_at_or_below}
use Rattle.vm_model.specs.Space.Table.{mapping_from, with_perm}
use Rattle.vm_model.specs.Space.AddressSpaces.{Spaces, without_region}
use Rattle.vm_model.specs.Space.Mappings.{entry_of, with_mapping, unmapped, protected}
use Rattle.vm_model.specs.Space.Readiness.{Ready, frame_at, settled, unready, shows_in, shows_but, read_only_but}
use Rattle.vm_model.specs.Machine.State.{State, is_open, is_live, target_of, koid_of, size_of, place_of, pinned_copies}
use Rattle.vm_model.specs.Machine.Leaving.{pruned}
use Rattle.vm_model.specs.Machine.Given.{GivesName}
use Rattle.vm_model.specs.Machine.Machine.{Machine, IsGoodReady, IsGoodMachine}
use Rattle.vm_model.specs.Machine.MachineStep.{ready_after}
use Rattle.vm_model.specs.Machine.Refusals.{refusals, first_of}
use Rattle.vm_model.specs.Machine.Step.{seen_pages, with_vmo, with_snapshot, slice_of, reference_of, with_alias, ChangesContent, Effect}
use Rattle.vm_model.proofs.CommitLaws.{OwnsAll-keeps}
use Rattle.vm_model.proofs.FrameLaws.{KeepsAlone, KeepsAlone-pages, KeepsAlone-own, KeepsAlone-created, KeepsAlone-zeroed, KeepsAlone-resized, KeepsAlone-only}
use Rattle.vm_model.proofs.NamesLaws.{names-open}
use Rattle.vm_model.proofs.ReadinessLaws.{keeps_frame-parts, settled-some}
use Rattle.vm_model.proofs.KeepLaws.{copies_keep}
use Rattle.vm_model.proofs.SpaceLaws.{without_regions-was}
use Rattle.vm_model.proofs.StepLaws.{AllOff-from_none, place_inside, change_inside}
use Rattle.vm_model.proofs.TableLaws.{with_pages-was}
use Rattle.vm_model.proofs.WritingLaws.{Writes-keeps}
use Rattle.vm_model.proofs.ZeroesLaws.{Zeroes-own}
use Rattle.vm_model.proofs.ZeroingLaws.{is_within-true, cases_zeroed}

-- ---- what settled ready is

-- what is ready still, once the state is new
abbrev settled_in : Machine → State → Ready
settled_in old new = settled old.state.content new.content new.spaces.table old.ready

-- A page that is ready still was good, and what it shows now has the frame that it had and lies in its VMO.
record IsStillReady (old : Machine) (new : State) (root p : ℕ) (readiness : Readiness) : Type 0 where
  pub was : IsGoodReady old.state root p readiness
  pub entry : Entry
  pub is : new.spaces.table root p ≡ Some entry
  pub frame : frame_at new.content entry.koid.0 entry.page ≡ frame_at old.state.content entry.koid.0 entry.page
  pub below : entry.page < pages_of new.content entry.koid.0

-- what is settled is ready still
IsStillReady-from_settled : (old : Machine) (new : State) → IsGoodMachine old → (root p : ℕ) (readiness : Readiness) → settled_in old new root p ≡ Some readiness
    → IsStillReady old new root p readiness
IsStillReady-from_settled old new good root p readiness e =
    let still = settled-some old.state.content new.content new.spaces.table old.ready root p readiness e in
    let parts = keeps_frame-parts old.state.content new.content still.0 still.2 in
    record { was = good.ready root p readiness still.3; entry = still.0; is = still.1; frame = parts.0; below = parts.1 }

-- it is good where it shows what it showed, and that stays sole
still_good : (old : Machine) (new : State) (root p : ℕ) (readiness : Readiness) → (still : IsStillReady old new root p readiness)
    → old.state.spaces.table root p ≡ Some still.entry
    → (sole old.state.content still.entry.koid.0 still.entry.page ≡ true → sole new.content still.entry.koid.0 still.entry.page ≡ true)
    → IsGoodReady new root p readiness
still_good old new root p readiness still shown alone = record {
  entry = still.entry;
  is = still.is;
  below = still.below;
  alone = λ writes. alone
      (subst (λ (x : Entry). sole old.state.content x.koid.0 x.page ≡ true) (some_same (sym still.was.is ∙ shown)) (still.was.alone writes));
}

-- ---- where pages show what they showed

-- sole pages that keep their frames stay sole, and each entry was there
record KeepsShown (old new : State) : Type 0 where
  pub alone : KeepsAlone old.content new.content
  pub entries : (root p : ℕ) (entry : Entry) → new.spaces.table root p ≡ Some entry → old.spaces.table root p ≡ Some entry

-- so what is settled is good
shown_good : (old : Machine) (new : State) → IsGoodMachine old → KeepsShown old.state new → (root p : ℕ) (readiness : Readiness)
    → settled_in old new root p ≡ Some readiness → IsGoodReady new root p readiness
shown_good old new good keeps root p readiness e =
    let still = IsStillReady-from_settled old new good root p readiness e in
    still_good old new root p readiness still (keeps.entries root p still.entry still.is) (λ was.
    keeps.alone still.entry.koid.0 still.entry.page was still.frame)

-- where nothing changes
KeepsShown-same : (old new : State) → new ≡ old → KeepsShown old new
KeepsShown-same old new e = subst (KeepsShown old) (sym e) (record { alone = λ w q alone same. alone; entries = λ root p entry there. there })

-- where address spaces do not change
KeepsShown-content : (old new : State) → new.spaces ≡ old.spaces → KeepsAlone old.content new.content → KeepsShown old new
KeepsShown-content old new e alone = record { alone = alone; entries = λ root p entry there. ap (λ (s : Spaces). s.table root p) (sym e) ∙ there }

-- where VMOs leave
KeepsShown-pruned : (old less : State) → IsGood old.content → less.content ≡ old.content
    → ((root p : ℕ) (entry : Entry) → less.spaces.table root p ≡ Some entry → old.spaces.table root p ≡ Some entry) → KeepsShown old (pruned less)
unfolding pruned
KeepsShown-pruned old less good same entries = record {
  alone = subst (λ (c : Content). KeepsAlone c (only less.content (is_live less))) same
      (KeepsAlone-only less.content (is_live less) (subst IsGood (sym same) good));
  entries = entries;
}

-- ---- where pages are mapped or protected

-- a page that is ready is none of the range
unready_parts : (ready : Ready) (root first end r p : ℕ) (readiness : Readiness) → unready ready root first end r p ≡ Some readiness
    → (r ≡ root → first ≤ p → p < end → ⊥) × (ready r p ≡ Some readiness)
unfolding unready
unready_parts ready root first end r p readiness e = go ((r == root) && is_within first end p) refl e where
  go : (b : Bool) → ((r == root) && is_within first end p) ≡ b → cond b None (ready r p) ≡ Some readiness
      → (r ≡ root → first ≤ p → p < end → ⊥) × (ready r p ≡ Some readiness)
  go true f g = absurd cc
  go false f g = (
    λ same low high. both_ways ((r == root) && is_within first end p) f (and_from (r == root) (is_within first end p) (eq-eqb r root same) (is_within-true first end p low high)),
    g,
  )

-- what is settled outside of a range is good where each entry outside of it was there
unready_good : (old : Machine) (new : State) (root first end : ℕ) → IsGoodMachine old → KeepsAlone old.state.content new.content
    → ((r p : ℕ) (entry : Entry) → (r ≡ root → first ≤ p → p < end → ⊥) → new.spaces.table r p ≡ Some entry → old.state.spaces.table r p ≡ Some entry)
    → (r p : ℕ) (readiness : Readiness) → unready (settled_in old new) root first end r p ≡ Some readiness → IsGoodReady new r p readiness
unready_good old new root first end good alone entries r p readiness e =
    let parts = unready_parts (settled_in old new) root first end r p readiness e in
    let still = IsStillReady-from_settled old new good r p readiness parts.1 in
    still_good old new r p readiness still (entries r p still.entry parts.0 still.is) (λ was. alone still.entry.koid.0 still.entry.page was still.frame)

-- ---- a snapshot

-- a page that is ready then is ready for reading, and was for something, or it shows no page of the range that does not pass
read_only_cases : (stays : ℕ → Bool) (table : ℕ → ℕ → Option Entry) (v first end : ℕ) (ready : Ready) (root p : ℕ) (readiness : Readiness)
    → read_only_but stays table v first end ready root p ≡ Some readiness
    → ((before : Readiness) × (ready root p ≡ Some before) × (readiness ≡ Read))
    ⊎ ((passes (shows_but stays v first end) (table root p) ≡ false) × (ready root p ≡ Some readiness))
unfolding read_only_but
read_only_cases stays table v first end ready root p readiness e = go (passes (shows_but stays v first end) (table root p)) refl (ready root p) refl e where
  go : (b : Bool) → passes (shows_but stays v first end) (table root p) ≡ b → (o : Option Readiness) → ready root p ≡ o
      → cond b (option_map (λ (any : Readiness). Read) o) o ≡ Some readiness
      → ((before : Readiness) × (ready root p ≡ Some before) × (readiness ≡ Read))
      ⊎ ((passes (shows_but stays v first end) (table root p) ≡ false) × (ready root p ≡ Some readiness))
  go true f None g h = absurd cc
  go true f (Some before) g h = inl (before, g, sym (some_same h))
  go false f o g h = inr (f, g ∙ h)

-- an entry that shows no page of the range which does not pass shows one out of the range, or one that passes
shows_but-off : (stays : ℕ → Bool) (v first end : ℕ) (entry : Entry) → shows_but stays v first end entry ≡ false
    → entry.koid.0 ≡ v → ((entry.page < first) ⊎ (end ≤ entry.page)) ⊎ (stays entry.page ≡ true)
shows_but-off stays v first end entry off same = elim (and_cases (shows_in v first end entry) (not (stays entry.page)) off) [
  | inr passes ↦ inr (not-false (stays entry.page) passes)
  | inl out ↦ elim (cases_zeroed v first end entry.koid.0 entry.page) [
    | inr else ↦ inl (else same)
    | inl inside ↦ absurd (both_ways (shows_in v first end entry) out
        (and_from (entry.koid.0 == v) (is_within first end entry.page) (eq-eqb entry.koid.0 v inside.0) (is_within-true first end entry.page inside.1 inside.2)))
  ]
]

-- what shows a page of which a snapshot is made may be read still, and the other pages and the pinned ones stay sole
snapshot_good : (old : Machine) (new : State) (name : ℕ) (target : Target) (start pages : ℕ) (resizable no_write : Bool) → IsGoodMachine old → pages ≤ VMO_PAGES
    → ChangesContent (with_snapshot old.state name target start pages resizable no_write) new
    → OwnsAll (with_snapshot old.state name target start pages resizable no_write).content old.state.content.next (pinned_copies old.state target start pages) new.content
    → (root p : ℕ) (readiness : Readiness)
    → read_only_but (is_pinned old.state.pins target.koid.0) old.state.spaces.table target.koid.0 (target.first + start) (target.first + start + seen_pages old.state.content target start pages)
    (settled_in old new) root p ≡ Some readiness
    → IsGoodReady new root p readiness
unfolding with_snapshot
snapshot_good old new name target start pages resizable no_write good few change owns root p readiness e =
    let c = old.state.content in
    let v = target.koid.0 in
    let first = target.first + start in
    let seen = seen_pages c target start pages in
    let pinned = is_pinned old.state.pins v in
    let keeps = copies_keep old.state target start pages new.content good.state.content few owns in
    elim (read_only_cases pinned old.state.spaces.table v first (first + seen) (settled_in old new) root p readiness e) [
      | inl reads ↦
          let still = IsStillReady-from_settled old new good root p reads.0 reads.1 in
          record { entry = still.entry; is = still.is; below = still.below; alone = λ writes. absurd (let read = reads.2 in cc) }
      | inr other ↦
          let still = IsStillReady-from_settled old new good root p readiness other.1 in
          let there : old.state.spaces.table root p ≡ Some still.entry = ap (λ (s : State). s.spaces.table root p) (sym change) ∙ still.is in
          let unseen : shows_but pinned v first (first + seen) still.entry ≡ false =
          sym (passes-some (shows_but pinned v first (first + seen)) (old.state.spaces.table root p) still.entry there) ∙ other.0 in
          still_good old new root p readiness still there
          (keeps.alone still.entry.koid.0 still.entry.page (shows_but-off pinned v first (first + seen) still.entry unseen))
    ]

-- ---- what each kind of change shows

-- a VMO more
KeepsShown-vmo : (old : State) (name pages : ℕ) (resizable : Bool) → IsGood old.content → KeepsShown old (with_vmo old name pages resizable)
unfolding with_vmo
KeepsShown-vmo old name pages resizable good =
    KeepsShown-content old (with_vmo old name pages resizable) refl (KeepsAlone-created old.content pages good)

-- a name more
KeepsShown-alias : (old : State) (name : ℕ) (target : Target) → KeepsShown old (with_alias old name target)
unfolding with_alias
KeepsShown-alias old name target = KeepsShown-content old (with_alias old name target) refl (λ w q alone same. alone)

-- pieces written inside a VMO
KeepsShown-writes : (old new : State) (v offset : ℕ) (bytes : List ℕ) → IsGood old.content → offset + length bytes ≤ pages_of old.content v * PAGE → ChangesContent old new
    → Writes old.content (pieces v offset bytes) new.content → KeepsShown old new
KeepsShown-writes old new v offset bytes good inside change writes =
    KeepsShown-content old new (ap (λ (s : State). s.spaces) change) (KeepsAlone-pages old.content new.content (Writes-keeps (λ w q. true) v offset bytes old.content new.content good inside writes))

-- pages owned inside a VMO
KeepsShown-owns : (old new : State) (v offset len : ℕ) → IsGood old.content → offset + len ≤ pages_of old.content v * PAGE → new.spaces ≡ old.spaces
    → OwnsAll old.content v (touched offset len) new.content → KeepsShown old new
KeepsShown-owns old new v offset len good inside same owns =
    KeepsShown-content old new same (KeepsAlone-pages old.content new.content (OwnsAll-keeps (λ w q. true) v offset len old.content new.content good inside owns))

-- a range zeroed inside a VMO
KeepsShown-zeroes : (old new : State) (v : ℕ) (pinned : ℕ → Bool) (offset len : ℕ) → IsGood old.content → offset + len ≤ pages_of old.content v * PAGE → ChangesContent old new
    → Zeroes old.content v pinned offset len (touched offset len) new.content → KeepsShown old new
KeepsShown-zeroes old new v pinned offset len good inside change zeroes =
    KeepsShown-content old new (ap (λ (s : State). s.spaces) change) (KeepsAlone-own old.content new.content (Zeroes-own v pinned offset len old.content new.content good inside zeroes))

-- a mapping
map_good : (old : Machine) (root first count : ℕ) (entry : Entry) → IsGoodMachine old → (r p : ℕ) (readiness : Readiness)
    → unready (settled_in old (pruned (record old.state { spaces = with_mapping old.state.spaces root first count entry }))) root (first * PAGE / PAGE) (first * PAGE / PAGE + count) r p ≡ Some readiness
    → IsGoodReady (pruned (record old.state { spaces = with_mapping old.state.spaces root first count entry })) r p readiness
unfolding pruned
map_good old root first count entry good r p readiness e =
    let less : State = record old.state { spaces = with_mapping old.state.spaces root first count entry } in
    unready_good old (pruned less) root (first * PAGE / PAGE) (first * PAGE / PAGE + count) good (KeepsAlone-only old.state.content (is_live less) good.state.content)
    (λ s q x out there. elim (with_pages-was old.state.spaces.table root first (first + count) (mapping_from first entry) s q x there) [
      | inl new ↦ absurd (out new.0 (omega (arith, new.1)) (omega (arith, new.2)))
      | inr was ↦ was.1
    ]) r p readiness e

-- other permissions
protect_good : (old : Machine) (root first end : ℕ) (perm : Perm) → IsGoodMachine old → (r p : ℕ) (readiness : Readiness)
    → unready (settled_in old (record old.state { spaces = protected old.state.spaces root first end perm })) root first end r p ≡ Some readiness
    → IsGoodReady (record old.state { spaces = protected old.state.spaces root first end perm }) r p readiness
protect_good old root first end perm good r p readiness e =
    unready_good old (record old.state { spaces = protected old.state.spaces root first end perm }) root first end good (λ w q alone same. alone)
    (λ s q x out there. elim (with_pages-was old.state.spaces.table root first end (with_perm perm (old.state.spaces.table root)) s q x there) [
      | inl new ↦ absurd (out new.0 new.1 new.2)
      | inr was ↦ was.1
    ]) r p readiness e

-- pages that are unmapped
KeepsShown-unmapped : (old : State) (name first end : ℕ) → IsGood old.content → KeepsShown old (pruned (record old { spaces = unmapped old.spaces name first end }))
KeepsShown-unmapped old name first end good =
    KeepsShown-pruned old (record old { spaces = unmapped old.spaces name first end }) good refl (λ root p entry there.
    elim (with_pages-was old.spaces.table (region_of old.spaces.regions name).root.0 first end (λ q. None) root p entry there) [
      | inl none ↦ absurd (let nothing = none.3 in cc)
      | inr was ↦ was.1
    ])

-- regions that die
KeepsShown-destroyed : (old : State) (name : ℕ) → IsGood old.content → KeepsShown old (pruned (record old { spaces = without_region old.spaces name }))
KeepsShown-destroyed old name good =
    KeepsShown-pruned old (record old { spaces = without_region old.spaces name }) good refl (λ root p entry there.
    (without_regions-was old.spaces.table (is_at_or_below old.spaces.regions name) root p entry there).0)

-- ---- a command

-- what is ready after a command is good
abbrev IsGoodAfter : Machine → Command → Reply → State → Type 0
IsGoodAfter old command reply new =
    (root p : ℕ) (readiness : Readiness) → ready_after old command reply new root p ≡ Some readiness → IsGoodReady new root p readiness

-- so it is after the effect of a command that nothing refuses
pub ready_keeps : (old : Machine) (command : Command) (reply : Reply) (new : State) → IsGoodMachine old → GivesName command → first_of (refusals old.state command) ≡ None
    → Effect old.state command reply new → (root p : ℕ) (readiness : Readiness) → ready_after old command reply new root p ≡ Some readiness → IsGoodReady new root p readiness
ready_keeps old (VmoCreate name size resizable) reply new good h none effect =
    shown_good old new good (subst (KeepsShown old.state) (sym effect.1) (KeepsShown-vmo old.state name.0 (rounded size / PAGE) resizable good.state.content))
ready_keeps old (VmoChild name parent SnapshotChild offset size resizable no_write) reply new good h none effect =
    let off = AllOff-from_none (refusals old.state (VmoChild name parent SnapshotChild offset size resizable no_write)) none in
    let few : offset + rounded size ≤ VMO_PAGES * PAGE = ltb-false (VMO_PAGES * PAGE) (offset + rounded size) off.1.1.1.0 in
    snapshot_good old new name.0 (target_of old.state parent.0) (offset / PAGE) (rounded size / PAGE) resizable no_write good (omega arith) effect.1 effect.2
ready_keeps old (VmoChild name parent SliceChild offset size resizable no_write) reply new good h none effect =
    shown_good old new good (subst (KeepsShown old.state) (sym effect.1) (KeepsShown-alias old.state name.0 (slice_of (target_of old.state parent.0) (offset / PAGE) (rounded size / PAGE) no_write)))
ready_keeps old (VmoChild name parent ReferenceChild offset size resizable no_write) reply new good h none effect =
    shown_good old new good (subst (KeepsShown old.state) (sym effect.1) (KeepsShown-alias old.state name.0 (reference_of (target_of old.state parent.0) resizable no_write)))
ready_keeps old (VmoClose name) reply new good h none effect =
    let less = record old.state { names = without_key old.state.names name.0 } in
    shown_good old new good (subst (KeepsShown old.state) (sym effect.1) (KeepsShown-pruned old.state less good.state.content refl (λ r q entry there. there)))
ready_keeps old (VmoWrite name offset bytes) reply new good h none effect =
    let s = old.state in
    let inside = change_inside s name.0 offset (length bytes) (touched (place_of s name.0 offset) (length bytes)) good.state none in
    shown_good old new good (KeepsShown-writes s new (koid_of s name.0) (place_of s name.0 offset) bytes good.state.content inside effect.1 effect.2)
ready_keeps old (VmoFill name offset len byte) reply new good h none effect =
    let s = old.state in
    let inside = change_inside s name.0 offset len (touched (place_of s name.0 offset) len) good.state none in
    let fits : place_of s name.0 offset + length (replicate len byte) ≤ pages_of s.content (koid_of s name.0) * PAGE = omega (arith, inside, length-replicate len byte) in
    shown_good old new good (KeepsShown-writes s new (koid_of s name.0) (place_of s name.0 offset) (replicate len byte) good.state.content fits effect.1 effect.2)
ready_keeps old (VmoCommit name offset len) reply new good h none effect =
    let s = old.state in
    let inside = change_inside s name.0 offset len (touched (place_of s name.0 offset) len) good.state none in
    shown_good old new good (KeepsShown-owns s new (koid_of s name.0) (place_of s name.0 offset) len good.state.content inside (ap (λ (t : State). t.spaces) effect.1) effect.2)
ready_keeps old (VmoDecommit name offset len) reply new good h none effect =
    let s = old.state in
    let v = koid_of s name.0 in
    let first = place_of s name.0 offset / PAGE in
    let end = place_of s name.0 (offset + len) / PAGE in
    shown_good old new good (subst (KeepsShown s) (sym effect.1)
    (KeepsShown-content s (record s { content = zeroed s.content v first end }) refl (KeepsAlone-zeroed s.content v first end good.state.content)))
ready_keeps old (VmoZero name offset len) reply new good h none effect =
    let s = old.state in
    let pinned = is_pinned s.pins (koid_of s name.0) in
    let inside = change_inside s name.0 offset len (owned_by_zero s.content (koid_of s name.0) pinned (place_of s name.0 offset) len) good.state none in
    shown_good old new good (KeepsShown-zeroes s new (koid_of s name.0) pinned (place_of s name.0 offset) len good.state.content inside effect.1 effect.2)
ready_keeps old (VmoSetSize name size) reply new good h none effect =
    let s = old.state in
    let v = koid_of s name.0 in
    shown_good old new good (subst (KeepsShown s) (sym effect.1)
    (KeepsShown-content s (record s { content = resized s.content v (rounded size / PAGE) }) refl (KeepsAlone-resized s.content v (rounded size / PAGE) good.state.content)))
ready_keeps old (VmoPin pin name offset len) reply new good h none effect =
    let s = old.state in
    let off = AllOff-from_none (refusals s (VmoPin pin name offset len)) none in
    let is = names-open s name.0 (not-false (is_open s name.0) off.0) in
    let inside = place_inside s name.0 (target_of s name.0) offset len good.state is (ltb-false (size_of s name.0) (offset + len) off.1.1.1.0) in
    shown_good old new good (KeepsShown-owns s new (koid_of s name.0) (place_of s name.0 offset) len good.state.content inside (ap (λ (t : State). t.spaces) effect.1) effect.2)
ready_keeps old (VmoUnpin pin) reply new good h none effect =
    let less = record old.state { pins = without_key old.state.pins pin.0 } in
    shown_good old new good (subst (KeepsShown old.state) (sym effect.1) (KeepsShown-pruned old.state less good.state.content refl (λ r q entry there. there)))
ready_keeps old (RootCreate region) reply new good h none effect =
    shown_good old new good (subst (KeepsShown old.state) (sym effect.1) (record { alone = λ w q alone same. alone; entries = λ r q entry there. there }))
ready_keeps old (VmarAllocate region parent offset len flags caps) reply new good h none effect =
    shown_good old new good (subst (KeepsShown old.state) (sym effect.3) (record { alone = λ w q alone same. alone; entries = λ r q entry there. there }))
ready_keeps old (VmarMap region offset name vmo_offset len perm flags) reply new good h none effect =
    let command = VmarMap region offset name vmo_offset len perm flags in
    let above = region_of old.state.spaces.regions region.0 in
    let entry = entry_of above region.0 (target_of old.state name.0) (vmo_offset / PAGE) perm in
    subst (λ (r : Reply). IsGoodAfter old command r new) (sym effect.1) (subst (IsGoodAfter old command (Address (effect.0 * PAGE))) (sym effect.3)
    (map_good old above.root.0 effect.0 (rounded len / PAGE) entry good))
ready_keeps old (VmarUnmap region addr len) reply new good h none effect =
    shown_good old new good (subst (KeepsShown old.state) (sym effect.1) (KeepsShown-unmapped old.state region.0 (addr / PAGE) (addr / PAGE + rounded len / PAGE) good.state.content))
ready_keeps old (VmarProtect region addr len perm) reply new good h none effect =
    subst (IsGoodAfter old (VmarProtect region addr len perm) reply) (sym effect.1)
    (protect_good old (region_of old.state.spaces.regions region.0).root.0 (addr / PAGE) (addr / PAGE + rounded len / PAGE) perm good)
ready_keeps old (VmarDestroy region) reply new good h none effect =
    shown_good old new good (subst (KeepsShown old.state) (sym effect.1) (KeepsShown-destroyed old.state region.0 good.state.content))
ready_keeps old (MemRead region addr len) reply new good h none effect = absurd effect
ready_keeps old (MemWrite region addr bytes) reply new good h none effect = absurd effect
ready_keeps old command reply new good h none effect = shown_good old new good (KeepsShown-same old.state new effect.1)
