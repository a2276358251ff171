-- Laws of replies: each command has one in a good machine. Where it may want memory, that is a reply; and where it may not, it
-- needs no new frame.
use Rattle.std.proofs.Common.{◌≡◌, ℕ, ◌+◌, ◌*◌, ◌/◌, ◌<◌, ◌≤◌, Bool, true, false, not, List, [], ◌∷◌, length, replicate, Option, None, Some, refl, sym, ap, subst, ◌∙◌, inl, inr, arith}
use Rattle.std.specs.List.{All, AllByRecursion, list_any}
use Rattle.std.proofs.lemmas.Bool.{cases_Bool, or_parts, not-false}
use Rattle.std.proofs.lemmas.List.{length-replicate}
use Rattle.std.proofs.lemmas.List.Elements.{All-head, All-tail}
use Rattle.vm_base.specs.Pages.{rounded, replaced}
use Rattle.vm_base.specs.Entries.{without_key}
use Rattle.vm_base.specs.declared.limits.TheConstants.{PAGE}
use Rattle.vm_base.specs.declared.refusal.Refusal.{Refusal}
use Rattle.vm_base.specs.declared.refusal.Refusal.TheVariants.{HostMemory}
use Rattle.vm_base.proofs.EntryLaws.{some_same, none_is}
use Rattle.vm_model.specs.Machine.Words.{Command, Reply}
use Rattle.vm_model.specs.declared.command.Command.TheVariants.{VmoCreate, VmoChild, VmoClose, VmoSetSize, VmoWrite, VmoFill, VmoCommit, VmoDecommit, VmoZero, VmoPin, VmoUnpin, RootCreate, VmarAllocate, VmarMap, VmarUnmap, VmarProtect, VmarDestroy, MemRead, MemWrite}
use Rattle.vm_model.specs.declared.reply.Reply.TheVariants.{Done, Access, Faults, Refused}
use Rattle.vm_model.specs.declared.space.Entry.{Entry}
use Rattle.vm_model.specs.declared.space.Readiness.{Readiness}
use Rattle.vm_model.specs.declared.space.Readiness.TheVariants.{Read, Write}
use Rattle.vm_model.specs.Contents.Content.{Page, Content, shown, is_held, pages_of, sole, hold, IsGood}
use Rattle.vm_model.specs.Contents.Owning.{Owns, OwnsEach, pages_at}
use Rattle.vm_model.specs.Contents.Writing.{touched, Piece, piece, pieces, WritesPiece, Writes}
use Rattle.vm_model.specs.Contents.Zeroing.{zeroed, resized, Zeroes}
use Rattle.vm_model.specs.Naming.Pins.{is_pinned}
use Rattle.vm_model.specs.Space.Readiness.{is_writable, settled, with_ready}
use Rattle.vm_model.specs.Space.AddressSpaces.{without_region}
use Rattle.vm_model.specs.Space.Mappings.{unmapped}
use Rattle.vm_model.specs.Machine.State.{State, koid_of, place_of}
use Rattle.vm_model.specs.Machine.Leaving.{pruned}
use Rattle.vm_model.specs.Machine.Access.{Memory, bytes_through, read_faults, after_reading, piece_through, write_fault, WritesThrough}
use Rattle.vm_model.specs.Machine.Refusals.{refusals, first_of}
use Rattle.vm_model.specs.Machine.Machine.{Machine, memory_of, IsGoodMachine}
use Rattle.vm_model.specs.Machine.MachineStep.{ready_after, MachineEffect, may_want_memory, MachineStepAfter, MachineStep}
use Rattle.vm_model.proofs.ContentLaws.{sole_held}
use Rattle.vm_model.proofs.RangeLaws.{touched-from, part_fits}
use Rattle.vm_model.proofs.ZeroingLaws.{zeroed-none}
use Rattle.vm_model.proofs.StepLaws.{change_inside}
use Rattle.vm_model.proofs.MachineLaws.{MachineStep-done}
use Rattle.moving_model.proofs.FrameLaws.{KeepsFrames-WritesPiece}
use Rattle.moving_model.proofs.RowLaws.{WritesFits, writes_keeps, pieces_fit, all_over, all_map}
use Rattle.moving_model.proofs.HostLaws.{lack_may}

-- ---- tests of lists

-- where no element fails, each passes
none_fails : {A : Type 0} (test : A → Bool) (xs : List A) → list_any (λ x. not (test x)) xs ≡ false → AllByRecursion (λ x. test x ≡ true) xs
none_fails test [] e = tt
none_fails test (x ∷ xs) e = let parts = or_parts (not (test x)) (list_any (λ y. not (test y)) xs) e in (not-false (test x) parts.0, none_fails test xs parts.1)

-- where none passes, each fails
none_passes : {A : Type 0} (test : A → Bool) (xs : List A) → list_any test xs ≡ false → AllByRecursion (λ x. test x ≡ false) xs
none_passes test [] e = tt
none_passes test (x ∷ xs) e = let parts = or_parts (test x) (list_any test xs) e in (parts.0, none_passes test xs parts.1)

-- ---- pages that need no new frame

-- a sole page is owned as it is
owns_alone : (c : Content) (v p : ℕ) → sole c v p ≡ true → (tag : ℕ) × Owns c c v p tag
owns_alone c v p alone =
    let held = sole_held c v p alone in (
      held.0.tag,
      record {
        stays = λ e. (refl, λ page f. ap (λ (o : Page). o.tag) (some_same (sym held.1 ∙ f)));
        copies = λ e. absurd (let is = alone in cc);
      },
    )

owns_each : (c : Content) (v : ℕ) (ps : List ℕ) → AllByRecursion (λ p. sole c v p ≡ true) ps → OwnsEach c (pages_at v ps) c
owns_each c v [] all = refl
owns_each c v (p ∷ ps) all = let owns = owns_alone c v p all.0 in (c, owns.0, owns.1, owns_each c v ps all.1)

writes_alone : (c : Content) (part : Piece) → sole c part.koid part.page ≡ true → (x : Content) × WritesPiece c part x
writes_alone c part alone =
    let owns = owns_alone c part.koid part.page alone in (
      hold c part.koid part.page (record { tag = owns.0; bytes = replaced (shown c part.koid part.page) part.at part.bytes }),
      record { tag = owns.0; owned = c; owns = owns.1; bytes = refl },
    )

writes_each : (parts : List Piece) (c : Content) → WritesFits c parts → AllByRecursion (λ (part : Piece). sole c part.koid part.page ≡ true) parts → (x : Content) × Writes c parts x
writes_each [] c fits all = (c, refl)
writes_each (part ∷ parts) c fits all =
    let first = writes_alone c part all.0 in
    let keeps = writes_keeps (λ v p. true) c first.0 part parts fits first.1 in
    let later = all_map (λ (u : Piece). sole c u.koid u.page ≡ true) (λ (u : Piece). sole first.0 u.koid u.page ≡ true) parts
    (λ u alone. let held = sole_held c u.koid u.page alone in (keeps.0.stays u.koid u.page held.0 refl alone held.1).alone) all.1 in
    let rest = writes_each parts first.0 keeps.1 later in
    (rest.0, (first.0, first.1, rest.1))

write_alone : (c : Content) (v offset : ℕ) (bytes : List ℕ) → IsGood c → offset + length bytes ≤ pages_of c v * PAGE → AllByRecursion (λ p. sole c v p ≡ true) (touched offset (length bytes))
    → (x : Content) × Writes c (pieces v offset bytes) x
unfolding pieces
write_alone c v offset bytes good h all =
    writes_each (pieces v offset bytes) c (pieces_fit c v offset bytes good h) (all_over (piece v offset bytes) (λ (part : Piece). sole c part.koid part.page ≡ true) (touched offset (length bytes)) all)

-- where no page is held, zeroing leaves all as it is
zeroes_none : (c : Content) (v : ℕ) (pinned : ℕ → Bool) (offset len : ℕ) (ps : List ℕ) → AllByRecursion (λ p. is_held c v p ≡ false) ps → Zeroes c v pinned offset len ps c
zeroes_none c v pinned offset len [] all = refl
zeroes_none c v pinned offset len (p ∷ ps) all = (
  c,
  record {
    cleared = λ e. sym (zeroed-none c v p (p + 1) (λ q low high. let same : q ≡ p = omega arith in ap (c.page v) same ∙ none_is (c.page v p) all.0));
    held = λ e f. absurd (let free = all.0 in cc);
    zero = λ e f. refl;
  },
  zeroes_none c v pinned offset len ps all.1,
)

-- ---- writes through mappings

-- a page shows a sole page that lies in its VMO
record ShowsAlone (c : Content) (entries : ℕ → Option Entry) (p : ℕ) : Type 0 where
  pub entry : Entry
  pub is : entries p ≡ Some entry
  pub below : entry.page < pages_of c entry.koid.0
  pub alone : sole c entry.koid.0 entry.page ≡ true

through_alone : (table : ℕ → ℕ → Option Entry) (root addr : ℕ) (bytes ps : List ℕ) (old : Memory) → IsGood old.content → All (λ p. addr / PAGE ≤ p) ps
    → AllByRecursion (ShowsAlone old.content (table root)) ps → (faults : ℕ) × (new : Memory) × WritesThrough table root addr bytes ps old faults new
through_alone table root addr bytes [] old good from all = (0, old, (refl, refl))
through_alone table root addr bytes (p ∷ ps) old good from all =
    let shows = all.0 in
    let low = All-head (λ q. addr / PAGE ≤ q) p ps from in
    let part = piece_through shows.entry addr bytes p in
    let first = writes_alone old.content part shows.alone in
    let keeps = KeepsFrames-WritesPiece (λ v q. true) old.content part first.0 good shows.below (part_fits addr bytes p low) first.1 in
    let mid : Memory = record { content = first.0; ready = with_ready (settled old.content first.0 table old.ready) root p Write } in
    let later = all_map (ShowsAlone old.content (table root)) (ShowsAlone first.0 (table root)) ps (λ q there.
    let held = sole_held old.content there.entry.koid.0 there.entry.page there.alone in
    record {
      entry = there.entry;
      is = there.is;
      below = subst (λ (n : ℕ). there.entry.page < n) (sym (keeps.kept.pages there.entry.koid.0)) there.below;
      alone = (keeps.stays there.entry.koid.0 there.entry.page held.0 refl there.alone held.1).alone;
    }) all.1 in
    let rest = through_alone table root addr bytes ps mid keeps.kept.good (All-tail (λ q. addr / PAGE ≤ q) p ps from) later in
    (write_fault (old.ready root p) + rest.0, rest.1, (mid, rest.0, record { entry = shows.entry; is = shows.is; writes = first.1; ready = refl }, rest.2, refl))

-- a page that is ready for writing shows such a page
writable_is : (o : Option Readiness) → is_writable o ≡ true → o ≡ Some Write
writable_is None e = absurd cc
writable_is (Some Read) e = absurd cc
writable_is (Some Write) e = refl

ready_alone : (m : Machine) (root p : ℕ) → IsGoodMachine m → is_writable (m.ready root p) ≡ true → ShowsAlone m.state.content (m.state.spaces.table root) p
ready_alone m root p good e =
    let fine = good.ready root p Write (writable_is (m.ready root p) e) in
    record { entry = fine.entry; is = fine.is; below = fine.below; alone = fine.alone refl }

-- ---- all commands

-- a reply, and the machine that the command leads to
abbrev pub HasEffect : Machine → Command → Type 0
HasEffect old command = (reply : Reply) × (new : Machine) × MachineEffect old command reply new

effect_exists : (old : Machine) (command : Command) → IsGoodMachine old → first_of (refusals old.state command) ≡ None → may_want_memory old command ≡ false → HasEffect old command
effect_exists old (VmoCreate name size resizable) good none never = absurd cc
effect_exists old (VmoChild name parent kind offset size resizable no_write) good none never = absurd cc
effect_exists old (VmoPin pin name offset len) good none never = absurd cc
effect_exists old (RootCreate region) good none never = absurd cc
effect_exists old (VmarAllocate region parent offset len flags caps) good none never = absurd cc
effect_exists old (VmarMap region offset name vmo_offset len perm flags) good none never = absurd cc
effect_exists old (VmarProtect region addr len perm) good none never = absurd cc
effect_exists old (VmoClose name) good none never =
    let s : State = pruned (record (old.state) { names = without_key old.state.names name.0 }) in
    (Done, record { state = s; ready = ready_after old (VmoClose name) Done s }, ((refl, refl), refl))
effect_exists old (VmoUnpin pin) good none never =
    let s : State = pruned (record (old.state) { pins = without_key old.state.pins pin.0 }) in
    (Done, record { state = s; ready = ready_after old (VmoUnpin pin) Done s }, ((refl, refl), refl))
effect_exists old (VmarUnmap region addr len) good none never =
    let s : State = pruned (record (old.state) { spaces = unmapped old.state.spaces region.0 (addr / PAGE) (addr / PAGE + rounded len / PAGE) }) in
    (Done, record { state = s; ready = ready_after old (VmarUnmap region addr len) Done s }, ((refl, refl), refl))
effect_exists old (VmarDestroy region) good none never =
    let s : State = pruned (record (old.state) { spaces = without_region old.state.spaces region.0 }) in
    (Done, record { state = s; ready = ready_after old (VmarDestroy region) Done s }, ((refl, refl), refl))
effect_exists old (VmoDecommit name offset len) good none never =
    let s : State = record (old.state) { content = zeroed old.state.content (koid_of old.state name.0) (place_of old.state name.0 offset / PAGE) (place_of old.state name.0 (offset + len) / PAGE) } in
    (Done, record { state = s; ready = ready_after old (VmoDecommit name offset len) Done s }, ((refl, refl), refl))
effect_exists old (VmoSetSize name size) good none never =
    let s : State = record (old.state) { content = resized old.state.content (koid_of old.state name.0) (rounded size / PAGE) } in
    (Done, record { state = s; ready = ready_after old (VmoSetSize name size) Done s }, ((refl, refl), refl))
effect_exists old (VmoWrite name offset bytes) good none never =
    let v = koid_of old.state name.0 in
    let at = place_of old.state name.0 offset in
    let inside = change_inside old.state name.0 offset (length bytes) (touched at (length bytes)) good.state none in
    let made = write_alone old.state.content v at bytes good.state.content inside (none_fails (sole old.state.content v) (touched at (length bytes)) never) in
    let s : State = record (old.state) { content = made.0 } in
    (Done, record { state = s; ready = ready_after old (VmoWrite name offset bytes) Done s }, ((refl, refl, made.1), refl))
effect_exists old (VmoFill name offset len byte) good none never =
    let v = koid_of old.state name.0 in
    let at = place_of old.state name.0 offset in
    let inside = change_inside old.state name.0 offset len (touched at len) good.state none in
    let size = length-replicate len byte in
    let made = write_alone old.state.content v at (replicate len byte) good.state.content (omega (arith, inside, size))
    (subst (λ (n : ℕ). AllByRecursion (λ p. sole old.state.content v p ≡ true) (touched at n)) (sym size) (none_fails (sole old.state.content v) (touched at len) never)) in
    let s : State = record (old.state) { content = made.0 } in
    (Done, record { state = s; ready = ready_after old (VmoFill name offset len byte) Done s }, ((refl, refl, made.1), refl))
effect_exists old (VmoCommit name offset len) good none never =
    let v = koid_of old.state name.0 in
    let at = place_of old.state name.0 offset in
    let s = old.state in
    (Done, record { state = s; ready = ready_after old (VmoCommit name offset len) Done s }, ((refl, refl, owns_each old.state.content v (touched at len) (none_fails (sole old.state.content v) (touched at len) never)), refl))
effect_exists old (VmoZero name offset len) good none never =
    let v = koid_of old.state name.0 in
    let at = place_of old.state name.0 offset in
    let s = old.state in (
      Done,
      record { state = s; ready = ready_after old (VmoZero name offset len) Done s },
      ((refl, refl, zeroes_none s.content v (is_pinned s.pins v) at len (touched at len) (none_passes (is_held s.content v) (touched at len) never)), refl),
    )
effect_exists old (MemRead region addr len) good none never = (
  Access (read_faults (old.ready region.0) (touched addr len)) (bytes_through old.state.content (old.state.spaces.table region.0) addr len),
  record old { ready = after_reading region.0 (touched addr len) old.ready },
  (refl, refl),
)
effect_exists old (MemWrite region addr bytes) good none never =
    let ps = touched addr (length bytes) in
    let s = old.state in
    let shows = all_map (λ p. is_writable (old.ready region.0 p) ≡ true) (ShowsAlone s.content (s.spaces.table region.0)) ps (λ p e. ready_alone old region.0 p good e)
    (none_fails (λ p. is_writable (old.ready region.0 p)) ps never) in
    let made = through_alone s.spaces.table region.0 addr bytes ps (memory_of old) good.state.content (touched-from addr (length bytes)) shows in
    (Faults made.0, record { state = record s { content = made.1.content }; ready = made.1.ready }, (made.0, refl, refl, made.2))
-- a command that only asks
effect_exists old command good none never = (_, record { state = old.state; ready = ready_after old command Done old.state }, ((refl, refl), refl))

-- Each command has a reply in a good machine.
pub has_reply : (old : Machine) (command : Command) → IsGoodMachine old → (reply : Reply) × (new : Machine) × MachineStep old command reply new
has_reply old command good = go (first_of (refusals old.state command)) refl where
  go : (o : Option Refusal) → first_of (refusals old.state command) ≡ o → (reply : Reply) × (new : Machine) × MachineStep old command reply new
  go (Some refusal) e =
      (Refused refusal, old, record { outcome = subst (λ (o : Option Refusal). MachineStepAfter o old command (Refused refusal) old) (sym e) (record { answer = refl; same = refl }) })
  go None e = elim (cases_Bool (may_want_memory old command)) [
    | inl may ↦ (Refused HostMemory, old, lack_may old command e may)
    | inr never ↦ let made = effect_exists old command good e never in (made.0, made.1, MachineStep-done old command made.0 made.1 e made.2)
  ]
