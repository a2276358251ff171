-- Laws of what commands do under other numbers of frames: what a command does in a state, renamed, it may do in the renamed state.
use Rattle.std.proofs.Common.{◌≡◌, ℕ, zero, suc, ◌+◌, ◌-◌, ◌*◌, ◌/◌, ◌<◌, ◌≤◌, true, cond, List, ◌∷◌, map, replicate, Option, None, Some, refl, sym, ap, subst, ◌∙◌, arith}
use Rattle.std.specs.Option.{option_map}
use Rattle.std.specs.List.{range_with_len}
use Rattle.vm_base.specs.Pages.{rounded}
use Rattle.vm_base.specs.Search.{count_below}
use Rattle.vm_base.specs.declared.limits.TheConstants.{PAGE}
use Rattle.vm_base.proofs.EntryLaws.{with_key-same}
use Rattle.vm_model.specs.Machine.Words.{Command, Reply}
use Rattle.vm_model.specs.declared.command.Command.TheVariants.{VmoCreate, VmoChild, VmoClose, VmoSetSize, VmoRead, VmoWrite, VmoFill, VmoCommit, VmoDecommit, VmoZero, VmoPin, VmoUnpin, VmoInfo, VmarAllocate, VmarMap, VmarUnmap, VmarDestroy, MemRead, MemWrite, Stat}
use Rattle.vm_model.specs.declared.command.ChildKind.TheVariants.{Snapshot, Slice, Reference}
use Rattle.vm_model.specs.declared.reply.Reply.TheVariants.{Bytes, Pins, Info as InfoReply, Stat as StatReply}
use Rattle.vm_model.specs.declared.names.Target.{Target}
use Rattle.vm_model.specs.declared.reply.Info.{Info}
use Rattle.vm_model.specs.declared.reply.Stat.{Stat as StatOf}
use Rattle.vm_model.specs.Contents.Content.{Page, Content, pages_of, created, vmos_of, sole}
use Rattle.vm_model.specs.Contents.Owning.{pages_at, OwnsEach}
use Rattle.vm_model.specs.Contents.Sharing.{snapshotted}
use Rattle.vm_model.specs.Contents.Writing.{touched, pieces}
use Rattle.vm_model.specs.Naming.Names.{Lineage, children}
use Rattle.vm_model.specs.Naming.Pins.{Pin, is_pinned}
use Rattle.vm_model.specs.Machine.State.{State, target_of, koid_of, name_pages, place_of, lineage_of, is_live, seen_pages, pinned_copies, IsGoodState}
use Rattle.vm_model.specs.Machine.Leaving.{first_live, lineage_left, pruned}
use Rattle.vm_model.specs.Machine.Attribution.{info_at, stat_of}
use Rattle.vm_model.specs.Machine.Step.{with_vmo, with_snapshot, with_alias, pin_at, frame_of, frames_of, ChangesContent, Effect}
use Rattle.vm_model.proofs.ContentLaws.{sole_held}
use Rattle.moving_model.specs.Renaming.{Renaming, KeepsFrom, page_renamed, content_renamed, state_renamed, reply_renamed}
use Rattle.moving_model.proofs.PageLaws.{is_held-renamed, sole-renamed, used-renamed, is_shared-renamed, is_charged-renamed, bytes_in-renamed}
use Rattle.moving_model.proofs.ChangeLaws.{zeroed-renamed, resized-renamed, only-renamed, snapshotted-renamed, OwnsEach-renamed, Writes-renamed, Zeroes-renamed}

module _ (r : Renaming) where
  -- ---- VMOs that leave

  first_live-renamed : (steps : ℕ) (s : State) (parent : Option ℕ) → first_live steps (state_renamed r s) parent ≡ first_live steps s parent
  unfolding first_live is_live lineage_of
  first_live-renamed zero s parent = refl
  first_live-renamed (suc steps) s None = refl
  first_live-renamed (suc steps) s (Some p) = ap (cond (is_live s p) (Some p)) (first_live-renamed steps s (lineage_of s p).parent)

  lineage_left-renamed : (s : State) (v : ℕ) (l : Lineage) → lineage_left (state_renamed r s) v l ≡ lineage_left s v l
  unfolding lineage_left
  lineage_left-renamed s v l = λ i. record l { parent = first_live-renamed v s l.parent i }

  pub pruned-renamed : (s : State) → state_renamed r (pruned s) ≡ pruned (state_renamed r s)
  unfolding pruned is_live
  pruned-renamed s = λ i. record s {
    content = only-renamed r s.content (is_live s) i;
    lineage = λ v. cond (is_live s v) (option_map (λ (l : Lineage). sym (lineage_left-renamed s v l) i) (s.lineage v)) None;
  }

  -- ---- what is told

  info-renamed : (s : State) (target : Target) → info_at (state_renamed r s) target ≡ info_at s target
  unfolding pages_of
  info-renamed s target = λ i. record {
    koid = target.koid;
    size = name_pages s.content target * PAGE;
    held = count_below (pages_of s.content target.koid.0) (λ p. is_held-renamed r s.content target.koid.0 p i);
    private_pages = count_below (pages_of s.content target.koid.0) (λ p. sole-renamed r s.content target.koid.0 p i);
    shared_pages = count_below (pages_of s.content target.koid.0) (λ p. is_shared-renamed r s.content target.koid.0 p i);
    charged = count_below (pages_of s.content target.koid.0) (λ p. is_charged-renamed r s.content target.koid.0 p i);
    children = children s.names s.lineage target.koid.0;
  }

  stat-renamed : (c : Content) → KeepsFrom r c.frames → stat_of (content_renamed r c) ≡ stat_of c
  unfolding vmos_of
  stat-renamed c keeps = λ i. record { frames = c.frames; used = used-renamed r c keeps i; free = c.frames - used-renamed r c keeps i; vmos = vmos_of c }

  -- ---- pinned pages

  frame_of-renamed : (o : Option Page) (held : Page) → o ≡ Some held → r.to (frame_of o) ≡ frame_of (option_map (page_renamed r) o)
  unfolding frame_of
  frame_of-renamed None held e = absurd cc
  frame_of-renamed (Some page) held e = refl

  row_frames : (c : Content) (v first n : ℕ) → ((p : ℕ) → first ≤ p → p < first + n → sole c v p ≡ true)
      → map r.to (map (λ p. frame_of (c.page v p)) (range_with_len first n)) ≡ map (λ p. frame_of ((content_renamed r c).page v p)) (range_with_len first n)
  row_frames c v first zero alone = refl
  row_frames c v first (suc n) alone =
      let held = sole_held c v first (alone first (omega arith) (omega arith)) in
      let here = frame_of-renamed (c.page v first) held.0 held.1 in
      let rest = row_frames c v (first + 1) n (λ p low high. alone p (omega arith) (omega arith)) in
      λ i. here i ∷ rest i

  pub frames_of-renamed : (c : Content) (pin : Pin) → ((p : ℕ) → pin.first ≤ p → p < pin.first + pin.count → sole c pin.koid p ≡ true)
      → map r.to (frames_of c pin) ≡ frames_of (content_renamed r c) pin
  frames_of-renamed c pin alone = row_frames c pin.koid pin.first pin.count alone

  -- ---- all commands

  snapshot_keeps : (c : Content) (v first seen pages : ℕ) → KeepsFrom r c.frames → KeepsFrom r (snapshotted c v first seen pages).frames
  unfolding snapshotted
  snapshot_keeps c v first seen pages keeps = keeps

  changes : (old new : State) → ChangesContent old new → ChangesContent (state_renamed r old) (state_renamed r new)
  changes old new e = ap (state_renamed r) e

  pub Effect-renamed : (old new : State) (command : Command) (reply : Reply) → KeepsFrom r old.content.frames → IsGoodState new → Effect old command reply new
      → Effect (state_renamed r old) command (reply_renamed r reply) (state_renamed r new)
  unfolding target_of pages_of lineage_of with_vmo created with_snapshot with_alias
  Effect-renamed old new (VmoCreate name size resizable) reply keeps good e = (ap (reply_renamed r) e.0, ap (state_renamed r) e.1)
  Effect-renamed old new (VmoChild name parent Snapshot offset size resizable no_write) reply keeps good e =
      let target = target_of old parent.0 in
      let start = offset / PAGE in
      let pages = rounded size / PAGE in
      let snap = snapshotted old.content target.koid.0 (target.first + start) (seen_pages old.content target start pages) pages in
      let copies = pages_at old.content.next (pinned_copies old target start pages) in (
        ap (reply_renamed r) e.0,
        ap (state_renamed r) e.1,
        subst (λ (c : Content). OwnsEach c copies (content_renamed r new.content))
            (snapshotted-renamed r old.content target.koid.0 (target.first + start) (seen_pages old.content target start pages) pages)
            (OwnsEach-renamed r snap copies new.content (snapshot_keeps old.content target.koid.0 (target.first + start) (seen_pages old.content target start pages) pages keeps) e.2),
      )
  Effect-renamed old new (VmoChild name parent Slice offset size resizable no_write) reply keeps good e = (ap (reply_renamed r) e.0, ap (state_renamed r) e.1)
  Effect-renamed old new (VmoChild name parent Reference offset size resizable no_write) reply keeps good e = (ap (reply_renamed r) e.0, ap (state_renamed r) e.1)
  Effect-renamed old new (VmoClose name) reply keeps good e = (ap (reply_renamed r) e.0, ap (state_renamed r) e.1 ∙ pruned-renamed _)
  Effect-renamed old new (VmoRead name offset len) reply keeps good e = (
    ap (reply_renamed r) e.0 ∙ ap (λ (bytes : List ℕ). Bytes bytes) (sym (bytes_in-renamed r old.content (koid_of old name.0) (place_of old name.0 offset) len)),
    ap (state_renamed r) e.1,
  )
  Effect-renamed old new (VmoWrite name offset bytes) reply keeps good e =
      (ap (reply_renamed r) e.0, changes old new e.1, Writes-renamed r (pieces (koid_of old name.0) (place_of old name.0 offset) bytes) old.content new.content keeps e.2)
  Effect-renamed old new (VmoFill name offset len byte) reply keeps good e =
      (ap (reply_renamed r) e.0, changes old new e.1, Writes-renamed r (pieces (koid_of old name.0) (place_of old name.0 offset) (replicate len byte)) old.content new.content keeps e.2)
  Effect-renamed old new (VmoCommit name offset len) reply keeps good e =
      (ap (reply_renamed r) e.0, changes old new e.1, OwnsEach-renamed r old.content (pages_at (koid_of old name.0) (touched (place_of old name.0 offset) len)) new.content keeps e.2)
  Effect-renamed old new (VmoDecommit name offset len) reply keeps good e = (
    ap (reply_renamed r) e.0,
    ap (state_renamed r) e.1
        ∙ ap (λ (c : Content). record old { content = c }) (zeroed-renamed r old.content (koid_of old name.0) (place_of old name.0 offset / PAGE) (place_of old name.0 (offset + len) / PAGE)),
  )
  Effect-renamed old new (VmoZero name offset len) reply keeps good e = (
    ap (reply_renamed r) e.0,
    changes old new e.1,
    Zeroes-renamed r (koid_of old name.0) (is_pinned old.pins (koid_of old name.0)) (place_of old name.0 offset) len (touched (place_of old name.0 offset) len) old.content new.content keeps e.2,
  )
  Effect-renamed old new (VmoSetSize name size) reply keeps good e = (
    ap (reply_renamed r) e.0,
    ap (state_renamed r) e.1 ∙ ap (λ (c : Content). record old { content = c }) (resized-renamed r old.content (koid_of old name.0) (rounded size / PAGE)),
  )
  Effect-renamed old new (VmoPin pin name offset len) reply keeps good e =
      let pinned = pin_at old name.0 offset len in
      let is : new.pins pin.0 ≡ Some pinned = ap (λ (s : State). s.pins pin.0) e.1 ∙ with_key-same old.pins pin.0 pinned in (
        ap (reply_renamed r) e.0 ∙ ap (λ (numbers : List ℕ). Pins numbers) (frames_of-renamed new.content pinned (good.pins pin.0 pinned is).1.alone),
        ap (state_renamed r) e.1,
        OwnsEach-renamed r old.content (pages_at (koid_of old name.0) (touched (place_of old name.0 offset) len)) new.content keeps e.2,
      )
  Effect-renamed old new (VmoUnpin pin) reply keeps good e = (ap (reply_renamed r) e.0, ap (state_renamed r) e.1 ∙ pruned-renamed _)
  Effect-renamed old new (VmoInfo name) reply keeps good e =
      (ap (reply_renamed r) e.0 ∙ ap (λ (info : Info). InfoReply info) (sym (info-renamed old (target_of old name.0))), ap (state_renamed r) e.1)
  Effect-renamed old new (VmarAllocate region parent offset len flags caps) reply keeps good e = (e.0, ap (reply_renamed r) e.1, e.2, ap (state_renamed r) e.3)
  Effect-renamed old new (VmarMap region offset name vmo_offset len perm flags) reply keeps good e = (e.0, ap (reply_renamed r) e.1, e.2, ap (state_renamed r) e.3 ∙ pruned-renamed _)
  Effect-renamed old new (VmarUnmap region addr len) reply keeps good e = (ap (reply_renamed r) e.0, ap (state_renamed r) e.1 ∙ pruned-renamed _)
  Effect-renamed old new (VmarDestroy region) reply keeps good e = (ap (reply_renamed r) e.0, ap (state_renamed r) e.1 ∙ pruned-renamed _)
  Effect-renamed old new Stat reply keeps good e = (ap (reply_renamed r) e.0 ∙ ap (λ (stat : StatOf). StatReply stat) (sym (stat-renamed old.content keeps)), ap (state_renamed r) e.1)
  Effect-renamed old new (MemRead region addr len) reply keeps good e = absurd e
  Effect-renamed old new (MemWrite region addr bytes) reply keeps good e = absurd e
  Effect-renamed old new command reply keeps good e = (ap (reply_renamed r) e.0, ap (state_renamed r) e.1)
