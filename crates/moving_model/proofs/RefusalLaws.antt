-- Laws of refusals under other numbers of frames: none speaks of these numbers, nor does the want of memory.
use Rattle.std.proofs.Common.{◌≡◌, ℕ, ◌+◌, ◌*◌, ◌/◌, ◌%◌, not, ◌&&◌, ◌||◌, ◌==◌, List, [], ◌∷◌, length, Option, None, Some, refl, ap, ◌∙◌}
use Rattle.std.specs.Prelude.{nat_lt, is_some, unwrap_or}
use Rattle.std.specs.Option.{option_or}
use Rattle.std.specs.List.{list_any}
use Rattle.vm_base.specs.Pages.{rounded}
use Rattle.vm_base.specs.declared.limits.TheConstants.{PAGE, VMO_PAGES, PIN_PAGES, DATA_BYTES}
use Rattle.vm_base.specs.declared.refusal.Refusal.TheVariants.{BadHandle, NameInUse, BadState, AccessDenied, InvalidArgs, OutOfRange, NotFound, NoMemory}
use Rattle.vm_model.specs.Machine.Words.{Command}
use Rattle.vm_model.specs.declared.command.Command.TheVariants.{VmoChild, VmoWrite, VmoFill, VmoCommit, VmoDecommit, VmoZero, VmoPin, MemRead, MemWrite}
use Rattle.vm_model.specs.declared.command.ChildKind.TheVariants.{Snapshot}
use Rattle.vm_model.specs.declared.space.Entry.{Entry}
use Rattle.vm_model.specs.Contents.Content.{Content, pages_of, is_held, sole}
use Rattle.vm_model.specs.Contents.Writing.{touched}
use Rattle.vm_model.specs.Contents.Zeroing.{owned_by_zero}
use Rattle.vm_model.specs.Naming.Pins.{is_pinned}
use Rattle.vm_model.specs.Space.Rights.{reading, writing}
use Rattle.vm_model.specs.Space.Regions.{region_of}
use Rattle.vm_model.specs.Machine.Access.{pages_shown, refusal_at, access_refusal}
use Rattle.vm_model.specs.Machine.State.{State, is_open, is_given, target_of, koid_of, size_of, place_of, lineage_of, pinned_copies}
use Rattle.vm_model.specs.Machine.Refusals.{lacks_frames, change_refusals, refusals}
use Rattle.vm_model.specs.Machine.Step.{may_lack_memory}
use Rattle.vm_model.specs.Machine.Machine.{Machine}
use Rattle.vm_model.specs.Machine.MachineStep.{may_want_memory}
use Rattle.moving_model.specs.Renaming.{Renaming, KeepsFrom, content_renamed, state_renamed, machine_renamed}
use Rattle.moving_model.proofs.PageLaws.{is_held-renamed, sole-renamed, used-renamed, owned_by_zero-renamed, need_each-renamed, need-renamed}

module _ (r : Renaming) where
  -- ---- accesses

  refusal_at-renamed : (c : Content) (right : ℕ) (o : Option Entry) → refusal_at (content_renamed r c) right o ≡ refusal_at c right o
  unfolding refusal_at pages_of
  refusal_at-renamed c right None = refl
  refusal_at-renamed c right (Some entry) = refl

  pub access_refusal-renamed : (c : Content) (right : ℕ) (entries : ℕ → Option Entry) (ps : List ℕ) → access_refusal (content_renamed r c) right entries ps ≡ access_refusal c right entries ps
  unfolding access_refusal
  access_refusal-renamed c right entries [] = refl
  access_refusal-renamed c right entries (p ∷ ps) =
      let rest = access_refusal-renamed c right entries ps in λ i. option_or (refusal_at-renamed c right (entries p) i) (rest i)

  -- ---- changes of a range

  lacks_frames-renamed : (s : State) (name : ℕ) (ps : List ℕ) → KeepsFrom r s.content.frames → lacks_frames (state_renamed r s) name ps ≡ lacks_frames s name ps
  unfolding target_of
  lacks_frames-renamed s name ps keeps = λ i. nat_lt s.content.frames (used-renamed r s.content keeps i + need-renamed r s.content (koid_of s name) ps keeps i)

  change_refusals-renamed : (s : State) (name offset len : ℕ) (owned : List ℕ) → KeepsFrom r s.content.frames
      → change_refusals (state_renamed r s) name offset len owned ≡ change_refusals s name offset len owned
  unfolding target_of pages_of
  change_refusals-renamed s name offset len owned keeps = λ i.
      (not (is_open s name), BadHandle)
      ∷ (not (target_of s name).may_write, AccessDenied)
      ∷ (nat_lt (size_of s name) (offset + len), OutOfRange)
      ∷ (lacks_frames-renamed s name owned keeps i, NoMemory)
      ∷ []

  -- ---- all commands

  pub refusals-renamed : (s : State) (command : Command) → KeepsFrom r s.content.frames → refusals (state_renamed r s) command ≡ refusals s command
  unfolding target_of lineage_of pages_of
  refusals-renamed s (VmoChild name parent Snapshot offset size resizable no_write) keeps = λ i.
      (not (is_open s parent.0), BadHandle)
      ∷ (is_open s name.0, NameInUse)
      ∷ (not (offset % PAGE == 0) || (resizable && no_write), InvalidArgs)
      ∷ (nat_lt (VMO_PAGES * PAGE) (offset + rounded size), OutOfRange)
      ∷ (nat_lt s.content.frames (used-renamed r s.content keeps i + length (pinned_copies s (target_of s parent.0) (offset / PAGE) (rounded size / PAGE))), NoMemory)
      ∷ []
  refusals-renamed s (VmoWrite name offset bytes) keeps = change_refusals-renamed s name.0 offset (length bytes) (touched (place_of s name.0 offset) (length bytes)) keeps
  refusals-renamed s (VmoFill name offset len byte) keeps = change_refusals-renamed s name.0 offset len (touched (place_of s name.0 offset) len) keeps
  refusals-renamed s (VmoCommit name offset len) keeps = change_refusals-renamed s name.0 offset len (touched (place_of s name.0 offset) len) keeps
  refusals-renamed s (VmoZero name offset len) keeps =
      ap (change_refusals (state_renamed r s) name.0 offset len) (owned_by_zero-renamed r s.content (koid_of s name.0) (is_pinned s.pins (koid_of s name.0)) (place_of s name.0 offset) len)
      ∙ change_refusals-renamed s name.0 offset len (owned_by_zero s.content (koid_of s name.0) (is_pinned s.pins (koid_of s name.0)) (place_of s name.0 offset) len) keeps
  refusals-renamed s (VmoPin pin name offset len) keeps = λ i.
      (not (is_open s name.0), BadHandle)
      ∷ (is_some (s.pins pin.0), NameInUse)
      ∷ (not (offset % PAGE == 0 && len % PAGE == 0) || (len == 0 || nat_lt (PIN_PAGES * PAGE) len), InvalidArgs)
      ∷ (nat_lt (size_of s name.0) (offset + len), OutOfRange)
      ∷ (lacks_frames-renamed s name.0 (touched (place_of s name.0 offset) len) keeps i, NoMemory)
      ∷ []
  refusals-renamed s (MemRead region addr len) keeps =
      let at = access_refusal-renamed s.content reading (s.spaces.table region.0) (touched addr len) in λ i.
      (not (is_given s region.0), BadHandle)
      ∷ (not (region_of s.spaces.regions region.0).live, BadState)
      ∷ (is_some (region_of s.spaces.regions region.0).parent || nat_lt DATA_BYTES len, InvalidArgs)
      ∷ (is_some (at i), unwrap_or (at i) NotFound)
      ∷ []
  refusals-renamed s (MemWrite region addr bytes) keeps =
      let ps = touched addr (length bytes) in
      let at = access_refusal-renamed s.content writing (s.spaces.table region.0) ps in λ i.
      (not (is_given s region.0), BadHandle)
      ∷ (not (region_of s.spaces.regions region.0).live, BadState)
      ∷ (is_some (region_of s.spaces.regions region.0).parent, InvalidArgs)
      ∷ (is_some (at i), unwrap_or (at i) NotFound)
      ∷ (nat_lt s.content.frames (used-renamed r s.content keeps i + need_each-renamed r s.content (pages_shown (s.spaces.table region.0) ps) keeps i), NoMemory)
      ∷ []
  refusals-renamed s command keeps = refl

  -- ---- want of memory

  sole_any : (s : State) (v : ℕ) (ps : List ℕ) → list_any (λ p. not (sole (content_renamed r s.content) v p)) ps ≡ list_any (λ p. not (sole s.content v p)) ps
  sole_any s v ps = λ i. list_any (λ p. not (sole-renamed r s.content v p i)) ps

  held_any : (s : State) (v : ℕ) (ps : List ℕ) → list_any (is_held (content_renamed r s.content) v) ps ≡ list_any (is_held s.content v) ps
  held_any s v ps = λ i. list_any (λ p. is_held-renamed r s.content v p i) ps

  pub may_lack-renamed : (s : State) (command : Command) → may_lack_memory (state_renamed r s) command ≡ may_lack_memory s command
  unfolding target_of
  may_lack-renamed s (VmoWrite name offset bytes) = sole_any s (koid_of s name.0) (touched (place_of s name.0 offset) (length bytes))
  may_lack-renamed s (VmoFill name offset len byte) = sole_any s (koid_of s name.0) (touched (place_of s name.0 offset) len)
  may_lack-renamed s (VmoCommit name offset len) = sole_any s (koid_of s name.0) (touched (place_of s name.0 offset) len)
  may_lack-renamed s (VmoZero name offset len) = held_any s (koid_of s name.0) (touched (place_of s name.0 offset) len)
  may_lack-renamed s (VmoDecommit name offset len) = held_any s (koid_of s name.0) (touched (place_of s name.0 offset) len)
  may_lack-renamed s command = refl

  pub may_want-renamed : (m : Machine) (command : Command) → may_want_memory (machine_renamed r m) command ≡ may_want_memory m command
  may_want-renamed m (MemRead region addr len) = refl
  may_want-renamed m (MemWrite region addr bytes) = refl
  may_want-renamed m command = may_lack-renamed m.state command
