-- The steps of commands, by what their calls found and did.
use Rattle.std.proofs.Common.{◌≡◌, ℕ, ◌+◌, ◌*◌, ◌/◌, ◌≤◌, ◌-◌, ◌&&◌, not, Bool, true, false, List, [], ◌∷◌, length, map, nat_lt, None, Some, refl, ap, ◌∙◌}
use Rattle.std.specs.List.{filter, range_with_len}
use Rattle.vm_base.specs.Search.{any_from}
use Rattle.vm_base.specs.Pages.{rounded}
use Rattle.vm_base.specs.declared.limits.TheConstants.{PAGE, DATA_BYTES, SOURCE_BYTES, SOURCE_KIND_MAX}
use Rattle.vm_base.specs.declared.names.VmoName.{VmoName}
use Rattle.vm_base.specs.declared.refusal.Refusal.{Refusal}
use Rattle.vm_base.specs.declared.refusal.Refusal.TheVariants.{BadHandle, InvalidArgs, NotSupported, OutOfRange, NoMemory, HostMemory}
use Rattle.vm_model.specs.declared.reply.Reply.TheVariants.{Done, Bytes, Refused}
use Rattle.vm_model.specs.Contents.Content.{used, pages_of}
use Rattle.vm_model.specs.Contents.Owning.{need, VmoPage}
use Rattle.vm_model.specs.Contents.Writing.{touched, pieces}
use Rattle.source_model.specs.declared.backing.Backing.{Backing}
use Rattle.source_model.specs.declared.link.Link.{Link}
use Rattle.vm_base.specs.Entries.{without_key}
use Rattle.source_model.specs.declared.command.SourceCommand.TheVariants.{Create, Child, Loose, Close, Read, Write, Supply, Evict}
use Rattle.source_model.specs.Living.{Leaves}
use Rattle.source_model.specs.State.{SourceState, is_source_open, is_loose, source_size_of, source_koid_of, is_absent, wanted, is_clean, supply_of, FillsEach, evicted, text_in, with_source, with_child, with_loose}
use Rattle.source_model.specs.Commands.{SourceStep, source_refusals, is_aligned, lacks, absent_need}
use Rattle.vm_model.specs.Machine.Refusals.{first_of}
use Rattle.source_vm.specs.Pages.{LacksFrames}
use Rattle.source_vm.proofs.StepLaws.{refused, lacked, done, short, not_lacking}

module _ (s : SourceState) (name : VmoName) (v : ℕ) (named : s.names name.0 ≡ Some v) where
  abbrev bytes_of_v : ℕ
  bytes_of_v = pages_of s.content v * PAGE

  pub close_done : (new : SourceState) → Leaves (record s { names = without_key s.names name.0 }) new → SourceStep s (Close name) Done new
  close_done new leaves = done s (Close name) Done new (rw named refl) (refl, leaves)

  -- a range that passes the end of its VMO
  pub read_past : (offset len : ℕ) → nat_lt DATA_BYTES len ≡ false → nat_lt bytes_of_v (offset + len) ≡ true
      → SourceStep s (Read name offset len) (Refused OutOfRange) s
  unfolding source_koid_of
  read_past offset len few past = refused s (Read name offset len) OutOfRange (rw (named, few, past) refl)

  pub write_past : (offset : ℕ) (bytes : List ℕ) → nat_lt bytes_of_v (offset + length bytes) ≡ true
      → SourceStep s (Write name offset bytes) (Refused OutOfRange) s
  unfolding source_koid_of
  write_past offset bytes past = refused s (Write name offset bytes) OutOfRange (rw (named, past) refl)

  -- a range of whole pages that passes the end of its VMO
  pub whole_past : (offset len : ℕ) → (is_aligned offset && is_aligned len) ≡ true → s.link v ≡ None → nat_lt bytes_of_v (offset + len) ≡ true
      → first_of (source_refusals s (Evict name offset len)) ≡ Some OutOfRange
  unfolding source_koid_of
  whole_past offset len aligned unlinked past = rw (named, aligned, unlinked, past) refl

  -- a range of whole pages of a loose VMO
  pub whole_loose : (offset len : ℕ) (l : Link) → (is_aligned offset && is_aligned len) ≡ true → s.link v ≡ Some l
      → first_of (source_refusals s (Evict name offset len)) ≡ Some NotSupported
  unfolding source_koid_of
  whole_loose offset len l aligned linked = rw (named, aligned, linked) refl

  -- a write that lies in its VMO
  pub write_short : (offset : ℕ) (bytes : List ℕ) (refusal : Refusal) → nat_lt bytes_of_v (offset + length bytes) ≡ false
      → LacksFrames s.content (need s.content v (touched offset (length bytes))) refusal → SourceStep s (Write name offset bytes) (Refused refusal) s
  unfolding source_koid_of
  write_short offset bytes refusal inside few =
      short s (Write name offset bytes) (need s.content v (touched offset (length bytes))) refusal (rw (named, inside) refl) (rw named refl) few

  pub write_done : (offset : ℕ) (bytes : List ℕ) (new : SourceState) → nat_lt bytes_of_v (offset + length bytes) ≡ false
      → used s.content + need s.content v (touched offset (length bytes)) ≤ s.content.frames → FillsEach s (pieces v offset bytes) new
      → SourceStep s (Write name offset bytes) Done new
  unfolding source_koid_of
  write_done offset bytes new inside enough fills =
      let free = not_lacking s (need s.content v (touched offset (length bytes))) enough in
      done s (Write name offset bytes) Done new (rw (named, inside, free) refl) (refl, rw named fills)

  -- reads of a range that lies in its VMO
  module _ (offset len : ℕ) (few : nat_lt DATA_BYTES len ≡ false) (inside : nat_lt bytes_of_v (offset + len) ≡ false) where
    abbrev ends : List VmoPage
    ends = wanted s v (touched offset len)

    pub read_short : (refusal : Refusal) → LacksFrames s.content (length ends) refusal → SourceStep s (Read name offset len) (Refused refusal) s
    unfolding source_koid_of
    read_short refusal lacks = short s (Read name offset len) (length ends) refusal (rw (named, few, inside) refl) (rw named refl) lacks

    pub read_done : (out : List ℕ) (new : SourceState) → used s.content + length ends ≤ s.content.frames → out ≡ text_in s v offset len
        → FillsEach s (map (λ (at : VmoPage). supply_of at.koid at.page) ends) new → SourceStep s (Read name offset len) (Bytes out) new
    unfolding source_koid_of
    read_done out new enough is fills =
        let free = not_lacking s (length ends) enough in
        done s (Read name offset len) (Bytes out) new (rw (named, few, inside, free) refl) (rw named (ap Bytes is), rw named fills)

  -- absent pages of a range that lies in its VMO, which is not loose
  module _ (b : Backing) (backed : s.backing v ≡ Some b) (unlinked : s.link v ≡ None) (first end offset len : ℕ) (pages : touched offset len ≡ range_with_len first (end - first))
      (aligned : (is_aligned offset && is_aligned len) ≡ true) (inside : nat_lt bytes_of_v (offset + len) ≡ false) where
    abbrev absent : List ℕ
    absent = filter (is_absent s.content (Some b) v) (range_with_len first (end - first))

    pub supply_short : (refusal : Refusal) → LacksFrames s.content (length absent) refusal → SourceStep s (Supply name offset len) (Refused refusal) s
    unfolding source_koid_of
    supply_short refusal lacks = short s (Supply name offset len) (length absent) refusal (rw (named, backed, pages, aligned, unlinked, inside) refl) (rw (named, backed, pages) refl) lacks

    pub supply_done : (new : SourceState) → used s.content + length absent ≤ s.content.frames → FillsEach s (map (supply_of v) absent) new
        → SourceStep s (Supply name offset len) Done new
    unfolding source_koid_of
    supply_done new enough fills =
        let free = not_lacking s (length absent) enough in
        done s (Supply name offset len) Done new (rw (named, backed, pages, aligned, unlinked, inside, free) refl) (refl, rw (named, backed, pages) fills)

  -- clean pages of a range that lies in its VMO
  module _ (offset len : ℕ) (aligned : (is_aligned offset && is_aligned len) ≡ true) (unlinked : s.link v ≡ None) (inside : nat_lt bytes_of_v (offset + len) ≡ false) where
    pub evict_lacked : any_from (offset / PAGE) ((offset + len) / PAGE) (is_clean s v) ≡ true → SourceStep s (Evict name offset len) (Refused HostMemory) s
    unfolding source_koid_of
    evict_lacked some = lacked s (Evict name offset len) (rw (named, aligned, unlinked, inside) refl) (rw named some)

    pub evict_done : (new : SourceState) → new ≡ record s { content = evicted s v (offset / PAGE) ((offset + len) / PAGE) } → SourceStep s (Evict name offset len) Done new
    unfolding source_koid_of
    evict_done new is = done s (Evict name offset len) Done new (rw (named, aligned, unlinked, inside) refl) (refl, rw named is)

-- what refuses a range of whole pages, refuses each command on one
first_more : (a b c d : Bool) (w x y z : Refusal) (more : List (Bool × Refusal)) (refusal : Refusal)
    → first_of ((a, w) ∷ (b, x) ∷ (c, y) ∷ (d, z) ∷ []) ≡ Some refusal → first_of ((a, w) ∷ (b, x) ∷ (c, y) ∷ (d, z) ∷ more) ≡ Some refusal
first_more true b c d w x y z more refusal e = e
first_more false true c d w x y z more refusal e = e
first_more false false true d w x y z more refusal e = e
first_more false false false true w x y z more refusal e = e
first_more false false false false w x y z more refusal e = absurd cc

pub supply_refused : (s : SourceState) (name : VmoName) (offset len : ℕ) (refusal : Refusal) → first_of (source_refusals s (Evict name offset len)) ≡ Some refusal
    → SourceStep s (Supply name offset len) (Refused refusal) s
supply_refused s name offset len refusal e =
    refused s (Supply name offset len) refusal (first_more (not (is_source_open s name.0)) (not (is_aligned offset && is_aligned len)) (is_loose s name.0) (nat_lt (source_size_of s name.0) (offset + len))
    BadHandle InvalidArgs NotSupported OutOfRange ((lacks s (absent_need s name.0 offset len), NoMemory) ∷ []) refusal e)

-- ---- new VMOs

module _ (s : SourceState) (name : VmoName) (closed : s.names name.0 ≡ None) where
  pub create_done : (size kind seed pages : ℕ) (new : SourceState) → nat_lt SOURCE_KIND_MAX kind ≡ false → nat_lt SOURCE_BYTES (rounded size) ≡ false
      → pages ≡ rounded size / PAGE → new ≡ with_source s name.0 pages (record { kind = kind; seed = seed; base = 0; seen = pages })
      → SourceStep s (Create name size kind seed) Done new
  create_done size kind seed pages new known fits is made =
      done s (Create name size kind seed) Done new (rw (closed, known, fits) refl)
      (refl, made ∙ ap (λ (n : ℕ). with_source s name.0 n (record { kind = kind; seed = seed; base = 0; seen = n })) is)

  module _ (parent : VmoName) (v : ℕ) (named : s.names parent.0 ≡ Some v) (offset size : ℕ) (aligned : is_aligned offset ≡ true) where
    -- a snapshot
    pub child_loose : (l : Link) → s.link v ≡ Some l → SourceStep s (Child name parent offset size) (Refused NotSupported) s
    unfolding source_koid_of
    child_loose l linked = refused s (Child name parent offset size) NotSupported (rw (named, closed, aligned, linked) refl)

    pub child_past : s.link v ≡ None → nat_lt SOURCE_BYTES (offset + rounded size) ≡ true → SourceStep s (Child name parent offset size) (Refused OutOfRange) s
    unfolding source_koid_of
    child_past unlinked past = refused s (Child name parent offset size) OutOfRange (rw (named, closed, aligned, unlinked, past) refl)

    -- a loose child
    pub loose_past : nat_lt SOURCE_BYTES (offset + rounded size) ≡ true → SourceStep s (Loose name parent offset size) (Refused OutOfRange) s
    loose_past past = refused s (Loose name parent offset size) OutOfRange (rw (named, closed, aligned, past) refl)

    module _ (fits : nat_lt SOURCE_BYTES (offset + rounded size) ≡ false) where
      pub child_done : (new : SourceState) → s.link v ≡ None → new ≡ with_child s name.0 v (offset / PAGE) (rounded size / PAGE) → SourceStep s (Child name parent offset size) Done new
      unfolding source_koid_of
      child_done new unlinked made = done s (Child name parent offset size) Done new (rw (named, closed, aligned, unlinked, fits) refl) (refl, rw named made)

      pub child_lacked : s.link v ≡ None → SourceStep s (Child name parent offset size) (Refused HostMemory) s
      unfolding source_koid_of
      child_lacked unlinked = lacked s (Child name parent offset size) (rw (named, closed, aligned, unlinked, fits) refl) refl

      pub loose_done : (new : SourceState) → new ≡ with_loose s name.0 v (offset / PAGE) (rounded size / PAGE) → SourceStep s (Loose name parent offset size) Done new
      unfolding source_koid_of
      loose_done new made = done s (Loose name parent offset size) Done new (rw (named, closed, aligned, fits) refl) (refl, rw named made)

      pub loose_lacked : SourceStep s (Loose name parent offset size) (Refused HostMemory) s
      loose_lacked = lacked s (Loose name parent offset size) (rw (named, closed, aligned, fits) refl) refl
