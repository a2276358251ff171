-- The commands of page sources: when each is refused, what it does, and when it may want memory of the host.
use Rattle.std.specs.Prelude.{◌≡◌, ℕ, ◌+◌, ◌/◌, ◌%◌, Bool, true, false, not, ◌&&◌, ◌==◌, nat_lt, List, [], ◌∷◌, length, map, ◌⊎◌, Option, None, Some}
use Rattle.vm_base.specs.Pages.{rounded}
use Rattle.vm_base.specs.Search.{any_from}
use Rattle.vm_base.specs.declared.limits.TheConstants.{PAGE, DATA_BYTES, SOURCE_BYTES, SOURCE_KIND_MAX}
use Rattle.vm_base.specs.declared.refusal.Refusal.{Refusal}
use Rattle.vm_base.specs.declared.refusal.Refusal.TheVariants.{BadHandle, NameInUse, InvalidArgs, NotSupported, OutOfRange, NoMemory, HostMemory}
use Rattle.vm_model.specs.Machine.Words.{Reply}
use Rattle.vm_model.specs.declared.reply.Reply.TheVariants.{Done, Bytes, Stat as StatReply}
use Rattle.vm_model.specs.Contents.Content.{used}
use Rattle.vm_model.specs.Contents.Owning.{need, VmoPage}
use Rattle.vm_model.specs.Contents.Writing.{touched, pieces}
use Rattle.vm_model.specs.Machine.Attribution.{stat_of}
use Rattle.vm_model.specs.Machine.Refusals.{first_of}
use Rattle.vm_model.specs.Machine.Step.{IsRefused}
use Rattle.source_model.specs.Words.{SourceCommand}
use Rattle.source_model.specs.declared.command.SourceCommand.TheVariants.{Create, Child, Loose, Close, Read, Write, Supply, Evict, Stat}
use Rattle.source_model.specs.State.{SourceState, is_source_open, is_loose, source_koid_of, source_size_of, text_in, absent_in, wanted, supply_of, FillsEach, is_clean, evicted, with_source, with_child, with_loose}
use Rattle.source_model.specs.Living.{Leaves}
use Rattle.vm_base.specs.Entries.{without_key}

-- a number of bytes is a whole number of pages
abbrev pub is_aligned : ℕ → Bool
is_aligned n = n % PAGE == 0

-- so many new frames are more than are free
abbrev pub lacks : SourceState → ℕ → Bool
lacks s n = nat_lt s.content.frames (used s.content + n)

-- how many frames supplying the absent pages of a range takes
abbrev pub absent_need : SourceState → ℕ → ℕ → ℕ → ℕ
absent_need s name offset len = length (absent_in s (source_koid_of s name) offset len)

-- the absent pages that reading a range supplies: those at which the look-ups of its pages end
abbrev pub read_wanted : SourceState → ℕ → ℕ → ℕ → List VmoPage
read_wanted s name offset len = wanted s (source_koid_of s name) (touched offset len)

-- how many frames a write to a range takes
abbrev pub write_need : SourceState → ℕ → ℕ → ℕ → ℕ
write_need s name offset len = need s.content (source_koid_of s name) (touched offset len)

-- the refusals of a command, in their order. A row may rest on those before it: where a name is not open, the rows behind mean
-- nothing
abbrev pub source_refusals : SourceState → SourceCommand → List (Bool × Refusal)
source_refusals s (Create name size kind seed) =
    (is_source_open s name.0, NameInUse)
    ∷ (nat_lt SOURCE_KIND_MAX kind, InvalidArgs)
    ∷ (nat_lt SOURCE_BYTES (rounded size), OutOfRange)
    ∷ []
source_refusals s (Child name parent offset size) =
    (not (is_source_open s parent.0), BadHandle)
    ∷ (is_source_open s name.0, NameInUse)
    ∷ (not (is_aligned offset), InvalidArgs)
    ∷ (is_loose s parent.0, NotSupported)
    ∷ (nat_lt SOURCE_BYTES (offset + rounded size), OutOfRange)
    ∷ []
source_refusals s (Loose name parent offset size) =
    (not (is_source_open s parent.0), BadHandle)
    ∷ (is_source_open s name.0, NameInUse)
    ∷ (not (is_aligned offset), InvalidArgs)
    ∷ (nat_lt SOURCE_BYTES (offset + rounded size), OutOfRange)
    ∷ []
source_refusals s (Close name) = (not (is_source_open s name.0), BadHandle) ∷ []
source_refusals s (Read name offset len) =
    (not (is_source_open s name.0), BadHandle)
    ∷ (nat_lt DATA_BYTES len, InvalidArgs)
    ∷ (nat_lt (source_size_of s name.0) (offset + len), OutOfRange)
    ∷ (lacks s (length (read_wanted s name.0 offset len)), NoMemory)
    ∷ []
source_refusals s (Write name offset bytes) =
    (not (is_source_open s name.0), BadHandle)
    ∷ (nat_lt (source_size_of s name.0) (offset + length bytes), OutOfRange)
    ∷ (lacks s (write_need s name.0 offset (length bytes)), NoMemory)
    ∷ []
source_refusals s (Supply name offset len) =
    (not (is_source_open s name.0), BadHandle)
    ∷ (not (is_aligned offset && is_aligned len), InvalidArgs)
    ∷ (is_loose s name.0, NotSupported)
    ∷ (nat_lt (source_size_of s name.0) (offset + len), OutOfRange)
    ∷ (lacks s (absent_need s name.0 offset len), NoMemory)
    ∷ []
source_refusals s (Evict name offset len) =
    (not (is_source_open s name.0), BadHandle)
    ∷ (not (is_aligned offset && is_aligned len), InvalidArgs)
    ∷ (is_loose s name.0, NotSupported)
    ∷ (nat_lt (source_size_of s name.0) (offset + len), OutOfRange)
    ∷ []
source_refusals s Stat = []

-- the absent pages of a range are supplied
abbrev pub Supplies : SourceState → ℕ → ℕ → ℕ → SourceState → Type 0
Supplies old name offset len new =
    FillsEach old (map (supply_of (source_koid_of old name)) (absent_in old (source_koid_of old name) offset len)) new

-- what a command does where nothing refuses it
abbrev pub SourceEffect : SourceState → SourceCommand → Reply → SourceState → Type 0
SourceEffect old (Create name size kind seed) reply new =
    let pages = rounded size / PAGE in
    (reply ≡ Done) × (new ≡ with_source old name.0 pages (record { kind = kind; seed = seed; base = 0; seen = pages }))
SourceEffect old (Child name parent offset size) reply new =
    (reply ≡ Done) × (new ≡ with_child old name.0 (source_koid_of old parent.0) (offset / PAGE) (rounded size / PAGE))
SourceEffect old (Loose name parent offset size) reply new =
    (reply ≡ Done) × (new ≡ with_loose old name.0 (source_koid_of old parent.0) (offset / PAGE) (rounded size / PAGE))
SourceEffect old (Close name) reply new = (reply ≡ Done) × Leaves (record old { names = without_key old.names name.0 }) new
SourceEffect old (Read name offset len) reply new =
    (reply ≡ Bytes (text_in old (source_koid_of old name.0) offset len))
    × FillsEach old (map (λ (at : VmoPage). supply_of at.koid at.page) (read_wanted old name.0 offset len)) new
SourceEffect old (Write name offset bytes) reply new =
    (reply ≡ Done) × FillsEach old (pieces (source_koid_of old name.0) offset bytes) new
SourceEffect old (Supply name offset len) reply new = (reply ≡ Done) × Supplies old name.0 offset len new
SourceEffect old (Evict name offset len) reply new =
    (reply ≡ Done) × (new ≡ record old { content = evicted old (source_koid_of old name.0) (offset / PAGE) ((offset + len) / PAGE) })
SourceEffect old Stat reply new = (reply ≡ StatReply (stat_of old.content)) × (new ≡ old)

-- The command may want memory of the host in this state: to make a VMO always, to own pages only where a new frame is taken, and to
-- evict only where a page of the range is clean.
abbrev pub source_may_lack_memory : SourceState → SourceCommand → Bool
source_may_lack_memory s (Create name size kind seed) = true
source_may_lack_memory s (Child name parent offset size) = true
source_may_lack_memory s (Loose name parent offset size) = true
source_may_lack_memory s (Close name) = false
source_may_lack_memory s (Read name offset len) = nat_lt 0 (length (read_wanted s name.0 offset len))
source_may_lack_memory s (Write name offset bytes) = nat_lt 0 (write_need s name.0 offset (length bytes))
source_may_lack_memory s (Supply name offset len) = nat_lt 0 (absent_need s name.0 offset len)
source_may_lack_memory s (Evict name offset len) =
    any_from (offset / PAGE) ((offset + len) / PAGE) (is_clean s (source_koid_of s name.0))
source_may_lack_memory s Stat = false

abbrev pub SourceStepAfter : Option Refusal → SourceState → SourceCommand → Reply → SourceState → Type 0
SourceStepAfter (Some refusal) old command reply new = IsRefused old refusal reply new
SourceStepAfter None old command reply new =
    SourceEffect old command reply new ⊎ (IsRefused old HostMemory reply new × (source_may_lack_memory old command ≡ true))

-- From old, the machine of page sources may go on to new with this reply to the command.
pub record SourceStep (old : SourceState) (command : SourceCommand) (reply : Reply) (new : SourceState) : Type 0 where
  pub outcome : SourceStepAfter (first_of (source_refusals old command)) old command reply new
