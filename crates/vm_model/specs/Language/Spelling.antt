-- The canonical spelling of commands, which the programs that write scripts use.
use Rattle.std.specs.Prelude.{ℕ, ◌+◌, ◌==◌, ◌&&◌, ◌^◌, ◌<◌, ◌≤◌, nat_lt, Bool, true, List, [], ◌∷◌, length, codes, decimal, bit_and, All, if◌then◌else◌}
use Rattle.std.specs.List.{join_with_byte}
use Rattle.vm_base.specs.declared.names.VmoName.{VmoName}
use Rattle.vm_base.specs.declared.names.RegionName.{RegionName}
use Rattle.vm_base.specs.declared.names.PinName.{PinName}
use Rattle.vm_model.specs.declared.command.ChildKind.{ChildKind}
use Rattle.vm_model.specs.declared.command.ChildKind.TheVariants.{Snapshot, Slice, Reference}
use Rattle.vm_model.specs.Machine.Words.{Command}
use Rattle.vm_model.specs.declared.command.Command.TheVariants.{VmoCreate, VmoChild, VmoClose, VmoSize, VmoSetSize, VmoRead, VmoWrite, VmoFill, VmoCommit, VmoDecommit, VmoZero, VmoPin, VmoUnpin, VmoInfo, RootCreate, VmarAllocate, VmarMap, VmarUnmap, VmarProtect, VmarDestroy, Maps, MemRead, MemWrite, Stat}
use Rattle.vm_model.specs.Space.Rights.{has, reading, writing, executing, all_rights, specific, overwrite, upper_limit, allow_faults, all_options}
use Rattle.vm_model.specs.Language.Text.{data_text, perm_text}
use Rattle.vm_base.specs.declared.limits.TheConstants.{DATA_BYTES}

-- the flags of a list that are set, in the list's order
abbrev pub set_flags : List (List ℕ × Bool) → List (List ℕ)
set_flags [] = []
set_flags (flag ∷ flags) = if flag.1 then flag.0 ∷ set_flags flags else set_flags flags

abbrev pub vmo_word : VmoName → List ℕ
vmo_word name = 118 ∷ decimal name.0

abbrev pub region_word : RegionName → List ℕ
region_word name = 114 ∷ decimal name.0

abbrev pub pin_word : PinName → List ℕ
pin_word name = 112 ∷ decimal name.0

abbrev pub kind_word : ChildKind → List ℕ
kind_word Snapshot = codes "snapshot"
kind_word Slice = codes "slice"
kind_word Reference = codes "reference"

-- the words of a command
unfoldable pub command_words : Command → List (List ℕ)
command_words (VmoCreate name size resizable) = codes "vmo_create" ∷ vmo_word name ∷ decimal size ∷ set_flags ((codes "resizable", resizable) ∷ [])
command_words (VmoChild name parent kind offset size resizable no_write) =
    codes "vmo_create_child" ∷ vmo_word name ∷ vmo_word parent ∷ kind_word kind ∷ decimal offset ∷ decimal size
    ∷ set_flags ((codes "resizable", resizable) ∷ (codes "no_write", no_write) ∷ [])
command_words (VmoClose name) = codes "vmo_close" ∷ vmo_word name ∷ []
command_words (VmoSize name) = codes "vmo_size" ∷ vmo_word name ∷ []
command_words (VmoSetSize name size) = codes "vmo_set_size" ∷ vmo_word name ∷ decimal size ∷ []
command_words (VmoRead name offset len) = codes "vmo_read" ∷ vmo_word name ∷ decimal offset ∷ decimal len ∷ []
command_words (VmoWrite name offset bytes) = codes "vmo_write" ∷ vmo_word name ∷ decimal offset ∷ data_text bytes ∷ []
command_words (VmoFill name offset len value) = codes "vmo_fill" ∷ vmo_word name ∷ decimal offset ∷ decimal len ∷ decimal value ∷ []
command_words (VmoCommit name offset len) = codes "vmo_commit" ∷ vmo_word name ∷ decimal offset ∷ decimal len ∷ []
command_words (VmoDecommit name offset len) = codes "vmo_decommit" ∷ vmo_word name ∷ decimal offset ∷ decimal len ∷ []
command_words (VmoZero name offset len) = codes "vmo_zero" ∷ vmo_word name ∷ decimal offset ∷ decimal len ∷ []
command_words (VmoPin token name offset len) = codes "vmo_pin" ∷ pin_word token ∷ vmo_word name ∷ decimal offset ∷ decimal len ∷ []
command_words (VmoUnpin token) = codes "vmo_unpin" ∷ pin_word token ∷ []
command_words (VmoInfo name) = codes "vmo_info" ∷ vmo_word name ∷ []
command_words (RootCreate region) = codes "root_create" ∷ region_word region ∷ []
command_words (VmarAllocate region parent offset len flags caps) =
    codes "vmar_allocate" ∷ region_word region ∷ region_word parent ∷ decimal offset ∷ decimal len
    ∷ set_flags ((codes "specific", has flags.0 specific) ∷ (codes "upper_limit", has flags.0 upper_limit) ∷ (codes "can_read", has caps.0 reading) ∷ (codes "can_write", has caps.0 writing) ∷ (codes "can_execute", has caps.0 executing) ∷ [])
command_words (VmarMap region offset name vmo_offset len perm flags) =
    codes "vmar_map" ∷ region_word region ∷ decimal offset ∷ vmo_word name ∷ decimal vmo_offset ∷ decimal len ∷ perm_text perm.0
    ∷ set_flags ((codes "specific", has flags.0 specific) ∷ (codes "specific_overwrite", has flags.0 overwrite) ∷ (codes "upper_limit", has flags.0 upper_limit) ∷ (codes "allow_faults", has flags.0 allow_faults) ∷ [])
command_words (VmarUnmap region addr len) = codes "vmar_unmap" ∷ region_word region ∷ decimal addr ∷ decimal len ∷ []
command_words (VmarProtect region addr len perm) = codes "vmar_protect" ∷ region_word region ∷ decimal addr ∷ decimal len ∷ perm_text perm.0 ∷ []
command_words (VmarDestroy region) = codes "vmar_destroy" ∷ region_word region ∷ []
command_words (Maps region) = codes "maps" ∷ region_word region ∷ []
command_words (MemRead region addr len) = codes "mem_read" ∷ region_word region ∷ decimal addr ∷ decimal len ∷ []
command_words (MemWrite region addr bytes) = codes "mem_write" ∷ region_word region ∷ decimal addr ∷ data_text bytes ∷ []
command_words Stat = codes "stat" ∷ []

-- the canonical spelling: one space between words
unfoldable pub spelling : Command → List ℕ
spelling command = join_with_byte 32 (command_words command)

-- Some line spells the command: no set holds a bit without a name, and the flags of a region are those that its line
-- has.
unfoldable pub has_spelling : Command → Bool
has_spelling (VmarAllocate region parent offset len flags caps) = (flags.0 == bit_and flags.0 (specific + upper_limit)) && nat_lt caps.0 (all_rights + 1)
has_spelling (VmarMap region offset name vmo_offset len perm flags) = nat_lt perm.0 (all_rights + 1) && nat_lt flags.0 (all_options + 1)
has_spelling (VmarProtect region addr len perm) = nat_lt perm.0 (all_rights + 1)
has_spelling _ = true

-- the number of a name, or a set of bits, has 32 bits
abbrev pub Has32 : ℕ → Type 0
Has32 n = n < 2 ^ 32

-- an offset, a length, a size or an address has 64 bits
abbrev pub Has64 : ℕ → Type 0
Has64 n = n < 2 ^ 64

-- byte data
abbrev pub IsData : List ℕ → Type 0
IsData bytes = (length bytes ≤ DATA_BYTES) × All (λ b. b < 256) bytes

-- the fields of a command are within their types
abbrev pub HasRanges : Command → Type 0
HasRanges (VmoCreate name size resizable) = Has32 name.0 × Has64 size
HasRanges (VmoChild name parent kind offset size resizable no_write) = Has32 name.0 × Has32 parent.0 × Has64 offset × Has64 size
HasRanges (VmoClose name) = Has32 name.0
HasRanges (VmoSize name) = Has32 name.0
HasRanges (VmoSetSize name size) = Has32 name.0 × Has64 size
HasRanges (VmoRead name offset len) = Has32 name.0 × Has64 offset × Has64 len
HasRanges (VmoWrite name offset bytes) = Has32 name.0 × Has64 offset × IsData bytes
HasRanges (VmoFill name offset len value) = Has32 name.0 × Has64 offset × Has64 len × (value < 256)
HasRanges (VmoCommit name offset len) = Has32 name.0 × Has64 offset × Has64 len
HasRanges (VmoDecommit name offset len) = Has32 name.0 × Has64 offset × Has64 len
HasRanges (VmoZero name offset len) = Has32 name.0 × Has64 offset × Has64 len
HasRanges (VmoPin token name offset len) = Has32 token.0 × Has32 name.0 × Has64 offset × Has64 len
HasRanges (VmoUnpin token) = Has32 token.0
HasRanges (VmoInfo name) = Has32 name.0
HasRanges (RootCreate region) = Has32 region.0
HasRanges (VmarAllocate region parent offset len flags caps) = Has32 region.0 × Has32 parent.0 × Has64 offset × Has64 len × Has32 flags.0 × Has32 caps.0
HasRanges (VmarMap region offset name vmo_offset len perm flags) =
    Has32 region.0 × Has64 offset × Has32 name.0 × Has64 vmo_offset × Has64 len × Has32 perm.0 × Has32 flags.0
HasRanges (VmarUnmap region addr len) = Has32 region.0 × Has64 addr × Has64 len
HasRanges (VmarProtect region addr len perm) = Has32 region.0 × Has64 addr × Has64 len × Has32 perm.0
HasRanges (VmarDestroy region) = Has32 region.0
HasRanges (Maps region) = Has32 region.0
HasRanges (MemRead region addr len) = Has32 region.0 × Has64 addr × Has64 len
HasRanges (MemWrite region addr bytes) = Has32 region.0 × Has64 addr × IsData bytes
HasRanges Stat = Unit {0}
