-- How a line of a script is read.
use Rattle.std.specs.Prelude.{ℕ, ◌+◌, ◌-◌, ◌*◌, ◌^◌, ◌==◌, ◌&&◌, ◌||◌, nat_lt, nat_le, nat_eq, Bool, true, false, not, List, [], ◌∷◌, length, codes, if◌then◌else◌, Option, None, Some, option_and_then}
use Rattle.std.specs.Result.{result_ok}
use Rattle.std.specs.List.{list_any}
use Rattle.std.specs.Cmp.Lexicographic.{pointwise}
use Rattle.hex.specs.Hex.{decode_of, hex_digit_value}
use Rattle.vm_base.specs.declared.names.VmoName.{VmoName}
use Rattle.vm_base.specs.declared.names.RegionName.{RegionName}
use Rattle.vm_base.specs.declared.names.PinName.{PinName}
use Rattle.vm_base.specs.declared.flags.Perm.{Perm}
use Rattle.vm_model.specs.Space.Rights.{reading as read_right, writing as write_right, executing as execute_right, specific, overwrite, upper_limit, allow_faults}
use Rattle.vm_model.specs.declared.command.ChildKind.{ChildKind}
use Rattle.vm_model.specs.declared.command.ChildKind.TheVariants.{Snapshot, Slice, Reference}
use Rattle.vm_model.specs.Machine.Words.{Command}
use Rattle.vm_model.specs.declared.command.Command.TheVariants.{VmoCreate, VmoChild, VmoClose, VmoSize, VmoSetSize, VmoRead, VmoWrite, VmoFill, VmoCommit, VmoDecommit, VmoZero, VmoPin, VmoUnpin, VmoInfo, RootCreate, VmarAllocate, VmarMap, VmarUnmap, VmarProtect, VmarDestroy, Maps, MemRead, MemWrite, Stat}
use Rattle.vm_base.specs.declared.limits.TheConstants.{LINE_BYTES, NAMES, DATA_BYTES}

infixl 10 ◌>>=◌
abbrev pub ◌>>=◌ : {A B : Type 0} → Option A → (A → Option B) → Option B
o >>= f = option_and_then f o

-- a space, a tab or a carriage return
abbrev pub is_blank : ℕ → Bool
is_blank b = (b == 32) || (b == 9) || (b == 13)

-- a line begins with a blank, or has ended
abbrev pub begins_blank : List ℕ → Bool
begins_blank [] = true
begins_blank (b ∷ bs) = is_blank b

-- a byte before the first word, or a word of its own
abbrev pub before_first : ℕ → List (List ℕ) → List (List ℕ)
before_first b [] = (b ∷ []) ∷ []
before_first b (w ∷ ws) = (b ∷ w) ∷ ws

-- the longest runs of bytes that are no blanks
unfoldable pub words : List ℕ → List (List ℕ)
words [] = []
words (b ∷ bs) =
    if is_blank b then words bs
    else (if begins_blank bs then (b ∷ []) ∷ words bs else before_first b (words bs))

-- a decimal digit's value
abbrev pub digit : ℕ → Option ℕ
digit b = if nat_le 48 b && nat_le b 57 then Some (b - 48) else None

-- the number that digits of a base spell, going on from a number before them
unfoldable pub digits_from : ℕ → (ℕ → Option ℕ) → ℕ → List ℕ → Option ℕ
digits_from base value before [] = Some before
digits_from base value before (b ∷ bs) = do
  d ← value b
  digits_from base value (before * base + d) bs

-- one digit or more
abbrev pub digits : ℕ → (ℕ → Option ℕ) → List ℕ → Option ℕ
digits base value [] = None
digits base value (b ∷ bs) = digits_from base value 0 (b ∷ bs)

-- a number below the bound
abbrev pub below : ℕ → Option ℕ → Option ℕ
below bound o = do
  n ← o
  if nat_lt n bound then Some n else None

-- a word begins with `0x`
abbrev pub is_hex : List ℕ → Bool
is_hex (b ∷ c ∷ bs) = (b == 48) && (c == 120)
is_hex (b ∷ []) = false
is_hex [] = false

abbrev pub behind_two : List ℕ → List ℕ
behind_two (b ∷ c ∷ bs) = bs
behind_two (b ∷ []) = []
behind_two [] = []

-- NUM: decimal digits, or `0x` and hexadecimal digits of either case, below 2^64
unfoldable pub number : List ℕ → Option ℕ
number word = below (2 ^ 64) (if is_hex word then digits 16 hex_digit_value (behind_two word) else digits 10 digit word)

-- a zero before other digits
abbrev pub has_leading_zero : List ℕ → Bool
has_leading_zero (b ∷ c ∷ bs) = b == 48
has_leading_zero (b ∷ []) = false
has_leading_zero [] = false

-- the number of a name: a letter, and a decimal number below 2^32 without leading zeros
abbrev pub name_behind : ℕ → List ℕ → Option ℕ
name_behind letter [] = None
name_behind letter (b ∷ bs) = if (b == letter) && not (has_leading_zero bs) then below NAMES (digits 10 digit bs) else None

-- VMO: `v` and a number
unfoldable pub vmo : List ℕ → Option VmoName
vmo word = do
  n ← name_behind 118 word
  Some (record { 0 = n })

-- DATA: `-` for no bytes, or two hexadecimal digits of either case for each of 1 to 4,096 bytes
unfoldable pub byte_data : List ℕ → Option (List ℕ)
byte_data word =
    if pointwise nat_eq word (codes "-") then Some []
    else (if nat_lt 0 (length word) && nat_le (length word) (2 * DATA_BYTES) then result_ok (decode_of word) else None)

-- BYTE: a number of at most 255
abbrev pub byte : List ℕ → Option ℕ
byte word = below 256 (number word)

-- REGION: `r` and a number
unfoldable pub region : List ℕ → Option RegionName
region word = do
  n ← name_behind 114 word
  Some (record { 0 = n })

-- PIN: `p` and a number
unfoldable pub pin : List ℕ → Option PinName
pin word = do
  n ← name_behind 112 word
  Some (record { 0 = n })

-- the two words are the same
abbrev pub is_word : List ℕ → List ℕ → Bool
is_word = pointwise nat_eq

-- PERM: the letters of reading, writing and executing that are allowed, or `none`
unfoldable pub perm : List ℕ → Option Perm
perm word =
    if is_word word (codes "none") then Some (record { 0 = 0 })
    else (if is_word word (codes "r") then Some (record { 0 = read_right })
    else (if is_word word (codes "w") then Some (record { 0 = write_right })
    else (if is_word word (codes "rw") then Some (record { 0 = read_right + write_right })
    else (if is_word word (codes "x") then Some (record { 0 = execute_right })
    else (if is_word word (codes "rx") then Some (record { 0 = read_right + execute_right })
    else (if is_word word (codes "wx") then Some (record { 0 = write_right + execute_right })
    else (if is_word word (codes "rwx") then Some (record { 0 = read_right + write_right + execute_right })
    else None)))))))

-- the word stands among others
abbrev pub stands : List ℕ → List (List ℕ) → Bool
stands word ws = list_any (is_word word) ws

-- The words are flags of this list, each at most once, in any order.
abbrev pub are_flags : List (List ℕ) → List (List ℕ) → Bool
are_flags known [] = true
are_flags known (w ∷ ws) = stands w known && not (stands w ws) && are_flags known ws

-- a bit of a set
abbrev pub bit : Bool → ℕ → ℕ
bit true n = n
bit false n = 0

-- an argument that is read so, and then the others
abbrev pub arg : {A C : Type 0} → (List ℕ → Option A) → (A → List (List ℕ) → Option C) → List (List ℕ) → Option C
arg read next [] = None
arg read next (w ∷ ws) = do
  value ← read w
  next value ws

-- no more arguments
abbrev pub end : {C : Type 0} → C → List (List ℕ) → Option C
end command [] = Some command
end command _ = None

-- flags of this list, each at most once, in any order
abbrev pub flags : {C : Type 0} → List (List ℕ) → ((List ℕ → Bool) → C) → List (List ℕ) → Option C
flags known command ws = if are_flags known ws then Some (command (λ flag. stands flag ws)) else None

-- one name, or a name and a range of what it stands for
abbrev pub named : {A C : Type 0} → (List ℕ → Option A) → (A → C) → List (List ℕ) → Option C
named read command = arg read (λ name. end (command name))

abbrev pub ranged : {A C : Type 0} → (List ℕ → Option A) → (A → ℕ → ℕ → C) → List (List ℕ) → Option C
ranged read command = arg read (λ name. arg number (λ at. arg number (λ len. end (command name at len))))

-- `snapshot`, `slice` or `reference`
unfoldable pub child_kind : List ℕ → Option ChildKind
child_kind word =
    if is_word word (codes "snapshot") then Some Snapshot
    else (if is_word word (codes "slice") then Some Slice
    else (if is_word word (codes "reference") then Some Reference
    else None))

-- ---- each command, from its arguments

-- `vmo_create VMO SIZE [resizable]`
abbrev pub vmo_create : List (List ℕ) → Option Command
vmo_create = arg vmo (λ name. arg number (λ size. flags (codes "resizable" ∷ []) (λ has.
    VmoCreate name size (has (codes "resizable")))))

-- `vmo_create_child VMO PARENT KIND OFFSET SIZE [resizable] [no_write]`
abbrev pub vmo_create_child : List (List ℕ) → Option Command
vmo_create_child = arg vmo (λ name. arg vmo (λ parent. arg child_kind (λ kind. arg number (λ offset. arg number (λ size.
    flags (codes "resizable" ∷ codes "no_write" ∷ []) (λ has.
    VmoChild name parent kind offset size (has (codes "resizable")) (has (codes "no_write"))))))))

-- `vmo_set_size VMO SIZE`
abbrev pub vmo_set_size : List (List ℕ) → Option Command
vmo_set_size = arg vmo (λ name. arg number (λ size. end (VmoSetSize name size)))

-- `vmo_write VMO OFFSET DATA`
abbrev pub vmo_write : List (List ℕ) → Option Command
vmo_write = arg vmo (λ name. arg number (λ offset. arg byte_data (λ bytes. end (VmoWrite name offset bytes))))

-- `vmo_fill VMO OFFSET LEN BYTE`
abbrev pub vmo_fill : List (List ℕ) → Option Command
vmo_fill = arg vmo (λ name. arg number (λ offset. arg number (λ len. arg byte (λ value. end (VmoFill name offset len value)))))

-- `vmo_pin PIN VMO OFFSET LEN`
abbrev pub vmo_pin : List (List ℕ) → Option Command
vmo_pin = arg pin (λ token. ranged vmo (VmoPin token))

-- `vmar_allocate REGION PARENT OFFSET LEN [specific] [upper_limit] [can_read] [can_write] [can_execute]`
abbrev pub vmar_allocate : List (List ℕ) → Option Command
vmar_allocate = arg region (λ name. arg region (λ parent. arg number (λ offset. arg number (λ len.
    flags (codes "specific" ∷ codes "upper_limit" ∷ codes "can_read" ∷ codes "can_write" ∷ codes "can_execute" ∷ []) (λ has.
    VmarAllocate name parent offset len
    (record { 0 = bit (has (codes "specific")) specific + bit (has (codes "upper_limit")) upper_limit })
    (record { 0 = bit (has (codes "can_read")) read_right + bit (has (codes "can_write")) write_right + bit (has (codes "can_execute")) execute_right }))))))

-- `vmar_map REGION OFFSET VMO VMO_OFFSET LEN PERM [specific] [specific_overwrite] [upper_limit] [allow_faults]`
abbrev pub vmar_map : List (List ℕ) → Option Command
vmar_map = arg region (λ name. arg number (λ offset. arg vmo (λ source. arg number (λ start. arg number (λ len. arg perm (λ allowed.
    flags (codes "specific" ∷ codes "specific_overwrite" ∷ codes "upper_limit" ∷ codes "allow_faults" ∷ []) (λ has.
    VmarMap name offset source start len allowed
    (record { 0 = bit (has (codes "specific")) specific + bit (has (codes "specific_overwrite")) overwrite + bit (has (codes "upper_limit")) upper_limit + bit (has (codes "allow_faults")) allow_faults }))))))))

-- `vmar_protect REGION ADDR LEN PERM`
abbrev pub vmar_protect : List (List ℕ) → Option Command
vmar_protect = arg region (λ name. arg number (λ addr. arg number (λ len. arg perm (λ allowed. end (VmarProtect name addr len allowed)))))

-- `mem_write REGION ADDR DATA`
abbrev pub mem_write : List (List ℕ) → Option Command
mem_write = arg region (λ name. arg number (λ addr. arg byte_data (λ bytes. end (MemWrite name addr bytes))))

-- the first of these readings that has the command word, on the arguments
abbrev pub by_word : List (List ℕ × (List (List ℕ) → Option Command)) → List ℕ → List (List ℕ) → Option Command
by_word [] word arguments = None
by_word (row ∷ rows) word arguments = if is_word word row.0 then row.1 arguments else by_word rows word arguments

-- the readings of all commands, by their words
abbrev pub commands : List (List ℕ × (List (List ℕ) → Option Command))
commands =
    (codes "vmo_create", vmo_create)
    ∷ (codes "vmo_create_child", vmo_create_child)
    ∷ (codes "vmo_close", named vmo VmoClose)
    ∷ (codes "vmo_size", named vmo VmoSize)
    ∷ (codes "vmo_set_size", vmo_set_size)
    ∷ (codes "vmo_read", ranged vmo VmoRead)
    ∷ (codes "vmo_write", vmo_write)
    ∷ (codes "vmo_fill", vmo_fill)
    ∷ (codes "vmo_commit", ranged vmo VmoCommit)
    ∷ (codes "vmo_decommit", ranged vmo VmoDecommit)
    ∷ (codes "vmo_zero", ranged vmo VmoZero)
    ∷ (codes "vmo_pin", vmo_pin)
    ∷ (codes "vmo_unpin", named pin VmoUnpin)
    ∷ (codes "vmo_info", named vmo VmoInfo)
    ∷ (codes "root_create", named region RootCreate)
    ∷ (codes "vmar_allocate", vmar_allocate)
    ∷ (codes "vmar_map", vmar_map)
    ∷ (codes "vmar_unmap", ranged region VmarUnmap)
    ∷ (codes "vmar_protect", vmar_protect)
    ∷ (codes "vmar_destroy", named region VmarDestroy)
    ∷ (codes "maps", named region Maps)
    ∷ (codes "mem_read", ranged region MemRead)
    ∷ (codes "mem_write", mem_write)
    ∷ (codes "stat", end Stat)
    ∷ []

-- a command word and its arguments
unfoldable pub command : List ℕ → List (List ℕ) → Option Command
command word arguments = by_word commands word arguments

-- a line is blank, an order, or outside the grammar
pub data Reading : Type 0 where
  Blank : Reading
  Order : (command : Command) → Reading
  Outside : Reading

abbrev pub order_or_outside : Option Command → Reading
order_or_outside None = Outside
order_or_outside (Some command) = Order command

-- a word begins with `#`
abbrev pub is_comment : List ℕ → Bool
is_comment [] = false
is_comment (b ∷ bs) = b == 35

abbrev pub reading_of_words : List (List ℕ) → Reading
reading_of_words [] = Blank
reading_of_words (word ∷ arguments) = if is_comment word then Blank else order_or_outside (command word arguments)

-- what a line says, without its line feed. A line over the limit is outside the grammar, whatever it holds
unfoldable pub reading : List ℕ → Reading
reading line = if nat_lt LINE_BYTES (length line) then Outside else reading_of_words (words line)
