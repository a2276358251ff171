-- How replies are spelled, each line with its line feed.
use Rattle.std.specs.Prelude.{ℕ, false, List, [], ◌∷◌, ◌++◌, length, map, codes, decimal, if◌then◌else◌}
use Rattle.std.specs.Fmt.{digits}
use Rattle.std.specs.List.{flat_map, concat}
use Rattle.hex.specs.Hex.{encode_lower}
use Rattle.vm_base.specs.declared.refusal.Refusal.{Refusal}
use Rattle.vm_base.specs.declared.refusal.Refusal.TheVariants.{Syntax, BadHandle, NameInUse, BadState, AccessDenied, InvalidArgs, NotSupported, Unavailable, OutOfRange, BufferTooSmall, NotFound, AlreadyExists, NoResources, NoMemory, HostMemory}
use Rattle.vm_model.specs.Space.Rights.{has, reading, writing, executing}
use Rattle.vm_model.specs.Machine.Words.{Reply}
use Rattle.vm_model.specs.declared.reply.Reply.TheVariants.{Done, Number, Bytes, Pins, Address, Access, Faults, Info as InfoReply, Runs as RunsReply, Stat as StatReply, Refused}
use Rattle.vm_model.specs.declared.reply.Info.{Info}
use Rattle.vm_model.specs.declared.reply.Stat.{Stat}
use Rattle.vm_model.specs.declared.runs.Run.{Run}

-- a refusal's name
abbrev pub refusal_name : Refusal → List ℕ
refusal_name Syntax = codes "SYNTAX"
refusal_name BadHandle = codes "BAD_HANDLE"
refusal_name NameInUse = codes "NAME_IN_USE"
refusal_name BadState = codes "BAD_STATE"
refusal_name AccessDenied = codes "ACCESS_DENIED"
refusal_name InvalidArgs = codes "INVALID_ARGS"
refusal_name NotSupported = codes "NOT_SUPPORTED"
refusal_name Unavailable = codes "UNAVAILABLE"
refusal_name OutOfRange = codes "OUT_OF_RANGE"
refusal_name BufferTooSmall = codes "BUFFER_TOO_SMALL"
refusal_name NotFound = codes "NOT_FOUND"
refusal_name AlreadyExists = codes "ALREADY_EXISTS"
refusal_name NoResources = codes "NO_RESOURCES"
refusal_name NoMemory = codes "NO_MEMORY"
refusal_name HostMemory = codes "HOST_MEMORY"

-- byte data in lower-case hex, or `-` if there are no bytes
abbrev pub data_text : List ℕ → List ℕ
data_text [] = codes "-"
data_text (b ∷ bs) = encode_lower (b ∷ bs)

-- an address: `0x` and lower-case hexadecimal digits without leading zeros
abbrev pub address_text : ℕ → List ℕ
address_text n = codes "0x" ++ digits 16 false n

-- the letters of the named bits of a permission, or `none` if it has none of them
abbrev pub perm_text : ℕ → List ℕ
perm_text bits = named (letter reading 114 ++ letter writing 119 ++ letter executing 120) where
  letter : ℕ → ℕ → List ℕ
  letter bit code = if has bits bit then code ∷ [] else []

  named : List ℕ → List ℕ
  named [] = codes "none"
  named (c ∷ cs) = c ∷ cs

-- a name with its number, as ` free=7`
abbrev pub field : List ℕ → ℕ → List ℕ
field name n = codes " " ++ name ++ codes "=" ++ decimal n

-- one line: `OK` and what follows
abbrev pub ok_line : List ℕ → List ℕ
ok_line rest = codes "OK" ++ rest ++ codes "\n"

abbrev pub run_line : Run → List ℕ
run_line run = codes "+ " ++ address_text run.addr ++ codes " " ++ decimal run.len ++ codes " " ++ perm_text run.perm.0
    ++ field (codes "vmo") run.koid.0 ++ field (codes "offset") run.offset ++ codes " region=r" ++ decimal run.region.0 ++ codes "\n"

abbrev pub info_text : Info → List ℕ
info_text i = field (codes "koid") i.koid.0 ++ field (codes "size") i.size ++ field (codes "held") i.held ++ field (codes "private") i.private_pages
    ++ field (codes "shared") i.shared_pages ++ field (codes "charged") i.charged ++ field (codes "children") i.children

abbrev pub stat_text : Stat → List ℕ
stat_text s = field (codes "frames") s.frames ++ field (codes "used") s.used ++ field (codes "free") s.free ++ field (codes "vmos") s.vmos

-- the lines of a reply
unfoldable pub reply_lines : Reply → List (List ℕ)
reply_lines Done = ok_line [] ∷ []
reply_lines (Number n) = ok_line (codes " " ++ decimal n) ∷ []
reply_lines (Bytes bytes) = ok_line (codes " " ++ data_text bytes) ∷ []
reply_lines (Pins numbers) = ok_line (flat_map (λ n. codes " " ++ decimal n) numbers) ∷ []
reply_lines (Address n) = ok_line (codes " " ++ address_text n) ∷ []
reply_lines (Access faults bytes) = ok_line (field (codes "faults") faults ++ codes " " ++ data_text bytes) ∷ []
reply_lines (Faults n) = ok_line (field (codes "faults") n) ∷ []
reply_lines (InfoReply info) = ok_line (info_text info) ∷ []
reply_lines (RunsReply runs) = ok_line (codes " " ++ decimal (length runs)) ∷ map run_line runs
reply_lines (StatReply stat) = ok_line (stat_text stat) ∷ []
reply_lines (Refused refusal) = (refusal_name refusal ++ codes "\n") ∷ []

-- the text of a reply
unfoldable pub text : Reply → List ℕ
text reply = concat (reply_lines reply)

-- the text of replies, one after another
abbrev pub texts : List Reply → List ℕ
texts replies = flat_map text replies
