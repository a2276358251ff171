-- How a line of a script of page sources is read.
use Rattle.std.specs.Prelude.{ℕ, ◌∷◌, nat_lt, List, [], length, codes, if◌then◌else◌, Option, None, Some, option_map, Result, Ok, Err}
use Rattle.vm_base.specs.declared.limits.TheConstants.{LINE_BYTES}
use Rattle.vm_base.specs.declared.names.VmoName.{VmoName}
use Rattle.vm_model.specs.Language.Reading.{◌>>=◌, words, is_word, is_comment, vmo, number, byte_data}
use Rattle.script_text.specs.declared.reading.SyntaxFault.{SyntaxFault}
use Rattle.source_model.specs.Words.{SourceCommand}
use Rattle.source_model.specs.declared.command.SourceCommand.TheVariants.{Create, Child, Loose, Close, Read, Write, Supply, Evict, Stat}
use Rattle.source_vm.specs.declared.reading.SourceLine.{SourceLine}
use Rattle.source_vm.specs.declared.reading.SourceLine.TheVariants.{Blank as BlankLine, Order as OrderLine}

-- `source_create VMO SIZE KIND SEED`
abbrev pub source_create : List (List ℕ) → Option SourceCommand
source_create (a ∷ b ∷ c ∷ d ∷ []) = do
  name ← vmo a
  size ← number b
  kind ← number c
  seed ← number d
  Some (Create name size kind seed)
source_create _ = None

-- by which kind of child, which command
abbrev pub child_of_kind : List ℕ → (name parent : VmoName) → (offset size : ℕ) → Option SourceCommand
child_of_kind kind name parent offset size =
    if is_word kind (codes "snapshot") then Some (Child name parent offset size)
    else if is_word kind (codes "snapshot_at_least_on_write") then Some (Loose name parent offset size)
    else None

-- `vmo_create_child VMO PARENT snapshot OFFSET SIZE`, and the same with `snapshot_at_least_on_write`
abbrev pub source_child : List (List ℕ) → Option SourceCommand
source_child (a ∷ b ∷ kind ∷ c ∷ d ∷ []) = do
  name ← vmo a
  parent ← vmo b
  offset ← number c
  size ← number d
  child_of_kind kind name parent offset size
source_child _ = None

-- the one argument of a command of a VMO
abbrev pub name_in : List (List ℕ) → Option VmoName
name_in (a ∷ []) = vmo a
name_in _ = None

-- the arguments of a command of a range of a VMO
abbrev pub range_in : List (List ℕ) → Option (VmoName × ℕ × ℕ)
range_in (a ∷ b ∷ c ∷ []) = do
  name ← vmo a
  offset ← number b
  len ← number c
  Some (name, offset, len)
range_in _ = None

-- a command of one VMO, and one of a range of a VMO
abbrev pub of_name : (VmoName → SourceCommand) → List (List ℕ) → Option SourceCommand
of_name f ws = option_map f (name_in ws)

abbrev pub of_range : (VmoName → ℕ → ℕ → SourceCommand) → List (List ℕ) → Option SourceCommand
of_range f ws = option_map (λ r. f r.0 r.1 r.2) (range_in ws)

-- `vmo_write VMO OFFSET DATA`
abbrev pub source_write : List (List ℕ) → Option SourceCommand
source_write (a ∷ b ∷ c ∷ []) = do
  name ← vmo a
  offset ← number b
  bytes ← byte_data c
  Some (Write name offset bytes)
source_write _ = None

-- `stat`
abbrev pub source_stat : List (List ℕ) → Option SourceCommand
source_stat [] = Some Stat
source_stat _ = None

-- a command word and its arguments
unfoldable pub source_command : List ℕ → List (List ℕ) → Option SourceCommand
source_command word arguments =
    if is_word word (codes "vmo_read") then of_range Read arguments
    else if is_word word (codes "vmo_write") then source_write arguments
    else if is_word word (codes "supply") then of_range Supply arguments
    else if is_word word (codes "evict") then of_range Evict arguments
    else if is_word word (codes "source_create") then source_create arguments
    else if is_word word (codes "vmo_create_child") then source_child arguments
    else if is_word word (codes "vmo_close") then of_name Close arguments
    else if is_word word (codes "stat") then source_stat arguments
    else None

-- the command of a line with these words
abbrev pub source_order_in : List (List ℕ) → Option SourceCommand
source_order_in [] = None
source_order_in (word ∷ arguments) = source_command word arguments

-- a line is blank, an order, or outside the grammar
pub data SourceReading : Type 0 where
  Blank : SourceReading
  Order : (command : SourceCommand) → SourceReading
  Outside : SourceReading

abbrev pub source_order_or_outside : Option SourceCommand → SourceReading
source_order_or_outside None = Outside
source_order_or_outside (Some command) = Order command

abbrev pub source_reading_of_words : List (List ℕ) → SourceReading
source_reading_of_words [] = Blank
source_reading_of_words (word ∷ arguments) =
    if is_comment word then Blank else source_order_or_outside (source_command word arguments)

-- what a line says, without its line feed. A line over the limit is outside the grammar, whatever it holds
unfoldable pub source_reading : List ℕ → SourceReading
source_reading line = if nat_lt LINE_BYTES (length line) then Outside else source_reading_of_words (words line)

-- an answer of `read_source_line` as a reading
abbrev pub source_reading_of : Result SourceLine SyntaxFault → SourceReading
source_reading_of (Ok BlankLine) = Blank
source_reading_of (Ok (OrderLine command)) = Order command
source_reading_of (Err fault) = Outside

-- an answer of `read_source_call` as a reading
abbrev pub source_reading_of_call : Result (Option SourceCommand) SyntaxFault → SourceReading
source_reading_of_call (Ok None) = Blank
source_reading_of_call (Ok (Some call)) = Order call
source_reading_of_call (Err fault) = Outside
