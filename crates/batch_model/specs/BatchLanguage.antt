-- How a line of a machine with jobs is read, and how its replies are spelled. The lines are those of the machine, and three more.
use Rattle.std.specs.Prelude.{ℕ, nat_lt, List, [], ◌∷◌, length, codes, if◌then◌else◌, Option, None, Some}
use Rattle.std.specs.List.{concat}
use Rattle.vm_base.specs.declared.limits.TheConstants.{LINE_BYTES}
use Rattle.vm_model.specs.Language.Reading.{Reading, reading, words, is_word, name_behind, number, vmo, ◌>>=◌}
use Rattle.vm_model.specs.Language.Reading.{Blank as PlainBlank, Order as PlainOrder, Outside as PlainOutside}
use Rattle.vm_model.specs.Language.Text.{reply_lines, ok_line, field}
use Rattle.batch_model.specs.declared.job.JobName.{JobName}
use Rattle.batch_model.specs.declared.job.JobKind.{JobKind}
use Rattle.batch_model.specs.declared.job.JobKind.TheVariants.{Commit, Zero, Decommit}
use Rattle.batch_model.specs.BatchWords.{BatchCommand, BatchReply}
use Rattle.batch_model.specs.declared.command.BatchCommand.TheVariants.{Plain as PlainCommand, Begin, Step, Drop}
use Rattle.batch_model.specs.declared.command.BatchReply.TheVariants.{Plain as PlainReply, Left}

-- ---- reading

-- JOB: `j` and a decimal number below 2^32 without leading zeros
unfoldable pub job_name : List ℕ → Option JobName
job_name word = do
  n ← name_behind 106 word
  Some (record { 0 = n })

-- `commit`, `zero` or `decommit`
unfoldable pub job_kind : List ℕ → Option JobKind
job_kind word =
    if is_word word (codes "commit") then Some Commit
    else (if is_word word (codes "zero") then Some Zero
    else (if is_word word (codes "decommit") then Some Decommit
    else None))

-- `begin JOB KIND VMO OFFSET LEN`
abbrev pub begin_order : List (List ℕ) → Option BatchCommand
begin_order (a ∷ b ∷ c ∷ d ∷ e ∷ []) = do
  job ← job_name a
  kind ← job_kind b
  name ← vmo c
  offset ← number d
  len ← number e
  Some (Begin job kind name offset len)
begin_order _ = None

-- `step JOB PAGES`
abbrev pub step_order : List (List ℕ) → Option BatchCommand
step_order (a ∷ b ∷ []) = do
  job ← job_name a
  pages ← number b
  Some (Step job pages)
step_order _ = None

-- `drop JOB`
abbrev pub drop_order : List (List ℕ) → Option BatchCommand
drop_order (a ∷ []) = do
  job ← job_name a
  Some (Drop job)
drop_order _ = None

-- a command on jobs, by its words
abbrev pub job_order : List (List ℕ) → Option BatchCommand
job_order [] = None
job_order (word ∷ arguments) =
    if is_word word (codes "begin") then begin_order arguments
    else (if is_word word (codes "step") then step_order arguments
    else (if is_word word (codes "drop") then drop_order arguments
    else None))

-- a line is blank, an order, or outside the grammar
pub data BatchReading : Type 0 where
  Blank : BatchReading
  Order : (command : BatchCommand) → BatchReading
  Outside : BatchReading

-- a command on jobs, or no line of the grammar
abbrev pub batch_order_or_outside : Option BatchCommand → BatchReading
batch_order_or_outside None = Outside
batch_order_or_outside (Some command) = Order command

-- what a line says, by what the machine's grammar has it say: a line outside of that may say a command on jobs
abbrev pub reading_beside : Reading → Option BatchCommand → BatchReading
reading_beside PlainBlank order = Blank
reading_beside (PlainOrder command) order = Order (PlainCommand command)
reading_beside PlainOutside order = batch_order_or_outside order

-- what a line says, without its line feed. A line over the limit is outside the grammar, whatever it holds
unfoldable pub batch_reading : List ℕ → BatchReading
batch_reading line = reading_beside (reading line) (if nat_lt LINE_BYTES (length line) then None else job_order (words line))

-- ---- replies

-- how many pages of a job are left
abbrev pub left_line : ℕ → List ℕ
left_line pages = ok_line (field (codes "left") pages)

-- the lines of a reply
unfoldable pub batch_reply_lines : BatchReply → List (List ℕ)
batch_reply_lines (PlainReply reply) = reply_lines reply
batch_reply_lines (Left pages) = left_line pages ∷ []

-- the text of a reply
unfoldable pub batch_text : BatchReply → List ℕ
batch_text reply = concat (batch_reply_lines reply)
