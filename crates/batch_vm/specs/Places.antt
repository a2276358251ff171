-- The commands on jobs, by the places of their words in a line.
use Rattle.std.specs.Prelude.{ℕ, nat_lt, List, length, codes, slice_get, if◌then◌else◌, Option, None, Some}
use Rattle.vm_model.specs.Language.Reading.{is_word, number, vmo, ◌>>=◌}
use Rattle.batch_model.specs.BatchLanguage.{job_name, job_kind}
use Rattle.batch_model.specs.BatchWords.{BatchCommand}
use Rattle.batch_model.specs.declared.command.BatchCommand.TheVariants.{Begin, Step, Drop}

-- what the word at a place is read as
abbrev pub at_place : {A : Type 0} → (List ℕ → Option A) → List (List ℕ) → ℕ → Option A
at_place read ws index = do
  word ← slice_get ws index
  read word

-- a command that has so many words, its own and its arguments
abbrev pub if_all : ℕ → List (List ℕ) → BatchCommand → Option BatchCommand
if_all count ws command = if nat_lt count (length ws) then None else Some command

abbrev pub begin_at : List (List ℕ) → Option BatchCommand
begin_at ws = do
  job ← at_place job_name ws 1
  kind ← at_place job_kind ws 2
  name ← at_place vmo ws 3
  offset ← at_place number ws 4
  len ← at_place number ws 5
  if_all 6 ws (Begin job kind name offset len)

abbrev pub step_at : List (List ℕ) → Option BatchCommand
step_at ws = do
  job ← at_place job_name ws 1
  pages ← at_place number ws 2
  if_all 3 ws (Step job pages)

abbrev pub drop_at : List (List ℕ) → Option BatchCommand
drop_at ws = do
  job ← at_place job_name ws 1
  if_all 2 ws (Drop job)

-- the command of a line by its first word
abbrev pub order_by : List ℕ → List (List ℕ) → Option BatchCommand
order_by word ws =
    if is_word word (codes "begin") then begin_at ws
    else (if is_word word (codes "step") then step_at ws
    else (if is_word word (codes "drop") then drop_at ws
    else None))

abbrev pub order_at : List (List ℕ) → Option BatchCommand
order_at ws = do
  word ← slice_get ws 0
  order_by word ws
