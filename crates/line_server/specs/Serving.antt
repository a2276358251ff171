-- How far a source was read: which lines were taken, and which bytes are pending in the line reader.
use Rattle.std.specs.Prelude.{◌≡◌, ℕ, ◌+◌, ◌-◌, ◌≤◌, ◌⊎◌, true, false, List, [], ◌++◌, length, Option, None, Some, Result, Ok, Err}
use Rattle.std.specs.Io.KnownBytes.{Consumes}
use Rattle.script_io.specs.Reader.{Reader}
use Rattle.script_io.specs.Fetching.{IsPending, Fetches}
use Rattle.script_io.specs.declared.line_reader.Fetch.{Fetch}
use Rattle.script_io.specs.declared.status.Status.{Status}
use Rattle.script_io.specs.declared.status.Status.TheVariants.{WriteFault}
use Rattle.vm_model.specs.Scripts.Run.{lines_of, whole_lines}
use Rattle.script_io.specs.Faults.{HasCause}
use Rattle.line_server.specs.Answering.{Answering}
use Rattle.line_server.specs.Outcome.{AnswersLine}
use Rattle.line_server.specs.Reading.{LineTurns, TakesAll}

-- These bytes are these lines, each with its line feed: whatever comes behind them begins a line.
pub record AreLines (bytes : List ℕ) (lines : List (List ℕ)) : Type 0 where
  pub each : (rest : List ℕ) → lines_of (bytes ++ rest) ≡ lines ++ lines_of rest
  pub whole : (rest : List ℕ) → whole_lines (bytes ++ rest) ≡ lines ++ whole_lines rest

-- These bytes are a whole script of these lines: the reader saw the end of its source, and nothing is pending.
pub record AreAll (reader : Reader) (bytes pending : List ℕ) (lines : List (List ℕ)) : Type 0 where
  pub each : lines_of bytes ≡ lines
  pub behind : pending ≡ []
  pub ended : reader.ended ≡ true

-- The source gave bytes whose lines led from start to now, and bytes that are pending in the reader.
pub record IsBeingRead {S : Type 0} (t : LineTurns S) (limit : ℕ) (reader : Reader) (source_old source_now : Option (List ℕ)) (start now : S) : Type 0 where
  pub front : List ℕ
  pub pending : List ℕ
  pub lines : List (List ℕ)
  pub given : Consumes source_old source_now (front ++ pending)
  pub still : IsPending reader source_now pending
  pub bounded : reader.limit ≡ limit
  pub taken : reader.taken ≡ length (front ++ pending)
  pub within : length front ≤ limit
  pub split : AreLines front lines ⊎ AreAll reader front pending lines
  pub all : TakesAll t start lines now

-- Bytes are pending, and every KOID was given for a byte that was used up.
pub record IsReady (reader : Reader) (remaining : Option (List ℕ)) (next : ℕ) : Type 0 where
  pub pending : List ℕ
  pub still : IsPending reader remaining pending
  pub koids : next + length pending ≤ reader.taken + 1

-- how many bytes are left to use up, at most
abbrev pub bytes_left : Reader → ℕ
bytes_left reader = (reader.limit + 1 - reader.taken) + (reader.dropped + length reader.held)

-- From old, whatever was pending, one fetch led to new. A call that says this uses up one line at most, and so its
-- text is written before the next line is looked at.
abbrev pub FetchesOnce : Reader → Reader → Option (List ℕ) → Option (List ℕ) → Type 0
FetchesOnce old new source_old source_new = (pending : List ℕ) → IsPending old source_old pending
    → (answer : Fetch) × Fetches old new source_old source_new pending answer

-- a line reader that took nothing yet
abbrev pub fresh : ℕ → Reader
fresh limit = record { limit = limit; taken = 0; dropped = 0; held = []; line = []; ended = false }

-- how reading ends behind a line, if it does
abbrev pub halt : {T E : Type 0} → Result T E → Option (Result Status E)
halt (Ok x) = None
halt (Err e) = Some (Err e)

-- ---- answering

-- a machine that answers lines, what its sink took, and how often the sink failed
pub record Heard (S : Type 0) : Type 0 where
  pub machine : S
  pub taken : Option (List ℕ)
  pub faults : ℕ

-- the line was answered, and its text was written whole, or the sink failed
pub record HearsLine {S T E : Type 0} (m : Answering S) (line : List ℕ) (old new : Heard S) (result : Result T E) : Type 0 where
  pub answer : AnswersLine m line old.machine new.machine old.taken new.taken result
  pub good : m.IsGood new.machine
  pub cause : HasCause old.faults new.faults result

-- what answering does with a line
abbrev pub answering : {S : Type 0} → Answering S → LineTurns (Heard S)
answering m = record {
  Takes = λ line old new. HearsLine {T = Unit {0}} {E = Unit {0}} m line old new (Ok tt);
  Halts = λ line old new. HearsLine {T = Unit {0}} {E = Unit {0}} m line old new (Err tt);
}

-- the status of a script whose lines were read to this end
abbrev pub served_as : {E : Type 0} → Result Status E → Status
served_as (Ok status) = status
served_as (Err error) = WriteFault
