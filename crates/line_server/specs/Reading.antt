-- How a source is read line by line, whatever is done with its lines.
use Rattle.std.specs.Prelude.{◌≡◌, ℕ, ◌≤◌, ◌⊎◌, List, [], ◌∷◌, length, take, Option, Some, Result, Ok, Err, slice_get}
use Rattle.std.specs.Io.KnownBytes.{Consumes, IsAtEnd}
use Rattle.script_io.specs.declared.status.Status.{Status}
use Rattle.script_io.specs.declared.status.Status.TheVariants.{Done, Usage, HostMemory, ReadFault, WriteFault, ScriptLimit}
use Rattle.vm_model.specs.Scripts.Run.{lines_of, whole_lines}
use Rattle.line_server.specs.Outcome.{Completes, StopsReading, ReachesLimit}

-- What is done with lines: to which states a line may lead behind which reading goes on, and to which one with which it ends.
pub record LineTurns (S : Type 0) : Type 1 where
  pub Takes : List ℕ → S → S → Type 0
  pub Halts : List ℕ → S → S → Type 0

-- from old, the lines lead to new, one after another
abbrev pub TakesAll : {S : Type 0} → LineTurns S → S → List (List ℕ) → S → Type 0
TakesAll t old [] new = new ≡ old
TakesAll {S} t old (line ∷ lines) new = (mid : S) × t.Takes line old mid × TakesAll t mid lines new

-- from old, some of the lines lead to a state, and from there the next line leads to new, and ended the reading
pub record TakesPart {S : Type 0} (t : LineTurns S) (old : S) (lines : List (List ℕ)) (new : S) : Type 0 where
  pub count : ℕ
  pub line : List ℕ
  pub next : slice_get lines count ≡ Some line
  pub mid : S
  pub before : TakesAll t old (take count lines) mid
  pub halts : t.Halts line mid new

-- A line ended the reading. Its line feed was taken, or it is the last piece of a script.
pub record HaltsReading (Answers : List (List ℕ) → Type 0) (limit : ℕ) (source_old source_new : Option (List ℕ)) : Type 0 where
  pub script : List ℕ
  pub given : Consumes source_old source_new script
  pub short : length script ≤ limit
  pub answers : Answers (whole_lines script) ⊎ (Answers (lines_of script) × IsAtEnd source_new)

-- how reading ends
abbrev pub ReadsAs : {S E : Type 0} → LineTurns S → Result Status E → ℕ → Option (List ℕ) → Option (List ℕ) → S → S → Type 0
ReadsAs t (Ok Done) limit source_old source_new old new = Completes (λ lines. TakesAll t old lines new) limit source_old source_new
ReadsAs t (Ok ReadFault) limit source_old source_new old new = StopsReading (λ lines. TakesAll t old lines new) limit source_old source_new
ReadsAs t (Ok ScriptLimit) limit source_old source_new old new = ReachesLimit (λ lines. TakesAll t old lines new) limit source_old source_new
ReadsAs t (Ok HostMemory) limit source_old source_new old new = ⊥
ReadsAs t (Ok WriteFault) limit source_old source_new old new = ⊥
ReadsAs t (Ok Usage) limit source_old source_new old new = ⊥
ReadsAs t (Err error) limit source_old source_new old new = HaltsReading (λ lines. TakesPart t old lines new) limit source_old source_new
