-- What is reported of a transcript, over the bytes that a source gave and the bytes that a sink took.
use Rattle.std.specs.Prelude.{◌≡◌, ℕ, ◌+◌, ◌≤◌, ◌⊎◌, List, [], ◌∷◌, ◌++◌, length, codes, decimal, Option, None, Some}
use Rattle.std.specs.Io.KnownBytes.{Appends, Consumes}
use Rattle.script_io.specs.declared.status.Status.{Status}
use Rattle.script_io.specs.declared.status.Status.TheVariants.{Done, Usage, HostMemory, ReadFault, WriteFault, ScriptLimit}
use Rattle.script_io.specs.Faults.{IsCutOff}
use Rattle.vm_base.specs.declared.limits.TheConstants.{SCRIPT_BYTES}
use Rattle.line_server.specs.Outcome.{Completes, StopsReading, ReachesLimit}
use Rattle.line_server.specs.Reading.{LineTurns}
use Rattle.moving_model.specs.Transcript.{Told, Asked, Answered, told, ArePossible, AreWhole}
use Rattle.transcript.specs.declared.verdict.Verdict.{Verdict}
use Rattle.transcript.specs.declared.verdict.Verdict.TheVariants.{Illegal as IllegalLine, Malformed as MalformedLine}
use Rattle.transcript.specs.declared.reports.Report.{Report}
use Rattle.transcript.specs.declared.reports.Report.TheVariants.{Legal, Illegal, Malformed}
use Rattle.transcript.specs.declared.reports.Check.{Check}
use Rattle.transcript.specs.Verdicts.{HasRead, IsVerdict}

-- ---- what a report says of the lines of a transcript

-- how many of them are lines of the script
abbrev pub is_asked : Option Told → ℕ
is_asked (Some (Asked line)) = 1
is_asked (Some (Answered line)) = 0
is_asked None = 0

abbrev pub asked_count : List (List ℕ) → ℕ
asked_count [] = 0
asked_count (line ∷ lines) = is_asked (told line) + asked_count lines

-- Line k, from 1, is the first of which this is said. A transcript may begin with the lines before it.
pub record IsFirstVerdict (frames : ℕ) (lines : List (List ℕ)) (verdict : Verdict) (k : ℕ) : Type 0 where
  pub before : List (List ℕ)
  pub line : List ℕ
  pub after : List (List ℕ)
  pub is : lines ≡ before ++ line ∷ after
  pub number : k ≡ length before + 1
  pub possible : ArePossible frames before
  pub said : IsVerdict frames before line verdict

-- The lines end while a reply line is missing, which would be line k.
pub record IsMissing (frames : ℕ) (lines : List (List ℕ)) (k : ℕ) : Type 0 where
  pub possible : ArePossible frames lines
  pub part : AreWhole frames lines → ⊥
  pub number : k ≡ length lines + 1

-- Legal are the lines of a whole transcript.
abbrev pub IsReport : ℕ → List (List ℕ) → Report → Type 0
IsReport frames lines (Legal n) = AreWhole frames lines × (n ≡ asked_count lines)
IsReport frames lines (Illegal k) = IsFirstVerdict frames lines IllegalLine k ⊎ IsMissing frames lines k
IsReport frames lines (Malformed k) = IsFirstVerdict frames lines MalformedLine k

-- the line that a report is written as
abbrev pub report_text : Report → List ℕ
report_text (Legal n) = codes "LEGAL" ++ codes " " ++ decimal n ++ codes "\n"
report_text (Illegal k) = codes "ILLEGAL" ++ codes " " ++ decimal k ++ codes "\n"
report_text (Malformed k) = codes "MALFORMED" ++ codes " " ++ decimal k ++ codes "\n"

-- The report of the lines, and its text was written whole or in part.
pub record Reports (Written : List ℕ → Type 0) (frames : ℕ) (lines : List (List ℕ)) : Type 0 where
  pub report : Report
  pub is : IsReport frames lines report
  pub written : Written (report_text report)

-- the source gave at most so many bytes
pub record ReadsAtMost (limit : ℕ) (source_old source_new : Option (List ℕ)) : Type 0 where
  pub script : List ℕ
  pub given : Consumes source_old source_new script
  pub short : length script ≤ limit

-- what each status says
abbrev pub CheckEndsAs : Status → ℕ → Option (List ℕ) → Option (List ℕ) → Option (List ℕ) → Option (List ℕ) → Type 0
CheckEndsAs Done frames source_old source_new sink_old sink_new = Completes (Reports (Appends sink_old sink_new) frames) SCRIPT_BYTES source_old source_new
CheckEndsAs WriteFault frames source_old source_new sink_old sink_new = Completes (Reports (IsCutOff sink_old sink_new) frames) SCRIPT_BYTES source_old source_new
CheckEndsAs ReadFault frames source_old source_new sink_old sink_new = StopsReading (λ lines. Unit {0}) SCRIPT_BYTES source_old source_new
CheckEndsAs ScriptLimit frames source_old source_new sink_old sink_new = ReachesLimit (λ lines. Unit {0}) SCRIPT_BYTES source_old source_new
CheckEndsAs HostMemory frames source_old source_new sink_old sink_new = ReadsAtMost SCRIPT_BYTES source_old source_new
CheckEndsAs Usage frames source_old source_new sink_old sink_new = ⊥

-- ---- a check that is under way

-- what was found in the lines so far: nothing, and the checker has read them; or the first bad one
abbrev pub HasFound : Option Report → ℕ → Check → List (List ℕ) → Type 0
HasFound None frames check lines = HasRead frames check.checker lines × (check.asked ≡ asked_count lines)
HasFound (Some (Legal n)) frames check lines = ⊥
HasFound (Some (Illegal k)) frames check lines = IsFirstVerdict frames lines IllegalLine k
HasFound (Some (Malformed k)) frames check lines = IsFirstVerdict frames lines MalformedLine k

-- these lines were read
pub record IsChecked (frames : ℕ) (check : Check) (lines : List (List ℕ)) : Type 0 where
  pub count : check.lines ≡ length lines
  pub found : HasFound check.bad frames check lines

-- whatever lines were read, this one is read behind them
abbrev pub checking : LineTurns Check
checking = record {
  Takes = λ line old new. (frames : ℕ) (lines : List (List ℕ)) → IsChecked frames old lines → IsChecked frames new (lines ++ line ∷ []);
  Halts = λ line old new. Unit {0};
}
