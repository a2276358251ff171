-- Laws of a transcript that is read line by line, and of its report.
use Rattle.std.proofs.Common.{◌≡◌, ◌≢◌, ℕ, ◌+◌, ◌<◌, ◌≤◌, ◌⊎◌, List, [], ◌∷◌, ◌++◌, length, replicate, Option, Result, Ok, Err, refl, sym, subst, inl, inr, append_assoc, append-nil, arith}
use Rattle.std.proofs.lemmas.List.{length-replicate}
use Rattle.std.specs.Prelude.{MatchResult, OnOk, OnErr}
use Rattle.std.specs.Io.KnownBytes.{Appends}
use Rattle.script_io.specs.declared.status.Status.{Status}
use Rattle.script_io.specs.declared.status.Status.TheVariants.{Done, ReadFault, WriteFault}
use Rattle.script_io.specs.Faults.{IsCutOff}
use Rattle.vm_base.specs.declared.limits.TheConstants.{LINE_BYTES, SCRIPT_BYTES}
use Rattle.vm_base.specs.declared.refusal.HostMemory.{HostMemory}
use Rattle.vm_model.specs.Scripts.Run.{lines_of}
use Rattle.line_server.specs.Outcome.{Completes}
use Rattle.line_server.specs.Reading.{TakesAll, ReadsAs}
use Rattle.transcript.specs.declared.reports.Check.{Check}
use Rattle.transcript.specs.declared.reports.Report.{Report}
use Rattle.transcript.specs.Reports.{IsChecked, IsReport, report_text, CheckEndsAs, checking}
use Rattle.script_io.specs.Ending.{status_of_writing}

-- ---- lines

pub read-next : {T E : Type 0} (old new : Check) (line : List ℕ) (result : Result T E) → (frames : ℕ) × (lines : List (List ℕ)) × IsChecked frames old lines →
    ((frames : ℕ) (lines : List (List ℕ)) → IsChecked frames old lines → MatchResult result (λ x. IsChecked frames new (lines ++ line ∷ [])) (λ e. Unit {0})) →
    MatchResult result (λ x. new.lines ≡ old.lines + 1) (λ e. Unit {0}) →
    MatchResult result (λ x. (frames : ℕ) (lines : List (List ℕ)) → IsChecked frames old lines → IsChecked frames new (lines ++ line ∷ [])) (λ e. Unit {0})
    × OnOk result (((frames : ℕ) × (lines : List (List ℕ)) × IsChecked frames new lines) × (new.lines + 1 ≤ old.lines + 1 + 1))
read-next old new line (Ok x) holds takes one = (takes, ((holds.0, holds.1 ++ line ∷ [], takes holds.0 holds.1 holds.2), omega arith))
read-next old new line (Err x) holds takes one = (tt, tt)

-- some line is too long
pub passed : (old new : Check) → (frames : ℕ) × (lines : List (List ℕ)) × IsChecked frames old lines →
    ((frames : ℕ) (lines : List (List ℕ)) (line : List ℕ) → IsChecked frames old lines → LINE_BYTES < length line → IsChecked frames new (lines ++ line ∷ [])) →
    (frames : ℕ) × (lines : List (List ℕ)) × IsChecked frames new lines
passed old new holds takes =
    let line = replicate (LINE_BYTES + 1) 0 in
    (holds.0, holds.1 ++ line ∷ [], takes holds.0 holds.1 line holds.2 (omega (arith, length-replicate {A = ℕ} (LINE_BYTES + 1) 0)))

-- all lines were read
pub read-all : (frames : ℕ) (old new : Check) (before lines : List (List ℕ)) → IsChecked frames old before → TakesAll checking old lines new → IsChecked frames new (before ++ lines)
read-all frames old new before [] checked all = subst (IsChecked frames new) (sym (append-nil before)) (subst (λ c. IsChecked frames c before) (sym all) checked)
read-all frames old new before (line ∷ lines) checked all =
    subst (IsChecked frames new) (append_assoc before (line ∷ []) lines) (read-all frames all.0 new (before ++ line ∷ []) lines (all.1 frames before checked) all.2)

pub completes : (status : Status) (frames from : ℕ) (old new : Check) (source_old source_new : Option (List ℕ)) → status ≡ Done → from ≡ SCRIPT_BYTES →
    IsChecked frames old [] → ReadsAs {E = HostMemory} checking (Ok status) from source_old source_new old new → Completes (IsChecked frames new) SCRIPT_BYTES source_old source_new
completes status frames from old new source_old source_new is same checked reads =
    let h : ReadsAs {E = HostMemory} checking (Ok Done) from source_old source_new old new =
    subst (λ s. ReadsAs {E = HostMemory} checking (Ok s) from source_old source_new old new) is reads in
    record {
      script = h.script;
      given = h.given;
      ended = h.ended;
      short = let short = h.short in omega (arith, same);
      answers = read-all frames old new [] (lines_of h.script) checked h.answers;
    }

-- ---- the report

pub reported : {T E : Type 0} (frames : ℕ) (check : Check) (report : Report) (text : List ℕ) (source_old source_new sink_old sink_new : Option (List ℕ)) (result : Result T E) → ((lines : List (List ℕ)) → IsChecked frames check lines → IsReport frames lines report)
    → text ≡ report_text report → OnOk result (Appends sink_old sink_new text) → OnErr result (IsCutOff sink_old sink_new text) → Completes (IsChecked frames check) SCRIPT_BYTES source_old source_new
    → CheckEndsAs (status_of_writing result) frames source_old source_new sink_old sink_new
reported frames check report text source_old source_new sink_old sink_new (Ok x) is e ok err done = record {
  script = done.script;
  given = done.given;
  ended = done.ended;
  short = done.short;
  answers = record { report = report; is = is _ done.answers; written = subst (Appends sink_old sink_new) e ok };
}
reported frames check report text source_old source_new sink_old sink_new (Err x) is e ok err done = record {
  script = done.script;
  given = done.given;
  ended = done.ended;
  short = done.short;
  answers = record { report = report; is = is _ done.answers; written = subst (IsCutOff sink_old sink_new) e err };
}

pub status_either : {T E : Type 0} (result : Result T E) → (status_of_writing result ≡ Done) ⊎ (status_of_writing result ≡ WriteFault)
status_either (Ok x) = inl refl
status_either (Err x) = inr refl

pub status_no_read : {T E : Type 0} (result : Result T E) → status_of_writing result ≢ ReadFault
status_no_read (Ok x) e = absurd cc
status_no_read (Err x) e = absurd cc

pub status_failed : {T E P : Type 0} (result : Result T E) → OnErr result P → status_of_writing result ≡ WriteFault → P
status_failed (Ok x) failed e = absurd cc
status_failed (Err x) failed e = failed
