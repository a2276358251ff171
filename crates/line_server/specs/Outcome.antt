-- How the serving of a script ends, over the bytes that a source gave, the bytes that a sink took, and what a store
-- contains. What a source has left and what a sink took are known where these tell them.
use Rattle.std.specs.Prelude.{◌≡◌, ℕ, ◌+◌, ◌<◌, ◌≤◌, ◌⊎◌, List, ◌++◌, length, take, Option, Some, Result, slice_get, MatchResult}
use Rattle.std.specs.Io.KnownBytes.{Appends, Consumes, IsAtEnd}
use Rattle.script_io.specs.declared.status.Status.{Status}
use Rattle.script_io.specs.declared.status.Status.TheVariants.{Done, Usage, HostMemory, ReadFault, WriteFault, ScriptLimit}
use Rattle.script_io.specs.Faults.{IsCutOff}
use Rattle.vm_model.specs.Contents.Content.{Content, HasNoVmo}
use Rattle.vm_model.specs.Scripts.Run.{lines_of, whole_lines}
use Rattle.line_server.specs.Answering.{Answering, AnsweringRun}

-- ---- what was answered

-- a call that may fail writing: the sink took all of these bytes, or a part of them
abbrev pub SinkTakes : {T E : Type 0} → Result T E → Option (List ℕ) → Option (List ℕ) → List ℕ → Type 0
SinkTakes result sink_old sink_new out =
    MatchResult result (λ _. Appends sink_old sink_new out) (λ _. IsCutOff sink_old sink_new out)

-- from old, the line was answered, and its text was written
pub record AnswersLine {S T E : Type 0} (m : Answering S) (line : List ℕ) (old new : S)
    (sink_old sink_new : Option (List ℕ)) (result : Result T E) : Type 0 where
  pub text : List ℕ
  pub gives : m.Gives line old text new
  pub written : SinkTakes result sink_old sink_new text

-- The lines were answered as on a machine with this many frames, their text was written, and the store has what the
-- machine has in the end, which is a good state.
pub record AnswersAll {S : Type 0} (m : Answering S) (frames : ℕ) (lines : List (List ℕ))
    (sink_old sink_new : Option (List ℕ)) (content : Content) : Type 0 where
  pub out : List ℕ
  pub last : S
  pub run : AnsweringRun m (m.start frames) lines out last
  pub good : m.IsGood last
  pub written : Appends sink_old sink_new out
  pub store : content ≡ m.content last

-- Some of the lines were answered and their text written. One line more was done, and only a part of its text was
-- written. The store has what the machine has then, which is a good state.
pub record AnswersPart {S : Type 0} (m : Answering S) (frames : ℕ) (lines : List (List ℕ))
    (sink_old sink_new : Option (List ℕ)) (content : Content) : Type 0 where
  pub answered : ℕ
  pub line : List ℕ
  pub next : slice_get lines answered ≡ Some line
  pub before : List ℕ
  pub mid : S
  pub run : AnsweringRun m (m.start frames) (take answered lines) before mid
  pub text : List ℕ
  pub last : S
  pub gives : m.Gives line mid text last
  pub good : m.IsGood last
  pub part : List ℕ
  pub rest : List ℕ
  pub cut : text ≡ part ++ rest
  pub left : 0 < length rest
  pub written : Appends sink_old sink_new (before ++ part)
  pub store : content ≡ m.content last

-- ---- how serving ends. Each form speaks of the script that the source gave in the call, and of what became of lines

-- the script was given to its end, within the limit, and every line was answered
pub record Completes (Answers : List (List ℕ) → Type 0) (limit : ℕ) (source_old source_new : Option (List ℕ)) : Type 0 where
  pub script : List ℕ
  pub given : Consumes source_old source_new script
  pub ended : IsAtEnd source_new
  pub short : length script ≤ limit
  pub answers : Answers (lines_of script)

-- reading failed within the limit, and every whole line that was given was answered
pub record StopsReading (Answers : List (List ℕ) → Type 0) (limit : ℕ) (source_old source_new : Option (List ℕ)) : Type 0 where
  pub script : List ℕ
  pub given : Consumes source_old source_new script
  pub short : length script ≤ limit
  pub answers : Answers (whole_lines script)

-- one byte over the limit was given, and the lines whose line feed lies within the limit were answered
pub record ReachesLimit (Answers : List (List ℕ) → Type 0) (limit : ℕ) (source_old source_new : Option (List ℕ)) : Type 0 where
  pub script : List ℕ
  pub given : Consumes source_old source_new script
  pub long : length script ≡ limit + 1
  pub answers : Answers (whole_lines (take limit script))

-- Writing failed, and the lines up to one were done. Its line feed lies within the limit, or it is the last piece of a
-- script within the limit.
pub record BreaksOff (Answers : List (List ℕ) → Type 0) (limit : ℕ) (source_old source_new : Option (List ℕ)) : Type 0 where
  pub script : List ℕ
  pub given : Consumes source_old source_new script
  pub at_most : length script ≤ limit + 1
  pub answers : Answers (whole_lines (take limit script))
      ⊎ (Answers (lines_of script) × IsAtEnd source_new × (length script ≤ limit))

-- nothing was read and nothing was written, and the store has no VMO
pub record NothingDone (source_old source_new sink_old sink_new : Option (List ℕ)) (content : Content) : Type 0 where
  pub read : source_new ≡ source_old
  pub written : sink_new ≡ sink_old
  pub store : HasNoVmo content

-- what each status says of a script
abbrev pub EndsAs : {S : Type 0} → Answering S → Status → ℕ → ℕ → Option (List ℕ) → Option (List ℕ) → Option (List ℕ)
    → Option (List ℕ) → Content → Type 0
EndsAs m Done frames limit source_old source_new sink_old sink_new content =
    Completes (λ lines. AnswersAll m frames lines sink_old sink_new content) limit source_old source_new
EndsAs m ReadFault frames limit source_old source_new sink_old sink_new content =
    StopsReading (λ lines. AnswersAll m frames lines sink_old sink_new content) limit source_old source_new
EndsAs m ScriptLimit frames limit source_old source_new sink_old sink_new content =
    ReachesLimit (λ lines. AnswersAll m frames lines sink_old sink_new content) limit source_old source_new
EndsAs m WriteFault frames limit source_old source_new sink_old sink_new content =
    BreaksOff (λ lines. AnswersPart m frames lines sink_old sink_new content) limit source_old source_new
EndsAs m HostMemory frames limit source_old source_new sink_old sink_new content =
    NothingDone source_old source_new sink_old sink_new content
EndsAs m Usage frames limit source_old source_new sink_old sink_new content = ⊥
