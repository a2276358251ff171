-- What the words of a command line ask for, and how a task ends, over the bytes that a source gave, the bytes that a sink
-- took, and what a store contains. What a source has left and what a sink took are known where these tell them.
use Rattle.std.specs.Prelude.{◌≡◌, ℕ, ◌-◌, ◌^◌, List, [], ◌∷◌, map, codes, if◌then◌else◌, Option, None, Some, option_map}
use Rattle.std.specs.Io.KnownBytes.{Appends}
use Rattle.std.specs.String.{string_bytes}
use Rattle.std.specs.declared.string.String.{String}
use Rattle.std.specs.declared.alloc.Global.{Global}
use Rattle.script_io.specs.declared.status.Status.{Status}
use Rattle.script_io.specs.declared.status.Status.TheVariants.{Done, HostMemory, WriteFault}
use Rattle.script_io.specs.Faults.{IsCutOff}
use Rattle.vm_base.specs.declared.limits.TheConstants.{SCRIPT_BYTES, WORK_COUNT}
use Rattle.vm_model.specs.Contents.Content.{Content}
use Rattle.vm_model.specs.Machine.Machine.{Machine, IsGoodMachine}
use Rattle.vm_model.specs.Language.Reading.{◌>>=◌}
use Rattle.vm_model.specs.Scripts.Workload.{IsWorked}
use Rattle.line_server.specs.Words.{is_text, decimal_of_word, frames_in}
use Rattle.line_server.specs.Outcome.{NothingDone, EndsAs}
use Rattle.vm_session.specs.Plain.{plain}
use Rattle.vm_session.specs.declared.words.Task.{Task}

-- ---- the words of the command line

-- the number of a workload: one to twenty digits, below 2^64
abbrev pub number_of_word : List ℕ → Option ℕ
number_of_word = decimal_of_word 20 0 (2 ^ 64 - 1)

-- how many commands a workload has: one to seven digits, at most WORK_COUNT
abbrev pub count_of_word : List ℕ → Option ℕ
count_of_word = decimal_of_word 7 0 WORK_COUNT

-- a workload, behind `work`: its number and its count, and then the frames
abbrev pub work_in : List (List ℕ) → Option Task
work_in (number ∷ count ∷ behind) = do
  n ← number_of_word number
  k ← count_of_word count
  frames ← frames_in behind
  Some (Task.Work n k frames)
work_in _ = None

-- `run` and the frames, or `work` and a workload
abbrev pub task_in : List (List ℕ) → Option Task
task_in [] = None
task_in (verb ∷ behind) =
    if is_text verb (codes "run") then option_map (λ frames. Task.Run frames) (frames_in behind)
    else if is_text verb (codes "work") then work_in behind
    else None

-- what the words ask for, None if they are outside the grammar
abbrev pub task_asked : List (String Global) → Option Task
task_asked words = task_in (map string_bytes words)

-- the words ask for a workload
pub record AskForWork (words : List (String Global)) : Type 0 where
  pub number : ℕ
  pub count : ℕ
  pub frames : ℕ
  pub asked : task_asked words ≡ Some (Task.Work number count frames)

-- ---- how a workload ends

-- Nothing was read. The workload was done and is told by a line, and this much of the line was written. The store has
-- what the machine has in the end, and this machine is good.
pub record Works (Written : List ℕ → Type 0) (frames number count : ℕ) (source_old source_new : Option (List ℕ))
    (content : Content) : Type 0 where
  pub read : source_new ≡ source_old
  pub line : List ℕ
  pub last : Machine
  pub worked : IsWorked frames number count line last
  pub good : IsGoodMachine last
  pub written : Written line
  pub store : content ≡ last.state.content

-- what each status says of a workload
abbrev pub WorkEndsAs : Status → ℕ → ℕ → ℕ → Option (List ℕ) → Option (List ℕ) → Option (List ℕ) → Option (List ℕ)
    → Content → Type 0
WorkEndsAs Done frames number count source_old source_new sink_old sink_new content =
    Works (Appends sink_old sink_new) frames number count source_old source_new content
WorkEndsAs WriteFault frames number count source_old source_new sink_old sink_new content =
    Works (IsCutOff sink_old sink_new) frames number count source_old source_new content
WorkEndsAs HostMemory frames number count source_old source_new sink_old sink_new content =
    NothingDone source_old source_new sink_old sink_new content
WorkEndsAs status frames number count source_old source_new sink_old sink_new content = ⊥

-- ---- how a task ends: a script on the plain machine, or a workload

abbrev pub TaskEndsAs : Task → Status → Option (List ℕ) → Option (List ℕ) → Option (List ℕ) → Option (List ℕ)
    → Content → Type 0
TaskEndsAs (Task.Run frames) status source_old source_new sink_old sink_new content =
    EndsAs plain status frames SCRIPT_BYTES source_old source_new sink_old sink_new content
TaskEndsAs (Task.Work number count frames) status source_old source_new sink_old sink_new content =
    WorkEndsAs status frames number count source_old source_new sink_old sink_new content
