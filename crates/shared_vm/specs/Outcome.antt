-- How a run of the actors ends, over the bytes that a source gave, the bytes that a sink took, and the store that is handed
-- back.
use Rattle.std.specs.Prelude.{◌≡◌, ℕ, List, Option, None, Some}
use Rattle.std.specs.Io.KnownBytes.{Appends}
use Rattle.script_io.specs.declared.status.Status.{Status}
use Rattle.script_io.specs.declared.status.Status.TheVariants.{Done, Usage, HostMemory, ReadFault, WriteFault, ScriptLimit}
use Rattle.script_io.specs.Faults.{IsCutOff}
use Rattle.vm_model.specs.Contents.Content.{Content, nothing, HasNoVmo}
use Rattle.vm_model.specs.Machine.Machine.{Machine}
use Rattle.line_server.specs.Outcome.{Completes, StopsReading, ReachesLimit}
use Rattle.vm_base.specs.declared.limits.TheConstants.{INPUT_BYTES}
use Rattle.shared_vm.specs.declared.task.Deed.{Deed}
use Rattle.shared_vm.specs.Tasks.{lists_of}
use Rattle.shared_vm.specs.Journal.{JournalRun, IsWholeJournal}
use Rattle.shared_vm.specs.Gathering.{TakesAtMost}
use Rattle.shared_vm.specs.Texts.{journal_text}

-- The actors did all their tasks of these lines, in one run on a machine with this many frames. The text of the journal was
-- written whole or in part, and the store has what the machine has in the end.
pub record ActorsFinish (Written : List ℕ → Type 0) (frames : ℕ) (lines : List (List ℕ)) (content : Content) : Type 0 where
  pub journal : List Deed
  pub last : Machine
  pub run : JournalRun frames (lists_of lines) journal last
  pub whole : IsWholeJournal (lists_of lines) journal
  pub written : Written (journal_text journal)
  pub store : content ≡ last.state.content

-- the store is there
abbrev pub IfThere : Option Content → (Content → Type 0) → Type 0
IfThere None P = ⊥
IfThere (Some content) P = P content

-- no task was done: nothing was written, and the store is there and has nothing
pub record NoneDone (sink_old sink_new : Option (List ℕ)) (content : Option Content) : Type 0 where
  pub written : sink_new ≡ sink_old
  pub store : content ≡ Some nothing

-- The host lacked memory before the first task. Nothing was written, and at most so many bytes were read. The store may be
-- gone. If it is there, it has no VMO.
pub record HostLacksMemory (source_old source_new sink_old sink_new : Option (List ℕ)) (content : Option Content) : Type 0 where
  pub read : TakesAtMost INPUT_BYTES source_old source_new
  pub written : sink_new ≡ sink_old
  pub no_vmo : (c : Content) → content ≡ Some c → HasNoVmo c

-- what each status says
abbrev pub ActorsEndAs : Status → ℕ → Option (List ℕ) → Option (List ℕ) → Option (List ℕ) → Option (List ℕ) → Option Content
    → Type 0
ActorsEndAs Done frames source_old source_new sink_old sink_new content =
    IfThere content (λ c. Completes (λ lines. ActorsFinish (Appends sink_old sink_new) frames lines c) INPUT_BYTES source_old source_new)
ActorsEndAs WriteFault frames source_old source_new sink_old sink_new content =
    IfThere content (λ c. Completes (λ lines. ActorsFinish (IsCutOff sink_old sink_new) frames lines c) INPUT_BYTES source_old source_new)
ActorsEndAs ReadFault frames source_old source_new sink_old sink_new content =
    StopsReading (λ lines. NoneDone sink_old sink_new content) INPUT_BYTES source_old source_new
ActorsEndAs ScriptLimit frames source_old source_new sink_old sink_new content =
    ReachesLimit (λ lines. NoneDone sink_old sink_new content) INPUT_BYTES source_old source_new
ActorsEndAs HostMemory frames source_old source_new sink_old sink_new content =
    HostLacksMemory source_old source_new sink_old sink_new content
ActorsEndAs Usage frames source_old source_new sink_old sink_new content = ⊥
