-- How a run of the actors ends.
use Rattle.std.proofs.Common.{◌≡◌, ℕ, List, Option, None, Some, Result, Ok, Err, refl, sym, ap, subst, ◌∙◌}
use Rattle.std.specs.Prelude.{◌≢◌, OnOk, OnErr}
use Rattle.std.specs.Io.KnownBytes.{Appends}
use Rattle.std.proofs.lemmas.Option.{same_Some}
use Rattle.script_io.specs.Faults.{IsCutOff}
use Rattle.script_io.specs.declared.status.Status.{Status}
use Rattle.script_io.specs.declared.status.Status.TheVariants.{Done, Usage, HostMemory, ReadFault, WriteFault, ScriptLimit}
use Rattle.vm_model.specs.Contents.Content.{Content, nothing, HasNoVmo}
use Rattle.shared_vm.specs.declared.task.Deed.{Deed}
use Rattle.shared_vm.specs.Tasks.{Lists, lists_of}
use Rattle.shared_vm.specs.Journal.{JournalRun, IsWholeJournal}
use Rattle.shared_vm.specs.Texts.{journal_text}
use Rattle.shared_vm.specs.Rooms.{Session, IsLegal, session_machine}
use Rattle.shared_vm.specs.Gathering.{Gathers, EndsReading}
use Rattle.shared_vm.specs.Outcome.{ActorsFinish, ActorsEndAs}
use Rattle.script_io.specs.Ending.{status_of_writing}

HasNoVmo-nothing : (c : Content) → c ≡ nothing → HasNoVmo c
unfolding nothing
HasNoVmo-nothing c e = record { none = λ v. ap (λ (d : Content). d.count v) e; no_page = λ v p. ap (λ (d : Content). d.page v p) e }

-- the input was not read to its end
pub ActorsEndAs-early : (status : Status) (frames : ℕ) (source_old source_new sink : Option (List ℕ)) (c : Content) → EndsReading status source_old source_new → c ≡ nothing
    → ActorsEndAs status frames source_old source_new sink sink (Some c)
ActorsEndAs-early Done frames source_old source_new sink c h e = absurd h
ActorsEndAs-early Usage frames source_old source_new sink c h e = absurd h
ActorsEndAs-early WriteFault frames source_old source_new sink c h e = absurd h
ActorsEndAs-early HostMemory frames source_old source_new sink c h e = record {
  read = h;
  written = refl;
  no_vmo = λ d f. HasNoVmo-nothing d (sym (same_Some c d f) ∙ e);
}
ActorsEndAs-early ReadFault frames source_old source_new sink c h e = record {
  script = h.script;
  given = h.given;
  short = h.short;
  answers = record { written = refl; store = ap (λ (d : Content). Some d) e };
}
ActorsEndAs-early ScriptLimit frames source_old source_new sink c h e = record {
  script = h.script;
  given = h.given;
  long = h.long;
  answers = record { written = refl; store = ap (λ (d : Content). Some d) e };
}

-- there was no memory for the room
pub ActorsEndAs-gone : (frames : ℕ) (lists : Lists) (source_old source_new sink : Option (List ℕ)) → Gathers lists source_old source_new
    → ActorsEndAs HostMemory frames source_old source_new sink sink None
ActorsEndAs-gone frames lists source_old source_new sink h = record {
  read = record { script = h.script; given = h.given; short = h.short };
  written = refl;
  no_vmo = λ c e. absurd cc;
}

-- all tasks were done, and the journal was written whole or in part
module _ {S : Type 0} (content : S → Content) (s : Session S) (store : S) (journal : List Deed) (frames : ℕ) (lists : Lists) (source_old source_new sink_old sink_new : Option (List ℕ))
    (read : Gathers lists source_old source_new) (is_frames : s.frames ≡ frames) (is_lists : s.lists ≡ lists) (legal : IsLegal content s) (whole : IsWholeJournal s.lists s.journal)
    (is_journal : journal ≡ s.journal) (is_store : store ≡ s.store) where
  acts : (Written : List ℕ → Type 0) (lines : List (List ℕ)) → lists ≡ lists_of lines → Written (journal_text journal) → ActorsFinish Written frames lines (content store)
  acts Written lines e written = record {
    journal = s.journal;
    last = session_machine content s;
    run = subst (λ (l : Lists). JournalRun frames l s.journal (session_machine content s)) (is_lists ∙ e)
        (subst (λ (n : ℕ). JournalRun n s.lists s.journal (session_machine content s)) is_frames legal);
    whole = subst (λ (l : Lists). IsWholeJournal l s.journal) (is_lists ∙ e) whole;
    written = subst (λ (ds : List Deed). Written (journal_text ds)) is_journal written;
    store = ap content is_store;
  }

  ends : {T E : Type 0} (result : Result T E) → OnOk result (Appends sink_old sink_new (journal_text journal)) → OnErr result (IsCutOff sink_old sink_new (journal_text journal))
      → ActorsEndAs (status_of_writing result) frames source_old source_new sink_old sink_new (Some (content store))
  ends (Ok x) ok err = record {
    script = read.script;
    given = read.given;
    ended = read.ended;
    short = read.short;
    answers = acts (Appends sink_old sink_new) _ read.answers ok;
  }
  ends (Err x) ok err = record {
    script = read.script;
    given = read.given;
    ended = read.ended;
    short = read.short;
    answers = acts (IsCutOff sink_old sink_new) _ read.answers err;
  }

  pub ActorsEndAs-acted : {T E : Type 0} (result : Result T E) (status : Status) → status ≡ status_of_writing result → OnOk result (Appends sink_old sink_new (journal_text journal))
      → OnErr result (IsCutOff sink_old sink_new (journal_text journal)) → ActorsEndAs status frames source_old source_new sink_old sink_new (Some (content store))
  ActorsEndAs-acted result status e ok err =
      subst (λ (t : Status). ActorsEndAs t frames source_old source_new sink_old sink_new (Some (content store))) (sym e) (ends result ok err)

pub status_of-fault : {T E P : Type 0} (result : Result T E) → OnErr result P → status_of_writing result ≡ WriteFault → P
status_of-fault (Ok x) failed e = absurd cc
status_of-fault (Err x) failed e = failed

pub status_of-no_read : {T E P : Type 0} (result : Result T E) → status_of_writing result ≡ ReadFault → P
status_of-no_read (Ok x) e = absurd cc
status_of-no_read (Err x) e = absurd cc

pub status_of-ran : {T E P : Type 0} (result : Result T E) (status : Status) → status ≡ status_of_writing result → status ≢ Done → status ≢ WriteFault → P
status_of-ran (Ok x) status e done fault = absurd (done e)
status_of-ran (Err x) status e done fault = absurd (fault e)
