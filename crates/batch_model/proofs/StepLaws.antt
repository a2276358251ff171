-- Laws of one step of a machine with jobs, and of runs: what it is to the machine, and what it does to a job.
use Rattle.std.proofs.Common.{◌≡◌, ◌≢◌, ℕ, ◌+◌, ◌%◌, ◌<◌, Bool, true, false, not, cond, ◌==◌, List, [], ◌∷◌, ◌++◌, Option, None, Some, refl, sym, ap, subst, ◌∙◌, ◌⊎◌, inl, inr, arith}
use Rattle.std.specs.Prelude.{is_some}
use Rattle.std.proofs.lemmas.Bool.{cases_Bool, cond-true, cond-false, eqb-false, eq-eqb}
use Rattle.vm_base.specs.Entries.{with_key, without_key}
use Rattle.vm_base.specs.declared.limits.TheConstants.{PAGE}
use Rattle.vm_base.specs.declared.refusal.Refusal.{Refusal}
use Rattle.vm_base.specs.declared.refusal.Refusal.TheVariants.{BadHandle, InvalidArgs, HostMemory}
use Rattle.vm_base.proofs.EntryLaws.{some_same, with_key-other, without_key-other}
use Rattle.vm_base.proofs.SearchLaws.{eqb_apart}
use Rattle.vm_model.specs.Machine.Words.{Reply}
use Rattle.vm_model.specs.declared.reply.Reply.TheVariants.{Done}
use Rattle.vm_model.specs.Machine.Machine.{Machine}
use Rattle.vm_model.specs.Machine.MachineStep.{MachineStep}
use Rattle.vm_model.specs.Machine.Refusals.{first_of}
use Rattle.batch_model.specs.declared.job.JobName.{JobName}
use Rattle.batch_model.specs.declared.job.Job.{Job}
use Rattle.batch_model.specs.BatchWords.{BatchCommand, BatchReply}
use Rattle.batch_model.specs.declared.command.BatchCommand.TheVariants.{Plain as PlainCommand, Begin, Step, Drop}
use Rattle.batch_model.specs.declared.command.BatchReply.TheVariants.{Plain as PlainReply, Left}
use Rattle.batch_model.specs.Pieces.{left_of, piece_len, piece_of, advanced, IsOfPages}
use Rattle.batch_model.specs.Batch.{BatchState, batch_refusals, jobs_after, PieceGives, DoesPiece, IsRefusedBatch, BatchStepAfter, BatchStep}
use Rattle.batch_model.specs.BatchRuns.{BatchEvent, BatchRun, last_batch, MachineEvent, MachineRun, last_machine, machine_reply, piece_events, events_of, machine_events}

-- ---- the step of a job

-- the refusals that a step has of its own, by whether its job is there and its pages are none
abbrev step_outcome : Option Job → (none : Bool) → BatchState → JobName → ℕ → BatchReply → BatchState → Type 0
step_outcome o none old job pages reply new =
    BatchStepAfter (cond (not (is_some o)) (Some BadHandle) (cond none (Some InvalidArgs) None)) old (Step job pages) reply new

-- a step of a job is refused, or does a piece of some pages
pub step_cases : (old : BatchState) (job : JobName) (pages : ℕ) (reply : BatchReply) (new : BatchState) → BatchStep old (Step job pages) reply new
    → ((refusal : Refusal) × IsRefusedBatch old refusal reply new) ⊎ ((pages ≢ 0) × DoesPiece old job.0 pages reply new)
step_cases old job pages reply new step = go (pages == 0) refl (old.jobs job.0) step.outcome where
  go : (none : Bool) → (pages == 0) ≡ none → (o : Option Job) → step_outcome o none old job pages reply new
      → ((refusal : Refusal) × IsRefusedBatch old refusal reply new) ⊎ ((pages ≢ 0) × DoesPiece old job.0 pages reply new)
  go true e None refused = inl (BadHandle, refused)
  go false e None refused = inl (BadHandle, refused)
  go true e (Some j) refused = inl (InvalidArgs, refused)
  go false e (Some j) (inl done) = inr (eqb-false pages 0 e, done)
  go false e (Some j) (inr lacked) = absurd (let none = lacked.1 in cc)

-- a step of a job that is there, of some pages, does its piece
pub piece_done : (old : BatchState) (job : JobName) (pages : ℕ) (reply : BatchReply) (new : BatchState) (j : Job) → BatchStep old (Step job pages) reply new
    → old.jobs job.0 ≡ Some j → pages ≢ 0 → DoesPiece old job.0 pages reply new
piece_done old job pages reply new j step there some =
    let outcome : step_outcome (Some j) false old job pages reply new =
    subst (λ (b : Bool). step_outcome (Some j) b old job pages reply new) (eqb_apart pages 0 some)
    (subst (λ (o : Option Job). step_outcome o (pages == 0) old job pages reply new) there step.outcome) in
    elim outcome [ inl done ↦ done | inr lacked ↦ absurd (let none = lacked.1 in cc) ]

-- what the machine answers to a piece, told from the reply
pub gives_answer : (answer : Reply) (jobs : ℕ → Option Job) (name : ℕ) (job : Job) (reply : BatchReply) (after : ℕ → Option Job) → PieceGives answer jobs name job reply after
    → machine_reply reply ≡ answer
gives_answer Done jobs name job reply after gives = ap machine_reply gives.0
gives_answer _ jobs name job reply after gives = ap machine_reply gives.0

-- where pages are left in the reply, the piece is done
pub gives_left : (answer : Reply) (jobs : ℕ → Option Job) (name : ℕ) (job : Job) (left : ℕ) (after : ℕ → Option Job) → PieceGives answer jobs name job (Left left) after
    → (answer ≡ Done) × (after ≡ jobs_after jobs name job)
gives_left Done jobs name job left after gives = (refl, gives.1)
gives_left _ jobs name job left after gives = absurd (let differs = gives.0 in cc)

-- else the jobs are as they were
pub gives_plain : (answer : Reply) (jobs : ℕ → Option Job) (name : ℕ) (job : Job) (reply : Reply) (after : ℕ → Option Job) → PieceGives answer jobs name job (PlainReply reply) after
    → (answer ≡ reply) × (after ≡ jobs)
gives_plain Done jobs name job reply after gives = absurd (let differs = gives.0 in cc)
gives_plain _ jobs name job reply after gives = (let same = gives.0 in cc, gives.1)

-- ---- what is there of jobs

-- the jobs of other names stay
pub jobs_after-other : (jobs : ℕ → Option Job) (name : ℕ) (job : Job) (n : ℕ) → n ≢ name → jobs_after jobs name job n ≡ jobs n
unfolding jobs_after
jobs_after-other jobs name job n apart = elim (cases_Bool (left_of job == 0)) [
  | inl none ↦ ap (λ (f : ℕ → Option Job). f n) (cond-true (left_of job == 0) _ _ none) ∙ without_key-other jobs name n apart
  | inr some ↦ ap (λ (f : ℕ → Option Job). f n) (cond-false (left_of job == 0) _ _ some) ∙ with_key-other jobs name job n apart
]

-- a job of which nothing is left goes
pub jobs_after-none : (jobs : ℕ → Option Job) (name : ℕ) (job : Job) → left_of job ≡ 0 → jobs_after jobs name job ≡ without_key jobs name
unfolding jobs_after
jobs_after-none jobs name job none = cond-true (left_of job == 0) _ _ (eq-eqb (left_of job) 0 none)

-- another is there as it is
pub jobs_after-some : (jobs : ℕ → Option Job) (name : ℕ) (job : Job) → left_of job ≢ 0 → jobs_after jobs name job ≡ with_key jobs name job
unfolding jobs_after
jobs_after-some jobs name job some = cond-false (left_of job == 0) _ _ (eqb_apart (left_of job) 0 some)

-- ---- pages of a job

module _ (job : Job) (of_pages : IsOfPages job) (pages : ℕ) (some : pages ≢ 0) where
  -- a piece is some whole pages
  pub piece_some : 0 < piece_len job pages
  piece_some = omega (arith, of_pages.some)

  pub piece_whole : piece_len job pages % PAGE ≡ 0
  piece_whole = omega (arith, of_pages.begins, of_pages.ends, of_pages.some)

  -- once none is left, it ends where the job ends
  pub piece_last : left_of (advanced job pages) ≡ 0 → job.next + piece_len job pages ≡ job.end
  piece_last none = omega (arith, of_pages.begins, of_pages.ends, of_pages.some)

  -- else what is left is of whole pages too
  pub IsOfPages-advanced : left_of (advanced job pages) ≢ 0 → IsOfPages (advanced job pages)
  IsOfPages-advanced more = record {
    begins = omega (arith, of_pages.begins, of_pages.ends, of_pages.some);
    ends = of_pages.ends;
    some = omega (arith, of_pages.begins, of_pages.ends, of_pages.some);
  }

-- ---- runs of the machine

-- a run and the run behind it
MachineRun-both : (old : Machine) (events more : List MachineEvent) → MachineRun old events → MachineRun (last_machine old events) more → MachineRun old (events ++ more)
MachineRun-both old [] more these those = those
MachineRun-both old (event ∷ events) more these those = (these.0, MachineRun-both event.after events more these.1 those)

last_machine-both : (old : Machine) (events more : List MachineEvent) → last_machine old (events ++ more) ≡ last_machine (last_machine old events) more
last_machine-both old [] more = refl
last_machine-both old (event ∷ events) more = last_machine-both event.after events more

-- the events are steps of the machine from old to new
abbrev pub Leads : Machine → List MachineEvent → Machine → Type 0
Leads old events new = MachineRun old events × (last_machine old events ≡ new)

-- none, where the machine stays
stays : (old new : Machine) → new ≡ old → Leads old [] new
stays old new same = (tt, sym same)

-- the machine of a refused command
refused_same : (old : BatchState) (refusal : Refusal) (reply : BatchReply) (new : BatchState) → IsRefusedBatch old refusal reply new → new.machine ≡ old.machine
refused_same old refusal reply new refused = ap (λ (b : BatchState). b.machine) refused.same

pub event_leads : (old : BatchState) (command : BatchCommand) (reply : BatchReply) (new : BatchState) → BatchStep old command reply new
    → Leads old.machine (events_of old command reply new.machine) new.machine
event_leads old (PlainCommand command) reply new step = elim step.outcome [
  | inr lacked ↦ absurd (let none = lacked.1 in cc)
  | inl done ↦ ((subst (λ (r : Reply). MachineStep old.machine command r new.machine) (sym (ap machine_reply done.is)) done.step, tt), refl)
]
event_leads old (Begin job kind name offset len) reply new step = go (first_of (batch_refusals old (Begin job kind name offset len))) step.outcome where
  go : (o : Option Refusal) → BatchStepAfter o old (Begin job kind name offset len) reply new → Leads old.machine [] new.machine
  go (Some refusal) refused = stays old.machine new.machine (refused_same old refusal reply new refused)
  go None (inl done) = stays old.machine new.machine (ap (λ (b : BatchState). b.machine) done.1)
  go None (inr lacked) = stays old.machine new.machine (refused_same old HostMemory reply new lacked.0)
event_leads old (Step job pages) reply new step = go (pages == 0) (old.jobs job.0) refl step.outcome where
  go : (none : Bool) (o : Option Job) → old.jobs job.0 ≡ o → step_outcome o none old job pages reply new → Leads old.machine (piece_events none o pages reply new.machine) new.machine
  go true None e refused = stays old.machine new.machine (refused_same old BadHandle reply new refused)
  go false None e refused = stays old.machine new.machine (refused_same old BadHandle reply new refused)
  go true (Some j) e refused = stays old.machine new.machine (refused_same old InvalidArgs reply new refused)
  go false (Some j) e (inr lacked) = absurd (let none = lacked.1 in cc)
  go false (Some j) e (inl done) =
      let same : done.job ≡ j = some_same (sym done.is ∙ e) in
      let answer = gives_answer done.answer old.jobs job.0 (advanced done.job pages) reply new.jobs done.gives in (
        (
          subst (λ (r : Reply). MachineStep old.machine (piece_of j pages) r new.machine) (sym answer)
              (subst (λ (k : Job). MachineStep old.machine (piece_of k pages) done.answer new.machine) same done.step),
          tt,
        ),
        refl,
      )
event_leads old (Drop job) reply new step = go (first_of (batch_refusals old (Drop job))) step.outcome where
  go : (o : Option Refusal) → BatchStepAfter o old (Drop job) reply new → Leads old.machine [] new.machine
  go (Some refusal) refused = stays old.machine new.machine (refused_same old refusal reply new refused)
  go None (inl done) = stays old.machine new.machine (ap (λ (b : BatchState). b.machine) done.1)
  go None (inr lacked) = stays old.machine new.machine (refused_same old HostMemory reply new lacked.0)

-- a run is one of the machine
run_leads : (old : BatchState) (events : List BatchEvent) → BatchRun old events → Leads old.machine (machine_events old events) (last_batch old events).machine
run_leads old [] run = (tt, refl)
run_leads old (event ∷ events) run =
    let now = events_of old event.command event.reply event.after.machine in
    let later = machine_events event.after events in
    let these = event_leads old event.command event.reply event.after run.0 in
    let those = run_leads event.after events run.1 in (
      MachineRun-both old.machine now later these.0 (subst (λ (m : Machine). MachineRun m later) (sym these.1) those.0),
      last_machine-both old.machine now later ∙ (ap (λ (m : Machine). last_machine m later) these.1 ∙ those.1),
    )

pub MachineRun-from_batch : (old : BatchState) (events : List BatchEvent) → BatchRun old events → MachineRun old.machine (machine_events old events)
MachineRun-from_batch old events run = (run_leads old events run).0

pub last_machine-from_batch : (old : BatchState) (events : List BatchEvent) → BatchRun old events → last_machine old.machine (machine_events old events) ≡ (last_batch old events).machine
last_machine-from_batch old events run = (run_leads old events run).1
