-- Laws of the machine with jobs as it begins a job, and of what every step keeps: a good machine, and jobs of whole pages.
use Rattle.std.proofs.Common.{◌≡◌, ◌≢◌, ℕ, ◌+◌, ◌-◌, ◌*◌, ◌%◌, ◌≤◌, not, ◌==◌, ◌&&◌, Option, None, Some, refl, sym, ap, subst, ◌∙◌, inl, inr, arith}
use Rattle.std.specs.Prelude.{IsSome}
use Rattle.std.proofs.lemmas.Bool.{cases_eq, and_parts, or_parts, not-false, ltb-false, eqb-true, eqb-false}
use Rattle.vm_base.specs.Entries.{with_key, without_key}
use Rattle.vm_base.specs.declared.limits.TheConstants.{PAGE, VMO_PAGES}
use Rattle.vm_base.specs.declared.names.VmoName.{VmoName}
use Rattle.vm_base.specs.declared.refusal.Refusal.{Refusal}
use Rattle.vm_base.specs.declared.refusal.Refusal.TheVariants.{HostMemory}
use Rattle.vm_base.proofs.EntryLaws.{some_is, with_key-same, with_key-cases, without_key-some}
use Rattle.vm_model.specs.Machine.State.{State, is_open, target_of, koid_of, size_of, IsGoodState}
use Rattle.vm_model.specs.Machine.Machine.{IsGoodMachine}
use Rattle.vm_model.specs.Machine.Refusals.{first_of}
use Rattle.vm_model.proofs.ContentLaws.{pages_of-at}
use Rattle.vm_model.proofs.MachineLaws.{MachineStep-keeps}
use Rattle.vm_model.proofs.NamesLaws.{names-open}
use Rattle.vm_model.proofs.StepLaws.{AllOff-from_none, GivesName-from, place_inside}
use Rattle.batch_model.specs.declared.job.JobName.{JobName}
use Rattle.batch_model.specs.declared.job.JobKind.{JobKind}
use Rattle.batch_model.specs.declared.job.Job.{Job}
use Rattle.batch_model.specs.BatchWords.{BatchCommand, BatchReply}
use Rattle.batch_model.specs.declared.command.BatchCommand.TheVariants.{Plain as PlainCommand, Begin, Step, Drop}
use Rattle.batch_model.specs.declared.command.BatchReply.TheVariants.{Plain as PlainReply, Left}
use Rattle.batch_model.specs.Pieces.{plain_command, begun, whole_of, left_of, piece_len, piece_of, advanced, IsOfPages}
use Rattle.batch_model.specs.Batch.{BatchState, batch_refusals, jobs_after, DoesPiece, IsRefusedBatch, BatchStepAfter, BatchStep, IsGoodJob, AreGoodJobs, IsGoodBatch, HasBatchRanges}
use Rattle.batch_model.proofs.AllowLaws.{GivesName-plain}
use Rattle.batch_model.proofs.StepLaws.{step_cases, event_leads, gives_left, gives_plain, jobs_after-none, jobs_after-some, IsOfPages-advanced}

-- ---- a job as it begins

-- the range of a job that is begun is some whole pages, and lies in the name
pub begin_parts : (old : BatchState) (job : JobName) (kind : JobKind) (name : VmoName) (offset len : ℕ) → first_of (batch_refusals old (Begin job kind name offset len)) ≡ None
    → IsSome (old.machine.state.names name.0) × IsOfPages (begun kind name offset len) × (offset + len ≤ size_of old.machine.state name.0)
begin_parts old job kind name offset len none =
    let off = AllOff-from_none (batch_refusals old (Begin job kind name offset len)) none in
    let begins = offset % PAGE == 0 in
    let whole = len % PAGE == 0 in
    let parts = or_parts (not (begins && whole)) (len == 0) off.1.1.0 in
    let aligned = and_parts begins whole (not-false (begins && whole) parts.0) in
    let at : offset % PAGE ≡ 0 = eqb-true (offset % PAGE) 0 aligned.0 in
    let of : len % PAGE ≡ 0 = eqb-true (len % PAGE) 0 aligned.1 in
    let some : len ≢ 0 = eqb-false len 0 parts.1 in (
      not-false (is_open old.machine.state name.0) off.0,
      record { begins = at; ends = omega (arith, at, of); some = omega (arith, some) },
      ltb-false (size_of old.machine.state name.0) (offset + len) off.1.1.1.0,
    )

pub begins_whole : (old new : BatchState) (job : JobName) (kind : JobKind) (name : VmoName) (offset len left : ℕ) → BatchStep old (Begin job kind name offset len) (Left left) new
    → (new.machine ≡ old.machine) × (new.jobs job.0 ≡ Some (begun kind name offset len)) × IsOfPages (begun kind name offset len)
begins_whole old new job kind name offset len left step = go (first_of (batch_refusals old (Begin job kind name offset len))) refl step.outcome where
  go : (o : Option Refusal) → first_of (batch_refusals old (Begin job kind name offset len)) ≡ o → BatchStepAfter o old (Begin job kind name offset len) (Left left) new
      → (new.machine ≡ old.machine) × (new.jobs job.0 ≡ Some (begun kind name offset len)) × IsOfPages (begun kind name offset len)
  go (Some refusal) e refused = absurd (let differs = refused.answer in cc)
  go None e (inr lacked) = absurd (let differs = lacked.0.answer in cc)
  go None e (inl done) = (
    ap (λ (b : BatchState). b.machine) done.1,
    ap (λ (b : BatchState). b.jobs job.0) done.1 ∙ with_key-same old.jobs job.0 (begun kind name offset len),
    (begin_parts old job kind name offset len e).1,
  )

pub whole-begun : (kind : JobKind) (name : VmoName) (offset len : ℕ) → whole_of (begun kind name offset len) ≡ plain_command kind name offset len
whole-begun kind name offset len = let e : (offset + len) - offset ≡ len = omega arith in ap (plain_command kind name offset) e

-- ---- what steps keep

-- a name that is open is no larger than the greatest VMO
pub size_few : (s : State) (name : ℕ) (len : ℕ) → IsGoodState s → IsSome (s.names name) → len ≤ size_of s name → len ≤ VMO_PAGES * PAGE
size_few s name len good there fits =
    let inside = place_inside s name (target_of s name) 0 len good (names-open s name there) (omega (arith, fits)) in
    let vmo = (good.names name (target_of s name) (names-open s name there)).1.vmo in
    let count = some_is (s.content.count (koid_of s name)) vmo in
    omega (arith, inside, pages_of-at s.content (koid_of s name) count.0 count.1, good.content.counts (koid_of s name) count.0 count.1)

-- the jobs stay good with another good one
jobs_with : (jobs : ℕ → Option Job) (name : ℕ) (job : Job) → AreGoodJobs jobs → IsGoodJob job → AreGoodJobs (with_key jobs name job)
jobs_with jobs name job good fine n other e = elim (with_key-cases jobs name job n other e) [
  | inl new ↦ subst IsGoodJob new.1 fine
  | inr was ↦ good n other was.1
]

jobs_without : (jobs : ℕ → Option Job) (name : ℕ) → AreGoodJobs jobs → AreGoodJobs (without_key jobs name)
jobs_without jobs name good n job e = good n job (without_key-some jobs name n job e).1

-- so they do where a job got further
pub jobs_further : (jobs : ℕ → Option Job) (name : ℕ) (job : Job) (pages : ℕ) → AreGoodJobs jobs → jobs name ≡ Some job → pages ≢ 0 → AreGoodJobs (jobs_after jobs name (advanced job pages))
jobs_further jobs name job pages good there some =
    let fine = good name job there in
    elim (cases_eq (left_of (advanced job pages)) 0) [
      | inl none ↦ subst AreGoodJobs (sym (jobs_after-none jobs name (advanced job pages) none)) (jobs_without jobs name good)
      | inr more ↦
          subst AreGoodJobs (sym (jobs_after-some jobs name (advanced job pages) more))
          (jobs_with jobs name (advanced job pages) good (record { pages = IsOfPages-advanced job fine.pages pages some more; few = fine.few }))
    ]

-- a refused command
refused_jobs : (old : BatchState) (refusal : Refusal) (reply : BatchReply) (new : BatchState) → AreGoodJobs old.jobs → IsRefusedBatch old refusal reply new → AreGoodJobs new.jobs
refused_jobs old refusal reply new good refused = subst (λ (b : BatchState). AreGoodJobs b.jobs) (sym refused.same) good

-- the jobs after a piece
piece_jobs : (old : BatchState) (name pages : ℕ) (reply : BatchReply) (new : BatchState) → AreGoodJobs old.jobs → pages ≢ 0 → DoesPiece old name pages reply new → AreGoodJobs new.jobs
piece_jobs old name pages (PlainReply reply) new good some done =
    subst AreGoodJobs (sym (gives_plain done.answer old.jobs name (advanced done.job pages) reply new.jobs done.gives).1) good
piece_jobs old name pages (Left left) new good some done =
    subst AreGoodJobs (sym (gives_left done.answer old.jobs name (advanced done.job pages) left new.jobs done.gives).1) (jobs_further old.jobs name done.job pages good done.is some)

-- the jobs after any step
pub BatchStep-jobs : (old new : BatchState) (command : BatchCommand) (reply : BatchReply) → IsGoodState old.machine.state → AreGoodJobs old.jobs → BatchStep old command reply new → AreGoodJobs new.jobs
BatchStep-jobs old new (PlainCommand command) reply good jobs step = elim step.outcome [
  | inr lacked ↦ absurd (let none = lacked.1 in cc)
  | inl done ↦ subst AreGoodJobs (sym done.jobs) jobs
]
BatchStep-jobs old new (Begin job kind name offset len) reply good jobs step = go (first_of (batch_refusals old (Begin job kind name offset len))) refl step.outcome where
  go : (o : Option Refusal) → first_of (batch_refusals old (Begin job kind name offset len)) ≡ o → BatchStepAfter o old (Begin job kind name offset len) reply new → AreGoodJobs new.jobs
  go (Some refusal) e refused = refused_jobs old refusal reply new jobs refused
  go None e (inr lacked) = refused_jobs old HostMemory reply new jobs lacked.0
  go None e (inl done) =
      let parts = begin_parts old job kind name offset len e in
      let few = size_few old.machine.state name.0 (offset + len) good parts.0 parts.2 in
      subst (λ (b : BatchState). AreGoodJobs b.jobs) (sym done.1) (jobs_with old.jobs job.0 (begun kind name offset len) jobs (record { pages = parts.1; few = few }))
BatchStep-jobs old new (Step job pages) reply good jobs step = elim (step_cases old job pages reply new step) [
  | inl refused ↦ refused_jobs old refused.0 reply new jobs refused.1
  | inr piece ↦ piece_jobs old job.0 pages reply new jobs piece.0 piece.1
]
BatchStep-jobs old new (Drop job) reply good jobs step = go (first_of (batch_refusals old (Drop job))) step.outcome where
  go : (o : Option Refusal) → BatchStepAfter o old (Drop job) reply new → AreGoodJobs new.jobs
  go (Some refusal) refused = refused_jobs old refusal reply new jobs refused
  go None (inr lacked) = refused_jobs old HostMemory reply new jobs lacked.0
  go None (inl done) = subst (λ (b : BatchState). AreGoodJobs b.jobs) (sym done.1) (jobs_without old.jobs job.0 jobs)

-- the machine after any step, by a command whose fields are within their types
machine_kept : (old new : BatchState) (command : BatchCommand) (reply : BatchReply) → IsGoodMachine old.machine → HasBatchRanges command → BatchStep old command reply new → IsGoodMachine new.machine
machine_kept old new (PlainCommand command) reply good ranges step = elim step.outcome [
  | inr lacked ↦ absurd (let none = lacked.1 in cc)
  | inl done ↦ (MachineStep-keeps old.machine command done.answer new.machine good (GivesName-from command ranges) done.step).good
]
machine_kept old new (Begin job kind name offset len) reply good ranges step =
    subst IsGoodMachine (event_leads old (Begin job kind name offset len) reply new step).1 good
machine_kept old new (Step job pages) reply good ranges step = elim (step_cases old job pages reply new step) [
  | inl refused ↦ subst (λ (b : BatchState). IsGoodMachine b.machine) (sym refused.1.same) good
  | inr piece ↦
      let j = piece.1.job in
      (MachineStep-keeps old.machine (piece_of j pages) piece.1.answer new.machine good (GivesName-plain j.kind j.name j.next (piece_len j pages)) piece.1.step).good
]
machine_kept old new (Drop job) reply good ranges step = subst IsGoodMachine (event_leads old (Drop job) reply new step).1 good

pub BatchStep-keeps : (old new : BatchState) (command : BatchCommand) (reply : BatchReply) → IsGoodBatch old → HasBatchRanges command → BatchStep old command reply new → IsGoodBatch new
BatchStep-keeps old new command reply good ranges step = record {
  machine = machine_kept old new command reply good.machine ranges step;
  jobs = BatchStep-jobs old new command reply good.machine.state good.jobs step;
}
