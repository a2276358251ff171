-- The pieces of a job tile its range, whatever other commands come between.
use Rattle.std.proofs.Common.{◌≡◌, ◌≢◌, ℕ, ◌+◌, ◌-◌, ◌*◌, ◌%◌, ◌<◌, ◌≤◌, true, false, cond, ◌==◌, List, [], ◌∷◌, ◌++◌, Option, None, Some, refl, sym, ap, subst, ◌∙◌, ◌⊎◌, inl, inr, arith}
use Rattle.std.specs.Prelude.{is_some, nat_le}
use Rattle.std.proofs.lemmas.Bool.{cases_eq, cases_lt, cond-true, cond-false, both_ways, and_left, and_right, lt-leb}
use Rattle.vm_base.specs.declared.limits.TheConstants.{PAGE}
use Rattle.vm_base.specs.declared.refusal.Refusal.{Refusal}
use Rattle.vm_base.specs.declared.refusal.Refusal.TheVariants.{HostMemory}
use Rattle.vm_base.proofs.EntryLaws.{some_same, with_key-same, with_key-other, without_key-same, without_key-other}
use Rattle.vm_base.proofs.SearchLaws.{eqb_same, eqb_apart, bit-true, bit-false}
use Rattle.vm_model.specs.Contents.Zeroing.{is_whole}
use Rattle.vm_model.specs.Machine.Refusals.{first_of}
use Rattle.vm_model.proofs.StepLaws.{AllOff-from_none}
use Rattle.batch_model.specs.declared.job.JobName.{JobName}
use Rattle.batch_model.specs.declared.job.Job.{Job}
use Rattle.batch_model.specs.BatchWords.{BatchCommand, BatchReply}
use Rattle.batch_model.specs.declared.command.BatchCommand.TheVariants.{Plain as PlainCommand, Begin, Step, Drop}
use Rattle.batch_model.specs.declared.command.BatchReply.TheVariants.{Plain as PlainReply, Left}
use Rattle.batch_model.specs.Pieces.{left_of, piece_len, advanced, IsOfPages}
use Rattle.batch_model.specs.Batch.{BatchState, batch_refusals, jobs_after, DoesPiece, IsRefusedBatch, BatchStepAfter, BatchStep}
use Rattle.batch_model.specs.BatchRuns.{BatchEvent, BatchRun, last_batch, Part, part_of, parts_of_job, job_parts, Lasts, Tiles, times_in}
use Rattle.batch_model.proofs.TreatLaws.{is_whole-true}
use Rattle.batch_model.proofs.StepLaws.{step_cases, gives_left, gives_plain, jobs_after-other, jobs_after-none, jobs_after-some, piece_some, piece_whole, piece_last, IsOfPages-advanced}

-- the piece of a job of so many pages, as a part of its range
abbrev piece_part : Job → ℕ → Part
piece_part job pages = record { first = job.next; len = piece_len job pages }

-- What a step does to a job that was there: nothing, or a piece of some pages of it.
abbrev Does : ℕ → Job → List Part → (ℕ → Option Job) → (ℕ → Option Job) → Type 0
Does name job parts old new =
    ((parts ≡ []) × (new name ≡ old name))
    ⊎ ((pages : ℕ) × (pages ≢ 0) × (parts ≡ piece_part job pages ∷ []) × (new ≡ jobs_after old name (advanced job pages)))

-- nothing is done, and the jobs stay
keeps : (name : ℕ) (job : Job) (old new : ℕ → Option Job) → new ≡ old → Does name job [] old new
keeps name job old new same = inl (refl, ap (λ (f : ℕ → Option Job). f name) same)

refused_jobs : (old : BatchState) (refusal : Refusal) (reply : BatchReply) (new : BatchState) → IsRefusedBatch old refusal reply new → new.jobs ≡ old.jobs
refused_jobs old refusal reply new refused = ap (λ (b : BatchState). b.jobs) refused.same

-- a refusal is no reply of pages that are left
refused_none : (name : ℕ) (old : BatchState) (job : JobName) (pages : ℕ) (refusal : Refusal) (reply : BatchReply) (new : BatchState) → IsRefusedBatch old refusal reply new
    → parts_of_job name old (Step job pages) reply ≡ []
refused_none name old job pages refusal reply new refused = ap (λ (r : BatchReply). parts_of_job name old (Step job pages) r) refused.answer

-- a step of the job itself
own_step : (old : BatchState) (key : JobName) (pages : ℕ) (reply : BatchReply) (new : BatchState) (job : Job) → old.jobs key.0 ≡ Some job → pages ≢ 0 → DoesPiece old key.0 pages reply new
    → Does key.0 job (parts_of_job key.0 old (Step key pages) reply) old.jobs new.jobs
own_step old key pages (PlainReply reply) new job there some done = keeps key.0 job old.jobs new.jobs (gives_plain done.answer old.jobs key.0 (advanced done.job pages) reply new.jobs done.gives).1
own_step old key pages (Left left) new job there some done =
    let same : done.job ≡ job = some_same (sym done.is ∙ there) in
    let gives = gives_left done.answer old.jobs key.0 (advanced done.job pages) left new.jobs done.gives in
    inr (
      pages,
      some,
      cond-true (key.0 == key.0) (part_of (old.jobs key.0) pages) [] (eqb_same key.0) ∙ ap (λ (o : Option Job). part_of o pages) there,
      gives.1 ∙ ap (λ (j : Job). jobs_after old.jobs key.0 (advanced j pages)) same,
    )

-- a step of another job
other_step : (old : BatchState) (name : ℕ) (key : JobName) (pages : ℕ) (reply : BatchReply) (new : BatchState) (job : Job) → name ≢ key.0 → DoesPiece old key.0 pages reply new
    → Does name job (parts_of_job name old (Step key pages) reply) old.jobs new.jobs
other_step old name key pages (PlainReply reply) new job apart done = keeps name job old.jobs new.jobs (gives_plain done.answer old.jobs key.0 (advanced done.job pages) reply new.jobs done.gives).1
other_step old name key pages (Left left) new job apart done =
    let gives = gives_left done.answer old.jobs key.0 (advanced done.job pages) left new.jobs done.gives in
    let differs : key.0 ≢ name = λ e. apart (sym e) in
    inl (
      cond-false (key.0 == name) (part_of (old.jobs name) pages) [] (eqb_apart key.0 name differs),
      ap (λ (f : ℕ → Option Job). f name) gives.1 ∙ jobs_after-other old.jobs key.0 (advanced done.job pages) name apart,
    )

-- each step of the machine with jobs does so, where it does not give the job up
step_does : (old : BatchState) (name : ℕ) (job : Job) (command : BatchCommand) (reply : BatchReply) (new : BatchState) → old.jobs name ≡ Some job → command ≢ Drop (record { 0 = name })
    → BatchStep old command reply new → Does name job (parts_of_job name old command reply) old.jobs new.jobs
step_does old name job (PlainCommand command) reply new there goes_on step = elim step.outcome [
  | inr lacked ↦ absurd (let none = lacked.1 in cc)
  | inl done ↦ keeps name job old.jobs new.jobs done.jobs
]
step_does old name job (Begin key kind vmo offset len) reply new there goes_on step = go (first_of (batch_refusals old (Begin key kind vmo offset len))) refl step.outcome where
  go : (o : Option Refusal) → first_of (batch_refusals old (Begin key kind vmo offset len)) ≡ o → BatchStepAfter o old (Begin key kind vmo offset len) reply new → Does name job [] old.jobs new.jobs
  go (Some refusal) e refused = keeps name job old.jobs new.jobs (refused_jobs old refusal reply new refused)
  go None e (inr lacked) = keeps name job old.jobs new.jobs (refused_jobs old HostMemory reply new lacked.0)
  go None e (inl done) =
      let off = AllOff-from_none (batch_refusals old (Begin key kind vmo offset len)) e in
      let apart : name ≢ key.0 = λ same. both_ways (is_some (old.jobs key.0)) off.1.0 (ap (λ (n : ℕ). is_some (old.jobs n)) (sym same) ∙ ap is_some there) in
      inl (refl, ap (λ (b : BatchState). b.jobs name) done.1 ∙ with_key-other old.jobs key.0 _ name apart)
step_does old name job (Step key pages) reply new there goes_on step = elim (step_cases old key pages reply new step) [
  | inl refused ↦ inl (refused_none name old key pages refused.0 reply new refused.1, ap (λ (f : ℕ → Option Job). f name) (refused_jobs old refused.0 reply new refused.1))
  | inr piece ↦ elim (cases_eq name key.0) [
    | inl same ↦
        subst (λ (n : ℕ). Does n job (parts_of_job n old (Step key pages) reply) old.jobs new.jobs) (sym same)
        (own_step old key pages reply new job (ap old.jobs (sym same) ∙ there) piece.0 piece.1)
    | inr apart ↦ other_step old name key pages reply new job apart piece.1
  ]
]
step_does old name job (Drop key) reply new there goes_on step = go (first_of (batch_refusals old (Drop key))) step.outcome where
  go : (o : Option Refusal) → BatchStepAfter o old (Drop key) reply new → Does name job [] old.jobs new.jobs
  go (Some refusal) refused = keeps name job old.jobs new.jobs (refused_jobs old refusal reply new refused)
  go None (inr lacked) = keeps name job old.jobs new.jobs (refused_jobs old HostMemory reply new lacked.0)
  go None (inl done) =
      let apart : name ≢ key.0 = λ same. goes_on (λ i. Drop (record { 0 = sym same i })) in
      inl (refl, ap (λ (b : BatchState). b.jobs name) done.1 ∙ without_key-other old.jobs key.0 name apart)

-- ---- whole runs

-- The pieces that a job does tile what is left of it, where it came to its end.
pub Tiles-from_run : (name : ℕ) (old : BatchState) (job : Job) (events : List BatchEvent) → old.jobs name ≡ Some job → IsOfPages job → BatchRun old events → Lasts name old events
    → (last_batch old events).jobs name ≡ None → Tiles job.next (job_parts name old events) job.end
Tiles-from_run name old job [] there of_pages run lasts gone = absurd (let none : ◌≡◌ {A = Option Job} (Some job) None = sym there ∙ gone in cc)
Tiles-from_run name old job (event ∷ events) there of_pages run lasts gone =
    elim (step_does old name job event.command event.reply event.after there lasts.1 run.0) [
      | inl nothing ↦
          subst (λ (parts : List Part). Tiles job.next (parts ++ job_parts name event.after events) job.end) (sym nothing.0)
          (Tiles-from_run name event.after job events (nothing.1 ∙ there) of_pages run.1 lasts.2 gone)
      | inr piece ↦
          subst (λ (parts : List Part). Tiles job.next (parts ++ job_parts name event.after events) job.end) (sym piece.2) (
            refl,
            piece_some job of_pages piece.0 piece.1,
            piece_whole job of_pages piece.0 piece.1,
            behind event.after events piece.0 piece.1 piece.3 run.1 lasts.2 gone (Tiles-from_run name event.after (advanced job piece.0) events),
          )
    ] where
      -- what the pieces behind the first one tile
      behind : (new : BatchState) (events : List BatchEvent) (pages : ℕ) → pages ≢ 0 → new.jobs ≡ jobs_after old.jobs name (advanced job pages) → BatchRun new events → Lasts name new events
          → (last_batch new events).jobs name ≡ None
          → (new.jobs name ≡ Some (advanced job pages) → IsOfPages (advanced job pages) → BatchRun new events → Lasts name new events → (last_batch new events).jobs name ≡ None
          → Tiles (job.next + piece_len job pages) (job_parts name new events) job.end)
          → Tiles (job.next + piece_len job pages) (job_parts name new events) job.end
      behind new events pages some jobs run lasts gone later = elim (cases_eq (left_of (advanced job pages)) 0) [
        | inr more ↦
            later (ap (λ (f : ℕ → Option Job). f name) (jobs ∙ jobs_after-some old.jobs name (advanced job pages) more) ∙ with_key-same old.jobs name (advanced job pages))
            (IsOfPages-advanced job of_pages pages some more) run lasts gone
        | inl none ↦
            ended events lasts (ap (λ (f : ℕ → Option Job). f name) (jobs ∙ jobs_after-none old.jobs name (advanced job pages) none) ∙ without_key-same old.jobs name)
            (piece_last job of_pages pages some none)
      ] where
        -- a job that is not there does nothing more
        ended : (events : List BatchEvent) → Lasts name new events → new.jobs name ≡ None → job.next + piece_len job pages ≡ job.end
            → Tiles (job.next + piece_len job pages) (job_parts name new events) job.end
        ended [] lasts gone end = end
        ended (event ∷ events) lasts gone end = absurd (let there : is_some (new.jobs name) ≡ true = lasts.0 in let none = ap is_some gone in cc)

-- ---- each page once

-- a page that begins before a range or ends behind it does not lie in it
is_whole-false : (offset len p : ℕ) → (PAGE * p < offset) ⊎ (offset + len < PAGE * (p + 1)) → is_whole offset len p ≡ false
is_whole-false offset len p (inl before) = and_left (nat_le offset (PAGE * p)) (nat_le (PAGE * (p + 1)) (offset + len)) (lt-leb offset (PAGE * p) before)
is_whole-false offset len p (inr behind) = and_right (nat_le offset (PAGE * p)) (nat_le (PAGE * (p + 1)) (offset + len)) (lt-leb (PAGE * (p + 1)) (offset + len) behind)

-- a page lies in a range, or it begins before it or ends behind it
cases_whole : (offset len p : ℕ) → ((offset ≤ p * PAGE) × ((p + 1) * PAGE ≤ offset + len)) ⊎ ((PAGE * p < offset) ⊎ (offset + len < PAGE * (p + 1)))
cases_whole offset len p = elim (cases_lt (PAGE * p) offset) [
  | inl before ↦ inr (inl before)
  | inr from ↦ elim (cases_lt (offset + len) (PAGE * (p + 1))) [ inl behind ↦ inr (inr behind) | inr inside ↦ inl (omega arith, omega arith) ]
]

-- how often a page lies in a range
abbrev times : ℕ → ℕ → ℕ → ℕ
times offset len p = cond (is_whole offset len p) 1 0

once : (offset len p : ℕ) → offset ≤ p * PAGE → (p + 1) * PAGE ≤ offset + len → times offset len p ≡ 1
once offset len p low high = bit-true (is_whole offset len p) (is_whole-true offset len p low high)

never : (offset len p : ℕ) → (PAGE * p < offset) ⊎ (offset + len < PAGE * (p + 1)) → times offset len p ≡ 0
never offset len p out = bit-false (is_whole offset len p) (is_whole-false offset len p out)

-- a page of a range of whole pages lies in its first part or behind it
split_page : (first len end p : ℕ) → first + len ≤ end → first % PAGE ≡ 0 → len % PAGE ≡ 0 → times first len p + times (first + len) (end - (first + len)) p ≡ times first (end - first) p
split_page first len end p fits begins whole = elim (cases_whole first len p) [
  | inl inside ↦
      omega (arith, once first len p inside.0 inside.1, never (first + len) (end - (first + len)) p (inl (omega arith)), once first (end - first) p inside.0 (omega arith))
  | inr (inl before) ↦
      omega (arith, never first len p (inl before), never (first + len) (end - (first + len)) p (inl (omega arith)), never first (end - first) p (inl before))
  | inr (inr behind) ↦ elim (cases_whole (first + len) (end - (first + len)) p) [
    | inl inside ↦
        omega (arith, never first len p (inr behind), once (first + len) (end - (first + len)) p inside.0 inside.1, once first (end - first) p (omega arith) (omega arith))
    | inr out ↦
        let none : (PAGE * p < first) ⊎ (first + (end - first) < PAGE * (p + 1)) = elim out [
          | inl before ↦ inl (omega arith)
          | inr past ↦ inr (omega arith)
        ] in
        omega (arith, never first len p (inr behind), never (first + len) (end - (first + len)) p out, never first (end - first) p none)
  ]
]

tiles_le : (first : ℕ) (parts : List Part) (end : ℕ) → Tiles first parts end → first ≤ end
tiles_le first [] end tiles = omega arith
tiles_le first (part ∷ parts) end tiles = omega (arith, tiles_le (first + part.len) parts end tiles.3)

-- Each page of a range is in one of the parts that tile it, and any other page in none.
pub times_in-tiles : (first : ℕ) (parts : List Part) (end p : ℕ) → first % PAGE ≡ 0 → Tiles first parts end → times_in p parts ≡ cond (is_whole first (end - first) p) 1 0
times_in-tiles first [] end p begins tiles = let none : (PAGE * p < first) ⊎ (first + (end - first) < PAGE * (p + 1)) = outside in sym (never first (end - first) p none) where
  outside : (PAGE * p < first) ⊎ (first + (end - first) < PAGE * (p + 1))
  outside = elim (cases_lt (PAGE * p) first) [ inl before ↦ inl before | inr from ↦ inr (omega arith) ]
times_in-tiles first (part ∷ parts) end p begins tiles =
    let rest = times_in-tiles (first + part.len) parts end p (omega (arith, tiles.2)) tiles.3 in
    let here : ◌≡◌ {A = ℕ} (cond (is_whole part.first part.len p) 1 0) (cond (is_whole first part.len p) 1 0) = ap (λ (a : ℕ). cond {A = ℕ} (is_whole a part.len p) 1 0) tiles.0 in
    omega (arith, rest, here, split_page first part.len end p (tiles_le (first + part.len) parts end tiles.3) begins tiles.2)
