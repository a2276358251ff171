-- A job done piece by piece, with no other command between, is the plain command on its whole range.
use Rattle.std.proofs.Common.{◌≡◌, ◌≢◌, ℕ, ◌+◌, ◌-◌, ◌*◌, ◌/◌, ◌<◌, true, List, [], ◌∷◌, Option, None, Some, refl, sym, ap, subst, ◌∙◌, ◌⊎◌, inl, inr, arith}
use Rattle.std.specs.Prelude.{is_some, min}
use Rattle.std.proofs.lemmas.Bool.{cases_eq}
use Rattle.vm_base.specs.declared.limits.TheConstants.{PAGE}
use Rattle.vm_base.specs.declared.names.VmoName.{VmoName}
use Rattle.vm_base.specs.declared.refusal.Refusal.{Refusal}
use Rattle.vm_base.specs.declared.refusal.Refusal.TheVariants.{HostMemory}
use Rattle.vm_base.proofs.EntryLaws.{some_same, with_key-same, without_key-same}
use Rattle.vm_model.specs.Machine.Words.{Command, Reply}
use Rattle.vm_model.specs.declared.reply.Reply.TheVariants.{Done, Refused}
use Rattle.vm_model.specs.Machine.Machine.{Machine, IsGoodMachine}
use Rattle.vm_model.specs.Machine.MachineStep.{MachineStepAfter, MachineStep}
use Rattle.vm_model.specs.Machine.Refusals.{refusals, first_of}
use Rattle.vm_model.proofs.MachineLaws.{MachineStep-done, MachineStep-keeps}
use Rattle.batch_model.specs.declared.job.JobName.{JobName}
use Rattle.batch_model.specs.declared.job.JobKind.{JobKind}
use Rattle.batch_model.specs.declared.job.Job.{Job}
use Rattle.batch_model.specs.BatchWords.{BatchCommand, BatchReply}
use Rattle.batch_model.specs.declared.command.BatchCommand.TheVariants.{Step}
use Rattle.batch_model.specs.declared.command.BatchReply.TheVariants.{Plain as PlainReply, Left}
use Rattle.batch_model.specs.Pieces.{plain_command, left_of, piece_len, piece_of, whole_of, advanced, IsOfPages}
use Rattle.batch_model.specs.Batch.{BatchState, jobs_after, PieceGives, DoesPiece, BatchStep}
use Rattle.batch_model.specs.BatchRuns.{BatchEvent, BatchRun, last_batch, AreTurns, NoneRefused}
use Rattle.batch_model.proofs.AllowLaws.{Allows, Allows-from_none, none-from_Allows, GivesName-plain}
use Rattle.batch_model.proofs.SplitLaws.{TreatsName, TreatsName-from_effect, TreatsName-effect, TreatsName-both, Allows-first, Allows-behind}
use Rattle.batch_model.proofs.StepLaws.{piece_done, jobs_after-none, jobs_after-some}

-- ---- a job in pages

-- What is left of a job are n pages of its name from page a on, and they are some.
record IsAt (job : Job) (a n : ℕ) : Type 0 where
  pub next : job.next ≡ a * PAGE
  pub len : job.end - job.next ≡ n * PAGE
  pub some : 0 < n

IsAt-from_pages : (job : Job) → IsOfPages job → IsAt job (job.next / PAGE) (left_of job)
IsAt-from_pages job of_pages = record {
  next = omega (arith, of_pages.begins);
  len = omega (arith, of_pages.begins, of_pages.ends);
  some = omega (arith, of_pages.begins, of_pages.ends, of_pages.some);
}

module _ (job : Job) (a n : ℕ) (at : IsAt job a n) where
  whole_is : whole_of job ≡ plain_command job.kind job.name (a * PAGE) (n * PAGE)
  whole_is = λ i. plain_command job.kind job.name (at.next i) (at.len i)

  piece_is : (pages : ℕ) → piece_of job pages ≡ plain_command job.kind job.name (a * PAGE) (min pages n * PAGE)
  piece_is pages =
      let len : piece_len job pages ≡ min pages n * PAGE = omega (arith, at.len) in
      λ i. plain_command job.kind job.name (at.next i) (len i)

  left_is : (pages : ℕ) → left_of (advanced job pages) ≡ n - min pages n
  left_is pages = omega (arith, at.len, at.next)

  IsAt-advanced : (pages : ℕ) → pages < n → IsAt (advanced job pages) (a + pages) (n - pages)
  IsAt-advanced pages less = record { next = omega (arith, at.next, at.len); len = omega (arith, at.next, at.len); some = omega arith }

-- ---- one piece

-- What a piece of so many pages does: it is done, or the host lacks memory for it and nothing changes.
record IsDone (kind : JobKind) (name : ℕ) (a k : ℕ) (old new : Machine) (reply : Reply) : Type 0 where
  pub answer : reply ≡ Done
  pub treats : TreatsName kind name a k old new

record IsPutOff (old new : Machine) (reply : Reply) : Type 0 where
  pub answer : reply ≡ Refused HostMemory
  pub same : new ≡ old

piece_outcome : (kind : JobKind) (name : VmoName) (a k : ℕ) (old new : Machine) (reply : Reply) → IsGoodMachine old → 0 < k → Allows kind old.state name.0 a k
    → MachineStep old (plain_command kind name (a * PAGE) (k * PAGE)) reply new → IsDone kind name.0 a k old new reply ⊎ IsPutOff old new reply
piece_outcome kind name a k old new reply good some allows step =
    let command = plain_command kind name (a * PAGE) (k * PAGE) in
    elim (subst (λ (o : Option Refusal). MachineStepAfter o old command reply new) (none-from_Allows old.state name a k some kind good.state allows) step.outcome) [
      | inl effect ↦ let done = TreatsName-from_effect old name a k some kind reply new effect in inl (record { answer = done.0; treats = done.1 })
      | inr lacked ↦ inr (record { answer = lacked.0.answer; same = lacked.0.same })
    ]

-- what a step of a job gives then
gives_done : (answer : Reply) (jobs : ℕ → Option Job) (name : ℕ) (job : Job) (reply : BatchReply) (after : ℕ → Option Job) → answer ≡ Done → PieceGives answer jobs name job reply after
    → (reply ≡ Left (left_of job)) × (after ≡ jobs_after jobs name job)
gives_done answer jobs name job reply after is gives = subst (λ (r : Reply). PieceGives r jobs name job reply after) is gives

gives_put_off : (answer : Reply) (jobs : ℕ → Option Job) (name : ℕ) (job : Job) (reply : BatchReply) (after : ℕ → Option Job) → answer ≡ Refused HostMemory → PieceGives answer jobs name job reply after
    → (reply ≡ PlainReply (Refused HostMemory)) × (after ≡ jobs)
gives_put_off answer jobs name job reply after is gives = subst (λ (r : Reply). PieceGives r jobs name job reply after) is gives

-- ---- one turn

-- A turn of a job of which n pages are left, from page a of the name on: its piece is put off, or it is the last one, or pages
-- are left behind it.
record IsTurnPutOff (name : ℕ) (old : BatchState) (reply : BatchReply) (new : BatchState) : Type 0 where
  pub answer : reply ≡ PlainReply (Refused HostMemory)
  pub machine : new.machine ≡ old.machine
  pub jobs : new.jobs ≡ old.jobs

record IsLastTurn (name : ℕ) (job : Job) (a n : ℕ) (old : BatchState) (reply : BatchReply) (new : BatchState) : Type 0 where
  pub answer : (left : ℕ) × (reply ≡ Left left)
  pub gone : new.jobs name ≡ None
  pub treats : TreatsName job.kind job.name.0 a n old.machine new.machine

record IsTurnBefore (name : ℕ) (job : Job) (a n : ℕ) (old : BatchState) (reply : BatchReply) (new : BatchState) : Type 0 where
  pub answer : (left : ℕ) × (reply ≡ Left left)
  pub count : ℕ
  pub behind : ℕ
  pub sum : count + behind ≡ n
  pub next : Job
  pub kind : next.kind ≡ job.kind
  pub vmo : next.name ≡ job.name
  pub there : new.jobs name ≡ Some next
  pub at : IsAt next (a + count) behind
  pub good : IsGoodMachine new.machine
  pub allows : Allows job.kind new.machine.state job.name.0 (a + count) behind
  pub treats : TreatsName job.kind job.name.0 a count old.machine new.machine

turn : (name a n : ℕ) (old : BatchState) (job : Job) (pages : ℕ) (reply : BatchReply) (new : BatchState) → IsGoodMachine old.machine → old.jobs name ≡ Some job → IsAt job a n
    → Allows job.kind old.machine.state job.name.0 a n → pages ≢ 0 → DoesPiece old name pages reply new
    → IsTurnPutOff name old reply new ⊎ (IsLastTurn name job a n old reply new ⊎ IsTurnBefore name job a n old reply new)
turn name a n old job pages reply new good there at allows some done =
    let count = min pages n in
    let same : done.job ≡ job = some_same (sym done.is ∙ there) in
    let sum : count + (n - count) ≡ n = omega arith in
    let enough : 0 < count = omega (arith, at.some) in
    let all : Allows job.kind old.machine.state job.name.0 a (count + (n - count)) = subst (λ (k : ℕ). Allows job.kind old.machine.state job.name.0 a k) (sym sum) allows in
    let step : MachineStep old.machine (plain_command job.kind job.name (a * PAGE) (count * PAGE)) done.answer new.machine =
    subst (λ (c : Command). MachineStep old.machine c done.answer new.machine) (piece_is job a n at pages)
    (subst (λ (j : Job). MachineStep old.machine (piece_of j pages) done.answer new.machine) same done.step) in
    let gives : PieceGives done.answer old.jobs name (advanced job pages) reply new.jobs =
    subst (λ (j : Job). PieceGives done.answer old.jobs name (advanced j pages) reply new.jobs) same done.gives in
    elim (piece_outcome job.kind job.name a count old.machine new.machine done.answer good enough (Allows-first job.kind old.machine.state job.name.0 a count (n - count) all) step) [
      | inr off ↦
          let told = gives_put_off done.answer old.jobs name (advanced job pages) reply new.jobs off.answer gives in
          inl (record { answer = told.0; machine = off.same; jobs = told.1 })
      | inl piece ↦
          let told = gives_done done.answer old.jobs name (advanced job pages) reply new.jobs piece.answer gives in
          elim (cases_eq (left_of (advanced job pages)) 0) [
            | inl none ↦
                let last : count ≡ n = omega (arith, left_is job a n at pages, none) in
                inr (inl (record {
                  answer = (_, told.0);
                  gone = ap (λ (f : ℕ → Option Job). f name) (told.1 ∙ jobs_after-none old.jobs name (advanced job pages) none) ∙ without_key-same old.jobs name;
                  treats = subst (λ (k : ℕ). TreatsName job.kind job.name.0 a k old.machine new.machine) last piece.treats;
                }))
            | inr more ↦
                let less : pages < n = omega (arith, left_is job a n at pages, more) in
                let exact : count ≡ pages = omega arith in
                inr (inr (record {
                  answer = (_, told.0);
                  count = count;
                  behind = n - count;
                  sum = sum;
                  next = advanced job pages;
                  kind = refl;
                  vmo = refl;
                  there = ap (λ (f : ℕ → Option Job). f name) (told.1 ∙ jobs_after-some old.jobs name (advanced job pages) more) ∙ with_key-same old.jobs name (advanced job pages);
                  at = subst (λ (k : ℕ). IsAt (advanced job pages) (a + k) (n - k)) (sym exact) (IsAt-advanced job a n at pages less);
                  good = (MachineStep-keeps old.machine (plain_command job.kind job.name (a * PAGE) (count * PAGE)) done.answer new.machine good (GivesName-plain job.kind job.name (a * PAGE) (count * PAGE)) step).good;
                  allows = Allows-behind job.kind job.name.0 a count (n - count) old.machine new.machine good.state all piece.treats;
                  treats = piece.treats;
                }))
          ]
    ]

-- ---- all pieces

-- What a run of steps of a job comes to: none is refused, and once the job is gone its pages are done.
abbrev ComesTo : (name : ℕ) → JobKind → VmoName → (a n : ℕ) → BatchState → List BatchEvent → Type 0
ComesTo name kind vmo a n old events = NoneRefused events × ((last_batch old events).jobs name ≡ None → TreatsName kind vmo.0 a n old.machine (last_batch old events).machine)

-- nothing comes behind the last turn
ended : (name : ℕ) (job : Job) (a n : ℕ) (old mid : BatchState) (reply : BatchReply) (events : List BatchEvent) → IsLastTurn name job a n old reply mid → AreTurns name mid events
    → NoneRefused events × TreatsName job.kind job.name.0 a n old.machine (last_batch mid events).machine
ended name job a n old mid reply [] last turns = (tt, last.treats)
ended name job a n old mid reply (event ∷ events) last turns = absurd (let there : is_some (mid.jobs name) ≡ true = turns.0 in let none = ap is_some last.gone in cc)

run_comes_to : (name a n : ℕ) (old : BatchState) (job : Job) (events : List BatchEvent) → IsGoodMachine old.machine → old.jobs name ≡ Some job → IsAt job a n
    → Allows job.kind old.machine.state job.name.0 a n → BatchRun old events → AreTurns name old events → ComesTo name job.kind job.name a n old events
run_comes_to name a n old job [] good there at allows run turns = (tt, λ gone. absurd (let none : ◌≡◌ {A = Option Job} (Some job) None = sym there ∙ gone in cc))
run_comes_to name a n old job (event ∷ events) good there at allows run turns =
    let pages = turns.1.0 in
    let some = turns.1.1 in
    let key : JobName = record { 0 = name } in
    let step : BatchStep old (Step key pages) event.reply event.after = subst (λ (c : BatchCommand). BatchStep old c event.reply event.after) turns.1.2 run.0 in
    let done : DoesPiece old name pages event.reply event.after = piece_done old key pages event.reply event.after job step there some in
    let last = (last_batch event.after events).machine in
    elim (turn name a n old job pages event.reply event.after good there at allows some done) [
      | inl off ↦
          let same = sym off.machine in
          let rest = run_comes_to name a n event.after job events (subst IsGoodMachine same good) (ap (λ (f : ℕ → Option Job). f name) off.jobs ∙ there) at
          (subst (λ (m : Machine). Allows job.kind m.state job.name.0 a n) same allows) run.1 turns.2 in
          ((inr off.answer, rest.0), λ gone. subst (λ (m : Machine). TreatsName job.kind job.name.0 a n m last) off.machine (rest.1 gone))
      | inr (inl end) ↦
          let rest = ended name job a n old event.after event.reply events end turns.2 in
          ((inl end.answer, rest.0), λ gone. rest.1)
      | inr (inr before) ↦
          let allows_now : Allows before.next.kind event.after.machine.state before.next.name.0 (a + before.count) before.behind =
          subst (λ (k : JobKind). Allows k event.after.machine.state before.next.name.0 (a + before.count) before.behind) (sym before.kind)
          (subst (λ (v : VmoName). Allows job.kind event.after.machine.state v.0 (a + before.count) before.behind) (sym before.vmo) before.allows) in
          let rest = run_comes_to name (a + before.count) before.behind event.after before.next events before.good before.there before.at allows_now run.1 turns.2 in
          let rest_treats : (last_batch event.after events).jobs name ≡ None → TreatsName job.kind job.name.0 (a + before.count) before.behind event.after.machine last = λ gone.
          subst (λ (k : JobKind). TreatsName k job.name.0 (a + before.count) before.behind event.after.machine last) before.kind
          (subst (λ (v : VmoName). TreatsName before.next.kind v.0 (a + before.count) before.behind event.after.machine last) before.vmo (rest.1 gone)) in (
            (inl before.answer, rest.0),
            λ gone. subst (λ (k : ℕ). TreatsName job.kind job.name.0 a k old.machine last) before.sum
                (TreatsName-both job.kind job.name.0 a before.count before.behind old.machine event.after.machine last good.state allows.there (omega (arith, allows.inside, before.sum)) before.treats (rest_treats gone)),
          )
    ]

module _ (name : ℕ) (old : BatchState) (job : Job) (events : List BatchEvent) (good : IsGoodMachine old.machine) (there : old.jobs name ≡ Some job) (of_pages : IsOfPages job)
    (none : first_of (refusals old.machine.state (whole_of job)) ≡ None) (run : BatchRun old events) (turns : AreTurns name old events) where
  abbrev a : ℕ
  a = job.next / PAGE

  abbrev n : ℕ
  n = left_of job

  at : IsAt job a n
  at = IsAt-from_pages job of_pages

  none_too : first_of (refusals old.machine.state (plain_command job.kind job.name (a * PAGE) (n * PAGE))) ≡ None
  none_too = subst (λ (c : Command). first_of (refusals old.machine.state c) ≡ None) (whole_is job a n at) none

  comes_to : ComesTo name job.kind job.name a n old events
  comes_to = run_comes_to name a n old job events good there at (Allows-from_none old.machine.state job.name a n at.some job.kind none_too) run turns

  -- nothing but want of the host's memory refuses a piece
  pub NoneRefused-from_turns : NoneRefused events
  NoneRefused-from_turns = comes_to.0

  -- and once the last piece is done, the plain command on the whole range is
  pub MachineStep-from_turns : (last_batch old events).jobs name ≡ None → MachineStep old.machine (whole_of job) Done (last_batch old events).machine
  MachineStep-from_turns gone =
      let last = (last_batch old events).machine in
      subst (λ (c : Command). MachineStep old.machine c Done last) (sym (whole_is job a n at))
      (MachineStep-done old.machine (plain_command job.kind job.name (a * PAGE) (n * PAGE)) Done last none_too
      (TreatsName-effect old.machine job.name a n at.some job.kind last (comes_to.1 gone)))
