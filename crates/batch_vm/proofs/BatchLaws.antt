-- Laws of a batch: that asking for a size changes nothing, and that jobs stay good.
use Rattle.std.proofs.Common.{◌≡◌, ℕ, Option, None, Some, refl, sym, ap, ◌∙◌, inl, inr}
use Rattle.vm_base.specs.declared.names.VmoName.{VmoName}
use Rattle.vm_base.specs.declared.refusal.Refusal.{Refusal}
use Rattle.vm_model.specs.declared.command.Command.TheVariants.{VmoSize}
use Rattle.vm_model.specs.Machine.Words.{Reply}
use Rattle.vm_model.specs.Contents.Content.{Content}
use Rattle.vm_model.specs.Space.Readiness.{settled}
use Rattle.vm_model.specs.Machine.State.{State}
use Rattle.vm_model.specs.Machine.Machine.{Machine, IsGoodMachine}
use Rattle.vm_model.specs.Machine.MachineStep.{MachineStepAfter, MachineStep}
use Rattle.vm_model.specs.Machine.Refusals.{refusals, first_of}
use Rattle.vm_model.proofs.ReadinessLaws.{keeps_frame-from, settled-same}
use Rattle.vm_core.specs.Vm.{Agrees}
use Rattle.batch_model.specs.declared.job.Job.{Job}
use Rattle.batch_model.specs.BatchWords.{BatchCommand, BatchReply}
use Rattle.batch_model.specs.Batch.{AreGoodJobs}
use Rattle.batch_model.proofs.GoodLaws.{BatchStep-jobs}
use Rattle.batch_vm.specs.Jobs.{jobs_of}
use Rattle.batch_vm.specs.Batch.{BatchParts, batch_of, DoesBatch}

-- what is ready stays ready where no content changes
settled-nothing : (m : Machine) → IsGoodMachine m → settled m.state.content m.state.content m.state.spaces.table m.ready ≡ m.ready
settled-nothing m good = settled-same m.state.content m.state.content m.state.spaces.table m.ready (λ root p readiness e.
    let is = good.ready root p readiness e in (is.entry, is.is, keeps_frame-from m.state.content m.state.content is.entry refl is.below))

-- the machine is as it was once a size was asked for
pub size_same : (old new : Machine) (name : VmoName) (reply : Reply) → IsGoodMachine old → MachineStep old (VmoSize name) reply new → new ≡ old
size_same old new name reply good step = go (first_of (refusals old.state (VmoSize name))) step.outcome where
  go : (o : Option Refusal) → MachineStepAfter o old (VmoSize name) reply new → new ≡ old
  go (Some refusal) refused = refused.same
  go None (inr lacked) = lacked.0.same
  go None (inl effect) =
      let same = effect.0.1 in
      let ready : new.ready ≡ old.ready =
      effect.1 ∙ (ap (λ (s : State). settled old.state.content s.content s.spaces.table old.ready) same ∙ settled-nothing old good) in
      λ i. record { state = same i; ready = ready i }

-- no jobs are good ones
pub no_jobs : (jobs : ℕ → Option Job) → jobs ≡ (λ n. None) → AreGoodJobs jobs
no_jobs jobs none n job e = absurd (let differs : ◌≡◌ {A = Option Job} None (Some job) = sym (ap (λ (f : ℕ → Option Job). f n) none) ∙ e in cc)

-- the jobs are good after whatever a batch does
pub jobs_kept : (old new : Content) (batch_old batch_new : BatchParts) (command : BatchCommand) (reply : BatchReply) → Agrees old batch_old.vm → AreGoodJobs (jobs_of batch_old.jobs)
    → DoesBatch old batch_old command reply new batch_new → AreGoodJobs (jobs_of batch_new.jobs)
jobs_kept old new batch_old batch_new command reply agrees good does =
    BatchStep-jobs (batch_of old batch_old) (batch_of new batch_new) command reply agrees.good good does.step
