-- Laws of the table of jobs, whose map has each job under its number and 0.
use Rattle.std.proofs.Common.{◌≡◌, ℕ, Bool, true, false, cond, ◌==◌, ◌&&◌, Option, None, Some, refl, ◌∙◌}
use Rattle.vm_base.specs.Entries.{with_key, without_key}
use Rattle.pair_map.specs.Maps.{values_of, with_pair}
use Rattle.batch_model.specs.declared.job.Job.{Job}
use Rattle.batch_vm.specs.Jobs.{Jobs, jobs_of}

-- a test of 0 tells nothing
zero-test : {A : Type 0} (b : Bool) (x y : A) → cond (b && true) x y ≡ cond b x y
zero-test true x y = refl
zero-test false x y = refl

-- a job more, or another in its place
pub jobs-with : (old new : Jobs) (name : ℕ) (job : Job) → values_of new ≡ with_pair (values_of old) name 0 (Some job) → jobs_of new ≡ with_key (jobs_of old) name job
unfolding with_pair with_key
jobs-with old new name job values = (λ i n. values i n 0) ∙ (λ i n. zero-test (n == name) (Some job) (values_of old n 0) i)

-- a job less
pub jobs-without : (old new : Jobs) (name : ℕ) → values_of new ≡ with_pair (values_of old) name 0 None → jobs_of new ≡ without_key (jobs_of old) name
unfolding with_pair without_key
jobs-without old new name values = (λ i n. values i n 0) ∙ (λ i n. zero-test {A = Option Job} (n == name) None (values_of old n 0) i)
