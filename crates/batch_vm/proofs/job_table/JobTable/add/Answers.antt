use Rattle.std.proofs.Common.{◌∙◌, ap, ℕ, Option, Some}
use Rattle.batch_model.specs.declared.job.Job.{Job}
use Rattle.pair_map.specs.Maps.{with_pair}
use Rattle.batch_vm.proofs.TableLaws.{jobs-with}
use Rattle.batch_vm.proofs.job_table.JobTable.add.Goals as goal

pub returns-clause-ok : goal.returns-clause-ok
returns-clause-ok c =
    rw (← c.self.view_is) (jobs-with c.self.inside.jobs c.insert.new.self c.args.name.0 c.args.job
    (c.insert.ensures.values ∙ ap (λ (m : ℕ → ℕ → Option Job). with_pair m c.args.name.0 0 (Some c.args.job)) c.reserve.ensures.values))
