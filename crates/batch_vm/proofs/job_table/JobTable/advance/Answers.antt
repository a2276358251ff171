use Rattle.std.proofs.Common.{◌∙◌, sym}
use Rattle.batch_model.proofs.StepLaws.{jobs_after-none, jobs_after-some}
use Rattle.batch_vm.specs.Jobs.{jobs_of}
use Rattle.batch_vm.proofs.TableLaws.{jobs-with}
use Rattle.batch_vm.proofs.job_table.JobTable.advance.Goals as goal

pub returns-then-pages_left-eq0 : goal.returns-then-pages_left-eq0
returns-then-pages_left-eq0 c =
    c.remove.ensures ∙ sym (jobs_after-none (jobs_of c.args.self.now) c.args.name.0 c.args.job (sym c.pages_left.ensures ∙ c.if-pages_left-eq0.true))

pub returns-else-pages_left-eq0 : goal.returns-else-pages_left-eq0
returns-else-pages_left-eq0 c =
    rw (← c.self.view_is) (jobs-with c.self.inside.jobs c.replace.new.self c.args.name.0 c.args.job c.replace.ensures.values)
    ∙ sym (jobs_after-some (jobs_of c.args.self.now) c.args.name.0 c.args.job (λ none. c.if-pages_left-eq0.false (c.pages_left.ensures ∙ none)))
