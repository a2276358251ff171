use Rattle.batch_vm.proofs.TableLaws.{jobs-without}
use Rattle.batch_vm.proofs.job_table.JobTable.remove.Goals as goal

pub returns : goal.returns
returns c = rw (← c.self.view_is) (jobs-without c.self.inside.jobs c.remove-removed.new.self c.args.name.0 c.remove-removed.ensures.values)
