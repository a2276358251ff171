use Rattle.std.proofs.Common.{sym, subst}
use Rattle.vm_model.specs.Machine.Machine.{Machine}
use Rattle.vm_core.specs.Vm.{machine_of}
use Rattle.batch_model.specs.declared.command.BatchCommand.TheVariants.{Begin}
use Rattle.batch_model.specs.Batch.{BatchStep}
use Rattle.batch_vm.specs.Jobs.{jobs_of}
use Rattle.batch_vm.proofs.beginning.begin.Goals as goal

pub returns : goal.returns
returns g c =
    let old = machine_of (g.P.PageStore.content c.args.store.now) c.args.vm.now in
    let told = c.in-Some.ensures.size in
    let step = c.begin_open.ensures old told.0 told.1 in
    record {
      step = subst (λ (m : Machine). BatchStep (record { machine = old; jobs = jobs_of c.args.table.now }) (Begin c.args.request.job c.args.request.kind c.args.request.name c.args.request.offset c.args.request.len)
          c.begin_open.result (record { machine = m; jobs = jobs_of c.begin_open.new.table })) (sym c.size_of.ensures.same) step;
      agrees = c.size_of.ensures.agrees;
      good = c.size_of.ensures.good;
      next = c.size_of.ensures.next;
    }
