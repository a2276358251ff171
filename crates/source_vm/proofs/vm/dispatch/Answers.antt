use Rattle.std.proofs.Common.{ap, refl}
use Rattle.vm_model.specs.declared.reply.Reply.TheVariants.{Stat as StatReply}
use Rattle.source_model.specs.declared.command.SourceCommand.TheVariants.{Stat}
use Rattle.source_vm.specs.Table.{source_state_of}
use Rattle.source_vm.proofs.StepLaws.{done}
use Rattle.source_vm.proofs.vm.dispatch.Goals as goal

pub returns-in-Stat-clause-step : goal.returns-in-Stat-clause-step
returns-in-Stat-clause-step g c =
    rw c.in-Stat.is (done (source_state_of (g.P.PageStore.content c.args.store.now) c.args.table.now) Stat _ _ refl (ap StatReply c.stat.ensures, refl))

pub returns-in-Read-clause-step : goal.returns-in-Read-clause-step
returns-in-Read-clause-step g c = rw c.in-Read.is (rw c.new-range.ensures at c.read.ensures)

pub returns-in-Supply-clause-step : goal.returns-in-Supply-clause-step
returns-in-Supply-clause-step g c = rw c.in-Supply.is (rw c.new-range-in-Supply.ensures at c.supply.ensures)

pub returns-in-Evict-clause-step : goal.returns-in-Evict-clause-step
returns-in-Evict-clause-step g c = rw c.in-Evict.is (rw c.new-range-in-Evict.ensures at c.evict.ensures)
