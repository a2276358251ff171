use Rattle.std.proofs.Common.{◌+◌, ◌-◌, ◌≤◌}
use Rattle.vm_core.specs.Vm.{Agrees, machine_of}
use Rattle.vm_session.specs.inside.Working.{IsUnderWay}
use Rattle.vm_session.proofs.working.work_through.Given as goal

abbrev pub invariant-loop : goal.invariant-loop
invariant-loop g l =
    let old = g.P.PageStore.content l.fn.store in
    let now = g.P.PageStore.content l.store in
    record {
      under_way : IsUnderWay (machine_of old l.fn.vm) l.fn.number l.fn.count l.tally (machine_of now l.vm) l.x
          (l.fn.count - l.counter);
      agrees : Agrees now l.vm;
      next : now.next ≤ old.next + l.counter;
      ok : l.tally.ok ≤ l.counter;
      refused : l.tally.refused ≤ l.counter;
      host : l.tally.host ≤ l.counter;
    }
