use Rattle.std.proofs.Common.{arith}
use Rattle.shared_vm.proofs.TaskPlaceLaws.{tasks_added, tasks_kept}
use Rattle.shared_vm.proofs.task_list.TaskList.push.Goals as goal

pub returns-clause-ok : goal.returns-clause-ok
returns-clause-ok c =
    rw (← c.self.view_is) (tasks_added _ _ c.args.line.now _ _ _ c.self.invariant c.in-Ok.ensures.items
    (omega (arith, c.len-start.ensures, c.self.inside.bytes.ok.0)) (omega (arith, c.len-end.ensures, c.extend_from_slice.new.self.ok.0))
    c.in-Ok-push.ensures.items)

pub returns-in_default-push-clause-err : goal.returns-in_default-push-clause-err
returns-in_default-push-clause-err c =
    rw (← c.self.view_is) (tasks_kept _ _ c.args.line.now _ _ c.self.invariant c.in-Ok.ensures.items c.in_default-push.ensures.items)
