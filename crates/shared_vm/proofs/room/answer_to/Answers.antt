use Rattle.std.proofs.Math.Nat.{le-add_right}
use Rattle.shared_vm.proofs.TaskLaws.{task_order, task_blank, task_outside}
use Rattle.shared_vm.proofs.RunLaws.{does_order, does_outside}
use Rattle.shared_vm.proofs.room.answer_to.Goals as goal

pub returns-in-Ok-Some : goal.returns-in-Ok-Some
returns-in-Ok-Some g c =
    let answer = c.answer.ensures in
    record {
      does = does_order _ c.in-Ok-Some.call c.answer.result _ _
          (task_order c.args.line.now c.in-Ok-Some.call (rw c.in-Ok-Some.field-0-is at c.in-Ok-Some.ensures)) answer.step;
      agrees = answer.agrees;
      next = answer.next;
    }

pub returns-in-Ok-None : goal.returns-in-Ok-None
returns-in-Ok-None g c = record {
  does = does_outside _ _ (task_blank c.args.line.now (rw c.in-Ok-None.field-0-is at c.in-Ok-None.ensures));
  agrees = c.requires.agrees;
  next = le-add_right (g.P.PageStore.content c.args.store.now).next 1;
}

pub returns-in-Err : goal.returns-in-Err
returns-in-Err g c = record {
  does = does_outside _ _ (task_outside c.args.line.now c.in-Err.ensures);
  agrees = c.requires.agrees;
  next = le-add_right (g.P.PageStore.content c.args.store.now).next 1;
}
