use Rattle.shared_vm.specs.inside.TaskPlaces.{task_of_line}
use Rattle.shared_vm.proofs.RoomLaws.{IsRoom-after, TurnsOnce-after, room_left, task_at}
use Rattle.shared_vm.proofs.room.Room.turn.Goals as goal

pub note-requires : goal.note-requires
note-requires g c =
    room_left g.P.PageStore.content _ _ _ c.self.invariant c.args.actor c.requires (task_of_line c.line-line.result.now) (c.answer_to-answer.result)
    c.answer_to-answer.new.vm c.answer_to-answer.new.store
    (task_at c.self.inside.scripts c.args.actor _ _ _ _ c.tasks-tasks.ensures c.of-at.ensures c.line-line.ensures)
    c.answer_to-answer.ensures.does

pub invariant_of-self : goal.invariant_of-self
invariant_of-self g c =
    IsRoom-after g.P.PageStore.content _ _ _ c.self.invariant c.args.actor c.requires (task_of_line c.line-line.result.now) c.answer_to-answer.result
    c.answer_to-answer.new.vm c.answer_to-answer.new.store
    (task_at c.self.inside.scripts c.args.actor _ _ _ _ c.tasks-tasks.ensures c.of-at.ensures c.line-line.ensures)
    c.answer_to-answer.ensures.does _ _ _ c.answer_to-answer.ensures.agrees c.answer_to-answer.ensures.next
    c.note.ensures.deeds c.raised-self-inside.ensures c.note.ensures.spare

pub returns-clause-turns : goal.returns-clause-turns
returns-clause-turns g c =
    rw (← c.self.view_is) (TurnsOnce-after g.P.PageStore.content _ _ _ c.self.invariant c.args.actor c.requires (task_of_line c.line-line.result.now)
    c.answer_to-answer.result c.answer_to-answer.new.vm c.answer_to-answer.new.store
    (task_at c.self.inside.scripts c.args.actor _ _ _ _ c.tasks-tasks.ensures c.of-at.ensures c.line-line.ensures)
    c.answer_to-answer.ensures.does _ c.note.ensures.deeds)

pub returns-clause-legal : goal.returns-clause-legal
returns-clause-legal g c =
    (IsRoom-after g.P.PageStore.content _ _ _ c.self.invariant c.args.actor c.requires (task_of_line c.line-line.result.now) c.answer_to-answer.result
    c.answer_to-answer.new.vm c.answer_to-answer.new.store
    (task_at c.self.inside.scripts c.args.actor _ _ _ _ c.tasks-tasks.ensures c.of-at.ensures c.line-line.ensures)
    c.answer_to-answer.ensures.does _ _ _ c.answer_to-answer.ensures.agrees c.answer_to-answer.ensures.next
    c.note.ensures.deeds c.raised-self-inside.ensures c.note.ensures.spare).legal
