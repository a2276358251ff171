use Rattle.machine.specs.Machine.{state_of}
use Rattle.machine.specs.inside.Fields.{parts_of}
use Rattle.machine.proofs.AnswerLaws.{Answers, answered, same_answered}
use Rattle.machine.proofs.machine.Machine.answer_told.Given as given
use Rattle.machine.proofs.machine.Machine.answer_told.Goals as goal

-- what an access did
accessed : (g : given.Over) (c : goal.After-on_memory g)
    → Answers g.R.ReadyNotes.ready g.R.ReadyNotes.AreTrue (g.P.PageStore.content c.args.pages.now) (parts_of c.self.inside.tables c.self.inside.ready) c.args.call.now c.on_memory.result
    (g.P.PageStore.content c.on_memory.new.pages) (parts_of c.self.inside.tables c.on_memory.new.ready)
accessed g c =
    let sound = rw (← c.self.view_is) at c.requires.sound in
    answered g.R.ReadyNotes.ready g.R.ReadyNotes.AreTrue (g.P.PageStore.content c.args.pages.now) (parts_of c.self.inside.tables c.self.inside.ready) c.args.call.now c.on_memory.result
    (g.P.PageStore.content c.on_memory.new.pages) (parts_of c.self.inside.tables c.on_memory.new.ready) sound c.on_memory.ensures.name c.on_memory.ensures.step c.on_memory.ensures.notes

pub returns-in-Memory-clause-step : goal.returns-in-Memory-clause-step
returns-in-Memory-clause-step g c = rw (← c.self.view_is) (accessed g c).step

pub returns-in-Memory-clause-sound : goal.returns-in-Memory-clause-sound
returns-in-Memory-clause-sound g c = (accessed g c).sound

pub returns-in-Memory-clause-next : goal.returns-in-Memory-clause-next
returns-in-Memory-clause-next g c = (accessed g c).keeps.next

pub returns-in-Memory-clause-frames : goal.returns-in-Memory-clause-frames
returns-in-Memory-clause-frames g c = (accessed g c).keeps.frames

-- what a question about the whole machine answered
asked : (g : given.Over) (c : goal.After-on_machine g)
    → Answers g.R.ReadyNotes.ready g.R.ReadyNotes.AreTrue (g.P.PageStore.content c.args.pages.now) c.args.self.now c.args.call.now c.on_machine.result
    (g.P.PageStore.content c.args.pages.now) c.args.self.now
asked g c =
    let s = state_of (g.P.PageStore.content c.args.pages.now) c.args.self.now in
    same_answered g.R.ReadyNotes.ready g.R.ReadyNotes.AreTrue (g.P.PageStore.content c.args.pages.now) c.args.self.now c.args.call.now c.on_machine.result
    c.requires.sound c.on_machine.ensures.name (c.on_machine.ensures.step s) (c.on_machine.ensures.change s)

pub returns-in-Machine-clause-step : goal.returns-in-Machine-clause-step
returns-in-Machine-clause-step g c = (asked g c).step

pub returns-in-Machine-clause-sound : goal.returns-in-Machine-clause-sound
returns-in-Machine-clause-sound g c = (asked g c).sound

pub returns-in-Machine-clause-next : goal.returns-in-Machine-clause-next
returns-in-Machine-clause-next g c = (asked g c).keeps.next

pub returns-in-Machine-clause-frames : goal.returns-in-Machine-clause-frames
returns-in-Machine-clause-frames g c = (asked g c).keeps.frames
