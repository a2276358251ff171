use Rattle.machine.specs.inside.Fields.{state_in, parts_of}
use Rattle.machine.proofs.AnswerLaws.{Answers, change_bounded, command_answered}
use Rattle.machine.proofs.machine.Machine.perform.Given as given
use Rattle.machine.proofs.machine.Machine.perform.Goals as goal

pub on_tables-requires-clause-sound : goal.on_tables-requires-clause-sound
on_tables-requires-clause-sound g c = record { good = (rw (← c.self.view_is) at c.requires.sound).good.state; counted = c.self.invariant }

pub apply-requires : goal.apply-requires
apply-requires g c =
    let does = c.in-Some.ensures.does in record {
      bounded = change_bounded (state_in (g.P.PageStore.content c.args.pages.now) c.self.inside.tables) c.args.call.now c.in-Some.answer
          (state_in (g.P.PageStore.content c.on_tables.new.pages) c.on_tables.new.tables) c.in-Some.change (rw (← c.self.view_is) at c.requires.sound).good.state does.step does.changes;
    }

-- what was done
performed : (g : given.Over) (c : goal.After-apply g)
    → Answers g.R.ReadyNotes.ready g.R.ReadyNotes.AreTrue (g.P.PageStore.content c.args.pages.now) (parts_of c.self.inside.tables c.self.inside.ready) c.args.call.now c.in-Some.answer
    (g.P.PageStore.content c.on_tables.new.pages) (parts_of c.on_tables.new.tables c.apply.new.self)
performed g c =
    let sound = rw (← c.self.view_is) at c.requires.sound in
    let does = c.in-Some.ensures.does in
    command_answered g.R.ReadyNotes.ready g.R.ReadyNotes.AreTrue (g.P.PageStore.content c.args.pages.now) (parts_of c.self.inside.tables c.self.inside.ready) c.args.call.now c.in-Some.answer
    (g.P.PageStore.content c.on_tables.new.pages) (parts_of c.on_tables.new.tables c.apply.new.self) sound does.name c.in-Some.change does.step does.changes c.apply.ensures.left c.apply.ensures.notes

pub returns-in-Some-clause-step : goal.returns-in-Some-clause-step
returns-in-Some-clause-step g c = rw (← c.self.view_is) (performed g c).step

pub returns-in-Some-clause-sound : goal.returns-in-Some-clause-sound
returns-in-Some-clause-sound g c = (performed g c).sound

pub returns-in-Some-clause-next : goal.returns-in-Some-clause-next
returns-in-Some-clause-next g c = (performed g c).keeps.next

pub returns-in-Some-clause-frames : goal.returns-in-Some-clause-frames
returns-in-Some-clause-frames g c = (performed g c).keeps.frames
