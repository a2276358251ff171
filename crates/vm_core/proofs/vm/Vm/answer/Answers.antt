use Rattle.vm_core.proofs.AgreeLaws.{agrees_good}
use Rattle.vm_core.proofs.vm.Vm.answer.Goals as goal

pub answer-requires-clause-sound : goal.answer-requires-clause-sound
answer-requires-clause-sound g c =
    let agrees = rw (← c.self.view_is) at c.requires.agrees in
    record { good = agrees_good (g.P.PageStore.content c.args.store.now) c.self.inside.machine agrees; notes = agrees.translations }
