use Rattle.std.proofs.Common.{arith, rules, refl, ap}
use Rattle.vm_model.specs.Contents.Content.{Content}
use Rattle.script_io.specs.Slices.{lent}
use Rattle.script_io.proofs.Lending.{lent_out, lent_bound}
use Rattle.held_vm.specs.Held.{HasKoidLeft}
use Rattle.held_vm.proofs.AnswerLaws.{fits_in, is_longer}
use Rattle.held_vm.proofs.held.answer_over.Goals as goal

pub returns-in-Ok-clause-answers : goal.returns-in-Ok-clause-answers
returns-in-Ok-clause-answers g c =
    let store = g.P.PageStore.content c.args.store.now in
    let holds = g.met.I.Interpreter.holds c.args.interpreter.now store in
    let koid : HasKoidLeft g.I.Interpreter.rules (g.I.Interpreter.state c.args.interpreter.now store) =
    omega (arith, c.if-next_koid-ge-KOIDS.false, c.next_koid.ensures.koid, ap (λ (k : Content). k.next) holds) in
    let s = c.answer_line-pushed.new.sink in
    fits_in g.I.Interpreter.rules c.args.line.now _ _ (lent c.new-reply.result) (lent s) _ koid
    _ c.args.out.now c.new-reply.ensures c.answer_line-pushed.ensures.answer s.out.now s.out.ghost_name _
    refl (lent_out s) (search rules) _ c.taken-len.ensures _ c.in-Ok.is

pub returns-in-Err-clause-answers : goal.returns-in-Err-clause-answers
returns-in-Err-clause-answers g c =
    let store = g.P.PageStore.content c.args.store.now in
    let holds = g.met.I.Interpreter.holds c.args.interpreter.now store in
    let koid : HasKoidLeft g.I.Interpreter.rules (g.I.Interpreter.state c.args.interpreter.now store) =
    omega (arith, c.if-next_koid-ge-KOIDS.false, c.next_koid.ensures.koid, ap (λ (k : Content). k.next) holds) in
    let s = c.answer_line-pushed.new.sink in
    is_longer g.I.Interpreter.rules c.args.line.now _ _ (lent c.new-reply.result) (lent s) _ koid
    _ c.args.out.now c.new-reply.ensures c.answer_line-pushed.ensures.answer s.out.now s.out.ghost_name _
    refl (lent_out s) (search rules) (lent_bound s) _ c.in-Err.is c.answer_line-pushed.ensures.cause
