use Rattle.std.proofs.Common.{◌++◌, [], sym, append_assoc}
use Rattle.script_io.proofs.Moving.{on_err}
use Rattle.shared_vm.specs.Texts.{actor_text}
use Rattle.shared_vm.proofs.PendingLaws.{IsCutOff-more, ok_then, err_then}
use Rattle.shared_vm.proofs.writing.add_line.Goals as goal

pub returns-in_err-add-clause-err : goal.returns-in_err-add-clause-err
returns-in_err-add-clause-err g c =
    on_err c.from_residual.result (IsCutOff-more _ _ (c.args.pending.now ++ actor_text c.args.actor) c.args.line.now _
    (sym (append_assoc c.args.pending.now (actor_text c.args.actor) c.args.line.now)) (rw c.actor_text.ensures.text at c.in_err-add.ensures.err))

pub returns-clause-ok : goal.returns-clause-ok
returns-clause-ok g c =
    ok_then c.add-2.result _ _ _ _ _ _ (actor_text c.args.actor) c.args.line.now (rw c.actor_text.ensures.text at c.in_ok-add.ensures.ok)
    c.add-2.ensures.ok

pub returns-clause-err : goal.returns-clause-err
returns-clause-err g c =
    err_then c.add-2.result _ _ _ _ _ [] (actor_text c.args.actor) c.args.line.now (rw c.actor_text.ensures.text at c.in_ok-add.ensures.ok)
    c.add-2.ensures.err
