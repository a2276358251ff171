use Rattle.std.proofs.Common.{sym, ◌∙◌}
use Rattle.vm_model.specs.Language.Reading.{words}
use Rattle.shared_vm.proofs.TaskLaws.{named, comment, unnamed}
use Rattle.shared_vm.proofs.scripts.Scripts.add_words.Goals as goal

pub returns-in-Some-clause-ok : goal.returns-in-Some-clause-ok
returns-in-Some-clause-ok c =
    named c.args.self.now c.add_behind.new.self c.args.word.now (words c.args.behind.now) c.in-Some.actor _ c.add_behind.result c.in-Some.ensures
    c.add_behind.ensures.ok

pub returns-in-None-clause-ok : goal.returns-in-None-clause-ok
returns-in-None-clause-ok c =
    comment c.args.self.now c.args.word.now (words c.args.behind.now) _ c.in-None.ensures (sym c.is_comment.ensures ∙ c.if-is_comment.true)

pub returns-in-None-2-clause-ok : goal.returns-in-None-2-clause-ok
returns-in-None-2-clause-ok c =
    unnamed c.args.self.now c.add_outside.new.self c.args.word.now (words c.args.behind.now) _ c.add_outside.result c.in-None-2.ensures
    (sym c.is_comment.ensures ∙ c.if-is_comment.false) c.add_outside.ensures.ok
