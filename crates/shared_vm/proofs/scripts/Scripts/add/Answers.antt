use Rattle.shared_vm.proofs.TaskLaws.{line_none, line_words}
use Rattle.shared_vm.proofs.scripts.Scripts.add.Goals as goal

pub returns-in-None-clause-ok : goal.returns-in-None-clause-ok
returns-in-None-clause-ok c = line_none c.args.self.now c.args.line.now c.requires c.in-None.ensures.words

pub returns-in-Some-clause-ok : goal.returns-in-Some-clause-ok
returns-in-Some-clause-ok c =
    line_words c.args.self.now c.add_words.new.self c.args.line.now c.in-Some.word.now c.in-Some.behind.now c.add_words.result c.requires c.in-Some.ensures.words
    c.add_words.ensures.ok
