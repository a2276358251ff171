use Rattle.shared_vm.proofs.TaskLaws.{read_silent, read_loud}
use Rattle.shared_vm.proofs.scripts.Scripts.add_behind.Goals as goal

pub returns-then-says_nothing-clause-ok : goal.returns-then-says_nothing-clause-ok
returns-then-says_nothing-clause-ok c =
    read_silent c.args.self.now c.args.actor c.args.behind.now c.says_nothing.result c.says_nothing.ensures c.if-says_nothing.true

pub returns-clause-ok : goal.returns-clause-ok
returns-clause-ok c =
    read_loud c.args.self.now c.push.new.self c.args.actor c.args.behind.now c.says_nothing.result c.push.result c.requires c.says_nothing.ensures
    c.if-says_nothing.false c.push.ensures.ok
