use Rattle.shared_vm.proofs.TaskLaws.{pushed_none}
use Rattle.shared_vm.proofs.scripts.Scripts.add_outside.Goals as goal

pub returns-clause-ok : goal.returns-clause-ok
returns-clause-ok c = pushed_none c.args.self.now c.push.new.self c.push.result c.push.ensures.ok
