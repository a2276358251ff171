use Rattle.shared_vm.proofs.GatherLaws.{added-long}
use Rattle.shared_vm.proofs.reading.GatherTurnScriptsUnitUnitHostMemory.pass.Goals as goal

pub returns-clause-taken : goal.returns-clause-taken
returns-clause-taken c = λ line long. added-long c.args.scripts.now c.add_outside.new.self line c.add_outside.result long c.add_outside.ensures.ok
