use Rattle.shared_vm.proofs.GatherLaws.{added, counted}
use Rattle.shared_vm.proofs.reading.GatherTurnScriptsUnitUnitHostMemory.take.Goals as goal

pub returns-clause-next : goal.returns-clause-next
returns-clause-next c =
    counted c.args.scripts.now c.add.new.self c.args.line.now c.add.result (added c.args.scripts.now c.add.new.self c.args.line.now c.add.result c.add.ensures.ok)
