use Rattle.source_vm.proofs.TableLaws.{pairs-with}
use Rattle.source_vm.proofs.table.enter_backing.Goals as goal

pub returns-clause-backings : goal.returns-clause-backings
returns-clause-backings c = pairs-with _ _ _ _ c.insert.ensures.values
