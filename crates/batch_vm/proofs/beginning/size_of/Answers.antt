use Rattle.vm_core.proofs.AgreeLaws.{agrees_good}
use Rattle.batch_vm.proofs.BatchLaws.{size_same}
use Rattle.batch_vm.proofs.beginning.size_of.Goals as goal

pub returns-clause-same : goal.returns-clause-same
returns-clause-same g c = size_same _ _ _ _ (agrees_good _ _ c.requires.agrees) c.answer.ensures.step
