use Rattle.source_model.proofs.GoodLaws.{SourceStep-keeps}
use Rattle.source_vm.proofs.vm.SourceVm.answer.Goals as goal

pub returns-clause-agrees : goal.returns-clause-agrees
returns-clause-agrees g c = record {
  good = (SourceStep-keeps _ _ _ _ c.requires.agrees.good c.dispatch.ensures.step).good;
  indexed = c.dispatch.ensures.indexed;
}

pub returns-clause-next : goal.returns-clause-next
returns-clause-next g c = (SourceStep-keeps _ _ _ _ c.requires.agrees.good c.dispatch.ensures.step).next
