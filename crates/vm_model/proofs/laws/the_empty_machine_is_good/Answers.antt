use Rattle.vm_model.proofs.MachineLaws.{IsGoodMachine-empty}
use Rattle.vm_model.proofs.laws.the_empty_machine_is_good.Goals as goal

pub returns : goal.returns
returns c = IsGoodMachine-empty
