use Rattle.vm_model.proofs.StepLaws.{GivesName-from}
use Rattle.vm_model.proofs.MachineLaws.{MachineStep-keeps}
use Rattle.vm_model.proofs.laws.a_step_keeps_the_machine_good.Goals as goal

pub returns-clause-good : goal.returns-clause-good
returns-clause-good c = λ old new command reply good ranges step. (MachineStep-keeps old command reply new good (GivesName-from command ranges) step).good

pub returns-clause-koids : goal.returns-clause-koids
returns-clause-koids c = λ old new command reply good ranges step. (MachineStep-keeps old command reply new good (GivesName-from command ranges) step).next

pub returns-clause-frames : goal.returns-clause-frames
returns-clause-frames c = λ old new command reply good ranges step. (MachineStep-keeps old command reply new good (GivesName-from command ranges) step).frames
