use Rattle.moving_model.proofs.MovingLaws.{MovingStep-keeps}
use Rattle.moving_model.proofs.laws.a_step_where_pages_move_keeps_the_machine_good.Goals as goal

pub returns-clause-good : goal.returns-clause-good
returns-clause-good c = λ old new command reply good gives step. (MovingStep-keeps old new command reply good gives step).good

pub returns-clause-koids : goal.returns-clause-koids
returns-clause-koids c = λ old new command reply good gives step. (MovingStep-keeps old new command reply good gives step).next

pub returns-clause-frames : goal.returns-clause-frames
returns-clause-frames c = λ old new command reply good gives step. (MovingStep-keeps old new command reply good gives step).frames
