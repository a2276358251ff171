use Rattle.batch_model.proofs.JobLaws.{NoneRefused-from_turns, MachineStep-from_turns}
use Rattle.batch_model.proofs.laws.pieces_are_the_whole.Goals as goal

pub returns-clause-pieces : goal.returns-clause-pieces
returns-clause-pieces c = λ old name job events good there of_pages none run turns. NoneRefused-from_turns name old job events good there of_pages none run turns

pub returns-clause-whole : goal.returns-clause-whole
returns-clause-whole c = λ old name job events good there of_pages none run turns gone. MachineStep-from_turns name old job events good there of_pages none run turns gone
