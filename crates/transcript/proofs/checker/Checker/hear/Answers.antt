use Rattle.transcript.proofs.CheckLaws.{idle_answered}
use Rattle.transcript.proofs.checker.Checker.hear.Goals as goal

pub returns-in-Idle : goal.returns-in-Idle
returns-in-Idle c = λ frames tells is. idle_answered frames c.args.self.now tells _ is c.requires.filled c.in-Idle.is
