use Rattle.transcript.proofs.CountLaws.{bad_more}
use Rattle.transcript.proofs.reports.Check.read.Goals as goal

pub returns-in-Some-clause-checked : goal.returns-in-Some-clause-checked
returns-in-Some-clause-checked c = λ frames lines checked. bad_more frames c.args.self.now _ lines c.args.line.now c.in-Some.is checked
