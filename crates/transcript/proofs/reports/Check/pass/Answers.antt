use Rattle.transcript.proofs.CountLaws.{malformed_more, long_told}
use Rattle.transcript.proofs.reports.Check.pass.Goals as goal

pub returns-in-None-clause-checked : goal.returns-in-None-clause-checked
returns-in-None-clause-checked c = λ frames lines line checked long.
    malformed_more frames c.args.self.now c.args.self.now.checker lines line c.in-None.is checked (long_told line long)
