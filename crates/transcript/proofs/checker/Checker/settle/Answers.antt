use Rattle.transcript.proofs.CheckLaws.{begins_at, never_at}
use Rattle.transcript.proofs.checker.Checker.settle.Goals as goal

pub returns-in-Begins : goal.returns-in-Begins
returns-in-Begins c = λ frames tells line old some few are filled due heard.
    begins_at frames old c.args.self.now c.in-Begins.runs tells line c.args.heard c.in-Begins.is some few are filled due heard

pub returns-in-Never : goal.returns-in-Never
returns-in-Never c = λ frames tells line old some few are filled due heard.
    never_at frames old c.args.self.now.own c.args.self.now.pending.items tells line c.args.heard c.in-Never.is due heard
