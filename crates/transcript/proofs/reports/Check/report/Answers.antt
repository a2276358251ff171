use Rattle.std.proofs.lemmas.Bool.{both_ways}
use Rattle.transcript.proofs.CountLaws.{missing_report, read_so}
use Rattle.transcript.proofs.reports.Check.report.Goals as goal

pub returns-else-complete : goal.returns-else-complete
returns-else-complete c = λ frames lines checked.
    missing_report frames c.args.self.now lines c.in_default.is checked
    (λ whole. both_ways c.complete.result c.if-complete.false ((c.complete.ensures frames lines (read_so frames c.args.self.now lines checked c.in_default.is)).1 whole))
