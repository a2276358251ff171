use Rattle.transcript.proofs.HearLaws.{ends_line_is}
use Rattle.transcript.proofs.lines.ends_line.Goals as goal

pub returns-then-last-eq10 : goal.returns-then-last-eq10
returns-then-last-eq10 c = ends_line_is _ c.in-Some.front.now c.args.line.now c.in-Some.last.now c.eq.result c.in-Some.ensures.cases.0 c.if-last-eq10.true c.eq.ensures
