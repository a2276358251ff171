use Rattle.std.proofs.Common.{[], ap, arith, ◌∙◌, sym}
use Rattle.line_server.specs.Serving.{fresh}
use Rattle.transcript.proofs.ReportLaws.{completes}
use Rattle.transcript.proofs.checking.read_and_report.Goals as goal

pub read_lines-read-requires : goal.read_lines-read-requires
read_lines-read-requires g c =
    let limit = ap (λ r. r.limit) c.requires.fresh in
    let checked = c.requires.checked in
    record {
      fresh = c.requires.fresh ∙ ap fresh (sym limit);
      limit = omega (arith, limit);
      holds = (checked.0, [], checked.1);
      few = omega (arith, c.requires.none);
    }

pub returns-in-Done-clause-ends : goal.returns-in-Done-clause-ends
returns-in-Done-clause-ends g c = λ frames checked.
    c.push_report.ensures.ends frames _ _ (completes c.in-Ok.status frames _ _ _ _ _ c.in-Done.is (ap (λ r. r.limit) c.requires.fresh) checked c.in-Ok.ensures.reads)
