use Rattle.std.proofs.Common.{sym, ◌∙◌}
use Rattle.transcript.proofs.ReportLaws.{reported, status_either, status_no_read, status_failed}
use Rattle.transcript.proofs.checking.push_report.Goals as goal

pub returns : goal.returns
returns g c = record {
  ends = λ frames source_old source_new done.
      rw c.status_of.ensures (reported frames c.args.check.now c.report.result _ source_old source_new _ _ c.push_all.result (c.report.ensures frames) c.write_report-len.ensures.text c.push_all.ensures.ok c.push_all.ensures.err done);
  no_read = λ e. status_no_read c.push_all.result (sym c.status_of.ensures ∙ e);
  either = rw c.status_of.ensures (status_either c.push_all.result);
  cause = λ e. status_failed c.push_all.result c.push_all.ensures.cause.failed (sym c.status_of.ensures ∙ e);
}
