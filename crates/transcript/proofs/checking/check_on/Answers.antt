use Rattle.transcript.proofs.checking.check_on.Goals as goal

pub read_and_report-status-requires-clause-checked : goal.read_and_report-status-requires-clause-checked
read_and_report-status-requires-clause-checked g c = (c.args.frames, c.new-check.ensures.checked)

pub returns-clause-ends : goal.returns-clause-ends
returns-clause-ends g c = c.read_and_report-status.ensures.ends c.args.frames c.new-check.ensures.checked
