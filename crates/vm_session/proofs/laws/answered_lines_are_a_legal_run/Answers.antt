use Rattle.vm_session.proofs.PlainLaws.{Run-legal}
use Rattle.vm_session.proofs.laws.answered_lines_are_a_legal_run.Goals as goal

pub returns : goal.returns
returns c = Run-legal
