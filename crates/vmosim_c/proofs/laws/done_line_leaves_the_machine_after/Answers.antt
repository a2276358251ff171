use Rattle.vmosim_c.proofs.CallLaws.{is_done, is_closed}
use Rattle.vmosim_c.proofs.laws.done_line_leaves_the_machine_after.Goals as goal

pub returns-clause-done : goal.returns-clause-done
returns-clause-done c = is_done _ _ _ _ _ _ c.vmosim_line.ensures

pub returns-clause-closed : goal.returns-clause-closed
returns-clause-closed c = is_closed _ _ _ _ _ _ c.vmosim_line.ensures
