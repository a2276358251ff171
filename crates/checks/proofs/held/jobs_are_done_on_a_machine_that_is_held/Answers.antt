use Rattle.checks.proofs.held.jobs_are_done_on_a_machine_that_is_held.Goals as goal

pub hold-requires-clause-agrees : goal.hold-requires-clause-agrees
hold-requires-clause-agrees g c = c.new-jobs.ensures.agrees 2
