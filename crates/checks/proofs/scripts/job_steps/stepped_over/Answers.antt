use Rattle.std.proofs.Common.{arith}
use Rattle.vm_core.proofs.StartLaws.{filled_fresh}
use Rattle.checks.proofs.scripts.job_steps.stepped_over.Goals as goal

pub step_through-done-requires-clause-agrees : goal.step_through-done-requires-clause-agrees
step_through-done-requires-clause-agrees g c =
    let fresh = filled_fresh c.args.frames _ _ c.in-Ok.ensures.ok c.requires in
    c.new-batch.ensures.agrees _ fresh.0 (omega (arith, fresh.1))

pub step_through-done-requires-clause-next : goal.step_through-done-requires-clause-next
step_through-done-requires-clause-next g c =
    omega (arith, (filled_fresh c.args.frames _ _ c.in-Ok.ensures.ok c.requires).1)
