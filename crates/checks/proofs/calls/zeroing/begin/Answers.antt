use Rattle.std.proofs.Common.{arith}
use Rattle.checks.proofs.WholeLaws.{fresh_next, whole_made}
use Rattle.checks.proofs.calls.zeroing.begin.Goals as goal

pub create-requires-clause-next : goal.create-requires-clause-next
create-requires-clause-next g c = let first = fresh_next _ _ 64 c.in-Ok.ensures.ok c.requires in omega (arith, first)

pub own_both-requires-clause-vmo : goal.own_both-requires-clause-vmo
own_both-requires-clause-vmo g c = (whole_made _ _ _ 64 c.in-Ok-create.v.0 c.requires c.in-Ok.ensures.ok c.in-Ok-create.ensures.ok c.in-Ok-create.ensures.koid).count

pub own_both-requires-clause-none : goal.own_both-requires-clause-none
own_both-requires-clause-none g c = (whole_made _ _ _ 64 c.in-Ok-create.v.0 c.requires c.in-Ok.ensures.ok c.in-Ok-create.ensures.ok c.in-Ok-create.ensures.koid).none
