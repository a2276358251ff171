use Rattle.std.proofs.Common.{refl}
use Rattle.region_tree.proofs.NotedLaws.{AreNoted-gone}
use Rattle.region_ops.proofs.unmapping.free_in_parent.Goals as goal

pub returns-in_default-clause-noted : goal.returns-in_default-clause-noted
returns-in_default-clause-noted c = λ was now n given live dead noted.
    AreNoted-gone was now _ _ n c.args.region given live dead noted (rw c.in_default.is refl)

pub returns-clause-noted : goal.returns-clause-noted
returns-clause-noted c = λ was now n given live dead noted.
    AreNoted-gone was now _ _ n c.args.region given live dead noted (rw c.in-Some.is c.free_place.ensures.places)
