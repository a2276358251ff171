use Rattle.slab.specs.Slab.{get}
use Rattle.fault.specs.inside.Lists.{to_next}
use Rattle.fault.proofs.LinkLaws.{set-in_slab, set-none}
use Rattle.fault.proofs.lists.set_next.Goals as goal

pub returns-in-Some-clause-links : goal.returns-in-Some-clause-links
returns-in-Some-clause-links c =
    set-in_slab c.args.links.now (to_next c.args.next) c.args.at c.in-Some.at c.index_mut.result.now c.in-Some.is c.index_mut.ensures.value

pub returns-in_default-clause-links : goal.returns-in_default-clause-links
returns-in_default-clause-links c = set-none (to_next c.args.next) (get c.args.links.now) c.args.at c.in_default.is
