use Rattle.slab.specs.Slab.{get}
use Rattle.fault.specs.inside.Lists.{to_previous}
use Rattle.fault.proofs.LinkLaws.{set-in_slab, set-none}
use Rattle.fault.proofs.lists.set_previous.Goals as goal

pub returns-in-Some-clause-links : goal.returns-in-Some-clause-links
returns-in-Some-clause-links c =
    set-in_slab c.args.links.now (to_previous c.args.previous) c.args.at c.in-Some.at c.index_mut.result.now c.in-Some.is c.index_mut.ensures.value

pub returns-in_default-clause-links : goal.returns-in_default-clause-links
returns-in_default-clause-links c = set-none (to_previous c.args.previous) (get c.args.links.now) c.args.at c.in_default.is
