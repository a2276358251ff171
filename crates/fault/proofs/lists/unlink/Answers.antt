use Rattle.std.proofs.Common.{ap, ◌∙◌}
use Rattle.slab.specs.Slab.{get}
use Rattle.fault.specs.inside.Lists.{set_in, to_next, to_previous}
use Rattle.fault.proofs.LinkLaws.{links_without, set-there, there-after, previous-gone, next-gone, unlinked-written}
use Rattle.fault.proofs.lists.unlink.Goals as goal

pub set_next-requires : goal.set_next-requires
set_next-requires c =
    previous-gone (get c.args.links.now) (get c.remove-gone.new.self) c.args.at c.remove-gone.result c.remove-gone.ensures.value
    (links_without c.args.links.now c.remove-gone.new.self c.args.at c.remove-gone.ensures.updates) c.requires.previous

pub set_previous-requires : goal.set_previous-requires
set_previous-requires c =
    let k = c.remove-gone.result in
    there-after (get c.remove-gone.new.self) (get c.set_next.new.links) k.next
    (set-there (to_next k.next) (get c.remove-gone.new.self) (get c.set_next.new.links) k.previous c.set_next.ensures.links)
    (next-gone (get c.args.links.now) (get c.remove-gone.new.self) c.args.at k c.remove-gone.ensures.value
    (links_without c.args.links.now c.remove-gone.new.self c.args.at c.remove-gone.ensures.updates) c.requires.next)

pub returns-clause-links : goal.returns-clause-links
returns-clause-links c =
    let k = c.remove-gone.result in
    c.set_previous.ensures.links
    ∙ ap (set_in (to_previous k.previous) k.next) (c.set_next.ensures.links
    ∙ ap (set_in (to_next k.next) k.previous) (links_without c.args.links.now c.remove-gone.new.self c.args.at c.remove-gone.ensures.updates))
    ∙ unlinked-written (get c.args.links.now) c.args.at k c.remove-gone.ensures.value
