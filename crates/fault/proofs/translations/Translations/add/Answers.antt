use Rattle.slab.specs.Slab.{get, slab_len}
use Rattle.fault.specs.inside.Pages.{link_numbers}
use Rattle.fault.proofs.FindLaws.{link-none, Holds-all}
use Rattle.fault.proofs.translations.Translations.add.Goals as goal

pub join-requires-clause-frame : goal.join-requires-clause-frame
join-requires-clause-frame c =
    Holds-all (link_numbers c.self.inside.places) (link_numbers c.self.inside.lists) (get c.self.inside.links) (slab_len c.self.inside.links) c.self.invariant c.args.translation.entry.koid.0 c.args.translation.entry.page c.args.first c.args.translation.frame
    (rw (← c.self.view_is) at c.requires.first) (rw (← c.self.view_is) at c.requires.frame)

pub join-requires-clause-absent : goal.join-requires-clause-absent
join-requires-clause-absent c = link-none (link_numbers c.self.inside.places) (link_numbers c.self.inside.lists) (get c.self.inside.links) (slab_len c.self.inside.links) c.self.invariant c.args.root.0 c.args.page (rw (← c.self.view_is) at c.requires.absent)
