use Rattle.vm_base.proofs.SearchLaws.{first-below, first-past}
use Rattle.slab.specs.Slab.{get, slab_len}
use Rattle.fault.specs.inside.Pages.{link_numbers}
use Rattle.std.proofs.Common.{arith}
use Rattle.fault.proofs.FindLaws.{next-place, no-place}
use Rattle.fault.proofs.translations.Translations.place_below.Goals as goal

pub returns-in-Some : goal.returns-in-Some
returns-in-Some c =
    rw (← c.self.view_is) (first-below (next-place (link_numbers c.self.inside.places) (link_numbers c.self.inside.lists) (get c.self.inside.links) (slab_len c.self.inside.links) c.self.invariant c.args.root.0 c.args.from c.in-Some.page c.in-Some.ensures.next) c.args.end (omega arith))

pub returns-in_default : goal.returns-in_default
returns-in_default c =
    rw (← c.self.view_is) (first-past (next-place (link_numbers c.self.inside.places) (link_numbers c.self.inside.lists) (get c.self.inside.links) (slab_len c.self.inside.links) c.self.invariant c.args.root.0 c.args.from c.in-Some.page c.in-Some.ensures.next) c.args.end (omega arith))

pub returns-in_default-2 : goal.returns-in_default-2
returns-in_default-2 c =
    rw (← c.self.view_is) (no-place (link_numbers c.self.inside.places) (link_numbers c.self.inside.lists) (get c.self.inside.links) (slab_len c.self.inside.links) c.self.invariant c.args.root.0 c.args.from c.args.end (rw c.in_default.is at c.next.ensures.next))
