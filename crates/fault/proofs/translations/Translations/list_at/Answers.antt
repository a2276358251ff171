use Rattle.std.proofs.Common.{sym}
use Rattle.slab.specs.Slab.{get, slab_len}
use Rattle.fault.specs.inside.Pages.{link_numbers}
use Rattle.fault.proofs.FindLaws.{list-none, HasFrame-first}
use Rattle.fault.proofs.LinkLaws.{first-there}
use Rattle.fault.proofs.translations.Translations.list_at.Goals as goal

pub index-requires : goal.index-requires
index-requires c = first-there (link_numbers c.self.inside.places) (link_numbers c.self.inside.lists) (get c.self.inside.links) (slab_len c.self.inside.links) c.self.invariant c.args.v.0 c.args.page c.in-Some.first (sym c.in-Some.ensures)

pub returns-in-Some : goal.returns-in-Some
returns-in-Some c =
    rw (← c.self.view_is)
    (sym c.in-Some.ensures, HasFrame-first (link_numbers c.self.inside.places) (link_numbers c.self.inside.lists) (get c.self.inside.links) (slab_len c.self.inside.links) c.self.invariant c.args.v.0 c.args.page c.in-Some.first c.index.result.now (sym c.in-Some.ensures) c.index.ensures)

pub returns-in-None : goal.returns-in-None
returns-in-None c = rw (← c.self.view_is) (sym c.in-None.ensures, list-none (link_numbers c.self.inside.places) (link_numbers c.self.inside.lists) (get c.self.inside.links) (slab_len c.self.inside.links) c.self.invariant c.args.v.0 c.args.page (sym c.in-None.ensures))
