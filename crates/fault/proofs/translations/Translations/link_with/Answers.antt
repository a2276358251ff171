use Rattle.std.proofs.Common.{sym}
use Rattle.slab.specs.Slab.{get}
use Rattle.fault.specs.inside.Pages.{link_numbers}
use Rattle.fault.proofs.LinkLaws.{link-there}
use Rattle.fault.proofs.translations.Translations.link_with.Goals as goal

pub index-requires : goal.index-requires
index-requires c =
    link-there (link_numbers c.self.inside.places) (get c.self.inside.links) c.self.invariant.placed c.args.root.0 c.args.page c.in-Some.at
    (rw (← c.self.view_is) at (sym c.in-Some.ensures))
