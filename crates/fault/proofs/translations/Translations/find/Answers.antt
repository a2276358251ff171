use Rattle.std.proofs.Common.{sym}
use Rattle.slab.specs.Slab.{get}
use Rattle.fault.specs.inside.Pages.{link_numbers}
use Rattle.fault.proofs.FindLaws.{translation-of, translation-none}
use Rattle.fault.proofs.LinkLaws.{link-there}
use Rattle.fault.proofs.translations.Translations.find.Goals as goal

pub index-requires : goal.index-requires
index-requires c = link-there (link_numbers c.self.inside.places) (get c.self.inside.links) c.self.invariant.placed c.args.root.0 c.args.page c.in-Some.link (sym c.in-Some.ensures)

pub returns-in-Some : goal.returns-in-Some
returns-in-Some c =
    rw (← c.self.view_is) (translation-of (link_numbers c.self.inside.places) (link_numbers c.self.inside.lists) (get c.self.inside.links) c.args.root.0 c.args.page c.in-Some.link c.index.result.now (sym c.in-Some.ensures) c.index.ensures)

pub returns-in-None : goal.returns-in-None
returns-in-None c = rw (← c.self.view_is) (translation-none (link_numbers c.self.inside.places) (link_numbers c.self.inside.lists) (get c.self.inside.links) c.args.root.0 c.args.page (sym c.in-None.ensures))
