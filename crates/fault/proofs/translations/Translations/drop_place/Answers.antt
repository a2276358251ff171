use Rattle.slab.specs.Slab.{get, slab_len}
use Rattle.fault.specs.inside.Pages.{link_numbers}
use Rattle.vm_base.proofs.EntryLaws.{some_is}
use Rattle.fault.specs.Table.{translations_in}
use Rattle.fault.specs.inside.Walks.{dropped}
use Rattle.fault.proofs.FindLaws.{place-some}
use Rattle.fault.proofs.PlaceLaws.{changed-place}
use Rattle.fault.proofs.translations.Translations.drop_place.Goals as goal

pub leave-requires-clause-there : goal.leave-requires-clause-there
leave-requires-clause-there c = place-some (link_numbers c.self.inside.places) (link_numbers c.self.inside.lists) (get c.self.inside.links) (slab_len c.self.inside.links) c.self.invariant c.args.root.0 c.args.page (rw (← c.self.view_is) at c.requires)

pub returns-clause-at : goal.returns-clause-at
returns-clause-at c =
    rw (← c.self.view_is) (
    let was = some_is _ (rw (← c.self.view_is) at c.requires) in
    changed-place dropped _ (translations_in (get c.self.inside.links) (link_numbers c.self.inside.places)) c.args.root.0 c.args.page was.0 was.1 c.leave.ensures.at)
