use Rattle.slab.specs.Slab.{get, slab_len}
use Rattle.fault.specs.inside.Pages.{link_numbers}
use Rattle.std.proofs.Common.{◌∙◌}
use Rattle.fault.proofs.LinkLaws.{first-there, nexts-there, links_with, AreLinkedInLists-first, translations-first, AreLinkedInLists-behind, translations-behind}
use Rattle.fault.proofs.FindLaws.{shown-first}
use Rattle.fault.proofs.lists.join.Goals as goal

pub link_behind-link-requires-clause-first : goal.link_behind-link-requires-clause-first
link_behind-link-requires-clause-first c =
    first-there (link_numbers c.args.places.now) (link_numbers c.args.lists.now) (get c.args.links.now) (slab_len c.args.links.now) c.requires.linked c.args.translation.entry.koid.0 c.args.translation.entry.page c.in-Some.first (c.requires.first ∙ c.in-Some.is)

pub link_behind-link-requires-clause-next : goal.link_behind-link-requires-clause-next
link_behind-link-requires-clause-next c = nexts-there (link_numbers c.args.places.now) (link_numbers c.args.lists.now) (get c.args.links.now) (slab_len c.args.links.now) c.requires.linked c.in-Some.first

pub returns-in-Some-clause-linked : goal.returns-in-Some-clause-linked
returns-in-Some-clause-linked c = rw c.link_behind-link.ensures.len (AreLinkedInLists-behind (link_numbers c.args.places.now) (link_numbers c.args.lists.now) (get c.args.links.now) (slab_len c.args.links.now) c.requires.linked c.link_behind-link.result c.link_behind-link.ensures.free c.args.translation c.args.place c.requires.absent
    (link_numbers c.insert.new.self) c.insert.ensures.links c.in-Some.first (c.requires.first ∙ c.in-Some.is)
    (shown-first (link_numbers c.args.places.now) (link_numbers c.args.lists.now) (get c.args.links.now) (slab_len c.args.links.now) c.requires.linked c.args.translation c.in-Some.first (c.requires.first ∙ c.in-Some.is) (rw c.in-Some.is at c.requires.frame))
    (get c.link_behind-link.new.links) c.link_behind-link.ensures.links)

pub returns-in-Some-clause-at : goal.returns-in-Some-clause-at
returns-in-Some-clause-at c =
    translations-behind (link_numbers c.args.places.now) (link_numbers c.args.lists.now) (get c.args.links.now) (slab_len c.args.links.now) c.requires.linked c.link_behind-link.result c.link_behind-link.ensures.free c.args.translation c.args.place c.requires.absent
    (link_numbers c.insert.new.self) c.insert.ensures.links c.in-Some.first (c.requires.first ∙ c.in-Some.is)
    (shown-first (link_numbers c.args.places.now) (link_numbers c.args.lists.now) (get c.args.links.now) (slab_len c.args.links.now) c.requires.linked c.args.translation c.in-Some.first (c.requires.first ∙ c.in-Some.is) (rw c.in-Some.is at c.requires.frame))
    (get c.link_behind-link.new.links) c.link_behind-link.ensures.links

pub returns-in-None-clause-linked : goal.returns-in-None-clause-linked
returns-in-None-clause-linked c = rw c.insert_reserved-link.ensures.len (AreLinkedInLists-first (link_numbers c.args.places.now) (link_numbers c.args.lists.now) (get c.args.links.now) (slab_len c.args.links.now) c.requires.linked c.insert_reserved-link.result c.insert_reserved-link.ensures.was_vacant c.args.translation c.args.place c.requires.absent
    (link_numbers c.insert-in-None-2.new.self) c.insert-in-None-2.ensures.links (c.requires.first ∙ c.in-None.is)
    (get c.insert_reserved-link.new.self) (links_with c.args.links.now c.insert_reserved-link.new.self c.insert_reserved-link.result _ c.insert_reserved-link.ensures.updates)
    (link_numbers c.insert-in-None.new.self) c.insert-in-None.ensures.links)

pub returns-in-None-clause-at : goal.returns-in-None-clause-at
returns-in-None-clause-at c =
    translations-first (link_numbers c.args.places.now) (link_numbers c.args.lists.now) (get c.args.links.now) (slab_len c.args.links.now) c.requires.linked c.insert_reserved-link.result c.insert_reserved-link.ensures.was_vacant c.args.translation c.args.place c.requires.absent
    (link_numbers c.insert-in-None-2.new.self) c.insert-in-None-2.ensures.links (c.requires.first ∙ c.in-None.is)
    (get c.insert_reserved-link.new.self) (links_with c.args.links.now c.insert_reserved-link.new.self c.insert_reserved-link.result _ c.insert_reserved-link.ensures.updates)
    (link_numbers c.insert-in-None.new.self) c.insert-in-None.ensures.links
