use Rattle.slab.specs.Slab.{get, slab_len}
use Rattle.fault.specs.inside.Pages.{link_numbers}
use Rattle.fault.proofs.LinkLaws.{link-there, previous-others, nexts-apart, head-there, AreLinkedInLists-after, translations-left}
use Rattle.fault.proofs.lists.leave.Goals as goal

pub unlink-gone-requires-clause-there : goal.unlink-gone-requires-clause-there
unlink-gone-requires-clause-there c =
    link-there (link_numbers c.args.places.now) (get c.args.links.now) c.requires.linked.placed c.args.root.0 c.args.page c.remove-at.result c.remove-at.ensures.value

pub unlink-gone-requires-clause-previous : goal.unlink-gone-requires-clause-previous
unlink-gone-requires-clause-previous c = previous-others (link_numbers c.args.places.now) (link_numbers c.args.lists.now) (get c.args.links.now) (slab_len c.args.links.now) c.requires.linked c.remove-at.result

pub unlink-gone-requires-clause-next : goal.unlink-gone-requires-clause-next
unlink-gone-requires-clause-next c = nexts-apart (link_numbers c.args.places.now) (link_numbers c.args.lists.now) (get c.args.links.now) (slab_len c.args.links.now) c.requires.linked c.remove-at.result

pub lead_on-requires : goal.lead_on-requires
lead_on-requires c = head-there (link_numbers c.args.places.now) (link_numbers c.args.lists.now) (get c.args.links.now) (slab_len c.args.links.now) c.requires.linked c.remove-at.result c.unlink-gone.result c.unlink-gone.ensures.link

pub returns-clause-linked : goal.returns-clause-linked
returns-clause-linked c =
    AreLinkedInLists-after (link_numbers c.args.places.now) (link_numbers c.args.lists.now) (get c.args.links.now) (slab_len c.args.links.now) c.requires.linked c.remove-at.result c.unlink-gone.result c.unlink-gone.ensures.link
    c.args.root.0 c.args.page c.remove-at.ensures.value (link_numbers c.remove-at.new.self) c.remove-at.ensures.links
    (get c.unlink-gone.new.links) c.unlink-gone.ensures.links (slab_len c.unlink-gone.new.links) c.unlink-gone.ensures.len
    (link_numbers c.lead_on.new.lists) c.lead_on.ensures.lists

pub returns-clause-at : goal.returns-clause-at
returns-clause-at c =
    translations-left (link_numbers c.args.places.now) (link_numbers c.args.lists.now) (get c.args.links.now) (slab_len c.args.links.now) c.requires.linked c.remove-at.result c.unlink-gone.result c.unlink-gone.ensures.link
    c.args.root.0 c.args.page c.remove-at.ensures.value (link_numbers c.remove-at.new.self) c.remove-at.ensures.links
    (get c.unlink-gone.new.links) c.unlink-gone.ensures.links (slab_len c.unlink-gone.new.links) c.unlink-gone.ensures.len
