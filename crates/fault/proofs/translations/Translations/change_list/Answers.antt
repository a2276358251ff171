use Rattle.slab.specs.Slab.{get, slab_len}
use Rattle.fault.specs.inside.Pages.{link_numbers}
use Rattle.fault.proofs.ChangeLaws.{AreLinkedInLists-restricted, translations-restricted}
use Rattle.fault.proofs.translations.Translations.change_list.Goals as goal

pub restrict_list-requires : goal.restrict_list-requires
restrict_list-requires c = record {
  lists = link_numbers c.self.inside.lists;
  listed = c.self.invariant.listed;
  v = c.args.v.0;
  p = c.args.page;
  is = rw (← c.self.view_is) at c.requires.first;
}

pub invariant_of-self : goal.invariant_of-self
invariant_of-self c =
    AreLinkedInLists-restricted (link_numbers c.self.inside.places) (link_numbers c.self.inside.lists) (get c.self.inside.links) (get c.restrict_list.new.links)
    (slab_len c.self.inside.links) (slab_len c.restrict_list.new.links) c.self.invariant c.restrict_list.ensures.len
    c.args.v.0 c.args.page c.args.first (rw (← c.self.view_is) at c.requires.first) c.restrict_list.ensures.links

pub returns-in-Restrict-clause-at : goal.returns-in-Restrict-clause-at
returns-in-Restrict-clause-at c =
    rw (c.in-Restrict.is, ← c.self.view_is) (translations-restricted (link_numbers c.self.inside.places) (link_numbers c.self.inside.lists) (get c.self.inside.links) (get c.restrict_list.new.links)
    (slab_len c.self.inside.links) (slab_len c.restrict_list.new.links) c.self.invariant c.restrict_list.ensures.len
    c.args.v.0 c.args.page c.args.first (rw (← c.self.view_is) at c.requires.first) c.restrict_list.ensures.links)
