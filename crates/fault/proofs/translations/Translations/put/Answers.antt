use Rattle.std.proofs.Common.{Bool, is_some, sym, ap}
use Rattle.slab.specs.Slab.{get, slab_len, with_value}
use Rattle.fault.specs.inside.Pages.{link_numbers}
use Rattle.fault.proofs.FindLaws.{translation-of}
use Rattle.fault.proofs.ForgettingLaws.{entry-same}
use Rattle.fault.proofs.LinkLaws.{link-there, links_written, len-written}
use Rattle.fault.proofs.ChangeLaws.{AreLinkedInLists-put, translations-put, HoldElsewhere-put}
use Rattle.fault.proofs.translations.Translations.put.Goals as goal

pub index_mut-requires : goal.index_mut-requires
index_mut-requires c = link-there (link_numbers c.self.inside.places) (get c.self.inside.links) c.self.invariant.placed c.args.root.0 c.args.page c.args.link (rw (← c.self.view_is) at c.requires.link)

pub invariant_of-self : goal.invariant_of-self
invariant_of-self c =
    let was = translation-of (link_numbers c.self.inside.places) (link_numbers c.self.inside.lists) (get c.self.inside.links) c.args.root.0 c.args.page c.args.link c.index_mut.result.now
    (rw (← c.self.view_is) at c.requires.link) c.index_mut.ensures.value in
    let entry = sym (entry-same _ c.index_mut.result.now.translation c.args.translation.entry was (rw (← c.self.view_is) at c.requires.same)) in
    let written = links_written c.self.inside.links c.args.link _ (ap {B = Bool} is_some c.index_mut.ensures.value) in
    AreLinkedInLists-put (link_numbers c.self.inside.places) (link_numbers c.self.inside.lists) (get c.self.inside.links) (get (with_value c.self.inside.links c.args.link (record c.index_mut.result.now { translation = c.args.translation })))
    (slab_len c.self.inside.links) (slab_len (with_value c.self.inside.links c.args.link (record c.index_mut.result.now { translation = c.args.translation }))) c.self.invariant
    (len-written c.self.inside.links c.args.link _ c.index_mut.result.now c.index_mut.ensures.value)
    c.args.link c.index_mut.result.now c.index_mut.ensures.value c.args.translation entry written (rw (← c.self.view_is) at c.requires.may)

pub returns-clause-at : goal.returns-clause-at
returns-clause-at c =
    let was = translation-of (link_numbers c.self.inside.places) (link_numbers c.self.inside.lists) (get c.self.inside.links) c.args.root.0 c.args.page c.args.link c.index_mut.result.now
    (rw (← c.self.view_is) at c.requires.link) c.index_mut.ensures.value in
    let entry = sym (entry-same _ c.index_mut.result.now.translation c.args.translation.entry was (rw (← c.self.view_is) at c.requires.same)) in
    let written = links_written c.self.inside.links c.args.link _ (ap {B = Bool} is_some c.index_mut.ensures.value) in
    rw (← c.self.view_is) (translations-put (link_numbers c.self.inside.places) (link_numbers c.self.inside.lists) (get c.self.inside.links) (get (with_value c.self.inside.links c.args.link (record c.index_mut.result.now { translation = c.args.translation })))
    (slab_len c.self.inside.links) (slab_len (with_value c.self.inside.links c.args.link (record c.index_mut.result.now { translation = c.args.translation }))) c.self.invariant
    (len-written c.self.inside.links c.args.link _ c.index_mut.result.now c.index_mut.ensures.value)
    c.args.link c.index_mut.result.now c.index_mut.ensures.value c.args.translation entry written
    c.args.root.0 c.args.page (rw (← c.self.view_is) at c.requires.link))

pub returns-clause-others : goal.returns-clause-others
returns-clause-others c =
    let was = translation-of (link_numbers c.self.inside.places) (link_numbers c.self.inside.lists) (get c.self.inside.links) c.args.root.0 c.args.page c.args.link c.index_mut.result.now
    (rw (← c.self.view_is) at c.requires.link) c.index_mut.ensures.value in
    let entry = sym (entry-same _ c.index_mut.result.now.translation c.args.translation.entry was (rw (← c.self.view_is) at c.requires.same)) in
    let written = links_written c.self.inside.links c.args.link _ (ap {B = Bool} is_some c.index_mut.ensures.value) in
    rw (← c.self.view_is) (HoldElsewhere-put (link_numbers c.self.inside.places) (link_numbers c.self.inside.lists) (get c.self.inside.links) (get (with_value c.self.inside.links c.args.link (record c.index_mut.result.now { translation = c.args.translation })))
    (slab_len c.self.inside.links) (slab_len (with_value c.self.inside.links c.args.link (record c.index_mut.result.now { translation = c.args.translation }))) c.self.invariant
    (len-written c.self.inside.links c.args.link _ c.index_mut.result.now c.index_mut.ensures.value)
    c.args.link c.index_mut.result.now c.index_mut.ensures.value c.args.translation entry written
    c.args.root.0 c.args.page (rw (← c.self.view_is) at c.requires.link) (rw (← c.self.view_is) at c.requires.may))
