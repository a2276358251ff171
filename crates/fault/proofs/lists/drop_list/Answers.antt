use Rattle.slab.specs.Slab.{get, slab_len}
use Rattle.fault.specs.inside.Pages.{link_numbers}
use Rattle.std.proofs.Common.{ℕ, Option, refl, arith, ap, ◌∙◌}
use Rattle.balanced_tree.specs.Pairs.{with_pair}
use Rattle.mapping_set.proofs.TableLaws.{with_pair-same}
use Rattle.fault.specs.Table.{translations_in}
use Rattle.fault.proofs.LinkLaws.{first-there, previous-others, nexts-apart}
use Rattle.fault.proofs.ChangeLaws.{AreDropped-start, AreDropped-next, AreDropped-end, AreLinkedInLists-next, lists-here, place-there, AreLinkedInLists-at}
use Rattle.fault.proofs.lists.drop_list.Goals as goal

pub loop-at-init : goal.loop-at-init
loop-at-init c = record {
  linked = AreLinkedInLists-at (link_numbers c.args.places.now) (link_numbers c.args.lists.now) (get c.args.links.now) (slab_len c.args.links.now) c.args.v.0 c.args.page _ c.requires.linked c.requires.first;
  dropped = AreDropped-start c.args.v.0 c.args.page (translations_in (get c.args.links.now) (link_numbers c.args.places.now));
  room = omega arith;
}

pub unlink-gone-requires-clause-there : goal.unlink-gone-requires-clause-there
unlink-gone-requires-clause-there c =
    first-there (link_numbers c.loop-at.places) (with_pair (link_numbers c.args.lists.now) c.args.v.0 c.args.page c.loop-at.at) (get c.loop-at.links) (slab_len c.loop-at.links) c.loop-at.invariant.linked c.args.v.0 c.args.page c.in-Some.link (lists-here (link_numbers c.loop-at.places) (link_numbers c.args.lists.now) (get c.loop-at.links) (slab_len c.loop-at.links) c.args.v.0 c.args.page c.loop-at.at c.loop-at.invariant.linked c.in-Some.link c.in-Some.is)

pub unlink-gone-requires-clause-previous : goal.unlink-gone-requires-clause-previous
unlink-gone-requires-clause-previous c = previous-others (link_numbers c.loop-at.places) (with_pair (link_numbers c.args.lists.now) c.args.v.0 c.args.page c.loop-at.at) (get c.loop-at.links) (slab_len c.loop-at.links) c.loop-at.invariant.linked c.in-Some.link

pub unlink-gone-requires-clause-next : goal.unlink-gone-requires-clause-next
unlink-gone-requires-clause-next c = nexts-apart (link_numbers c.loop-at.places) (with_pair (link_numbers c.args.lists.now) c.args.v.0 c.args.page c.loop-at.at) (get c.loop-at.links) (slab_len c.loop-at.links) c.loop-at.invariant.linked c.in-Some.link

pub remove-requires : goal.remove-requires
remove-requires c = place-there (link_numbers c.loop-at.places) (link_numbers c.args.lists.now) (get c.loop-at.links) (slab_len c.loop-at.links) c.args.v.0 c.args.page c.loop-at.at c.loop-at.invariant.linked c.in-Some.link c.in-Some.is c.unlink-gone.result c.unlink-gone.ensures.link

pub loop-at-smaller : goal.loop-at-smaller
loop-at-smaller c = omega (arith, c.unlink-gone.ensures.len)

pub loop-at-preserved : goal.loop-at-preserved
loop-at-preserved c = record {
  linked = AreLinkedInLists-next (link_numbers c.loop-at.places) (link_numbers c.args.lists.now) (get c.loop-at.links) (slab_len c.loop-at.links) c.args.v.0 c.args.page c.loop-at.at c.loop-at.invariant.linked c.in-Some.link c.in-Some.is c.unlink-gone.result c.unlink-gone.ensures.link
      (link_numbers c.remove.new.self) c.remove.ensures.links (get c.unlink-gone.new.links) c.unlink-gone.ensures.links (slab_len c.unlink-gone.new.links) c.unlink-gone.ensures.len;
  dropped = AreDropped-next (link_numbers c.loop-at.places) (link_numbers c.args.lists.now) (get c.loop-at.links) (slab_len c.loop-at.links) c.args.v.0 c.args.page c.loop-at.at c.loop-at.invariant.linked c.in-Some.link c.in-Some.is c.unlink-gone.result c.unlink-gone.ensures.link
      (link_numbers c.remove.new.self) c.remove.ensures.links (get c.unlink-gone.new.links) c.unlink-gone.ensures.links (slab_len c.unlink-gone.new.links) c.unlink-gone.ensures.len
      _ c.loop-at.invariant.dropped;
  room = omega (arith, c.loop-at.invariant.room, c.remove.ensures.room, c.unlink-gone.ensures.len, c.unlink-gone.ensures.capacity);
}

pub returns-clause-lists : goal.returns-clause-lists
returns-clause-lists c =
    ap (λ (m : ℕ → ℕ → Option ℕ). m c.args.v.0 c.args.page) c.remove-2.ensures.links ∙ with_pair-same _ c.args.v.0 c.args.page _ c.args.v.0 c.args.page refl refl

pub returns-clause-at : goal.returns-clause-at
returns-clause-at c = AreDropped-end (link_numbers c.loop-at.places) (link_numbers c.args.lists.now) (get c.loop-at.links) (slab_len c.loop-at.links) c.args.v.0 c.args.page c.loop-at.at c.loop-at.invariant.linked c.in_default.is _ c.loop-at.invariant.dropped
