use Rattle.std.proofs.Common.{◌≤◌}
use Rattle.slab.specs.Slab.{get, slab_len}
use Rattle.balanced_tree.specs.Pairs.{with_pair}
use Rattle.fault.specs.inside.Pages.{link_numbers}
use Rattle.fault.specs.Table.{translations_in}
use Rattle.fault.specs.inside.Lists.{AreLinkedInLists, room_in}
use Rattle.fault.proofs.ChangeLaws.{AreDropped}
use Rattle.fault.proofs.lists.drop_list.Given as goal

-- the links that are left are a list, if it begins with the next one
abbrev pub invariant-loop-at : goal.invariant-loop-at
invariant-loop-at l = record {
  linked : AreLinkedInLists (link_numbers l.places) (with_pair (link_numbers l.lists) l.v.0 l.page l.at) (get l.links) (slab_len l.links);
  dropped : AreDropped l.v.0 l.page (translations_in (get l.initial.links) (link_numbers l.initial.places)) (translations_in (get l.links) (link_numbers l.places));
  room : room_in l.initial.places l.lists l.initial.links ≤ room_in l.places l.lists l.links;
}

abbrev pub decreases-loop-at : goal.decreases-loop-at
decreases-loop-at l = slab_len l.links
