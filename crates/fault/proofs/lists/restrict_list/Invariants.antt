use Rattle.std.proofs.Common.{◌≡◌}
use Rattle.slab.specs.Slab.{get, slab_len}
use Rattle.fault.specs.inside.Lists.{shown_in, next_in, steps_from}
use Rattle.fault.proofs.ChangeLaws.{AreRestricted}
use Rattle.fault.proofs.lists.restrict_list.Given as goal

-- the links before this one are restricted
abbrev pub invariant-loop-at : goal.invariant-loop-at
invariant-loop-at l = record {
  restricted : AreRestricted (get l.initial.links) (get l.links) (shown_in (get l.initial.links) l.fn.first) l.at;
  len : slab_len l.links ≡ slab_len l.initial.links;
  capacity : l.links.capacity ≡ l.initial.links.capacity;
}

abbrev pub decreases-loop-at : goal.decreases-loop-at
decreases-loop-at l = steps_from (next_in (get l.initial.links)) (slab_len l.initial.links) l.at
