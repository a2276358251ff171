use Rattle.std.proofs.Common.{◌≡◌, ◌≤◌}
use Rattle.pair_map.specs.Maps.{extents_of, count_of, spare_of, IsOpen}
use Rattle.mapping_set.specs.inside.Taken.{pieces_in}
use Rattle.mapping_set.proofs.taken.clear_places.Given as goal

abbrev pub invariant-loop-start : goal.invariant-loop-start
invariant-loop-start l = record {
  pieces : pieces_in (extents_of l.taken) ≡ pieces_in (extents_of l.initial.taken);
  same : IsOpen (extents_of l.initial.taken l.list) l.first l.count → extents_of l.taken ≡ extents_of l.initial.taken;
  spare : spare_of l.initial.taken ≤ spare_of l.taken;
}

abbrev pub decreases-loop-start : goal.decreases-loop-start
decreases-loop-start l = count_of l.taken
